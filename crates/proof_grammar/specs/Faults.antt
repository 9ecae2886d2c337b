-- Where a line of a text is refused.
use Rattle.std.specs.Prelude.{ℕ, ◌≡◌, ◌≤◌, ◌<◌, List, [], ◌∷◌, length}
use Rattle.base_limits.specs.Limits.{branch_limit}
use Rattle.proof_tokens.specs.declared.tokens.Token.{Token}
use Rattle.proof_tokens.specs.declared.reading.Refusal.{Refusal}
use Rattle.proof_tokens.specs.declared.reading.Refusal.TheVariants as e
use Rattle.proof_tokens.specs.Reading.{Cuts, IsRefusedAt}
use Rattle.proof_grammar.specs.declared.lines.Owed.{Owed}
use Rattle.proof_grammar.specs.declared.lines.Owed.TheVariants as o
use Rattle.proof_grammar.specs.declared.text.Fault.{Fault}
use Rattle.proof_grammar.specs.declared.text.Fault.TheVariants as f
use Rattle.proof_grammar.specs.Lines.{line_text}
use Rattle.proof_grammar.specs.Owed.{Pays, Any}
use Rattle.proof_grammar.specs.Rows.{IsRowWord}

abbrev pub fault_of : Refusal → Fault
fault_of (e.Syntax left) = f.Syntax left
fault_of e.Memory = f.Memory

-- the word of a rule comes next
pub record BeginsNode (bytes : List ℕ) : Type 0 where
  pub word : Token
  pub rest : List ℕ
  pub comes : Cuts (word ∷ []) bytes rest
  pub is_row : IsRowWord word

-- no node begins on a level that a text may not have
abbrev pub HasNoDeepNode : Owed → List ℕ → Type 0
HasNoDeepNode (o.Node j m) bytes = BeginsNode bytes → j ≤ branch_limit
HasNoDeepNode _ bytes = Unit {0}

-- a node begins on such a level
abbrev pub IsTooDeep : Owed → List ℕ → Type 0
IsTooDeep (o.Node j m) bytes = (branch_limit < j) × BeginsNode bytes
IsTooDeep _ bytes = ⊥

-- what is owed is refused where no line that pays for it goes on, whatever the level; or where a node would stand too deep
abbrev pub RefusesLine : Owed → List ℕ → Fault → Type 0
RefusesLine owed bytes (f.Syntax left) = IsRefusedAt (Pays Any owed) line_text bytes left × HasNoDeepNode owed bytes
RefusesLine owed bytes (f.Deep left) = IsTooDeep owed bytes × (length bytes ≡ left)
RefusesLine owed bytes f.Memory = Unit {0}
