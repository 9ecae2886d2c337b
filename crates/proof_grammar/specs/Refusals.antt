-- Where the text of a proof is refused.
use Rattle.std.specs.Prelude.{ℕ, ◌≡◌, ◌<◌, List, [], ◌∷◌, length}
use Rattle.base_limits.specs.Limits.{branch_limit}
use Rattle.proof_tree.specs.declared.node.Conclusion.{Conclusion}
use Rattle.proof_tree.specs.Proof.{Proof}
use Rattle.proof_tokens.specs.Reading.{Cuts, IsFirstProofRefusal}
use Rattle.proof_grammar.specs.declared.lines.TextLine.{TextLine}
use Rattle.proof_grammar.specs.declared.lines.Owed.{Owed}
use Rattle.proof_grammar.specs.declared.lines.Owed.TheVariants as o
use Rattle.proof_grammar.specs.declared.text.Fault.{Fault}
use Rattle.proof_grammar.specs.declared.text.Fault.TheVariants as f
use Rattle.proof_grammar.specs.Faults.{BeginsNode}
use Rattle.proof_grammar.specs.Lines.{tokens_of}
use Rattle.proof_grammar.specs.Owed.{LeadsOwed, OwesNothing, start, Any, Shallow}
use Rattle.proof_grammar.specs.Shaped.{IsTextOfProof}

-- at `back` begins the first node on a level that a text may not have, level 2,001: the lines before it owe it, and their nodes
-- are on levels that it may have
pub record IsDeepAt (bytes back : List ℕ) : Type 0 where
  pub before : List TextLine
  pub level : ℕ
  pub parts : ℕ
  pub owed : List Owed
  pub leads : LeadsOwed Shallow start before (o.Node level parts ∷ owed)
  pub too_deep : branch_limit < level
  pub cut : Cuts (tokens_of before) bytes back
  pub begins : BeginsNode back

-- at `back` stands the first token with which no text of a proof goes on, whatever its levels, or the bytes end there inside
-- a text; and no node begins too deep
pub record IsRefusedText (bytes back : List ℕ) : Type 0 where
  pub first : IsFirstProofRefusal (OwesNothing Any start) tokens_of bytes back
  pub ends : back ≡ [] → (ls : List TextLine) → OwesNothing Any start ls → tokens_of ls ≡ first.front → ⊥
  pub shallow : (deep : List ℕ) → IsDeepAt bytes deep → ⊥

-- what a refusal of a text says: how many bytes stand after the place of the first one
abbrev pub RefusesText : List ℕ → Fault → Type 0
RefusesText bytes (f.Syntax left) = (back : List ℕ) × (length back ≡ left) × IsRefusedText bytes back
RefusesText bytes (f.Deep left) = (back : List ℕ) × (length back ≡ left) × IsDeepAt bytes back
RefusesText bytes f.Memory = Unit {0}

-- the bytes are the text of a proof with these charges
abbrev pub HoldsSome : List ℕ → ℕ → Type 0
HoldsSome bytes charges = (x : Proof) × (c : Conclusion) × IsTextOfProof bytes charges x c
