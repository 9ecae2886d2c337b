-- Where a reader of lines stands in a text.
use Rattle.std.specs.Prelude.{ℕ, ◌≡◌, List, [], length, ◌∷◌}
use Rattle.base_budget.specs.declared.log.ElimLog.{ElimLog}
use Rattle.proof_tokens.specs.Reading.{Cuts}
use Rattle.proof_grammar.specs.declared.lines.TextLine.{TextLine}
use Rattle.proof_grammar.specs.declared.lines.TextLine.TheVariants as w
use Rattle.proof_grammar.specs.declared.lines.Owed.{Owed}
use Rattle.proof_grammar.specs.Lines.{tokens_of}
use Rattle.proof_grammar.specs.Owed.{LeadsOwed, Shallow, start, tree_owed}
use Rattle.proof_grammar.specs.Expansion.{expansion, parts_behind}

-- the bytes before `rest` are lines that lead from the start of a text to what is owed there; they have these parts, and this
-- expansion
pub record StandsBefore (parts : List ElimLog) (said : List TextLine) (owed : List Owed) (bytes rest : List ℕ) : Type 0 where
  pub before : List TextLine
  pub leads : LeadsOwed Shallow start before owed
  pub cut : Cuts (tokens_of before) bytes rest
  pub has : parts_behind [] before ≡ parts
  pub is : expansion before ≡ said

-- the reader stands after the opening of a text with these parts, for this many charges
abbrev pub IsOpened : List ElimLog → ℕ → List ℕ → List ℕ → Type 0
IsOpened parts n = StandsBefore parts (w.Head 1 ∷ w.Charges n ∷ []) (tree_owed (length parts))
