-- What the lines of a text mean: each use of a part stands for the entries of that part.
use Rattle.std.specs.Prelude.{ℕ, List, [], ◌∷◌, ◌++◌, get_or}
use Rattle.base_budget.specs.declared.log.ElimLog.{ElimLog}
use Rattle.proof_tree.specs.declared.node.Conclusion.TheVariants.{Nothing}
use Rattle.proof_grammar.specs.declared.lines.TextLine.{TextLine}
use Rattle.proof_grammar.specs.declared.lines.TextLine.TheVariants as w

-- the part with this number, from 0 on
abbrev pub part_at : List ElimLog → ℕ → ElimLog
part_at ps i = get_or ps i (record { entries = [] })

-- the lines of the first format that lines mean after these parts: the parts that come are added to them
abbrev pub expanded : List ElimLog → List TextLine → List TextLine
expanded ps [] = []
expanded ps (w.Head n ∷ ls) = w.Head 1 ∷ expanded ps ls
expanded ps (w.Parts n ∷ ls) = expanded ps ls
expanded ps (w.Part log ∷ ls) = expanded (ps ++ log ∷ []) ls
expanded ps (w.LogOf i ∷ ls) = w.Log (part_at ps i) ∷ expanded ps ls
expanded ps (w.EndOf i ∷ ls) = w.End (Nothing (part_at ps i)) ∷ expanded ps ls
expanded ps (l ∷ ls) = l ∷ expanded ps ls

-- the expansion of the lines of a text
abbrev pub expansion : List TextLine → List TextLine
expansion = expanded []

-- the parts after lines
abbrev pub parts_behind : List ElimLog → List TextLine → List ElimLog
parts_behind ps [] = ps
parts_behind ps (w.Part log ∷ ls) = parts_behind (ps ++ log ∷ []) ls
parts_behind ps (l ∷ ls) = parts_behind ps ls
