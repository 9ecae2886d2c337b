-- The lines of a tree that are still to come.
use Rattle.std.specs.Prelude.{◌≡◌, List, [], ◌∷◌, ◌++◌, map, Option, None, Some}
use Rattle.std.specs.Option.{option_copied}
use Rattle.clause_set.specs.declared.literal.Literal.{Literal}
use Rattle.proof_file.specs.Told.{TellsLine}
use Rattle.proof_file.specs.declared.source.Line.{Line}
use Rattle.proof_tree.specs.declared.node.Conclusion.{Conclusion}
use Rattle.proof_tree.specs.declared.node.Tree.{Tree}
use Rattle.proof_tree.specs.Proof.{Proof, node, proofs}
use Rattle.proof_tree.specs.Views.{proof_of}
use Rattle.proof_tree.specs.Walk.{width}
use Rattle.base_budget.specs.declared.log.ElimLog.{ElimLog}
use Rattle.proof_grammar.specs.Lines.{last_lines}
use Rattle.proof_grammar.specs.declared.lines.TextLine.{TextLine}
use Rattle.proof_grammar.specs.declared.lines.TextLine.TheVariants as w
use Rattle.tree_checker.specs.Told.{told_all, told_lines, told_width}
use Rattle.tree_checker.specs.declared.frames.Frame.{Frame}
use Rattle.tree_checker.specs.declared.frames.Stage.{Stage}
use Rattle.tree_checker.specs.declared.frames.Stage.TheVariants.{Root, Within, End, Done}

-- the row of a node, and the lines below it
abbrev pub row_line : Proof → TextLine
row_line (node p ns es d) = w.Row p (told_width p (width ns) es)

abbrev pub below : Proof → List TextLine
below (node p ns es d) = told_all ns ++ last_lines p es d

-- the log of a node, if one is still to come, and its constraint
abbrev pub ends : Option ElimLog → List (List Literal) → List TextLine
ends (Some log) d = w.Log log ∷ w.Gives d ∷ []
ends None d = w.Gives d ∷ []

-- what is still to come of a node: trees of its premises, and then its ends
abbrev pub due : Frame → List TextLine
due f = told_all (proofs (map proof_of f.rest.now)) ++ ends (option_copied f.log) f.gives.now

-- the same of nodes that lie in one another, the innermost one last
abbrev pub all_due : List Frame → List TextLine
all_due [] = []
all_due (f ∷ fs) = all_due fs ++ due f

-- what is still to come of a tree
abbrev pub still_due : Stage → Tree → List Frame → List TextLine
still_due Root t fs = told_lines (proof_of t.root) ++ (all_due fs ++ w.End t.conclusion ∷ [])
still_due (Within f) t fs = due f ++ (all_due fs ++ w.End t.conclusion ∷ [])
still_due End t fs = w.End t.conclusion ∷ []
still_due Done t fs = []

-- the line that was told came first of those that were due, and the others are due
abbrev pub IsLineTold : List TextLine → Option Line → ElimLog → Conclusion → List TextLine → Type 0
IsLineTold before x log c after = (l : TextLine) × TellsLine x log c l × (before ≡ l ∷ after)
