use Rattle.std.proofs.Common.{◌∷◌, ◌++◌, ◌∙◌, [], ap, sym, append_assoc}
use Rattle.proof_grammar.specs.declared.lines.TextLine.TheVariants as w
use Rattle.tree_checker.specs.Frames.{all_due, due}
use Rattle.tree_checker.proofs.Dues.{all_due_last}
use Rattle.tree_checker.proofs.frames.TreeLines.leave.Goals as goal

pub returns-in-Some-clause-due : goal.returns-in-Some-clause-due
returns-in-Some-clause-due c =
    let end = w.End c.args.self.now.tree.now.conclusion ∷ [] in
    sym (append_assoc (due c.in-Some.frame) (all_due c.pop.new.self) end) ∙ ap (λ z. z ++ end) (sym (ap all_due c.in-Some.ensures ∙ all_due_last c.pop.new.self c.in-Some.frame))
