use Rattle.std.proofs.Common.{refl}
use Rattle.proof_grammar.specs.declared.lines.TextLine.TheVariants as w
use Rattle.tree_checker.proofs.frames.TreeLines.end.Goals as goal

pub returns-in-Some-clause-told : goal.returns-in-Some-clause-told
returns-in-Some-clause-told c = λ k. rw (c.in-Some.is, c.requires) (w.Log c.in-Some.log.now, refl, refl)

pub returns-in_ok-gives-in-None-clause-told : goal.returns-in_ok-gives-in-None-clause-told
returns-in_ok-gives-in-None-clause-told c = λ k. rw (c.in-None.is, c.leave.ensures.due) (w.Gives c.args.frame.gives.now, c.in_ok-gives-in-None.ensures, refl)
