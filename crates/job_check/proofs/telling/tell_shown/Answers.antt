use Rattle.std.proofs.Common.{length, arith, subst, sym}
use Rattle.elim_laws.specs.Whole.{AreOver}
use Rattle.model_trees.specs.Walk.{point}
use Rattle.model_trees.proofs.Points.{point_given}
use Rattle.job_check.proofs.telling.tell_shown.Goals as goal

pub valid-requires-clause-over : goal.valid-requires-clause-over
valid-requires-clause-over c =
    subst (AreOver (length c.args.problem.now.existentials)) (sym c.in_ok-constraint.ensures)
    (subst (λ n. AreOver n (point c.args.values.now)) c.requires.values (point_given (length c.args.values.now) c.args.values.now (omega arith)).over)
