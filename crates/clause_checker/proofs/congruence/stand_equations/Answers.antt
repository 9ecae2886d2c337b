use Rattle.std.proofs.Common.{rules, ◌<◌, length}
use Rattle.clause_checker.proofs.Pairs.{equation_stops}
use Rattle.clause_checker.proofs.congruence.stand_equations.Goals as goal

pub returns-in_err-stand_equation_at-clause-does : goal.returns-in_err-stand_equation_at-clause-does
returns-in_err-stand_equation_at-clause-does c =
    let lt : c.loop-i.i < length c.args.ss.now = search rules in
    equation_stops _ _ _ c.args.ss.now c.args.ts.now c.args.literals.now c.loop-i.i _ _ _ c.requires lt c.loop-i.invariant.left c.from_residual.ensures.1 c.in_err-stand_equation_at.ensures.does
