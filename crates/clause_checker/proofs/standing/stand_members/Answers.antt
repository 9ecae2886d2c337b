use Rattle.std.proofs.Common.{rules, ◌<◌, length}
use Rattle.clause_checker.proofs.Stands.{member_stops}
use Rattle.clause_checker.proofs.standing.stand_members.Goals as goal

pub returns-in_err-stand_at-clause-does : goal.returns-in_err-stand_at-clause-does
returns-in_err-stand_at-clause-does c =
    let lt : c.loop-i.i < length c.args.fs.now = search rules in
    member_stops _ _ _ c.args.fs.now c.args.ts.now c.args.literals.now c.loop-i.i _ _ _ lt c.loop-i.invariant.left c.from_residual.ensures.1 c.in_err-stand_at.ensures.does
