use Rattle.std.proofs.Common.{arith}
use Rattle.formula.specs.Tree.{form}
use Rattle.job_seeking.proofs.Seeking.{nowhere_over, nowhere_room, proved_nowhere}
use Rattle.job_seeking.proofs.denying.is_denied.Goals as goal

pub check_clauses-requires-clause-room : goal.check_clauses-requires-clause-room
check_clauses-requires-clause-room c =
    let room = nowhere_room c.args.problem.now c.args.encoded.now (form c.args.negation.now) c.requires.well_formed c.requires.encoded c.requires.denial in
    omega (arith, room)

pub check_clauses-requires-clause-over : goal.check_clauses-requires-clause-over
check_clauses-requires-clause-over c = nowhere_over c.args.problem.now (form c.args.negation.now) c.requires.well_formed c.requires.denial

pub returns-in-Ok : goal.returns-in-Ok
returns-in-Ok c = λ _.
    proved_nowhere c.args.problem.now (form c.args.negation.now) c.args.text.now _ c.requires.well_formed c.requires.pure c.requires.denial c.in-Ok.ensures.proof c.in-Ok.ensures.truth
