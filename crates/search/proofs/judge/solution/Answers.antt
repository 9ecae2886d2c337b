use Rattle.std.proofs.Common.{ap, Ok}
use Rattle.search.proofs.Solving.{solution_err, solution_ok}
use Rattle.search.proofs.judge.solution.Goals as goal

pub returns-in-Ok : goal.returns-in-Ok
returns-in-Ok c = solution_ok c.args.constants c.args.d.now c.in-Ok.solved c.in-Ok.ensures.charged (λ log is. c.in-Ok.ensures.log log (ap Ok is)) c.begin_log.ensures

pub returns-in-Err : goal.returns-in-Err
returns-in-Err c = solution_err c.args.constants c.args.d.now c.begin_log.new.self c.in-Err.fault c.in-Err.ensures.charged c.begin_log.ensures c.cut.ensures.cause c.cut.ensures.place
