-- A run that is cut is told so.
use Rattle.std.proofs.Common.{◌∙◌, ap, subst}
use Rattle.base_answers.specs.Answer.{unknown_answer}
use Rattle.job_parts.specs.Parts.{IsCutBy}
use Rattle.job_solve.specs.Solved.{run_end}
use Rattle.job_solve.specs.Within.{RunsTo}
use Rattle.job_solve.proofs.Outcomes.{unknown_told}
use Rattle.job_solve.proofs.Printing.{alone_as, if_ok, unknown_part}
use Rattle.job_solve.proofs.solving.run_answer.Goals as goal

pub returns-in-Cut : goal.returns-in-Cut
returns-in-Cut g c =
    let p = c.args.problem.now in
    let y = c.in-Cut.why in
    let k : IsCutBy y (run_end c.args.budget p) = subst (RunsTo c.args.asked c.args.budget c.args.budget p) c.in-Cut.is c.in_ok-output.ensures in
    alone_as c.args.asked c.args.budget p c.unknown.result (unknown_part c.args.asked c.args.budget p y k)
    (if_ok c.unknown.result (λ a is. unknown_told c.args.budget p y a k (is ∙ ap unknown_answer c.cause.ensures)) c.unknown.ensures)
