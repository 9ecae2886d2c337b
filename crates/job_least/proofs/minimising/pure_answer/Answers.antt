use Rattle.form_typed.specs.Formula.{expression}
use Rattle.job_least.proofs.Objectives.{found_so}
use Rattle.job_least.proofs.Stages.{stated_so}
use Rattle.job_least.proofs.Typed.{objective_typed}
use Rattle.job_least.proofs.minimising.pure_answer.Goals as goal

pub objective_answer-requires-clause-ranged : goal.objective_answer-requires-clause-ranged
objective_answer-requires-clause-ranged g c =
    (objective_typed c.args.problem.now c.args.text.now (expression c.in-Some.term) (found_so c.args.problem.now c.args.text.now c.in_ok-term.field-0 c.in-Some.term c.in_ok-term.ensures c.in-Some.is)).0

pub returns-in-Some : goal.returns-in-Some
returns-in-Some g c =
    stated_so c.args.text.now c.args.budget c.args.problem.now (expression c.in-Some.term) (found_so c.args.problem.now c.args.text.now c.in_ok-term.field-0 c.in-Some.term c.in_ok-term.ensures c.in-Some.is)
    c.objective_answer.result c.objective_answer.ensures
