use Rattle.std.proofs.Common.{ℕ, [], Ok, Err}
use Rattle.base_budget.specs.Trace.{Funds, at}
use Rattle.base_budget.specs.declared.fault.StepFault.TheVariants as step_fault
use Rattle.form_typed.specs.Formula.{expression}
use Rattle.job_least.specs.Leasts.{AnswersConstraint, objective_of}
use Rattle.job_least.proofs.Stages.{gave, left, objective_over, objective_work, ran_out}
use Rattle.job_least.proofs.minimising.encoded_answer.Goals as goal

abbrev start : ℕ → Funds
start budget = record { budget = budget; spent = 0 }

pub constraint_answer-requires-clause-over : goal.constraint_answer-requires-clause-over
constraint_answer-requires-clause-over g c =
    objective_over c.args.problem.now (expression c.args.term.now) c.in-Ok.t c.requires.plain (objective_work c.args.problem.now c.args.encoded.now (expression c.args.term.now) (Ok c.in-Ok.t) c.requires.encoded c.in-Ok.ensures)

pub returns-in-Ok : goal.returns-in-Ok
returns-in-Ok g c =
    let x = expression c.args.term.now in
    let did = objective_work c.args.problem.now c.args.encoded.now x (Ok c.in-Ok.t) c.requires.encoded c.in-Ok.ensures in
    let begins = at (start c.args.budget) [] in
    gave (AnswersConstraint c.args.problem.now) (objective_of c.args.problem.now x) (start c.args.budget) c.in-Ok.t begins (did.each begins) c.constraint_answer.result c.constraint_answer.ensures

pub returns-in-Err-Steps : goal.returns-in-Err-Steps
returns-in-Err-Steps g c =
    let x = expression c.args.term.now in
    let did = objective_work c.args.problem.now c.args.encoded.now x (Err step_fault.Steps) c.requires.encoded (rw c.in-Err-Steps.field-0-is at c.in-Err-Steps.ensures) in
    let begins = at (start c.args.budget) [] in
    ran_out (AnswersConstraint c.args.problem.now) (objective_of c.args.problem.now x) (start c.args.budget) begins (did.each begins) c.unknown.result c.unknown.ensures

pub returns-in-Err-Overflow : goal.returns-in-Err-Overflow
returns-in-Err-Overflow g c =
    let x = expression c.args.term.now in
    let place = c.in-Err-Overflow.field-0-0 in
    let did = objective_work c.args.problem.now c.args.encoded.now x (Err (step_fault.Overflow place)) c.requires.encoded (rw c.in-Err-Overflow.field-0-is at c.in-Err-Overflow.ensures) in
    let begins = at (start c.args.budget) [] in
    left (AnswersConstraint c.args.problem.now) (objective_of c.args.problem.now x) (start c.args.budget) place begins (did.each begins) c.unknown-in-Err-Overflow.result c.unknown-in-Err-Overflow.ensures
