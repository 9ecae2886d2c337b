use Rattle.std.proofs.Common.{ℕ, ◌^◌, Ok, Err}
use Rattle.base_budget.specs.Trace.{Funds}
use Rattle.quant_elim.proofs.Budgets.{below_budget}
use Rattle.job_least.specs.Leasts.{AnswersMinimum, constraint_of}
use Rattle.job_least.proofs.Stages.{constraint_over, constraint_work, cut_elimination, gave}
use Rattle.job_least.proofs.minimising.constraint_answer.Goals as goal

abbrev start : ℕ → Funds
start budget = record { budget = budget; spent = 0 }

pub minimum_answer-requires-clause-constraint : goal.minimum_answer-requires-clause-constraint
minimum_answer-requires-clause-constraint g c = constraint_over c.args.problem.now c.args.encoded.now c.in-Ok.constraint c.requires.encoded c.requires.pure c.in-Ok.ensures.over

pub minimum_answer-requires-clause-budget : goal.minimum_answer-requires-clause-budget
minimum_answer-requires-clause-budget g c = below_budget (2 ^ 32) c.in-Ok.ensures.charged (rw c.new-purse.ensures c.requires.budget)

pub returns-in-Ok : goal.returns-in-Ok
returns-in-Ok g c =
    let did = constraint_work c.args.problem.now c.args.encoded.now c.requires.encoded _ (start c.args.budget) _ c.new-purse.ensures (Ok (c.in-Ok.constraint, c.in-Ok._log)) c.in-Ok.ensures.charged in
    gave (AnswersMinimum c.args.problem.now c.args.t.now) (constraint_of c.args.problem.now) (start c.args.budget) c.in-Ok.constraint _ did c.minimum_answer.result c.minimum_answer.ensures

pub returns-in-Err : goal.returns-in-Err
returns-in-Err g c =
    let did = constraint_work c.args.problem.now c.args.encoded.now c.requires.encoded _ (start c.args.budget) _ c.new-purse.ensures (Err c.in-Err.fault) c.in-Err.ensures.charged in
    cut_elimination (AnswersMinimum c.args.problem.now c.args.t.now) (constraint_of c.args.problem.now) (start c.args.budget) c.eliminate-eliminated.new.purse c.in-Err.fault did c.cut_answer.result c.cut_answer.ensures
