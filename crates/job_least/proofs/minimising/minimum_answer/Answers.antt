use Rattle.std.proofs.Common.{◌≡◌, length, Err, subst}
use Rattle.base_budget.specs.Trace.{Funds, at}
use Rattle.base_answers.specs.Answer.{Answer}
use Rattle.pri_typing.specs.declared.problem.Problem.{Problem}
use Rattle.optimiser.specs.Least.{Minimum, minimising}
use Rattle.optimiser.specs.Answers.{Minimises, minimum_of}
use Rattle.job_least.specs.Leasts.{minimum_answer}
use Rattle.job_least.proofs.Stages.{cut_minimum, gave}
use Rattle.job_least.proofs.minimising.minimum_answer.Goals as goal

abbrev tells : Problem → Minimum → Funds → Answer → Type 0
tells p m funds answer = answer ≡ minimum_answer p m

pub returns-in-Ok : goal.returns-in-Ok
returns-in-Ok g c =
    let did = rw c.len-names.ensures at c.in-Ok.ensures.charged in
    gave (tells c.args.problem.now) (minimising (length c.args.problem.now.existentials) c.args.d.now c.args.t.now) c.args.purse.now (minimum_of c.in-Ok.found) (at c.least-found.new.purse did.1.notes) did.1.charged c.told.result c.told.ensures

pub returns-in-Err : goal.returns-in-Err
returns-in-Err g c =
    let did = subst (λ n. Minimises (minimising n c.args.d.now c.args.t.now) c.args.purse.now (Err c.in-Err.fault) c.least-found.new.purse) c.len-names.ensures c.in-Err.ensures.charged in
    cut_minimum (tells c.args.problem.now) (minimising (length c.args.problem.now.existentials) c.args.d.now c.args.t.now) c.args.purse.now c.least-found.new.purse c.in-Err.fault did c.cut_answer.result c.cut_answer.ensures
