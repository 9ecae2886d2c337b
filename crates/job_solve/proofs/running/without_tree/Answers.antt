use Rattle.std.proofs.Common.{◌^◌, Ok, length, None, refl, ◌∙◌, ap, subst, arith}
use Rattle.formula.specs.Tree.{form}
use Rattle.search.specs.declared.judge.Decided.TheVariants.{Valid, Invalid, Unknown}
use Rattle.search.specs.declared.judge.Outcome.TheVariants as outcome
use Rattle.base_answers.specs.Answer.{answer_of}
use Rattle.pri_problem.proofs.Sizes.{searchable}
use Rattle.job_solve.specs.Told.{IsValidTold}
use Rattle.job_solve.proofs.Outcomes.{cut_by, decided_at, fitting, invalid_told, run_below, start, valid_holds, valid_told}
use Rattle.job_solve.proofs.Printing.{alone_as}
use Rattle.job_solve.proofs.Raising.{decision_raised_at}
use Rattle.job_solve.proofs.running.without_tree.Goals as goal

pub decide-requires-clause-searchable : goal.decide-requires-clause-searchable
decide-requires-clause-searchable g c = searchable c.args.problem.now c.args.encoded.now c.requires.well_formed c.requires.encoded

pub valid-requires-clause-over : goal.valid-requires-clause-over
valid-requires-clause-over g c =
    let k = decision_raised_at (form c.args.encoded.now.root) c.args.encoded.now.constants c.args.limit c.args.budget _ c.decide.new.purse c.with_budget-purse.result c.in_ok-decided.decided (Valid c.in-Valid.constraint c.in-Valid.solution) c.requires.limit c.with_budget-purse.ensures.within c.new-part.ensures c.with_budget-purse.ensures.is c.in_ok-decided.ensures c.in-Valid.is tt in
    (fitting c.args.budget c.args.problem.now c.args.encoded.now c.requires.encoded c.in-Valid.constraint c.in-Valid.solution k.0 c.with_budget-purse.result k.1).0

pub valid-requires-clause-holds : goal.valid-requires-clause-holds
valid-requires-clause-holds g c =
    let k = decision_raised_at (form c.args.encoded.now.root) c.args.encoded.now.constants c.args.limit c.args.budget _ c.decide.new.purse c.with_budget-purse.result c.in_ok-decided.decided (Valid c.in-Valid.constraint c.in-Valid.solution) c.requires.limit c.with_budget-purse.ensures.within c.new-part.ensures c.with_budget-purse.ensures.is c.in_ok-decided.ensures c.in-Valid.is tt in
    valid_holds c.args.budget c.args.problem.now c.args.encoded.now c.requires.encoded c.requires.well_formed c.in-Valid.constraint c.in-Valid.solution k.0 c.with_budget-purse.result k.1

pub valid-requires-clause-values : goal.valid-requires-clause-values
valid-requires-clause-values g c =
    let k = decision_raised_at (form c.args.encoded.now.root) c.args.encoded.now.constants c.args.limit c.args.budget _ c.decide.new.purse c.with_budget-purse.result c.in_ok-decided.decided (Valid c.in-Valid.constraint c.in-Valid.solution) c.requires.limit c.with_budget-purse.ensures.within c.new-part.ensures c.with_budget-purse.ensures.is c.in_ok-decided.ensures c.in-Valid.is tt in
    ap length c.as_slice.ensures ∙ (fitting c.args.budget c.args.problem.now c.args.encoded.now c.requires.encoded c.in-Valid.constraint c.in-Valid.solution k.0 c.with_budget-purse.result k.1).1

pub valid-requires-clause-budget : goal.valid-requires-clause-budget
valid-requires-clause-budget g c =
    let k = decision_raised_at (form c.args.encoded.now.root) c.args.encoded.now.constants c.args.limit c.args.budget _ c.decide.new.purse c.with_budget-purse.result c.in_ok-decided.decided (Valid c.in-Valid.constraint c.in-Valid.solution) c.requires.limit c.with_budget-purse.ensures.within c.new-part.ensures c.with_budget-purse.ensures.is c.in_ok-decided.ensures c.in-Valid.is tt in
    run_below (form c.args.encoded.now.root) c.args.encoded.now.constants c.args.budget (2 ^ 32) (outcome.Valid c.in-Valid.constraint c.in-Valid.solution k.0) c.with_budget-purse.result k.1 (let most = c.requires.budget in omega (arith, most))

pub returns-in-Valid : goal.returns-in-Valid
returns-in-Valid g c =
    let p = c.args.problem.now in
    let new = c.with_budget-purse.result in
    let k = decision_raised_at (form c.args.encoded.now.root) c.args.encoded.now.constants c.args.limit c.args.budget _ c.decide.new.purse c.with_budget-purse.result c.in_ok-decided.decided (Valid c.in-Valid.constraint c.in-Valid.solution) c.requires.limit c.with_budget-purse.ensures.within c.new-part.ensures c.with_budget-purse.ensures.is c.in_ok-decided.ensures c.in-Valid.is tt in
    let output = c.in_ok-output-in-Valid.output in
    alone_as None c.args.budget p (Ok output) refl
    (valid_told c.args.budget p c.args.encoded.now c.requires.encoded c.in-Valid.constraint c.in-Valid.solution k.0 new (answer_of output) k.1 (subst (λ vs. IsValidTold p new c.in-Valid.constraint vs (answer_of output)) c.as_slice.ensures c.in_ok-output-in-Valid.ensures))

pub returns-in-Invalid : goal.returns-in-Invalid
returns-in-Invalid g c =
    let p = c.args.problem.now in
    let new = c.with_budget-purse.result in
    let k = decision_raised_at (form c.args.encoded.now.root) c.args.encoded.now.constants c.args.limit c.args.budget _ c.decide.new.purse c.with_budget-purse.result c.in_ok-decided.decided (Invalid c.in-Invalid.constraint) c.requires.limit c.with_budget-purse.ensures.within c.new-part.ensures c.with_budget-purse.ensures.is c.in_ok-decided.ensures c.in-Invalid.is tt in
    let output = c.in_ok-output-in-Invalid.output in
    alone_as None c.args.budget p (Ok output) refl
    (invalid_told c.args.budget p c.args.encoded.now c.requires.encoded c.in-Invalid.constraint k.0 new (answer_of output) k.1 c.in_ok-output-in-Invalid.ensures)

pub returns : goal.returns
returns g c =
    let k = decided_at (form c.args.encoded.now.root) c.args.encoded.now.constants _ (start c.args.limit) c.decide.new.purse c.in_ok-decided.decided (Unknown c.in-Unknown.why c.in-Unknown.run') c.new-part.ensures c.in_ok-decided.ensures c.in-Unknown.is in
    cut_by c.args.limit c.args.problem.now c.args.encoded.now c.requires.encoded c.in-Unknown.why c.in-Unknown.run' c.decide.new.purse k
