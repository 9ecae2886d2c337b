use Rattle.std.proofs.Common.{◌^◌, Ok, length, refl, ◌∙◌, ap, subst, arith}
use Rattle.formula.specs.Tree.{form}
use Rattle.proof_tree.specs.Views.{proof_of}
use Rattle.search.specs.declared.judge.Outcome.TheVariants.{Valid, Invalid, Saturated, Unknown}
use Rattle.form_encoding.proofs.Problems.{root_over}
use Rattle.base_answers.specs.Answer.{answer_of}
use Rattle.pri_problem.proofs.Sizes.{searchable}
use Rattle.job_solve.specs.Told.{IsValidTold}
use Rattle.job_solve.proofs.Outcomes.{cut_by, ends_at, fitting, invalid_told, run_below, saturated_end, saturated_told, start, valid_holds, valid_told}
use Rattle.job_solve.proofs.Printing.{alone_as, invalid_part_told, invalid_printable, proved_as, saturated_part, valid_part_told, valid_printable}
use Rattle.job_solve.proofs.Raising.{raised_at}
use Rattle.job_solve.proofs.Refuted.{levels_are, saturated_is}
use Rattle.job_solve.proofs.running.with_tree.Goals as goal

pub prove-requires-clause-searchable : goal.prove-requires-clause-searchable
prove-requires-clause-searchable g c = searchable c.args.problem.now c.args.encoded.now c.requires.well_formed c.requires.encoded

pub valid-requires-clause-over : goal.valid-requires-clause-over
valid-requires-clause-over g c =
    let k = raised_at (form c.args.encoded.now.root) c.args.encoded.now.constants c.args.limit c.args.budget _ c.prove.new.purse c.with_budget-purse.result c.in_ok-outcome.outcome (Valid c.in-Valid.constraint c.in-Valid.solution c.in-Valid.tree) c.requires.limit c.with_budget-purse.ensures.within c.new-part.ensures c.with_budget-purse.ensures.is c.in_ok-outcome.ensures c.in-Valid.is tt in
    (fitting c.args.budget c.args.problem.now c.args.encoded.now c.requires.encoded c.in-Valid.constraint c.in-Valid.solution c.in-Valid.tree c.with_budget-purse.result k).0

pub valid-requires-clause-holds : goal.valid-requires-clause-holds
valid-requires-clause-holds g c =
    let k = raised_at (form c.args.encoded.now.root) c.args.encoded.now.constants c.args.limit c.args.budget _ c.prove.new.purse c.with_budget-purse.result c.in_ok-outcome.outcome (Valid c.in-Valid.constraint c.in-Valid.solution c.in-Valid.tree) c.requires.limit c.with_budget-purse.ensures.within c.new-part.ensures c.with_budget-purse.ensures.is c.in_ok-outcome.ensures c.in-Valid.is tt in
    valid_holds c.args.budget c.args.problem.now c.args.encoded.now c.requires.encoded c.requires.well_formed c.in-Valid.constraint c.in-Valid.solution c.in-Valid.tree c.with_budget-purse.result k

pub valid-requires-clause-values : goal.valid-requires-clause-values
valid-requires-clause-values g c =
    let k = raised_at (form c.args.encoded.now.root) c.args.encoded.now.constants c.args.limit c.args.budget _ c.prove.new.purse c.with_budget-purse.result c.in_ok-outcome.outcome (Valid c.in-Valid.constraint c.in-Valid.solution c.in-Valid.tree) c.requires.limit c.with_budget-purse.ensures.within c.new-part.ensures c.with_budget-purse.ensures.is c.in_ok-outcome.ensures c.in-Valid.is tt in
    ap length c.as_slice.ensures ∙ (fitting c.args.budget c.args.problem.now c.args.encoded.now c.requires.encoded c.in-Valid.constraint c.in-Valid.solution c.in-Valid.tree c.with_budget-purse.result k).1

pub valid-requires-clause-budget : goal.valid-requires-clause-budget
valid-requires-clause-budget g c =
    let k = raised_at (form c.args.encoded.now.root) c.args.encoded.now.constants c.args.limit c.args.budget _ c.prove.new.purse c.with_budget-purse.result c.in_ok-outcome.outcome (Valid c.in-Valid.constraint c.in-Valid.solution c.in-Valid.tree) c.requires.limit c.with_budget-purse.ensures.within c.new-part.ensures c.with_budget-purse.ensures.is c.in_ok-outcome.ensures c.in-Valid.is tt in
    run_below (form c.args.encoded.now.root) c.args.encoded.now.constants c.args.budget (2 ^ 32) (Valid c.in-Valid.constraint c.in-Valid.solution c.in-Valid.tree) c.with_budget-purse.result k (let most = c.requires.budget in omega (arith, most))

pub with_proof-requires : goal.with_proof-requires
with_proof-requires g c =
    let k = raised_at (form c.args.encoded.now.root) c.args.encoded.now.constants c.args.limit c.args.budget _ c.prove.new.purse c.with_budget-purse.result c.in_ok-outcome.outcome (Valid c.in-Valid.constraint c.in-Valid.solution c.in-Valid.tree) c.requires.limit c.with_budget-purse.ensures.within c.new-part.ensures c.with_budget-purse.ensures.is c.in_ok-outcome.ensures c.in-Valid.is tt in
    valid_printable c.args.budget c.args.problem.now c.args.encoded.now c.requires.encoded c.requires.well_formed c.requires.budget c.in-Valid.constraint c.in-Valid.solution c.in-Valid.tree c.with_budget-purse.result k

pub returns-in-Valid : goal.returns-in-Valid
returns-in-Valid g c =
    let p = c.args.problem.now in
    let new = c.with_budget-purse.result in
    let k = raised_at (form c.args.encoded.now.root) c.args.encoded.now.constants c.args.limit c.args.budget _ c.prove.new.purse c.with_budget-purse.result c.in_ok-outcome.outcome (Valid c.in-Valid.constraint c.in-Valid.solution c.in-Valid.tree) c.requires.limit c.with_budget-purse.ensures.within c.new-part.ensures c.with_budget-purse.ensures.is c.in_ok-outcome.ensures c.in-Valid.is tt in
    let plain = c.in_ok-plain-in-Valid.plain in
    let told : IsValidTold p new c.in-Valid.constraint c.in-Valid.solution (answer_of plain) = subst (λ vs. IsValidTold p new c.in-Valid.constraint vs (answer_of plain)) c.as_slice.ensures c.in_ok-plain-in-Valid.ensures in
    proved_as c.args.asked c.args.budget p c.in-Valid.tree plain (Ok c.in_ok-output-in-Valid.output) (valid_told c.args.budget p c.args.encoded.now c.requires.encoded c.in-Valid.constraint c.in-Valid.solution c.in-Valid.tree new (answer_of plain) k told)
    (λ part prints. valid_part_told c.args.asked c.args.budget p c.args.encoded.now c.requires.encoded c.in-Valid.constraint c.in-Valid.solution c.in-Valid.tree new part k prints) c.in_ok-output-in-Valid.ensures

pub with_proof-requires-in-Invalid : goal.with_proof-requires-in-Invalid
with_proof-requires-in-Invalid g c =
    let k = raised_at (form c.args.encoded.now.root) c.args.encoded.now.constants c.args.limit c.args.budget _ c.prove.new.purse c.with_budget-purse.result c.in_ok-outcome.outcome (Invalid c.in-Invalid.constraint c.in-Invalid.tree) c.requires.limit c.with_budget-purse.ensures.within c.new-part.ensures c.with_budget-purse.ensures.is c.in_ok-outcome.ensures c.in-Invalid.is tt in
    invalid_printable c.args.budget c.args.problem.now c.args.encoded.now c.requires.encoded c.requires.well_formed c.requires.budget c.in-Invalid.constraint c.in-Invalid.tree c.with_budget-purse.result k

pub returns-in-Invalid : goal.returns-in-Invalid
returns-in-Invalid g c =
    let p = c.args.problem.now in
    let new = c.with_budget-purse.result in
    let k = raised_at (form c.args.encoded.now.root) c.args.encoded.now.constants c.args.limit c.args.budget _ c.prove.new.purse c.with_budget-purse.result c.in_ok-outcome.outcome (Invalid c.in-Invalid.constraint c.in-Invalid.tree) c.requires.limit c.with_budget-purse.ensures.within c.new-part.ensures c.with_budget-purse.ensures.is c.in_ok-outcome.ensures c.in-Invalid.is tt in
    let plain = c.in_ok-plain-in-Invalid.plain in
    proved_as c.args.asked c.args.budget p c.in-Invalid.tree plain (Ok c.in_ok-output-in-Invalid.output) (invalid_told c.args.budget p c.args.encoded.now c.requires.encoded c.in-Invalid.constraint c.in-Invalid.tree new (answer_of plain) k c.in_ok-plain-in-Invalid.ensures)
    (λ part prints. invalid_part_told c.args.asked c.args.budget p c.args.encoded.now c.requires.encoded c.in-Invalid.constraint c.in-Invalid.tree new part k prints) c.in_ok-output-in-Invalid.ensures

pub refuted-requires-clause-saturated : goal.refuted-requires-clause-saturated
refuted-requires-clause-saturated g c =
    let p = c.args.problem.now in
    let k = raised_at (form c.args.encoded.now.root) c.args.encoded.now.constants c.args.limit c.args.budget _ c.prove.new.purse c.with_budget-purse.result c.in_ok-outcome.outcome (Saturated c.in-Saturated.constraint c.in-Saturated.tree) c.requires.limit c.with_budget-purse.ensures.within c.new-part.ensures c.with_budget-purse.ensures.is c.in_ok-outcome.ensures c.in-Saturated.is tt in
    let s = saturated_end c.args.budget p c.args.encoded.now c.requires.encoded c.in-Saturated.constraint c.in-Saturated.tree c.with_budget-purse.result k in
    saturated_is c.args.budget p (root_over p c.requires.well_formed) s.0 (proof_of c.in-Saturated.tree.root) _ s.2

pub refuted-requires-clause-levels : goal.refuted-requires-clause-levels
refuted-requires-clause-levels g c =
    let p = c.args.problem.now in
    let k = raised_at (form c.args.encoded.now.root) c.args.encoded.now.constants c.args.limit c.args.budget _ c.prove.new.purse c.with_budget-purse.result c.in_ok-outcome.outcome (Saturated c.in-Saturated.constraint c.in-Saturated.tree) c.requires.limit c.with_budget-purse.ensures.within c.new-part.ensures c.with_budget-purse.ensures.is c.in_ok-outcome.ensures c.in-Saturated.is tt in
    let s = saturated_end c.args.budget p c.args.encoded.now c.requires.encoded c.in-Saturated.constraint c.in-Saturated.tree c.with_budget-purse.result k in
    levels_are c.args.budget p (root_over p c.requires.well_formed) s.0 (proof_of c.in-Saturated.tree.root) _ s.2

pub refuted-requires-clause-budget : goal.refuted-requires-clause-budget
refuted-requires-clause-budget g c =
    let k = raised_at (form c.args.encoded.now.root) c.args.encoded.now.constants c.args.limit c.args.budget _ c.prove.new.purse c.with_budget-purse.result c.in_ok-outcome.outcome (Saturated c.in-Saturated.constraint c.in-Saturated.tree) c.requires.limit c.with_budget-purse.ensures.within c.new-part.ensures c.with_budget-purse.ensures.is c.in_ok-outcome.ensures c.in-Saturated.is tt in
    run_below (form c.args.encoded.now.root) c.args.encoded.now.constants c.args.budget (2 ^ 32) (Saturated c.in-Saturated.constraint c.in-Saturated.tree) c.with_budget-purse.result k (let most = c.requires.budget in omega (arith, most))

pub returns-in-Saturated : goal.returns-in-Saturated
returns-in-Saturated g c =
    let p = c.args.problem.now in
    let new = c.with_budget-purse.result in
    let k = raised_at (form c.args.encoded.now.root) c.args.encoded.now.constants c.args.limit c.args.budget _ c.prove.new.purse c.with_budget-purse.result c.in_ok-outcome.outcome (Saturated c.in-Saturated.constraint c.in-Saturated.tree) c.requires.limit c.with_budget-purse.ensures.within c.new-part.ensures c.with_budget-purse.ensures.is c.in_ok-outcome.ensures c.in-Saturated.is tt in
    alone_as c.args.asked c.args.budget p (Ok c.in_ok-output-in-Saturated.output) (saturated_part c.args.asked c.args.budget p c.args.encoded.now c.requires.encoded c.in-Saturated.constraint c.in-Saturated.tree new k)
    (saturated_told c.args.budget p c.args.encoded.now c.requires.encoded c.in-Saturated.constraint c.in-Saturated.tree new (answer_of c.in_ok-output-in-Saturated.output) k c.in_ok-output-in-Saturated.ensures)

pub returns : goal.returns
returns g c =
    let k = ends_at (form c.args.encoded.now.root) c.args.encoded.now.constants _ (start c.args.limit) c.prove.new.purse c.in_ok-outcome.outcome (Unknown c.in-Unknown.why c.in-Unknown.run') c.new-part.ensures c.in_ok-outcome.ensures c.in-Unknown.is in
    cut_by c.args.limit c.args.problem.now c.args.encoded.now c.requires.encoded c.in-Unknown.why c.in-Unknown.run' c.prove.new.purse k
