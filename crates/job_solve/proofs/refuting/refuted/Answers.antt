use Rattle.std.proofs.Common.{◌≡◌, ℤ, List, Some, sym, ◌∙◌, ap}
use Rattle.form_typed.specs.declared.world.Table.{Table}
use Rattle.proof_tree.specs.Views.{proof_of}
use Rattle.countermodel.specs.Probes.{probe_values}
use Rattle.job_solve.specs.Explained.{refuted_answer}
use Rattle.job_solve.proofs.Printing.{if_ok}
use Rattle.job_solve.proofs.Refuted.{probe_length}
use Rattle.job_solve.proofs.Saturated.{explained_told, range_told, steps_told}
use Rattle.job_solve.proofs.refuting.refuted.Goals as goal

pub counterexample-requires-clause-values : goal.counterexample-requires-clause-values
counterexample-requires-clause-values c =
    probe_length c.args.problem.now c.as_slice-in-Ok.result.now c.requires.well_formed (let made = c.in_ok-values.ensures in let some = c.in-Some.is in let seen = c.as_slice-in-Ok.ensures in cc)

pub returns-in-Ok : goal.returns-in-Ok
returns-in-Ok c =
    let p = c.args.problem.now in
    let x = proof_of c.args.tree.now.root in
    let found : Table × List ℤ = (c.in-Ok.found.table, c.in-Ok.found.universals) in
    let same : c.as_slice-in-Ok.result.now ≡ c.as_slice.result.now = c.as_slice-in-Ok.ensures ∙ sym c.as_slice.ensures in
    let probe : probe_values p.existential_types ≡ Some c.as_slice.result.now = (let made = c.in_ok-values.ensures in let some = c.in-Some.is in let seen = c.as_slice.ensures in cc) in
    if_ok c.counterexample.result (λ a is. explained_told p x c.args.purse.now c.explain.new.purse c.as_slice.result.now found a probe c.in-Ok.ensures.work (is ∙ ap (λ e. refuted_answer p e found) same)) c.counterexample.ensures

pub returns-in-Err-Steps : goal.returns-in-Err-Steps
returns-in-Err-Steps c =
    if_ok c.unknown.result (λ a is. steps_told c.args.problem.now (proof_of c.args.tree.now.root) c.args.purse.now c.explain.new.purse c.as_slice.result.now c.in-Err-Steps.field-0 a
    (let made = c.in_ok-values.ensures in let some = c.in-Some.is in let seen = c.as_slice.ensures in cc) c.in-Err-Steps.field-0-is c.in-Err-Steps.ensures.work is) c.unknown.ensures

pub returns-in-Err-Overflow : goal.returns-in-Err-Overflow
returns-in-Err-Overflow c =
    if_ok c.unknown-in-Err-Overflow.result (λ a is. range_told c.args.problem.now (proof_of c.args.tree.now.root) c.args.purse.now c.explain.new.purse c.as_slice.result.now c.in-Err-Overflow.field-0 c.in-Err-Overflow.field-0-0 a
    (let made = c.in_ok-values.ensures in let some = c.in-Some.is in let seen = c.as_slice.ensures in cc) c.in-Err-Overflow.field-0-is c.in-Err-Overflow.ensures.work is) c.unknown-in-Err-Overflow.ensures
