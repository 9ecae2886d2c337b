use Rattle.std.proofs.Common.{rules, ◌≡◌, ◌<◌, ◌≤◌, ℤ, List, length, refl, subst, arith, to_z-of_z}
use mir.Syntax.{w128}
use mir.Val.{SFits}
use Rattle.formula.specs.Form.{values_of}
use Rattle.model_table.specs.Models.{value_in}
use Rattle.model_formulas.specs.declared.choosing.Guard.{Guard}
use Rattle.model_formulas.specs.Choices.{AreChoices}
use Rattle.model_formulas.proofs.Chosen.{guards_pass, guards_add, guards_end}
use Rattle.model_formulas.proofs.choosing.by_rows.Goals as goal

pub loop-i-preserved-in-None : goal.loop-i-preserved-in-None
loop-i-preserved-in-None c =
    let lt : c.loop-i.i < length c.as_slice-rows.result.now = omega arith in
    guards_pass c.args.arguments.now c.as_slice-rows.result.now c.loop-i.i c.index-rows-i.result c.as_slice.result.now c.in_ok-row_guard.field-0 c.args.function.now.default c.loop-i.out c.loop-i.apart lt c.index-rows-i.is c.as_slice.ensures
    c.in_ok-row_guard.ensures c.in-None.is c.loop-i.invariant

pub loop-i-preserved : goal.loop-i-preserved
loop-i-preserved c =
    let lt : c.loop-i.i < length c.as_slice-rows.result.now = omega arith in
    let f : SFits w128 c.index-rows-i.result.value = search rules in
    let g : Guard = record { when = c.in-Some.when; value = c.index-rows-i.result.value } in
    guards_add c.args.arguments.now c.as_slice-rows.result.now c.loop-i.i c.index-rows-i.result c.as_slice.result.now c.in_ok-row_guard.field-0 c.args.function.now.default c.loop-i.out c.push.new.self c.loop-i.apart c.push_all.new.out g c.in_ok-other.other
    lt c.index-rows-i.is c.as_slice.ensures c.in_ok-row_guard.ensures c.in-Some.is refl c.in_ok-other.ensures c.in_ok-push_all.ensures (simp to_z-of_z at c.in_ok-push.ensures.ok) c.loop-i.invariant

pub returns : goal.returns
returns c =
    let le : length c.as_slice-rows.result.now ≤ c.loop-i.i = omega arith in
    let f : SFits w128 c.args.function.now.default = search rules in
    let g : Guard = record { when = c.all.result; value = c.args.function.now.default } in
    subst (λ l. AreChoices c.push-2.new.self (λ e. value_in l c.args.function.now.default (values_of c.args.arguments.now e))) c.as_slice-rows.ensures
    (guards_end c.args.arguments.now c.as_slice-rows.result.now c.loop-i.i c.args.function.now.default c.loop-i.out c.push-2.new.self c.loop-i.apart g le c.all.ensures refl (simp to_z-of_z at c.in_ok-push-2.ensures.ok) c.loop-i.invariant)
