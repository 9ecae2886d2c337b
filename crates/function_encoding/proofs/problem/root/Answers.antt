use Rattle.std.proofs.Common.{◌≡◌, ◌+◌, ◌≤◌, true, false, map, length, All, sym, ap, subst, ◌∙◌, arith}
use Rattle.form_typed.specs.Sorts.{IsSortRanged}
use Rattle.base_budget.specs.Trace.{just, next}
use Rattle.formula.specs.Tree.{form}
use Rattle.formula.proofs.Making.{made_ok, made_err, made_just, made_memory}
use Rattle.form_encoding.specs.Encoding.{restricted}
use Rattle.form_encoding.specs.Problems.{body}
use Rattle.form_encoding.specs.Root.{conditions, for_last}
use Rattle.function_encoding.proofs.Bounding.{alone, last_failed}
use Rattle.function_encoding.proofs.Roots.{last_as, conditions_as}
use Rattle.function_encoding.proofs.problem.root.Goals as goal

pub returns-in_err-body : goal.returns-in_err-body
returns-in_err-body c =
    let p = c.args.p.now in
    made_err form form (for_last (length p.existential_types) p.universal_types (body p)) (λ g. next (conditions (λ x. true) 0 p.existential_types) (λ hs. just (restricted false hs g))) _
    c.from_residual.ensures.1 (last_failed (length p.existential_types) p.universal_types (body p) _ c.in_err-body.ensures)

pub for_last-requires-clause-few : goal.for_last-requires-clause-few
for_last-requires-clause-few c =
    let few = c.requires.formed.few in
    let m = c.len-first.ensures in
    let k = c.requires.formed.universal_types.many in
    let s = ap length c.as_slice.ensures in
    omega (arith, few, m, k, s)

pub for_last-requires-clause-ranged : goal.for_last-requires-clause-ranged
for_last-requires-clause-ranged c = subst (All IsSortRanged) (sym c.as_slice.ensures) c.requires.formed.universal_types.ranged

pub returns-in_err-all : goal.returns-in_err-all
returns-in_err-all c =
    let p = c.args.p.now in
    made_err form form (for_last (length p.existential_types) p.universal_types (body p)) (λ g. next (conditions (λ x. true) 0 p.existential_types) (λ hs. just (restricted false hs g))) _
    c.from_residual-in_err-all.ensures.1
    (last_as p c.requires.formed _ c.as_slice.result.now _ c.len-first.ensures c.as_slice.ensures (c.in_err-all.ensures (body p) c.in_ok-body.ensures))

pub conditions-requires-clause-few : goal.conditions-requires-clause-few
conditions-requires-clause-few c =
    let few = c.requires.formed.few in
    let k = c.requires.formed.existential_types.many in
    let s = ap length c.as_slice-types.ensures in
    omega (arith, few, k, s)

pub conditions-requires-clause-ranged : goal.conditions-requires-clause-ranged
conditions-requires-clause-ranged c = subst (All IsSortRanged) (sym c.as_slice-types.ensures) c.requires.formed.existential_types.ranged

pub returns-in_err-conditions : goal.returns-in_err-conditions
returns-in_err-conditions c =
    let p = c.args.p.now in
    made_ok form form (for_last (length p.existential_types) p.universal_types (body p)) (λ g. next (conditions (λ x. true) 0 p.existential_types) (λ hs. just (restricted false hs g)))
    (last_as p c.requires.formed _ c.as_slice.result.now _ c.len-first.ensures c.as_slice.ensures (c.in_ok-all.ensures (body p) c.in_ok-body.ensures))
    (made_err (λ hs. map form hs) form (conditions (λ x. true) 0 p.existential_types) (λ hs. just (restricted false hs (form c.in_ok-all.all))) _ c.from_residual-in_err-conditions.ensures.1
    (conditions_as p c.as_slice-types.result.now c.new.result _ c.as_slice-types.ensures c.new.ensures c.in_err-conditions.ensures))

pub returns-in_err-restricted : goal.returns-in_err-restricted
returns-in_err-restricted c = made_memory form _ c.from_residual-in_err-restricted.ensures.1

pub returns : goal.returns
returns c =
    let p = c.args.p.now in
    made_ok form form (for_last (length p.existential_types) p.universal_types (body p)) (λ g. next (conditions (λ x. true) 0 p.existential_types) (λ hs. just (restricted false hs g)))
    (last_as p c.requires.formed _ c.as_slice.result.now _ c.len-first.ensures c.as_slice.ensures (c.in_ok-all.ensures (body p) c.in_ok-body.ensures))
    (made_ok (λ hs. map form hs) form (conditions (λ x. true) 0 p.existential_types) (λ hs. just (restricted false hs (form c.in_ok-all.all)))
    (conditions_as p c.as_slice-types.result.now c.new.result _ c.as_slice-types.ensures c.new.ensures c.in_ok-conditions.ensures)
    (made_just form _ _ c.in_ok-restricted.ensures))
