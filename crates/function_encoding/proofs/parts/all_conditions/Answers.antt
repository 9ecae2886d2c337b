use Rattle.std.proofs.Common.{◌≡◌, ◌+◌, ◌≤◌, All, length, ap, ◌∙◌, sym, subst, map, arith}
use Rattle.form_typed.specs.Sorts.{IsSortRanged}
use Rattle.formula.specs.Tree.{form}
use Rattle.function_encoding.proofs.Chosen.{two_lists_err, two_lists_ok}
use Rattle.function_encoding.proofs.parts.all_conditions.Goals as goal

pub conditions-requires-clause-few : goal.conditions-requires-clause-few
conditions-requires-clause-few c =
    let few = c.requires.few in
    let e = c.requires.existential_types.many in
    let s = ap length c.as_slice-first.ensures in
    omega (arith, few, e, s)

pub conditions-requires-clause-ranged : goal.conditions-requires-clause-ranged
conditions-requires-clause-ranged c = subst (All IsSortRanged) (sym c.as_slice-first.ensures) c.requires.existential_types.ranged

pub returns-in_err-some : goal.returns-in_err-some
returns-in_err-some c =
    two_lists_err c.args.p.now c.args.marks.now (map form c.args.out) c.as_slice-first.result.now _ _ c.as_slice-first.ensures c.from_residual.ensures.1 c.in_err-some.ensures

pub conditions-requires-2-clause-few : goal.conditions-requires-2-clause-few
conditions-requires-2-clause-few c =
    let few = c.requires.few in
    let e = c.requires.existential_types.many in
    let u = c.requires.universal_types.many in
    let f = ap length c.as_slice-first.ensures in
    let s = ap length c.as_slice.ensures in
    omega (arith, few, e, u, f, s)

pub conditions-requires-2-clause-ranged : goal.conditions-requires-2-clause-ranged
conditions-requires-2-clause-ranged c = subst (All IsSortRanged) (sym c.as_slice.ensures) c.requires.universal_types.ranged

pub returns : goal.returns
returns c =
    two_lists_ok c.args.p.now c.args.marks.now (map form c.args.out) c.as_slice-first.result.now c.as_slice.result.now _ _ _ c.as_slice-first.ensures c.as_slice.ensures (ap length c.as_slice-first.ensures)
    c.in_ok-some.ensures c.conditions-2.ensures
