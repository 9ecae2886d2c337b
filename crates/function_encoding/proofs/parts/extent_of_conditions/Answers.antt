use Rattle.std.proofs.Common.{◌≡◌, ◌+◌, length, ap, ◌∙◌, sym, arith}
use Rattle.form_encoding.specs.Extent.{behind_atoms, nothing}
use Rattle.function_encoding.specs.Bounds.{kept_bounds}
use Rattle.function_encoding.specs.Marks.{is_marked}
use Rattle.function_encoding.proofs.Chosen.{marked_bounds}
use Rattle.function_encoding.proofs.parts.extent_of_conditions.Goals as goal

pub behind_conditions-last-requires : goal.behind_conditions-last-requires
behind_conditions-last-requires c =
    let few = c.requires.few in
    let e = c.requires.existential_types.many in
    let u = c.requires.universal_types.many in
    let m = c.len-first.ensures in
    let s = ap length c.as_slice.ensures in
    omega (arith, few, e, u, m, s)

pub behind_conditions-requires : goal.behind_conditions-requires
behind_conditions-requires c =
    let few = c.requires.few in
    let e = c.requires.existential_types.many in
    let s = ap length c.as_slice-2.ensures in
    omega (arith, few, e, s)

pub returns : goal.returns
returns c = marked_bounds c.args.p.now c.args.marks.now _ _ _ _ _ c.len-first.ensures c.as_slice.ensures c.as_slice-2.ensures c.behind_conditions-last.ensures c.behind_conditions.ensures
