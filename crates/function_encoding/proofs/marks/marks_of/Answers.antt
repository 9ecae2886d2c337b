use Rattle.std.proofs.Common.{◌≡◌, length, sym, ap, ◌∙◌, arith}
use Rattle.pri_typing.specs.WellFormed.{components_of}
use Rattle.function_encoding.specs.Marks.{names_of_parts}
use Rattle.function_encoding.proofs.Marking.{length-marked, marks_are, written}
use Rattle.function_encoding.proofs.marks.marks_of.Goals as goal

pub overflow_add-len : goal.overflow_add-len
overflow_add-len c =
    let few = c.requires.few in
    let some = c.len.ensures in
    let others = c.len-2.ensures in
    omega (arith, few, some, others)

pub returns : goal.returns
returns c =
    let long : length c.mark_parts.new.marks ≡ length c.deref_mut.result.now = ap length c.mark_parts.ensures ∙ length-marked c.deref_mut.result.now (names_of_parts c.args.set.now (components_of c.args.p.now)) in
    marks_are c.args.p.now c.args.set.now c.len.result c.len-2.result c.in_ok-marks.marks.items c.deref_mut.result.now c.mark_parts.new.marks _ c.len.ensures c.len-2.ensures c.in_ok-marks.ensures c.deref_mut.ensures.value
    c.mark_parts.ensures (written c.in_ok-marks.marks.len c.mark_parts.new.marks _ (sym (long ∙ c.deref_mut.ensures.len)))
