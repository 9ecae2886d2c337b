use Rattle.std.proofs.Common.{◌+◌, length, ap, sym, ◌∙◌, arith}
use Rattle.std.proofs.lemmas.Result.{IfOk-weaker}
use Rattle.smt_names.specs.Body.{shapes_of}
use Rattle.smt_names.specs.Saying.{bound_said, leaf_said}
use Rattle.smt_names.specs.Slots.{is_slot}
use Rattle.smt_names.proofs.Saying.{leaf-said}
use Rattle.smt_names.proofs.Behind.{without-last, at-last}
use Rattle.smt_names.proofs.binding.leaf_behind.Goals as goal

pub returns-then-is_slot : goal.returns-then-is_slot
returns-then-is_slot c =
    IfOk-weaker c.behind.result _ _ (λ b h D e n long.
    h D e n
    ∙ ap (λ z. z n) (sym (c.loop-last.invariant D e long
    ∙ at-last D e (c.args.count + length c.pop.new.self) c.loop-last.kept c.pop.new.self c.in-Some.last c.args.leaf c.in-Some.ensures (omega (arith, long))
    (ap (λ z. is_slot c.args.leaf (c.args.count + z)) (sym c.len.ensures) ∙ sym c.is_slot.ensures ∙ c.if-is_slot.true))))
    c.behind.ensures

pub loop-last-preserved : goal.loop-last-preserved
loop-last-preserved c = λ D e long.
    c.loop-last.invariant D e long
    ∙ without-last D e (c.args.count + length c.pop.new.self) c.loop-last.kept c.pop.new.self c.in-Some.last c.args.leaf c.in-Some.ensures (omega (arith, long))
    (ap (λ z. is_slot c.args.leaf (c.args.count + z)) (sym c.len.ensures) ∙ sym c.is_slot.ensures ∙ c.if-is_slot.false)

pub returns : goal.returns
returns c = λ D e n long.
    ap (λ z. z n) (leaf-said D e c.args.leaf
    ∙ sym (c.loop-last.invariant D e long ∙ ap (λ z. leaf_said (bound_said D e (shapes_of z)) c.args.leaf) c.in_default.ensures.0))
