use Rattle.std.proofs.Common.{IfOk, subst, suc, sym}
use Rattle.std.proofs.lemmas.Result.{IfOk-weaker}
use Rattle.smt_names.specs.Saying.{leaf_said}
use Rattle.smt_writing.specs.Heights.{leaf_height}
use Rattle.smt_writing.specs.Layers.{IsLayerOf, heights_at, names_at}
use Rattle.smt_writing.specs.Places.{Reaches}
use Rattle.smt_writing.proofs.Reaching.{slot_reaches}
use Rattle.smt_writing.proofs.places.step_leaf.Goals as goal

pub returns-in-Some : goal.returns-in-Some
returns-in-Some c =
    let old = c.args.layers.now.items in
    let new = c.look_up.new.layers.items in
    let here = subst (λ z. IsLayerOf z c.args.layer c.in-Slot.k c.in-Some.found) c.as_slice.ensures.value c.in-Some.ensures in
    subst (λ z. IfOk c.look_up.result (Reaches old (leaf_said (names_at old c.args.layer) z) (suc (leaf_height (heights_at old c.args.layer) z)) new)) (sym c.in-Slot.is)
    (IfOk-weaker c.look_up.result _ _ (λ x r. slot_reaches old new c.args.layer c.in-Slot.k c.in-Some.found x here r) c.look_up.ensures)
