use Rattle.std.proofs.Common.{◌+◌, true, drop, arith}
use Rattle.formula.specs.Tree.{form, forms_of}
use Rattle.formula.proofs.Making.{made_memory, left_made, left_err}
use Rattle.form_encoding.specs.Encoding.{all_encoded}
use Rattle.function_encoding.specs.Encoded.{all_assumed}
use Rattle.function_encoding.proofs.Chosen.{chosen_next, chosen_end, chosen_ranged, chosen_room}
use Rattle.function_encoding.proofs.Encodings.{rest_all, rest_pushed}
use Rattle.function_encoding.proofs.parts.members.Goals as goal

pub loop-c-init : goal.loop-c-init
loop-c-init c = (rest_all c.args.at.now c.args.n true (all_assumed c.args.components.now) c.new-out.result c.new-out.ensures, c.requires.ranged, c.requires.room)

pub encoded-requires : goal.encoded-requires
encoded-requires c = record {
  ranged = (chosen_ranged c.args.components.now c.loop-c.c-index c.c-item.result (omega arith) c.c-item.is c.loop-c.invariant.1).0;
  room = (chosen_room c.args.n c.args.components.now c.loop-c.c-index c.c-item.result (omega arith) c.c-item.is c.loop-c.invariant.2).0;
}

pub returns-in_err-encoded : goal.returns-in_err-encoded
returns-in_err-encoded c =
    left_err form forms_of _ _ _ c.from_residual.ensures.1
    (chosen_next c.args.at.now c.args.n c.args.components.now c.loop-c.c-index c.c-item.result c.loop-c.out (all_encoded c.args.at.now c.args.n true (all_assumed c.args.components.now)) (omega arith) c.c-item.is c.loop-c.invariant.0)
    c.in_err-encoded.ensures

pub returns-in_err-push : goal.returns-in_err-push
returns-in_err-push c = made_memory forms_of _ c.from_residual-in_err-push.ensures.1

pub loop-c-preserved : goal.loop-c-preserved
loop-c-preserved c =
    let cs = c.args.components.now in
    let i = c.loop-c.c-index in
    let work = all_encoded c.args.at.now c.args.n true (all_assumed cs) in (
      rest_pushed c.args.at.now c.args.n true (all_assumed (drop (i + 1) cs)) c.loop-c.out _ _ work c.in_ok-push.ensures.ok
          (left_made form _ _ (chosen_next c.args.at.now c.args.n cs i c.c-item.result c.loop-c.out work (omega arith) c.c-item.is c.loop-c.invariant.0) c.in_ok-encoded.ensures),
      (chosen_ranged cs i c.c-item.result (omega arith) c.c-item.is c.loop-c.invariant.1).1,
      (chosen_room c.args.n cs i c.c-item.result (omega arith) c.c-item.is c.loop-c.invariant.2).1,
    )

pub returns : goal.returns
returns c = chosen_end c.args.at.now c.args.n c.args.components.now c.loop-c.c-index c.loop-c.out (all_encoded c.args.at.now c.args.n true (all_assumed c.args.components.now)) (omega arith) c.loop-c.invariant.0
