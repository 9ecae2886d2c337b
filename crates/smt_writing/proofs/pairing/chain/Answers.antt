use Rattle.std.proofs.Common.{◌++◌, ◌∷◌, [], map, ap, ap₂, sym, ◌∙◌, arith}
use Rattle.std.proofs.lemmas.List.{map-append}
use Rattle.form_typed.specs.Formula.{formula}
use Rattle.smt_writing.specs.Pairing.{pair_said}
use Rattle.smt_writing.specs.Written.{written}
use Rattle.smt_writing.proofs.Folding.{neighbours-more}
use Rattle.smt_writing.proofs.pairing.chain.Goals as goal

pub loop-i-preserved : goal.loop-i-preserved
loop-i-preserved c =
    let P = pair_said c.args.pairing in
    ap (map formula) c.in_ok-push.ensures.ok ∙ map-append formula c.loop-i.out (c.in_ok-pair_of.field-0 ∷ [])
    ∙ ap₂ (λ v w. v ++ w ∷ []) c.loop-i.invariant
    (c.in_ok-pair_of.ensures ∙ ap₂ (λ v w. P (written v) (written w)) c.index-arguments-i.is c.index-arguments-i-in-loop-i.is)
    ∙ sym (neighbours-more P written c.args.arguments.now c.loop-i.i c.index-arguments-i.result c.index-arguments-i-in-loop-i.result (omega (arith, c.loop-i.auto.i)) c.loop-i-test.true)
