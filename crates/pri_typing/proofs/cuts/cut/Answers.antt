use Rattle.std.proofs.Common.{sym, ap, ◌∙◌, map, take, ◌++◌, ◌∷◌, []}
use Rattle.std.proofs.lemmas.List.{map_more}
use Rattle.base_texts.specs.Texts.{place}
use Rattle.pri_typing.proofs.cuts.cut.Goals as goal

pub loop-set-preserved : goal.loop-set-preserved
loop-set-preserved c =
    let parts = c.args.parts.now in
    let sets = c.args.sets.now in
    let i = c.loop-set.set-index in
    c.in_ok-push.ensures.ok
    ∙ ap (λ z. z ++ c.in_ok-numbers.field-0 ∷ []) c.loop-set.invariant
    ∙ ap (λ z. map (λ s. map (λ n. place n.text parts) s.names) (take i sets) ++ z ∷ [])
    (c.in_ok-numbers.ensures ∙ ap (map (λ n. place n.text parts)) (c.as_slice.ensures ∙ ap (λ s. s.names) c.set-item.is))
    ∙ sym (map_more (λ s. map (λ n. place n.text parts) s.names) sets i c.set-item.result c.loop-set-test.true)
