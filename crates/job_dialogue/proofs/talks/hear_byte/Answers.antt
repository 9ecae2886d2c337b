use Rattle.std.proofs.Common.{Err, ap, ◌∙◌, sym, refl}
use Rattle.job_dialogue.proofs.Hearing.{breaks_before, breaks_with, byte_kept, byte_told}
use Rattle.job_dialogue.proofs.talks.hear_byte.Goals as goal

pub returns-in_default-clause-breaks : goal.returns-in_default-clause-breaks
returns-in_default-clause-breaks g c = breaks_before _ _ _ _ _ _ refl

pub returns-in_default-push-clause-breaks : goal.returns-in_default-push-clause-breaks
returns-in_default-push-clause-breaks g c = breaks_before _ _ _ _ _ _ refl

pub returns-then-not-ends_piece-clause-heard : goal.returns-then-not-ends_piece-clause-heard
returns-then-not-ends_piece-clause-heard g c =
    byte_kept c.args.budget c.args.byte c.args.talk _ _ refl c.in-Ok-push.ensures.items c.in-Ok.ensures (sym c.ends_piece.ensures ∙ c.if-not-ends_piece.true)

pub returns-in-Ok-tell-clause-heard : goal.returns-in-Ok-tell-clause-heard
returns-in-Ok-tell-clause-heard g c =
    byte_told c.args.budget c.args.byte c.args.talk _ c.as_slice.result.now _ _ (c.as_slice.ensures.value ∙ c.in-Ok-push.ensures.items) c.requires.goes_on c.in-Ok-tell.ensures.told c.new.ensures.items c.in-Ok.ensures
    (sym c.ends_piece.ensures ∙ c.if-not-ends_piece.false)

pub returns-clause-breaks : goal.returns-clause-breaks
returns-clause-breaks g c =
    breaks_with c.args.budget c.args.byte c.args.talk c.as_slice.result.now _ _ _ (c.as_slice.ensures.value ∙ c.in-Ok-push.ensures.items) c.requires.goes_on (sym c.ends_piece.ensures ∙ c.if-not-ends_piece.false)
    (λ e. c.in-Err.ensures.part (ap (λ z. Err z) e)) (λ e. c.in-Err.ensures.silent (ap (λ z. Err z) e)) (λ e. c.in-Err.ensures.source (ap (λ z. Err z) e))
