use Rattle.std.proofs.Common.{Err, ap, refl}
use Rattle.job_dialogue.specs.Views.{held_of}
use Rattle.job_dialogue.proofs.Hearing.{empty_put}
use Rattle.job_dialogue.proofs.Readings.{finishes_none, finishes_one, last_breaks_before, last_breaks_with, piece_none, piece_one}
use Rattle.job_dialogue.proofs.conversing.finish.Goals as goal

pub returns-in_default-clause-breaks : goal.returns-in_default-clause-breaks
returns-in_default-clause-breaks g c = last_breaks_before _ _ _ _ _ refl

pub returns-then-not-is_more-clause-finished : goal.returns-then-not-is_more-clause-finished
returns-then-not-is_more-clause-finished g c =
    finishes_none _ c.args.talk _ _ (empty_put _) (piece_none c.in-Ok.is_more c.as_slice.result.now c.args.talk.rest.items c.as_slice.ensures.value c.if-not-is_more.true c.in-Ok.ensures)

pub returns-in-Ok-tell-clause-finished : goal.returns-in-Ok-tell-clause-finished
returns-in-Ok-tell-clause-finished g c =
    finishes_one _ c.args.talk (held_of c.in-Ok-tell.field-0) c.as_slice-2.result.now _ _ c.requires.goes_on c.as_slice-2.ensures.value
    (piece_one c.in-Ok.is_more c.as_slice.result.now c.args.talk.rest.items c.as_slice.ensures.value c.if-not-is_more.false c.in-Ok.ensures) c.in-Ok-tell.ensures.told

pub returns-clause-breaks : goal.returns-clause-breaks
returns-clause-breaks g c =
    last_breaks_with _ c.args.talk c.as_slice-2.result.now c.in-Err.stop _ _ c.requires.goes_on c.as_slice-2.ensures.value
    (piece_one c.in-Ok.is_more c.as_slice.result.now c.args.talk.rest.items c.as_slice.ensures.value c.if-not-is_more.false c.in-Ok.ensures)
    (λ e. c.in-Err.ensures.part (ap (λ z. Err z) e)) (λ e. c.in-Err.ensures.silent (ap (λ z. Err z) e)) (λ e. c.in-Err.ensures.source (ap (λ z. Err z) e))
