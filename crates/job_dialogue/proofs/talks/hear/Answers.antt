use Rattle.std.proofs.Common.{◌∷◌, [], arith}
use Rattle.job_dialogue.proofs.Hearing.{breaks_later, front_heard, heard_more}
use Rattle.job_dialogue.proofs.talks.hear.Goals as goal

pub returns-in-Err-clause-breaks : goal.returns-in-Err-clause-breaks
returns-in-Err-clause-breaks g c =
    breaks_later c.args.budget c.args.talk c.loop-byte.talk c.args.bytes.now (c.in-Some.byte.now ∷ []) c.loop-byte.rest.now c.in-Some.behind.now _ _ _ _ c.loop-byte.invariant.heard c.in-Some.ensures.cases.0 c.in-Err.ensures.breaks

pub returns-then-talk-clause-heard : goal.returns-then-talk-clause-heard
returns-then-talk-clause-heard g c =
    front_heard c.args.budget c.args.talk c.in-Ok.next c.args.bytes.now c.in-Some.behind.now _ _ (λ e. absurd (cc (e, c.if-talk.true)))
    (heard_more c.args.budget c.in-Some.byte.now c.args.talk c.loop-byte.talk c.in-Ok.next c.args.bytes.now c.loop-byte.rest.now c.in-Some.behind.now _ _ _ c.in-Some.ensures.cases.0 c.loop-byte.invariant.heard c.in-Ok.ensures.heard)

pub loop-byte-preserved : goal.loop-byte-preserved
loop-byte-preserved g c = record {
  heard = heard_more c.args.budget c.in-Some.byte.now c.args.talk c.loop-byte.talk c.in-Ok.next c.args.bytes.now c.loop-byte.rest.now c.in-Some.behind.now _ _ _ c.in-Some.ensures.cases.0 c.loop-byte.invariant.heard c.in-Ok.ensures.heard;
  goes_on = c.if-talk.false;
  later = omega (arith, c.loop-byte.invariant.later, c.in-Ok.ensures.later);
}
