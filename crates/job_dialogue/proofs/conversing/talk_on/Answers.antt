use Rattle.std.proofs.Common.{IsSome, arith, refl, subst, sym}
use Rattle.job_dialogue.proofs.Readings.{err_then, ok_then, talked_first, talked_more, talked_off, talked_off_last, talked_out, talked_stops, talked_whole, up_to_nothing}
use Rattle.job_dialogue.proofs.conversing.talk_on.Goals as goal

pub returns-in_default-clause-breaks : goal.returns-in_default-clause-breaks
returns-in_default-clause-breaks g c = up_to_nothing _ _ _ _ _ refl

pub reads-init : goal.reads-init
reads-init g c = record {
  talked = talked_first c.args.budget c.first_talk-talk.result _ _ (c.first_talk-talk.ensures.heard c.args.budget);
  goes_on = c.first_talk-talk.ensures.goes_on;
  begun = c.requires.begun;
  unbroken = c.requires.unbroken;
  source_later = omega arith;
  later = omega arith;
  buffer = c.in-Ok.ensures.len;
}

pub returns-in-Err-clause-breaks : goal.returns-in-Err-clause-breaks
returns-in-Err-clause-breaks g c = talked_off c.args.budget c.reads.talk c.in-Err.stop _ _ _ _ _ c.reads.invariant.talked c.in-Err.ensures.breaks

pub finish-requires-clause-goes_on : goal.finish-requires-clause-goes_on
finish-requires-clause-goes_on g c = c.in-Ok-listen.ensures.goes_on c.if-heard.true

pub returns-then-heard-clause-answered : goal.returns-then-heard-clause-answered
returns-then-heard-clause-answered g c =
    ok_then c.finish.result _ _ (talked_whole c.args.budget c.in-Ok-listen.heard.talk _ _ _ _ _
    (talked_more c.args.budget c.reads.talk c.in-Ok-listen.heard.talk c.in-Ok-listen.heard.at_end _ _ _ _ _ _ c.reads.invariant.talked c.in-Ok-listen.ensures.heard (c.in-Ok-listen.ensures.goes_on c.if-heard.true))
    (c.in-Ok-listen.ensures.heard.end c.if-heard.true)) c.finish.ensures.finished

pub returns-then-heard-clause-breaks : goal.returns-then-heard-clause-breaks
returns-then-heard-clause-breaks g c =
    err_then c.finish.result _ _ (λ e. talked_off_last c.args.budget c.in-Ok-listen.heard.talk e _ _ _ _ _
    (talked_more c.args.budget c.reads.talk c.in-Ok-listen.heard.talk c.in-Ok-listen.heard.at_end _ _ _ _ _ _ c.reads.invariant.talked c.in-Ok-listen.ensures.heard (c.in-Ok-listen.ensures.goes_on c.if-heard.true))) c.finish.ensures.breaks

pub returns-then-talk-clause-answered : goal.returns-then-talk-clause-answered
returns-then-talk-clause-answered g c = talked_out c.args.budget c.reads.talk c.in-Ok-listen.heard.talk c.in-Ok-listen.heard.at_end _ _ _ _ _ _ c.reads.invariant.talked c.in-Ok-listen.ensures.heard c.if-talk.true

pub reads-preserved : goal.reads-preserved
reads-preserved g c = record {
  talked = talked_more c.args.budget c.reads.talk c.in-Ok-listen.heard.talk c.in-Ok-listen.heard.at_end _ _ _ _ _ _ c.reads.invariant.talked c.in-Ok-listen.ensures.heard c.if-talk.false;
  goes_on = c.if-talk.false;
  begun = subst (λ z. IsSome z) (sym c.in-Ok-listen.ensures.named) c.reads.invariant.begun;
  unbroken = c.in-Ok-listen.ensures.unbroken;
  source_later = omega (arith, c.reads.invariant.source_later, c.in-Ok-listen.ensures.source_later);
  later = omega (arith, c.reads.invariant.later, c.in-Ok-listen.ensures.later);
  buffer = c.reads.invariant.buffer;
}

pub returns-clause-breaks : goal.returns-clause-breaks
returns-clause-breaks g c = talked_stops c.args.budget c.reads.talk _ _ _ _ _ c.reads.invariant.talked
