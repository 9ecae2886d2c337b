use Rattle.std.proofs.Common.{refl, arith}
use Rattle.std.proofs.lemmas.Grind.{common_steps}
use Rattle.job_dialogue.proofs.Readings.{breaks_reading, breaks_unread, listens_more}
use Rattle.job_dialogue.proofs.conversing.listen.Goals as goal

pub returns-in_default-clause-breaks : goal.returns-in_default-clause-breaks
returns-in_default-clause-breaks g c = breaks_unread _ _ _ _ _ _ refl

pub returns-in-Ok-hear-clause-heard : goal.returns-in-Ok-hear-clause-heard
returns-in-Ok-hear-clause-heard g c = listens_more c.args.budget c.args.talk c.in-Ok-hear.talk _ _ _ _ _ c.in-Ok.count c.read.new.buffer c.in-Ok-hear.ensures.heard (grind (arith, common_steps)) c.in-Ok.ensures.bytes

pub returns-in-Err-clause-breaks : goal.returns-in-Err-clause-breaks
returns-in-Err-clause-breaks g c = breaks_reading c.args.budget c.args.talk c.in-Err.stop _ _ _ _ _ c.in-Ok.count c.read.new.buffer c.in-Err.ensures.breaks (grind (arith, common_steps)) c.in-Ok.ensures.bytes
