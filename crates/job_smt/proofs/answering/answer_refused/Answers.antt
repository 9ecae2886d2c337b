use Rattle.job_smt.proofs.Making.{made_refused}
use Rattle.job_smt.proofs.answering.answer_refused.Goals as goal

pub returns : goal.returns
returns g c =
    made_refused c.args.budget c.args.bytes.now c.in_ok-part.part.now c.in_ok-text.text.items c.args.refusal c.in_ok-told.told c.after.result c.requires.refused c.in_ok-told.ensures.known c.in_ok-part.ensures.part
    c.in_ok-text.ensures c.in_ok-told.ensures.told c.after.ensures
