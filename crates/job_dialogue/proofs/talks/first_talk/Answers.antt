use Rattle.std.proofs.Common.{ap}
use Rattle.job_dialogue.proofs.Hearing.{first_heard}
use Rattle.job_dialogue.proofs.talks.first_talk.Goals as goal

pub returns-clause-heard : goal.returns-clause-heard
returns-clause-heard c = λ budget. first_heard budget _ c.new.ensures c.new-2.ensures.items c.first_scan.ensures

pub returns-clause-goes_on : goal.returns-clause-goes_on
returns-clause-goes_on c = ap (λ h. h.ended) c.new.ensures
