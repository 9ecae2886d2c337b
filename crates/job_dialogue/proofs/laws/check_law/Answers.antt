use Rattle.job_dialogue.proofs.Begun.{check_told}
use Rattle.job_dialogue.proofs.laws.check_law.Goals as goal

pub returns : goal.returns
returns c = check_told c.meaning_law.ensures
