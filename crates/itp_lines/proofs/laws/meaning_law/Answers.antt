use Rattle.itp_lines.proofs.Meaning.{blocks_mean}
use Rattle.itp_lines.proofs.laws.meaning_law.Goals as goal

pub returns : goal.returns
returns c = blocks_mean
