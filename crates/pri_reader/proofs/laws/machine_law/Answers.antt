use Rattle.pri_reader.proofs.Sound.{file_sound}
use Rattle.pri_reader.proofs.laws.machine_law.Goals as goal

pub returns-clause-sound : goal.returns-clause-sound
returns-clause-sound c = λ s end file tokens e. file_sound s end file tokens e
