use Rattle.pri_typing.proofs.Meanings.{spoken_alike}
use Rattle.pri_typing.proofs.laws.existentials_law.Goals as goal

pub returns : goal.returns
returns c = spoken_alike
