use Rattle.pri_typing.proofs.Assumptions.{components_assume}
use Rattle.pri_typing.proofs.laws.components_law.Goals as goal

pub returns : goal.returns
returns c = record { assumed = components_assume }
