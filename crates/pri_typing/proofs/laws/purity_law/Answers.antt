use Rattle.pri_typing.proofs.Least.{least-none}
use Rattle.pri_typing.proofs.Purity.{first_pure}
use Rattle.pri_typing.proofs.Universal.{pure_universal}
use Rattle.pri_typing.proofs.laws.purity_law.Goals as goal

pub returns-clause-applied : goal.returns-clause-applied
returns-clause-applied c = λ f p none typed. first_pure f p (least-none _ none) typed

pub returns-clause-universal : goal.returns-clause-universal
returns-clause-universal c = pure_universal
