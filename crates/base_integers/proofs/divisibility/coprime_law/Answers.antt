use Rattle.base_integers.proofs.Divisor.{coprime-divides}
use Rattle.base_integers.proofs.divisibility.coprime_law.Goals as goal

pub returns : goal.returns
returns c = coprime-divides
