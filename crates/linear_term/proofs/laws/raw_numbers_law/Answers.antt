use Rattle.linear_term.proofs.Ranges.{raw_numbers-places}
use Rattle.linear_term.proofs.laws.raw_numbers_law.Goals as goal

pub returns : goal.returns
returns c = λ m s n t. raw_numbers-places m n s t
