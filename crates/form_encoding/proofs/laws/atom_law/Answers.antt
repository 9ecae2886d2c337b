use Rattle.form_encoding.proofs.Plains.{plain_is}
use Rattle.form_encoding.proofs.laws.atom_law.Goals as goal

pub returns : goal.returns
returns c = λ at t n rest p. plain_is t at n rest p
