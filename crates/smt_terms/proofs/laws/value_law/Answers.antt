use Rattle.smt_terms.proofs.Symbols.{one_value, some_value}
use Rattle.smt_terms.proofs.laws.value_law.Goals as goal

pub returns : goal.returns
returns c = record { one_value = one_value; some_value = some_value }
