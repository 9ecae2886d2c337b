use Rattle.smt_terms.proofs.Symbols.{value_law, truth_law}
use Rattle.smt_terms.proofs.laws.written_out_law.Goals as goal

pub returns : goal.returns
returns c = record { value = value_law; truth = truth_law }
