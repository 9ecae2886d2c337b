use Rattle.smt_sizes.proofs.Limits.{large_law, fits_law, together_law}
use Rattle.smt_sizes.proofs.laws.size_law.Goals as goal

pub returns : goal.returns
returns c = record { large = large_law; together = together_law; fits = fits_law }
