use Rattle.smt_models.proofs.Meaning.{constant_means, function_means, names_are, predicate_means}
use Rattle.smt_models.proofs.laws.definitions_law.Goals as goal

pub returns : goal.returns
returns c = record { constant = constant_means; function = function_means; predicate = predicate_means; names = names_are }
