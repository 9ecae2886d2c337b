-- What is proved of runs that end saturated, for those who explain them.
pub use Rattle.model_runs.proofs.Encoded.{root_somes}
pub use Rattle.model_runs.proofs.Ended.{saturated_says}
pub use Rattle.model_runs.proofs.Problems.{explained, refuted}
pub use Rattle.model_runs.proofs.Universal.{one_round_ends}
