use Rattle.std.proofs.Common.{length}
use Rattle.job_smt.proofs.answering.+begun.Given as goal

abbrev pub decreases-begun : goal.decreases-begun
decreases-begun g l = length l.bytes.now
