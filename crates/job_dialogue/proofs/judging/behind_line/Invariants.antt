use Rattle.std.proofs.Common.{◌≡◌, length}
use Rattle.job_dialogue.specs.Dialogue.{behind_line}
use Rattle.job_dialogue.proofs.judging.behind_line.Given as goal

abbrev pub invariant-loop-byte : goal.invariant-loop-byte
invariant-loop-byte l = behind_line l.rest ≡ behind_line l.text

abbrev pub decreases-loop-byte : goal.decreases-loop-byte
decreases-loop-byte l = length l.rest
