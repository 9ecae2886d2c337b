use Rattle.std.proofs.Common.{◌≡◌, ◌≤◌, length}
use Rattle.proof_file.specs.Body.{behind_marker, lines_of}
use Rattle.proof_file.proofs.file.body.Given as goal

abbrev pub invariant-lines : goal.invariant-lines
invariant-lines l = (behind_marker (lines_of l.bytes) ≡ behind_marker (lines_of l.rest)) × (length l.rest ≤ length l.bytes)

abbrev pub decreases-lines : goal.decreases-lines
decreases-lines l = length l.rest
