use Rattle.std.proofs.Common.{drop}
use Rattle.proof_tokens.proofs.Unseen.{IsLeft}
use Rattle.proof_tokens.proofs.ahead.behind_bytes.Given as goal

abbrev pub invariant-loop-byte : goal.invariant-loop-byte
invariant-loop-byte l = IsLeft l.text l.front l.rest (drop l.byte-index l.front)
