use Rattle.std.proofs.Common.{◌≡◌, ◌+◌, ◌++◌, length}
use Rattle.smt_tokens.specs.Lexemes.{lexemes_from, lexemes_of}
use Rattle.smt_tokens.proofs.scanner.lexemes.Given as goal

abbrev pub invariant-loop-piece : goal.invariant-loop-piece
invariant-loop-piece l = record {
  scanned : l.found ++ lexemes_from l.at 0 l.rest ≡ lexemes_of l.bytes;
  inside : l.at + length l.rest ≡ length l.bytes;
}

abbrev pub decreases-loop-piece : goal.decreases-loop-piece
decreases-loop-piece l = length l.rest
