use Rattle.std.proofs.Common.{◌≡◌, ◌++◌, drop, true}
use Rattle.proof_constraint.specs.Text.{pairs_text}
use Rattle.proof_tokens.specs.Spellings.{spelled}
use Rattle.proof_printer.proofs.given.put_pairs.Given as goal

abbrev pub invariant-loop-pair : goal.invariant-loop-pair
invariant-loop-pair l = l.out.items ++ spelled (pairs_text l.first (drop l.pair-index l.pairs)) ≡ l.fn.out.items ++ spelled (pairs_text true l.pairs)
