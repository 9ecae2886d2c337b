use Rattle.std.proofs.Common.{◌≡◌, drop}
use Rattle.smt_division.specs.Divisors.{total}
use Rattle.smt_division.proofs.divisors.total.Given as goal

abbrev pub invariant-loop-n : goal.invariant-loop-n
invariant-loop-n l = total l.sign l.value (drop l.n-index l.more) ≡ total l.sign l.first l.more
