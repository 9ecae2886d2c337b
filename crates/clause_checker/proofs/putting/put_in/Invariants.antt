use Rattle.std.proofs.Common.{drop}
use Rattle.form_closures.specs.Putting as putting
use Rattle.form_closures.proofs.Puts.{PutLeft}
use Rattle.clause_checker.proofs.putting.put_in.Given as goal

abbrev pub invariant-loop-pair : goal.invariant-loop-pair
invariant-loop-pair l = PutLeft l.ts (drop l.pair-index l.t.pairs) l.sum (putting.put_in l.ts l.t)
