use Rattle.std.proofs.Common.{drop}
use Rattle.form_closures.specs.Putting as terms
use Rattle.form_closures.proofs.Puts.{PutLeft}
use Rattle.model_formulas.proofs.putting.put_in.Given as goal

abbrev pub invariant-loop-pair : goal.invariant-loop-pair
invariant-loop-pair l = PutLeft l.ts (drop l.pair-index l.t.pairs) l.sum (terms.put_in l.ts l.t)
