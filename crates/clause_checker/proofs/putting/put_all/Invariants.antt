use Rattle.std.proofs.Common.{◌≡◌, map, take}
use Rattle.form_closures.specs.Putting as putting
use Rattle.clause_checker.proofs.putting.put_all.Given as goal

abbrev pub invariant-loop-u : goal.invariant-loop-u
invariant-loop-u l = l.out ≡ map (putting.put_in l.ts) (take l.u-index l.us)
