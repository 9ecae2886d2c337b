use Rattle.std.proofs.Common.{◌≡◌, false, drop, map, take}
use Rattle.form_miniscope.specs.Lowering.{lowered, some_has}
use Rattle.form_miniscope.proofs.freeing.lower_all.Given as goal

abbrev pub invariant-loop-t : goal.invariant-loop-t
invariant-loop-t l = (l.out ≡ map (lowered l.n) (take l.t-index l.terms)) × (some_has l.n (drop l.t-index l.terms) ≡ false)
