use Rattle.std.proofs.Common.{◌≡◌, take}
use Rattle.form_naming.proofs.renaming.copied.Given as goal

abbrev pub invariant-loop-t : goal.invariant-loop-t
invariant-loop-t l = l.out ≡ take l.t-index l.terms
