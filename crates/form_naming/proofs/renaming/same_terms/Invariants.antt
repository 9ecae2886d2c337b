use Rattle.std.proofs.Common.{◌≡◌, drop, length}
use Rattle.form_naming.specs.Naming as naming
use Rattle.form_naming.proofs.renaming.same_terms.Given as goal

abbrev pub invariant-loop-i : goal.invariant-loop-i
invariant-loop-i l = record {
  is : naming.same_terms l.ss l.ts ≡ naming.same_terms (drop l.i l.ss) (drop l.i l.ts);
  long : length l.ss ≡ length l.ts;
}
