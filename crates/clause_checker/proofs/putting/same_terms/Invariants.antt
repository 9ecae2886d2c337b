use Rattle.std.proofs.Common.{◌≡◌, drop, length}
use Rattle.clause_proof.specs.Atoms as atoms
use Rattle.clause_checker.proofs.putting.same_terms.Given as goal

abbrev pub invariant-loop-i : goal.invariant-loop-i
invariant-loop-i l = record {
  is : atoms.same_terms l.ss l.ts ≡ atoms.same_terms (drop l.i l.ss) (drop l.i l.ts);
  long : length l.ss ≡ length l.ts;
}
