use Rattle.std.proofs.Common.{drop}
use Rattle.model_formulas.proofs.Matching.{KnownSo}
use Rattle.model_formulas.proofs.atoms.known.Given as goal

abbrev pub invariant-loop-t : goal.invariant-loop-t
invariant-loop-t l = KnownSo l.ts l.out (drop l.t-index l.ts)
