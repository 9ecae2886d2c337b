use Rattle.std.proofs.Common.{◌≡◌, drop, length}
use Rattle.model_formulas.proofs.Matching.{MatchLeft}
use Rattle.model_formulas.proofs.atoms.matches.Given as goal

abbrev pub invariant-loop-i : goal.invariant-loop-i
invariant-loop-i l = record { long : length l.ts ≡ length l.xs; left : MatchLeft l.ts l.xs l.out (drop l.i l.ts) (drop l.i l.xs) }
