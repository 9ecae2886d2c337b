use Rattle.std.proofs.Common.{◌≡◌, length, take}
use Rattle.smt_reader.proofs.forcing.first_ones.Given as goal

abbrev pub invariant-loop-effects : goal.invariant-loop-effects
invariant-loop-effects l = take l.count l.effects ≡ take l.count l.initial.effects

abbrev pub decreases-loop-effects : goal.decreases-loop-effects
decreases-loop-effects l = length l.effects
