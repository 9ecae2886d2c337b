use Rattle.std.proofs.Common.{◌≡◌, ◌++◌, map, drop}
use Rattle.formula.specs.Tree.{form}
use Rattle.pred_unify.specs.Reading.{behind}
use Rattle.sequent.specs.Rules.{brought}
use Rattle.pred_unify.proofs.pairing.all_brought.Given as goal

abbrev pub invariant-loop-m : goal.invariant-loop-m
invariant-loop-m l = map form l.out ++ map (λ m. brought m.over l.count (form m.formula)) (behind (drop l.m-index l.members)) ≡ map (λ m. brought m.over l.count (form m.formula)) (behind l.members)
