use Rattle.std.proofs.Common.{map, drop}
use Rattle.base_budget.proofs.Charging.{Left}
use Rattle.base_budget.specs.Trace.{each}
use Rattle.pred_unify.specs.Pairs.{function_pair}
use Rattle.formula.specs.Tree.{form}
use Rattle.sequent.specs.Views.{members_of}
use Rattle.pred_unify.specs.Reading.{behind}
use Rattle.pred_unify.proofs.pairing.function_values.Given as goal

abbrev pub invariant-loop-m : goal.invariant-loop-m
invariant-loop-m l = Left (each (λ m. function_pair l.f l.ss l.u m.formula) (members_of (behind (drop l.m-index l.members))) (map form l.out)) (each (λ m. function_pair l.f l.ss l.u m.formula) (members_of (behind l.members)) (map form l.fn.out))
