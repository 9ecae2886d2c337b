use Rattle.std.proofs.Common.{map, drop}
use Rattle.base_budget.proofs.Charging.{Left}
use Rattle.base_budget.specs.Trace.{each}
use Rattle.pred_unify.specs.Pairs.{predicate_pair}
use Rattle.formula.specs.Tree.{form}
use Rattle.sequent.specs.Views.{members_of}
use Rattle.pred_unify.specs.Reading.{behind}
use Rattle.pred_unify.proofs.pairing.predicate_pairs.Given as goal

abbrev pub invariant-loop-i : goal.invariant-loop-i
invariant-loop-i l = Left (each (λ m. predicate_pair l.p l.ss m.formula) (members_of (behind (drop l.i l.members))) (map form l.out)) (each (λ m. predicate_pair l.p l.ss m.formula) (members_of (behind (drop l.first l.members))) (map form l.fn.out))
