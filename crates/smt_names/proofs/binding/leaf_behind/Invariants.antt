use Rattle.std.proofs.Common.{◌≡◌, List, length}
use Rattle.smt_terms.specs.Translation.{Standing}
use Rattle.smt_names.specs.Body.{shapes_of}
use Rattle.smt_names.specs.Saying.{Calls, bound_said, leaf_said}
use Rattle.smt_names.proofs.binding.leaf_behind.Given as goal

abbrev pub invariant-loop-last : goal.invariant-loop-last
invariant-loop-last l = (D : Calls) (e : List Standing) → length e ≡ l.count
    → leaf_said (bound_said D e (shapes_of l.fn.kept)) l.leaf ≡ leaf_said (bound_said D e (shapes_of l.kept)) l.leaf

abbrev pub decreases-loop-last : goal.decreases-loop-last
decreases-loop-last l = length l.kept
