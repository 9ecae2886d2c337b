use Rattle.std.proofs.Common.{◌≡◌, List, ◌++◌, length, take}
use Rattle.smt_terms.specs.Translation.{Standing}
use Rattle.smt_names.specs.Body.{shapes_of}
use Rattle.smt_names.specs.Saying.{Calls, shapes_said}
use Rattle.smt_names.proofs.binding.are_within.Given as goal

abbrev pub invariant-loop-body : goal.invariant-loop-body
invariant-loop-body l = (D : Calls) (e behind : List Standing) → length e ≡ l.count
    → shapes_said D (e ++ behind) (shapes_of (take l.body-index l.bodies)) ≡ shapes_said D e (shapes_of (take l.body-index l.bodies))
