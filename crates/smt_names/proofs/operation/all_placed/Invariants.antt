use Rattle.std.proofs.Common.{◌≡◌, List, take}
use Rattle.smt_terms.specs.Translation.{Standing}
use Rattle.smt_names.specs.Body.{shapes_of}
use Rattle.smt_names.specs.Saying.{Calls, shapes_said}
use Rattle.smt_names.proofs.operation.all_placed.Given as goal

abbrev pub invariant-loop-body : goal.invariant-loop-body
invariant-loop-body l = (C D : Calls) (e : List Standing)
    → shapes_said D e (shapes_of l.out) ≡ shapes_said C (shapes_said D e (shapes_of l.arguments)) (shapes_of (take l.body-index l.inner))
