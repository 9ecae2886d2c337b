use Rattle.std.proofs.Common.{◌≡◌, ℕ, List}
use Rattle.smt_terms.specs.Translation.{Standing}
use Rattle.smt_names.specs.Body.{Shape, shapes_of}
use Rattle.smt_names.specs.Saying.{Calls, shape_said, shapes_said}
use Rattle.smt_names.specs.Uses.{AreMarked}
use Rattle.smt_names.proofs.uses.trimmed.Given as goal

abbrev pub invariant-loop-i : goal.invariant-loop-i
invariant-loop-i l = (t : Shape) → AreMarked l.used t → (C D : Calls) (e : List Standing) (n : ℕ)
    → shape_said C (shapes_said D e (shapes_of l.out)) t n ≡ shape_said C (shapes_said D e (shapes_of l.fn.arguments)) t n
