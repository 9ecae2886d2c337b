use Rattle.std.proofs.Common.{◌≡◌, ℕ, true, false, get_or, take}
use Rattle.smt_names.specs.Body.{shapes_of}
use Rattle.smt_names.specs.Uses.{occurs_in}
use Rattle.smt_names.proofs.uses.+mark.Given as goal

abbrev pub invariant-mark_all-loop-body : goal.invariant-mark_all-loop-body
invariant-mark_all-loop-body l = (i : ℕ) → get_or l.marks i true ≡ false → (get_or l.initial.marks i true ≡ false) × (occurs_in i (shapes_of (take l.body-index l.bodies)) ≡ false)
