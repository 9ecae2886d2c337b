-- What work in a row charges.
use Rattle.std.proofs.Common.{◌≡◌, ◌+◌, [], ◌∷◌, refl, arith}
use Rattle.base_budget.specs.Runs.{total}
use Rattle.base_budget.specs.Trace.{mark, Traced, just, step, next, new_log}
use Rattle.proof_tree.specs.Walk.{in_new_log}
use Rattle.search.proofs.Endings.{total-append}

pub total-next : {A B : Type 0} (m : Traced A) (f : A → Traced B) → total (next m f).events ≡ total m.events + total (f m.value).events
unfolding next
total-next m f = total-append m.events (f m.value).events

pub total-in_new_log : {A : Type 0} (w : Traced A) → total (in_new_log w).events ≡ total w.events
unfolding next step just
total-in_new_log w =
    let e : total (in_new_log w).events ≡ total w.events + total (mark new_log ∷ []) = total-append w.events (mark new_log ∷ []) in
    let z : total (mark new_log ∷ []) ≡ 0 = refl in
    omega (arith, e, z)
