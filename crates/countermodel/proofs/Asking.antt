-- Rows that members ask for.
use Rattle.std.proofs.Common.{◌≡◌, ◌+◌, ◌<◌, ◌≤◌, ℕ, List, [], ◌∷◌, ◌++◌, drop, length, get_or, refl, Result, Ok, Err, IsErrAnd, sym, subst}
use Rattle.base_budget.specs.declared.fault.StepFault.{StepFault}
use Rattle.base_budget.specs.Trace.{Traced, just, each}
use Rattle.base_budget.specs.Work.{Worked}
use Rattle.base_budget.proofs.Charging.{Left, drop-item, drop_all, left_ends, left_next, work_err, work_just}
use Rattle.sequent.specs.declared.member.Member as code
use Rattle.sequent.specs.Sequent.{Member}
use Rattle.sequent.specs.Views.{member_of, members_of}

-- nothing is asked for
pub nothing_asked : {R : Type 0} (w : Traced (List R)) (out : List R) → w ≡ just [] → out ≡ [] → Worked w (Ok out)
nothing_asked w out is none = subst (λ z. Worked z (Ok out)) (sym is) (work_just [] out none)

-- ---- the members from number i on
first_of : {R : Type 0} (g : Member → Traced (List R)) (ms : List code.Member) (i : ℕ) (m : code.Member) (out : List R) {work : Traced (List R)} → i < length ms → m ≡ get_or ms i m
    → Left (each g (members_of (drop i ms)) out) work → Left (each g (member_of m ∷ members_of (drop (i + 1) ms)) out) work
first_of g ms i m out {work} lt is inv = subst (λ (xs : List code.Member). Left (each g (members_of xs) out) work) (drop-item ms i m lt is) inv

pub rows_cut : {R : Type 0} {x : StepFault} (g : Member → Traced (List R)) (ms : List code.Member) (i : ℕ) (m : code.Member) (out : List R) {work : Traced (List R)} (r : Result (List R) StepFault) → i < length ms → m ≡ get_or ms i m
    → Left (each g (members_of (drop i ms)) out) work → Worked (g (member_of m)) (Err x) → IsErrAnd r (λ y. y ≡ x) → Worked work r
rows_cut g ms i m out r lt is inv did h = left_ends (first_of g ms i m out lt is inv) (work_err (g (member_of m)) (λ ds. each g (members_of (drop (i + 1) ms)) (out ++ ds)) r h did)

pub rows_next : {R : Type 0} (g : Member → Traced (List R)) (ms : List code.Member) (i : ℕ) (m : code.Member) (out now new : List R) {work : Traced (List R)} → i < length ms → m ≡ get_or ms i m
    → Left (each g (members_of (drop i ms)) out) work → Worked (g (member_of m)) (Ok new) → now ≡ out ++ new → Left (each g (members_of (drop (i + 1) ms)) now) work
rows_next g ms i m out now new {work} lt is inv did whole =
    subst (λ (rs : List _). Left (each g (members_of (drop (i + 1) ms)) rs) work) (sym whole)
    (left_next (g (member_of m)) (λ ds. each g (members_of (drop (i + 1) ms)) (out ++ ds)) (first_of g ms i m out lt is inv) did)

pub rows_done : {R : Type 0} (g : Member → Traced (List R)) (ms : List code.Member) (i : ℕ) (out : List R) {work : Traced (List R)} → length ms ≤ i → Left (each g (members_of (drop i ms)) out) work → Worked work (Ok out)
rows_done g ms i out {work} le inv = left_ends (subst (λ (xs : List code.Member). Left (each g (members_of xs) out) work) (drop_all ms i le) inv) (work_just out out refl)
