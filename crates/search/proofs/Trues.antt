-- The conjunction of constraints that are true.
use Rattle.std.proofs.Common.{◌≡◌, ℕ, ◌+◌, ◌<◌, ◌≤◌, Bool, true, false, ◌&&◌, List, [], ◌∷◌, drop, get_or, length, Result, Ok, Err, IsErrAnd, refl, sym, subst, ap, ◌∙◌}
use Rattle.base_budget.specs.declared.fault.StepFault.{StepFault}
use Rattle.base_budget.specs.Trace.{At, Traced, just, next, pay}
use Rattle.base_budget.specs.Work.{ChargedAt, Remains}
use Rattle.base_budget.proofs.Charging.{drop-item, drop_all, remains_ends, remains_next, then_fault, then_just, then_ok}
use Rattle.base_budget.proofs.Tracing.{next-assoc}
use Rattle.clause_set.specs.declared.literal.Literal.{Literal}
use Rattle.clause_set.specs.Clauses.{clause_of, compact}
use Rattle.clause_set.specs.Dnfs.{conjunction, is_top, tidied, top}
use Rattle.clause_set.specs.Order.{sorted_once}
use Rattle.proof_tree.specs.Rules.{conjoined, first_given}
use Rattle.search.specs.Trues.{are_top}

one_top : (d : List (List Literal)) → is_top d ≡ true → d ≡ top
one_top [] h = absurd (cc)
one_top ([] ∷ []) h = refl
one_top ([] ∷ (c ∷ cs)) h = absurd (cc)
one_top ((l ∷ ls) ∷ cs) h = absurd (cc)

first_is : (a b : Bool) → (a && b) ≡ true → a ≡ true
first_is true b h = refl
first_is false b h = h

second_is : (a b : Bool) → (a && b) ≡ true → b ≡ true
second_is true b h = h
second_is false b h = absurd (cc)

-- some constraints, all true
pub first_top : (ds : List (List (List Literal))) → are_top ds ≡ true → ¬ (ds ≡ []) → first_given ds ≡ top
first_top [] all some = absurd (some refl)
first_top (d ∷ ds) all some = one_top d (first_is (is_top d) (are_top ds) all)

-- a true constraint beside true ones costs two steps
both_is : next (next (pay 1) (λ _. pay 1)) (λ _. just top) ≡ conjunction top top
unfolding tidied sorted_once clause_of compact
both_is = next-assoc (pay 1) (λ _. pay 1) (λ _. just top)

paid : {a b : At} → ChargedAt (next (pay 1) (λ _. pay 1)) a (Ok tt) b → ChargedAt (conjunction top top) a (Ok top) b
paid {a} {b} h = subst (λ (w : Traced (List (List Literal))). ChargedAt w a (Ok top) b) both_is (then_ok (next (pay 1) (λ _. pay 1)) (λ _. just top) h (then_just top top refl))

unpaid : {a b : At} {e : StepFault} → ChargedAt (next (pay 1) (λ _. pay 1)) a (Err e) b → ChargedAt (conjunction top top) a (Err e) b
unpaid {a} {b} {e} h = subst (λ (w : Traced (List (List Literal))). ChargedAt w a (Err e) b) both_is (then_fault (next (pay 1) (λ _. pay 1)) (λ _. just top) h)

-- the constraint at i and what is left
at_item : (ds : List (List (List Literal))) (i : ℕ) (d : List (List Literal)) → i < length ds → d ≡ get_or ds i d → are_top (drop i ds) ≡ true → (drop i ds ≡ top ∷ drop (i + 1) ds) × (are_top (drop (i + 1) ds) ≡ true)
at_item ds i d lt is all =
    let here = drop-item ds i d lt is in
    let both : (is_top d && are_top (drop (i + 1) ds)) ≡ true = ap are_top (sym here) ∙ all in
    (here ∙ ap (λ (x : List (List Literal)). x ∷ drop (i + 1) ds) (one_top d (first_is (is_top d) (are_top (drop (i + 1) ds)) both)), second_is (is_top d) (are_top (drop (i + 1) ds)) both)

pub true_paid : (ds : List (List (List Literal))) (i : ℕ) (d : List (List Literal)) {now b old : At} {work : Traced (List (List Literal))} → i < length ds → d ≡ get_or ds i d → are_top (drop i ds) ≡ true
    → Remains (conjoined (drop i ds) top) now work old → ChargedAt (next (pay 1) (λ _. pay 1)) now (Ok tt) b → Remains (conjoined (drop (i + 1) ds) top) b work old × (are_top (drop (i + 1) ds) ≡ true)
true_paid ds i d {now} {b} {old} {work} lt is all inv h =
    let both = at_item ds i d lt is all in (
      remains_next (conjunction top top) (λ x. conjoined (drop (i + 1) ds) x) (subst (λ (l : List (List (List Literal))). Remains (conjoined l top) now work old) both.0 inv) (paid h),
      both.1,
    )

pub true_unpaid : (ds : List (List (List Literal))) (i : ℕ) (d : List (List Literal)) {now b old : At} {work : Traced (List (List Literal))} {e : StepFault} (r : Result (List (List Literal)) StepFault) → i < length ds → d ≡ get_or ds i d → are_top (drop i ds) ≡ true
    → Remains (conjoined (drop i ds) top) now work old → IsErrAnd r (λ x. x ≡ e) → ChargedAt (next (pay 1) (λ _. pay 1)) now (Err e) b → ChargedAt work old r b
true_unpaid ds i d {now} {b} {old} {work} {e} (Ok v) lt is all inv err h = absurd err
true_unpaid ds i d {now} {b} {old} {work} {e} (Err x) lt is all inv err h =
    let both = at_item ds i d lt is all in
    subst (λ (z : StepFault). ChargedAt work old (Err z) b) (sym err)
    (remains_ends (subst (λ (l : List (List (List Literal))). Remains (conjoined l top) now work old) both.0 inv) (then_fault (conjunction top top) (λ x. conjoined (drop (i + 1) ds) x) (unpaid h)))

pub true_end : (ds : List (List (List Literal))) (i : ℕ) (d : List (List Literal)) {now old : At} {work : Traced (List (List Literal))} → length ds ≤ i → d ≡ top → Remains (conjoined (drop i ds) top) now work old → ChargedAt work old (Ok d) now
true_end ds i d {now} {old} {work} le is inv =
    remains_ends (subst (λ (l : List (List (List Literal))). Remains (conjoined l top) now work old) (drop_all ds i le) inv) (then_just top d is)
