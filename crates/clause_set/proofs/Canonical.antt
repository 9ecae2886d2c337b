-- The tidy form of clauses is sorted, each clause once, and none of its clauses is outdone by another one.
use Rattle.std.proofs.Common.{◌≡◌, ◌<◌, ℕ, Some, Bool, true, false, not, ◌&&◌, ◌||◌, cond, List, [], ◌∷◌, length, refl, sym, ◌∙◌, ap, subst, arith}
use Rattle.std.specs.Prelude.{All}
use Rattle.std.specs.List.{AllByRecursion, list_any, filter}
use Rattle.std.specs.List.Sorted.{IsStrictlySortedBy}
use Rattle.std.proofs.lemmas.List.Kept.{IsStrictlySortedBy-filter}
use Rattle.std.proofs.lemmas.List.Elements.{All-from_recursion, recursion_from_All}
use Rattle.linear_term.proofs.Totals.{by_test}
use Rattle.clause_set.specs.declared.literal.Literal.{Literal}
use Rattle.clause_set.specs.Clause.{IsClause, IsDnf}
use Rattle.clause_set.specs.Clauses.{clause_of, compact}
use Rattle.clause_set.specs.Literals.{HasDivisor, IsLiteral}
use Rattle.clause_set.specs.Marks.{IsMarked}
use Rattle.clause_set.specs.Order.{clause_cmp, is_clause, sorted_once}
use Rattle.clause_set.specs.Dnfs.{covers, outdoes, is_covered, uncovered, tidied, top}
use Rattle.clause_set.proofs.Covers.{Among, any_from, any_with, among_filter_back, by_no, not_true}
use Rattle.clause_set.proofs.Orders.{clause_cmp-equal, is_eq-equal}
use Rattle.clause_set.proofs.Divisors.{sorted_once-kept}
use Rattle.clause_set.proofs.Intervals.{covers-back}
use Rattle.clause_set.proofs.Sorted.{clause_cmp-total, sorted_once-sorted, all_among, all_of}

pub tidied-sorted : (cs : List (List Literal)) → IsStrictlySortedBy clause_cmp (tidied cs)
unfolding tidied
tidied-sorted cs = IsStrictlySortedBy-filter clause_cmp (λ c. not (is_covered (sorted_once clause_cmp cs) c)) (sorted_once clause_cmp cs) (sorted_once-sorted clause_cmp clause_cmp-total cs)

-- a clause alone is tidy, and so is none
not_over : (b : Bool) → not ((b && not b) || false) ≡ true
not_over true = refl
not_over false = refl

alone_again : (c : List Literal) → c ∷ [] ≡ tidied (c ∷ [])
unfolding tidied sorted_once
alone_again c = ap (λ b. cond b (c ∷ []) []) (sym (not_over (covers c c)))

pub tidied_few : (cs : List (List Literal)) → length cs < 2 → cs ≡ tidied cs
unfolding tidied sorted_once
tidied_few [] lt = refl
tidied_few (c ∷ []) lt = alone_again c
tidied_few (c ∷ d ∷ cs) lt = absurd (omega (arith, lt))

pub ruleset few = (tidied_few)

filter_passes : {X : Type 0} (test : X → Bool) (xs : List X) → AllByRecursion (λ x. test x ≡ true) (filter test xs)
filter_passes test [] = tt
filter_passes test (x ∷ xs) =
    by_test (AllByRecursion (λ y. test y ≡ true)) (test x) (x ∷ filter test xs) (filter test xs) (λ t. (t, filter_passes test xs)) (λ _. filter_passes test xs)

uncovered_in : (cs : List (List Literal)) (c : List Literal) → not (is_covered cs c) ≡ true → is_covered (uncovered cs) c ≡ false
uncovered_in cs c n =
    by_no (is_covered (uncovered cs) c)
    (λ h. let w = any_from (λ d. outdoes d c) (uncovered cs) h in
    not_true (is_covered cs c) n
    (any_with (λ d. outdoes d c) w.element cs (among_filter_back (λ d. not (is_covered cs d)) w.element cs w.among) w.passes))

uncovered-alone : (cs : List (List Literal)) → AllByRecursion (λ c. is_covered (uncovered cs) c ≡ false) (uncovered cs)
uncovered-alone cs =
    all_of (λ c. is_covered (uncovered cs) c ≡ false) (uncovered cs)
    (λ c m. uncovered_in cs c (all_among (λ d. not (is_covered cs d) ≡ true) c (uncovered cs) (filter_passes (λ d. not (is_covered cs d)) cs) m))

pub tidied-alone : (cs : List (List Literal)) → All (λ c. is_covered (tidied cs) c ≡ false) (tidied cs)
unfolding tidied
tidied-alone cs = All-from_recursion (λ c. is_covered (tidied cs) c ≡ false) (tidied cs) (uncovered-alone (sorted_once clause_cmp cs))

both_true : (a b : Bool) → a ≡ true → b ≡ false → (a && not b) ≡ true
both_true true b h k = ap not k
both_true false b h k = absurd cc

uncovered-only : (cs : List (List Literal)) → AllByRecursion IsClause cs → (d c : List Literal) → Among d (uncovered cs) → Among c (uncovered cs) → covers d c ≡ true → d ≡ c
uncovered-only cs h d c a b k =
    by_test (λ (z : Bool). d ≡ c) (covers c d) true false
    (λ y. covers-back d c
    (all_among IsClause d cs h (among_filter_back (λ x. not (is_covered cs x)) d cs a))
    (all_among IsClause c cs h (among_filter_back (λ x. not (is_covered cs x)) c cs b)) k y)
    (λ n. let yes : is_covered (uncovered cs) c ≡ true = any_with (λ x. outdoes x c) d (uncovered cs) a (both_true (covers d c) (covers c d) k n) in
    let no : is_covered (uncovered cs) c ≡ false = all_among (λ x. is_covered (uncovered cs) x ≡ false) c (uncovered cs) (uncovered-alone cs) b in
    let z : true ≡ false = sym yes ∙ no in absurd cc)

held_clause : (cs : List (List Literal)) (d : List Literal) → list_any (is_clause d) cs ≡ true → Among d cs
held_clause cs d t = let w = any_from (is_clause d) cs t in subst (λ z. Among z cs) (sym (clause_cmp-equal d w.element (is_eq-equal (clause_cmp d w.element) w.passes))) w.among

-- a clause of the tidy form that covers one of it is that one
pub tidied-only : (cs : List (List Literal)) → All IsClause cs → (d c : List Literal) → list_any (is_clause d) (tidied cs) ≡ true → list_any (is_clause c) (tidied cs) ≡ true
    → covers d c ≡ true → d ≡ c
unfolding tidied
tidied-only cs h d c a b k =
    let sorted = sorted_once clause_cmp cs in
    uncovered-only sorted (sorted_once-kept IsClause clause_cmp cs (recursion_from_All IsClause cs h)) d c (held_clause (uncovered sorted) d a) (held_clause (uncovered sorted) c b) k

-- what tidying gives is in form
pub dnf_of_tidied : (cs d : List (List Literal)) → d ≡ tidied cs → IsDnf d
dnf_of_tidied cs d is = subst IsDnf (sym is) (record { sorted = tidied-sorted cs; uncovered = tidied-alone cs })

no_clause : tidied [] ≡ []
unfolding tidied sorted_once
no_clause = refl

one_clause : tidied top ≡ top
unfolding tidied sorted_once
one_clause = refl

pub dnf_of_top : (d : List (List Literal)) → d ≡ top → IsDnf d
dnf_of_top d is = dnf_of_tidied top d (is ∙ sym one_clause)

pub dnf_of_bottom : (d : List (List Literal)) → d ≡ [] → IsDnf d
dnf_of_bottom d is = dnf_of_tidied [] d (is ∙ sym no_clause)

pub dnf_of_same : (c d : List (List Literal)) → d ≡ c → IsDnf c → IsDnf d
dnf_of_same c d is h = subst IsDnf (sym is) h

-- ---- the clause without literals
true_form : clause_of [] ≡ Some []
unfolding clause_of compact sorted_once
true_form = refl

true_clause : IsClause []
true_clause = record { conjunction = []; of_literals = All-from_recursion IsLiteral [] tt; is = true_form; literals = All-from_recursion IsLiteral [] tt; divisors = All-from_recursion HasDivisor [] tt }

pub marked_true : (c : List Literal) (m n : ℕ) → c ≡ [] → m ≡ 0 → n ≡ 0 → IsMarked c m n
marked_true c m n e f g =
    subst (λ z. IsMarked z m n) (sym e) (record { clause = true_clause; own = f; opposite = g })

pub ruleset true_clauses = (marked_true)

pub ruleset dnfs = (dnf_of_tidied, dnf_of_top, dnf_of_bottom, dnf_of_same)
