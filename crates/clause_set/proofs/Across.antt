-- Tidying what is tidy: it stays as it is, and of two tidy disjunctions a clause is kept where no clause of the other one outdoes it.
use Rattle.std.proofs.Common.{◌≡◌, Bool, true, false, not, ◌||◌, ◌&&◌, subst, List, [], ◌∷◌, ◌++◌, length, arith, ◌⊎◌, inl, inr, refl, sym, ◌∙◌, ap}
use Rattle.std.specs.Prelude.{All}
use Rattle.std.specs.List.{AllByRecursion, list_all, filter}
use Rattle.std.specs.Cmp.{first_so, second_so}
use Rattle.std.specs.List.Sorted.{IsStrictlySortedBy}
use Rattle.std.proofs.lemmas.List.{append-nil}
use Rattle.std.proofs.lemmas.List.Kept.{IsStrictlySortedBy-filter}
use Rattle.std.proofs.lemmas.List.Folds.{list_any-append}
use Rattle.std.proofs.lemmas.List.Elements.{recursion_from_All}
use Rattle.clause_set.specs.declared.literal.Literal.{Literal}
use Rattle.clause_set.specs.Clause.{IsClause, IsDnf}
use Rattle.clause_set.specs.Order.{clause_cmp, sorted_once}
use Rattle.clause_set.specs.Clauses.{clause_of, found}
use Rattle.clause_set.specs.Dnfs.{covers, outdoes, is_covered, uncovered, tidied, joined, joined_with, top}
use Rattle.clause_set.specs.Keeping.{kept_by}
use Rattle.clause_set.specs.declared.literal.Literal.TheVariants.{Eq, Geq, Div, NDiv}
use Rattle.clause_set.proofs.Canonical.{dnf_of_top}
use Rattle.clause_set.proofs.Covers.{Among, among_filter, among_filter_back}
use Rattle.clause_set.proofs.Orders.{clause_cmp-equal, sorted_once-any}
use Rattle.clause_set.proofs.Sorted.{clause_cmp-total, sorted_once-sorted, sorted-same, all_among}
use Rattle.clause_set.proofs.Putting.{among_sorted, sorted_among}
use Rattle.clause_set.proofs.Points.{sorted_once-own, clause-own}
use Rattle.linear_term.proofs.Totals.{by_test}

-- ---- what is tidy
-- a list all of which passes
pub filter_whole : {X : Type 0} (test : X → Bool) (xs : List X) → list_all test xs ≡ true → filter test xs ≡ xs
filter_whole test [] h = refl
filter_whole test (x ∷ xs) h =
    by_test (λ z. z ≡ x ∷ xs) (test x) (x ∷ filter test xs) (filter test xs)
    (λ _. ap (λ z. x ∷ z) (filter_whole test xs (second_so (test x) (list_all test xs) h)))
    (λ n. let z : true ≡ false = sym (first_so (test x) (list_all test xs) h) ∙ n in absurd cc)

pub filter_all : {X : Type 0} (test : X → Bool) (xs : List X) → AllByRecursion (λ x. test x ≡ true) xs → filter test xs ≡ xs
filter_all test [] h = refl
filter_all test (x ∷ xs) h =
    by_test (λ z. z ≡ x ∷ xs) (test x) (x ∷ filter test xs) (filter test xs)
    (λ _. ap (λ z. x ∷ z) (filter_all test xs h.1)) (λ n. let z : true ≡ false = sym h.0 ∙ n in absurd cc)

pub not_covered : (cs ds : List (List Literal)) → AllByRecursion (λ c. is_covered cs c ≡ false) ds → AllByRecursion (λ c. not (is_covered cs c) ≡ true) ds
not_covered cs [] h = tt
not_covered cs (d ∷ ds) h = (ap not h.0, not_covered cs ds h.1)

uncovered-own : (cs : List (List Literal)) → All (λ c. is_covered cs c ≡ false) cs → uncovered cs ≡ cs
uncovered-own cs h = filter_all (λ c. not (is_covered cs c)) cs (not_covered cs cs (recursion_from_All (λ c. is_covered cs c ≡ false) cs h))

-- what is in tidy form stays as it is
pub tidied-own : (d : List (List Literal)) → IsDnf d → tidied d ≡ d
unfolding tidied
tidied-own d h = ap uncovered (sorted_once-own clause_cmp d h.sorted) ∙ uncovered-own d h.uncovered

-- ---- two tidy disjunctions
among_more : {X : Type 0} (x z : X) (xs ys : List X) → Among x xs ⊎ Among x ys → Among x (z ∷ xs) ⊎ Among x ys
among_more x z xs ys (inl m) = inl (inr m)
among_more x z xs ys (inr m) = inr m

pub among_append : {X : Type 0} (x : X) (xs ys : List X) → Among x (xs ++ ys) → Among x xs ⊎ Among x ys
among_append x [] ys m = inr m
among_append x (z ∷ xs) ys (inl e) = inl (inl e)
among_append x (z ∷ xs) ys (inr m) = among_more x z xs ys (among_append x xs ys m)

pub among_left : {X : Type 0} (x : X) (xs ys : List X) → Among x xs → Among x (xs ++ ys)
among_left x [] ys m = absurd m
among_left x (z ∷ xs) ys (inl e) = inl e
among_left x (z ∷ xs) ys (inr m) = inr (among_left x xs ys m)

pub among_right : {X : Type 0} (x : X) (xs ys : List X) → Among x ys → Among x (xs ++ ys)
among_right x [] ys m = m
among_right x (z ∷ xs) ys m = inr (among_right x xs ys m)

test_first : {X : Type 0} (test : X → Bool) (x y : X) (ys : List X) → test y ≡ true → (Among x (filter test ys) → test x ≡ true) → Among x (y ∷ filter test ys) → test x ≡ true
test_first test x y ys t f (inl e) = ap test e ∙ t
test_first test x y ys t f (inr m) = f m

test_of : {X : Type 0} (test : X → Bool) (x : X) (xs : List X) → Among x (filter test xs) → test x ≡ true
test_of test x [] m = absurd m
test_of test x (y ∷ ys) m =
    by_test (λ zs. Among x zs → test x ≡ true) (test y) (y ∷ filter test ys) (filter test ys)
    (λ t k. test_first test x y ys t (test_of test x ys) k) (λ _ k. test_of test x ys k) m

-- what no clause of both covers
covered_of_both : (a b : List (List Literal)) (c : List Literal) → is_covered (sorted_once clause_cmp (a ++ b)) c ≡ (is_covered a c || is_covered b c)
covered_of_both a b c = sorted_once-any clause_cmp (λ d. outdoes d c) clause_cmp-equal (a ++ b) ∙ list_any-append (λ d. outdoes d c) a b

by_part : {X Y Z : Type 0} → (X → Z) → (Y → Z) → X ⊎ Y → Z
by_part f g (inl x) = f x
by_part f g (inr y) = g y

or_false : (a b : Bool) → a ≡ false → b ≡ false → (a || b) ≡ false
or_false true b h k = absurd (cc)
or_false false b h k = k

or_left : (a b : Bool) → (a || b) ≡ false → a ≡ false
or_left true b h = absurd (cc)
or_left false b h = refl

or_right : (a b : Bool) → (a || b) ≡ false → b ≡ false
or_right true b h = absurd (cc)
or_right false b h = h

no_of : (b : Bool) → not b ≡ true → b ≡ false
no_of true h = absurd (cc)
no_of false h = refl

stays_left : (a b : List (List Literal)) (c : List Literal) → IsDnf a → Among c (kept_by b a) → Among c (tidied (a ++ b))
unfolding tidied
stays_left a b c h m =
    let own : is_covered a c ≡ false = all_among (λ z. is_covered a z ≡ false) c a (recursion_from_All (λ z. is_covered a z ≡ false) a h.uncovered) (among_filter_back (λ z. not (is_covered b z)) c a m) in
    let other : is_covered b c ≡ false = no_of (is_covered b c) (test_of (λ z. not (is_covered b z)) c a m) in
    among_filter (λ z. not (is_covered (sorted_once clause_cmp (a ++ b)) z)) c (sorted_once clause_cmp (a ++ b))
    (among_sorted clause_cmp clause_cmp-equal c (a ++ b) (among_left c a b (among_filter_back (λ z. not (is_covered b z)) c a m)))
    (ap not (covered_of_both a b c ∙ or_false (is_covered a c) (is_covered b c) own other))

stays_right : (a b : List (List Literal)) (c : List Literal) → IsDnf b → Among c (kept_by a b) → Among c (tidied (a ++ b))
unfolding tidied
stays_right a b c h m =
    let own : is_covered b c ≡ false = all_among (λ z. is_covered b z ≡ false) c b (recursion_from_All (λ z. is_covered b z ≡ false) b h.uncovered) (among_filter_back (λ z. not (is_covered a z)) c b m) in
    let other : is_covered a c ≡ false = no_of (is_covered a c) (test_of (λ z. not (is_covered a z)) c b m) in
    among_filter (λ z. not (is_covered (sorted_once clause_cmp (a ++ b)) z)) c (sorted_once clause_cmp (a ++ b))
    (among_sorted clause_cmp clause_cmp-equal c (a ++ b) (among_right c a b (among_filter_back (λ z. not (is_covered a z)) c b m)))
    (ap not (covered_of_both a b c ∙ or_false (is_covered a c) (is_covered b c) other own))

kept_of_both : (a b : List (List Literal)) (c : List Literal) → IsDnf a → IsDnf b → Among c (kept_by b a) ⊎ Among c (kept_by a b) → Among c (tidied (a ++ b))
kept_of_both a b c h k (inl m) = stays_left a b c h m
kept_of_both a b c h k (inr m) = stays_right a b c k m

found_in_both : (a b : List (List Literal)) (c : List Literal) → (is_covered a c || is_covered b c) ≡ false → Among c a ⊎ Among c b → Among c (kept_by b a ++ kept_by a b)
found_in_both a b c h (inl m) =
    among_left c (kept_by b a) (kept_by a b) (among_filter (λ z. not (is_covered b z)) c a m (ap not (or_right (is_covered a c) (is_covered b c) h)))
found_in_both a b c h (inr m) =
    among_right c (kept_by b a) (kept_by a b) (among_filter (λ z. not (is_covered a z)) c b m (ap not (or_left (is_covered a c) (is_covered b c) h)))

back_from_both : (a b : List (List Literal)) (c : List Literal) → Among c (tidied (a ++ b)) → Among c (kept_by b a ++ kept_by a b)
unfolding tidied
back_from_both a b c m =
    let s : List (List Literal) = sorted_once clause_cmp (a ++ b) in
    let n : is_covered s c ≡ false = no_of (is_covered s c) (test_of (λ z. not (is_covered s z)) c s m) in
    found_in_both a b c (sym (covered_of_both a b c) ∙ n)
    (among_append c a b (sorted_among clause_cmp c (a ++ b) (among_filter_back (λ z. not (is_covered s z)) c s m)))

sorted_tidied : (cs : List (List Literal)) → IsStrictlySortedBy clause_cmp (tidied cs)
unfolding tidied
sorted_tidied cs = IsStrictlySortedBy-filter clause_cmp (λ c. not (is_covered (sorted_once clause_cmp cs) c)) (sorted_once clause_cmp cs) (sorted_once-sorted clause_cmp clause_cmp-total cs)

-- of two tidy disjunctions those clauses are kept that no clause of the other one outdoes, equal ones once
pub tidied-both : (a b : List (List Literal)) → IsDnf a → IsDnf b → sorted_once clause_cmp (kept_by b a ++ kept_by a b) ≡ tidied (a ++ b)
tidied-both a b h k =
    sorted-same clause_cmp clause_cmp-total (sorted_once clause_cmp (kept_by b a ++ kept_by a b)) (tidied (a ++ b))
    (sorted_once-sorted clause_cmp clause_cmp-total (kept_by b a ++ kept_by a b)) (sorted_tidied (a ++ b))
    (λ c m. kept_of_both a b c h k (among_append c (kept_by b a) (kept_by a b) (sorted_among clause_cmp c (kept_by b a ++ kept_by a b) m)))
    (λ c m. among_sorted clause_cmp clause_cmp-equal c (kept_by b a ++ kept_by a b) (back_from_both a b c m))

-- ---- conjunctions with what is true or false
found_own : (c : List Literal) → IsClause c → found (clause_of c) ≡ c ∷ []
found_own c h = ap found (clause-own c h)

joined_with-nothing : (d : List (List Literal)) → AllByRecursion IsClause d → joined_with [] d ≡ d
joined_with-nothing [] h = refl
joined_with-nothing (c ∷ d) h = ap (λ z. z ++ joined_with [] d) (found_own c h.0) ∙ ap (λ z. c ∷ z) (joined_with-nothing d h.1)

pub joined-top_left : (d : List (List Literal)) → AllByRecursion IsClause d → joined top d ≡ d
joined-top_left d h = append-nil (joined_with [] d) ∙ joined_with-nothing d h

with_top : (c : List Literal) → IsClause c → joined_with c top ≡ c ∷ []
with_top c h = append-nil (found (clause_of (c ++ []))) ∙ ap (λ z. found (clause_of z)) (append-nil c) ∙ found_own c h

pub joined-top_right : (d : List (List Literal)) → AllByRecursion IsClause d → joined d top ≡ d
joined-top_right [] h = refl
joined-top_right (c ∷ d) h = ap (λ z. z ++ joined d top) (with_top c h.0) ∙ ap (λ z. c ∷ z) (joined-top_right d h.1)

-- ---- disjunctions with what is true
and_no : (x : Bool) → (x && false) ≡ false
and_no true = refl
and_no false = refl

never_covered : (b : List (List Literal)) → is_covered b [] ≡ false
never_covered [] = refl
never_covered (d ∷ ds) = or_false (outdoes d []) (is_covered ds []) (and_no (covers d [])) (never_covered ds)

no_literal : (c : List Literal) → outdoes [] c ≡ false → c ≡ []
no_literal [] h = refl
no_literal (Eq t ∷ c) h = absurd (cc)
no_literal (Geq t ∷ c) h = absurd (cc)
no_literal (Div d t ∷ c) h = absurd (cc)
no_literal (NDiv d t ∷ c) h = absurd (cc)

kept_by_true : (b : List (List Literal)) (c : List Literal) → Among c (kept_by top b) → c ≡ []
kept_by_true b c m = no_literal c (or_left (outdoes [] c) false (no_of (is_covered top c) (test_of (λ z. not (is_covered top z)) c b m)))

only_true : (c : List Literal) → Among c top → c ≡ []
only_true c (inl e) = e
only_true c (inr m) = absurd m

true_stays : (b : List (List Literal)) → Among [] (kept_by b top)
true_stays b = among_filter (λ z. not (is_covered b z)) [] top (inl refl) (ap not (never_covered b))

in_true : (c : List Literal) → c ≡ [] → Among c top
in_true c e = inl e

tidied-true_left : (b : List (List Literal)) → IsDnf b → tidied (top ++ b) ≡ top
tidied-true_left b h =
    let t : IsDnf top = dnf_of_top top refl in
    sorted-same clause_cmp clause_cmp-total (tidied (top ++ b)) top (sorted_tidied (top ++ b)) t.sorted
    (λ c m. in_true c (by_part (λ n. only_true c (among_filter_back (λ z. not (is_covered b z)) c top n)) (kept_by_true b c) (among_append c (kept_by b top) (kept_by top b) (back_from_both top b c m))))
    (λ c m. subst (λ z. Among z (tidied (top ++ b))) (sym (only_true c m)) (stays_left top b [] t (true_stays b)))

tidied-true_right : (a : List (List Literal)) → IsDnf a → tidied (a ++ top) ≡ top
tidied-true_right a h =
    let t : IsDnf top = dnf_of_top top refl in
    sorted-same clause_cmp clause_cmp-total (tidied (a ++ top)) top (sorted_tidied (a ++ top)) t.sorted
    (λ c m. in_true c (by_part (kept_by_true a c) (λ n. only_true c (among_filter_back (λ z. not (is_covered a z)) c top n)) (among_append c (kept_by top a) (kept_by a top) (back_from_both a top c m))))
    (λ c m. subst (λ z. Among z (tidied (a ++ top))) (sym (only_true c m)) (stays_right a top [] t (true_stays a)))

-- ---- as the code has it
pub true_left : (a b d : List (List Literal)) → a ≡ top → IsDnf b → d ≡ a → d ≡ tidied (a ++ b)
true_left a b d e h is = is ∙ e ∙ sym (ap (λ z. tidied (z ++ b)) e ∙ tidied-true_left b h)

pub true_right : (a b d : List (List Literal)) → b ≡ top → IsDnf a → d ≡ b → d ≡ tidied (a ++ b)
true_right a b d e h is = is ∙ e ∙ sym (ap (λ z. tidied (a ++ z)) e ∙ tidied-true_right a h)

pub false_left : (a b d : List (List Literal)) → length a ≡ 0 → IsDnf b → d ≡ b → d ≡ tidied (a ++ b)
false_left [] b d e h is = is ∙ sym (tidied-own b h)
false_left (c ∷ a) b d e h is = absurd (omega (arith, e))

pub false_right : (a b d : List (List Literal)) → length b ≡ 0 → IsDnf a → d ≡ a → d ≡ tidied (a ++ b)
false_right a [] d e h is = is ∙ sym (ap tidied (append-nil a) ∙ tidied-own a h)
false_right a (c ∷ b) d e h is = absurd (omega (arith, e))

pub sorted_both : (a b ka kb all d : List (List Literal)) → IsDnf a → IsDnf b → ka ≡ kept_by b a → kb ≡ kept_by a b → all ≡ ka ++ kb → d ≡ sorted_once clause_cmp all → d ≡ tidied (a ++ b)
sorted_both a b ka kb all d h k ea eb e is =
    is ∙ ap (sorted_once clause_cmp) (e ∙ ap (λ z. z ++ kb) ea ∙ ap (λ z. kept_by b a ++ z) eb) ∙ tidied-both a b h k

pub sorted_whole : (a b all d : List (List Literal)) → IsDnf a → IsDnf b → list_all (λ z. not (is_covered b z)) a ≡ true → list_all (λ z. not (is_covered a z)) b ≡ true
    → all ≡ a ++ b → d ≡ sorted_once clause_cmp all → d ≡ tidied (a ++ b)
sorted_whole a b all d h k wa wb e is =
    sorted_both a b a b all d h k (sym (filter_whole (λ z. not (is_covered b z)) a wa)) (sym (filter_whole (λ z. not (is_covered a z)) b wb)) e is

pub both_stay : (a b all d sa sb ta tb : List (List Literal)) (x y : Bool) → IsDnf a → IsDnf b → sb ≡ b → sa ≡ a → x ≡ list_all (λ z. not (is_covered sb z)) sa → x ≡ true
    → ta ≡ a → tb ≡ b → y ≡ list_all (λ z. not (is_covered ta z)) tb → y ≡ true → all ≡ a ++ b → d ≡ sorted_once clause_cmp all → d ≡ tidied (a ++ b)
both_stay a b all d sa sb ta tb x y h k eb ea ex nx fa fb ey ny e is =
    sorted_whole a b all d h k
    (sym (ex ∙ ap (λ z. list_all (λ w. not (is_covered z w)) sa) eb ∙ ap (λ z. list_all (λ w. not (is_covered b w)) z) ea) ∙ nx)
    (sym (ey ∙ ap (λ z. list_all (λ w. not (is_covered z w)) tb) fa ∙ ap (λ z. list_all (λ w. not (is_covered a w)) z) fb) ∙ ny)
    e is

pub top_from : (cs rest : List (List Literal)) (c : List Literal) → cs ≡ c ∷ rest → length c ≡ 0 → length rest ≡ 0 → cs ≡ top
top_from cs [] [] e h k = e
top_from cs [] (l ∷ c) e h k = absurd (omega (arith, h))
top_from cs (r ∷ rest) c e h k = absurd (omega (arith, k))

pub tidied_same : (c d : List (List Literal)) → IsDnf d → c ≡ d → c ≡ tidied d
tidied_same c d h e = e ∙ sym (tidied-own d h)

pub joined_after_true : (a b : List (List Literal)) → a ≡ top → All IsClause b → joined a b ≡ b
joined_after_true a b e h = ap (λ z. joined z b) e ∙ joined-top_left b (recursion_from_All IsClause b h)

pub joined_before_true : (a b : List (List Literal)) → b ≡ top → All IsClause a → joined a b ≡ a
joined_before_true a b e h = ap (λ z. joined a z) e ∙ joined-top_right a (recursion_from_All IsClause a h)

pub ruleset both = (sorted_both, sorted_whole)

pub ruleset decided = (true_left, true_right, false_left, false_right)

pub ruleset trivial = (top_from, tidied_same, joined_after_true, joined_before_true)
