-- Covering clauses: what covers a true clause is true, covering goes along chains, and some clause is not outdone.
use Rattle.std.proofs.Common.{◌≡◌, ◌<◌, ◌≤◌, ◌+◌, ℕ, zero, suc, ℤ, pos, ◌≤ℤ◌, int_lt, Bool, true, false, not, cond, ◌&&◌, ◌||◌, List, [], ◌∷◌, Option, Some, None, ◌⊎◌, inl, inr, refl, sym, ◌∙◌, ap, subst, arith}
use Rattle.std.specs.Cmp.{first_so, second_so, both_ways}
use Rattle.std.specs.List.{list_all, list_any, filter}
use Rattle.std.proofs.lemmas.Int.{ints}
use Rattle.linear_term.specs.Linear.{Linear, value_of}
use Rattle.linear_term.proofs.Totals.{by_test}
use Rattle.clause_set.specs.declared.literal.Literal.{Literal}
use Rattle.clause_set.specs.declared.literal.Literal.TheVariants.{Eq, Geq, Div, NDiv}
use Rattle.clause_set.specs.Literals.{literal_truth, clause_truth, dnf_truth}
use Rattle.clause_set.specs.Order.{literal_cmp, clause_cmp, is_literal, sorted_once}
use Rattle.clause_set.specs.Clauses.{same_pairs, least, slack_of, slack}
use Rattle.clause_set.specs.Dnfs.{is_within, follows, is_implied, covers, outdoes, is_covered, uncovered, tidied}
use Rattle.clause_set.proofs.NormalTruth.{le_decides}
use Rattle.clause_set.proofs.Orders.{same_pairs-equal, same_pairs-refl, literal_cmp-equal, clause_cmp-equal, is_eq-equal, sorted_once-any}
use Rattle.clause_set.proofs.ClauseTruth.{Bounded, AtMost, least-left, least-right, slack-bounded, sum_of, value-is, by_first}

-- x is one of xs
abbrev pub Among : {X : Type 0} → X → List X → Type 0
Among x [] = ⊥
Among x (y ∷ ys) = (x ≡ y) ⊎ Among x ys

-- an element that passes
pub record Passing {X : Type 0} (f : X → Bool) (xs : List X) : Type 0 where
  pub element : X
  pub among : Among element xs
  pub passes : f element ≡ true

any_more : {X : Type 0} (f : X → Bool) (y : X) (ys : List X) → Passing f ys → Passing f (y ∷ ys)
any_more f y ys p = record { element = p.element; among = inr p.among; passes = p.passes }

pub any_from : {X : Type 0} (f : X → Bool) (xs : List X) → list_any f xs ≡ true → Passing f xs
any_from f [] h = absurd (cc)
any_from f (y ∷ ys) h =
    by_first (f y) (list_any f ys) (Passing f (y ∷ ys)) h (λ t. record { element = y; among = inl refl; passes = t }) (λ r. any_more f y ys (any_from f ys r))

or_left : (a b : Bool) → a ≡ true → (a || b) ≡ true
or_left true b h = refl
or_left false b h = absurd (cc)

or_right : (a b : Bool) → b ≡ true → (a || b) ≡ true
or_right true b h = refl
or_right false b h = h

pub any_with : {X : Type 0} (f : X → Bool) (x : X) (xs : List X) → Among x xs → f x ≡ true → list_any f xs ≡ true
any_with f x [] m h = absurd m
any_with f x (y ∷ ys) (inl e) h = or_left (f y) (list_any f ys) (ap f (sym e) ∙ h)
any_with f x (y ∷ ys) (inr m) h = or_right (f y) (list_any f ys) (any_with f x ys m h)

pub all_at : {X : Type 0} (f : X → Bool) (x : X) (xs : List X) → list_all f xs ≡ true → Among x xs → f x ≡ true
all_at f x [] h m = absurd m
all_at f x (y ∷ ys) h (inl e) = ap f e ∙ first_so (f y) (list_all f ys) h
all_at f x (y ∷ ys) h (inr m) = all_at f x ys (second_so (f y) (list_all f ys) h) m

both_so : (a b : Bool) → a ≡ true → b ≡ true → (a && b) ≡ true
both_so true b h k = k
both_so false b h k = absurd (cc)

pub all_by : {X : Type 0} (f : X → Bool) (xs : List X) → ((x : X) → Among x xs → f x ≡ true) → list_all f xs ≡ true
all_by f [] h = refl
all_by f (y ∷ ys) h = both_so (f y) (list_all f ys) (h y (inl refl)) (all_by f ys (λ x m. h x (inr m)))

-- ---- bounds
pub record Witness (ls : List Literal) (p : List (ℕ × ℤ)) (k : ℤ) : Type 0 where
  pub literal : Literal
  pub among : Among literal ls
  pub is : slack_of literal p ≡ Some k

witness_here : (l : Literal) (ls : List Literal) (p : List (ℕ × ℤ)) (k : ℤ) → slack_of l p ≡ Some k → Witness (l ∷ ls) p k
witness_here l ls p k e = record { literal = l; among = inl refl; is = e }

witness_more : (l : Literal) (ls : List Literal) (p : List (ℕ × ℤ)) (k : ℤ) → Witness ls p k → Witness (l ∷ ls) p k
witness_more l ls p k w = record { literal = w.literal; among = inr w.among; is = w.is }

least_one : (P : Type 0) (a b : Option ℤ) (k : ℤ) → least a b ≡ Some k → (a ≡ Some k → P) → (b ≡ Some k → P) → P
least_one P None b k e f g = g e
least_one P (Some a) None k e f g = f e
least_one P (Some a) (Some b) k e f g =
    by_test (λ z. Some z ≡ Some k → P) (int_lt b a) b a (λ _ h. g h) (λ _ h. f h) e

pub slack-witness : (ls : List Literal) (p : List (ℕ × ℤ)) (k : ℤ) → slack ls p ≡ Some k → Witness ls p k
slack-witness [] p k e = absurd (cc)
slack-witness (l ∷ ls) p k e =
    least_one (Witness (l ∷ ls) p k) (slack_of l p) (slack ls p) k e (λ h. witness_here l ls p k h) (λ h. witness_more l ls p k (slack-witness ls p k h))

pub at_most_self : (a : Option ℤ) (c : ℤ) → a ≡ Some c → AtMost a c
at_most_self a c e = subst (λ z. AtMost z c) (sym e) (omega (arith, ints))

pub slack-at : (m : Literal) (ls : List Literal) (p : List (ℕ × ℤ)) (c : ℤ) → Among m ls → slack_of m p ≡ Some c → AtMost (slack ls p) c
slack-at m [] p c h e = absurd h
slack-at m (l ∷ ls) p c (inl s) e = least-left (slack_of l p) (slack ls p) c (at_most_self (slack_of l p) c (ap (λ z. slack_of z p) (sym s) ∙ e))
slack-at m (l ∷ ls) p c (inr h) e = least-right (slack_of l p) (slack ls p) c (slack-at m ls p c h e)

within_from : (a : Option ℤ) (k : ℤ) → is_within a k ≡ true → AtMost a k
within_from None k h = absurd (cc)
within_from (Some a) k h = (le_decides a k).0 h

within_to : (a : Option ℤ) (k : ℤ) → AtMost a k → is_within a k ≡ true
within_to None k h = absurd h
within_to (Some a) k h = (le_decides a k).1 h

pub at_most_more : (a : Option ℤ) (j k : ℤ) → AtMost a j → j ≤ℤ k → AtMost a k
at_most_more None j k h le = absurd h
at_most_more (Some a) j k h le = omega (arith, ints, h, le)

pub same_literal_test : (l m : Literal) → is_literal l m ≡ true → l ≡ m
same_literal_test l m h = literal_cmp-equal l m (is_eq-equal (literal_cmp l m) h)

follows-slack : (c : List Literal) (m : Literal) (p : List (ℕ × ℤ)) (k : ℤ) → follows c m ≡ true → slack_of m p ≡ Some k → AtMost (slack c p) k
follows-slack c (Eq t) p k f e = absurd (cc)
follows-slack c (Geq t) p k f e =
    by_test (λ z. z ≡ Some k → AtMost (slack c p) k) (same_pairs t.pairs p) (Some t.constant) None
    (λ s h. let same : t.pairs ≡ p = same_pairs-equal t.pairs p s in let is : t.constant ≡ k = cc in
    subst (λ z. AtMost (slack c p) z) is (subst (λ q. AtMost (slack c q) t.constant) same (within_from (slack c t.pairs) t.constant f)))
    (λ _ h. absurd cc) e
follows-slack c (Div d t) p k f e = absurd (cc)
follows-slack c (NDiv d t) p k f e = absurd (cc)

pub implied-slack : (c : List Literal) (m : Literal) (p : List (ℕ × ℤ)) (k : ℤ) → is_implied c m ≡ true → slack_of m p ≡ Some k → AtMost (slack c p) k
implied-slack c m p k h e =
    by_first (list_any (is_literal m) c) (follows c m) (AtMost (slack c p) k) h
    (λ t. let w = any_from (is_literal m) c t in
    slack-at w.element c p k w.among (ap (λ z. slack_of z p) (sym (same_literal_test m w.element w.passes)) ∙ e))
    (λ f. follows-slack c m p k f e)

-- a bound that is in a clause follows from it
held_follows : (c : List Literal) (t : Linear) → list_any (is_literal (Geq t)) c ≡ true → follows c (Geq t) ≡ true
held_follows c t h =
    let w = any_from (is_literal (Geq t)) c h in
    let own : slack_of (Geq t) t.pairs ≡ Some t.constant = ap (λ b. cond b (Some t.constant) None) (same_pairs-refl t.pairs) in
    within_to (slack c t.pairs) t.constant (slack-at w.element c t.pairs t.constant w.among (ap (λ z. slack_of z t.pairs) (sym (same_literal_test (Geq t) w.element w.passes)) ∙ own))

or_so : (a b : Bool) → (a ≡ true → b ≡ true) → (a || b) ≡ b
or_so true b h = sym (h refl)
or_so false b h = refl

or_none : (a : Bool) → (a || false) ≡ a
or_none true = refl
or_none false = refl

pub implied_bound : (c : List Literal) (t : Linear) → is_implied c (Geq t) ≡ follows c (Geq t)
implied_bound c t = or_so (list_any (is_literal (Geq t)) c) (follows c (Geq t)) (held_follows c t)

pub implied_equation : (c : List Literal) (t : Linear) → is_implied c (Eq t) ≡ list_any (is_literal (Eq t)) c
implied_equation c t = or_none (list_any (is_literal (Eq t)) c)

pub implied_div : (c : List Literal) (d : ℤ) (t : Linear) → is_implied c (Div d t) ≡ list_any (is_literal (Div d t)) c
implied_div c d t = or_none (list_any (is_literal (Div d t)) c)

pub implied_ndiv : (c : List Literal) (d : ℤ) (t : Linear) → is_implied c (NDiv d t) ≡ list_any (is_literal (NDiv d t)) c
implied_ndiv c d t = or_none (list_any (is_literal (NDiv d t)) c)

pub ruleset implied = (implied_bound, implied_equation, implied_div, implied_ndiv)

-- ---- chains
pub within_some : (P : Type 0) (a : Option ℤ) (k : ℤ) → is_within a k ≡ true → ((j : ℤ) → a ≡ Some j → j ≤ℤ k → P) → P
within_some P None k h f = absurd (cc)
within_some P (Some a) k h f = f a refl ((le_decides a k).0 h)

follows-along : (d c : List Literal) (l : Literal) → covers d c ≡ true → follows d l ≡ true → follows c l ≡ true
follows-along d c (Eq t) h f = f
follows-along d c (Geq t) h f =
    within_some (follows c (Geq t) ≡ true) (slack d t.pairs) t.constant f
    (λ j e le. let w = slack-witness d t.pairs j e in
    within_to (slack c t.pairs) t.constant (at_most_more (slack c t.pairs) j t.constant (implied-slack c w.literal t.pairs j (all_at (is_implied c) w.literal d h w.among) w.is) le))
follows-along d c (Div b t) h f = f
follows-along d c (NDiv b t) h f = f

implied-along : (d c : List Literal) (l : Literal) → covers d c ≡ true → is_implied d l ≡ true → is_implied c l ≡ true
implied-along d c l h i =
    by_first (list_any (is_literal l) d) (follows d l) (is_implied c l ≡ true) i
    (λ t. let w = any_from (is_literal l) d t in
    subst (λ z. is_implied c z ≡ true) (sym (same_literal_test l w.element w.passes)) (all_at (is_implied c) w.element d h w.among))
    (λ f. or_right (list_any (is_literal l) c) (follows c l) (follows-along d c l h f))

pub covers-along : (z d c : List Literal) → covers z d ≡ true → covers d c ≡ true → covers z c ≡ true
covers-along z d c h k = all_by (is_implied c) z (λ l m. implied-along d c l k (all_at (is_implied d) l z h m))

-- ---- truth
follows-truth : (c : List Literal) (l : Literal) (e : List ℤ) → follows c l ≡ true → clause_truth c e ≡ true → literal_truth l e ≡ true
follows-truth c (Eq t) e f h = absurd (cc)
follows-truth c (Geq t) e f h =
    within_some (literal_truth (Geq t) e ≡ true) (slack c t.pairs) t.constant f
    (λ j is le. let b : Bounded (sum_of t.pairs e) (Some j) = subst (Bounded (sum_of t.pairs e)) is (slack-bounded c t.pairs e h) in
    (le_decides (pos 0) (value_of t e)).1 (omega (arith, ints, b, le, value-is t e)))
follows-truth c (Div d t) e f h = absurd (cc)
follows-truth c (NDiv d t) e f h = absurd (cc)

implied-truth : (c : List Literal) (l : Literal) (e : List ℤ) → is_implied c l ≡ true → clause_truth c e ≡ true → literal_truth l e ≡ true
implied-truth c l e i h =
    by_first (list_any (is_literal l) c) (follows c l) (literal_truth l e ≡ true) i
    (λ t. let w = any_from (is_literal l) c t in
    subst (λ z. literal_truth z e ≡ true) (sym (same_literal_test l w.element w.passes)) (all_at (λ m. literal_truth m e) w.element c h w.among))
    (λ f. follows-truth c l e f h)

-- a clause that covers a true one is true
pub covers-truth : (d c : List Literal) (e : List ℤ) → covers d c ≡ true → clause_truth c e ≡ true → clause_truth d e ≡ true
covers-truth d c e h k = all_by (λ l. literal_truth l e) d (λ l m. implied-truth c l e (all_at (is_implied c) l d h m) k)

-- ---- clauses that are not outdone
outdoes-covers : (d c : List Literal) → outdoes d c ≡ true → covers d c ≡ true
outdoes-covers d c h = first_so (covers d c) (not (covers c d)) h

by_bool_not : (b : Bool) → (b ≡ true → ⊥) → not b ≡ true
by_bool_not true h = absurd (h refl)
by_bool_not false h = refl

pub not_true : (b : Bool) → not b ≡ true → b ≡ true → ⊥
not_true true h k = cc
not_true false h k = cc

pub outdoes-along : (z d c : List Literal) → outdoes z d ≡ true → outdoes d c ≡ true → outdoes z c ≡ true
outdoes-along z d c h k =
    both_so (covers z c) (not (covers c z)) (covers-along z d c (outdoes-covers z d h) (outdoes-covers d c k))
    (by_bool_not (covers c z) (λ back. not_true (covers d z) (second_so (covers z d) (not (covers d z)) h) (covers-along d c z (outdoes-covers d c k) back)))

pub outdoes-self : (d : List Literal) → outdoes d d ≡ true → ⊥
outdoes-self d h = not_true (covers d d) (second_so (covers d d) (not (covers d d)) h) (outdoes-covers d d h)

pub by_no : (b : Bool) → (b ≡ true → ⊥) → b ≡ false
by_no true h = absurd (h refl)
by_no false h = refl

abbrev pub as_number : Bool → ℕ
as_number true = 1
as_number false = 0

-- how many pass
abbrev pub count : {X : Type 0} → (X → Bool) → List X → ℕ
count f [] = 0
count f (x ∷ xs) = as_number (f x) + count f xs

count_step : (a b : Bool) → (a ≡ true → b ≡ true) → as_number a ≤ as_number b
count_step true b h = subst (λ z. 1 ≤ as_number z) (sym (h refl)) (omega arith)
count_step false b h = omega arith

count-le : {X : Type 0} (f g : X → Bool) (xs : List X) → ((x : X) → f x ≡ true → g x ≡ true) → count f xs ≤ count g xs
count-le f g [] h = omega arith
count-le f g (x ∷ xs) h = omega (arith, count_step (f x) (g x) (h x), count-le f g xs h)

count-less : {X : Type 0} (f g : X → Bool) (d : X) (xs : List X) → ((x : X) → f x ≡ true → g x ≡ true) → Among d xs → g d ≡ true → (f d ≡ true → ⊥) → count f xs < count g xs
count-less f g d [] h m t n = absurd m
count-less f g d (x ∷ xs) h (inl e) t n =
    let fx : f x ≡ false = by_no (f x) (λ y. n (ap f e ∙ y)) in
    let gx : g x ≡ true = ap g (sym e) ∙ t in
    let a : as_number (f x) ≡ 0 = ap as_number fx in
    let b : as_number (g x) ≡ 1 = ap as_number gx in
    omega (arith, a, b, count-le f g xs h)
count-less f g d (x ∷ xs) h (inr m) t n = omega (arith, count_step (f x) (g x) (h x), count-less f g d xs h m t n)

pub among_filter : {X : Type 0} (test : X → Bool) (x : X) (xs : List X) → Among x xs → test x ≡ true → Among x (filter test xs)
among_filter test x [] m h = absurd m
among_filter test x (y ∷ ys) (inl e) h =
    subst (λ b. Among x (cond b (y ∷ filter test ys) (filter test ys))) (sym (ap test (sym e) ∙ h)) (inl e)
among_filter test x (y ∷ ys) (inr m) h =
    by_test (Among x) (test y) (y ∷ filter test ys) (filter test ys) (λ _. inr (among_filter test x ys m h)) (λ _. among_filter test x ys m h)

kept_back : {X : Type 0} (test : X → Bool) (x y : X) (ys : List X) → (Among x (filter test ys) → Among x ys) → Among x (y ∷ filter test ys) → Among x (y ∷ ys)
kept_back test x y ys f (inl e) = inl e
kept_back test x y ys f (inr m) = inr (f m)

pub among_filter_back : {X : Type 0} (test : X → Bool) (x : X) (xs : List X) → Among x (filter test xs) → Among x xs
among_filter_back test x [] = λ m. m
among_filter_back test x (y ∷ ys) =
    by_test (λ zs. Among x zs → Among x (y ∷ ys)) (test y) (y ∷ filter test ys) (filter test ys)
    (λ _ m. kept_back test x y ys (among_filter_back test x ys) m) (λ _ m. inr (among_filter_back test x ys m))

-- a true clause has a true one that is not outdone
undone : (cs : List (List Literal)) (e : List ℤ) (n : ℕ) (c : List Literal) → count (λ z. outdoes z c) cs < n → Among c cs → clause_truth c e ≡ true → dnf_truth (uncovered cs) e ≡ true
undone cs e zero c lt m t = absurd (omega arith)
undone cs e (suc n) c lt m t =
    by_test (λ (b : Bool). dnf_truth (uncovered cs) e ≡ true) (is_covered cs c) true false
    (λ y. let w = any_from (λ d. outdoes d c) cs y in
    let less : count (λ z. outdoes z w.element) cs < count (λ z. outdoes z c) cs =
    count-less (λ z. outdoes z w.element) (λ z. outdoes z c) w.element cs (λ z h. outdoes-along z w.element c h w.passes) w.among w.passes (outdoes-self w.element) in
    undone cs e n w.element (omega (arith, less)) w.among (covers-truth w.element c e (outdoes-covers w.element c w.passes) t))
    (λ no. any_with (λ d. clause_truth d e) c (uncovered cs) (among_filter (λ d. not (is_covered cs d)) c cs m (ap not no)) t)

pub uncovered-truth : (cs : List (List Literal)) (e : List ℤ) → dnf_truth (uncovered cs) e ≡ dnf_truth cs e
uncovered-truth cs e =
    both_ways (dnf_truth (uncovered cs) e) (dnf_truth cs e)
    (λ h. let w = any_from (λ d. clause_truth d e) (uncovered cs) h in
    any_with (λ d. clause_truth d e) w.element cs (among_filter_back (λ d. not (is_covered cs d)) w.element cs w.among) w.passes)
    (λ h. let w = any_from (λ d. clause_truth d e) cs h in
    undone cs e (suc (count (λ z. outdoes z w.element) cs)) w.element (omega arith) w.among w.passes)

-- the tidy form is true where one of the clauses is
pub tidied-truth : (cs : List (List Literal)) (e : List ℤ) → dnf_truth (tidied cs) e ≡ dnf_truth cs e
unfolding tidied
tidied-truth cs e =
    uncovered-truth (sorted_once clause_cmp cs) e ∙ sorted_once-any clause_cmp (λ c. clause_truth c e) clause_cmp-equal cs
