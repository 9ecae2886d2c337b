-- The candidates of a clause in one name: each satisfies it, and for each number that does one of them does not come after it.
use Rattle.std.proofs.Common.{◌≡◌, ◌+◌, ◌<◌, ◌≤◌, ℕ, zero, suc, ℤ, pos, neg_ℤ, ◌<ℤ◌, Bool, true, false, not, ◌&&◌, ◌||◌, cond, nat_lt, List, [], ◌∷◌, ◌++◌, Option, Some, None, length, get_or, drop, refl, sym, ◌∙◌, ap, subst, arith}
use Rattle.std.specs.Prelude.{remove, slice_get, position}
use Rattle.std.specs.List.{list_any, AllByRecursion}
use Rattle.std.specs.List.{position_or_len}
use Rattle.std.proofs.lemmas.Int.{ints}
use Rattle.std.proofs.lemmas.Bool.Decides.{nat_tests}
use Rattle.std.proofs.lemmas.List.Quantifiers.{position-Some}
use Rattle.std.proofs.lemmas.Option.{slice_get-get_or}
use Rattle.base_integers.specs.Entry.{put}
use Rattle.linear_term.specs.Linear.{Linear, number, mentions}
use Rattle.clause_set.specs.declared.literal.Literal.{Literal}
use Rattle.clause_set.specs.declared.literal.Literal.TheVariants.{Eq, Geq, Div, NDiv}
use Rattle.clause_set.specs.Literals.{literal_truth, clause_truth}
use Rattle.clause_set.specs.Names.{is_equation, is_divisibility, is_indivisibility}
use Rattle.clause_set.specs.Rules.{passes}
use Rattle.base_budget.specs.Trace.{just, step, next}
use Rattle.elim_rule_laws.proofs.EquationLists.{all-apart, kept-removed, kept-got}
use Rattle.solve_laws.specs.Best.{rank}
use Rattle.solve_laws.specs.Nearest.{AreCandidates, when, between, upward, downward, is_at_most, is_at_least}
use Rattle.solve_laws.specs.Candidates.{IsSingle, IsAlone, Class, class_of, lower, upper, root, root_of, root_at, computed, up_from, down_from, two_between, bounded}
use Rattle.solve_laws.proofs.Ranks.{and_left, and_right, both, between-candidates, when-sound, when-near}
use Rattle.solve_laws.proofs.Alone.{single-mentions, clause-same, equation-root, IsBoundOrClass, bounded-between}

-- ---- positions
from_none : (n m : ℕ) → cond (nat_lt n m) (Some n) None ≡ None → m ≤ n
from_none n m h = by (nat_lt n m) refl h
  where
    by : (b : Bool) → nat_lt n m ≡ b → cond b (Some n) None ≡ None → m ≤ n
    by true e k = absurd (cc)
    by false e k = grind (arith, nat_tests)

to_none : (n m : ℕ) → m ≤ n → cond (nat_lt n m) (Some n) None ≡ None
to_none n m le = by (nat_lt n m) refl
  where
    by : (b : Bool) → nat_lt n m ≡ b → cond b (Some n) None ≡ None
    by true e = absurd (let lt : n < m = grind (arith, nat_tests) in omega arith)
    by false e = refl

none_head : {X : Type 0} (p : X → Bool) (x : X) (xs : List X) → position p (x ∷ xs) ≡ None → (p x ≡ false) × (position p xs ≡ None)
none_head p x xs h = by (p x) refl
  where
    le : length (x ∷ xs) ≤ cond (not (p x)) (1 + position_or_len p xs) 0
    le = from_none (cond (not (p x)) (1 + position_or_len p xs) 0) (length (x ∷ xs)) h

    by : (b : Bool) → p x ≡ b → (b ≡ false) × (position p xs ≡ None)
    by true e = absurd (let k : length (x ∷ xs) ≤ 0 = subst (λ y. length (x ∷ xs) ≤ cond (not y) (1 + position_or_len p xs) 0) e le in omega arith)
    by false e =
        let k : length (x ∷ xs) ≤ 1 + position_or_len p xs = subst (λ y. length (x ∷ xs) ≤ cond (not y) (1 + position_or_len p xs) 0) e le in
        (refl, to_none (position_or_len p xs) (length xs) (omega arith))

pub position-none : {X : Type 0} (p : X → Bool) (xs : List X) → position p xs ≡ None → AllByRecursion (λ x. p x ≡ false) xs
position-none p [] h = tt
position-none p (x ∷ xs) h = let k = none_head p x xs h in (k.0, position-none p xs k.1)

none-any : {X : Type 0} (p : X → Bool) (xs : List X) → AllByRecursion (λ x. p x ≡ false) xs → list_any p xs ≡ false
none-any p [] h = refl
none-any p (x ∷ xs) h = ap (λ b. b || list_any p xs) h.0 ∙ none-any p xs h.1

pub position-got : (p : Literal → Bool) (c : List Literal) (i : ℕ) → position p c ≡ Some i → passes p (slice_get c i) ≡ true
position-got p c i h =
    let d : Literal = Geq (number (pos 0)) in
    let k = position-Some p c i d h in
    ap (passes p) (slice_get-get_or c i d k.0) ∙ k.1

pub get-drop : {X : Type 0} (xs : List X) (i k : ℕ) → slice_get (drop i xs) k ≡ slice_get xs (i + k)
get-drop xs zero k = ap (slice_get xs) (omega arith)
get-drop [] (suc i) k = refl
get-drop (x ∷ xs) (suc i) k = let e : suc i + k ≡ suc (i + k) = omega arith in rw e (get-drop xs i k)

-- ---- at most one divisibility
not_both : (a : Bool) (P : Type 0) → a ≡ true → a ≡ false → P
not_both a P t f = absurd (cc)

pub no_class : (j : ℕ) (z : Class) (ls : List Literal) → AllByRecursion (IsAlone j) ls → AllByRecursion (λ l. is_equation j l ≡ false) ls
    → AllByRecursion (λ l. is_indivisibility j l ≡ false) ls → AllByRecursion (λ l. is_divisibility j l ≡ false) ls → AllByRecursion (IsBoundOrClass j z) ls
no_class j z [] a e n d = tt
no_class j z (Eq t ∷ ls) a e n d = not_both (mentions t j) _ (single-mentions j (pos 1) t a.0) e.0
no_class j z (Geq t ∷ ls) a e n d = (tt, no_class j z ls a.1 e.1 n.1 d.1)
no_class j z (Div k t ∷ ls) a e n d = not_both (mentions t j) _ (single-mentions j a.0.0 t a.0.1) d.0
no_class j z (NDiv k t ∷ ls) a e n d = not_both (mentions t j) _ (single-mentions j a.0.0 t a.0.1) n.0

pub one_class : (j i : ℕ) (c : List Literal) (o : Literal) → AllByRecursion (IsAlone j) c → AllByRecursion (λ l. is_equation j l ≡ false) c
    → AllByRecursion (λ l. is_indivisibility j l ≡ false) c → i < length c → is_divisibility j (get_or c i o) ≡ true
    → ((k : ℕ) → k < i → is_divisibility j (get_or c k o) ≡ false) → AllByRecursion (λ l. is_divisibility j l ≡ false) (drop (i + 1) c)
    → AllByRecursion (IsBoundOrClass j (class_of j c).value) c
one_class j i [] o a e n lt here before behind = absurd (omega arith)
one_class j i (Eq t ∷ ls) o a e n lt here before behind = not_both (mentions t j) _ (single-mentions j (pos 1) t a.0) e.0
one_class j i (NDiv k t ∷ ls) o a e n lt here before behind = not_both (mentions t j) _ (single-mentions j a.0.0 t a.0.1) n.0
one_class j zero (Geq t ∷ ls) o a e n lt here before behind = absurd (cc)
one_class j (suc i) (Geq t ∷ ls) o a e n lt here before behind =
    let same : suc i + 1 ≡ suc (i + 1) = omega arith in (
      tt,
      one_class j i ls o a.1 e.1 n.1 (omega arith) here (λ k l. before (suc k) (omega arith))
          (subst (λ m. AllByRecursion (λ l. is_divisibility j l ≡ false) (drop m (Geq t ∷ ls))) same behind),
    )
one_class j zero (Div k t ∷ ls) o a e n lt here before behind = (refl, no_class j _ ls a.1 e.1 n.1 behind)
one_class j (suc i) (Div k t ∷ ls) o a e n lt here before behind = not_both (mentions t j) _ (single-mentions j a.0.0 t a.0.1) (before 0 (omega arith))

-- ---- with an equation
is_root : (j : ℕ) (c : List Literal) (i : ℕ) (t : Linear) (e : List ℤ) → AllByRecursion (IsAlone j) c → slice_get c i ≡ Some (Eq t)
    → AreCandidates (λ v. clause_truth c (put e j v)) (root j (neg_ℤ t.constant) (remove c i)).value
unfolding next just step
is_root j c i t e a at =
    let k : ℤ = neg_ℤ t.constant in
    let s : IsSingle j (pos 1) t = kept-got (IsAlone j) c i (Eq t) at a in
    let rest : AllByRecursion (IsAlone j) (remove c i) = kept-removed (IsAlone j) c i a in
    let apart : (v : ℤ) → clause_truth c (put e j v) ≡ (literal_truth (Eq t) (put e j v) && clause_truth (remove c i) (put [] j v)) =
    (λ v. all-apart (λ l. literal_truth l (put e j v)) c i (Eq t) at ∙ ap (λ b. literal_truth (Eq t) (put e j v) && b) (clause-same j (remove c i) e [] v rest)) in
    record {
      sound = when-sound (λ v. clause_truth c (put e j v)) (clause_truth (remove c i) (put [] j k)) k
          (λ b. apart k ∙ both _ _ ((equation-root j t e k s).1 refl) b);
      near = λ u h.
          let parts = sym (apart u) ∙ h in
          let same : u ≡ k = (equation-root j t e u s).0 (and_left _ _ parts) in
          when-near (clause_truth (remove c i) (put [] j k)) u k (subst (λ w. clause_truth (remove c i) (put [] j w) ≡ true) same (and_right _ _ parts)) (omega (arith, ap rank same));
    }

root_of-candidates : (j : ℕ) (c : List Literal) (i : ℕ) (o : Option Literal) (e : List ℤ) → AllByRecursion (IsAlone j) c → slice_get c i ≡ o → passes (is_equation j) o ≡ true
    → AreCandidates (λ v. clause_truth c (put e j v)) (root_of j (remove c i) o).value
root_of-candidates j c i None e a at h = absurd (cc)
root_of-candidates j c i (Some (Eq t)) e a at h = is_root j c i t e a at
root_of-candidates j c i (Some (Geq t)) e a at h = absurd (cc)
root_of-candidates j c i (Some (Div d t)) e a at h = absurd (cc)
root_of-candidates j c i (Some (NDiv d t)) e a at h = absurd (cc)

pub root_at-candidates : (j : ℕ) (c : List Literal) (o : Option ℕ) (e : List ℤ) → AllByRecursion (IsAlone j) c → position (is_equation j) c ≡ o → list_any (is_equation j) c ≡ true
    → AreCandidates (λ v. clause_truth c (put e j v)) (root_at j c o).value
root_at-candidates j c None e a at h = not_both (list_any (is_equation j) c) _ h (none-any (is_equation j) c (position-none (is_equation j) c at))
root_at-candidates j c (Some i) e a at h = root_of-candidates j c i (slice_get c i) e a refl (position-got (is_equation j) c i at)

-- ---- bounds and at most one divisibility
pub class-positive : (j : ℕ) (c : List Literal) → AllByRecursion (IsAlone j) c → pos 0 <ℤ (class_of j c).value.modulus
unfolding next just step
class-positive j [] a = omega (arith, ints)
class-positive j (Eq t ∷ ls) a = class-positive j ls a.1
class-positive j (Geq t ∷ ls) a = class-positive j ls a.1
class-positive j (Div d t ∷ ls) a = a.0.3
class-positive j (NDiv d t ∷ ls) a = class-positive j ls a.1

up-is : (m r : ℤ) (lo : Option ℤ) → (computed (up_from m r lo)).value ≡ upward m r lo
unfolding computed step
up-is m r lo = omega (arith, ints)

down-is : (m r : ℤ) (hi : Option ℤ) → (computed (down_from m r hi)).value ≡ downward m r hi
unfolding computed step
down-is m r hi = omega (arith, ints)

pub two-value : (m r : ℤ) (lo hi : Option ℤ) → (two_between m r lo hi).value ≡ between m r lo hi
unfolding next just
two-value m r lo hi =
    ap (λ u. when (is_at_most u hi) u ++ when (is_at_least (computed (down_from m r hi)).value lo) (computed (down_from m r hi)).value) (up-is m r lo)
    ∙ ap (λ w. when (is_at_most (upward m r lo) hi) (upward m r lo) ++ when (is_at_least w lo) w) (down-is m r hi)

pub bounded-candidates : (j : ℕ) (c : List Literal) (e : List ℤ) → AllByRecursion (IsAlone j) c → AllByRecursion (IsBoundOrClass j (class_of j c).value) c
    → AreCandidates (λ v. clause_truth c (put e j v)) (bounded j c).value
unfolding next
bounded-candidates j c e a b =
    subst (AreCandidates (λ v. clause_truth c (put e j v))) (sym (two-value (class_of j c).value.modulus (class_of j c).value.residue (lower j c) (upper j c)))
    (between-candidates (λ v. clause_truth c (put e j v)) (class_of j c).value.modulus (class_of j c).value.residue (lower j c) (upper j c) (class-positive j c a)
    (λ v. bounded-between j c e v a b))
