-- What a clause says of a name that only inequalities bound: its literals without the name hold, and the value of the
-- name lies between its bounds.
use Rattle.std.proofs.Common.{◌≡◌, ℕ, ℤ, pos, negsuc, neg_ℤ, ◌+ℤ◌, ◌*ℤ◌, ◌≤ℤ◌, ◌<ℤ◌, unsigned_abs, int_le, int_lt, Bool, true, false, not, ◌&&◌, ◌||◌, List, map, get_or, refl, sym, ◌∙◌, ap, subst, arith}
use Rattle.std.specs.Prelude.{All, ◌⊎◌}
use Rattle.std.specs.Bool.{Decides}
use Rattle.std.specs.Cmp.{second_so}
use Rattle.std.specs.List.{list_all}
use Rattle.std.specs.Ordering.{int_eq}
use Rattle.std.proofs.lemmas.Int.{ints, by_lt_z}
use Rattle.std.proofs.lemmas.List.Sums.{AllPass-from_list_all, list_all-from_AllPass}
use Rattle.std.proofs.lemmas.List.Elements.{All-filter, All-map, filter_passes}
use mathlib.Core.Logic.{inl, inr}
use Rattle.base_integers.specs.Entry.{put}
use Rattle.base_integers.specs.Divides.{divides}
use Rattle.linear_term.specs.Linear.{Linear, coef_of, value_of, mentions, without}
use Rattle.linear_term.proofs.Names.{value_of-put, value_of-unmentioned, unmentioned_from_coef}
use Rattle.clause_set.specs.declared.literal.Literal.{Literal}
use Rattle.clause_set.specs.declared.literal.Literal.TheVariants.{Eq, Geq, Div, NDiv}
use Rattle.clause_set.specs.Literals.{term_of, literal_truth, clause_truth}
use Rattle.clause_set.specs.Literals.{IsLiteral}
use Rattle.clause_set.specs.Names.{has, others, coefficient, remainder, is_bound, is_lower, is_upper}
use Rattle.clause_set.specs.Shadows.{lowers, uppers, factor}
use Rattle.elim_rule_laws.specs.Bounds.{Bound, IsPositive, lower_at, upper_at, MeetsLower, MeetsUpper, IsBetween}
use Rattle.elim_rule_laws.proofs.ShadowLists.{all_of_three, all-unmap}

-- the bound of x that the literal sets at e
abbrev pub bound_of : ℕ → List ℤ → Literal → Bound
bound_of x e l = record { factor = factor x l; rest = value_of (remainder x l) e }

pub geq_decides : (k : ℤ) → Decides (int_le (pos 0) k) (pos 0 ≤ℤ k)
geq_decides k = (λ h. grind (arith, ints), λ h. grind (arith, ints))

size_of_positive : (k : ℤ) → pos 0 <ℤ k → pos (unsigned_abs k) ≡ k
size_of_positive (pos n) h = refl
size_of_positive (negsuc n) h = absurd (omega (arith, ints))

size_of_negative : (k : ℤ) → k <ℤ pos 0 → neg_ℤ (pos (unsigned_abs k)) ≡ k
size_of_negative (pos n) h = absurd (omega (arith, ints))
size_of_negative (negsuc n) h = refl

-- ---- literals with x, at the value v of x
pub lower-value : (x : ℕ) (e : List ℤ) (v : ℤ) (t : Linear) → pos 0 <ℤ coef_of t x → value_of t (put e x v) ≡ lower_at v (bound_of x e (Geq t))
lower-value x e v t h =
    value_of-put t x e v ∙ ap (λ (k : ℤ). (k *ℤ v) +ℤ value_of (without t x) e) (sym (size_of_positive (coef_of t x) h))

upper-value : (x : ℕ) (e : List ℤ) (v : ℤ) (t : Linear) → coef_of t x <ℤ pos 0 → value_of t (put e x v) ≡ upper_at v (bound_of x e (Geq t))
upper-value x e v t h =
    value_of-put t x e v ∙ ap (λ (k : ℤ). (k *ℤ v) +ℤ value_of (without t x) e) (sym (size_of_negative (coef_of t x) h))

pub lower_sign : (x : ℕ) (l : Literal) → is_lower x l ≡ true → pos 0 <ℤ coefficient x l
lower_sign x l h = let t : int_lt (pos 0) (coefficient x l) ≡ true = second_so (is_bound x l) _ h in grind (arith, ints)

upper_sign : (x : ℕ) (l : Literal) → is_upper x l ≡ true → coefficient x l <ℤ pos 0
upper_sign x l h = let t : int_lt (coefficient x l) (pos 0) ≡ true = second_so (is_bound x l) _ h in grind (arith, ints)

pub lower-literal : (x : ℕ) (e : List ℤ) (v : ℤ) (l : Literal) → is_lower x l ≡ true → Decides (literal_truth l (put e x v)) (MeetsLower v (bound_of x e l))
lower-literal x e v (Eq t) h = absurd (cc)
lower-literal x e v (Geq t) h =
    subst (λ k. Decides (literal_truth (Geq t) (put e x v)) (pos 0 ≤ℤ k)) (lower-value x e v t (lower_sign x (Geq t) h)) (geq_decides (value_of t (put e x v)))
lower-literal x e v (Div d t) h = absurd (cc)
lower-literal x e v (NDiv d t) h = absurd (cc)

pub upper-literal : (x : ℕ) (e : List ℤ) (v : ℤ) (l : Literal) → is_upper x l ≡ true → Decides (literal_truth l (put e x v)) (MeetsUpper v (bound_of x e l))
upper-literal x e v (Eq t) h = absurd (cc)
upper-literal x e v (Geq t) h =
    subst (λ k. Decides (literal_truth (Geq t) (put e x v)) (pos 0 ≤ℤ k)) (upper-value x e v t (upper_sign x (Geq t) h)) (geq_decides (value_of t (put e x v)))
upper-literal x e v (Div d t) h = absurd (cc)
upper-literal x e v (NDiv d t) h = absurd (cc)

pub lower-positive : (x : ℕ) (e : List ℤ) (l : Literal) → is_lower x l ≡ true → IsPositive (bound_of x e l)
lower-positive x e l h = let s = lower_sign x l h in omega (arith, ints, size_of_positive (coefficient x l) s)

pub upper-positive : (x : ℕ) (e : List ℤ) (l : Literal) → is_upper x l ≡ true → IsPositive (bound_of x e l)
upper-positive x e l h = let s = upper_sign x l h in omega (arith, ints, size_of_negative (coefficient x l) s)

-- a literal without x is true whatever x is
not_false : (b : Bool) → not b ≡ true → b ≡ false
not_false true h = sym h
not_false false h = refl

pub free-literal : (x : ℕ) (e : List ℤ) (v : ℤ) (l : Literal) → not (has x l) ≡ true → literal_truth l (put e x v) ≡ literal_truth l e
free-literal x e v (Eq t) h = ap (λ k. int_eq k (pos 0)) (value_of-unmentioned t x e v (not_false (mentions t x) h))
free-literal x e v (Geq t) h = ap (λ k. int_le (pos 0) k) (value_of-unmentioned t x e v (not_false (mentions t x) h))
free-literal x e v (Div d t) h = ap (λ k. divides (unsigned_abs d) k) (value_of-unmentioned t x e v (not_false (mentions t x) h))
free-literal x e v (NDiv d t) h = ap (λ k. not (divides (unsigned_abs d) k)) (value_of-unmentioned t x e v (not_false (mentions t x) h))

-- ---- three kinds of literals
free_or_bound : (x : ℕ) (l : Literal) → (not (has x l) || is_bound x l) ≡ true → (not (has x l) ≡ true) ⊎ (is_bound x l ≡ true)
free_or_bound x l h = by (not (has x l)) h
  where
    by : (b : Bool) → (b || is_bound x l) ≡ true → (b ≡ true) ⊎ (is_bound x l ≡ true)
    by true h = inl refl
    by false h = inr h

bound_has : (x : ℕ) (l : Literal) → is_bound x l ≡ true → mentions (term_of l) x ≡ true
bound_has x (Eq t) h = absurd (cc)
bound_has x (Geq t) h = h
bound_has x (Div d t) h = absurd (cc)
bound_has x (NDiv d t) h = absurd (cc)

both_true : (a b : Bool) → a ≡ true → b ≡ true → (a && b) ≡ true
both_true true true f g = refl
both_true true false f g = g
both_true false b f g = f

kinds : (x : ℕ) (l : Literal) → IsLiteral l → (not (has x l) || is_bound x l) ≡ true → (not (has x l) ≡ true) ⊎ ((is_lower x l ≡ true) ⊎ (is_upper x l ≡ true))
kinds x l p h = by (free_or_bound x l h)
  where
    sign : is_bound x l ≡ true → (is_lower x l ≡ true) ⊎ (is_upper x l ≡ true)
    sign b =
        by_lt_z (pos 0) (coefficient x l)
        (λ lt. inl (both_true _ _ b (grind (arith, ints))))
        (λ le. by_lt_z (coefficient x l) (pos 0)
        (λ lt. inr (both_true _ _ b (grind (arith, ints))))
        (λ ge.
        let zero : coefficient x l ≡ pos 0 = omega (arith, ints) in
        let none : mentions (term_of l) x ≡ false = unmentioned_from_coef (term_of l) x p.term zero in
        let some : mentions (term_of l) x ≡ true = bound_has x l b in
        absurd (cc)))

    by : (not (has x l) ≡ true) ⊎ (is_bound x l ≡ true) → (not (has x l) ≡ true) ⊎ ((is_lower x l ≡ true) ⊎ (is_upper x l ≡ true))
    by (inl f) = inl f
    by (inr b) = inr (sign b)

-- ---- the clause
-- what it says where x is v
pub record Says (x : ℕ) (e : List ℤ) (c : List Literal) (v : ℤ) : Type 0 where
  pub others : clause_truth (others x c) e ≡ true
  pub between : IsBetween (map (bound_of x e) (lowers x c)) (map (bound_of x e) (uppers x c)) v

truths : (e : List ℤ) (c : List Literal) → clause_truth c e ≡ true → All (λ l. literal_truth l e ≡ true) c
truths e c h = AllPass-from_list_all (λ l. literal_truth l e) c h

truths_back : (e : List ℤ) (c : List Literal) → All (λ l. literal_truth l e ≡ true) c → clause_truth c e ≡ true
truths_back e c h = list_all-from_AllPass (λ l. literal_truth l e) c h

pub says : (x : ℕ) (e : List ℤ) (c : List Literal) (v : ℤ) → clause_truth c (put e x v) ≡ true → Says x e c v
says x e c v h =
    let all = truths (put e x v) c h in
    let holds : Literal → Type 0 = λ l. literal_truth l (put e x v) ≡ true in
    let free = All-filter (λ l. not (has x l)) holds c all in
    let low = All-filter (is_lower x) holds c all in
    let up = All-filter (is_upper x) holds c all in
    let is_free = filter_passes (λ l. not (has x l)) c in
    let is_low = filter_passes (is_lower x) c in
    let is_up = filter_passes (is_upper x) c in
    record {
      others = truths_back e (others x c) (λ k d lt. sym (free-literal x e v (get_or (others x c) k d) (is_free k d lt)) ∙ free k d lt);
      between = record {
        above = All-map (MeetsLower v) (bound_of x e) (lowers x c) (λ k d lt. (lower-literal x e v (get_or (lowers x c) k d) (is_low k d lt)).0 (low k d lt));
        below = All-map (MeetsUpper v) (bound_of x e) (uppers x c) (λ k d lt. (upper-literal x e v (get_or (uppers x c) k d) (is_up k d lt)).0 (up k d lt));
      };
    }

pub others_put : (x : ℕ) (e : List ℤ) (c : List Literal) (v : ℤ) → clause_truth (others x c) e ≡ true → clause_truth (others x c) (put e x v) ≡ true
others_put x e c v h =
    let is_free = filter_passes (λ l. not (has x l)) c in
    let all = truths e (others x c) h in
    truths_back (put e x v) (others x c) (λ k d lt. free-literal x e v (get_or (others x c) k d) (is_free k d lt) ∙ all k d lt)

pub others_free : (x : ℕ) (e : List ℤ) (c : List Literal) (v : ℤ) → clause_truth (others x c) (put e x v) ≡ true → clause_truth (others x c) e ≡ true
others_free x e c v h =
    let is_free = filter_passes (λ l. not (has x l)) c in
    let all = truths (put e x v) (others x c) h in
    truths_back e (others x c) (λ k d lt. sym (free-literal x e v (get_or (others x c) k d) (is_free k d lt)) ∙ all k d lt)

pub said : (x : ℕ) (e : List ℤ) (c : List Literal) (v : ℤ) → All IsLiteral c → list_all (λ l. not (has x l) || is_bound x l) c ≡ true
    → Says x e c v → clause_truth c (put e x v) ≡ true
said x e c v proper bounded s =
    let holds : Literal → Type 0 = λ l. literal_truth l (put e x v) ≡ true in
    let bounds = AllPass-from_list_all (λ l. not (has x l) || is_bound x l) c bounded in
    let is_low = filter_passes (is_lower x) c in
    let is_up = filter_passes (is_upper x) c in
    let low = all-unmap (MeetsLower v) (bound_of x e) (lowers x c) (s.between).above in
    let up = all-unmap (MeetsUpper v) (bound_of x e) (uppers x c) (s.between).below in
    truths_back (put e x v) c
    (all_of_three holds (λ l. not (has x l)) (is_lower x) (is_upper x) c
    (λ k d lt. kinds x (get_or c k d) (proper k d lt) (bounds k d lt))
    (truths (put e x v) (others x c) (others_put x e c v s.others))
    (λ k d lt. (lower-literal x e v (get_or (lowers x c) k d) (is_low k d lt)).1 (low k d lt))
    (λ k d lt. (upper-literal x e v (get_or (uppers x c) k d) (is_up k d lt)).1 (up k d lt)))
