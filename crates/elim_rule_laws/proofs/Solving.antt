-- An equation a·x + s = 0 in the other literals.
use Rattle.std.proofs.Common.{◌≡◌, ◌≢◌, ℕ, zero, suc, ℤ, pos, negsuc, neg_ℤ, ◌+ℤ◌, ◌*ℤ◌, ◌<ℤ◌, unsigned_abs, int_le, int_lt, Bool, true, false, not, ◌&&◌, ◌||◌, cond, List, [], ◌∷◌, map, Some, refl, sym, ◌∙◌, ap, arith}
use Rattle.std.specs.Ordering.{int_eq}
use Rattle.std.proofs.lemmas.Int.{ints}
use Rattle.base_integers.specs.Divides.{Divides, divides}
use Rattle.base_integers.specs.Entry.{put}
use Rattle.base_integers.proofs.Ring.{mul-add, mul_assoc, neg-mul, mul-neg, left_comm}
use Rattle.linear_term.specs.Linear.{Linear, value_of, coef_of, without}
use Rattle.linear_term.proofs.Names.{value_of-put, value_of-without-put, value_of-unmentioned}
use Rattle.linear_term.proofs.Totals.{value_of-combination, by_test}
use Rattle.clause_set.specs.declared.literal.Literal.{Literal}
use Rattle.clause_set.specs.declared.literal.Literal.TheVariants.{Eq, Geq, Div, NDiv}
use Rattle.clause_set.specs.Literals.{literal_truth, clause_truth}
use Rattle.clause_set.specs.Names.{has}
use Rattle.clause_set.specs.Equations.{sign_of, size_of}
use Rattle.elim_rule_laws.specs.EquationResults.{solved_sum, scaled_literal, solved_literal, solved_by}
use lib.IntN.{*ℤ_comm}
use Rattle.std.specs.Bool.{Decides}
use Rattle.std.specs.List.{AllByRecursion, list_any}
use Rattle.std.specs.Prelude.{remove, slice_get}
use Rattle.std.proofs.lemmas.Bool.Decides.{Decides-int_eq}
use Rattle.base_integers.proofs.Divisors.{Divides_from_test, test_from_Divides}
use Rattle.clause_set.specs.Met.{IsMet}
use Rattle.elim_rule_laws.proofs.EquationLists.{all-apart, all-mapped, and_left, and_right, and_both, true_or, or_false}
use Rattle.elim_rule_laws.proofs.Tests.{zero_scaled, bound_scaled, divides_scaled}

pub sign-times : (a : ℤ) → sign_of a *ℤ a ≡ size_of a
sign-times (pos n) = let no : int_lt (pos n) (pos 0) ≡ false = grind (arith, ints) in ap (λ b. cond b (negsuc 0) (pos 1) *ℤ pos n) no ∙ omega (arith, ints)
sign-times (negsuc n) = omega (arith, ints)

pub size_not_zero : (a : ℤ) → a ≢ pos 0 → pos 0 <ℤ size_of a
size_not_zero (pos zero) n = absurd (n refl)
size_not_zero (pos (suc k)) n = omega (arith, ints)
size_not_zero (negsuc k) n = omega (arith, ints)

-- |a|·t − σ·b·s is |a|·(b·v + t) where a·v + s = 0
pub solved-sum : (a b s t v : ℤ) → (a *ℤ v) +ℤ s ≡ pos 0
    → (size_of a *ℤ t) +ℤ (neg_ℤ (sign_of a *ℤ b) *ℤ s) ≡ size_of a *ℤ ((b *ℤ v) +ℤ t)
solved-sum a b s t v e =
    let s_is : s ≡ neg_ℤ (a *ℤ v) = omega (arith, ints, e) in
    let left : neg_ℤ (sign_of a *ℤ b) *ℤ s ≡ (sign_of a *ℤ b) *ℤ (a *ℤ v) =
    ap (λ z. neg_ℤ (sign_of a *ℤ b) *ℤ z) s_is ∙ neg-mul (sign_of a *ℤ b) (neg_ℤ (a *ℤ v)) ∙ ap neg_ℤ (mul-neg (sign_of a *ℤ b) (a *ℤ v)) ∙ omega (arith, ints) in
    let moved : (sign_of a *ℤ b) *ℤ (a *ℤ v) ≡ size_of a *ℤ (b *ℤ v) =
    mul_assoc (sign_of a) b (a *ℤ v) ∙ ap (λ z. sign_of a *ℤ z) (left_comm b a v) ∙ sym (mul_assoc (sign_of a) a (b *ℤ v)) ∙ ap (λ z. z *ℤ (b *ℤ v)) (sign-times a) in
    omega (arith, ints, left, moved, mul-add (size_of a) (b *ℤ v) t)

-- the terms of literals with x, solved for x
solved_sum-value : (x : ℕ) (a : ℤ) (s u : Linear) (e : List ℤ) (v w : ℤ) → (a *ℤ v) +ℤ value_of s (put e x w) ≡ pos 0
    → value_of (solved_sum x a s u) (put e x w) ≡ size_of a *ℤ value_of u (put e x v)
solved_sum-value x a s u e v w h =
    value_of-combination (size_of a) (neg_ℤ (sign_of a *ℤ coef_of u x)) (without u x) s (put e x w)
    ∙ ap (λ z. (size_of a *ℤ z) +ℤ (neg_ℤ (sign_of a *ℤ coef_of u x) *ℤ value_of s (put e x w))) (value_of-without-put u x e w)
    ∙ solved-sum a (coef_of u x) (value_of s (put e x w)) (value_of (without u x) e) v h
    ∙ ap (λ z. size_of a *ℤ z) (sym (value_of-put u x e v))

scaled-truth : (x : ℕ) (a : ℤ) (s : Linear) (l : Literal) (e : List ℤ) (v w : ℤ) → a ≢ pos 0 → (a *ℤ v) +ℤ value_of s (put e x w) ≡ pos 0
    → literal_truth (scaled_literal x a s l) (put e x w) ≡ literal_truth l (put e x v)
scaled-truth x a s (Eq u) e v w n h =
    ap (λ z. int_eq z (pos 0)) (solved_sum-value x a s u e v w h) ∙ zero_scaled (size_of a) _ (size_not_zero a n)
scaled-truth x a s (Geq u) e v w n h =
    ap (λ z. int_le (pos 0) z) (solved_sum-value x a s u e v w h) ∙ bound_scaled (size_of a) _ (size_not_zero a n)
scaled-truth x a s (Div d u) e v w n h =
    ap (λ z. divides (unsigned_abs (d *ℤ size_of a)) z) (solved_sum-value x a s u e v w h) ∙ divides_scaled d (size_of a) _ (size_not_zero a n)
scaled-truth x a s (NDiv d u) e v w n h =
    ap not (ap (λ z. divides (unsigned_abs (d *ℤ size_of a)) z) (solved_sum-value x a s u e v w h) ∙ divides_scaled d (size_of a) _ (size_not_zero a n))

pub unmentioned-truth : (x : ℕ) (l : Literal) (e : List ℤ) (v : ℤ) → has x l ≡ false → literal_truth l (put e x v) ≡ literal_truth l e
unmentioned-truth x (Eq t) e v n = ap (λ z. int_eq z (pos 0)) (value_of-unmentioned t x e v n)
unmentioned-truth x (Geq t) e v n = ap (λ z. int_le (pos 0) z) (value_of-unmentioned t x e v n)
unmentioned-truth x (Div d t) e v n = ap (λ z. divides (unsigned_abs d) z) (value_of-unmentioned t x e v n)
unmentioned-truth x (NDiv d t) e v n = ap (λ z. not (divides (unsigned_abs d) z)) (value_of-unmentioned t x e v n)

pub kept-truth : (x : ℕ) (l : Literal) (e : List ℤ) (v w : ℤ) → has x l ≡ false → literal_truth l (put e x w) ≡ literal_truth l (put e x v)
kept-truth x l e v w n = unmentioned-truth x l e w n ∙ sym (unmentioned-truth x l e v n)

solved-truth : (x : ℕ) (a : ℤ) (s : Linear) (l : Literal) (e : List ℤ) (v w : ℤ) → a ≢ pos 0 → (a *ℤ v) +ℤ value_of s (put e x w) ≡ pos 0
    → literal_truth (solved_literal x a s l) (put e x w) ≡ literal_truth l (put e x v)
solved-truth x a s l e v w n h =
    by_test (λ m. literal_truth m (put e x w) ≡ literal_truth l (put e x v)) (has x l) (scaled_literal x a s l) l
    (λ _. scaled-truth x a s l e v w n h)
    (λ free. kept-truth x l e v w free)

-- ---- the equation itself: |a| divides s where a·v = −s, and then v is the quotient with its sign turned
sign-sign : (a : ℤ) → sign_of a *ℤ size_of a ≡ a
sign-sign (pos n) = let no : int_lt (pos n) (pos 0) ≡ false = grind (arith, ints) in ap (λ b. cond b (negsuc 0) (pos 1) *ℤ pos n) no ∙ omega (arith, ints)
sign-sign (negsuc n) = omega (arith, ints)

pub solvable-divides : (a s v : ℤ) → (a *ℤ v) +ℤ s ≡ pos 0 → Divides (size_of a) s
solvable-divides a s v e =
    let size : (sign_of a *ℤ v) *ℤ size_of a ≡ a *ℤ v =
    ap (λ z. z *ℤ size_of a) (*ℤ_comm (sign_of a) v) ∙ mul_assoc v (sign_of a) (size_of a) ∙ ap (λ z. v *ℤ z) (sign-sign a) ∙ *ℤ_comm v a in
    record { quotient = neg_ℤ (sign_of a *ℤ v); is = omega (arith, ints, e, size, neg-mul (sign_of a *ℤ v) (size_of a)) }

pub solution-solves : (a s : ℤ) (d : Divides (size_of a) s) → (a *ℤ neg_ℤ (sign_of a *ℤ d.quotient)) +ℤ s ≡ pos 0
solution-solves a s d =
    let size : a *ℤ (sign_of a *ℤ d.quotient) ≡ d.quotient *ℤ size_of a =
    sym (mul_assoc a (sign_of a) d.quotient) ∙ ap (λ z. z *ℤ d.quotient) (*ℤ_comm a (sign_of a) ∙ sign-times a) ∙ *ℤ_comm (size_of a) d.quotient in
    omega (arith, ints, size, d.is, mul-neg a (sign_of a *ℤ d.quotient))

pub divides_size : (a s : ℤ) → Decides (divides (unsigned_abs (size_of a)) s) (Divides (size_of a) s)
divides_size a s = (λ t. Divides_from_test (unsigned_abs a) s t, λ d. test_from_Divides (unsigned_abs a) s d)

-- ---- the rule
rest-truth : (x : ℕ) (a : ℤ) (s : Linear) (ls : List Literal) (e : List ℤ) (v w : ℤ) → a ≢ pos 0 → (a *ℤ v) +ℤ value_of s (put e x w) ≡ pos 0
    → clause_truth (map (solved_literal x a s) ls) (put e x w) ≡ clause_truth ls (put e x v)
rest-truth x a s ls e v w n h =
    all-mapped (λ l. Unit {0}) (λ l. literal_truth l (put e x v)) (λ l. literal_truth l (put e x w)) (solved_literal x a s)
    (λ l _. solved-truth x a s l e v w n h) ls (trivial ls)
  where
    trivial : (ls : List Literal) → AllByRecursion (λ (l : Literal). Unit {0}) ls
    trivial [] = tt
    trivial (l ∷ ls) = (tt, trivial ls)

-- what is left of c where the equation t = 0 stands at i
abbrev left_by_equation : ℕ → ℕ → List Literal → Linear → List Literal
left_by_equation x i c t = Div (size_of (coef_of t x)) (without t x) ∷ map (solved_literal x (coef_of t x) (without t x)) (remove c i)

pub equation_kept : (x i : ℕ) (c : List Literal) (t : Linear) (e : List ℤ) → slice_get c i ≡ Some (Eq t) → coef_of t x ≢ pos 0
    → IsMet (c ∷ []) x e → IsMet (solved_by x (remove c i) (Some (Eq t))) x e
equation_kept x i c t e at n m =
    let v : ℤ = m.0 in
    let all : clause_truth c (put e x v) ≡ true = or_false _ m.1 in
    let parts : (literal_truth (Eq t) (put e x v) && clause_truth (remove c i) (put e x v)) ≡ true = sym (all-apart (λ l. literal_truth l (put e x v)) c i (Eq t) at) ∙ all in
    let zero_there : value_of t (put e x v) ≡ pos 0 = (Decides-int_eq (value_of t (put e x v)) (pos 0)).0 (and_left _ _ parts) in
    let free : value_of (without t x) (put e x v) ≡ value_of (without t x) e = value_of-without-put t x e v in
    let is : (coef_of t x *ℤ v) +ℤ value_of (without t x) (put e x v) ≡ pos 0 = ap (λ z. (coef_of t x *ℤ v) +ℤ z) free ∙ sym (value_of-put t x e v) ∙ zero_there in
    (v, true_or _ (and_both _ _ ((divides_size (coef_of t x) _).1 (solvable-divides (coef_of t x) _ v is)) (rest-truth x (coef_of t x) (without t x) (remove c i) e v v n is ∙ and_right _ _ parts)))

pub equation_back : (x i : ℕ) (c : List Literal) (t : Linear) (e : List ℤ) → slice_get c i ≡ Some (Eq t) → coef_of t x ≢ pos 0
    → IsMet (solved_by x (remove c i) (Some (Eq t))) x e → IsMet (c ∷ []) x e
equation_back x i c t e at n m =
    let w : ℤ = m.0 in
    let parts : clause_truth (left_by_equation x i c t) (put e x w) ≡ true = or_false _ m.1 in
    let d : Divides (size_of (coef_of t x)) (value_of (without t x) (put e x w)) = (divides_size (coef_of t x) (value_of (without t x) (put e x w))).0 (and_left _ _ parts) in
    let v : ℤ = neg_ℤ (sign_of (coef_of t x) *ℤ d.quotient) in
    let is : (coef_of t x *ℤ v) +ℤ value_of (without t x) (put e x w) ≡ pos 0 = solution-solves (coef_of t x) (value_of (without t x) (put e x w)) d in
    let zero_there : value_of t (put e x v) ≡ pos 0 = value_of-put t x e v ∙ ap (λ z. (coef_of t x *ℤ v) +ℤ z) (sym (value_of-without-put t x e w)) ∙ is in (
      v,
      true_or _ (all-apart (λ l. literal_truth l (put e x v)) c i (Eq t) at
          ∙ and_both _ _ ((Decides-int_eq (value_of t (put e x v)) (pos 0)).1 zero_there) (sym (rest-truth x (coef_of t x) (without t x) (remove c i) e v w n is) ∙ and_right _ _ parts)),
    )

pub solution-is : (a s : ℤ) → Divides (size_of a) s → (x : ℤ) × ((a *ℤ x) +ℤ s ≡ pos 0)
solution-is a s d = (neg_ℤ (sign_of a *ℤ d.quotient), solution-solves a s d)

-- a clause without x
or_none : (a b : Bool) → (a || b) ≡ false → (a ≡ false) × (b ≡ false)
or_none true b h = absurd (cc)
or_none false b h = (refl, h)

pub unused-truth : (x : ℕ) (c : List Literal) (e : List ℤ) (v : ℤ) → list_any (has x) c ≡ false → clause_truth c (put e x v) ≡ clause_truth c e
unused-truth x [] e v h = refl
unused-truth x (l ∷ ls) e v h =
    let parts = or_none (has x l) (list_any (has x) ls) h in
    ap (λ b. b && clause_truth ls (put e x v)) (unmentioned-truth x l e v parts.0) ∙ ap (λ b. literal_truth l e && b) (unused-truth x ls e v parts.1)
