-- The rule that comes first: it is there exactly where the clause has the name, it applies, and it leaves nearer clauses.
use Rattle.std.proofs.Common.{◌≡◌, ◌<◌, ◌≤◌, ◌+◌, ℕ, zero, suc, Bool, true, false, not, ◌&&◌, ◌||◌, cond, nat_eq, nat_lt, unsigned_abs, List, [], ◌∷◌, length, drop, Option, Some, None, ◌⊎◌, inl, inr, refl, sym, ◌∙◌, ap, subst, arith}
use Rattle.std.specs.Prelude.{pos, All, position, slice_get, count_by}
use Rattle.std.specs.Cmp.{first_so}
use Rattle.std.specs.Option.{option_map}
use Rattle.std.specs.List.{list_all, list_any, position_or_len}
use Rattle.std.proofs.lemmas.Bool.Decides.{nat_tests}
use Rattle.std.proofs.lemmas.Bool.{cond-true}
use Rattle.std.proofs.lemmas.List.Quantifiers.{position-Some}
use Rattle.std.proofs.lemmas.Option.{slice_get-get_or}
use Rattle.std.proofs.lemmas.List.Sums.{sum_by-cons}
use Rattle.linear_term.specs.Linear.{number}
use Rattle.base_budget.specs.declared.log.Entry.{Entry}
use Rattle.base_budget.specs.declared.log.Entry.TheVariants.{Equation, Apart, Merge, Shift, OneSided, Exact, Dark}
use Rattle.clause_set.specs.declared.literal.Literal.{Literal}
use Rattle.clause_set.specs.declared.literal.Literal.TheVariants.{Eq, Geq, Div, NDiv}
use Rattle.clause_set.specs.Names.{has, coefficient, is_equation, is_bound, is_divisibility, is_indivisibility}
use Rattle.elim_laws.specs.Elimination.{IsSplit}
use Rattle.clause_set.specs.Rules.{passes, applies, rule, first_rule, first_of, when, merge_behind, first_merge, is_bounded, is_two_sided, is_exact, is_one_sided, is_least_equation, measure}
use Rattle.clause_set.proofs.Covers.{Among, any_with, all_by, by_no}
use Rattle.elim_rule_laws.proofs.EquationLists.{any-none, none-count, any-got, and_both}
use Rattle.elim_rule_laws.proofs.Applying.{equation_applies, apart_applies, merge_applies, shift_applies}
use Rattle.elim_rule_laws.proofs.EquationProgress.{equation-nearer, apart-nearer, merge-nearer, shift-nearer}
use Rattle.elim_rule_laws.proofs.Forms.{one_sided-nearer, exact-nearer, dark-nearer}

-- ---- places
any-place : {X : Type 0} (p : X → Bool) (xs : List X) → list_any p xs ≡ nat_lt (position_or_len p xs) (length xs)
any-place p [] = sym (grind (arith, nat_tests))
any-place p (x ∷ xs) = by (p x) (any-place p xs)
  where
    by : (b : Bool) → list_any p xs ≡ nat_lt (position_or_len p xs) (length xs) → (b || list_any p xs) ≡ nat_lt (cond (not b) (1 + position_or_len p xs) 0) (suc (length xs))
    by true h = sym (grind (arith, nat_tests))
    by false h = h ∙ grind (arith, nat_tests)

-- no place where nothing passes
pub no_place : {X : Type 0} (p : X → Bool) (xs : List X) → position p xs ≡ None → list_any p xs ≡ false
no_place p xs h = by (list_any p xs) (any-place p xs)
  where
    by : (b : Bool) → b ≡ nat_lt (position_or_len p xs) (length xs) → b ≡ false
    by false e = refl
    by true e = absurd (let s : position p xs ≡ Some (position_or_len p xs) = cond-true _ _ _ (sym e) in cc)

-- the literal at the place passes
pub at_place : (p : Literal → Bool) (xs : List Literal) (i : ℕ) → position p xs ≡ Some i → passes p (slice_get xs i) ≡ true
at_place p xs i h =
    let d : Literal = Geq (number (pos 0)) in
    let f = position-Some p xs i d h in
    ap (passes p) (slice_get-get_or xs i d f.0) ∙ f.1

-- none before it does
pub before_place : (p : Literal → Bool) (xs : List Literal) (i k : ℕ) → position p xs ≡ Some i → k < i → passes p (slice_get xs k) ≡ false
before_place p xs i k h lt =
    let d : Literal = Geq (number (pos 0)) in
    let f = position-Some p xs i d h in
    let w : k < length xs = omega (arith, f.0) in
    ap (passes p) (slice_get-get_or xs k d w) ∙ f.2 k lt

-- ---- lists
slice_get-drop : {X : Type 0} (n : ℕ) (xs : List X) (j : ℕ) → slice_get (drop n xs) j ≡ slice_get xs (n + j)
slice_get-drop zero xs j = ap (slice_get xs) (omega arith)
slice_get-drop (suc n) [] j = refl
slice_get-drop (suc n) (x ∷ xs) j = slice_get-drop n xs j ∙ (let e : suc n + j ≡ suc (n + j) = omega arith in sym (ap (slice_get (x ∷ xs)) e))

passes_weaker : (p q : Literal → Bool) → ((l : Literal) → p l ≡ true → q l ≡ true) → (o : Option Literal) → passes p o ≡ true → passes q o ≡ true
passes_weaker p q f None h = h
passes_weaker p q f (Some l) h = f l h

no_count : {X : Type 0} (p : X → Bool) (xs : List X) → list_any p xs ≡ false → count_by p xs ≡ 0
no_count p xs h = none-count p xs (any-none p xs h)

-- one alone passes
one_only : (p : Literal → Bool) (xs : List Literal) (i : ℕ) → passes p (slice_get xs i) ≡ true → ((k : ℕ) → k < i → passes p (slice_get xs k) ≡ false)
    → list_any p (drop (i + 1) xs) ≡ false → count_by p xs ≡ 1
one_only p [] i h b n = absurd (let f : false ≡ true = h in cc)
one_only p (x ∷ xs) zero h b n =
    let none : count_by p xs ≡ 0 = no_count p xs n in
    let first : ◌≡◌ {A = ℕ} (cond (p x) 1 0) 1 = ap (λ z. cond {A = ℕ} z 1 0) h in
    let all : count_by p (x ∷ xs) ≡ cond (p x) 1 0 + count_by p xs = sum_by-cons _ x xs in
    omega (arith, none, first, all)
one_only p (x ∷ xs) (suc i) h b n =
    let first : ◌≡◌ {A = ℕ} (cond (p x) 1 0) 0 = ap (λ z. cond {A = ℕ} z 1 0) (b 0 (omega arith)) in
    let same : suc i + 1 ≡ suc (i + 1) = omega arith in
    let rest : count_by p xs ≡ 1 = one_only p xs i h (λ k lt. b (suc k) (omega arith)) (sym (ap (λ z. list_any p (drop z (x ∷ xs))) same) ∙ n) in
    let all : count_by p (x ∷ xs) ≡ cond (p x) 1 0 + count_by p xs = sum_by-cons _ x xs in
    omega (arith, first, rest, all)

no_either : {X : Type 0} (p q : X → Bool) (xs : List X) → list_any p xs ≡ false → list_any q xs ≡ false → list_any (λ x. p x || q x) xs ≡ false
no_either p q [] h k = refl
no_either p q (x ∷ xs) h k = by (p x) (q x) h k (no_either p q xs)
  where
    by : (a b : Bool) → (a || list_any p xs) ≡ false → (b || list_any q xs) ≡ false → (list_any p xs ≡ false → list_any q xs ≡ false → list_any (λ x. p x || q x) xs ≡ false) → ((a || b) || list_any (λ x. p x || q x) xs) ≡ false
    by true b m n f = m
    by false true m n f = n
    by false false m n f = f m n

-- ---- the least
record Least {X : Type 0} (p : X → Bool) (f : X → ℕ) (xs : List X) : Type 0 where
  element : X
  among : Among element xs
  passes : p element ≡ true
  least : (y : X) → Among y xs → p y ≡ true → f element ≤ f y

-- one of two numbers is at most the other
either_way : (a b : ℕ) → (a ≤ b) ⊎ (b < a)
either_way a b = by (nat_lt b a) refl
  where
    by : (t : Bool) → nat_lt b a ≡ t → (a ≤ b) ⊎ (b < a)
    by true e = inr (grind (arith, nat_tests))
    by false e = inl (grind (arith, nat_tests))

module _ {X : Type 0} (p : X → Bool) (f : X → ℕ) (x : X) (xs : List X) where
  least_first : p x ≡ true → ((y : X) → Among y xs → p y ≡ true → f x ≤ f y) → Least p f (x ∷ xs)
  least_first h k = record { element = x; among = inl refl; passes = h; least = λ y m q. at y m q }
    where
      at : (y : X) → Among y (x ∷ xs) → p y ≡ true → f x ≤ f y
      at y (inl e) q = let s : f y ≡ f x = ap f e in omega (arith, s)
      at y (inr m) q = k y m q

  least_later : (l : Least p f xs) → (p x ≡ true → f l.element ≤ f x) → Least p f (x ∷ xs)
  least_later l k = record { element = l.element; among = inr l.among; passes = l.passes; least = λ y m q. at y m q }
    where
      at : (y : X) → Among y (x ∷ xs) → p y ≡ true → f l.element ≤ f y
      at y (inl e) q = let s : f y ≡ f x = ap f e in let t = k (ap p (sym e) ∙ q) in omega (arith, s, t)
      at y (inr m) q = l.least y m q

  least_more : (list_any p xs ≡ false) ⊎ Least p f xs → (list_any p (x ∷ xs) ≡ false) ⊎ Least p f (x ∷ xs)
  least_more o = by (p x) refl o
    where
      nearest : p x ≡ true → (l : Least p f xs) → (f x ≤ f l.element) ⊎ (f l.element < f x) → Least p f (x ∷ xs)
      nearest h l (inl le) = least_first h (λ y m q. let t = l.least y m q in omega (arith, le, t))
      nearest h l (inr lt) = least_later l (λ _. omega (arith, lt))

      by : (b : Bool) → p x ≡ b → (list_any p xs ≡ false) ⊎ Least p f xs → ((b || list_any p xs) ≡ false) ⊎ Least p f (x ∷ xs)
      by true h (inl n) = inr (least_first h (λ y m q. absurd (let t = any_with p y xs m q in cc)))
      by true h (inr l) = inr (nearest h l (either_way (f x) (f l.element)))
      by false h (inl n) = inl n
      by false h (inr l) = inr (least_later l (λ t. absurd (cc)))

least_of : {X : Type 0} (p : X → Bool) (f : X → ℕ) (xs : List X) → (list_any p xs ≡ false) ⊎ Least p f xs
least_of p f [] = inl refl
least_of p f (x ∷ xs) = least_more p f x xs (least_of p f xs)

-- where an equation has x, one of them has the least coefficient
least_equation : (x : ℕ) (c : List Literal) → list_any (is_least_equation x c) c ≡ false → list_any (is_equation x) c ≡ false
least_equation x c h = by (least_of (is_equation x) (λ l. unsigned_abs (coefficient x l)) c)
  where
    smaller : (l : Least (is_equation x) (λ l. unsigned_abs (coefficient x l)) c) (m : Literal) → Among m c
        → not (is_equation x m && nat_lt (unsigned_abs (coefficient x m)) (unsigned_abs (coefficient x l.element))) ≡ true
    smaller l m a = at (is_equation x m) refl
      where
        at : (b : Bool) → is_equation x m ≡ b → not (b && nat_lt (unsigned_abs (coefficient x m)) (unsigned_abs (coefficient x l.element))) ≡ true
        at true e = let le = l.least m a e in let t : nat_lt (unsigned_abs (coefficient x m)) (unsigned_abs (coefficient x l.element)) ≡ false = grind (arith, nat_tests) in ap not t
        at false e = refl

    by : (list_any (is_equation x) c ≡ false) ⊎ Least (is_equation x) (λ l. unsigned_abs (coefficient x l)) c → list_any (is_equation x) c ≡ false
    by (inl n) = n
    by (inr l) = absurd (let t : list_any (is_least_equation x c) c ≡ true = any_with (is_least_equation x c) l.element c l.among (and_both _ _ l.passes (all_by _ c (smaller l))) in cc)

-- ---- the rule that comes first
-- it applies to x in c, and leaves clauses nearer to being without x
pub record IsRule (x : ℕ) (c : List Literal) (e : Entry) : Type 0 where
  pub applies : applies x c e ≡ true
  pub nearer : All (λ r. measure x r < measure x c) (rule x c e).value

first_has : (P : Entry → Type 0) (a b : Option Entry) (e : Entry) → ((f : Entry) → a ≡ Some f → P f) → ((f : Entry) → a ≡ None → b ≡ Some f → P f) → first_of a b ≡ Some e → P e
first_has P (Some g) b e p q h = p e h
first_has P None b e p q h = q e refl h

mapped_has : (g : ℕ → Entry) (P : Entry → Type 0) (o : Option ℕ) (e : Entry) → ((i : ℕ) → o ≡ Some i → P (g i)) → option_map g o ≡ Some e → P e
mapped_has g P None e p h = absurd (cc)
mapped_has g P (Some i) e p h = let s : g i ≡ e = cc in subst P s (p i refl)

not_mapped : (g : ℕ → Entry) (o : Option ℕ) → option_map g o ≡ None → o ≡ None
not_mapped g None h = refl
not_mapped g (Some i) h = absurd (cc)

when_has : (P : Entry → Type 0) (b : Bool) (f e : Entry) → (b ≡ true → P f) → when b f ≡ Some e → P e
when_has P true f e p h = let s : f ≡ e = cc in subst P s (p refl)
when_has P false f e p h = absurd (cc)

when_none : (b : Bool) (f : Entry) → when b f ≡ None → b ≡ false
when_none true f h = absurd (cc)
when_none false f h = refl

first_none : (a b : Option Entry) → first_of a b ≡ None → (a ≡ None) × (b ≡ None)
first_none None b h = (refl, h)
first_none (Some e) b h = absurd (cc)

module _ (x : ℕ) (c : List Literal) where
  equation_first : (i : ℕ) → position (is_least_equation x c) c ≡ Some i → IsRule x c (Equation i)
  unfolding applies
  equation_first i h =
      let a : passes (is_equation x) (slice_get c i) ≡ true = passes_weaker (is_least_equation x c) (is_equation x) (λ l p. first_so _ _ p) (slice_get c i) (at_place (is_least_equation x c) c i h) in
      record { applies = a; nearer = equation-nearer x i c a }

  apart_first : list_any (is_equation x) c ≡ false → (i : ℕ) → position (is_indivisibility x) c ≡ Some i → IsRule x c (Apart i)
  unfolding applies
  apart_first n i h =
      let a : passes (is_indivisibility x) (slice_get c i) ≡ true = at_place (is_indivisibility x) c i h in
      record { applies = a; nearer = apart-nearer x i c n a }

  merge_at : list_any (is_equation x) c ≡ false → (i j : ℕ) → position (is_divisibility x) c ≡ Some i → position (is_divisibility x) (drop (i + 1) c) ≡ Some j → IsRule x c (Merge i (i + 1 + j))
  unfolding applies
  merge_at n i j h k =
      let lt : nat_lt i (i + 1 + j) ≡ true = grind (arith, nat_tests) in
      let second : passes (is_divisibility x) (slice_get c (i + 1 + j)) ≡ true = sym (ap (passes (is_divisibility x)) (slice_get-drop (i + 1) c j)) ∙ at_place (is_divisibility x) (drop (i + 1) c) j k in
      let a = and_both _ _ lt (and_both _ _ (at_place (is_divisibility x) c i h) second) in
      record { applies = a; nearer = merge-nearer x i (i + 1 + j) c n a }

  merge_first : list_any (is_equation x) c ≡ false → (o : Option ℕ) → position (is_divisibility x) c ≡ o → (e : Entry) → first_merge x c o ≡ Some e → IsRule x c e
  merge_first n None h e is = absurd (cc)
  merge_first n (Some i) h e is = mapped_has (λ j. Merge i (i + 1 + j)) (IsRule x c) (position (is_divisibility x) (drop (i + 1) c)) e (λ j k. merge_at n i j h k) is

  shift_first : list_any (is_equation x) c ≡ false → list_any (is_indivisibility x) c ≡ false → (i : ℕ) → position (is_divisibility x) c ≡ Some i → merge_behind x c i ≡ None → IsRule x c (Shift i)
  unfolding applies
  shift_first n m i h none =
      let here = at_place (is_divisibility x) c i h in
      let one : count_by (is_divisibility x) c ≡ 1 = one_only (is_divisibility x) c i here (λ k lt. before_place (is_divisibility x) c i k h lt) (no_place (is_divisibility x) (drop (i + 1) c) (not_mapped _ _ none)) in
      let t : nat_eq (count_by (is_divisibility x) c) 1 ≡ true = grind (arith, nat_tests) in
      let a = and_both _ _ here (and_both _ _ t (ap not (no_either (is_equation x) (is_indivisibility x) c n m))) in
      record { applies = a; nearer = shift-nearer x i c a }

  one_sided_first : is_one_sided x c ≡ true → IsRule x c OneSided
  unfolding applies
  one_sided_first h = record { applies = h; nearer = one_sided-nearer x c h }

  exact_first : is_exact x c ≡ true → IsRule x c Exact
  unfolding applies
  exact_first h = record { applies = h; nearer = exact-nearer x c h }

  dark_first : is_two_sided x c ≡ true → IsRule x c Dark
  unfolding applies
  dark_first h = record { applies = h; nearer = dark-nearer x c h }

  no_equation : option_map (λ i. Equation i) (position (is_least_equation x c) c) ≡ None → list_any (is_equation x) c ≡ false
  no_equation h = least_equation x c (no_place (is_least_equation x c) c (not_mapped _ _ h))

  no_indivisibility : option_map (λ i. Apart i) (position (is_indivisibility x) c) ≡ None → list_any (is_indivisibility x) c ≡ false
  no_indivisibility h = no_place (is_indivisibility x) c (not_mapped _ _ h)

  -- the rule that comes first applies, and leaves nearer clauses
  pub first_is_rule : (e : Entry) → first_rule x c ≡ Some e → IsRule x c e
  unfolding first_rule
  first_is_rule e =
      first_has (IsRule x c) _ _ e (λ f. mapped_has _ (IsRule x c) _ f equation_first)
      (λ f n1. let n = no_equation n1 in
      first_has (IsRule x c) _ _ f (λ g. mapped_has _ (IsRule x c) _ g (apart_first n))
      (λ g n2. let m = no_indivisibility n2 in
      first_has (IsRule x c) _ _ g (merge_first n (position (is_divisibility x) c) refl)
      (λ h n3. first_has (IsRule x c) _ _ h (λ k. mapped_has _ (IsRule x c) _ k (λ i at. shift_first n m i at (sym (ap (first_merge x c) at) ∙ n3)))
      (λ k n4. first_has (IsRule x c) _ _ k (λ l. when_has (IsRule x c) _ _ l one_sided_first)
      (λ l n5. first_has (IsRule x c) _ _ l (λ z. when_has (IsRule x c) _ _ z exact_first)
      (λ z n6. when_has (IsRule x c) _ _ z dark_first))))))

  bounds_only : list_any (is_equation x) c ≡ false → list_any (is_indivisibility x) c ≡ false → list_any (is_divisibility x) c ≡ false → list_all (λ l. not (has x l) || is_bound x l) c ≡ true
  bounds_only n m d = all_by _ c (λ l a. at l (passes_no (is_equation x) l a n) (passes_no (is_indivisibility x) l a m) (passes_no (is_divisibility x) l a d))
    where
      passes_no : (p : Literal → Bool) (l : Literal) → Among l c → list_any p c ≡ false → p l ≡ false
      passes_no p l a h = by_no (p l) (λ t. let y = any_with p l c a t in absurd (cc))

      or_not : (b : Bool) → b ≡ false → (not b || false) ≡ true
      or_not true h = absurd (cc)
      or_not false h = refl

      or_same : (b : Bool) → (not b || b) ≡ true
      or_same true = refl
      or_same false = refl

      at : (l : Literal) → is_equation x l ≡ false → is_indivisibility x l ≡ false → is_divisibility x l ≡ false → (not (has x l) || is_bound x l) ≡ true
      at (Eq t) a b k = or_not _ a
      at (Geq t) a b k = or_same (has x (Geq t))
      at (Div z t) a b k = or_not _ k
      at (NDiv z t) a b k = or_not _ b

  -- where no rule comes first, the clause is without x
  pub none_first : first_rule x c ≡ None → list_any (has x) c ≡ false
  unfolding first_rule
  none_first h =
      let h1 = first_none _ _ h in let h2 = first_none _ _ h1.1 in let h3 = first_none _ _ h2.1 in
      let h4 = first_none _ _ h3.1 in let h5 = first_none _ _ h4.1 in let h6 = first_none _ _ h5.1 in
      let all = bounds_only (no_equation h1.0) (no_indivisibility h2.0) (no_place (is_divisibility x) c (not_mapped _ _ h4.0)) in
      let one : is_one_sided x c ≡ false = when_none _ _ h5.0 in
      let two : is_two_sided x c ≡ false = when_none _ _ h6.1 in
      by (list_any (has x) c) refl all one two
    where
      by : (b : Bool) → list_any (has x) c ≡ b → list_all (λ l. not (has x l) || is_bound x l) c ≡ true → is_one_sided x c ≡ false → is_two_sided x c ≡ false → b ≡ false
      by false e a o t = refl
      by true e a o t = absurd (let s : is_one_sided x c ≡ true = and_both _ _ (and_both _ _ e a) (ap not t) in cc)

  -- a rule that applies has x
  pub applies_has : (e : Entry) → applies x c e ≡ true → list_any (has x) c ≡ true
  unfolding applies
  applies_has (Equation i) h = let r = equation_applies x i c h in any-got (has x) c i _ r.stands r.mentioned
  applies_has (Apart i) h = let r = apart_applies x i c h in any-got (has x) c i _ r.stands r.mentioned
  applies_has (Merge i j) h = let r = (merge_applies x i j c h).first in any-got (has x) c i _ r.stands r.mentioned
  applies_has (Shift i) h = let r = (shift_applies x i c h).literal in any-got (has x) c i _ r.stands r.mentioned
  applies_has OneSided h = first_so (list_any (has x) c) _ (first_so (is_bounded x c) _ h)
  applies_has Exact h = first_so (list_any (has x) c) _ (first_so (is_bounded x c) _ (first_so (is_two_sided x c) _ h))
  applies_has Dark h = first_so (list_any (has x) c) _ (first_so (is_bounded x c) _ h)

  -- a rule comes first exactly where the clause has x
  pub some_first : list_any (has x) c ≡ true → (e : Entry) × (first_rule x c ≡ Some e)
  some_first h = by (first_rule x c) refl
    where
      by : (o : Option Entry) → first_rule x c ≡ o → (e : Entry) × (first_rule x c ≡ Some e)
      by None is = absurd (let n = none_first is in cc)
      by (Some e) is = (e, is)

  pub free_first : list_any (has x) c ≡ false → first_rule x c ≡ None
  free_first h = by (first_rule x c) refl
    where
      by : (o : Option Entry) → first_rule x c ≡ o → first_rule x c ≡ None
      by None is = is
      by (Some e) is = absurd (let t = applies_has e (first_is_rule e is).applies in cc)

-- a split or a merge comes first only where no equation has x
pub split_late : (x : ℕ) (c : List Literal) (e : Entry) → first_rule x c ≡ Some e → IsSplit e → list_any (is_equation x) c ≡ false
unfolding first_rule
split_late x c e h late =
    first_has (λ f. IsSplit f → list_any (is_equation x) c ≡ false) _ _ e
    (λ f. mapped_has _ (λ g. IsSplit g → list_any (is_equation x) c ≡ false) _ f (λ i at l. absurd l))
    (λ f none is l. no_equation x c none) h late
