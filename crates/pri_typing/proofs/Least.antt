-- The least of several things in an order, and of two lists of them; and of faults.
use Rattle.std.proofs.Common.{◌≡◌, ℕ, Bool, true, false, ◌&&◌, ◌||◌, List, [], ◌∷◌, ◌++◌, Option, Some, None, nat_eq, nat_lt, if◌then◌else◌, refl, sym, ap, ◌∙◌, arith, All, Contains, subst, get_or}
use Rattle.std.proofs.lemmas.List.Elements.{Contains-get_or, Contains-append_right, All-cons}
use Rattle.pri_typing.specs.declared.problem.TypeRefusal.{TypeRefusal}
use Rattle.pri_typing.specs.Least.{IsStrictWeakOrder, earlier_by, least_by}
use Rattle.pri_typing.specs.Faults.{place_of, number_of, is_before, earlier, least}

abbrev pick : {A : Type 0} → Bool → A → A → A
pick p a b = if p then b else a

same : {A : Type 0} (x y : A) → Some x ≡ Some y → x ≡ y
same x y h = cc

module _ {A : Type 0} (before : A → A → Bool) where
  pub earlier_by-none : (a : Option A) → earlier_by before a None ≡ a
  earlier_by-none None = refl
  earlier_by-none (Some a) = refl

  pub least_by-none : (xs : List A) → least_by before xs ≡ None → xs ≡ []
  least_by-none [] h = refl
  least_by-none (x ∷ xs) h = absurd (by (least_by before xs) h)
    where
      by : (z : Option A) → earlier_by before (Some x) z ≡ None → ⊥
      by None k = cc
      by (Some s) k = cc

  pub least_by-among : (xs : List A) (r : A) → least_by before xs ≡ Some r → Contains xs r
  least_by-among [] r h = absurd cc
  least_by-among (x ∷ xs) r h = by (least_by before xs) refl h (least_by-among xs)
    where
      pick_is : (b : Bool) (y : A) → pick b x y ≡ r → Contains xs y → Contains (x ∷ xs) r
      pick_is true y k c = subst (λ z. Contains (x ∷ xs) z) k (Contains-append_right (x ∷ []) xs y c)
      pick_is false y k c = subst (λ z. Contains (x ∷ xs) z) k (Contains-get_or (x ∷ xs) 0 x (omega arith))

      by : (z : Option A) → least_by before xs ≡ z → earlier_by before (Some x) z ≡ Some r → ((y : A) → least_by before xs ≡ Some y → Contains xs y) → Contains (x ∷ xs) r
      by None e k ih = subst (λ z. Contains (x ∷ xs) z) (same x r k) (Contains-get_or (x ∷ xs) 0 x (omega arith))
      by (Some y) e k ih = pick_is (before y x) y (same (pick (before y x) x y) r k) (ih y e)

module _ {A : Type 0} (before : A → A → Bool) (o : IsStrictWeakOrder before) where
  not_before_self : (a : A) → before a a ≡ false
  not_before_self a = by (before a a) refl
    where
      by : (b : Bool) → before a a ≡ b → before a a ≡ false
      by true e = o.asymmetric a a e
      by false e = e

  transitive : (a b c : A) → before b a ≡ true → before c b ≡ true → before c a ≡ true
  transitive a b c e f = by (before c a) refl
    where
      by : (v : Bool) → before c a ≡ v → before c a ≡ true
      by true g = g
      by false g = absurd (let h = sym e ∙ o.negative a c b g (o.asymmetric c b f) in cc)

  -- of three, whichever two are compared first
  pick-three : (a b c : A) → pick (before c (pick (before b a) a b)) (pick (before b a) a b) c ≡ pick (before (pick (before c b) b c) a) a (pick (before c b) b c)
  pick-three a b c = by (before b a) (before c b) refl refl
    where
      left : Bool → A
      left p = pick (before c (pick p a b)) (pick p a b) c

      right : Bool → A
      right q = pick (before (pick q b c) a) a (pick q b c)

      by : (p q : Bool) → before b a ≡ p → before c b ≡ q → left (before b a) ≡ right (before c b)
      by true true e f = ap left e ∙ ap (λ r. pick r b c) f ∙ sym (ap right f ∙ ap (λ r. pick r a c) (transitive a b c e f))
      by true false e f = ap left e ∙ ap (λ r. pick r b c) f ∙ sym (ap right f ∙ ap (λ r. pick r a b) e)
      by false true e f = ap left e ∙ sym (ap right f)
      by false false e f = ap left e ∙ ap (λ r. pick r a c) (o.negative a b c e f) ∙ sym (ap right f ∙ ap (λ r. pick r a b) e)

  pub earlier_by-assoc : (a b c : Option A) → earlier_by before (earlier_by before a b) c ≡ earlier_by before a (earlier_by before b c)
  earlier_by-assoc None b c = refl
  earlier_by-assoc (Some a) None c = refl
  earlier_by-assoc (Some a) (Some b) None = refl
  earlier_by-assoc (Some a) (Some b) (Some c) = ap (λ x. Some x) (pick-three a b c)

  pub least_by-append : (xs ys : List A) → least_by before (xs ++ ys) ≡ earlier_by before (least_by before xs) (least_by before ys)
  least_by-append [] ys = refl
  least_by-append (x ∷ xs) ys =
      ap (earlier_by before (Some x)) (least_by-append xs ys) ∙ sym (earlier_by-assoc (Some x) (least_by before xs) (least_by before ys))

  pub least_by-first : (xs : List A) (r : A) → least_by before xs ≡ Some r → All (λ s. before s r ≡ false) xs
  least_by-first [] r h = absurd cc
  least_by-first (x ∷ xs) r h = by (least_by before xs) refl h (least_by-first xs)
    where
      pick_is : (b : Bool) (y : A) → before y x ≡ b → pick b x y ≡ r → All (λ s. before s y ≡ false) xs → All (λ s. before s r ≡ false) (x ∷ xs)
      pick_is true y e k a = subst (λ z. All (λ s. before s z ≡ false) (x ∷ xs)) k
          (All-cons (λ s. before s y ≡ false) x xs (o.asymmetric y x e) a)
      pick_is false y e k a = subst (λ z. All (λ s. before s z ≡ false) (x ∷ xs)) k
          (All-cons (λ s. before s x ≡ false) x xs (not_before_self x) (λ i d w. o.negative x y (get_or xs i d) e (a i d w)))

      by : (z : Option A) → least_by before xs ≡ z → earlier_by before (Some x) z ≡ Some r
          → ((y : A) → least_by before xs ≡ Some y → All (λ s. before s y ≡ false) xs) → All (λ s. before s r ≡ false) (x ∷ xs)
      by None e k ih = subst (λ z. All (λ s. before s z ≡ false) (x ∷ xs)) (same x r k)
          (subst (λ zs. All (λ s. before s x ≡ false) (x ∷ zs)) (sym (least_by-none before xs e)) (All-cons (λ s. before s x ≡ false) x [] (not_before_self x) (λ i d w. absurd (omega (arith, w)))))
      by (Some y) e k ih = pick_is (before y x) y refl (same (pick (before y x) x y) r k) (ih y e)

-- Offsets, and faults.

pub offsets_ordered : IsStrictWeakOrder nat_lt
offsets_ordered = record { asymmetric = λ a b e. grind (arith, e); negative = λ a b c e f. grind (arith, e, f) }

-- the order over any places and numbers
abbrev precedes : ℕ → ℕ → ℕ → ℕ → Bool
precedes a m b n = nat_lt a b || nat_eq a b && nat_lt m n

precedes-asymmetric : (a m b n : ℕ) → precedes a m b n ≡ true → precedes b n a m ≡ false
precedes-asymmetric a m b n = grind arith

precedes-negative : (a m b n c o : ℕ) → precedes b n a m ≡ false → precedes c o b n ≡ false → precedes c o a m ≡ false
precedes-negative a m b n c o = grind arith

pub faults_ordered : IsStrictWeakOrder is_before
faults_ordered = record {
  asymmetric = λ a b. precedes-asymmetric (place_of a) (number_of a) (place_of b) (number_of b);
  negative = λ a b c. precedes-negative (place_of a) (number_of a) (place_of b) (number_of b) (place_of c) (number_of c);
}

pub earlier-assoc : (a b c : Option TypeRefusal) → earlier (earlier a b) c ≡ earlier a (earlier b c)
earlier-assoc = earlier_by-assoc is_before faults_ordered

pub earlier-none : (a : Option TypeRefusal) → earlier a None ≡ a
earlier-none = earlier_by-none is_before

pub least-append : (xs ys : List TypeRefusal) → least (xs ++ ys) ≡ earlier (least xs) (least ys)
least-append = least_by-append is_before faults_ordered

pub least-none : (rs : List TypeRefusal) → least rs ≡ None → rs ≡ []
least-none = least_by-none is_before
