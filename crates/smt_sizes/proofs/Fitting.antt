-- Weights that fit are sizes within the limits.
use Rattle.std.proofs.Common.{◌≡◌, ℕ, zero, suc, ◌+◌, ◌*◌, ◌-◌, ◌<◌, ◌&&◌, Bool, true, false, min, max, nat_lt, nat_le, refl, sym, ap, ap₂, ◌∙◌, arith, if◌then◌else◌}
use Rattle.form_typed.specs.Formula.{Formula, Formulas, Expression, Expressions, constant, compares, applies, negation, every, some, implies, iff, for_all, for_some, part, no_formula, and_formula, number, name, call, minus, total, product, choice, absolute, lesser, greater, no_expression, and_expression}
use Rattle.smt_sizes.specs.declared.size.Size.{Size}
use Rattle.smt_sizes.specs.declared.size.Size.TheVariants.{Large, Fits}
use Rattle.smt_sizes.specs.Size as s
use Rattle.smt_sizes.specs.Sizes.{size, all_sizes, term_size, term_sizes}
use Rattle.smt_sizes.specs.declared.weight.Weight.{Weight}
use Rattle.smt_sizes.specs.Weight.{node, onward, plus, times, fitted}
use Rattle.smt_sizes.specs.Weights.{weight, all_weights, term_weight, term_weights}

abbrev fit : ℕ → ℕ → Size
fit n r = if nat_lt n 1000001 && nat_lt r 2002 then Fits n (r - 1) else Large

fits : (n r : ℕ) → n < 1000001 → r < 2002 → fit n r ≡ Fits n (r - 1)
fits n r h k =
    let p : nat_lt n 1000001 ≡ true = grind (arith, h) in
    let q : nat_lt r 2002 ≡ true = grind (arith, k) in
    ap₂ (λ x y. if x && y then Fits n (r - 1) else Large) p q

many_nodes : (n r : ℕ) → 1000000 < n → fit n r ≡ Large
many_nodes n r h =
    let p : nat_lt n 1000001 ≡ false = grind (arith, h) in
    ap (λ x. if x && nat_lt r 2002 then Fits n (r - 1) else Large) p

many_levels : (n r : ℕ) → 2001 < r → fit n r ≡ Large
many_levels n r h = by (nat_lt n 1000001) ∙ refl
  where
    q : nat_lt r 2002 ≡ false
    q = grind (arith, h)

    by : (b : Bool) → (if b && nat_lt r 2002 then Fits n (r - 1) else Large) ≡ Large
    by true = ap (λ y. if y then Fits n (r - 1) else Large) q
    by false = refl

-- within the limits, or not
data Which (n r : ℕ) : Type 0 where
  within : n < 1000001 → r < 2002 → Which n r
  wide : 1000000 < n → Which n r
  deep : 2001 < r → Which n r

which : (n r : ℕ) → Which n r
which n r = by (nat_lt n 1000001) refl (nat_lt r 2002) refl
  where
    by : (a : Bool) → nat_lt n 1000001 ≡ a → (b : Bool) → nat_lt r 2002 ≡ b → Which n r
    by true h true k = within (grind (arith, h)) (grind (arith, k))
    by false h b k = wide (grind (arith, h))
    by true h false k = deep (grind (arith, k))

above-fit : (n r : ℕ) → s.above (fit n r) ≡ fit (min (suc n) 1000001) (max 2 (min (suc r) 2002))
above-fit n r = by (which n r)
  where
    by : Which n r → s.above (fit n r) ≡ fit (min (suc n) 1000001) (max 2 (min (suc r) 2002))
    by (within h k) =
        let p : nat_lt n 1000000 ≡ nat_lt (min (suc n) 1000001) 1000001 = grind arith in
        let q : nat_lt (r - 1) 2000 ≡ nat_lt (max 2 (min (suc r) 2002)) 2002 = grind arith in
        ap s.above (fits n r h k) ∙ ap₂ (λ x y. if x && y then Fits (n + 1) (r - 1 + 1) else Large) p q
        ∙ both (nat_lt (min (suc n) 1000001) 1000001) refl (nat_lt (max 2 (min (suc r) 2002)) 2002) refl
      where
        both : (a : Bool) → nat_lt (min (suc n) 1000001) 1000001 ≡ a → (b : Bool) → nat_lt (max 2 (min (suc r) 2002)) 2002 ≡ b
            → (if a && b then Fits (n + 1) (r - 1 + 1) else Large) ≡ (if a && b then Fits (min (suc n) 1000001) (max 2 (min (suc r) 2002) - 1) else Large)
        both true u true v =
            let x : n + 1 ≡ min (suc n) 1000001 = grind (arith, u) in
            let y : r - 1 + 1 ≡ max 2 (min (suc r) 2002) - 1 = grind (arith, v) in
            ap₂ Fits x y
        both true u false v = refl
        both false u b v = refl
    by (wide h) = ap s.above (many_nodes n r h) ∙ sym (many_nodes (min (suc n) 1000001) (max 2 (min (suc r) 2002)) (omega (arith, h)))
    by (deep h) = ap s.above (many_levels n r h) ∙ sym (many_levels (min (suc n) 1000001) (max 2 (min (suc r) 2002)) (omega (arith, h)))

beside_large : (a : Size) → s.beside a Large ≡ Large
beside_large Large = refl
beside_large (Fits n l) = refl

beside-fit : (n r m t : ℕ) → s.beside (fit n r) (fit m t) ≡ fit (min (n + m) 1000001) (max r t)
beside-fit n r m t = by (which n r) (which m t)
  where
    by : Which n r → Which m t → s.beside (fit n r) (fit m t) ≡ fit (min (n + m) 1000001) (max r t)
    by (within h i) (within g j) =
        let p : nat_lt (max r t) 2002 ≡ true = grind (arith, i, j) in
        let q : nat_le (n + m) 1000000 ≡ nat_lt (min (n + m) 1000001) 1000001 = grind arith in
        ap₂ s.beside (fits n r h i) (fits m t g j) ∙ ap (λ x. if x then Fits (n + m) (max (r - 1) (t - 1)) else Large) q ∙ both (nat_lt (min (n + m) 1000001) 1000001) refl p
      where
        both : (b : Bool) → nat_lt (min (n + m) 1000001) 1000001 ≡ b → nat_lt (max r t) 2002 ≡ true
            → (if b then Fits (n + m) (max (r - 1) (t - 1)) else Large) ≡ (if b && nat_lt (max r t) 2002 then Fits (min (n + m) 1000001) (max r t - 1) else Large)
        both true u p =
            let x : n + m ≡ min (n + m) 1000001 = grind (arith, u) in
            let y : max (r - 1) (t - 1) ≡ max r t - 1 = omega arith in
            ap₂ Fits x y ∙ sym (ap (λ z. if z then Fits (min (n + m) 1000001) (max r t - 1) else Large) p)
        both false u p = refl
    by (wide h) w = ap (λ z. s.beside z (fit m t)) (many_nodes n r h) ∙ sym (many_nodes (min (n + m) 1000001) (max r t) (omega (arith, h)))
    by (deep h) w = ap (λ z. s.beside z (fit m t)) (many_levels n r h) ∙ sym (many_levels (min (n + m) 1000001) (max r t) (omega (arith, h)))
    by v (wide h) = ap (s.beside (fit n r)) (many_nodes m t h) ∙ beside_large (fit n r) ∙ sym (many_nodes (min (n + m) 1000001) (max r t) (omega (arith, h)))
    by v (deep h) = ap (s.beside (fit n r)) (many_levels m t h) ∙ beside_large (fit n r) ∙ sym (many_levels (min (n + m) 1000001) (max r t) (omega (arith, h)))

over : {x : Size} (a : Weight) → x ≡ fitted a → s.above x ≡ fitted (plus node (times node a))
unfolding plus times
over a h =
    let n : min (suc a.nodes) 1000001 ≡ min (1 + min (1 * a.nodes) 1000001) 1000001 = omega arith in
    ap s.above h ∙ above-fit a.nodes a.reach ∙ ap₂ fit n (reach a.reach)
  where
    reach : (r : ℕ) → max 2 (min (suc r) 2002) ≡ max 2 (min (onward 2 r) 2002)
    reach zero = refl
    reach (suc r) = let is : max 2 (min (suc (suc r)) 2002) ≡ max 2 (min (suc (1 + r)) 2002) = omega arith in is

two : {x y : Size} (a b : Weight) → x ≡ fitted a → y ≡ fitted b → s.beside x y ≡ fitted (plus a b)
unfolding plus
two a b h k = ap₂ s.beside h k ∙ beside-fit a.nodes a.reach b.nodes b.reach

mutual
  pub size-fitted : (f : Formula) → size f ≡ fitted (weight f)
  size-fitted (constant b) = refl
  size-fitted (compares r s t) = over (plus (term_weight s) (term_weight t)) (two (term_weight s) (term_weight t) (term-fitted s) (term-fitted t))
  size-fitted (applies p ts) = over (term_weights ts) (terms-fitted ts)
  size-fitted (negation f) = over (weight f) (size-fitted f)
  size-fitted (every fs) = over (all_weights fs) (sizes-fitted fs)
  size-fitted (some fs) = over (all_weights fs) (sizes-fitted fs)
  size-fitted (implies f g) = over (plus (weight f) (weight g)) (two (weight f) (weight g) (size-fitted f) (size-fitted g))
  size-fitted (iff f g) = over (plus (weight f) (weight g)) (two (weight f) (weight g) (size-fitted f) (size-fitted g))
  size-fitted (for_all s f) = over (weight f) (size-fitted f)
  size-fitted (for_some s f) = over (weight f) (size-fitted f)
  size-fitted (part k f) = over (weight f) (size-fitted f)

  sizes-fitted : (fs : Formulas) → all_sizes fs ≡ fitted (all_weights fs)
  sizes-fitted no_formula = refl
  sizes-fitted (and_formula f fs) = two (weight f) (all_weights fs) (size-fitted f) (sizes-fitted fs)

  term-fitted : (t : Expression) → term_size t ≡ fitted (term_weight t)
  term-fitted (number v) = refl
  term-fitted (name x) = refl
  term-fitted (call f ts) = over (term_weights ts) (terms-fitted ts)
  term-fitted (minus t) = over (term_weight t) (term-fitted t)
  term-fitted (total ts) = over (term_weights ts) (terms-fitted ts)
  term-fitted (product s t) = over (plus (term_weight s) (term_weight t)) (two (term_weight s) (term_weight t) (term-fitted s) (term-fitted t))
  term-fitted (choice f s t) =
      over (plus (weight f) (plus (term_weight s) (term_weight t)))
      (two (weight f) (plus (term_weight s) (term_weight t)) (size-fitted f) (two (term_weight s) (term_weight t) (term-fitted s) (term-fitted t)))
  term-fitted (absolute t) = over (term_weight t) (term-fitted t)
  term-fitted (lesser s t) = over (plus (term_weight s) (term_weight t)) (two (term_weight s) (term_weight t) (term-fitted s) (term-fitted t))
  term-fitted (greater s t) = over (plus (term_weight s) (term_weight t)) (two (term_weight s) (term_weight t) (term-fitted s) (term-fitted t))

  terms-fitted : (ts : Expressions) → term_sizes ts ≡ fitted (term_weights ts)
  terms-fitted no_expression = refl
  terms-fitted (and_expression t ts) = two (term_weight t) (term_weights ts) (term-fitted t) (terms-fitted ts)
