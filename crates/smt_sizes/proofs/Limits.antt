-- Sizes are extents within the limits.
use Rattle.std.proofs.Common.{◌≡◌, ◌↔◌, ◌⊎◌, inl, inr, ℕ, ◌+◌, ◌<◌, ◌≤◌, ◌&&◌, Bool, true, false, max, nat_le, nat_lt, refl, sym, ap, ap₂, ◌∙◌, arith, if◌then◌else◌}
use Rattle.form_typed.specs.Formula.{Formula, Formulas, Expression, Expressions, constant, compares, applies, negation, every, some, implies, iff, for_all, for_some, part, no_formula, and_formula, number, name, call, minus, total, product, choice, absolute, lesser, greater, no_expression, and_expression}
use Rattle.smt_sizes.specs.declared.size.Size.{Size}
use Rattle.smt_sizes.specs.declared.size.Size.TheVariants.{Large, Fits}
use Rattle.smt_sizes.specs.Size as s
use Rattle.smt_sizes.specs.Sizes.{size, all_sizes, term_size, term_sizes}
use Rattle.smt_sizes.specs.Extent as e
use Rattle.smt_sizes.specs.Extent.{ScriptExtent, extent, all_extent, term_extent, terms_extent, IsTooLarge}

-- nodes and levels within the limits
abbrev pub limited : ℕ → ℕ → Size
limited n l = if nat_le n 1000000 && nat_le l 2000 then Fits n l else Large

abbrev limit : ScriptExtent → Size
limit a = limited a.nodes a.levels

fits : (n l : ℕ) → n ≤ 1000000 → l ≤ 2000 → limited n l ≡ Fits n l
fits n l h k =
    let p : nat_le n 1000000 ≡ true = grind (arith, h) in
    let q : nat_le l 2000 ≡ true = grind (arith, k) in
    ap₂ (λ x y. if x && y then Fits n l else Large) p q

many_nodes : (n l : ℕ) → 1000000 < n → limited n l ≡ Large
many_nodes n l h =
    let p : nat_le n 1000000 ≡ false = grind (arith, h) in
    ap (λ x. if x && nat_le l 2000 then Fits n l else Large) p

many_levels : (n l : ℕ) → 2000 < l → limited n l ≡ Large
many_levels n l h = by (nat_le n 1000000) ∙ refl
  where
    q : nat_le l 2000 ≡ false
    q = grind (arith, h)

    by : (b : Bool) → (if b && nat_le l 2000 then Fits n l else Large) ≡ Large
    by true = ap (λ y. if y then Fits n l else Large) q
    by false = refl

-- within the limits, or not
data Which (n l : ℕ) : Type 0 where
  within : n ≤ 1000000 → l ≤ 2000 → Which n l
  wide : 1000000 < n → Which n l
  deep : 2000 < l → Which n l

which : (n l : ℕ) → Which n l
which n l = by (nat_le n 1000000) refl (nat_le l 2000) refl
  where
    by : (a : Bool) → nat_le n 1000000 ≡ a → (b : Bool) → nat_le l 2000 ≡ b → Which n l
    by true h true k = within (grind (arith, h)) (grind (arith, k))
    by false h b k = wide (grind (arith, h))
    by true h false k = deep (grind (arith, k))

above_limited : (n l : ℕ) → s.above (limited n l) ≡ limited (n + 1) (l + 1)
above_limited n l = by (which n l)
  where
    by : Which n l → s.above (limited n l) ≡ limited (n + 1) (l + 1)
    by (within h k) =
        let p : nat_lt n 1000000 ≡ nat_le (n + 1) 1000000 = grind arith in
        let q : nat_lt l 2000 ≡ nat_le (l + 1) 2000 = grind arith in
        ap s.above (fits n l h k) ∙ ap₂ (λ x y. if x && y then Fits (n + 1) (l + 1) else Large) p q
    by (wide h) = ap s.above (many_nodes n l h) ∙ sym (many_nodes (n + 1) (l + 1) (omega (arith, h)))
    by (deep h) = ap s.above (many_levels n l h) ∙ sym (many_levels (n + 1) (l + 1) (omega (arith, h)))

beside_large : (a : Size) → s.beside a Large ≡ Large
beside_large Large = refl
beside_large (Fits n l) = refl

beside_limited : (n l m k : ℕ) → s.beside (limited n l) (limited m k) ≡ limited (n + m) (max l k)
beside_limited n l m k = by (which n l) (which m k)
  where
    left : l ≤ max l k
    left = grind arith

    right : k ≤ max l k
    right = grind arith

    by : Which n l → Which m k → s.beside (limited n l) (limited m k) ≡ limited (n + m) (max l k)
    by (within h i) (within g j) =
        let p : nat_le (max l k) 2000 ≡ true = grind (arith, i, j) in
        ap₂ s.beside (fits n l h i) (fits m k g j) ∙ both (nat_le (n + m) 1000000) p
      where
        both : (b : Bool) → nat_le (max l k) 2000 ≡ true → (if b then Fits (n + m) (max l k) else Large) ≡ (if b && nat_le (max l k) 2000 then Fits (n + m) (max l k) else Large)
        both true p = sym (ap (λ z. if z then Fits (n + m) (max l k) else Large) p)
        both false p = refl
    by (wide h) w = ap (λ z. s.beside z (limited m k)) (many_nodes n l h) ∙ sym (many_nodes (n + m) (max l k) (omega (arith, h)))
    by (deep h) w = ap (λ z. s.beside z (limited m k)) (many_levels n l h) ∙ sym (many_levels (n + m) (max l k) (omega (arith, h, left)))
    by v (wide h) = ap (s.beside (limited n l)) (many_nodes m k h) ∙ beside_large (limited n l) ∙ sym (many_nodes (n + m) (max l k) (omega (arith, h)))
    by v (deep h) = ap (s.beside (limited n l)) (many_levels m k h) ∙ beside_large (limited n l) ∙ sym (many_levels (n + m) (max l k) (omega (arith, h, right)))

over : {x : Size} (a : ScriptExtent) → x ≡ limit a → s.above x ≡ limit (e.above a)
over a h = ap s.above h ∙ above_limited a.nodes a.levels

two : {x y : Size} (a b : ScriptExtent) → x ≡ limit a → y ≡ limit b → s.beside x y ≡ limit (e.beside a b)
two a b h k = ap₂ s.beside h k ∙ beside_limited a.nodes a.levels b.nodes b.levels

mutual
  pub size_is : (f : Formula) → size f ≡ limit (extent f)
  size_is (constant b) = refl
  size_is (compares r s t) = over (e.beside (term_extent s) (term_extent t)) (two (term_extent s) (term_extent t) (term_size_is s) (term_size_is t))
  size_is (applies p ts) = over (terms_extent ts) (term_sizes_are ts)
  size_is (negation f) = over (extent f) (size_is f)
  size_is (every fs) = over (all_extent fs) (sizes_are fs)
  size_is (some fs) = over (all_extent fs) (sizes_are fs)
  size_is (implies f g) = over (e.beside (extent f) (extent g)) (two (extent f) (extent g) (size_is f) (size_is g))
  size_is (iff f g) = over (e.beside (extent f) (extent g)) (two (extent f) (extent g) (size_is f) (size_is g))
  size_is (for_all s f) = over (extent f) (size_is f)
  size_is (for_some s f) = over (extent f) (size_is f)
  size_is (part k f) = over (extent f) (size_is f)

  sizes_are : (fs : Formulas) → all_sizes fs ≡ limit (all_extent fs)
  sizes_are no_formula = refl
  sizes_are (and_formula f fs) = two (extent f) (all_extent fs) (size_is f) (sizes_are fs)

  term_size_is : (t : Expression) → term_size t ≡ limit (term_extent t)
  term_size_is (number v) = refl
  term_size_is (name x) = refl
  term_size_is (call f ts) = over (terms_extent ts) (term_sizes_are ts)
  term_size_is (minus t) = over (term_extent t) (term_size_is t)
  term_size_is (total ts) = over (terms_extent ts) (term_sizes_are ts)
  term_size_is (product s t) = over (e.beside (term_extent s) (term_extent t)) (two (term_extent s) (term_extent t) (term_size_is s) (term_size_is t))
  term_size_is (choice f s t) = over (e.beside (extent f) (e.beside (term_extent s) (term_extent t)))
      (two (extent f) (e.beside (term_extent s) (term_extent t)) (size_is f) (two (term_extent s) (term_extent t) (term_size_is s) (term_size_is t)))
  term_size_is (absolute t) = over (term_extent t) (term_size_is t)
  term_size_is (lesser s t) = over (e.beside (term_extent s) (term_extent t)) (two (term_extent s) (term_extent t) (term_size_is s) (term_size_is t))
  term_size_is (greater s t) = over (e.beside (term_extent s) (term_extent t)) (two (term_extent s) (term_extent t) (term_size_is s) (term_size_is t))

  term_sizes_are : (ts : Expressions) → term_sizes ts ≡ limit (terms_extent ts)
  term_sizes_are no_expression = refl
  term_sizes_are (and_expression t ts) = two (term_extent t) (terms_extent ts) (term_size_is t) (term_sizes_are ts)

large_limit : (n l : ℕ) → limited n l ≡ Large → (1000000 < n) ⊎ (2000 < l)
large_limit n l h = by (which n l)
  where
    by : Which n l → (1000000 < n) ⊎ (2000 < l)
    by (within i j) = absurd (let bad : Fits n l ≡ Large = sym (fits n l i j) ∙ h in cc)
    by (wide i) = inl i
    by (deep i) = inr i

limit_large : (n l : ℕ) → (1000000 < n) ⊎ (2000 < l) → limited n l ≡ Large
limit_large n l (inl i) = many_nodes n l i
limit_large n l (inr i) = many_levels n l i

pub large_law : (f : Formula) → (size f ≡ Large) ↔ IsTooLarge (extent f)
large_law f = (λ h. large_limit (extent f).nodes (extent f).levels (sym (size_is f) ∙ h), λ h. size_is f ∙ limit_large (extent f).nodes (extent f).levels h)

pub together_law : (fs : Formulas) → (all_sizes fs ≡ Large) ↔ IsTooLarge (all_extent fs)
together_law fs = (λ h. large_limit (all_extent fs).nodes (all_extent fs).levels (sym (sizes_are fs) ∙ h), λ h. sizes_are fs ∙ limit_large (all_extent fs).nodes (all_extent fs).levels h)

pub fits_law : (f : Formula) → ¬ (IsTooLarge (extent f)) → size f ≡ Fits (extent f).nodes (extent f).levels
fits_law f h = size_is f ∙ by (which (extent f).nodes (extent f).levels)
  where
    by : Which (extent f).nodes (extent f).levels → limit (extent f) ≡ Fits (extent f).nodes (extent f).levels
    by (within i j) = fits (extent f).nodes (extent f).levels i j
    by (wide i) = absurd (h (inl i))
    by (deep i) = absurd (h (inr i))
