-- A miniscoped formula is at most twice as deep.
use Rattle.std.proofs.Common.{ℕ, suc, ◌≡◌, ◌+◌, ◌*◌, ◌≤◌, max, refl, ap, arith}
use Rattle.linear_term.proofs.Totals.{by_test}
use Rattle.formula.specs.Form.{Form, Forms, equal, unequal, at_least, holds, fails, differs, conjunction, disjunction, universal, existential, no_form, and_form}
use Rattle.formula.specs.Sizes.{depth, depths}
use Rattle.form_miniscope.specs.Lowering.{occurs, occurs_in, freed, all_freed}
use Rattle.form_miniscope.specs.Miniscope.{bound, outer, beside, over_name, every, all_every, some, all_some, miniscoped, all_miniscoped, scoped_below}

mutual
  freed_depth : (n : ℕ) (f : Form) → depth (freed n f) ≡ depth f
  freed_depth n (equal t) = refl
  freed_depth n (unequal t) = refl
  freed_depth n (at_least t) = refl
  freed_depth n (holds p ts) = refl
  freed_depth n (fails p ts) = refl
  freed_depth n (differs f ts u) = refl
  freed_depth n (conjunction fs) = ap (λ z. 1 + z) (freed_depths n fs)
  freed_depth n (disjunction fs) = ap (λ z. 1 + z) (freed_depths n fs)
  freed_depth n (universal f) = ap (λ z. 1 + z) (freed_depth n f)
  freed_depth n (existential f) = ap (λ z. 1 + z) (freed_depth n f)

  freed_depths : (n : ℕ) (fs : Forms) → depths (all_freed n fs) ≡ depths fs
  freed_depths n no_form = refl
  freed_depths n (and_form f fs) = λ i. max (freed_depth n f i) (freed_depths n fs i)

least : (a b c : ℕ) → a ≤ c → b ≤ c → max a b ≤ c
least a b c h k = omega (arith, h, k)

left : (a b : ℕ) → a ≤ max a b
left a b = omega arith

right : (a b c : ℕ) → a ≤ b → a ≤ max c b
right a b c h = omega (arith, h)

both : (a b c d k : ℕ) → a ≤ c + k → b ≤ d + k → max a b ≤ max c d + k
both a b c d k h j = omega (arith, h, j)

bound_depth : (n : ℕ) (fs : Forms) → depths (bound n fs) ≤ depths fs
bound_depth n no_form = omega arith
bound_depth n (and_form f fs) =
    by_test (λ z. depths z ≤ max (depth f) (depths fs)) (occurs n f) (and_form f (bound n fs)) (bound n fs)
    (λ t. least (depth f) (depths (bound n fs)) (max (depth f) (depths fs)) (left (depth f) (depths fs)) (right _ (depths fs) (depth f) (bound_depth n fs)))
    (λ t. right _ (depths fs) (depth f) (bound_depth n fs))

outer_depth : (n : ℕ) (fs : Forms) → depths (outer n fs) ≤ depths fs
outer_depth n no_form = omega arith
outer_depth n (and_form f fs) =
    by_test (λ z. depths z ≤ max (depth f) (depths fs)) (occurs n f) (outer n fs) (and_form (freed n f) (outer n fs))
    (λ t. right _ (depths fs) (depth f) (outer_depth n fs))
    (λ t. least (depth (freed n f)) (depths (outer n fs)) (max (depth f) (depths fs)) (omega (arith, freed_depth n f)) (right _ (depths fs) (depth f) (outer_depth n fs)))

beside_any : (g : Form) (fs : Forms) (k : ℕ) → depth g ≤ k → depths fs ≤ k → depth (beside disjunction g fs) ≤ 1 + k
beside_any g no_form k h j = omega (arith, h)
beside_any g (and_form f fs) k h j = omega (arith, least (depth g) (depths (and_form f fs)) k h j)

beside_all : (g : Form) (fs : Forms) (k : ℕ) → depth g ≤ k → depths fs ≤ k → depth (beside conjunction g fs) ≤ 1 + k
beside_all g no_form k h j = omega (arith, h)
beside_all g (and_form f fs) k h j = omega (arith, least (depth g) (depths (and_form f fs)) k h j)

every_over : (n : ℕ) (f : Form) → depth (over_name universal n f) ≤ depth f + 2
every_over n f = by_test (λ z. depth z ≤ depth f + 2) (occurs n f) (universal f) (freed n f) (λ t. omega arith) (λ t. omega (arith, freed_depth n f))

some_over : (n : ℕ) (f : Form) → depth (over_name existential n f) ≤ depth f + 2
some_over n f = by_test (λ z. depth z ≤ depth f + 2) (occurs n f) (existential f) (freed n f) (λ t. omega arith) (λ t. omega (arith, freed_depth n f))

every_any : (n : ℕ) (fs : Forms) → depth (beside disjunction (universal (disjunction (bound n fs))) (outer n fs)) ≤ depth (disjunction fs) + 2
every_any n fs =
    let whole = beside_any (universal (disjunction (bound n fs))) (outer n fs) (2 + depths fs) (omega (arith, bound_depth n fs)) (omega (arith, outer_depth n fs)) in
    omega (arith, whole)

some_all : (n : ℕ) (fs : Forms) → depth (beside conjunction (existential (conjunction (bound n fs))) (outer n fs)) ≤ depth (conjunction fs) + 2
some_all n fs =
    let whole = beside_all (existential (conjunction (bound n fs))) (outer n fs) (2 + depths fs) (omega (arith, bound_depth n fs)) (omega (arith, outer_depth n fs)) in
    omega (arith, whole)

mutual
  every_depth : (n : ℕ) (f : Form) → depth (every n f) ≤ depth f + 2
  every_depth n (conjunction fs) = omega (arith, every_depths n fs)
  every_depth n (disjunction fs) =
      by_test (λ z. depth z ≤ depth (disjunction fs) + 2) (occurs_in n fs) (beside disjunction (universal (disjunction (bound n fs))) (outer n fs)) (disjunction (all_freed n fs))
      (λ t. every_any n fs) (λ t. omega (arith, freed_depths n fs))
  every_depth n (equal t) = every_over n (equal t)
  every_depth n (unequal t) = every_over n (unequal t)
  every_depth n (at_least t) = every_over n (at_least t)
  every_depth n (holds p ts) = every_over n (holds p ts)
  every_depth n (fails p ts) = every_over n (fails p ts)
  every_depth n (differs f ts u) = every_over n (differs f ts u)
  every_depth n (universal f) = every_over n (universal f)
  every_depth n (existential f) = every_over n (existential f)

  every_depths : (n : ℕ) (fs : Forms) → depths (all_every n fs) ≤ depths fs + 2
  every_depths n no_form = omega arith
  every_depths n (and_form f fs) = both (depth (every n f)) (depths (all_every n fs)) (depth f) (depths fs) 2 (every_depth n f) (every_depths n fs)

mutual
  some_depth : (n : ℕ) (f : Form) → depth (some n f) ≤ depth f + 2
  some_depth n (conjunction fs) =
      by_test (λ z. depth z ≤ depth (conjunction fs) + 2) (occurs_in n fs) (beside conjunction (existential (conjunction (bound n fs))) (outer n fs)) (conjunction (all_freed n fs))
      (λ t. some_all n fs) (λ t. omega (arith, freed_depths n fs))
  some_depth n (disjunction fs) = omega (arith, some_depths n fs)
  some_depth n (equal t) = some_over n (equal t)
  some_depth n (unequal t) = some_over n (unequal t)
  some_depth n (at_least t) = some_over n (at_least t)
  some_depth n (holds p ts) = some_over n (holds p ts)
  some_depth n (fails p ts) = some_over n (fails p ts)
  some_depth n (differs f ts u) = some_over n (differs f ts u)
  some_depth n (universal f) = some_over n (universal f)
  some_depth n (existential f) = some_over n (existential f)

  some_depths : (n : ℕ) (fs : Forms) → depths (all_some n fs) ≤ depths fs + 2
  some_depths n no_form = omega arith
  some_depths n (and_form f fs) = both (depth (some n f)) (depths (all_some n fs)) (depth f) (depths fs) 2 (some_depth n f) (some_depths n fs)

twice : (a b c d : ℕ) → a ≤ 2 * c → b ≤ 2 * d → max a b ≤ 2 * max c d
twice a b c d h j = omega (arith, h, j)

mutual
  pub miniscoped_depth : (n : ℕ) (f : Form) → depth (miniscoped n f) ≤ 2 * depth f
  miniscoped_depth n (equal t) = omega arith
  miniscoped_depth n (unequal t) = omega arith
  miniscoped_depth n (at_least t) = omega arith
  miniscoped_depth n (holds p ts) = omega arith
  miniscoped_depth n (fails p ts) = omega arith
  miniscoped_depth n (differs f ts u) = omega arith
  miniscoped_depth n (conjunction fs) = omega (arith, miniscoped_depths n fs)
  miniscoped_depth n (disjunction fs) = omega (arith, miniscoped_depths n fs)
  miniscoped_depth n (universal f) = omega (arith, every_depth n (miniscoped (suc n) f), miniscoped_depth (suc n) f)
  miniscoped_depth n (existential f) = omega (arith, some_depth n (miniscoped (suc n) f), miniscoped_depth (suc n) f)

  miniscoped_depths : (n : ℕ) (fs : Forms) → depths (all_miniscoped n fs) ≤ 2 * depths fs
  miniscoped_depths n no_form = omega arith
  miniscoped_depths n (and_form f fs) = twice (depth (miniscoped n f)) (depths (all_miniscoped n fs)) (depth f) (depths fs) (miniscoped_depth n f) (miniscoped_depths n fs)

pub scoped_below_depth : (n : ℕ) (f : Form) → depth (scoped_below n f) ≤ 2 * depth f
scoped_below_depth n (universal f) = omega (arith, scoped_below_depth (suc n) f)
scoped_below_depth n f = miniscoped_depth n f
