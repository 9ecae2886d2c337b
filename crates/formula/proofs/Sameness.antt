-- A shifted formula and a dual are as large as the formula, and as pure.
use Rattle.std.proofs.Common.{◌≡◌, ℕ, ◌+◌, max, ◌&&◌, refl, ap}
use Rattle.base_budget.specs.Trace.{just, step, next}
use Rattle.formula.specs.Form.{Form, Forms, equal, unequal, at_least, holds, fails, differs, conjunction, disjunction, universal, existential, no_form, and_form, is_pure, are_pure}
use Rattle.formula.specs.Sizes.{size, sizes, depth, depths}
use Rattle.formula.specs.Shifts.{shifted, all_shifted}
use Rattle.formula.specs.Duals.{dual, duals}

mutual
  pub size_shifted : (n k : ℕ) (f : Form) → size (shifted n k f) ≡ size f
  size_shifted n k (equal t) = refl
  size_shifted n k (unequal t) = refl
  size_shifted n k (at_least t) = refl
  size_shifted n k (holds p ts) = refl
  size_shifted n k (fails p ts) = refl
  size_shifted n k (differs p ts u) = refl
  size_shifted n k (conjunction fs) = ap (λ z. 1 + z) (sizes_shifted n k fs)
  size_shifted n k (disjunction fs) = ap (λ z. 1 + z) (sizes_shifted n k fs)
  size_shifted n k (universal f) = ap (λ z. 1 + z) (size_shifted n k f)
  size_shifted n k (existential f) = ap (λ z. 1 + z) (size_shifted n k f)

  pub sizes_shifted : (n k : ℕ) (fs : Forms) → sizes (all_shifted n k fs) ≡ sizes fs
  sizes_shifted n k no_form = refl
  sizes_shifted n k (and_form f fs) = λ i. size_shifted n k f i + sizes_shifted n k fs i

mutual
  pub depth_shifted : (n k : ℕ) (f : Form) → depth (shifted n k f) ≡ depth f
  depth_shifted n k (equal t) = refl
  depth_shifted n k (unequal t) = refl
  depth_shifted n k (at_least t) = refl
  depth_shifted n k (holds p ts) = refl
  depth_shifted n k (fails p ts) = refl
  depth_shifted n k (differs p ts u) = refl
  depth_shifted n k (conjunction fs) = ap (λ z. 1 + z) (depths_shifted n k fs)
  depth_shifted n k (disjunction fs) = ap (λ z. 1 + z) (depths_shifted n k fs)
  depth_shifted n k (universal f) = ap (λ z. 1 + z) (depth_shifted n k f)
  depth_shifted n k (existential f) = ap (λ z. 1 + z) (depth_shifted n k f)

  pub depths_shifted : (n k : ℕ) (fs : Forms) → depths (all_shifted n k fs) ≡ depths fs
  depths_shifted n k no_form = refl
  depths_shifted n k (and_form f fs) = λ i. max (depth_shifted n k f i) (depths_shifted n k fs i)

mutual
  pub pure_shifted : (n k : ℕ) (f : Form) → is_pure (shifted n k f) ≡ is_pure f
  pure_shifted n k (equal t) = refl
  pure_shifted n k (unequal t) = refl
  pure_shifted n k (at_least t) = refl
  pure_shifted n k (holds p ts) = refl
  pure_shifted n k (fails p ts) = refl
  pure_shifted n k (differs p ts u) = refl
  pure_shifted n k (conjunction fs) = all_pure_shifted n k fs
  pure_shifted n k (disjunction fs) = all_pure_shifted n k fs
  pure_shifted n k (universal f) = pure_shifted n k f
  pure_shifted n k (existential f) = pure_shifted n k f

  pub all_pure_shifted : (n k : ℕ) (fs : Forms) → are_pure (all_shifted n k fs) ≡ are_pure fs
  all_pure_shifted n k no_form = refl
  all_pure_shifted n k (and_form f fs) = λ i. pure_shifted n k f i && all_pure_shifted n k fs i

mutual
  unfolding next just step

  pub size_dual : (f : Form) → size (dual f).value ≡ size f
  size_dual (equal t) = refl
  size_dual (unequal t) = refl
  size_dual (at_least t) = refl
  size_dual (holds p ts) = refl
  size_dual (fails p ts) = refl
  size_dual (differs p ts u) = refl
  size_dual (conjunction fs) = ap (λ z. 1 + z) (sizes_duals fs)
  size_dual (disjunction fs) = ap (λ z. 1 + z) (sizes_duals fs)
  size_dual (universal f) = ap (λ z. 1 + z) (size_dual f)
  size_dual (existential f) = ap (λ z. 1 + z) (size_dual f)

  pub sizes_duals : (fs : Forms) → sizes (duals fs).value ≡ sizes fs
  sizes_duals no_form = refl
  sizes_duals (and_form f fs) = λ i. size_dual f i + sizes_duals fs i

mutual
  unfolding next just step

  pub depth_dual : (f : Form) → depth (dual f).value ≡ depth f
  depth_dual (equal t) = refl
  depth_dual (unequal t) = refl
  depth_dual (at_least t) = refl
  depth_dual (holds p ts) = refl
  depth_dual (fails p ts) = refl
  depth_dual (differs p ts u) = refl
  depth_dual (conjunction fs) = ap (λ z. 1 + z) (depths_duals fs)
  depth_dual (disjunction fs) = ap (λ z. 1 + z) (depths_duals fs)
  depth_dual (universal f) = ap (λ z. 1 + z) (depth_dual f)
  depth_dual (existential f) = ap (λ z. 1 + z) (depth_dual f)

  pub depths_duals : (fs : Forms) → depths (duals fs).value ≡ depths fs
  depths_duals no_form = refl
  depths_duals (and_form f fs) = λ i. max (depth_dual f i) (depths_duals fs i)

mutual
  unfolding next just step

  pub pure_dual : (f : Form) → is_pure (dual f).value ≡ is_pure f
  pure_dual (equal t) = refl
  pure_dual (unequal t) = refl
  pure_dual (at_least t) = refl
  pure_dual (holds p ts) = refl
  pure_dual (fails p ts) = refl
  pure_dual (differs p ts u) = refl
  pure_dual (conjunction fs) = all_pure_duals fs
  pure_dual (disjunction fs) = all_pure_duals fs
  pure_dual (universal f) = pure_dual f
  pure_dual (existential f) = pure_dual f

  pub all_pure_duals : (fs : Forms) → are_pure (duals fs).value ≡ are_pure fs
  all_pure_duals no_form = refl
  all_pure_duals (and_form f fs) = λ i. pure_dual f i && all_pure_duals fs i
