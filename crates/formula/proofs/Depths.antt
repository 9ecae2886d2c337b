-- A formula over n of depth k has its names, bound ones included, below n + k.
use Rattle.std.proofs.Common.{ℕ, suc, ◌+◌, ◌≤◌, max, List, [], ◌∷◌, All, arith}
use Rattle.std.proofs.lemmas.List.Elements.{All-nil, All-cons, All-head, All-tail}
use Rattle.linear_term.specs.Linear.{Linear, IsOver}
use Rattle.formula.specs.Form.{Form, Forms, equal, unequal, at_least, holds, fails, differs, conjunction, disjunction, universal, existential, no_form, and_form, IsFormOver, AreFormsOver}
use Rattle.formula.proofs.Extending.{over_more}
use Rattle.formula.specs.Sizes.{depth, depths}
use Rattle.formula.specs.Shifts.{IsBelow, AreBelow}

terms_more : (n m : ℕ) (ts : List Linear) → n ≤ m → All (IsOver n) ts → All (IsOver m) ts
terms_more n m [] le h = All-nil (IsOver m)
terms_more n m (t ∷ ts) le h = All-cons (IsOver m) t ts (over_more n m t le (All-head (IsOver n) t ts h)) (terms_more n m ts le (All-tail (IsOver n) t ts h))

left_most : (n a c b : ℕ) → n + max a c ≤ b → n + a ≤ b
left_most n a c b h = grind (arith, h)

right_most : (n a c b : ℕ) → n + max a c ≤ b → n + c ≤ b
right_most n a c b h = grind (arith, h)

mutual
  pub below_depth : (n b : ℕ) (f : Form) → n + depth f ≤ b → IsFormOver n f → IsBelow b f
  below_depth n b (equal t) le h = over_more n b t (omega (arith, le)) h
  below_depth n b (unequal t) le h = over_more n b t (omega (arith, le)) h
  below_depth n b (at_least t) le h = over_more n b t (omega (arith, le)) h
  below_depth n b (holds p ts) le h = terms_more n b ts (omega (arith, le)) h
  below_depth n b (fails p ts) le h = terms_more n b ts (omega (arith, le)) h
  below_depth n b (differs p ts u) le h = (terms_more n b ts (omega (arith, le)) h.0, over_more n b u (omega (arith, le)) h.1)
  below_depth n b (conjunction fs) le h = below_depths n b fs (omega (arith, le)) h
  below_depth n b (disjunction fs) le h = below_depths n b fs (omega (arith, le)) h
  below_depth n b (universal f) le h = below_depth (suc n) b f (omega (arith, le)) h
  below_depth n b (existential f) le h = below_depth (suc n) b f (omega (arith, le)) h

  pub below_depths : (n b : ℕ) (fs : Forms) → n + depths fs ≤ b → AreFormsOver n fs → AreBelow b fs
  below_depths n b no_form le h = tt
  below_depths n b (and_form f fs) le h =
      (below_depth n b f (left_most n (depth f) (depths fs) b le) h.0, below_depths n b fs (right_most n (depth f) (depths fs) b le) h.1)
