-- What the components of a formula assume is true together where the formula, with plus, is false or, with minus, is true.
use Rattle.std.proofs.Common.{◌↔◌, ℤ, Bool, true, false, List, [], ◌∷◌, ◌++◌, map}
use Rattle.form_typed.specs.Formula.{Formula, Formulas, formula, formulas, constant, compares, applies, negation, every, some, implies, iff, for_all, for_some, part, no_formula, and_formula}
use Rattle.form_typed.specs.Truth.{Meaning, Truth, AreAllTrue, AreAllFalse}
use Rattle.form_typed.proofs.Stability.{truth_stable}
use Rattle.pri_typing.specs.declared.problem.Problem.{Problem}
use Rattle.pri_typing.specs.WellFormed.{SignedFormula, formula_components, all_formula_components, components_of}
use Rattle.pri_typing.specs.Problems.{assumed}

-- all that these components assume is true
abbrev pub AreAssumed : Meaning → List SignedFormula → List ℤ → Type 0
AreAssumed w cs e = AreAllTrue w (formulas (map assumed cs)) e

-- the formula has the truth that its sign asks for
abbrev Stands : Meaning → Bool → Formula → List ℤ → Type 0
Stands w true f e = ¬ (Truth w f e)
Stands w false f e = Truth w f e

abbrev AllStand : Meaning → Bool → Formulas → List ℤ → Type 0
AllStand w true fs e = AreAllFalse w fs e
AllStand w false fs e = AreAllTrue w fs e

join : (w : Meaning) (cs ds : List SignedFormula) (e : List ℤ) → AreAssumed w cs e → AreAssumed w ds e → AreAssumed w (cs ++ ds) e
join w [] ds e h k = k
join w (c ∷ cs) ds e h k = (h.0, join w cs ds e h.1 k)

split : (w : Meaning) (cs ds : List SignedFormula) (e : List ℤ) → AreAssumed w (cs ++ ds) e → AreAssumed w cs e × AreAssumed w ds e
split w [] ds e h = (tt {0}, h)
split w (c ∷ cs) ds e h = let rest = split w cs ds e h.1 in ((h.0, rest.0), rest.1)

all_false_stable : (w : Meaning) (fs : Formulas) (e : List ℤ) → ¬ (¬ (AreAllFalse w fs e)) → AreAllFalse w fs e
all_false_stable w no_formula e h = tt {0}
all_false_stable w (and_formula f fs) e h = (λ a. h (λ k. k.0 a), all_false_stable w fs e (λ n. h (λ k. n k.1)))

-- a component that is the formula itself
alone : (w : Meaning) (plus : Bool) (f : Formula) (e : List ℤ) → AreAssumed w ((record { plus = plus; what = f }) ∷ []) e ↔ Stands w plus f e
alone w true f e = (λ h. h.0, λ h. (h, tt {0}))
alone w false f e = (λ h. h.0, λ h. (h, tt {0}))

mutual
  pub stands : (w : Meaning) (plus : Bool) (f : Formula) (e : List ℤ) → AreAssumed w (formula_components plus f) e ↔ Stands w plus f e
  stands w true (constant b) e = alone w true (constant b) e
  stands w false (constant b) e = alone w false (constant b) e
  stands w true (compares r s t) e = alone w true (compares r s t) e
  stands w false (compares r s t) e = alone w false (compares r s t) e
  stands w true (applies p ts) e = alone w true (applies p ts) e
  stands w false (applies p ts) e = alone w false (applies p ts) e
  stands w true (negation f) e = let h = stands w false f e in (λ a n. n (h.0 a), λ n. h.1 (truth_stable w f e n))
  stands w false (negation f) e = stands w true f e
  stands w true (every fs) e = alone w true (every fs) e
  stands w false (every fs) e = all_stand w false fs e
  stands w true (some fs) e = let h = all_stand w true fs e in (λ a n. n (h.0 a), λ n. h.1 (all_false_stable w fs e n))
  stands w false (some fs) e = alone w false (some fs) e
  stands w true (implies f g) e =
      let h = stands w false f e in
      let k = stands w true g e in (
        λ a i. let both = split w (formula_components false f) (formula_components true g) e a in k.0 both.1 (i (h.0 both.0)),
        λ n. join w (formula_components false f) (formula_components true g) e
            (h.1 (truth_stable w f e (λ no. n (λ t. absurd (no t))))) (k.1 (λ t. n (λ u. t))),
      )
  stands w false (implies f g) e = alone w false (implies f g) e
  stands w true (iff f g) e = alone w true (iff f g) e
  stands w false (iff f g) e = alone w false (iff f g) e
  stands w true (for_all s f) e = alone w true (for_all s f) e
  stands w false (for_all s f) e = alone w false (for_all s f) e
  stands w true (for_some s f) e = alone w true (for_some s f) e
  stands w false (for_some s f) e = alone w false (for_some s f) e
  stands w true (part k f) e = alone w true (part k f) e
  stands w false (part k f) e = alone w false (part k f) e

  all_stand : (w : Meaning) (plus : Bool) (fs : Formulas) (e : List ℤ) → AreAssumed w (all_formula_components plus fs) e ↔ AllStand w plus fs e
  all_stand w true no_formula e = (λ h. h, λ h. h)
  all_stand w false no_formula e = (λ h. h, λ h. h)
  all_stand w true (and_formula f fs) e =
      let h = stands w true f e in
      let k = all_stand w true fs e in (
        λ a. let both = split w (formula_components true f) (all_formula_components true fs) e a in (h.0 both.0, k.0 both.1),
        λ b. join w (formula_components true f) (all_formula_components true fs) e (h.1 b.0) (k.1 b.1),
      )
  all_stand w false (and_formula f fs) e =
      let h = stands w false f e in
      let k = all_stand w false fs e in (
        λ a. let both = split w (formula_components false f) (all_formula_components false fs) e a in (h.0 both.0, k.0 both.1),
        λ b. join w (formula_components false f) (all_formula_components false fs) e (h.1 b.0) (k.1 b.1),
      )

pub components_assume : (w : Meaning) (p : Problem) (e : List ℤ) → Truth w (every (formulas (map assumed (components_of p)))) e ↔ (¬ (Truth w (formula p.formula) e))
components_assume w p e = stands w true (formula p.formula) e
