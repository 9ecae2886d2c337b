-- The dual of a formula of Presburger arithmetic: it is one, and true exactly where the formula is not.
use Rattle.std.proofs.Common.{◌≡◌, true, ℤ, pos, negsuc, List, refl}
use Rattle.std.proofs.lemmas.Bool.{and_from}
use Rattle.linear_term.specs.Linear.{Linear, number}
use Rattle.linear_term.specs.Combination.{combination}
use Rattle.base_budget.specs.Trace.{just, step, next}
use Rattle.clause_set.proofs.Negations.{less_is}
use Rattle.formula.specs.Form.{Form, Forms, equal, unequal, at_least, holds, fails, differs, conjunction, disjunction, universal, existential, no_form, and_form, is_pure, are_pure}
use Rattle.formula.specs.Sizes.{depth}
use Rattle.formula.specs.Duals.{dual, duals}
use Rattle.formula.proofs.Duals.{dual_is}
use Rattle.formula.proofs.Sameness.{depth_dual}
use Rattle.formula.proofs.Stability.{form_stable}
use Rattle.elim_laws.specs.Presburger.{IsPresburger, ArePresburger, IsPresburgerTrue, plain}

-- −t − 1
abbrev pub less : Linear → Linear
less t = combination (negsuc 0) t (pos 1) (number (negsuc 0))

mutual
  pub presburger-pure : (f : Form) → IsPresburger f → is_pure f ≡ true
  presburger-pure (equal t) h = refl
  presburger-pure (unequal t) h = refl
  presburger-pure (at_least t) h = refl
  presburger-pure (holds p ts) h = absurd h
  presburger-pure (fails p ts) h = absurd h
  presburger-pure (differs f ts u) h = absurd h
  presburger-pure (conjunction fs) h = all_presburger-pure fs h
  presburger-pure (disjunction fs) h = all_presburger-pure fs h
  presburger-pure (universal f) h = presburger-pure f h
  presburger-pure (existential f) h = presburger-pure f h

  all_presburger-pure : (fs : Forms) → ArePresburger fs → are_pure fs ≡ true
  all_presburger-pure no_form h = refl
  all_presburger-pure (and_form f fs) h = and_from (is_pure f) (are_pure fs) (presburger-pure f h.0) (all_presburger-pure fs h.1)

pub stable : (f : Form) (e : List ℤ) → ¬ (¬ (IsPresburgerTrue f e)) → IsPresburgerTrue f e
stable f e h = form_stable plain f e h

pub dual_false : (f : Form) (e : List ℤ) → IsPresburger f → IsPresburgerTrue (dual f).value e → ¬ (IsPresburgerTrue f e)
dual_false f e p = (dual_is plain f e (presburger-pure f p)).0

pub dual_true : (f : Form) (e : List ℤ) → IsPresburger f → ¬ (IsPresburgerTrue f e) → IsPresburgerTrue (dual f).value e
dual_true f e p = (dual_is plain f e (presburger-pure f p)).1

pub dual-depth : (f : Form) → depth (dual f).value ≡ depth f
dual-depth = depth_dual

mutual
  unfolding next just step

  pub dual-proper : (f : Form) → IsPresburger f → IsPresburger (dual f).value
  dual-proper (equal t) h = h
  dual-proper (unequal t) h = h
  dual-proper (at_least t) h = (less_is t h).term
  dual-proper (holds p ts) h = absurd h
  dual-proper (fails p ts) h = absurd h
  dual-proper (differs f ts u) h = absurd h
  dual-proper (conjunction fs) h = duals-proper fs h
  dual-proper (disjunction fs) h = duals-proper fs h
  dual-proper (universal f) h = dual-proper f h
  dual-proper (existential f) h = dual-proper f h

  duals-proper : (fs : Forms) → ArePresburger fs → ArePresburger (duals fs).value
  duals-proper no_form h = tt
  duals-proper (and_form f fs) h = (dual-proper f h.0, duals-proper fs h.1)
