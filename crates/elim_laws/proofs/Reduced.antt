-- Pure formulas with reduced terms.
use Rattle.std.proofs.Common.{◌≡◌, Bool, true, false, ◌&&◌, refl}
use Rattle.formula.specs.Form.{Form, Forms, equal, unequal, at_least, holds, fails, differs, conjunction, disjunction, universal, existential, no_form, and_form, is_pure, are_pure}
use Rattle.formula.specs.Reduced.{HasReducedTerms, HaveReducedTerms}
use Rattle.elim_laws.specs.Presburger.{IsPresburger, ArePresburger}

both_true : (a b : Bool) → (a && b) ≡ true → (a ≡ true) × (b ≡ true)
both_true true b h = (refl, h)
both_true false b h = absurd (cc)

mutual
  -- a pure formula with reduced terms is one of Presburger arithmetic
  pub presburger_of : (f : Form) → is_pure f ≡ true → HasReducedTerms f → IsPresburger f
  presburger_of (equal t) p h = h
  presburger_of (unequal t) p h = h
  presburger_of (at_least t) p h = h
  presburger_of (holds q ts) p h = absurd (cc)
  presburger_of (fails q ts) p h = absurd (cc)
  presburger_of (differs q ts u) p h = absurd (cc)
  presburger_of (conjunction fs) p h = all_presburger_of fs p h
  presburger_of (disjunction fs) p h = all_presburger_of fs p h
  presburger_of (universal f) p h = presburger_of f p h
  presburger_of (existential f) p h = presburger_of f p h

  all_presburger_of : (fs : Forms) → are_pure fs ≡ true → HaveReducedTerms fs → ArePresburger fs
  all_presburger_of no_form p h = tt
  all_presburger_of (and_form f fs) p h = let two = both_true (is_pure f) (are_pure fs) p in (presburger_of f two.0 h.0, all_presburger_of fs two.1 h.1)
