-- Shifted formulas, built member by member.
use Rattle.std.proofs.Common.{◌≡◌, ℕ, List, [], ◌∷◌, map, All, refl, ap, ◌∙◌}
use Rattle.std.proofs.lemmas.List.Elements.{All-nil, All-cons}
use Rattle.formula.specs.declared.calculus.Core.{Core}
use Rattle.formula.specs.declared.calculus.Core.TheVariants as c
use Rattle.formula.specs.Form.{and_form, conjunction, disjunction, forms}
use Rattle.formula.specs.Shifts.{shifted, all_shifted, IsBelow, AreBelow}
use Rattle.formula.specs.Tree.{form, forms_of}
use Rattle.formula.proofs.Building.{formed, form-And, form-Or}

all_is : (n k : ℕ) (fs : List Core) → forms (map (λ f. shifted n k (form f)) fs) ≡ all_shifted n k (forms_of fs)
all_is n k [] = refl
all_is n k (f ∷ fs) = ap (λ l. and_form (shifted n k (form f)) l) (all_is n k fs)

pub and_shifted : (n k : ℕ) (fs gs : List Core) → map form gs ≡ map (λ f. shifted n k (form f)) fs → form (c.And gs) ≡ conjunction (all_shifted n k (forms_of fs))
and_shifted n k fs gs h = form-And gs ∙ ap (λ l. conjunction l) (ap forms h ∙ all_is n k fs)

pub or_shifted : (n k : ℕ) (fs gs : List Core) → map form gs ≡ map (λ f. shifted n k (form f)) fs → form (c.Or gs) ≡ disjunction (all_shifted n k (forms_of fs))
or_shifted n k fs gs h = form-Or gs ∙ ap (λ l. disjunction l) (ap forms h ∙ all_is n k fs)

pub below_all : (b : ℕ) (fs : List Core) → AreBelow b (forms_of fs) → All (λ f. IsBelow b (form f)) fs
below_all b [] h = All-nil (λ (f : Core). IsBelow b (form f))
below_all b (f ∷ fs) h = All-cons (λ (g : Core). IsBelow b (form g)) f fs h.0 (below_all b fs h.1)

pub ruleset shifting = (formed, and_shifted, or_shifted, below_all)
