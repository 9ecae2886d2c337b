-- Quantifiers before formulas.
use Rattle.std.proofs.Common.{◌≡◌, ℤ, pos, true, List, [], ◌∷◌, ◌++◌, refl, sym, ap, ◌∙◌, subst}
use Rattle.form_typed.specs.Truth.{Meaning}
use Rattle.formula.specs.Form.{Form, FormTruth, conjunction, disjunction, universal, existential, no_form, is_pure}
use Rattle.formula.specs.Tree.{form}
use Rattle.formula.specs.declared.calculus.Core.{Core}
use Rattle.formula.specs.declared.calculus.Core.TheVariants as c
use Rattle.formula.proofs.Building.{form-Forall, form-Exists}
use Rattle.model_formulas.specs.Expanded.{IsBound}

bound_refl : (f : Form) → IsBound f f
bound_refl f = record { pure = λ h. h; there = λ w e h. h; back = λ w e h. h }

pub all_made : (g g' : Core) → g' ≡ g → IsBound (universal (form g)) (form (c.Forall g'))
all_made g g' same = subst (IsBound (universal (form g))) (sym (form-Forall g' ∙ ap (λ x. universal (form x)) same)) (bound_refl (universal (form g)))

pub some_made : (g g' : Core) → g' ≡ g → IsBound (existential (form g)) (form (c.Exists g'))
some_made g g' same = subst (IsBound (existential (form g))) (sym (form-Exists g' ∙ ap (λ x. existential (form x)) same)) (bound_refl (existential (form g)))

pub all_true : (g : Core) → form g ≡ conjunction no_form → IsBound (universal (form g)) (form g)
all_true g is = record {
  pure = λ h. h;
  there = λ w e h v. subst (λ f. FormTruth w f (e ++ v ∷ [])) (sym is) tt;
  back = λ w e h. subst (λ f. FormTruth w f e) (sym is) tt;
}

pub all_false : (g : Core) → form g ≡ disjunction no_form → IsBound (universal (form g)) (form g)
all_false g is = record {
  pure = λ h. h;
  there = λ w e h v. absurd (subst (λ f. FormTruth w f e) is h tt);
  back = λ w e h. absurd (subst (λ f. FormTruth w f (e ++ pos 0 ∷ [])) is (h (pos 0)) tt);
}

pub some_true : (g : Core) → form g ≡ conjunction no_form → IsBound (existential (form g)) (form g)
some_true g is = record {
  pure = λ h. h;
  there = λ w e h none. none (pos 0) (subst (λ f. FormTruth w f (e ++ pos 0 ∷ [])) (sym is) tt);
  back = λ w e h. subst (λ f. FormTruth w f e) (sym is) tt;
}

pub some_false : (g : Core) → form g ≡ disjunction no_form → IsBound (existential (form g)) (form g)
some_false g is = record {
  pure = λ h. h;
  there = λ w e h none. subst (λ f. FormTruth w f e) is h tt;
  back = λ w e h. absurd (h (λ v t. subst (λ f. FormTruth w f (e ++ v ∷ [])) is t tt));
}

pub ruleset bound = (all_made, some_made, all_true, all_false, some_true, some_false)
