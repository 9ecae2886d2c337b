-- The terms of formulas of the code are reduced.
use Rattle.std.proofs.Common.{◌≡◌, ◌<◌, ◌≤◌, ◌+◌, ℕ, List, length, drop, get_or, sym, ◌∙◌, ap, subst}
use Rattle.std.specs.List.{AllByRecursion}
use Rattle.base_budget.proofs.Charging.{drop-item, drop_all}
use Rattle.linear_term.specs.Linear.{Linear, IsNormal, IsReduced}
use Rattle.linear_term.proofs.Names.{reduced-normal}
use Rattle.formula.specs.declared.calculus.Core.{Core}
use Rattle.formula.specs.declared.calculus.Core.TheVariants as c
use Rattle.formula.specs.Form.{Form}
use Rattle.formula.specs.Reduced.{HasReducedTerms, HaveReducedTerms}
use Rattle.formula.specs.Tree.{form, forms_of}
use Rattle.formula.proofs.Building.{form-Eq, form-Neq, form-Geq, form-Pred, form-NotPred, form-NotFun, form-And, form-Or, form-Forall, form-Exists}

known_as : (f g : Form) → f ≡ g → HasReducedTerms g → HasReducedTerms f
known_as f g is k = subst HasReducedTerms (sym is) k

pub known_Eq : (f : Core) (t : Linear) → f ≡ c.Eq t → IsNormal t → HasReducedTerms (form f)
known_Eq f t is n = known_as (form f) _ (ap form is ∙ form-Eq t) (reduced-normal t n)

pub known_Neq : (f : Core) (t : Linear) → f ≡ c.Neq t → IsNormal t → HasReducedTerms (form f)
known_Neq f t is n = known_as (form f) _ (ap form is ∙ form-Neq t) (reduced-normal t n)

pub known_Geq : (f : Core) (t : Linear) → f ≡ c.Geq t → IsNormal t → HasReducedTerms (form f)
known_Geq f t is n = known_as (form f) _ (ap form is ∙ form-Geq t) (reduced-normal t n)

pub known_Pred : (f : Core) (p : ℕ) (ts us : List Linear) → f ≡ c.Pred p ts → us ≡ ts → AllByRecursion IsReduced us → HasReducedTerms (form f)
known_Pred f p ts us is same k = known_as (form f) _ (ap form is ∙ form-Pred p ts) (subst (AllByRecursion IsReduced) same k)

pub known_NotPred : (f : Core) (p : ℕ) (ts us : List Linear) → f ≡ c.NotPred p ts → us ≡ ts → AllByRecursion IsReduced us → HasReducedTerms (form f)
known_NotPred f p ts us is same k = known_as (form f) _ (ap form is ∙ form-NotPred p ts) (subst (AllByRecursion IsReduced) same k)

pub known_NotFun : (f : Core) (p : ℕ) (ts us : List Linear) (u : Linear) → f ≡ c.NotFun p ts u → us ≡ ts → AllByRecursion IsReduced us → IsNormal u → HasReducedTerms (form f)
known_NotFun f p ts us u is same k n = known_as (form f) _ (ap form is ∙ form-NotFun p ts u) (subst (AllByRecursion IsReduced) same k, reduced-normal u n)

pub known_And : (f : Core) (fs gs : List Core) → f ≡ c.And fs → gs ≡ fs → HaveReducedTerms (forms_of gs) → HasReducedTerms (form f)
known_And f fs gs is same k = known_as (form f) _ (ap form is ∙ form-And fs) (subst (λ z. HaveReducedTerms (forms_of z)) same k)

pub known_Or : (f : Core) (fs gs : List Core) → f ≡ c.Or fs → gs ≡ fs → HaveReducedTerms (forms_of gs) → HasReducedTerms (form f)
known_Or f fs gs is same k = known_as (form f) _ (ap form is ∙ form-Or fs) (subst (λ z. HaveReducedTerms (forms_of z)) same k)

pub known_Forall : (f g h : Core) → f ≡ c.Forall g → h ≡ g → HasReducedTerms (form h) → HasReducedTerms (form f)
known_Forall f g h is same k = known_as (form f) _ (ap form is ∙ form-Forall g) (subst (λ z. HasReducedTerms (form z)) same k)

pub known_Exists : (f g h : Core) → f ≡ c.Exists g → h ≡ g → HasReducedTerms (form h) → HasReducedTerms (form f)
known_Exists f g h is same k = known_as (form f) _ (ap form is ∙ form-Exists g) (subst (λ z. HasReducedTerms (form z)) same k)

-- the items before i are known: all are, where the others are
pub record FormulasBefore (fs : List Core) (i : ℕ) : Type 0 where
  pub rest : HaveReducedTerms (forms_of (drop i fs)) → HaveReducedTerms (forms_of fs)

pub formulas_none : (fs : List Core) → FormulasBefore fs 0
formulas_none fs = record { rest = λ k. k }

pub formulas_more : (fs : List Core) (i : ℕ) (f : Core) → i < length fs → f ≡ get_or fs i f → HasReducedTerms (form f) → FormulasBefore fs i → FormulasBefore fs (i + 1)
formulas_more fs i f lt is k h = record { rest = λ more. h.rest (subst (λ z. HaveReducedTerms (forms_of z)) (sym (drop-item fs i f lt is)) (k, more)) }

pub formulas_all : (fs : List Core) (i : ℕ) → length fs ≤ i → FormulasBefore fs i → HaveReducedTerms (forms_of fs)
formulas_all fs i le h = h.rest (subst (λ z. HaveReducedTerms (forms_of z)) (sym (drop_all fs i le)) tt)

pub record TermsBefore (ts : List Linear) (i : ℕ) : Type 0 where
  pub rest : AllByRecursion IsReduced (drop i ts) → AllByRecursion IsReduced ts

pub terms_none : (ts : List Linear) → TermsBefore ts 0
terms_none ts = record { rest = λ k. k }

pub terms_more : (ts : List Linear) (i : ℕ) (t : Linear) → i < length ts → t ≡ get_or ts i t → IsNormal t → TermsBefore ts i → TermsBefore ts (i + 1)
terms_more ts i t lt is n h = record { rest = λ more. h.rest (subst (AllByRecursion IsReduced) (sym (drop-item ts i t lt is)) (reduced-normal t n, more)) }

pub terms_all : (ts : List Linear) (i : ℕ) → length ts ≤ i → TermsBefore ts i → AllByRecursion IsReduced ts
terms_all ts i le h = h.rest (subst (AllByRecursion IsReduced) (sym (drop_all ts i le)) tt)

pub ruleset known = (
  known_Eq,
  known_Neq,
  known_Geq,
  known_Pred,
  known_NotPred,
  known_NotFun,
  known_And,
  known_Or,
  known_Forall,
  known_Exists,
  formulas_none,
  formulas_more,
  formulas_all,
  terms_none,
  terms_more,
  terms_all,
)
