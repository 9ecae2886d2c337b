-- The tree of each form: one equation a form, since a fold does not compute by itself.
use Rattle.std.proofs.Common.{◌≡◌, ℕ, List, sym, ap, ◌∙◌}
use Rattle.linear_term.specs.Linear.{Linear}
use Rattle.formula.specs.declared.calculus.Core.{Core}
use Rattle.formula.specs.declared.calculus.Core.TheVariants as c
use Rattle.formula.specs.declared.calculus.Core.TheVariants.{rolls-Eq, rolls-Neq, rolls-Geq, rolls-Pred, rolls-NotPred, rolls-NotFun, rolls-And, rolls-Or, rolls-Forall, rolls-Exists}
use Rattle.formula.specs.declared.calculus.Core.TheOpen as o
use Rattle.formula.specs.declared.calculus.Core.TheFolds.{fold-roll-Core}
use Rattle.formula.specs.Form.{Form, equal, unequal, at_least, holds, fails, differs, conjunction, disjunction, universal, existential}
use Rattle.formula.specs.Tree.{form, forms_of, form_step}

pub form-Eq : (t : Linear) → form (c.Eq t) ≡ equal t
form-Eq t = ap form (sym (rolls-Eq t)) ∙ fold-roll-Core Form form_step (o.Eq t)

pub form-Neq : (t : Linear) → form (c.Neq t) ≡ unequal t
form-Neq t = ap form (sym (rolls-Neq t)) ∙ fold-roll-Core Form form_step (o.Neq t)

pub form-Geq : (t : Linear) → form (c.Geq t) ≡ at_least t
form-Geq t = ap form (sym (rolls-Geq t)) ∙ fold-roll-Core Form form_step (o.Geq t)

pub form-Pred : (p : ℕ) (ts : List Linear) → form (c.Pred p ts) ≡ holds p ts
form-Pred p ts = ap form (sym (rolls-Pred p ts)) ∙ fold-roll-Core Form form_step (o.Pred p ts)

pub form-NotPred : (p : ℕ) (ts : List Linear) → form (c.NotPred p ts) ≡ fails p ts
form-NotPred p ts = ap form (sym (rolls-NotPred p ts)) ∙ fold-roll-Core Form form_step (o.NotPred p ts)

pub form-NotFun : (p : ℕ) (ts : List Linear) (t : Linear) → form (c.NotFun p ts t) ≡ differs p ts t
form-NotFun p ts t = ap form (sym (rolls-NotFun p ts t)) ∙ fold-roll-Core Form form_step (o.NotFun p ts t)

pub form-And : (fs : List Core) → form (c.And fs) ≡ conjunction (forms_of fs)
form-And fs = ap form (sym (rolls-And fs)) ∙ fold-roll-Core Form form_step (o.And fs)

pub form-Or : (fs : List Core) → form (c.Or fs) ≡ disjunction (forms_of fs)
form-Or fs = ap form (sym (rolls-Or fs)) ∙ fold-roll-Core Form form_step (o.Or fs)

pub form-Forall : (f : Core) → form (c.Forall f) ≡ universal (form f)
form-Forall f = ap form (sym (rolls-Forall f)) ∙ fold-roll-Core Form form_step (o.Forall f)

pub form-Exists : (f : Core) → form (c.Exists f) ≡ existential (form f)
form-Exists f = ap form (sym (rolls-Exists f)) ∙ fold-roll-Core Form form_step (o.Exists f)

pub ruleset formed = (form-Eq, form-Neq, form-Geq, form-Pred, form-NotPred, form-NotFun, form-And, form-Or, form-Forall, form-Exists)
