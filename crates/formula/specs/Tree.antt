-- The tree of a formula of the code.
use Rattle.std.specs.Prelude.{List, map}
use Rattle.formula.specs.declared.calculus.Core.{Core}
use Rattle.formula.specs.declared.calculus.Core.TheOpen as o
use Rattle.formula.specs.declared.calculus.Core.TheOpen.{Core-F}
use Rattle.formula.specs.declared.calculus.Core.TheFolds.{fold-Core}
use Rattle.formula.specs.Form.{Form, Forms, equal, unequal, at_least, holds, fails, differs, conjunction, disjunction, universal, existential, forms}

abbrev pub form_step : Core-F Form → Form
form_step (o.Eq t) = equal t
form_step (o.Neq t) = unequal t
form_step (o.Geq t) = at_least t
form_step (o.Pred p ts) = holds p ts
form_step (o.NotPred p ts) = fails p ts
form_step (o.NotFun f ts u) = differs f ts u
form_step (o.And fs) = conjunction (forms fs)
form_step (o.Or fs) = disjunction (forms fs)
form_step (o.Forall f) = universal f
form_step (o.Exists f) = existential f

-- the formula that a formula of the code is
abbrev pub form : Core → Form
form = fold-Core Form form_step

abbrev pub forms_of : List Core → Forms
forms_of fs = forms (map form fs)
