use Rattle.std.proofs.Common.{sym, ap, ◌∙◌}
use Rattle.form_typed.specs.Formula.{expression}
use Rattle.form_typed.proofs.Folds.{expression-Minus, expression-Number, expression-Name, expression-Apply, expression-Sum, expression-Product, expression-If, expression-Abs, expression-Min, expression-Max}
use Rattle.function_encoding.specs.Members.{is_subtracted}
use Rattle.function_encoding.proofs.plain.is_subtracted.Goals as goal

pub returns-in-Minus : goal.returns-in-Minus
returns-in-Minus c = sym (ap is_subtracted (ap expression c.in-Minus.is ∙ expression-Minus _))

pub returns-in-Number : goal.returns-in-Number
returns-in-Number c = sym (ap is_subtracted (ap expression c.in-Number.is ∙ expression-Number _))

pub returns-in-Name : goal.returns-in-Name
returns-in-Name c = sym (ap is_subtracted (ap expression c.in-Name.is ∙ expression-Name _))

pub returns-in-Apply : goal.returns-in-Apply
returns-in-Apply c = sym (ap is_subtracted (ap expression c.in-Apply.is ∙ expression-Apply _ _))

pub returns-in-Sum : goal.returns-in-Sum
returns-in-Sum c = sym (ap is_subtracted (ap expression c.in-Sum.is ∙ expression-Sum _))

pub returns-in-Product : goal.returns-in-Product
returns-in-Product c = sym (ap is_subtracted (ap expression c.in-Product.is ∙ expression-Product _ _))

pub returns-in-If : goal.returns-in-If
returns-in-If c = sym (ap is_subtracted (ap expression c.in-If.is ∙ expression-If _ _ _))

pub returns-in-Abs : goal.returns-in-Abs
returns-in-Abs c = sym (ap is_subtracted (ap expression c.in-Abs.is ∙ expression-Abs _))

pub returns-in-Min : goal.returns-in-Min
returns-in-Min c = sym (ap is_subtracted (ap expression c.in-Min.is ∙ expression-Min _ _))

pub returns-in-Max : goal.returns-in-Max
returns-in-Max c = sym (ap is_subtracted (ap expression c.in-Max.is ∙ expression-Max _ _))
