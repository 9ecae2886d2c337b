use Rattle.std.proofs.Common.{sym, ap, ◌∙◌}
use Rattle.form_typed.specs.Formula.{expression}
use Rattle.form_typed.proofs.Folds.{expression-Number, expression-Name, expression-Apply, expression-If, expression-Abs, expression-Min, expression-Max}
use Rattle.pri_typing.specs.WellFormed.{is_numeric}
use Rattle.function_encoding.proofs.plain.+numeric.Goals as goal

pub is_numeric-returns-in-Number : goal.is_numeric-returns-in-Number
is_numeric-returns-in-Number t c = sym (ap is_numeric (ap expression c.in-Number.is ∙ expression-Number _))

pub is_numeric-returns-in-Name : goal.is_numeric-returns-in-Name
is_numeric-returns-in-Name t c = sym (ap is_numeric (ap expression c.in-Name.is ∙ expression-Name _))

pub is_numeric-returns-in-Apply : goal.is_numeric-returns-in-Apply
is_numeric-returns-in-Apply t c = sym (ap is_numeric (ap expression c.in-Apply.is ∙ expression-Apply _ _))

pub is_numeric-returns-in-If : goal.is_numeric-returns-in-If
is_numeric-returns-in-If t c = sym (ap is_numeric (ap expression c.in-If.is ∙ expression-If _ _ _))

pub is_numeric-returns-in-Abs : goal.is_numeric-returns-in-Abs
is_numeric-returns-in-Abs t c = sym (ap is_numeric (ap expression c.in-Abs.is ∙ expression-Abs _))

pub is_numeric-returns-in-Min : goal.is_numeric-returns-in-Min
is_numeric-returns-in-Min t c = sym (ap is_numeric (ap expression c.in-Min.is ∙ expression-Min _ _))

pub is_numeric-returns-in-Max : goal.is_numeric-returns-in-Max
is_numeric-returns-in-Max t c = sym (ap is_numeric (ap expression c.in-Max.is ∙ expression-Max _ _))
