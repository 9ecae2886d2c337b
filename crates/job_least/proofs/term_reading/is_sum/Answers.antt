-- What each form is.
use Rattle.std.proofs.Common.{sym, ap, ◌∙◌}
use Rattle.pri_typing.proofs.Faulting.{form_is}
use Rattle.pri_typing.proofs.Folds.{phrase-Number, phrase-Truth, phrase-Use, phrase-Group, phrase-If, phrase-Abs, phrase-Min, phrase-Max, phrase-Minus, phrase-Product, phrase-Sum, phrase-Compare, phrase-Not, phrase-Quantified, phrase-Part, phrase-And, phrase-Or, phrase-Implies, phrase-Iff}
use Rattle.job_least.specs.Reads.{is_sum_phrase}
use Rattle.job_least.proofs.term_reading.is_sum.Goals as goal

pub returns-in-Number : goal.returns-in-Number
returns-in-Number c = sym (ap is_sum_phrase (form_is c.args.expr.now _ c.in-Number.is ∙ phrase-Number c.in-Number.field-0 c.args.expr.now.at))

pub returns-in-Truth : goal.returns-in-Truth
returns-in-Truth c = sym (ap is_sum_phrase (form_is c.args.expr.now _ c.in-Truth.is ∙ phrase-Truth c.in-Truth.field-0 c.args.expr.now.at))

pub returns-in-Use : goal.returns-in-Use
returns-in-Use c = sym (ap is_sum_phrase (form_is c.args.expr.now _ c.in-Use.is ∙ phrase-Use c.in-Use.field-0 c.in-Use.field-1 c.args.expr.now.at))

pub returns-in-Group : goal.returns-in-Group
returns-in-Group c = sym (ap is_sum_phrase (form_is c.args.expr.now _ c.in-Group.is ∙ phrase-Group c.in-Group.field-0 c.args.expr.now.at))

pub returns-in-If : goal.returns-in-If
returns-in-If c = sym (ap is_sum_phrase (form_is c.args.expr.now _ c.in-If.is ∙ phrase-If c.in-If.field-0 c.in-If.field-1 c.in-If.field-2 c.args.expr.now.at))

pub returns-in-Abs : goal.returns-in-Abs
returns-in-Abs c = sym (ap is_sum_phrase (form_is c.args.expr.now _ c.in-Abs.is ∙ phrase-Abs c.in-Abs.field-0 c.args.expr.now.at))

pub returns-in-Min : goal.returns-in-Min
returns-in-Min c = sym (ap is_sum_phrase (form_is c.args.expr.now _ c.in-Min.is ∙ phrase-Min c.in-Min.field-0 c.in-Min.field-1 c.args.expr.now.at))

pub returns-in-Max : goal.returns-in-Max
returns-in-Max c = sym (ap is_sum_phrase (form_is c.args.expr.now _ c.in-Max.is ∙ phrase-Max c.in-Max.field-0 c.in-Max.field-1 c.args.expr.now.at))

pub returns-in-Minus : goal.returns-in-Minus
returns-in-Minus c = sym (ap is_sum_phrase (form_is c.args.expr.now _ c.in-Minus.is ∙ phrase-Minus c.in-Minus.field-0 c.args.expr.now.at))

pub returns-in-Product : goal.returns-in-Product
returns-in-Product c = sym (ap is_sum_phrase (form_is c.args.expr.now _ c.in-Product.is ∙ phrase-Product c.in-Product.field-0 c.in-Product.field-1 c.in-Product.field-2 c.args.expr.now.at))

pub returns-in-Sum : goal.returns-in-Sum
returns-in-Sum c = sym (ap is_sum_phrase (form_is c.args.expr.now _ c.in-Sum.is ∙ phrase-Sum c.in-Sum.field-0 c.in-Sum.field-1 c.args.expr.now.at))

pub returns-in-Compare : goal.returns-in-Compare
returns-in-Compare c = sym (ap is_sum_phrase (form_is c.args.expr.now _ c.in-Compare.is ∙ phrase-Compare c.in-Compare.field-0 c.in-Compare.field-1 c.in-Compare.field-2 c.args.expr.now.at))

pub returns-in-Not : goal.returns-in-Not
returns-in-Not c = sym (ap is_sum_phrase (form_is c.args.expr.now _ c.in-Not.is ∙ phrase-Not c.in-Not.field-0 c.args.expr.now.at))

pub returns-in-Quantified : goal.returns-in-Quantified
returns-in-Quantified c = sym (ap is_sum_phrase (form_is c.args.expr.now _ c.in-Quantified.is ∙ phrase-Quantified c.in-Quantified.field-0 c.in-Quantified.field-1 c.in-Quantified.field-2 c.args.expr.now.at))

pub returns-in-Part : goal.returns-in-Part
returns-in-Part c = sym (ap is_sum_phrase (form_is c.args.expr.now _ c.in-Part.is ∙ phrase-Part c.in-Part.field-0 c.in-Part.field-1 c.args.expr.now.at))

pub returns-in-And : goal.returns-in-And
returns-in-And c = sym (ap is_sum_phrase (form_is c.args.expr.now _ c.in-And.is ∙ phrase-And c.in-And.field-0 c.args.expr.now.at))

pub returns-in-Or : goal.returns-in-Or
returns-in-Or c = sym (ap is_sum_phrase (form_is c.args.expr.now _ c.in-Or.is ∙ phrase-Or c.in-Or.field-0 c.args.expr.now.at))

pub returns-in-Implies : goal.returns-in-Implies
returns-in-Implies c = sym (ap is_sum_phrase (form_is c.args.expr.now _ c.in-Implies.is ∙ phrase-Implies c.in-Implies.field-0 c.in-Implies.field-1 c.args.expr.now.at))

pub returns-in-Iff : goal.returns-in-Iff
returns-in-Iff c = sym (ap is_sum_phrase (form_is c.args.expr.now _ c.in-Iff.is ∙ phrase-Iff c.in-Iff.field-0 c.in-Iff.field-1 c.args.expr.now.at))
