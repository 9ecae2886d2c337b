use Rattle.std.proofs.Common.{◌+◌, ◌∙◌, ap, drop, sym, arith}
use Rattle.form_typed.specs.Formula.{absolute, applies, call, every, expression, expressions_of, for_all, for_some, formula, formulas_of, minus, negation, part, some, total}
use Rattle.form_typed.proofs.Folds.{expression-Abs, expression-Apply, expression-Minus, expression-Number, expression-Sum, formula-And, formula-Exists, formula-Forall, formula-Not, formula-Or, formula-Part, formula-Pred, formula-Truth}
use Rattle.form_encoding.specs.Occurrences.{names_in, names_in_term}
use Rattle.function_encoding.specs.Marks.{marked}
use Rattle.base_budget.proofs.Charging.{drop-item}
use Rattle.function_encoding.proofs.Marking.{formulas_next, mark_If, mark_Iff, mark_Implies, mark_Max, mark_Min, mark_Product, mark_Rel, terms_next}
use Rattle.function_encoding.proofs.marks.+marks.Goals as goal

pub mark_formulas-loop-f-preserved : goal.mark_formulas-loop-f-preserved
mark_formulas-loop-f-preserved t c =
    formulas_next (drop c.loop-f.f-index c.args.formulas.now) (drop (c.loop-f.f-index + 1) c.args.formulas.now) c.f-item.result _ _
    (drop-item c.args.formulas.now c.loop-f.f-index c.f-item.result (omega arith) c.f-item.is) c.mark_formula.ensures ∙ c.loop-f.invariant

pub mark_terms-loop-t-preserved : goal.mark_terms-loop-t-preserved
mark_terms-loop-t-preserved t c =
    terms_next (drop c.loop-t.t-index c.args.terms.now) (drop (c.loop-t.t-index + 1) c.args.terms.now) c.t-item.result _ _
    (drop-item c.args.terms.now c.loop-t.t-index c.t-item.result (omega arith) c.t-item.is) c.mark_term.ensures ∙ c.loop-t.invariant

pub mark_formula-returns-in-Rel : goal.mark_formula-returns-in-Rel
mark_formula-returns-in-Rel t c = mark_Rel _ _ _ c.args.f.now c.in-Rel.field-0 c.in-Rel.s c.in-Rel.t c.in-Rel.is c.mark_term.ensures c.mark_term-in-Rel.ensures

pub mark_formula-returns-in-Implies : goal.mark_formula-returns-in-Implies
mark_formula-returns-in-Implies t c =
    mark_Implies _ _ _ c.args.f.now c.get-in-Implies.result.now c.get-in-Implies-2.result.now _ _ c.in-Implies.is c.get-in-Implies.ensures c.get-in-Implies-2.ensures c.mark_formula-in-Implies.ensures c.mark_formula-in-Implies-2.ensures

pub mark_formula-returns-in-Iff : goal.mark_formula-returns-in-Iff
mark_formula-returns-in-Iff t c =
    mark_Iff _ _ _ c.args.f.now c.get-in-Iff.result.now c.get-in-Iff-2.result.now _ _ c.in-Iff.is c.get-in-Iff.ensures c.get-in-Iff-2.ensures c.mark_formula-in-Iff.ensures c.mark_formula-in-Iff-2.ensures

pub mark_term-returns-in-Product : goal.mark_term-returns-in-Product
mark_term-returns-in-Product t c =
    mark_Product _ _ _ c.args.t.now c.get-in-Product.result.now c.get-in-Product-2.result.now _ _ c.in-Product.is c.get-in-Product.ensures c.get-in-Product-2.ensures c.mark_term-in-Product.ensures c.mark_term-in-Product-2.ensures

pub mark_term-returns-in-Min : goal.mark_term-returns-in-Min
mark_term-returns-in-Min t c =
    mark_Min _ _ _ c.args.t.now c.get-in-Min.result.now c.get-in-Min-2.result.now _ _ c.in-Min.is c.get-in-Min.ensures c.get-in-Min-2.ensures c.mark_term-in-Min.ensures c.mark_term-in-Min-2.ensures

pub mark_term-returns-in-Max : goal.mark_term-returns-in-Max
mark_term-returns-in-Max t c =
    mark_Max _ _ _ c.args.t.now c.get-in-Max.result.now c.get-in-Max-2.result.now _ _ c.in-Max.is c.get-in-Max.ensures c.get-in-Max-2.ensures c.mark_term-in-Max.ensures c.mark_term-in-Max-2.ensures

pub mark_term-returns-in-If : goal.mark_term-returns-in-If
mark_term-returns-in-If t c =
    mark_If _ _ _ _ c.args.t.now c.get-in-If.result.now c.get-in-If-2.result.now c.get-in-If-3.result.now _ _ _ c.in-If.is c.get-in-If.ensures c.get-in-If-2.ensures c.get-in-If-3.ensures
    c.mark_formula.ensures c.mark_term-in-If.ensures c.mark_term-in-If-2.ensures

pub mark_formula-returns-in-Truth : goal.mark_formula-returns-in-Truth
mark_formula-returns-in-Truth t c = ap (λ e. marked c.args.marks.now (names_in e)) (sym (ap formula c.in-Truth.is ∙ formula-Truth _))

pub mark_formula-returns-in-Pred : goal.mark_formula-returns-in-Pred
mark_formula-returns-in-Pred t c = c.mark_terms.ensures ∙ ap (λ e. marked c.args.marks.now (names_in e)) (sym (ap formula c.in-Pred.is ∙ formula-Pred _ _ ∙ ap (λ l. applies c.in-Pred.field-0 (expressions_of l)) (sym c.as_slice.ensures)))

pub mark_formula-returns-in-Not : goal.mark_formula-returns-in-Not
mark_formula-returns-in-Not t c = c.mark_formula.ensures ∙ ap (λ e. marked c.args.marks.now (names_in e)) (sym (ap formula c.in-Not.is ∙ formula-Not _ ∙ ap (λ g. negation (formula g)) (sym c.get.ensures)))

pub mark_formula-returns-in-And : goal.mark_formula-returns-in-And
mark_formula-returns-in-And t c = c.mark_formulas.ensures ∙ ap (λ e. marked c.args.marks.now (names_in e)) (sym (ap formula c.in-And.is ∙ formula-And _ ∙ ap (λ l. every (formulas_of l)) (sym c.as_slice-in-And.ensures)))

pub mark_formula-returns-in-Or : goal.mark_formula-returns-in-Or
mark_formula-returns-in-Or t c = c.mark_formulas-in-Or.ensures ∙ ap (λ e. marked c.args.marks.now (names_in e)) (sym (ap formula c.in-Or.is ∙ formula-Or _ ∙ ap (λ l. some (formulas_of l)) (sym c.as_slice-in-Or.ensures)))

pub mark_formula-returns-in-Forall : goal.mark_formula-returns-in-Forall
mark_formula-returns-in-Forall t c = c.mark_formula-in-Forall.ensures ∙ ap (λ e. marked c.args.marks.now (names_in e)) (sym (ap formula c.in-Forall.is ∙ formula-Forall _ _ ∙ ap (λ g. for_all c.in-Forall.field-0 (formula g)) (sym c.get-in-Forall.ensures)))

pub mark_formula-returns-in-Exists : goal.mark_formula-returns-in-Exists
mark_formula-returns-in-Exists t c = c.mark_formula-in-Exists.ensures ∙ ap (λ e. marked c.args.marks.now (names_in e)) (sym (ap formula c.in-Exists.is ∙ formula-Exists _ _ ∙ ap (λ g. for_some c.in-Exists.field-0 (formula g)) (sym c.get-in-Exists.ensures)))

pub mark_formula-returns-in-Part : goal.mark_formula-returns-in-Part
mark_formula-returns-in-Part t c = c.mark_formula-in-Part.ensures ∙ ap (λ e. marked c.args.marks.now (names_in e)) (sym (ap formula c.in-Part.is ∙ formula-Part _ _ ∙ ap (λ g. part c.in-Part.field-0 (formula g)) (sym c.get-in-Part.ensures)))

pub mark_term-returns-in-Number : goal.mark_term-returns-in-Number
mark_term-returns-in-Number t c = ap (λ e. marked c.args.marks.now (names_in_term e)) (sym (ap expression c.in-Number.is ∙ expression-Number _))

pub mark_term-returns-in-Apply : goal.mark_term-returns-in-Apply
mark_term-returns-in-Apply t c = c.mark_terms.ensures ∙ ap (λ e. marked c.args.marks.now (names_in_term e)) (sym (ap expression c.in-Apply.is ∙ expression-Apply _ _ ∙ ap (λ l. call c.in-Apply.field-0 (expressions_of l)) (sym c.as_slice.ensures)))

pub mark_term-returns-in-Minus : goal.mark_term-returns-in-Minus
mark_term-returns-in-Minus t c = c.mark_term.ensures ∙ ap (λ e. marked c.args.marks.now (names_in_term e)) (sym (ap expression c.in-Minus.is ∙ expression-Minus _ ∙ ap (λ g. minus (expression g)) (sym c.get.ensures)))

pub mark_term-returns-in-Sum : goal.mark_term-returns-in-Sum
mark_term-returns-in-Sum t c = c.mark_terms-in-Sum.ensures ∙ ap (λ e. marked c.args.marks.now (names_in_term e)) (sym (ap expression c.in-Sum.is ∙ expression-Sum _ ∙ ap (λ l. total (expressions_of l)) (sym c.as_slice-in-Sum.ensures)))

pub mark_term-returns-in-Abs : goal.mark_term-returns-in-Abs
mark_term-returns-in-Abs t c = c.mark_term-in-Abs.ensures ∙ ap (λ e. marked c.args.marks.now (names_in_term e)) (sym (ap expression c.in-Abs.is ∙ expression-Abs _ ∙ ap (λ g. absolute (expression g)) (sym c.get-in-Abs.ensures)))
