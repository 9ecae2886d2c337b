use Rattle.std.proofs.Common.{◌+◌, ◌∙◌, drop, arith}
use Rattle.base_budget.proofs.Charging.{drop-item}
use Rattle.pred_interpolant.proofs.Marking.{formulas_next, mark_If, mark_Iff, mark_Implies, mark_Max, mark_Min, mark_Product, mark_Rel, terms_next}
use Rattle.pred_interpolant.proofs.symbols.+marks.Goals as goal

pub mark_formulas-loop-f-preserved : goal.mark_formulas-loop-f-preserved
mark_formulas-loop-f-preserved t c =
    formulas_next (drop c.loop-f.f-index c.args.formulas.now) (drop (c.loop-f.f-index + 1) c.args.formulas.now) c.f-item.result _ _
    (drop-item c.args.formulas.now c.loop-f.f-index c.f-item.result (omega arith) c.f-item.is) c.mark_formula.ensures ∙ c.loop-f.invariant

pub mark_terms-loop-t-preserved : goal.mark_terms-loop-t-preserved
mark_terms-loop-t-preserved t c =
    terms_next (drop c.loop-t.t-index c.args.terms.now) (drop (c.loop-t.t-index + 1) c.args.terms.now) c.t-item.result _ _
    (drop-item c.args.terms.now c.loop-t.t-index c.t-item.result (omega arith) c.t-item.is) c.mark_term.ensures ∙ c.loop-t.invariant

pub mark_formula-returns-in-Rel : goal.mark_formula-returns-in-Rel
mark_formula-returns-in-Rel t c = mark_Rel _ _ _ c.args.f.now c.in-Rel.field-0 c.in-Rel.s c.in-Rel.t c.in-Rel.is c.mark_term.ensures c.mark_term-in-Rel.ensures

pub mark_formula-returns-in-Implies : goal.mark_formula-returns-in-Implies
mark_formula-returns-in-Implies t c =
    mark_Implies _ _ _ c.args.f.now c.get-in-Implies.result.now c.get-in-Implies-2.result.now _ _ c.in-Implies.is c.get-in-Implies.ensures c.get-in-Implies-2.ensures c.mark_formula-in-Implies.ensures c.mark_formula-in-Implies-2.ensures

pub mark_formula-returns-in-Iff : goal.mark_formula-returns-in-Iff
mark_formula-returns-in-Iff t c =
    mark_Iff _ _ _ c.args.f.now c.get-in-Iff.result.now c.get-in-Iff-2.result.now _ _ c.in-Iff.is c.get-in-Iff.ensures c.get-in-Iff-2.ensures c.mark_formula-in-Iff.ensures c.mark_formula-in-Iff-2.ensures

pub mark_term-returns-in-Product : goal.mark_term-returns-in-Product
mark_term-returns-in-Product t c =
    mark_Product _ _ _ c.args.t.now c.get-in-Product.result.now c.get-in-Product-2.result.now _ _ c.in-Product.is c.get-in-Product.ensures c.get-in-Product-2.ensures c.mark_term-in-Product.ensures c.mark_term-in-Product-2.ensures

pub mark_term-returns-in-Min : goal.mark_term-returns-in-Min
mark_term-returns-in-Min t c =
    mark_Min _ _ _ c.args.t.now c.get-in-Min.result.now c.get-in-Min-2.result.now _ _ c.in-Min.is c.get-in-Min.ensures c.get-in-Min-2.ensures c.mark_term-in-Min.ensures c.mark_term-in-Min-2.ensures

pub mark_term-returns-in-Max : goal.mark_term-returns-in-Max
mark_term-returns-in-Max t c =
    mark_Max _ _ _ c.args.t.now c.get-in-Max.result.now c.get-in-Max-2.result.now _ _ c.in-Max.is c.get-in-Max.ensures c.get-in-Max-2.ensures c.mark_term-in-Max.ensures c.mark_term-in-Max-2.ensures

pub mark_term-returns-in-If : goal.mark_term-returns-in-If
mark_term-returns-in-If t c =
    mark_If _ _ _ _ c.args.t.now c.get-in-If.result.now c.get-in-If-2.result.now c.get-in-If-3.result.now _ _ _ c.in-If.is c.get-in-If.ensures c.get-in-If-2.ensures c.get-in-If-3.ensures
    c.mark_formula.ensures c.mark_term-in-If.ensures c.mark_term-in-If-2.ensures
