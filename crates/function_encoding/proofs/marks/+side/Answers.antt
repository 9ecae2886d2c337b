use Rattle.std.proofs.Common.{◌+◌, ◌∙◌, ap, drop, sym, arith}
use Rattle.form_typed.specs.Formula.{formula, negation}
use Rattle.form_typed.proofs.Folds.{formula-Exists, formula-Forall, formula-Iff, formula-Not, formula-Pred, formula-Rel, formula-Truth}
use Rattle.pri_typing.specs.WellFormed.{formula_components}
use Rattle.function_encoding.specs.Marks.{marked, names_of_parts}
use Rattle.base_budget.proofs.Charging.{drop-item}
use Rattle.function_encoding.proofs.Marking.{mark_parts_Implies, parts_next}
use Rattle.function_encoding.proofs.marks.+side.Goals as goal

pub mark_all_parts-loop-f-preserved : goal.mark_all_parts-loop-f-preserved
mark_all_parts-loop-f-preserved t c =
    parts_next c.args.plus c.args.set.now (drop c.loop-f.f-index c.args.formulas.now) (drop (c.loop-f.f-index + 1) c.args.formulas.now) c.f-item.result _ _
    (drop-item c.args.formulas.now c.loop-f.f-index c.f-item.result (omega arith) c.f-item.is) c.mark_parts.ensures ∙ c.loop-f.invariant

pub mark_parts-returns-then-plus : goal.mark_parts-returns-then-plus
mark_parts-returns-then-plus t c =
    mark_parts_Implies _ _ _ c.args.plus c.args.set.now c.args.f.now c.get-then-plus.result.now c.get-then-plus-2.result.now _ _ c.if-plus.true c.in-Implies.is c.get-then-plus.ensures c.get-then-plus-2.ensures
    c.mark_parts-then-plus.ensures c.mark_parts-then-plus-2.ensures

pub mark_parts-returns-in-Truth : goal.mark_parts-returns-in-Truth
mark_parts-returns-in-Truth t c = ap (λ e. marked c.args.marks.now (names_of_parts c.args.set.now (formula_components c.args.plus e))) (sym (ap formula c.in-Truth.is ∙ formula-Truth _))

pub mark_parts-returns-in-Rel : goal.mark_parts-returns-in-Rel
mark_parts-returns-in-Rel t c = ap (λ e. marked c.args.marks.now (names_of_parts c.args.set.now (formula_components c.args.plus e))) (sym (ap formula c.in-Rel.is ∙ formula-Rel _ _ _))

pub mark_parts-returns-in-Pred : goal.mark_parts-returns-in-Pred
mark_parts-returns-in-Pred t c = ap (λ e. marked c.args.marks.now (names_of_parts c.args.set.now (formula_components c.args.plus e))) (sym (ap formula c.in-Pred.is ∙ formula-Pred _ _))

pub mark_parts-returns-in-Iff : goal.mark_parts-returns-in-Iff
mark_parts-returns-in-Iff t c = ap (λ e. marked c.args.marks.now (names_of_parts c.args.set.now (formula_components c.args.plus e))) (sym (ap formula c.in-Iff.is ∙ formula-Iff _ _))

pub mark_parts-returns-in-Forall : goal.mark_parts-returns-in-Forall
mark_parts-returns-in-Forall t c = ap (λ e. marked c.args.marks.now (names_of_parts c.args.set.now (formula_components c.args.plus e))) (sym (ap formula c.in-Forall.is ∙ formula-Forall _ _))

pub mark_parts-returns-in-Exists : goal.mark_parts-returns-in-Exists
mark_parts-returns-in-Exists t c = ap (λ e. marked c.args.marks.now (names_of_parts c.args.set.now (formula_components c.args.plus e))) (sym (ap formula c.in-Exists.is ∙ formula-Exists _ _))

pub mark_parts-returns-in-Not : goal.mark_parts-returns-in-Not
mark_parts-returns-in-Not t c =
    c.mark_parts.ensures
    ∙ ap (λ e. marked c.args.marks.now (names_of_parts c.args.set.now (formula_components c.args.plus e))) (sym (ap formula c.in-Not.is ∙ formula-Not _ ∙ ap (λ g. negation (formula g)) (sym c.get.ensures)))
