use Rattle.std.proofs.Common.{◌<◌, ◌++◌, codes, length, true, false, [], ◌∷◌, ap, sym, subst, ◌∙◌, arith, append_assoc}
use Rattle.pri_typing.specs.Everywhere.{Everywhere, TermEverywhere}
use Rattle.itp_printer.specs.Pieces.{joint_text, printable}
use Rattle.itp_printer.specs.Text.{grouped}
use Rattle.itp_printer.specs.TypedText.{formula_text, symbol_text, term_text, term_texts, truth_text}
use Rattle.form_typed.specs.Formula.{expression, expressions_of, formula}
use Rattle.form_typed.proofs.Folds.{formula-Rel, formula-Pred, formula-Not, formula-Implies, formula-Iff, formula-Forall, formula-Exists, expression-Apply, expression-Minus, expression-Product, expression-If, expression-Abs, expression-Min, expression-Max}
use Rattle.itp_printer.proofs.Together.{on_ok, two_texts, three_texts, six_texts, applied_texts, arity_below, arguments_are, only_formula, more_formulas, only_term, more_terms, bound_texts}
use Rattle.itp_printer.proofs.+printing.Goals as goal

pub terms::put_arguments-returns : goal.terms::put_arguments-returns
terms::put_arguments-returns t c =
    three_texts _ _ _ _ _ _ _ _ c.in_ok-push.ensures.items c.in_ok-put_listed.ensures c.in_ok-push-2.ensures.items
    (arguments_are c.args.p.now c.args.depth c.args.terms.now c.is_empty.result c.is_empty.ensures c.if-is_empty.false)

pub formulas::put_chain-returns-then-formulas-eq1 : goal.formulas::put_chain-returns-then-formulas-eq1
formulas::put_chain-returns-then-formulas-eq1 t c =
    on_ok c.put_only.result (λ h. h ∙ ap (λ z. c.args.out.now.items ++ z) (only_formula c.args.p.now c.args.depth (truth_text c.args.all) (joint_text c.args.all) c.args.formulas.now c.if-formulas-eq1.true)) c.put_only.ensures

pub formulas::put_chain-returns : goal.formulas::put_chain-returns
formulas::put_chain-returns t c =
    on_ok c.put_members.result (λ h. h ∙ ap (λ z. c.args.out.now.items ++ z)
    (more_formulas c.args.p.now c.args.depth (truth_text c.args.all) (joint_text c.args.all) c.args.formulas.now c.is_empty.result c.if-formulas-eq1.false c.is_empty.ensures c.if-is_empty.false)) c.put_members.ensures

pub terms::put_sum-returns-then-terms-eq1 : goal.terms::put_sum-returns-then-terms-eq1
terms::put_sum-returns-then-terms-eq1 t c =
    on_ok c.put_only_term.result (λ h. h ∙ ap (λ z. c.args.out.now.items ++ z) (only_term c.args.p.now c.args.depth (codes "0") (codes " + ") c.args.terms.now c.if-terms-eq1.true)) c.put_only_term.ensures

pub terms::put_sum-returns : goal.terms::put_sum-returns
terms::put_sum-returns t c =
    on_ok c.put_addends.result (λ h. h ∙ ap (λ z. c.args.out.now.items ++ z)
    (more_terms c.args.p.now c.args.depth (codes "0") (codes " + ") c.args.terms.now c.is_empty.result c.if-terms-eq1.false c.is_empty.ensures c.if-is_empty.false)) c.put_addends.ensures

pub formulas::put_formula-symbol_name-requires : goal.formulas::put_formula-symbol_name-requires
formulas::put_formula-symbol_name-requires t c =
    subst (λ z. c.in-Pred.k < length z) (sym c.as_slice.ensures)
    (arity_below c.args.p.now.predicates c.in-Pred.k _ (subst (λ g. Everywhere (printable c.args.p.now (length c.args.numbers.now)) c.args.depth g) (ap formula c.in-Pred.is ∙ formula-Pred c.in-Pred.k c.in-Pred.ts) c.requires.fit).0.0)

pub terms::put_term-symbol_name-requires : goal.terms::put_term-symbol_name-requires
terms::put_term-symbol_name-requires t c =
    subst (λ z. c.in-Apply.k < length z) (sym c.as_slice.ensures)
    (arity_below c.args.p.now.functions c.in-Apply.k _ (subst (λ g. TermEverywhere (printable c.args.p.now (length c.args.numbers.now)) c.args.depth g) (ap expression c.in-Apply.is ∙ expression-Apply c.in-Apply.k c.in-Apply.ts) c.requires.fit).0.declared.0)

pub formulas::put_formula-returns-in_ok-put_relation-in-Rel : goal.formulas::put_formula-returns-in_ok-put_relation-in-Rel
formulas::put_formula-returns-in_ok-put_relation-in-Rel t c =
    on_ok c.put_term-in-Rel.result (λ h. three_texts _ _ _ _ _ _ _ _ c.in_ok-put_term-in-Rel.ensures c.in_ok-put_relation-in-Rel.ensures h
    (ap (formula_text c.args.p.now c.args.depth) (ap formula c.in-Rel.is ∙ formula-Rel c.in-Rel.r c.in-Rel.s c.in-Rel.t))) c.put_term-in-Rel.ensures

pub formulas::put_formula-returns-in_ok-extend_from_slice-in-Pred : goal.formulas::put_formula-returns-in_ok-extend_from_slice-in-Pred
formulas::put_formula-returns-in_ok-extend_from_slice-in-Pred t c =
    on_ok c.put_arguments.result (λ h. applied_texts _ _ _ _ (symbol_text c.args.p.now.predicates c.in-Pred.k) _ _ (term_texts c.args.p.now c.args.depth (expressions_of c.in-Pred.ts)) c.in_ok-extend_from_slice-in-Pred.ensures.items
    (c.symbol_name.ensures ∙ ap (λ z. symbol_text z c.in-Pred.k) c.as_slice.ensures) h (ap (λ z. term_texts c.args.p.now c.args.depth (expressions_of z)) c.as_slice-in-Pred.ensures)
    (ap (formula_text c.args.p.now c.args.depth) (ap formula c.in-Pred.is ∙ formula-Pred c.in-Pred.k c.in-Pred.ts))) c.put_arguments.ensures

pub terms::put_term-returns-in_ok-extend_from_slice-in-Apply : goal.terms::put_term-returns-in_ok-extend_from_slice-in-Apply
terms::put_term-returns-in_ok-extend_from_slice-in-Apply t c =
    on_ok c.put_arguments.result (λ h. applied_texts _ _ _ _ (symbol_text c.args.p.now.functions c.in-Apply.k) _ _ (term_texts c.args.p.now c.args.depth (expressions_of c.in-Apply.ts)) c.in_ok-extend_from_slice-in-Apply.ensures.items
    (c.symbol_name.ensures ∙ ap (λ z. symbol_text z c.in-Apply.k) c.as_slice.ensures) h (ap (λ z. term_texts c.args.p.now c.args.depth (expressions_of z)) c.as_slice-in-Apply.ensures)
    (ap (term_text c.args.p.now c.args.depth) (ap expression c.in-Apply.is ∙ expression-Apply c.in-Apply.k c.in-Apply.ts))) c.put_arguments.ensures

pub formulas::put_formula-returns-in_ok-push-in-Not : goal.formulas::put_formula-returns-in_ok-push-in-Not
formulas::put_formula-returns-in_ok-push-in-Not t c =
    on_ok c.put_grouped.result (λ h. two_texts _ _ _ _ _ _ c.in_ok-push-in-Not.ensures.items h
    (ap (formula_text c.args.p.now c.args.depth) (ap formula c.in-Not.is ∙ formula-Not c.in-Not.g) ∙ ap (λ z. 33 ∷ grouped (formula_text c.args.p.now c.args.depth (formula z))) (sym c.get.ensures))) c.put_grouped.ensures

pub formulas::put_formula-returns-in_ok-extend_from_slice-in-Implies : goal.formulas::put_formula-returns-in_ok-extend_from_slice-in-Implies
formulas::put_formula-returns-in_ok-extend_from_slice-in-Implies t c =
    on_ok c.put_grouped-in-Implies-2.result (λ h. three_texts _ _ _ _ _ _ _ _ c.in_ok-put_grouped-in-Implies.ensures c.in_ok-extend_from_slice-in-Implies.ensures.items h
    (ap (formula_text c.args.p.now c.args.depth) (ap formula c.in-Implies.is ∙ formula-Implies c.in-Implies.g c.in-Implies.h) ∙ (λ i. grouped (formula_text c.args.p.now c.args.depth (formula (sym c.get-in-Implies.ensures i))) ++ (codes " -> " ++ grouped (formula_text c.args.p.now c.args.depth (formula (sym c.get-in-Implies-2.ensures i)))))))
    c.put_grouped-in-Implies-2.ensures

pub formulas::put_formula-returns-in_ok-extend_from_slice-in-Iff : goal.formulas::put_formula-returns-in_ok-extend_from_slice-in-Iff
formulas::put_formula-returns-in_ok-extend_from_slice-in-Iff t c =
    on_ok c.put_grouped-in-Iff-2.result (λ h. three_texts _ _ _ _ _ _ _ _ c.in_ok-put_grouped-in-Iff.ensures c.in_ok-extend_from_slice-in-Iff.ensures.items h
    (ap (formula_text c.args.p.now c.args.depth) (ap formula c.in-Iff.is ∙ formula-Iff c.in-Iff.g c.in-Iff.h) ∙ (λ i. grouped (formula_text c.args.p.now c.args.depth (formula (sym c.get-in-Iff.ensures i))) ++ (codes " <-> " ++ grouped (formula_text c.args.p.now c.args.depth (formula (sym c.get-in-Iff-2.ensures i)))))))
    c.put_grouped-in-Iff-2.ensures

pub formulas::put_formula-returns-in_ok-put_binder-in-Forall : goal.formulas::put_formula-returns-in_ok-put_binder-in-Forall
formulas::put_formula-returns-in_ok-put_binder-in-Forall t c =
    on_ok c.put_grouped-in-Forall.result (λ h. bound_texts c.args.p.now c.args.depth _ _ true c.in-Forall.sort c.in-Forall.g _ _ _ _ _
    (c.requires.numbers c.args.depth (subst (λ g. Everywhere (printable c.args.p.now (length c.args.numbers.now)) c.args.depth g) (ap formula c.in-Forall.is ∙ formula-Forall c.in-Forall.sort c.in-Forall.g) c.requires.fit).0.1) (omega arith) c.get-in-Forall.ensures c.in_ok-put_binder-in-Forall.ensures h
    (ap (formula_text c.args.p.now c.args.depth) (ap formula c.in-Forall.is ∙ formula-Forall c.in-Forall.sort c.in-Forall.g))) c.put_grouped-in-Forall.ensures

pub formulas::put_formula-returns-in_ok-put_binder-in-Exists : goal.formulas::put_formula-returns-in_ok-put_binder-in-Exists
formulas::put_formula-returns-in_ok-put_binder-in-Exists t c =
    on_ok c.put_grouped-in-Exists.result (λ h. bound_texts c.args.p.now c.args.depth _ _ false c.in-Exists.sort c.in-Exists.g _ _ _ _ _
    (c.requires.numbers c.args.depth (subst (λ g. Everywhere (printable c.args.p.now (length c.args.numbers.now)) c.args.depth g) (ap formula c.in-Exists.is ∙ formula-Exists c.in-Exists.sort c.in-Exists.g) c.requires.fit).0.1) (omega arith) c.get-in-Exists.ensures c.in_ok-put_binder-in-Exists.ensures h
    (ap (formula_text c.args.p.now c.args.depth) (ap formula c.in-Exists.is ∙ formula-Exists c.in-Exists.sort c.in-Exists.g))) c.put_grouped-in-Exists.ensures

pub terms::put_term-returns-in_ok-push-in-Minus : goal.terms::put_term-returns-in_ok-push-in-Minus
terms::put_term-returns-in_ok-push-in-Minus t c =
    on_ok c.put_grouped_term.result (λ h. two_texts _ _ _ _ _ _ c.in_ok-push-in-Minus.ensures.items h
    (ap (term_text c.args.p.now c.args.depth) (ap expression c.in-Minus.is ∙ expression-Minus c.in-Minus.s) ∙ ap (λ z. 45 ∷ grouped (term_text c.args.p.now c.args.depth (expression z))) (sym c.get.ensures))) c.put_grouped_term.ensures

pub terms::put_term-returns-in_ok-push-in-Product : goal.terms::put_term-returns-in_ok-push-in-Product
terms::put_term-returns-in_ok-push-in-Product t c =
    on_ok c.put_grouped_term-in-Product-2.result (λ h. three_texts _ _ _ _ _ _ _ _ c.in_ok-put_grouped_term-in-Product.ensures c.in_ok-push-in-Product.ensures.items h
    (ap (term_text c.args.p.now c.args.depth) (ap expression c.in-Product.is ∙ expression-Product c.in-Product.s c.in-Product.u) ∙ (λ i. grouped (term_text c.args.p.now c.args.depth (expression (sym c.get-in-Product.ensures i))) ++ (codes "*" ++ grouped (term_text c.args.p.now c.args.depth (expression (sym c.get-in-Product-2.ensures i)))))))
    c.put_grouped_term-in-Product-2.ensures

pub terms::put_term-returns-in_ok-extend_from_slice-in-If-3 : goal.terms::put_term-returns-in_ok-extend_from_slice-in-If-3
terms::put_term-returns-in_ok-extend_from_slice-in-If-3 t c =
    on_ok c.put_grouped_term-in-If-2.result (λ h. six_texts _ _ _ _ _ _ _ _ _ _ _ _ _ _ c.in_ok-extend_from_slice-in-If.ensures.items c.in_ok-put_grouped-in-If.ensures c.in_ok-extend_from_slice-in-If-2.ensures.items
    c.in_ok-put_grouped_term-in-If.ensures c.in_ok-extend_from_slice-in-If-3.ensures.items h
    (ap (term_text c.args.p.now c.args.depth) (ap expression c.in-If.is ∙ expression-If c.in-If.f c.in-If.s c.in-If.u) ∙ (λ i. codes "\\if " ++ (grouped (formula_text c.args.p.now c.args.depth (formula (sym c.get-in-If.ensures i))) ++ (codes " \\then " ++ (grouped (term_text c.args.p.now c.args.depth (expression (sym c.get-in-If-2.ensures i)))
    ++ (codes " \\else " ++ grouped (term_text c.args.p.now c.args.depth (expression (sym c.get-in-If-3.ensures i)))))))))) c.put_grouped_term-in-If-2.ensures

pub terms::put_term-returns-in_ok-extend_from_slice-in-Abs : goal.terms::put_term-returns-in_ok-extend_from_slice-in-Abs
terms::put_term-returns-in_ok-extend_from_slice-in-Abs t c =
    on_ok c.put_grouped_term-in-Abs.result (λ h. two_texts _ _ _ _ _ _ c.in_ok-extend_from_slice-in-Abs.ensures.items h
    (ap (term_text c.args.p.now c.args.depth) (ap expression c.in-Abs.is ∙ expression-Abs c.in-Abs.s) ∙ ap (λ z. codes "\\abs" ++ grouped (term_text c.args.p.now c.args.depth (expression z))) (sym c.get-in-Abs.ensures))) c.put_grouped_term-in-Abs.ensures

pub terms::put_term-returns-in_ok-put_first-in-Min : goal.terms::put_term-returns-in_ok-put_first-in-Min
terms::put_term-returns-in_ok-put_first-in-Min t c =
    on_ok c.put_last.result (λ h. three_texts _ _ _ _ _ _ _ _ c.in_ok-extend_from_slice-in-Min.ensures.items c.in_ok-put_first-in-Min.ensures h
    (ap (term_text c.args.p.now c.args.depth) (ap expression c.in-Min.is ∙ expression-Min c.in-Min.s c.in-Min.u)
    ∙ (λ i. codes "\\min" ++ grouped (term_text c.args.p.now c.args.depth (expression (sym c.get-in-Min.ensures i)) ++ (codes ", " ++ term_text c.args.p.now c.args.depth (expression (sym c.get-in-Min-2.ensures i)))))
    ∙ ap (λ z. codes "\\min(" ++ z) (append_assoc (term_text c.args.p.now c.args.depth (expression c.get-in-Min.result.now)) (44 ∷ 32 ∷ term_text c.args.p.now c.args.depth (expression c.get-in-Min-2.result.now)) (41 ∷ [])
    ∙ sym (append_assoc (term_text c.args.p.now c.args.depth (expression c.get-in-Min.result.now)) (44 ∷ 32 ∷ []) (term_text c.args.p.now c.args.depth (expression c.get-in-Min-2.result.now) ++ (41 ∷ [])))))) c.put_last.ensures

pub terms::put_term-returns-in_ok-put_first-in-Max : goal.terms::put_term-returns-in_ok-put_first-in-Max
terms::put_term-returns-in_ok-put_first-in-Max t c =
    on_ok c.put_last-in-Max.result (λ h. three_texts _ _ _ _ _ _ _ _ c.in_ok-extend_from_slice-in-Max.ensures.items c.in_ok-put_first-in-Max.ensures h
    (ap (term_text c.args.p.now c.args.depth) (ap expression c.in-Max.is ∙ expression-Max c.in-Max.s c.in-Max.u)
    ∙ (λ i. codes "\\max" ++ grouped (term_text c.args.p.now c.args.depth (expression (sym c.get-in-Max.ensures i)) ++ (codes ", " ++ term_text c.args.p.now c.args.depth (expression (sym c.get-in-Max-2.ensures i)))))
    ∙ ap (λ z. codes "\\max(" ++ z) (append_assoc (term_text c.args.p.now c.args.depth (expression c.get-in-Max.result.now)) (44 ∷ 32 ∷ term_text c.args.p.now c.args.depth (expression c.get-in-Max-2.result.now)) (41 ∷ [])
    ∙ sym (append_assoc (term_text c.args.p.now c.args.depth (expression c.get-in-Max.result.now)) (44 ∷ 32 ∷ []) (term_text c.args.p.now c.args.depth (expression c.get-in-Max-2.result.now) ++ (41 ∷ [])))))) c.put_last-in-Max.ensures
