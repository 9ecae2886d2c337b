use Rattle.std.proofs.Common.{◌∙◌, ◌+◌, sym, ap, arith}
use Rattle.base_budget.specs.Trace.{just}
use Rattle.formula.specs.Form.{equal, unequal, at_least, holds, fails, differs, conjunction, disjunction, universal, existential}
use Rattle.formula.specs.Tree.{form, forms_of}
use Rattle.formula.proofs.Building.{form-Eq, form-Neq, form-Geq, form-Pred, form-NotPred, form-NotFun, form-And, form-Or, form-Forall, form-Exists}
use Rattle.formula.proofs.Making.{made_ok, made_err, made_just, made_memory, left_err, left_made}
use Rattle.formula.proofs.Negating.{dual_as, rest_all, rest_next, rest_pushed, rest_end}
use Rattle.formula.proofs.negation.+dual.Goals as goal

pub dual-returns-in_err-copy-in-Eq : goal.dual-returns-in_err-copy-in-Eq
dual-returns-in_err-copy-in-Eq t c = made_memory form _ c.from_residual.ensures.1

pub dual-returns-in_err-copy-in-Neq : goal.dual-returns-in_err-copy-in-Neq
dual-returns-in_err-copy-in-Neq t c = made_memory form _ c.from_residual-in_err-copy-in-Neq.ensures.1

pub dual-returns-in_err-below-in-Geq : goal.dual-returns-in_err-below-in-Geq
dual-returns-in_err-below-in-Geq t c = dual_as _ _ _ (ap form c.in-Geq.is ∙ form-Geq _) (made_err (λ u. u) form _ _ _ c.from_residual-in_err-below-in-Geq.ensures.1 c.in_err-below-in-Geq.ensures)

pub dual-returns-in_err-copy_terms-in-Pred : goal.dual-returns-in_err-copy_terms-in-Pred
dual-returns-in_err-copy_terms-in-Pred t c = made_memory form _ c.from_residual-in_err-copy_terms-in-Pred.ensures.1

pub dual-returns-in_err-copy_terms-in-NotPred : goal.dual-returns-in_err-copy_terms-in-NotPred
dual-returns-in_err-copy_terms-in-NotPred t c = made_memory form _ c.from_residual-in_err-copy_terms-in-NotPred.ensures.1

pub dual-returns-in_err-copy_terms-in-NotFun : goal.dual-returns-in_err-copy_terms-in-NotFun
dual-returns-in_err-copy_terms-in-NotFun t c = made_memory form _ c.from_residual-in_err-copy_terms-in-NotFun.ensures.1

pub dual-returns-in_err-copy-in-NotFun : goal.dual-returns-in_err-copy-in-NotFun
dual-returns-in_err-copy-in-NotFun t c = made_memory form _ c.from_residual-in_err-copy-in-NotFun.ensures.1

pub dual-returns-in_err-dual_all-in-And : goal.dual-returns-in_err-dual_all-in-And
dual-returns-in_err-dual_all-in-And t c = dual_as _ _ _ ((ap form c.in-And.is ∙ form-And _) ∙ ap (λ l. conjunction (forms_of l)) (sym c.as_slice-in-And.ensures)) (made_err forms_of form _ _ _ c.from_residual-in_err-dual_all-in-And.ensures.1 c.in_err-dual_all-in-And.ensures)

pub dual-returns-in_err-dual_all-in-Or : goal.dual-returns-in_err-dual_all-in-Or
dual-returns-in_err-dual_all-in-Or t c = dual_as _ _ _ ((ap form c.in-Or.is ∙ form-Or _) ∙ ap (λ l. disjunction (forms_of l)) (sym c.as_slice-in-Or.ensures)) (made_err forms_of form _ _ _ c.from_residual-in_err-dual_all-in-Or.ensures.1 c.in_err-dual_all-in-Or.ensures)

pub dual-returns-in_err-dual-in-Forall : goal.dual-returns-in_err-dual-in-Forall
dual-returns-in_err-dual-in-Forall t c = dual_as _ _ _ ((ap form c.in-Forall.is ∙ form-Forall _) ∙ ap (λ z. universal (form z)) (sym c.get.ensures)) (made_err form form _ _ _ c.from_residual-in_err-dual-in-Forall.ensures.1 c.in_err-dual-in-Forall.ensures)

pub dual-returns-in_err-new-in-Forall : goal.dual-returns-in_err-new-in-Forall
dual-returns-in_err-new-in-Forall t c = made_memory form _ c.from_residual-in_err-new-in-Forall.ensures.1

pub dual-returns-in_err-dual-in-Exists : goal.dual-returns-in_err-dual-in-Exists
dual-returns-in_err-dual-in-Exists t c = dual_as _ _ _ ((ap form c.in-Exists.is ∙ form-Exists _) ∙ ap (λ z. existential (form z)) (sym c.get-in-Exists.ensures)) (made_err form form _ _ _ c.from_residual-in_err-dual-in-Exists.ensures.1 c.in_err-dual-in-Exists.ensures)

pub dual-returns-in_err-new-in-Exists : goal.dual-returns-in_err-new-in-Exists
dual-returns-in_err-new-in-Exists t c = made_memory form _ c.from_residual-in_err-new-in-Exists.ensures.1

pub dual-returns-in_ok-copy-in-Eq : goal.dual-returns-in_ok-copy-in-Eq
dual-returns-in_ok-copy-in-Eq t c = dual_as _ _ _ (ap form c.in-Eq.is ∙ form-Eq _) (made_just form _ _ (form-Neq _ ∙ ap (λ z. unequal z) c.in_ok-copy-in-Eq.ensures))

pub dual-returns-in_ok-copy-in-Neq : goal.dual-returns-in_ok-copy-in-Neq
dual-returns-in_ok-copy-in-Neq t c = dual_as _ _ _ (ap form c.in-Neq.is ∙ form-Neq _) (made_just form _ _ (form-Eq _ ∙ ap (λ z. equal z) c.in_ok-copy-in-Neq.ensures))

pub dual-returns-in_ok-below-in-Geq : goal.dual-returns-in_ok-below-in-Geq
dual-returns-in_ok-below-in-Geq t c = dual_as _ _ _ (ap form c.in-Geq.is ∙ form-Geq _) (made_ok (λ u. u) form _ (λ u. just (at_least u)) c.in_ok-below-in-Geq.ensures (made_just form _ _ (form-Geq _)))

pub dual-returns-in_ok-copy_terms-in-Pred : goal.dual-returns-in_ok-copy_terms-in-Pred
dual-returns-in_ok-copy_terms-in-Pred t c = dual_as _ _ _ (ap form c.in-Pred.is ∙ form-Pred _ _) (made_just form _ _ (form-NotPred _ _ ∙ ap (λ z. fails c.in-Pred.p z) (c.in_ok-copy_terms-in-Pred.ensures ∙ c.as_slice.ensures)))

pub dual-returns-in_ok-copy_terms-in-NotPred : goal.dual-returns-in_ok-copy_terms-in-NotPred
dual-returns-in_ok-copy_terms-in-NotPred t c = dual_as _ _ _ (ap form c.in-NotPred.is ∙ form-NotPred _ _) (made_just form _ _ (form-Pred _ _ ∙ ap (λ z. holds c.in-NotPred.p z) (c.in_ok-copy_terms-in-NotPred.ensures ∙ c.as_slice-in-NotPred.ensures)))

pub dual-returns-in_ok-copy-in-NotFun : goal.dual-returns-in_ok-copy-in-NotFun
dual-returns-in_ok-copy-in-NotFun t c = dual_as _ _ _ (ap form c.in-NotFun.is ∙ form-NotFun _ _ _) (made_just form _ _ (form-NotFun _ _ _ ∙ (λ i. differs c.in-NotFun.h ((c.in_ok-copy_terms-in-NotFun.ensures ∙ c.as_slice-in-NotFun.ensures) i) (c.in_ok-copy-in-NotFun.ensures i))))

pub dual-returns-in_ok-dual_all-in-And : goal.dual-returns-in_ok-dual_all-in-And
dual-returns-in_ok-dual_all-in-And t c = dual_as _ _ _ ((ap form c.in-And.is ∙ form-And _) ∙ ap (λ l. conjunction (forms_of l)) (sym c.as_slice-in-And.ensures)) (made_ok forms_of form _ (λ gs. just (disjunction gs)) c.in_ok-dual_all-in-And.ensures (made_just form _ _ (form-Or _)))

pub dual-returns-in_ok-dual_all-in-Or : goal.dual-returns-in_ok-dual_all-in-Or
dual-returns-in_ok-dual_all-in-Or t c = dual_as _ _ _ ((ap form c.in-Or.is ∙ form-Or _) ∙ ap (λ l. disjunction (forms_of l)) (sym c.as_slice-in-Or.ensures)) (made_ok forms_of form _ (λ gs. just (conjunction gs)) c.in_ok-dual_all-in-Or.ensures (made_just form _ _ (form-And _)))

pub dual-returns-in_ok-new-in-Forall : goal.dual-returns-in_ok-new-in-Forall
dual-returns-in_ok-new-in-Forall t c = dual_as _ _ _ ((ap form c.in-Forall.is ∙ form-Forall _) ∙ ap (λ z. universal (form z)) (sym c.get.ensures)) (made_ok form form _ (λ z. just (existential z)) c.in_ok-dual-in-Forall.ensures (made_just form _ _ (form-Exists _ ∙ ap (λ z. existential (form z)) c.in_ok-new-in-Forall.ensures)))

pub dual-returns-in_ok-new-in-Exists : goal.dual-returns-in_ok-new-in-Exists
dual-returns-in_ok-new-in-Exists t c = dual_as _ _ _ ((ap form c.in-Exists.is ∙ form-Exists _) ∙ ap (λ z. existential (form z)) (sym c.get-in-Exists.ensures)) (made_ok form form _ (λ z. just (universal z)) c.in_ok-dual-in-Exists.ensures (made_just form _ _ (form-Forall _ ∙ ap (λ z. universal (form z)) c.in_ok-new-in-Exists.ensures)))

pub dual_all-loop-f-init : goal.dual_all-loop-f-init
dual_all-loop-f-init t c = rest_all c.args.formulas.now _ c.new-out.ensures

pub dual_all-returns-in_err-dual : goal.dual_all-returns-in_err-dual
dual_all-returns-in_err-dual t c = left_err form forms_of _ _ _ c.from_residual.ensures.1 (rest_next c.args.formulas.now c.loop-f.f-index _ c.loop-f.out (omega arith) c.f-item.is c.loop-f.invariant) c.in_err-dual.ensures

pub dual_all-returns-in_err-push : goal.dual_all-returns-in_err-push
dual_all-returns-in_err-push t c = made_memory forms_of _ c.from_residual-in_err-push.ensures.1

pub dual_all-loop-f-preserved : goal.dual_all-loop-f-preserved
dual_all-loop-f-preserved t c = rest_pushed c.args.formulas.now (c.loop-f.f-index + 1) c.loop-f.out _ _ c.in_ok-push.ensures.ok (left_made form _ _ (rest_next c.args.formulas.now c.loop-f.f-index _ c.loop-f.out (omega arith) c.f-item.is c.loop-f.invariant) c.in_ok-dual.ensures)

pub dual_all-returns : goal.dual_all-returns
dual_all-returns t c = rest_end c.args.formulas.now c.loop-f.f-index c.loop-f.out (omega arith) c.loop-f.invariant
