use Rattle.std.proofs.Common.{rules, to_z-of_z, pos, negsuc, refl, ap, ◌∙◌, subst, arith}
use mir.Syntax.{w128}
use mir.Val.{SFits}
use Rattle.linear_term.specs.Linear as linear
use Rattle.base_budget.specs.Trace.{next}
use Rattle.base_budget.specs.Work.{Worked}
use Rattle.base_budget.proofs.Charging.{work_ok, work_err, work_just}
use Rattle.form_typed.specs.Formula.{expression, expressions_of, formula, number, name, call, minus, product, choice, absolute, lesser, greater}
use Rattle.form_typed.proofs.Folds.{expression-Number, expression-Name, expression-Apply, expression-Minus, expression-Product, expression-If, expression-Abs, expression-Min, expression-Max}
use Rattle.pri_typing.specs.WellFormed.{is_numeric}
use Rattle.form_encoding.specs.Encoding.{multiple, named, product_of}
use Rattle.form_encoding.specs.Root.{names_from}
use Rattle.form_encoding.specs.Plain.{linear_of, linear_sum}
use Rattle.job_least.proofs.Linears.{at_term, of_term, member_left, member_err, combining_fault, members_end, rest_next, sum_none}
use Rattle.job_least.proofs.linear.+linear.Goals as goal

pub linear_sum-returns-in_err-member : goal.linear_sum-returns-in_err-member
linear_sum-returns-in_err-member t c =
    member_err (names_from 0 c.args.names) c.in-Some.others.now c.loop-t.t-index c.t-item.result (expression c.without_minus.result.now) c.loop-t.sum (linear_sum (names_from 0 c.args.names) (expressions_of c.args.terms.now)) c.in_err-member.field-0.0 c.from_residual-in_err-member.result
    (omega arith) c.t-item.is c.without_minus.ensures c.loop-t.invariant.0 c.from_residual-in_err-member.ensures.1 c.in_err-member.ensures

pub linear_sum-returns-in_err-sum-2 : goal.linear_sum-returns-in_err-sum-2
linear_sum-returns-in_err-sum-2 t c =
    let f : SFits w128 c.factor_of.result = search rules in
    let did = simp to_z-of_z at c.in_err-sum-2.ensures in
    combining_fault (names_from 0 c.args.names) c.in-Some.others.now c.loop-t.t-index c.t-item.result (expression c.without_minus.result.now) c.factor_of.result c.loop-t.sum c.in_ok-member.member (linear_sum (names_from 0 c.args.names) (expressions_of c.args.terms.now)) c.in_err-sum-2.field-0.0 c.from_residual-in_err-sum-2.result
    (omega arith) c.t-item.is c.without_minus.ensures c.factor_of.ensures.exact c.loop-t.invariant.0 c.from_residual-in_err-sum-2.ensures.1 c.in_ok-member.ensures did

pub linear_sum-loop-t-preserved : goal.linear_sum-loop-t-preserved
linear_sum-loop-t-preserved t c =
    let f : SFits w128 c.factor_of.result = search rules in
    let did = simp to_z-of_z at c.in_ok-sum-2.ensures in (
      member_left (names_from 0 c.args.names) c.in-Some.others.now c.loop-t.t-index c.t-item.result (expression c.without_minus.result.now) c.factor_of.result c.loop-t.sum c.in_ok-member.member c.in_ok-sum-2.sum (linear_sum (names_from 0 c.args.names) (expressions_of c.args.terms.now))
          (omega arith) c.t-item.is c.without_minus.ensures c.factor_of.ensures.exact c.loop-t.invariant.0 c.in_ok-member.ensures did,
      rest_next c.in-Some.others.now c.loop-t.t-index c.t-item.result _ (omega arith) c.t-item.is c.loop-t.invariant.1,
    )

pub linear_sum-returns : goal.linear_sum-returns
linear_sum-returns t c =
    members_end (names_from 0 c.args.names) c.in-Some.others.now c.loop-t.t-index c.loop-t.sum c.loop-t.sum (linear_sum (names_from 0 c.args.names) (expressions_of c.args.terms.now)) (omega arith) refl c.loop-t.invariant.0

pub linear_term-returns-in_err-inner-in-Minus : goal.linear_term-returns-in_err-inner-in-Minus
linear_term-returns-in_err-inner-in-Minus t c =
    at_term (names_from 0 c.args.names) c.args.term.now (minus (expression c.in-Minus.t)) _ (ap expression c.in-Minus.is ∙ expression-Minus c.in-Minus.t)
    (work_err (linear_of (names_from 0 c.args.names) (expression c.in-Minus.t)) (λ a. multiple (negsuc 0) a) c.from_residual.result c.from_residual.ensures.1
    (of_term (names_from 0 c.args.names) c.get.result.now c.in-Minus.t _ c.get.ensures c.in_err-inner-in-Minus.ensures))

pub linear_term-returns-in_ok-inner-in-Minus : goal.linear_term-returns-in_ok-inner-in-Minus
linear_term-returns-in_ok-inner-in-Minus t c =
    at_term (names_from 0 c.args.names) c.args.term.now (minus (expression c.in-Minus.t)) _ (ap expression c.in-Minus.is ∙ expression-Minus c.in-Minus.t)
    (work_ok (linear_of (names_from 0 c.args.names) (expression c.in-Minus.t)) (λ a. multiple (negsuc 0) a)
    (of_term (names_from 0 c.args.names) c.get.result.now c.in-Minus.t _ c.get.ensures c.in_ok-inner-in-Minus.ensures) c.multiple.ensures)

pub linear_term-returns-in_err-left-in-Product : goal.linear_term-returns-in_err-left-in-Product
linear_term-returns-in_err-left-in-Product t c =
    at_term (names_from 0 c.args.names) c.args.term.now (product (expression c.in-Product.s) (expression c.in-Product.t)) _ (ap expression c.in-Product.is ∙ expression-Product c.in-Product.s c.in-Product.t)
    (work_err (linear_of (names_from 0 c.args.names) (expression c.in-Product.s)) (λ a. next (linear_of (names_from 0 c.args.names) (expression c.in-Product.t)) (λ b. product_of (is_numeric (expression c.in-Product.s)) a b)) c.from_residual-in_err-left-in-Product.result c.from_residual-in_err-left-in-Product.ensures.1
    (of_term (names_from 0 c.args.names) c.get-in-Product.result.now c.in-Product.s _ c.get-in-Product.ensures c.in_err-left-in-Product.ensures))

pub linear_term-returns-in_err-right-in-Product : goal.linear_term-returns-in_err-right-in-Product
linear_term-returns-in_err-right-in-Product t c =
    at_term (names_from 0 c.args.names) c.args.term.now (product (expression c.in-Product.s) (expression c.in-Product.t)) _ (ap expression c.in-Product.is ∙ expression-Product c.in-Product.s c.in-Product.t)
    (work_ok (linear_of (names_from 0 c.args.names) (expression c.in-Product.s)) (λ a. next (linear_of (names_from 0 c.args.names) (expression c.in-Product.t)) (λ b. product_of (is_numeric (expression c.in-Product.s)) a b))
    (of_term (names_from 0 c.args.names) c.get-in-Product.result.now c.in-Product.s _ c.get-in-Product.ensures c.in_ok-left-in-Product.ensures)
    (work_err (linear_of (names_from 0 c.args.names) (expression c.in-Product.t)) (λ b. product_of (is_numeric (expression c.in-Product.s)) c.in_ok-left-in-Product.left b) c.from_residual-in_err-right-in-Product.result c.from_residual-in_err-right-in-Product.ensures.1
    (of_term (names_from 0 c.args.names) c.get-in-Product-2.result.now c.in-Product.t _ c.get-in-Product-2.ensures c.in_err-right-in-Product.ensures)))

pub linear_term-returns-in_ok-right-in-Product : goal.linear_term-returns-in_ok-right-in-Product
linear_term-returns-in_ok-right-in-Product t c =
    at_term (names_from 0 c.args.names) c.args.term.now (product (expression c.in-Product.s) (expression c.in-Product.t)) _ (ap expression c.in-Product.is ∙ expression-Product c.in-Product.s c.in-Product.t)
    (work_ok (linear_of (names_from 0 c.args.names) (expression c.in-Product.s)) (λ a. next (linear_of (names_from 0 c.args.names) (expression c.in-Product.t)) (λ b. product_of (is_numeric (expression c.in-Product.s)) a b))
    (of_term (names_from 0 c.args.names) c.get-in-Product.result.now c.in-Product.s _ c.get-in-Product.ensures c.in_ok-left-in-Product.ensures)
    (work_ok (linear_of (names_from 0 c.args.names) (expression c.in-Product.t)) (λ b. product_of (is_numeric (expression c.in-Product.s)) c.in_ok-left-in-Product.left b)
    (of_term (names_from 0 c.args.names) c.get-in-Product-2.result.now c.in-Product.t _ c.get-in-Product-2.ensures c.in_ok-right-in-Product.ensures)
    (subst (λ p. Worked (product_of p c.in_ok-left-in-Product.left c.in_ok-right-in-Product.right) c.product_of.result) (c.is_numeric.ensures ∙ ap (λ z. is_numeric (expression z)) c.get-in-Product-3.ensures) c.product_of.ensures)))

pub linear_term-returns-in-Number : goal.linear_term-returns-in-Number
linear_term-returns-in-Number t c =
    let f : SFits w128 c.in-Number.v = search rules in
    let made = simp to_z-of_z at c.number.ensures in
    at_term (names_from 0 c.args.names) c.args.term.now (number c.in-Number.v) _ (ap expression c.in-Number.is ∙ expression-Number c.in-Number.v)
    (work_just (linear.number c.in-Number.v) c.number.result made)

pub linear_term-returns-in-Name : goal.linear_term-returns-in-Name
linear_term-returns-in-Name t c =
    at_term (names_from 0 c.args.names) c.args.term.now (name c.in-Name.x) _ (ap expression c.in-Name.is ∙ expression-Name c.in-Name.x)
    (work_just (named (names_from 0 c.args.names) c.in-Name.x) c.named.result c.named.ensures)

pub linear_term-returns-in-Apply : goal.linear_term-returns-in-Apply
linear_term-returns-in-Apply t c =
    at_term (names_from 0 c.args.names) c.args.term.now (call c.in-Apply.field-0 (expressions_of c.in-Apply.field-1)) _ (ap expression c.in-Apply.is ∙ expression-Apply c.in-Apply.field-0 c.in-Apply.field-1)
    (work_just (linear.number (pos 0)) c.number-in-Apply.result c.number-in-Apply.ensures)

pub linear_term-returns-in-If : goal.linear_term-returns-in-If
linear_term-returns-in-If t c =
    at_term (names_from 0 c.args.names) c.args.term.now (choice (formula c.in-If.field-0) (expression c.in-If.field-1) (expression c.in-If.field-2)) _ (ap expression c.in-If.is ∙ expression-If c.in-If.field-0 c.in-If.field-1 c.in-If.field-2)
    (work_just (linear.number (pos 0)) c.number-in-If.result c.number-in-If.ensures)

pub linear_term-returns-in-Abs : goal.linear_term-returns-in-Abs
linear_term-returns-in-Abs t c =
    at_term (names_from 0 c.args.names) c.args.term.now (absolute (expression c.in-Abs.field-0)) _ (ap expression c.in-Abs.is ∙ expression-Abs c.in-Abs.field-0)
    (work_just (linear.number (pos 0)) c.number-in-Abs.result c.number-in-Abs.ensures)

pub linear_term-returns-in-Min : goal.linear_term-returns-in-Min
linear_term-returns-in-Min t c =
    at_term (names_from 0 c.args.names) c.args.term.now (lesser (expression c.in-Min.field-0) (expression c.in-Min.field-1)) _ (ap expression c.in-Min.is ∙ expression-Min c.in-Min.field-0 c.in-Min.field-1)
    (work_just (linear.number (pos 0)) c.number-in-Min.result c.number-in-Min.ensures)

pub linear_term-returns-in-Max : goal.linear_term-returns-in-Max
linear_term-returns-in-Max t c =
    at_term (names_from 0 c.args.names) c.args.term.now (greater (expression c.in-Max.field-0) (expression c.in-Max.field-1)) _ (ap expression c.in-Max.is ∙ expression-Max c.in-Max.field-0 c.in-Max.field-1)
    (work_just (linear.number (pos 0)) c.number-in-Max.result c.number-in-Max.ensures)

pub linear_sum-returns-in_default : goal.linear_sum-returns-in_default
linear_sum-returns-in_default t c = sum_none (names_from 0 c.args.names) c.args.terms.now c.number.result c.in_default.ensures.cases c.number.ensures
