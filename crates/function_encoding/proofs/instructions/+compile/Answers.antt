use Rattle.std.proofs.Common.{◌∷◌, OnOk, sym, ap, ◌∙◌, subst, arith}
use Rattle.form_typed.specs.Formula.{absolute, choice, expression, expressions_of, formula, greater, lesser, minus, total}
use Rattle.form_typed.proofs.Folds.{expression-Abs, expression-Apply, expression-If, expression-Max, expression-Min, expression-Minus, expression-Name, expression-Sum}
use Rattle.function_encoding.specs.Actions.{apply, compiled, compiled_all}
use Rattle.function_encoding.specs.Instructions.{FollowsActions, action_of, actions_of}
use Rattle.function_encoding.proofs.Compiling.{compiled_as, follows_last, terms_many, more_pushed, lighter}
use Rattle.function_encoding.proofs.instructions.+compile.Goals as goal

pub compile-returns-in-Apply : goal.compile-returns-in-Apply
compile-returns-in-Apply t c =
    let old = actions_of c.args.code.now in
    let new = actions_of c.compile_call.new.code in
    let ts = c.in-Apply.ts in
    let r = c.compile_call.result in
    subst (λ e. OnOk r (FollowsActions old new (compiled e))) (sym (ap expression c.in-Apply.is ∙ expression-Apply c.in-Apply.f ts))
    (subst (λ k. OnOk r (FollowsActions old new (λ m. compiled_all (expressions_of ts) (apply c.in-Apply.f k ∷ m)))) (c.len.ensures ∙ sym (terms_many ts))
    (subst (λ l. OnOk r (FollowsActions old new (λ m. compiled_all (expressions_of l) (apply c.in-Apply.f c.len.result ∷ m)))) c.as_slice.ensures c.compile_call.ensures))

pub compile_one-returns : goal.compile_one-returns
compile_one-returns t c =
    follows_last c.put.result (actions_of c.args.code.now) (actions_of c.compile.new.code) (actions_of c.put.new.code) (compiled (expression c.args.term.now)) (λ m. action_of c.args.last ∷ m) c.in_ok-compile.ensures c.put.ensures

pub compile_two-returns : goal.compile_two-returns
compile_two-returns t c =
    follows_last c.compile_one.result (actions_of c.args.code.now) (actions_of c.compile.new.code) (actions_of c.compile_one.new.code) (compiled (expression c.args.s.now))
    (λ m. compiled (expression c.args.t.now) (action_of c.args.last ∷ m)) c.in_ok-compile.ensures c.compile_one.ensures

pub compile_call-returns : goal.compile_call-returns
compile_call-returns t c =
    follows_last c.put.result (actions_of c.args.code.now) (actions_of c.compile_all.new.code) (actions_of c.put.new.code) (compiled_all (expressions_of c.args.terms.now)) (λ m. action_of c.args.last ∷ m) c.in_ok-compile_all.ensures c.put.ensures

pub compile_more-loop-t-preserved : goal.compile_more-loop-t-preserved
compile_more-loop-t-preserved t c = (
  more_pushed c.args.terms.now c.loop-t.t-index c.t-item.result (expression c.without_minus.result.now) c.is_subtracted.result (omega arith) c.t-item.is c.without_minus.ensures c.is_subtracted.ensures
      c.loop-t.invariant.0 c.in_ok-compile_one.ensures,
  (lighter c.args.terms.now c.loop-t.t-index c.t-item.result _ (omega arith) c.t-item.is c.loop-t.invariant.1).1,
)

pub compile-returns-in-Name : goal.compile-returns-in-Name
compile-returns-in-Name t c = compiled_as c.put-in-Name.result _ _ c.args.term.now _ (ap expression c.in-Name.is ∙ expression-Name _) c.put-in-Name.ensures

pub compile-returns-in-Minus : goal.compile-returns-in-Minus
compile-returns-in-Minus t c = compiled_as c.compile_one.result _ _ c.args.term.now _ (ap expression c.in-Minus.is ∙ expression-Minus _ ∙ ap (λ z. minus (expression z)) (sym c.get.ensures)) c.compile_one.ensures

pub compile-returns-in-Sum : goal.compile-returns-in-Sum
compile-returns-in-Sum t c = compiled_as c.compile_sum.result _ _ c.args.term.now _ (ap expression c.in-Sum.is ∙ expression-Sum _ ∙ ap (λ l. total (expressions_of l)) (sym c.as_slice-in-Sum.ensures)) c.compile_sum.ensures

pub compile-returns-in-Abs : goal.compile-returns-in-Abs
compile-returns-in-Abs t c = compiled_as c.compile_one-in-Abs.result _ _ c.args.term.now _ (ap expression c.in-Abs.is ∙ expression-Abs _ ∙ ap (λ z. absolute (expression z)) (sym c.get-in-Abs.ensures)) c.compile_one-in-Abs.ensures

pub compile-returns-in-If : goal.compile-returns-in-If
compile-returns-in-If t c = compiled_as c.compile_two-in-If.result _ _ c.args.term.now _ (ap expression c.in-If.is ∙ expression-If _ _ _ ∙ (λ i. choice (formula (sym c.get-in-If-3.ensures i)) (expression (sym c.get-in-If.ensures i)) (expression (sym c.get-in-If-2.ensures i)))) c.compile_two-in-If.ensures

pub compile-returns-in-Min : goal.compile-returns-in-Min
compile-returns-in-Min t c = compiled_as c.compile_two-in-Min.result _ _ c.args.term.now _ (ap expression c.in-Min.is ∙ expression-Min _ _ ∙ (λ i. lesser (expression (sym c.get-in-Min.ensures i)) (expression (sym c.get-in-Min-2.ensures i)))) c.compile_two-in-Min.ensures

pub compile-returns-in-Max : goal.compile-returns-in-Max
compile-returns-in-Max t c = compiled_as c.compile_two-in-Max.result _ _ c.args.term.now _ (ap expression c.in-Max.is ∙ expression-Max _ _ ∙ (λ i. greater (expression (sym c.get-in-Max.ensures i)) (expression (sym c.get-in-Max-2.ensures i)))) c.compile_two-in-Max.ensures
