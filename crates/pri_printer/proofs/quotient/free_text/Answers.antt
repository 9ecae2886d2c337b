use Rattle.std.proofs.Common.{◌≡◌, ap, sym, ◌∙◌, arith}
use Rattle.std.specs.Prelude.{IfOk, Result, Ok, Err}
use Rattle.pri_printer.specs.Quotient.{quotient_name, quotient_number}
use Rattle.pri_typing.specs.WellFormed.{names_of_symbols}
use Rattle.base_texts.specs.Texts.{is_among}
use Rattle.pri_printer.proofs.Searching.{free_begin, free_stop, free_more, free_end}
use Rattle.pri_printer.proofs.quotient.free_text.Goals as goal

if_ok : {T E : Type 0} (A B : T → Type 0) (r : Result T E) → ((x : T) → A x → B x) → IfOk r A → IfOk r B
if_ok A B (Ok x) f a = f x a
if_ok A B (Err x) f a = tt

pub returns-then-not-is_taken : goal.returns-then-not-is_taken
returns-then-not-is_taken c =
    let f = ap (λ z. is_among z (names_of_symbols c.args.p.now)) (sym (c.deref.ensures.value ∙ c.in_ok-text.ensures)) ∙ sym c.is_taken.ensures ∙ c.if-not-is_taken.true in
    c.in_ok-text.ensures ∙ ap quotient_name (free_stop c.loop-n.n c.args.p.now c.loop-n-test.true c.loop-n.invariant f)

pub loop-n-preserved : goal.loop-n-preserved
loop-n-preserved c =
    let f = ap (λ z. is_among z (names_of_symbols c.args.p.now)) (sym (c.deref.ensures.value ∙ c.in_ok-text.ensures)) ∙ sym c.is_taken.ensures ∙ c.if-not-is_taken.false in
    free_more c.loop-n.n c.args.p.now c.loop-n-test.true c.loop-n.invariant f

pub loop-n-init : goal.loop-n-init
loop-n-init c = free_begin c.args.p.now

pub returns : goal.returns
returns c =
    let e = free_end c.loop-n.n c.args.p.now (omega arith) (omega arith) c.loop-n.invariant in
    if_ok (λ v. v.items ≡ quotient_name 1000) (λ v. v.items ≡ quotient_name (quotient_number c.args.p.now)) c.quotient_text-2.result
    (λ v h. h ∙ ap quotient_name e) c.quotient_text-2.ensures
