use Rattle.std.proofs.Common.{◌≡◌, ◌+◌, ap, sym, ◌∙◌, arith}
use Rattle.pri_typing.specs.WellFormed.{names_of_symbols}
use Rattle.base_texts.specs.Texts.{is_among}
use Rattle.itp_printer.proofs.Searching.{free_begin, free_stop, free_more, free_end}
use Rattle.itp_printer.proofs.numbers.next_free.Goals as goal

pub returns-then-not-is_taken : goal.returns-then-not-is_taken
returns-then-not-is_taken c =
    let f = ap (λ z. is_among z (names_of_symbols c.args.p.now)) (sym (c.deref.ensures.value ∙ c.in_ok-text.ensures)) ∙ sym c.is_taken.ensures ∙ c.if-not-is_taken.true in
    free_stop c.loop-k.k (c.args.from + c.loop-k.k) _ c.args.p.now c.loop-k-test.true c.loop-k.invariant f

pub loop-k-preserved : goal.loop-k-preserved
loop-k-preserved c =
    let f = ap (λ z. is_among z (names_of_symbols c.args.p.now)) (sym (c.deref.ensures.value ∙ c.in_ok-text.ensures)) ∙ sym c.is_taken.ensures ∙ c.if-not-is_taken.false in
    free_more c.loop-k.k (c.args.from + c.loop-k.k) (c.args.from + (c.loop-k.k + 1)) _ c.args.p.now c.loop-k-test.true (omega arith) c.loop-k.invariant f

pub loop-k-init : goal.loop-k-init
loop-k-init c = free_begin c.args.p.now c.args.from (c.args.from + 0) (omega arith)

pub returns : goal.returns
returns c =
    let q : c.args.from + 1000 ≡ c.args.from + c.loop-k.k = omega arith in
    q ∙ free_end c.loop-k.k (c.args.from + c.loop-k.k) _ c.args.p.now (omega arith) c.loop-k.invariant
