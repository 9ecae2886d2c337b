use Rattle.std.proofs.Common.{◌≡◌, ◌+◌, [], ◌∷◌, length, length-append, ap, sym, subst, ◌∙◌, arith, ℕ}
use Rattle.pri_typing.specs.declared.problem.Problem.{Problem}
use Rattle.itp_printer.specs.Numbers.{AreNumbers}
use Rattle.itp_printer.specs.Variables.{next_number, variable_number}
use Rattle.itp_printer.proofs.Free.{variable_bound}
use Rattle.itp_printer.proofs.Searching.{next_start, start_first, start_bound, number_at, start_more, numbers_more}
use Rattle.itp_printer.proofs.numbers.variable_numbers.Goals as goal

number_is : (p : Problem) (i from n : ℕ) → n ≡ next_number p from → from ≡ next_start p i → n ≡ variable_number p i
number_is p i from n e s = e ∙ ap (next_number p) s ∙ sym (number_at p i)

pub loop-i-init : goal.loop-i-init
loop-i-init c = record {
  numbers = subst (AreNumbers c.args.p.now) (sym c.new-numbers.ensures.items) (λ i l. absurd (omega arith));
  many = ap length c.new-numbers.ensures.items;
  start = start_first c.args.p.now;
}

pub next_free-requires : goal.next_free-requires
next_free-requires c =
    let s = c.loop-i.invariant.start in
    let b = start_bound c.args.p.now c.loop-i.i in
    let t = c.loop-i-test.true in
    let k = c.ranges.k in
    omega (arith, s, b, t, k)

pub overflow_add-from : goal.overflow_add-from
overflow_add-from c =
    let e = number_is c.args.p.now c.loop-i.i c.loop-i.from c.in_ok-number.number c.in_ok-number.ensures c.loop-i.invariant.start in
    let b = variable_bound c.args.p.now c.loop-i.i in
    let t = c.loop-i-test.true in
    let k = c.ranges.k in
    omega (arith, e, b, t, k)

pub loop-i-preserved : goal.loop-i-preserved
loop-i-preserved c =
    let e = number_is c.args.p.now c.loop-i.i c.loop-i.from c.in_ok-number.number c.in_ok-number.ensures c.loop-i.invariant.start in
    record {
      numbers = subst (AreNumbers c.args.p.now) (sym c.in_ok-push.ensures.items)
          (numbers_more c.args.p.now c.loop-i.numbers.items c.in_ok-number.number c.loop-i.invariant.numbers (e ∙ ap (variable_number c.args.p.now) (sym c.loop-i.invariant.many)));
      many = ap length c.in_ok-push.ensures.items ∙ length-append c.loop-i.numbers.items (c.in_ok-number.number ∷ []) ∙ ap (λ z. z + 1) c.loop-i.invariant.many;
      start = start_more c.args.p.now c.loop-i.i c.in_ok-number.number e;
    }
