use Rattle.std.proofs.Common.{◌∙◌, arith}
use Rattle.elim_rules.specs.Congruences.{remainder_beside}
use Rattle.elim_rules.proofs.Remainders.{remainder_copied, remainders_begin, remainders_more, remainders_fail, remainders_last, remainders_fail_last}
use Rattle.elim_rules.proofs.apart.with_remainders.Goals as goal

pub loop-r-init : goal.loop-r-init
loop-r-init c = remainders_begin (remainder_beside c.args.rest c.args.l.now) c.args.count _ (let some = c.if-count-eq0.false in omega (arith, some)) c.new-out.ensures

pub loop-r-preserved : goal.loop-r-preserved
loop-r-preserved c = (
  remainders_more (remainder_beside c.args.rest c.args.l.now) c.loop-r.r c.args.count c.loop-r.out _ _ c.loop-r-test.true c.loop-r.invariant.0 (remainder_copied c.args.rest c.in_ok-copies.copies c.args.l.now c.loop-r.r _ (c.in_ok-copies.ensures ∙ c.as_slice.ensures) c.in_ok-with_remainder.ensures) c.in_ok-append.ensures,
  let lt = c.loop-r-test.true in omega arith,
)

pub returns-in_err-with_remainder : goal.returns-in_err-with_remainder
returns-in_err-with_remainder c =
    remainders_fail (remainder_beside c.args.rest c.args.l.now) c.loop-r.r c.args.count c.loop-r.out c.from_residual-in_err-with_remainder.result c.loop-r.invariant.0 c.from_residual-in_err-with_remainder.ensures.1
    (remainder_copied c.args.rest c.in_ok-copies.copies c.args.l.now c.loop-r.r _ (c.in_ok-copies.ensures ∙ c.as_slice.ensures) c.in_err-with_remainder.ensures)

pub returns-in_err-with_remainder-2 : goal.returns-in_err-with_remainder-2
returns-in_err-with_remainder-2 c =
    remainders_fail_last (remainder_beside c.args.rest c.args.l.now) c.loop-r.r c.args.count c.loop-r.out c.from_residual-in_err-with_remainder-2.result c.loop-r.invariant.1 c.loop-r-test.false c.loop-r.invariant.0
    c.from_residual-in_err-with_remainder-2.ensures.1 c.in_err-with_remainder-2.ensures

pub returns : goal.returns
returns c =
    remainders_last (remainder_beside c.args.rest c.args.l.now) c.loop-r.r c.args.count c.loop-r.out _ _ c.loop-r.invariant.1 c.loop-r-test.false c.loop-r.invariant.0 c.in_ok-with_remainder-2.ensures c.in_ok-append-2.ensures
