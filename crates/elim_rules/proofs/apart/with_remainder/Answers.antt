use Rattle.std.proofs.Common.{rules, ◌≡◌, pos, to_z, to_z-of_z}
use Rattle.std.proofs.lemmas.Int.{to_z_pos}
use mir.Syntax.{w128}
use mir.Val.{SFits}
use Rattle.elim_rules.proofs.Remainders.{remainder_failed, remainder_done, new_divisor}
use Rattle.elim_rules.proofs.apart.with_remainder.Goals as goal

pub returns-in_err-s : goal.returns-in_err-s
returns-in_err-s c =
    let p : to_z w128 c.args.r ≡ pos c.args.r = to_z_pos w128 c.args.r c.requires.remainder in
    remainder_failed c.args.rest c.args.l.now c.term.result.now c.number.result c.args.r c.in_err-s.field-0.0 c.from_residual.result c.term.ensures (rw p at c.number.ensures) c.in_err-s.ensures
    c.from_residual.ensures.1

pub in_form_with-requires-clause-divisors : goal.in_form_with-requires-clause-divisors
in_form_with-requires-clause-divisors c =
    let d : SFits w128 c.divisor.result = search rules in
    new_divisor c.in_ok-new.new _ c.divisor.result c.in_ok-s.s c.requires.divisor c.divisor.ensures (simp to_z-of_z at c.in_ok-new.ensures)

pub returns : goal.returns
returns c =
    let d : SFits w128 c.divisor.result = search rules in
    let p : to_z w128 c.args.r ≡ pos c.args.r = to_z_pos w128 c.args.r c.requires.remainder in
    remainder_done c.args.rest c.in_ok-new.new c.args.l.now c.divisor.result c.term.result.now c.number.result c.in_ok-s.s c.args.r c.in_ok-in_form_with.field-0 c.term.ensures
    (rw p at c.number.ensures) c.in_ok-s.ensures c.divisor.ensures (simp to_z-of_z at c.in_ok-new.ensures) c.in_ok-in_form_with.ensures
