use Rattle.std.proofs.Common.{rules, ◌≡◌, ◌∙◌, ◌+◌, sym, ap, arith, pos, drop, to_z, of_z, to_z-of_z, get_or, Some, None}
use mir.Syntax.{w128}
use mir.Val.{SFits}
use Rattle.smt_division.specs.Divisors.{total, within, applied}
use Rattle.smt_division.proofs.Numbers.{total_more}
use Rattle.smt_division.proofs.divisors.total.Goals as goal

pub returns-in_default : goal.returns-in_default
returns-in_default c =
    let x = get_or c.args.more.now c.loop-n.n-index (pos 0) in
    let v = to_z w128 c.loop-n.value-bits in
    let fits : SFits w128 x = search rules in
    let whole : SFits w128 c.args.first = search rules in
    let step : None ≡ within (applied c.args.sign v x) = sym c.in_default.is ∙ c.applied.ensures ∙ ap (λ z. within (applied c.args.sign v z)) (to_z-of_z {w = w128} {z = x} fits) in
    sym (total_more c.args.sign v (pos 0) c.args.more.now c.loop-n.n-index None (omega arith) step) ∙ c.loop-n.invariant
    ∙ ap (λ z. total c.args.sign z c.args.more.now) (to_z-of_z {w = w128} {z = c.args.first} whole)

pub loop-n-preserved : goal.loop-n-preserved
loop-n-preserved c =
    let x = get_or c.args.more.now c.loop-n.n-index (pos 0) in
    let v = to_z w128 c.loop-n.value-bits in
    let fits : SFits w128 x = search rules in
    let next : SFits w128 c.in-Some.next = search rules in
    let step : Some c.in-Some.next ≡ within (applied c.args.sign v x) = sym c.in-Some.is ∙ c.applied.ensures ∙ ap (λ z. within (applied c.args.sign v z)) (to_z-of_z {w = w128} {z = x} fits) in
    ap (λ z. total c.args.sign z (drop (c.loop-n.n-index + 1) c.args.more.now)) (to_z-of_z {w = w128} {z = c.in-Some.next} next)
    ∙ sym (total_more c.args.sign v (pos 0) c.args.more.now c.loop-n.n-index (Some c.in-Some.next) (omega arith) step) ∙ c.loop-n.invariant
