use Rattle.std.proofs.Common.{rules, ◌≡◌, ◌++◌, ◌∷◌, [], ◌+◌, ap, ◌∙◌, arith, drop}
use Rattle.smt_lists.specs.Expressions.{exprs_of}
use Rattle.smt_division.specs.Divisors.{values}
use Rattle.smt_division.proofs.Numbers.{joined}
use Rattle.smt_division.proofs.Numbers.{values_more}
use Rattle.smt_division.proofs.divisors.+divisors.Goals as goal

pub values-loop-e-preserved : goal.values-loop-e-preserved
values-loop-e-preserved t c =
    let pushed : c.push.new.self ≡ c.loop-e.numbers ++ c.in-Some.n ∷ [] = search rules in
    ap (λ z. joined z (values (exprs_of (drop (c.loop-e.e-index + 1) c.args.es.now)))) pushed
    ∙ values_more c.loop-e.numbers c.args.es.now c.loop-e.e-index c.e-item.result c.in-Some.n (omega arith) c.e-item.is (search rules)
    ∙ c.loop-e.invariant
