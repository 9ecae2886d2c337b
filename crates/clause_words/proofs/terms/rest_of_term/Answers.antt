use Rattle.std.proofs.Common.{rules, Some, None, sym, ap, ◌∙◌, cond}
use Rattle.clause_words.specs.Terms.{nothing, parts, sum_of}
use Rattle.clause_words.proofs.Summing.{none_here, constant_here, no_name_here, last_name_here, name_here}
use Rattle.clause_words.proofs.terms.rest_of_term.Goals as goal

pub returns-in-None : goal.returns-in-None
returns-in-None c =
    none_here c.parts.sum c.parts.minus c.parts.rest.now c.split_part.result.0.now c.split_part.result.1.now (sum_of nothing (parts c.args.first c.args.word.now))
    c.parts.invariant.same (c.split_part.ensures.exact c.parts.minus) (search rules)

pub returns-in-Some-Constant : goal.returns-in-Some-Constant
returns-in-Some-Constant c =
    c.end.ensures
    ∙ constant_here c.parts.sum c.parts.minus c.parts.rest.now c.split_part.result.0.now c.split_part.result.1.now (sum_of nothing (parts c.args.first c.args.word.now)) c.in-Some-Constant.n
    c.parts.invariant.same (c.split_part.ensures.exact c.parts.minus) (sym c.in-Some-Constant.ensures.exact ∙ ap Some c.in-Some-Constant.field-0-is)

pub returns-then-not-branch : goal.returns-then-not-branch
returns-then-not-branch c =
    no_name_here c.parts.sum c.parts.minus c.parts.rest.now c.split_part.result.0.now c.split_part.result.1.now (sum_of nothing (parts c.args.first c.args.word.now)) c.in-Some-Monomial.n c.in-Some-Monomial.x
    c.parts.invariant.same (c.split_part.ensures.exact c.parts.minus) (sym c.in-Some-Monomial.ensures.exact ∙ ap Some c.in-Some-Monomial.field-0-is)
    (c.in_ok-push-in-Some-Monomial.ensures.exact ∙ ap (λ b. cond b (Some c.push.new.self) None) c.if-not-branch.true)

pub returns-in_default : goal.returns-in_default
returns-in_default c =
    last_name_here c.parts.sum c.push.new.self c.parts.minus c.parts.rest.now c.split_part.result.0.now c.split_part.result.1.now (sum_of nothing (parts c.args.first c.args.word.now)) c.in-Some-Monomial.n c.in-Some-Monomial.x
    c.parts.invariant.same (c.split_part.ensures.exact c.parts.minus) (sym c.in-Some-Monomial.ensures.exact ∙ ap Some c.in-Some-Monomial.field-0-is)
    (c.in_ok-push-in-Some-Monomial.ensures.exact ∙ ap (λ b. cond b (Some c.push.new.self) None) c.if-not-branch.false) c.in_default.ensures.cases

pub parts-preserved : goal.parts-preserved
parts-preserved c = record {
  same = name_here c.parts.sum c.push.new.self c.parts.minus _ c.parts.rest.now c.split_part.result.0.now c.split_part.result.1.now (sum_of nothing (parts c.args.first c.args.word.now)) c.in-Some-Monomial.n c.in-Some-Monomial.x
      c.in-Some.sign.now c.in-Some.more.now
      c.parts.invariant.same (c.split_part.ensures.exact c.parts.minus) (sym c.in-Some-Monomial.ensures.exact ∙ ap Some c.in-Some-Monomial.field-0-is)
      (c.in_ok-push-in-Some-Monomial.ensures.exact ∙ ap (λ b. cond b (Some c.push.new.self) None) c.if-not-branch.false) (search rules) (search rules);
  rising = c.push.ensures.rising;
}
