use Rattle.std.proofs.Common.{sym, ◌∙◌}
use Rattle.job_least.proofs.Limits.{shallow}
use Rattle.job_least.proofs.Objectives.{a_term, no_term, not_plain, read_so}
use Rattle.job_least.proofs.objective.objective.Goals as goal

pub resolve_term-requires-clause-shallow : goal.resolve_term-requires-clause-shallow
resolve_term-requires-clause-shallow c = shallow c.args.text.now c.in-Some.expr (read_so c.args.text.now _ c.in-Some.expr c.in_ok-expr.ensures c.in-Some.is)

pub returns-in_default-2 : goal.returns-in_default-2
returns-in_default-2 c =
    no_term c.args.problem.now c.args.text.now c.in-Some.expr c.as_slice.result.now c.in_ok-term.field-0 (read_so c.args.text.now _ c.in-Some.expr c.in_ok-expr.ensures c.in-Some.is) c.as_slice.ensures c.in_default-2.is c.in_ok-term.ensures

pub returns-then-is_plain : goal.returns-then-is_plain
returns-then-is_plain c =
    a_term c.args.problem.now c.args.text.now c.in-Some.expr c.as_slice.result.now c.in_ok-term.field-0 c.in-Some-2.term (read_so c.args.text.now _ c.in-Some.expr c.in_ok-expr.ensures c.in-Some.is) c.as_slice.ensures c.in-Some-2.is c.in_ok-term.ensures
    (sym c.is_plain.ensures ∙ c.if-is_plain.true)

pub returns : goal.returns
returns c =
    not_plain c.args.problem.now c.args.text.now c.in-Some.expr c.as_slice.result.now c.in_ok-term.field-0 c.in-Some-2.term (read_so c.args.text.now _ c.in-Some.expr c.in_ok-expr.ensures c.in-Some.is) c.as_slice.ensures c.in-Some-2.is c.in_ok-term.ensures
    (sym c.is_plain.ensures ∙ c.if-is_plain.false)
