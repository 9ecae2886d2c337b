use Rattle.std.proofs.Common.{sym, ◌∙◌, ap, subst}
use Rattle.std.specs.Prelude.{All}
use Rattle.clause_set.specs.Literals.{HasDivisor, IsLiteral}
use Rattle.clause_set.specs.Clauses.{clause_of}
use Rattle.clause_set.proofs.ClauseTruth.{clause_answer}
use Rattle.clause_set.proofs.Divisors.{clause-divisors}
use Rattle.clause_set.proofs.clause.Clause.of.Goals as goal

pub returns-in_default-clause-truth : goal.returns-in_default-clause-truth
returns-in_default-clause-truth c =
    clause_answer c.args.ls _ (subst (All IsLiteral) c.as_slice.ensures c.know_literals.ensures.literals)
    (sym c.in_default.is ∙ c.in_ok-literals.ensures ∙ ap clause_of c.as_slice-2.ensures)

pub returns-clause-truth : goal.returns-clause-truth
returns-clause-truth c =
    clause_answer c.args.ls _ (subst (All IsLiteral) c.as_slice.ensures c.know_literals.ensures.literals)
    (sym c.in-Some.is ∙ c.in_ok-literals.ensures ∙ ap clause_of c.as_slice-2.ensures)

pub know_literals-requires-2 : goal.know_literals-requires-2
know_literals-requires-2 c =
    subst (All HasDivisor) (sym c.as_slice-3.ensures)
    (clause-divisors c.args.ls _ c.requires
    (sym (sym c.in-Some.is ∙ c.in_ok-literals.ensures ∙ ap clause_of c.as_slice-2.ensures)))
