use Rattle.std.proofs.Common.{◌++◌, sym, ◌∙◌, ap, subst}
use Rattle.std.specs.Prelude.{All}
use Rattle.clause_set.specs.Literals.{HasDivisor}
use Rattle.clause_set.specs.Clauses.{clause_of}
use Rattle.clause_set.proofs.Merging.{both_divisors}
use Rattle.clause_set.proofs.clause.Clause.of_both.Goals as goal

pub know_literals-requires : goal.know_literals-requires
know_literals-requires c =
    subst (All HasDivisor) (sym c.as_slice.ensures)
    (both_divisors c.args.c.now c.args.d.now _ c.know_clause.ensures c.know_clause-2.ensures
    (sym c.in-Some.is ∙ c.in_ok-literals.ensures ∙ ap (λ z. clause_of (z ++ c.literals-2.result.now)) c.literals.ensures ∙ ap (λ z. clause_of (c.args.c.now ++ z)) c.literals-2.ensures))
