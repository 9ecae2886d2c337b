use Rattle.std.proofs.Common.{◌≡◌, ◌+◌, [], ◌∷◌, length, ◌∙◌, ap}
use Rattle.linear_term.specs.Linear.{Linear}
use Rattle.base_budget.specs.Trace.{capped, just, pay}
use Rattle.base_budget.proofs.Charging.{then_ok, then_just}
use Rattle.clause_set.specs.Clauses.{clauses_of}
use Rattle.clause_set.specs.Literals.{term_of}
use Rattle.elim_laws.proofs.Sides.{one_tidied}
use Rattle.elim_laws.proofs.atoms.of_literal.Goals as goal

pub returns : goal.returns
returns c =
    let n : c.charge.result ≡ capped (1 + length (term_of c.args.l).pairs) = c.charge.ensures ∙ ap (λ (t : Linear). capped (1 + length t.pairs)) c.term.ensures in
    then_ok (pay (1 + length (term_of c.args.l).pairs)) (λ _. just (clauses_of ((c.args.l ∷ []) ∷ []))) (c.in_ok-step.ensures _ n)
    (then_just (clauses_of ((c.args.l ∷ []) ∷ [])) _ (one_tidied _ _ (c.args.l ∷ []) c.in_ok-tidied.ensures.form c.in_ok-clauses.ensures))
