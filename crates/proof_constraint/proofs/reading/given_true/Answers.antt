use Rattle.std.proofs.Common.{rules, ◌≡◌, ◌++◌, List, ℕ, Option, None, MatchOption, codes, subst, sym, ◌∙◌, ap}
use Rattle.std.specs.Borrow.{Bor}
use Rattle.proof_constraint.proofs.Gives.{true_cut}
use Rattle.proof_constraint.proofs.reading.given_true.Goals as goal

pub returns-in_err-rest-clause-bytes : goal.returns-in_err-rest-clause-bytes
returns-in_err-rest-clause-bytes c =
    let front : c.as_slice.result.now ≡ codes "gives true\n" = search rules in
    let none : c.from_residual.result ≡ None = search rules in
    subst (λ (o : Option (Bor (List ℕ))). MatchOption o ((rest : List ℕ) → c.args.text.now ≡ codes "gives true\n" ++ rest → ⊥) (λ rest. c.args.text.now ≡ codes "gives true\n" ++ rest.now))
    (sym none) (λ rest e. c.in_err-rest.ensures rest (e ∙ sym (ap (λ z. z ++ rest) front)))

pub returns-clause-tokens : goal.returns-clause-tokens
returns-clause-tokens c = true_cut c.args.text.now c.as_slice.result.now c.in_ok-rest.rest.now (search rules) c.in_ok-rest.ensures
