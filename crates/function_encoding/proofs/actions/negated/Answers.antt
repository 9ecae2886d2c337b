use Rattle.std.proofs.Common.{reverse, ap, ◌∷◌, ◌∙◌}
use Rattle.formula.proofs.Making.{made_memory}
use Rattle.function_encoding.proofs.Acting.{negated_err, negated_ok}
use Rattle.function_encoding.proofs.actions.negated.Goals as goal

pub returns-in_err-value : goal.returns-in_err-value
returns-in_err-value c = negated_err (reverse c.args.stack) c.popped-last.result _ _ c.popped-last.ensures.term c.from_residual.ensures.1 c.in_err-value.ensures

pub returns-in_err-with_last : goal.returns-in_err-with_last
returns-in_err-with_last c = made_memory (λ ws. reverse ws) _ c.from_residual-in_err-with_last.ensures.1

pub returns : goal.returns
returns c =
    negated_ok (reverse c.args.stack) _ c.popped-last.result c.in_ok-value.value c.popped-last.ensures.term
    (c.in_ok-with_last.ensures ∙ ap (λ ws. c.in_ok-value.value ∷ ws) c.popped-last.ensures.rest) c.in_ok-value.ensures
