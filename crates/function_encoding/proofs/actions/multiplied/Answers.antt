use Rattle.std.proofs.Common.{reverse, ap, ◌∷◌, ◌∙◌}
use Rattle.formula.proofs.Making.{made_memory}
use Rattle.form_encoding.specs.Encoding.{product_of}
use Rattle.function_encoding.specs.Actions.{top, under}
use Rattle.function_encoding.proofs.Acting.{joined_err, joined_ok}
use Rattle.function_encoding.proofs.actions.multiplied.Goals as goal

pub returns-in_err-value : goal.returns-in_err-value
returns-in_err-value c =
    joined_err (product_of c.args.left) (reverse c.args.stack) c.popped-first.result c.popped-second.result _ _ (c.popped-first.ensures.term ∙ ap top c.popped-second.ensures.rest) c.popped-second.ensures.term
    c.from_residual.ensures.1 c.in_err-value.ensures

pub returns-in_err-with_last : goal.returns-in_err-with_last
returns-in_err-with_last c = made_memory (λ ws. reverse ws) _ c.from_residual-in_err-with_last.ensures.1

pub returns : goal.returns
returns c =
    joined_ok (product_of c.args.left) (reverse c.args.stack) _ c.popped-first.result c.popped-second.result c.in_ok-value.value (c.popped-first.ensures.term ∙ ap top c.popped-second.ensures.rest)
    c.popped-second.ensures.term
    (c.in_ok-with_last.ensures ∙ ap (λ ws. c.in_ok-value.value ∷ ws) (c.popped-first.ensures.rest ∙ ap under c.popped-second.ensures.rest)) c.in_ok-value.ensures
