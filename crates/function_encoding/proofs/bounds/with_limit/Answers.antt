use Rattle.std.proofs.Common.{◌++◌, ◌∷◌, [], map, ap, refl, ◌∙◌}
use Rattle.base_budget.specs.Trace.{just}
use Rattle.formula.specs.Tree.{form}
use Rattle.formula.proofs.Making.{made_ok, made_err, made_just, made_memory, pushed}
use Rattle.function_encoding.proofs.bounds.with_limit.Goals as goal

pub returns-in_err-atom : goal.returns-in_err-atom
returns-in_err-atom c = made_err form (λ hs. map form hs) _ (λ h. just (map form c.args.out ++ h ∷ [])) _ c.from_residual.ensures.1 c.in_err-atom.ensures

pub returns-in_err-push : goal.returns-in_err-push
returns-in_err-push c = made_memory (λ hs. map form hs) _ c.from_residual-in_err-push.ensures.1

pub returns : goal.returns
returns c =
    made_ok form (λ hs. map form hs) _ (λ h. just (map form c.args.out ++ h ∷ [])) c.in_ok-atom.ensures
    (made_just (λ hs. map form hs) _ _ (ap (map form) c.in_ok-push.ensures.ok ∙ pushed c.args.out _ _ refl))
