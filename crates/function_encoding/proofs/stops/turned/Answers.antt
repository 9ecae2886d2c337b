use Rattle.std.proofs.Common.{cond, Ok, reverse, refl, sym, subst}
use Rattle.base_budget.specs.Trace.{just}
use Rattle.formula.specs.Made.{Made}
use Rattle.formula.proofs.Making.{made_just}
use Rattle.function_encoding.specs.Actions.{negated}
use Rattle.function_encoding.proofs.stops.turned.Goals as goal

pub returns : goal.returns
returns c =
    subst (λ z. Made (λ ws. reverse ws) (cond z (negated (reverse c.args.stack)) (just (reverse c.args.stack))) (Ok c.args.stack)) (sym c.if-negate.false) (made_just (λ ws. reverse ws) (reverse c.args.stack) c.args.stack refl)
