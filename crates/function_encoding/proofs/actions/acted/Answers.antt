use Rattle.std.proofs.Common.{◌≡◌, List, ◌∷◌, reverse, refl, sym, ap, subst, ◌∙◌, rules, Result, to_z-of_z, ℕ}
use mir.Syntax.{w128}
use mir.Val.{SFits}
use Rattle.linear_term.specs.Linear.{Linear}
use Rattle.linear_term.specs.declared.range.TermFault.{TermFault}
use Rattle.formula.specs.Made.{Made}
use Rattle.formula.proofs.Making.{made_just, made_memory}
use Rattle.function_encoding.specs.Actions.{acted}
use Rattle.function_encoding.specs.Instructions.{action_of}
use Rattle.function_encoding.specs.declared.instruction.Instruction.{Instruction}
use Rattle.function_encoding.proofs.actions.acted.Goals as goal

same : (at : List ℕ) (i j : Instruction) (vs : List Linear) (r : Result (List Linear) TermFault) → i ≡ j → Made (λ ws. reverse ws) (acted at (action_of j) vs) r → Made (λ ws. reverse ws) (acted at (action_of i) vs) r
same at i j vs r is h = subst (λ z. Made (λ ws. reverse ws) (acted at (action_of z) vs) r) (sym is) h

pub returns-in_err-with_last-in-Number : goal.returns-in_err-with_last-in-Number
returns-in_err-with_last-in-Number c = made_memory (λ ws. reverse ws) _ c.from_residual.ensures.1

pub returns-in_err-with_last-in-Name : goal.returns-in_err-with_last-in-Name
returns-in_err-with_last-in-Name c = made_memory (λ ws. reverse ws) _ c.from_residual-in_err-with_last-in-Name.ensures.1

pub returns-in_ok-with_last-in-Number : goal.returns-in_ok-with_last-in-Number
returns-in_ok-with_last-in-Number c =
    let f : SFits w128 c.in-Number.v = search rules in
    same _ _ _ _ _ c.in-Number.is (made_just (λ ws. reverse ws) _ _ (c.in_ok-with_last-in-Number.ensures ∙ ap (λ z. z ∷ reverse c.args.stack) (simp to_z-of_z at c.number.ensures)))

pub returns-in_ok-with_last-in-Name : goal.returns-in_ok-with_last-in-Name
returns-in_ok-with_last-in-Name c =
    same _ _ _ _ _ c.in-Name.is (made_just (λ ws. reverse ws) _ _ (c.in_ok-with_last-in-Name.ensures ∙ ap (λ z. z ∷ reverse c.args.stack) c.named.ensures))

pub returns-in-Call : goal.returns-in-Call
returns-in-Call c = same _ _ _ _ _ c.in-Call.is (made_just (λ ws. reverse ws) _ _ refl)

pub returns-in-Choose : goal.returns-in-Choose
returns-in-Choose c = same _ _ _ _ _ c.in-Choose.is (made_just (λ ws. reverse ws) _ _ refl)

pub returns-in-Absolute : goal.returns-in-Absolute
returns-in-Absolute c = same _ _ _ _ _ c.in-Absolute.is (made_just (λ ws. reverse ws) _ _ refl)

pub returns-in-Extreme : goal.returns-in-Extreme
returns-in-Extreme c = same _ _ _ _ _ c.in-Extreme.is (made_just (λ ws. reverse ws) _ _ refl)

pub returns-in-Relate : goal.returns-in-Relate
returns-in-Relate c = same _ _ _ _ _ c.in-Relate.is (made_just (λ ws. reverse ws) _ _ refl)

pub returns-in-Predicate : goal.returns-in-Predicate
returns-in-Predicate c = same _ _ _ _ _ c.in-Predicate.is (made_just (λ ws. reverse ws) _ _ refl)
