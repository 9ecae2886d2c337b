use Rattle.std.proofs.Common.{rules, ◌∙◌, ◌++◌, ◌∷◌, [], ap, to_z-of_z}
use mir.Syntax.{w128}
use mir.Val.{SFits}
use Rattle.model_formulas.proofs.placing.with_value.Goals as goal

pub returns : goal.returns
returns c =
    let f : SFits w128 c.args.guard.now.value = search rules in
    c.in_ok-r.ensures ∙ ap (λ z. c.args.ts.now ++ z ∷ []) (simp to_z-of_z at c.in_ok-value.ensures)
