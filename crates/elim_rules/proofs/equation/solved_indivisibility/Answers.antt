use Rattle.std.proofs.Common.{rules, [], ◌∷◌, ◌∙◌, ap, to_z-of_z}
use mir.Syntax.{w128}
use mir.Val.{SFits}
use Rattle.clause_set.specs.declared.literal.Literal.TheVariants.{NDiv}
use Rattle.base_budget.proofs.Charging.{work_ok, work_err, work_just}
use Rattle.elim_rules.proofs.equation.solved_indivisibility.Goals as goal

pub returns-in_err-k-clause-work : goal.returns-in_err-k-clause-work
returns-in_err-k-clause-work c =
    let d : SFits w128 c.args.d = c.ranges.d in
    work_err _ _ c.from_residual.result c.from_residual.ensures.1 (simp to_z-of_z at c.in_err-k.ensures.leaves)

pub returns-in_err-t-clause-work : goal.returns-in_err-t-clause-work
returns-in_err-t-clause-work c =
    let d : SFits w128 c.args.d = c.ranges.d in
    work_ok _ _ (simp to_z-of_z at c.in_ok-k.ensures.stays) (work_err _ _ c.from_residual-in_err-t.result c.from_residual-in_err-t.ensures.1 c.in_err-t.ensures)

pub returns-clause-work : goal.returns-clause-work
returns-clause-work c =
    let d : SFits w128 c.args.d = c.ranges.d in
    let k : SFits w128 c.in_ok-k.k = search rules in
    work_ok _ _ (simp to_z-of_z at c.in_ok-k.ensures.stays)
    (work_ok _ _ c.in_ok-t.ensures (work_just _ _ ((simp to_z-of_z at c.in_ok-alone.ensures) ∙ ap (λ z. NDiv z c.in_ok-t.t ∷ []) (simp to_z-of_z at c.in_ok-k.ensures.exact))))
