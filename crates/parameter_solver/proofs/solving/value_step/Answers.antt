use Rattle.std.proofs.Common.{rules, refl, sym, subst, to_z-of_z}
use Rattle.std.specs.Prelude.{All}
use mir.Syntax.{w128}
use mir.Val.{SFits}
use Rattle.base_budget.specs.Trace.{new_log}
use Rattle.base_budget.proofs.Following.{follow_ok, follow_err, follow_just, follow_unnoted, follow_note, followed_value}
use Rattle.parameter_solver.specs.Names.{IsOfName}
use Rattle.parameter_solver.proofs.Spanning.{from_next, left_names}
use Rattle.parameter_solver.proofs.solving.value_step.Goals as goal

pub returns-in_err-left : goal.returns-in_err-left
returns-in_err-left c =
    follow_note new_log _ c.new.ensures (follow_err _ _ c.from_residual.result c.from_residual.ensures.1 (from_next c.args.k c.args.j c.args.d.now _ _ _ c.in_err-left.ensures))

pub chosen-requires : goal.chosen-requires
chosen-requires c =
    subst (All (IsOfName c.args.j)) (sym c.clauses.ensures)
    (left_names c.args.j c.args.k c.args.d.now c.in_ok-left.left c.requires.over (followed_value (from_next c.args.k c.args.j c.args.d.now _ _ _ c.in_ok-left.ensures)))

pub returns-in_err-v : goal.returns-in_err-v
returns-in_err-v c =
    follow_note new_log _ c.new.ensures (follow_ok _ _ (from_next c.args.k c.args.j c.args.d.now _ _ _ c.in_ok-left.ensures)
    (follow_err _ _ c.from_residual-in_err-v.result c.from_residual-in_err-v.ensures.1 (follow_unnoted _ (rw c.clauses.ensures at c.in_err-v.ensures.charged))))

pub returns-in_err-rest : goal.returns-in_err-rest
returns-in_err-rest c =
    let v : SFits w128 c.in_ok-v.v = search rules in
    follow_note new_log _ c.new.ensures (follow_ok _ _ (from_next c.args.k c.args.j c.args.d.now _ _ _ c.in_ok-left.ensures)
    (follow_ok _ _ (follow_unnoted _ (rw c.clauses.ensures at c.in_ok-v.ensures.charged))
    (follow_err _ _ c.from_residual-in_err-rest.result c.from_residual-in_err-rest.ensures.1 (follow_unnoted _ (rw c.clauses-2.ensures at (simp to_z-of_z at c.in_err-rest.ensures))))))

pub returns : goal.returns
returns c =
    let v : SFits w128 c.in_ok-v.v = search rules in
    simp to_z-of_z
    (follow_note new_log _ c.new.ensures (follow_ok _ _ (from_next c.args.k c.args.j c.args.d.now _ _ _ c.in_ok-left.ensures)
    (follow_ok _ _ (follow_unnoted _ (rw c.clauses.ensures at c.in_ok-v.ensures.charged))
    (follow_ok _ _ (follow_unnoted _ (rw c.clauses-2.ensures at (simp to_z-of_z at c.in_ok-rest.ensures)))
    (follow_just (c.in_ok-v.v, c.in_ok-rest.rest) (c.in_ok-v.v, c.in_ok-rest.rest) refl)))))
