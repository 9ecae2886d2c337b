use Rattle.std.proofs.Common.{rules, ◌≡◌, true, false, neg_ℤ, ◌∙◌, ap, sym, subst, to_z-of_z}
use mir.Syntax.{w128}
use mir.Val.{SFits}
use Rattle.std.specs.Prelude.{All}
use Rattle.linear_term.specs.Range.{InRange}
use Rattle.clause_set.specs.Clauses.{same_pairs}
use Rattle.clause_set.specs.Normal.{negated}
use Rattle.clause_set.specs.Table.{bound_at}
use Rattle.clause_set.proofs.Tables.{first-bound, equation-same, equation-apart}
use Rattle.clause_set.proofs.Terms.{in_range-coefficients, normal-negated}
use Rattle.clause_set.proofs.table.put_equation.Goals as goal

pub returns-then-same : goal.returns-then-same
returns-then-same c = λ q.
    let fits : SFits w128 c.constant.result = search rules in
    let s : same_pairs c.args.t.now.pairs (negated c.args.t.now.pairs) ≡ true = search rules in
    equation-same (bound_at c.args.table.now q) _ c.args.t.now.pairs q c.args.t.now.constant (neg_ℤ c.args.t.now.constant) s
    (first-bound (bound_at c.args.table.now q) _ c.args.t.now.pairs _ q c.args.t.now.constant _ c.pairs-3.ensures (to_z-of_z fits ∙ c.constant.ensures.exact) (c.in_ok-put_bound.ensures q))

pub returns : goal.returns
returns c = λ q.
    let fits : SFits w128 c.constant.result = search rules in
    let fits_2 : SFits w128 c.constant-2.result = search rules in
    let fits_3 : SFits w128 c.opposite_of.result = search rules in
    let s : same_pairs c.args.t.now.pairs (negated c.args.t.now.pairs) ≡ false = search rules in
    equation-apart (bound_at c.args.table.now q) _ _ c.args.t.now.pairs q c.args.t.now.constant (neg_ℤ c.args.t.now.constant) s
    (first-bound (bound_at c.args.table.now q) _ c.args.t.now.pairs _ q c.args.t.now.constant _ c.pairs-3.ensures (to_z-of_z fits ∙ c.constant.ensures.exact) (c.in_ok-put_bound.ensures q))
    (first-bound (bound_at c.put_bound.new.table q) _ (negated c.args.t.now.pairs) _ q (neg_ℤ c.args.t.now.constant) _ (c.as_slice-2.ensures.value ∙ c.in_ok-opposite.ensures ∙ ap negated c.pairs.ensures)
    (to_z-of_z fits_3 ∙ c.opposite_of.ensures ∙ ap neg_ℤ (to_z-of_z fits_2 ∙ c.constant-2.ensures.exact)) (c.in_ok-put_bound-2.ensures q))

pub put_bound-requires-2 : goal.put_bound-requires-2
put_bound-requires-2 c =
    subst (All (λ r. InRange r.1)) (sym (c.as_slice-2.ensures.value ∙ c.in_ok-opposite.ensures ∙ ap negated c.pairs.ensures))
    (in_range-coefficients _ (normal-negated c.args.t.now c.know_normal.ensures))
