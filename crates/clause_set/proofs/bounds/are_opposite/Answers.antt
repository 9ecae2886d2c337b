use Rattle.std.proofs.Common.{◌≡◌, neg_ℤ, rules, sym, ◌∙◌}
use Rattle.clause_set.proofs.Opposites.{opposite_front, range_rest}
use Rattle.clause_set.proofs.bounds.are_opposite.Goals as goal

pub loop-x-preserved : goal.loop-x-preserved
loop-x-preserved c =
    let both : (c.in-Some.x.now.0 ≡ c.in-Some-split_first.y.now.0) × (c.in-Some.x.now.1 ≡ neg_ℤ c.in-Some-split_first.y.now.1) = search rules in
    record {
      same =
          sym (opposite_front c.loop-x.p.now c.loop-x.q.now c.in-Some.p_rest.now c.in-Some-split_first.q_rest.now c.in-Some.x.now c.in-Some-split_first.y.now
          c.in-Some.ensures.cases.0 c.in-Some-split_first.ensures.cases.0 both.0 both.1) ∙ c.loop-x.invariant.same;
      range = range_rest c.loop-x.q.now c.in-Some-split_first.q_rest.now c.in-Some-split_first.y.now c.in-Some-split_first.ensures.cases.0 c.loop-x.invariant.range;
    }
