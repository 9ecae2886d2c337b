use Rattle.std.proofs.Common.{◌≡◌, ◌+◌, ◌-◌, ◌∙◌, suc, ap, arith}
use Rattle.smt_sizes.specs.Weight.{plus, times}
use Rattle.smt_sizes.specs.Linear.{Sum, sum, value}
use Rattle.smt_sizes.specs.Shapes.{raised}
use Rattle.smt_sizes.proofs.Names.{and-value}
use Rattle.smt_sizes.proofs.Adding.{raised-more}
use Rattle.smt_sizes.proofs.walking.raise.Goals as goal

pub loop-i-preserved : goal.loop-i-preserved
loop-i-preserved c = (
  ap (λ (s : Sum). s.uses) c.and-out.ensures ∙ c.loop-i.invariant.0,
  λ a xs.
      let m = c.args.count - (c.loop-i.i + 1) in
      let is : suc m ≡ c.args.count - c.loop-i.i = omega arith in
      let v = value (sum c.loop-i.out) xs in
      let h = c.loop-i.here in
      ap (λ z. plus (value z xs) (times c.times-here.result (raised m a))) c.and-out.ensures
      ∙ ap (λ z. plus z (times c.times-here.result (raised m a))) (and-value c.times-here.result (sum c.loop-i.out) xs)
      ∙ ap (λ z. plus (plus v z) (times z (raised m a))) c.times-here.ensures ∙ raised-more h (raised m a) v ∙ ap (λ k. plus v (times h (raised k a))) is
      ∙ c.loop-i.invariant.1 a xs,
)
