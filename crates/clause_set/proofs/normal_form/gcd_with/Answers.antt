use Rattle.std.proofs.Common.{◌∙◌, ap, sym, to_z, to_z-of_z, ℕ, ℤ, List, drop}
use mir.Syntax.{w128}
use Rattle.clause_set.specs.Normal.{gcd_with}
use Rattle.clause_set.proofs.Primitive.{gcd_with-one}
use Rattle.clause_set.proofs.normal_form.gcd_with.Goals as goal

pub returns-then-found-eq1-clause-exact : goal.returns-then-found-eq1-clause-exact
returns-then-found-eq1-clause-exact c =
    let rest : List (ℕ × ℤ) = drop c.loop-pair.pair-index c.args.pairs.now in
    sym (gcd_with-one rest) ∙ ap (λ n. gcd_with (to_z w128 n) rest) (sym c.if-found-eq1.true) ∙ c.loop-pair.invariant.exact
    ∙ ap (λ z. gcd_with z c.args.pairs.now) (to_z-of_z c.ranges.g)
