use Rattle.std.proofs.Common.{◌≡◌, ◌∷◌, [], List, length, map, refl, subst, arith, rules}
use Rattle.smt_reader.specs.declared.effects.Effect.{Effect}
use Rattle.smt_reader.specs.Effects.{command_is}
use Rattle.smt_reader.specs.Taking.{IsReplayed}
use Rattle.smt_reader.proofs.Replaying.{replayed_all, replayed_on}
use Rattle.smt_reader.proofs.following.follow_all.Goals as goal

pub loop-effect-preserved : goal.loop-effect-preserved
loop-effect-preserved c =
    let parts : c.loop-effect.rest.now ≡ c.in-Some.effect.now ∷ c.in-Some.behind.now = search rules in
    replayed_on c.loop-effect.reading c.in_ok-reading.reading (command_is c.in-Some.effect.now) (map command_is c.in-Some.behind.now) (map command_is c.args.effects.now)
    (subst (λ z. IsReplayed c.loop-effect.reading (map command_is z) (map command_is c.args.effects.now)) parts c.loop-effect.invariant)
    c.in_ok-reading.ensures.follows c.in_ok-reading.ensures.texts

empty : (xs : List Effect) → length xs ≡ 0 → xs ≡ []
empty [] h = refl
empty (x ∷ xs) h = absurd (omega (arith, h))

pub returns : goal.returns
returns c =
    let none : c.loop-effect.rest.now ≡ [] = empty c.loop-effect.rest.now c.in_default.ensures.cases in
    replayed_all c.loop-effect.reading (map command_is c.args.effects.now)
    (subst (λ z. IsReplayed c.loop-effect.reading (map command_is z) (map command_is c.args.effects.now)) none c.loop-effect.invariant)
