use Rattle.std.proofs.Common.{rules, ◌<◌, ◌^◌, ◌∷◌, [], cond, subst, sym, arith}
use Rattle.proof_tokens.specs.Reading.{Cuts}
use Rattle.proof_tokens.specs.declared.tokens.Token.TheVariants as t
use Rattle.proof_constraint.specs.Behind as b
use Rattle.proof_constraint.specs.State as s
use Rattle.proof_constraint.specs.Places.{state_of}
use Rattle.proof_constraint.specs.Steps.{ReachesState}
use Rattle.proof_constraint.proofs.Skimming.{constant_reaches, ok_more, reaches_more}
use Rattle.proof_constraint.proofs.phrases.behind_sum.Goals as goal

pub related-requires : goal.related-requires
related-requires c = record { in_range = c.in_ok-rest.ensures.open }

pub returns-in-Some-clause-exact : goal.returns-in-Some-clause-exact
returns-in-Some-clause-exact c =
    let is = c.from.ensures in
    let small : c.in-Some.n < 2 ^ 32 = search rules in
    reaches_more (s.Behind (b.Sum c.args.draft.now)) (s.Behind (b.Sum c.take_names.new.draft)) (s.Behind (b.Number c.take_names.new.draft c.in-Some.minus c.from.result)) c.args.text.now c.in_ok-rest.rest.now c.in-Some.behind.now
    c.in_ok-rest.ensures.exact
    (constant_reaches c.take_names.new.draft c.in-Some.minus c.from.result c.in_ok-rest.rest.now c.in-Some.behind.now (omega (arith, is, c.in-Some.ensures.some)) (omega (arith, is, small))
    (subst (λ k. Cuts (t.Blank ∷ cond c.in-Some.minus t.Minus t.Plus ∷ t.Blank ∷ t.Number k ∷ []) c.in_ok-rest.rest.now c.in-Some.behind.now) (sym is) c.in-Some.ensures.exact))

pub returns-in-None-clause-exact : goal.returns-in-None-clause-exact
returns-in-None-clause-exact c =
    ok_more (λ x. ReachesState (s.Behind (b.Sum c.take_names.new.draft)) (state_of x.0 c.related.new.draft) c.in_ok-rest.rest.now x.1.now) (λ x. ReachesState (s.Behind (b.Sum c.args.draft.now)) (state_of x.0 c.related.new.draft) c.args.text.now x.1.now)
    c.related.result
    (λ x h. reaches_more (s.Behind (b.Sum c.args.draft.now)) (s.Behind (b.Sum c.take_names.new.draft)) (state_of x.0 c.related.new.draft) c.args.text.now c.in_ok-rest.rest.now x.1.now c.in_ok-rest.ensures.exact h)
    c.related.ensures.exact
