use Rattle.std.proofs.Common.{◌≡◌, sym, subst, rules, ap, ◌∙◌, arith, take_all, length, ◌<◌}
use Rattle.std.specs.Option.{IfSome}
use Rattle.pri_typing.specs.Sites.{last_place}
use Rattle.pri_typing.proofs.Scopes.{last_place-more, last_place-within}
use Rattle.pri_typing.proofs.scope.last_place_of.Goals as goal

pub loop-i-preserved : goal.loop-i-preserved
loop-i-preserved c = search (rules, last_place-more)

pub returns-clause-within : goal.returns-clause-within
returns-clause-within c =
    let found : c.loop-i.found ≡ last_place c.args.text.now c.args.names.now = c.loop-i.invariant ∙ ap (last_place c.args.text.now) (take_all c.loop-i.i c.args.names.now (omega arith)) in
    subst (λ r. IfSome r (λ i. i < length c.args.names.now)) (sym found) (last_place-within c.args.text.now c.args.names.now)
