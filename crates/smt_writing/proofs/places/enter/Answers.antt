use Rattle.std.proofs.Common.{arith, refl}
use Rattle.smt_writing.proofs.Reaching.{calls_body, calls_nothing}
use Rattle.smt_writing.proofs.places.enter.Goals as goal

pub returns-then-i-definitions : goal.returns-then-i-definitions
returns-then-i-definitions c = calls_nothing c.args.layers.now.items c.args.k c.args.arguments c.requires.layered c.if-i-definitions.true

pub returns : goal.returns
returns c =
    let kept = c.in_ok-layer.ensures in
    calls_body c.args.layers.now.items c.push.new.layers.items c.args.k c.args.arguments _ kept.layered kept.extends kept.last kept.said kept.height (omega (arith, c.if-i-definitions.false)) refl
    c.index-definitions-i.is
