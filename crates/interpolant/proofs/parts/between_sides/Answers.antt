use Rattle.std.proofs.Common.{arith, ◌≡◌}
use Rattle.std.proofs.lemmas.Grind.{common_steps}
use Rattle.itp_sides.specs.Sides.{first_sets, other_sets}
use Rattle.interpolant.proofs.Answering.{AreStrongest, Stand, with_sets}
use Rattle.interpolant.proofs.parts.between_sides.Goals as goal

pub returns-clause-between : goal.returns-clause-between
returns-clause-between c =
    let before : c.as_slice.result.now ≡ first_sets c.args.cut.now c.args.at = grind (arith, common_steps, c.as_slice.ensures.value, c.in_ok-before.ensures.whole, c.as_slice-sets.ensures) in
    let behind : c.as_slice-2.result.now ≡ other_sets c.args.cut.now c.args.at = grind (arith, common_steps, c.as_slice-2.ensures.value, c.in_ok-behind.ensures.whole, c.as_slice-sets.ensures) in
    with_sets (Stand c.args.p.now c.between_parts.result) _ _ _ _ before behind c.between_parts.ensures.between

pub returns-clause-strongest : goal.returns-clause-strongest
returns-clause-strongest c =
    let before : c.as_slice.result.now ≡ first_sets c.args.cut.now c.args.at = grind (arith, common_steps, c.as_slice.ensures.value, c.in_ok-before.ensures.whole, c.as_slice-sets.ensures) in
    let behind : c.as_slice-2.result.now ≡ other_sets c.args.cut.now c.args.at = grind (arith, common_steps, c.as_slice-2.ensures.value, c.in_ok-behind.ensures.whole, c.as_slice-sets.ensures) in
    with_sets (AreStrongest c.args.p.now c.between_parts.result) _ _ _ _ before behind c.between_parts.ensures.strongest
