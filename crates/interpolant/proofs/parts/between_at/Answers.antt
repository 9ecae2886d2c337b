use Rattle.std.proofs.Common.{ap}
use Rattle.itp_sides.specs.Sides.{first_sets, other_sets}
use Rattle.interpolant.proofs.Answering.{AreStrongest, Stand, cut_read, with_sets}
use Rattle.interpolant.proofs.parts.between_at.Goals as goal

pub returns-clause-between : goal.returns-clause-between
returns-clause-between c =
    let cut = cut_read c.args.p.now c.args.cut c.as_slice-cuts.result.now c.index-cuts-cut.result c.as_slice-cuts.ensures c.requires.within c.index-cuts-cut.is in
    with_sets (Stand c.args.p.now c.between_sides.result) _ _ _ _ (ap (λ k. first_sets k c.args.at) cut) (ap (λ k. other_sets k c.args.at) cut) c.between_sides.ensures.between

pub returns-clause-strongest : goal.returns-clause-strongest
returns-clause-strongest c =
    let cut = cut_read c.args.p.now c.args.cut c.as_slice-cuts.result.now c.index-cuts-cut.result c.as_slice-cuts.ensures c.requires.within c.index-cuts-cut.is in
    with_sets (AreStrongest c.args.p.now c.between_sides.result) _ _ _ _ (ap (λ k. first_sets k c.args.at) cut) (ap (λ k. other_sets k c.args.at) cut) c.between_sides.ensures.strongest
