use Rattle.std.proofs.Common.{◌≡◌, [], arith}
use Rattle.std.proofs.lemmas.Grind.{common_steps}
use Rattle.smt_models.proofs.Printing.{place_end}
use Rattle.smt_models.proofs.terms.put_place.Goals as goal

pub returns : goal.returns
returns c =
    let some : ¬ (c.in-Some.more.now ≡ []) = λ e. absurd (grind (arith, common_steps, e, c.if-is_empty.false, c.is_empty.ensures)) in
    place_end _ _ _ _ c.args.at.now c.in-Some.more.now c.in-Some.first.now c.in-Some.ensures.cases.0 some c.in_ok-extend_from_slice.ensures.items c.in_ok-put_equations.ensures c.in_ok-extend_from_slice-2.ensures.items
