use Rattle.std.proofs.Common.{ap, refl, ◌∙◌}
use Rattle.pri_typing.specs.Problems.{assumed_by}
use Rattle.itp_sides.specs.Closing.{strongest_formula, weakest_formula}
use Rattle.itp_sides.specs.Sides.{cut_of, first_sets, other_sets}
use Rattle.pred_interpolant.specs.Made.{run, uninterpolated}
use Rattle.pred_interpolant.specs.Marks.{case_chosen}
use Rattle.pred_interpolant.proofs.Standing.{arithmetic_found, case_is, first_found, first_work, missed, plain_first, second_found, second_work, side_fit}
use Rattle.pred_interpolant.proofs.making.find.Goals as goal

pub choose-requires-clause-first : goal.choose-requires-clause-first
choose-requires-clause-first c = side_fit c.args.p.now (first_sets (cut_of c.args.p.now c.args.cut) c.args.at) c.args.sides.now.first c.requires.formed c.requires.sides.first

pub choose-requires-clause-second : goal.choose-requires-clause-second
choose-requires-clause-second c = side_fit c.args.p.now (other_sets (cut_of c.args.p.now c.args.cut) c.args.at) c.args.sides.now.second c.requires.formed c.requires.sides.second

pub between_at-requires-clause-plain : goal.between_at-requires-clause-plain
between_at-requires-clause-plain c =
    plain_first c.args.p.now c.args.cut c.args.at (case_is c.args.p.now c.args.cut c.args.at c.args.sides.now _ _ c.requires.sides c.in_ok-choose.ensures (ap case_chosen c.in-Arithmetic.is))

pub returns-in_err-i-in-Arithmetic-clause-work : goal.returns-in_err-i-in-Arithmetic-clause-work
returns-in_err-i-in-Arithmetic-clause-work c =
    missed c.args.p.now c.args.cut c.args.at _ _ (uninterpolated _) _ c.from_residual-in_err-i-in-Arithmetic.ensures.1
    (run _ (case_is c.args.p.now c.args.cut c.args.at c.args.sides.now _ _ c.requires.sides c.in_ok-choose.ensures (ap case_chosen c.in-Arithmetic.is)) c.in_err-i-in-Arithmetic.ensures.work refl)

pub returns-in_ok-i-in-Arithmetic-clause-found : goal.returns-in_ok-i-in-Arithmetic-clause-found
returns-in_ok-i-in-Arithmetic-clause-found c =
    arithmetic_found c.args.p.now c.args.cut c.args.at c.in_ok-i-in-Arithmetic.i.formula
    (case_is c.args.p.now c.args.cut c.args.at c.args.sides.now _ _ c.requires.sides c.in_ok-choose.ensures (ap case_chosen c.in-Arithmetic.is))
    c.in_ok-i-in-Arithmetic.ensures.between c.in_ok-i-in-Arithmetic.ensures.strongest

pub returns-in_ok-f-in-First-clause-work : goal.returns-in_ok-f-in-First-clause-work
returns-in_ok-f-in-First-clause-work c =
    let before = c.deref.ensures.value ∙ c.requires.sides.before in
    let behind = c.deref-in-First.ensures.value ∙ c.requires.sides.behind in
    first_work c.args.p.now c.args.cut c.args.at _ _ c.in_ok-f-in-First.f
    (case_is c.args.p.now c.args.cut c.args.at c.args.sides.now _ _ c.requires.sides c.in_ok-choose.ensures (ap case_chosen c.in-First.is))
    (c.in_ok-f-in-First.ensures ∙ (λ i. strongest_formula c.args.p.now (assumed_by c.args.p.now (before i)) (assumed_by c.args.p.now (behind i)))) refl

pub returns-in_ok-f-in-First-clause-found : goal.returns-in_ok-f-in-First-clause-found
returns-in_ok-f-in-First-clause-found c =
    let before = c.deref.ensures.value ∙ c.requires.sides.before in
    let behind = c.deref-in-First.ensures.value ∙ c.requires.sides.behind in
    first_found c.args.p.now c.args.cut c.args.at c.in_ok-f-in-First.f c.requires.formed
    (case_is c.args.p.now c.args.cut c.args.at c.args.sides.now _ _ c.requires.sides c.in_ok-choose.ensures (ap case_chosen c.in-First.is))
    (c.in_ok-f-in-First.ensures ∙ (λ i. strongest_formula c.args.p.now (assumed_by c.args.p.now (before i)) (assumed_by c.args.p.now (behind i))))

pub returns-in_ok-f-in-Second-clause-work : goal.returns-in_ok-f-in-Second-clause-work
returns-in_ok-f-in-Second-clause-work c =
    let before = c.deref-in-Second.ensures.value ∙ c.requires.sides.before in
    let behind = c.deref-in-Second-2.ensures.value ∙ c.requires.sides.behind in
    second_work c.args.p.now c.args.cut c.args.at _ _ c.in_ok-f-in-Second.f
    (case_is c.args.p.now c.args.cut c.args.at c.args.sides.now _ _ c.requires.sides c.in_ok-choose.ensures (ap case_chosen c.in-Second.is))
    (c.in_ok-f-in-Second.ensures ∙ (λ i. weakest_formula c.args.p.now (assumed_by c.args.p.now (before i)) (assumed_by c.args.p.now (behind i)))) refl

pub returns-in_ok-f-in-Second-clause-found : goal.returns-in_ok-f-in-Second-clause-found
returns-in_ok-f-in-Second-clause-found c =
    let before = c.deref-in-Second.ensures.value ∙ c.requires.sides.before in
    let behind = c.deref-in-Second-2.ensures.value ∙ c.requires.sides.behind in
    second_found c.args.p.now c.args.cut c.args.at c.in_ok-f-in-Second.f c.requires.formed
    (case_is c.args.p.now c.args.cut c.args.at c.args.sides.now _ _ c.requires.sides c.in_ok-choose.ensures (ap case_chosen c.in-Second.is))
    (c.in_ok-f-in-Second.ensures ∙ (λ i. weakest_formula c.args.p.now (assumed_by c.args.p.now (before i)) (assumed_by c.args.p.now (behind i))))
