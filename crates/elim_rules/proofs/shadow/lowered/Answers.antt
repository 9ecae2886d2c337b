use Rattle.std.proofs.Common.{◌≡◌, true, pos, ◌-ℤ◌, ◌*ℤ◌, [], ◌∷◌, to_z-of_z}
use mir.Syntax.{w128}
use mir.Val.{SFits}
use Rattle.base_budget.proofs.Charging.{work_err}
use Rattle.linear_term.specs.Range.{all_stay}
use Rattle.clause_set.specs.Names.{product}
use Rattle.elim_rules.proofs.Results.{product_stays, less_one, fits_range, lowered_failed, lowered_done}
use Rattle.elim_rules.proofs.shadow.lowered.Goals as goal

pub returns-in_err-computing : goal.returns-in_err-computing
returns-in_err-computing c =
    let a : SFits w128 c.args.a = c.ranges.a in
    let b : SFits w128 c.args.b = c.ranges.b in
    let m : SFits w128 (c.args.a -ℤ pos 1) = less_one c.args.a c.requires.a_in_range in
    let n : SFits w128 (c.args.b -ℤ pos 1) = less_one c.args.b c.requires.b_in_range in
    work_err _ _ c.from_residual.result c.from_residual.ensures.1 (simp to_z-of_z at c.in_err-computing.ensures.work)

pub overflow_mul-m : goal.overflow_mul-m
overflow_mul-m c =
    let a : SFits w128 c.args.a = c.ranges.a in
    let b : SFits w128 c.args.b = c.ranges.b in
    let m : SFits w128 (c.args.a -ℤ pos 1) = less_one c.args.a c.requires.a_in_range in
    let n : SFits w128 (c.args.b -ℤ pos 1) = less_one c.args.b c.requires.b_in_range in
    let stay : all_stay (product (c.args.a -ℤ pos 1) (c.args.b -ℤ pos 1) ∷ []) ≡ true = simp to_z-of_z at c.in_ok-computing.ensures.stay in
    simp to_z-of_z (fits_range ((c.args.a -ℤ pos 1) *ℤ (c.args.b -ℤ pos 1)) (product_stays (c.args.a -ℤ pos 1) (c.args.b -ℤ pos 1) stay))

pub number-requires : goal.number-requires
number-requires c =
    let a : SFits w128 c.args.a = c.ranges.a in
    let b : SFits w128 c.args.b = c.ranges.b in
    let m : SFits w128 (c.args.a -ℤ pos 1) = less_one c.args.a c.requires.a_in_range in
    let n : SFits w128 (c.args.b -ℤ pos 1) = less_one c.args.b c.requires.b_in_range in
    let stay : all_stay (product (c.args.a -ℤ pos 1) (c.args.b -ℤ pos 1) ∷ []) ≡ true = simp to_z-of_z at c.in_ok-computing.ensures.stay in
    let range = product_stays (c.args.a -ℤ pos 1) (c.args.b -ℤ pos 1) stay in
    let k : SFits w128 ((c.args.a -ℤ pos 1) *ℤ (c.args.b -ℤ pos 1)) = fits_range ((c.args.a -ℤ pos 1) *ℤ (c.args.b -ℤ pos 1)) range in
    simp to_z-of_z range

pub returns-in_err-u : goal.returns-in_err-u
returns-in_err-u c =
    let a : SFits w128 c.args.a = c.ranges.a in
    let b : SFits w128 c.args.b = c.ranges.b in
    let m : SFits w128 (c.args.a -ℤ pos 1) = less_one c.args.a c.requires.a_in_range in
    let n : SFits w128 (c.args.b -ℤ pos 1) = less_one c.args.b c.requires.b_in_range in
    let stay : all_stay (product (c.args.a -ℤ pos 1) (c.args.b -ℤ pos 1) ∷ []) ≡ true = simp to_z-of_z at c.in_ok-computing.ensures.stay in
    let k : SFits w128 ((c.args.a -ℤ pos 1) *ℤ (c.args.b -ℤ pos 1)) = fits_range ((c.args.a -ℤ pos 1) *ℤ (c.args.b -ℤ pos 1)) (product_stays (c.args.a -ℤ pos 1) (c.args.b -ℤ pos 1) stay) in
    lowered_failed c.args.t.now c.args.a c.args.b c.number.result c.in_err-u.field-0.0 c.from_residual-in_err-u.result (simp to_z-of_z at c.in_ok-computing.ensures.work) (simp to_z-of_z at c.number.ensures)
    c.in_err-u.ensures c.from_residual-in_err-u.ensures.1

pub returns : goal.returns
returns c =
    let a : SFits w128 c.args.a = c.ranges.a in
    let b : SFits w128 c.args.b = c.ranges.b in
    let m : SFits w128 (c.args.a -ℤ pos 1) = less_one c.args.a c.requires.a_in_range in
    let n : SFits w128 (c.args.b -ℤ pos 1) = less_one c.args.b c.requires.b_in_range in
    let stay : all_stay (product (c.args.a -ℤ pos 1) (c.args.b -ℤ pos 1) ∷ []) ≡ true = simp to_z-of_z at c.in_ok-computing.ensures.stay in
    let k : SFits w128 ((c.args.a -ℤ pos 1) *ℤ (c.args.b -ℤ pos 1)) = fits_range ((c.args.a -ℤ pos 1) *ℤ (c.args.b -ℤ pos 1)) (product_stays (c.args.a -ℤ pos 1) (c.args.b -ℤ pos 1) stay) in
    lowered_done c.args.t.now c.args.a c.args.b c.number.result c.in_ok-u.u c.in_ok-alone.field-0 (simp to_z-of_z at c.in_ok-computing.ensures.work) (simp to_z-of_z at c.number.ensures)
    c.in_ok-u.ensures c.in_ok-alone.ensures
