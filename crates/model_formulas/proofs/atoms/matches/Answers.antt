use Rattle.std.proofs.Common.{rules, ◌≡◌, ◌<◌, ◌≤◌, pos, length, get_or, refl, arith, to_z-of_z}
use mir.Syntax.{w128}
use mir.Val.{SFits}
use Rattle.model_formulas.proofs.Matching.{match_goes, match_ends}
use Rattle.model_formulas.proofs.atoms.matches.Goals as goal

pub loop-i-preserved : goal.loop-i-preserved
loop-i-preserved c =
    let f : SFits w128 (get_or c.args.xs.now c.loop-i.i (pos 0)) = search rules in
    let lt : c.loop-i.i < length c.args.ts.now = omega arith in
    let less : c.loop-i.i < length c.args.xs.now = omega (arith, c.loop-i.invariant.long) in
    record {
      long = c.loop-i.invariant.long;
      left = match_goes c.args.ts.now c.args.xs.now c.loop-i.i c.index-ts-i.result (get_or c.args.xs.now c.loop-i.i (pos 0)) c.loop-i.out c.push_all.new.out c.in_ok-g.g lt less c.index-ts-i.is refl
          (simp to_z-of_z at c.in_ok-g.ensures) c.in_ok-push_all.ensures c.loop-i.invariant.left;
    }

pub returns : goal.returns
returns c =
    let le : length c.args.ts.now ≤ c.loop-i.i = omega arith in
    match_ends c.args.ts.now c.args.xs.now c.loop-i.i c.loop-i.out _ c.loop-i.invariant.long le c.all.ensures c.loop-i.invariant.left
