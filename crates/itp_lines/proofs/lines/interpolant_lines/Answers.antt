use Rattle.std.proofs.Common.{◌<◌, ◌≤◌, ◌^◌, ◌++◌, ◌∙◌, ap, length, subst}
use Rattle.itp_sides.specs.Sides.{cut_of}
use Rattle.interpolant.proofs.Smaller.{parts_small}
use Rattle.itp_lines.specs.Seams.{seams, seams_of}
use Rattle.itp_lines.proofs.Answering.{among_cuts, goes_end, goes_more, next_cut, none_left}
use Rattle.itp_lines.proofs.Budgets.{below_still, lines_keep}
use Rattle.itp_lines.proofs.lines.interpolant_lines.Goals as goal

pub block_lines-requires-clause-small : goal.block_lines-requires-clause-small
block_lines-requires-clause-small c = λ set.
    let below : c.loop-number.number < length c.args.p.now.cuts = subst (λ xs. c.loop-number.number < length xs) c.as_slice-cuts.ensures c.loop-number-test.true in
    parts_small c.args.p.now (cut_of c.args.p.now c.loop-number.number) set c.requires.well_formed (among_cuts c.args.p.now c.loop-number.number below) c.requires.small

pub loop-number-preserved : goal.loop-number-preserved
loop-number-preserved c =
    let cut = cut_of c.args.p.now c.loop-number.number in
    let below : c.loop-number.number < length c.args.p.now.cuts = subst (λ xs. c.loop-number.number < length xs) c.as_slice-cuts.ensures c.loop-number-test.true in
    let keeps = lines_keep c.args.p.now (seams_of cut) c.loop-number.purse c.block_lines.new.purse c.in_ok-lines.ensures.left in
    record {
      goes = goes_more c.args.p.now (seams_of cut) _ _ c.loop-number.purse c.block_lines.new.purse c.args.purse.now c.loop-number.text.items c.in_ok-lines.lines.items c.extend_from_slice.new.self.items
          (seams c.args.p.now.cuts) (next_cut c.args.p.now c.loop-number.number below)
          (c.in_ok-extend_from_slice.ensures.items ∙ ap (λ z. c.loop-number.text.items ++ z) c.as_slice.ensures.value) c.in_ok-lines.ensures.lines c.in_ok-lines.ensures.left
          c.loop-number.invariant.goes;
      budget = below_still c.loop-number.purse c.block_lines.new.purse (2 ^ 32) keeps c.loop-number.invariant.budget;
    }

pub returns : goal.returns
returns c =
    let past : length c.args.p.now.cuts ≤ c.loop-number.number = subst (λ xs. length xs ≤ c.loop-number.number) c.as_slice-cuts.ensures c.loop-number-test.false in
    goes_end c.args.p.now _ c.loop-number.purse c.args.purse.now c.loop-number.text.items (seams c.args.p.now.cuts) (none_left c.args.p.now.cuts c.loop-number.number past) c.loop-number.invariant.goes
