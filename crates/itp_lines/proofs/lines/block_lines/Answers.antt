use Rattle.std.proofs.Common.{◌<◌, ◌≤◌, ◌^◌, ◌++◌, ◌∙◌, ap, arith, length}
use Rattle.itp_sides.specs.Sides.{cut_of}
use Rattle.itp_lines.specs.Seams.{seams_of}
use Rattle.itp_lines.proofs.Answering.{goes_end, goes_next, numbered, seams_end, seams_next, sets_many}
use Rattle.itp_lines.proofs.Budgets.{below_still, line_keeps}
use Rattle.itp_lines.proofs.lines.block_lines.Goals as goal

pub loop-at-preserved : goal.loop-at-preserved
loop-at-preserved c =
    let cut = cut_of c.args.p.now c.args.number in
    let test = c.loop-at-test.true in
    let many = sets_many c.args.p.now c.args.number c.as_slice.result.now c.index-as_slice-number.result c.as_slice-sets.result.now c.as_slice.ensures c.requires.within c.as_slice-sets.ensures in
    let below : c.loop-at.at < length cut.sets = omega (arith, test, many) in
    let keeps = line_keeps c.args.p.now (numbered c.args.p.now c.args.number c.loop-at.at) c.loop-at.purse c.seam_line.new.purse c.in_ok-line.ensures.left in
    record {
      goes = goes_next c.args.p.now (numbered c.args.p.now c.args.number c.loop-at.at) _ _ c.loop-at.purse c.seam_line.new.purse c.args.purse.now c.loop-at.text.items c.in_ok-line.line.items
          c.extend_from_slice.new.self.items (seams_of cut) (seams_next cut (length cut.sets) c.loop-at.at below)
          (c.in_ok-extend_from_slice.ensures.items ∙ ap (λ z. c.loop-at.text.items ++ z) c.as_slice-in-loop-at.ensures.value) c.in_ok-line.ensures.line c.in_ok-line.ensures.left c.loop-at.invariant.goes;
      budget = below_still c.loop-at.purse c.seam_line.new.purse (2 ^ 32) keeps c.loop-at.invariant.budget;
    }

pub returns-clause-lines : goal.returns-clause-lines
returns-clause-lines c =
    let cut = cut_of c.args.p.now c.args.number in
    let test = c.loop-at-test.false in
    let many = sets_many c.args.p.now c.args.number c.as_slice.result.now c.index-as_slice-number.result c.as_slice-sets.result.now c.as_slice.ensures c.requires.within c.as_slice-sets.ensures in
    let past : length cut.sets ≤ c.loop-at.at = omega (arith, test, many) in
    goes_end c.args.p.now _ c.loop-at.purse c.args.purse.now c.loop-at.text.items (seams_of cut) (seams_end cut (length cut.sets) c.loop-at.at past) c.loop-at.invariant.goes
