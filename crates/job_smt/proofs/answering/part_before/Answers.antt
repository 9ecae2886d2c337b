use Rattle.std.proofs.Common.{◌≡◌, ap, ◌∙◌, rules, take}
use Rattle.smt_lists.specs.Cuts.{last_cut}
use Rattle.job_smt.proofs.Making.{shorter}
use Rattle.job_smt.proofs.answering.part_before.Goals as goal

pub returns-in-Some : goal.returns-in-Some
returns-in-Some c =
    let bytes = c.args.bytes.now in
    let is : c.in-Some.part.now ≡ take c.in_ok-cut.cut bytes = search rules in
    record {
      part = is ∙ ap (λ n. take n bytes) (c.in_ok-cut.ensures.exact ∙ ap (last_cut bytes) c.place_in.ensures.exact);
      shorter = shorter bytes c.in-Some.part.now c.in_ok-cut.cut c.args.refusal c.requires.refused c.in_default.not-Memory c.in_ok-cut.ensures.within is;
      known = c.in_default.not-Memory;
    }
