use Rattle.std.proofs.Common.{arith}
use Rattle.std.proofs.Common.{ap, sym, ◌∙◌, ◌||◌}
use Rattle.pri_reader.specs.Grammar.{is_problem}
use Rattle.pri_reader.proofs.Exits.{fails, heads_shorter}
use Rattle.pri_reader.proofs.FileBlocks.{blocks_next, blocks_none, blocks_twice, has_problem-more}
use Rattle.pri_reader.proofs.blocks.file.Goals as goal

pub returns-in_err-problem-clause-refused : goal.returns-in_err-problem-clause-refused
returns-in_err-problem-clause-refused c = fails _ _ c.from_residual.ensures.1 (blocks_twice c.each.invariant.leads c.in-Some.ensures (record { is = c.in_err-problem.ensures.failed.is; heads = c.in_err-problem.ensures.failed.heads; had = c.each.invariant.has ∙ c.in_err-problem.ensures.failed.had }))

pub returns-in_err-block-clause-refused : goal.returns-in_err-block-clause-refused
returns-in_err-block-clause-refused c = fails _ _ c.from_residual-in_err-block.ensures.1 (blocks_none c.each.invariant.leads c.in-Some.ensures (λ e. c.each.invariant.has ∙ c.in_ok-problem.ensures.first e) c.in_err-block.ensures.refused)

pub each-preserved : goal.each-preserved
each-preserved c = record {
  leads = rw c.in_ok-push.ensures.ok (blocks_next c.each.invariant.leads c.in-Some.ensures (λ e. c.each.invariant.has ∙ c.in_ok-problem.ensures.first e) c.in_ok-block.ensures.read);
  has = rw c.in_ok-push.ensures.ok (has_problem-more c.each.blocks c.in_ok-block.block ∙ ap (λ z. z || is_problem c.in_ok-block.block) c.each.invariant.has ∙ ap (λ z. c.each.problem || z) c.in_ok-block.ensures.read.kind ∙ sym c.in_ok-problem.ensures.found);
  shorter = omega (arith, c.each.invariant.shorter, c.in_ok-block.ensures.shorter, heads_shorter c.in-Some.ensures);
}
