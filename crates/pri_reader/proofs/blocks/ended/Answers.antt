use Rattle.std.proofs.Common.{sym, ◌∙◌}
use Rattle.pri_reader.proofs.blocks.ended.Goals.{else-is_empty-via-then-is_empty+else-problem, else-is_empty-via-else-is_empty}
use Rattle.pri_reader.proofs.FileBlocks.{blocks_bad, blocks_done, blocks_short}
use Rattle.pri_reader.proofs.blocks.ended.Goals as goal

pub returns-then-problem-clause-read : goal.returns-then-problem-clause-read
returns-then-problem-clause-read c = blocks_done _ _ _ (sym c.is_empty.ensures ∙ c.if-is_empty.true) (c.requires.has ∙ c.if-problem.true)

pub returns-clause-refused : goal.returns-clause-refused
returns-clause-refused c = rw c.refused.ensures (elim c.else-is_empty.branch [
  | else-is_empty-via-then-is_empty+else-problem w ↦ blocks_short _ _ _ c.requires.none (c.requires.has ∙ w.if-problem.false)
  | else-is_empty-via-else-is_empty w ↦ blocks_bad _ _ _ c.requires.none (sym c.is_empty.ensures ∙ w.if-is_empty.false)
])
