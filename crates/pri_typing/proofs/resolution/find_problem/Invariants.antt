use Rattle.std.proofs.Common.{◌≡◌, drop, true}
use Rattle.pri_reader.specs.Grammar.{has_problem}
use Rattle.pri_typing.specs.Files.{problem_of}
use Rattle.pri_typing.proofs.resolution.find_problem.Given as goal

abbrev pub invariant-loop-block : goal.invariant-loop-block
invariant-loop-block l = record {
  remains : has_problem (drop l.block-index l.blocks) ≡ true;
  same : problem_of (drop l.block-index l.blocks) ≡ problem_of l.blocks;
}
