use Rattle.std.proofs.Common.{◌≡◌, drop}
use Rattle.smt_lists.specs.Expressions.{exprs_of}
use Rattle.smt_division.specs.Commands.{any_mentions}
use Rattle.smt_division.proofs.commands.+mentions.Given as goal

abbrev pub invariant-any_mentions-loop-e : goal.invariant-any_mentions-loop-e
invariant-any_mentions-loop-e l = any_mentions (exprs_of (drop l.e-index l.es)) ≡ any_mentions (exprs_of l.es)
