use Rattle.std.proofs.Common.{map}
use Rattle.smt_lists.specs.Expressions.{expr}
use Rattle.smt_reader.proofs.Checks.{questions_new}
use Rattle.smt_reader.proofs.scripts.take_lists.Goals as goal

pub problems-requires : goal.problems-requires
problems-requires c = record { new = questions_new (map expr c.args.lists.now) c.requires.ranged c.in-Ok.ensures.fits }
