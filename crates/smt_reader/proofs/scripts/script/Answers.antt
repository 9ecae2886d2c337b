use Rattle.std.proofs.Common.{◌≡◌, map, subst, sym}
use Rattle.std.specs.List.{AllByRecursion}
use Rattle.smt_lists.specs.Expressions.{expr}
use Rattle.smt_shorthand.specs.Ranged.{IsRangedExpr}
use Rattle.smt_reader.specs.Read.{read_as}
use Rattle.smt_reader.proofs.Texts.{read_ranged}
use Rattle.smt_reader.proofs.Whole.{commands_are, script_read}
use Rattle.smt_reader.proofs.scripts.script.Goals as goal

pub take_lists-requires : goal.take_lists-requires
take_lists-requires c =
    let is : map expr c.as_slice.result.now ≡ read_as c.in-Ok.lists = commands_are c.in-Ok.lists c.in-Ok-read_as.commands c.as_slice.result.now c.in-Ok-read_as.ensures.exact c.as_slice.ensures in
    record { ranged = subst (AllByRecursion IsRangedExpr) (sym is) (read_ranged c.args.bytes.now c.in-Ok.lists c.in-Ok.ensures.found) }

pub returns-in-Ok-read_as-clause-read : goal.returns-in-Ok-read_as-clause-read
returns-in-Ok-read_as-clause-read c =
    let is : map expr c.as_slice.result.now ≡ read_as c.in-Ok.lists = commands_are c.in-Ok.lists c.in-Ok-read_as.commands c.as_slice.result.now c.in-Ok-read_as.ensures.exact c.as_slice.ensures in
    script_read c.args.bytes.now c.in-Ok.lists c.as_slice.result.now c.take_lists.result c.in-Ok.ensures.found is c.take_lists.ensures.read c.take_lists.ensures.replies
