use Rattle.std.proofs.Common.{◌≡◌, map, sym, subst, arith}
use Rattle.std.specs.List.{AllByRecursion}
use Rattle.smt_lists.specs.Expressions.{expr}
use Rattle.smt_division.specs.Commands.{undivided_script}
use Rattle.smt_shorthand.specs.Ranged.{IsRangedExpr}
use Rattle.smt_division.proofs.RangedCommands.{ranged_script, script_made}
use Rattle.smt_division.proofs.commands.without_division.Goals as goal

pub returns : goal.returns
returns c =
    let made : map expr c.loop-e.commands ≡ undivided_script (map expr c.args.lists) =
    script_made (map expr c.loop-e.commands) c.args.lists c.as_slice-e-items.result.now c.loop-e.e-index c.as_slice-e-items.ensures (omega arith) c.loop-e.invariant in
    record { exact = made; ranged = λ a. subst (AllByRecursion IsRangedExpr) (sym made) (ranged_script (map expr c.args.lists) a) }
