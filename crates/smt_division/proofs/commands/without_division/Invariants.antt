use Rattle.std.proofs.Common.{◌≡◌, map, take}
use Rattle.smt_lists.specs.Expressions.{expr}
use Rattle.smt_division.specs.Commands.{undivided}
use Rattle.smt_division.proofs.commands.without_division.Given as goal

abbrev pub invariant-loop-e : goal.invariant-loop-e
invariant-loop-e l = map expr l.commands ≡ map (λ e. undivided (expr e)) (take l.e-index l.e-items)
