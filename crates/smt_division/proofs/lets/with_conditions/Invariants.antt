use Rattle.std.proofs.Common.{◌≡◌, ◌++◌, map, take}
use Rattle.smt_lists.specs.Expressions.{expr}
use Rattle.smt_division.specs.Terms.{in_let}
use Rattle.smt_division.proofs.lets.with_conditions.Given as goal

abbrev pub invariant-loop-condition : goal.invariant-loop-condition
invariant-loop-condition l =
    map expr l.conditions ≡ map expr l.fn.first ++ map (in_let l.outer.at (expr l.outer.head.now) l.outer.bindings_at (map expr l.bindings)) (map expr (take l.condition-index l.more))
