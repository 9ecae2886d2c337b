use Rattle.std.proofs.Common.{◌+◌, ◌≤◌, drop}
use Rattle.form_typed.specs.Formula.{expression, expressions_of}
use Rattle.function_encoding.specs.Actions.{compiled_all, compiled_more}
use Rattle.function_encoding.specs.Instructions.{actions_of}
use Rattle.function_encoding.specs.Weight.{weight_of, weights_of}
use Rattle.function_encoding.proofs.Compiling.{Goes}
use Rattle.function_encoding.proofs.instructions.+compile.Given as goal

abbrev pub decreases-compile : goal.decreases-compile
decreases-compile l = weight_of (expression l.term.now)

abbrev pub decreases-compile_all : goal.decreases-compile_all
decreases-compile_all l = weights_of (expressions_of l.terms.now)

abbrev pub decreases-compile_one : goal.decreases-compile_one
decreases-compile_one l = weight_of (expression l.term.now) + 1

abbrev pub decreases-compile_two : goal.decreases-compile_two
decreases-compile_two l = weight_of (expression l.s.now) + weight_of (expression l.t.now) + 2

abbrev pub decreases-compile_call : goal.decreases-compile_call
decreases-compile_call l = weights_of (expressions_of l.terms.now) + 1

abbrev pub decreases-compile_sum : goal.decreases-compile_sum
decreases-compile_sum l = weights_of (expressions_of l.terms.now) + 1

abbrev pub decreases-compile_more : goal.decreases-compile_more
decreases-compile_more l = weights_of (expressions_of l.terms.now)

abbrev pub invariant-compile_all-loop-t : goal.invariant-compile_all-loop-t
invariant-compile_all-loop-t l = Goes (actions_of l.fn.code) (actions_of l.code) (compiled_all (expressions_of (drop l.t-index l.terms))) (compiled_all (expressions_of l.terms))
    × (weights_of (expressions_of (drop l.t-index l.terms)) ≤ weights_of (expressions_of l.terms))

abbrev pub invariant-compile_more-loop-t : goal.invariant-compile_more-loop-t
invariant-compile_more-loop-t l = Goes (actions_of l.fn.code) (actions_of l.code) (compiled_more (expressions_of (drop l.t-index l.terms))) (compiled_more (expressions_of l.terms))
    × (weights_of (expressions_of (drop l.t-index l.terms)) ≤ weights_of (expressions_of l.terms))
