use Rattle.std.proofs.Common.{◌≡◌, drop}
use Rattle.form_typed.specs.Formula.{expressions_of}
use Rattle.pri_typing.specs.WellFormed.{are_numeric}
use Rattle.function_encoding.proofs.plain.+numeric.Given as goal

abbrev pub invariant-are_numeric-loop-t : goal.invariant-are_numeric-loop-t
invariant-are_numeric-loop-t l = are_numeric (expressions_of l.terms) ≡ are_numeric (expressions_of (drop l.t-index l.terms))
