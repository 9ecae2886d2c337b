use Rattle.std.proofs.Common.{◌≡◌, length}
use Rattle.form_typed.specs.Formula.{formula}
use Rattle.pri_typing.specs.Sorts.{sorts_of}
use Rattle.pri_typing.specs.Typing.{quantifiers}
use Rattle.pri_typing.proofs.build.quantify.Given as goal

abbrev pub invariant-loop-last : goal.invariant-loop-last
invariant-loop-last l = quantifiers l.all (sorts_of l.outer) (formula l.quantified) ≡ quantifiers l.all (sorts_of l.names) (formula l.initial.quantified)

abbrev pub decreases-loop-last : goal.decreases-loop-last
decreases-loop-last l = length l.outer
