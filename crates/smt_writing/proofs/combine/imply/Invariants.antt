use Rattle.std.proofs.Common.{◌≡◌, map, length}
use Rattle.form_typed.specs.Formula.{formula}
use Rattle.smt_terms.specs.Translation.{implied_said}
use Rattle.smt_writing.proofs.Folding.{implied_onto}
use Rattle.smt_writing.proofs.combine.imply.Given as goal

abbrev pub invariant-loop-left : goal.invariant-loop-left
invariant-loop-left l = implied_said (map formula l.fn.formulas) ≡ implied_onto (map formula l.formulas) (formula l.all)

abbrev pub decreases-loop-left : goal.decreases-loop-left
decreases-loop-left l = length l.formulas
