use Rattle.std.proofs.Common.{◌≡◌, ◌≤◌, drop, length}
use Rattle.form_typed.specs.Formula.{formulas_of, expressions_of}
use Rattle.smt_sizes.specs.Sizes.{all_sizes, term_sizes}
use Rattle.smt_sizes.proofs.sizes.+size.Given as goal

abbrev pub invariant-sizes_of-loop-i : goal.invariant-sizes_of-loop-i
invariant-sizes_of-loop-i l = (l.i ≤ length l.formulas) × (l.all ≡ all_sizes (formulas_of (drop l.i l.formulas)))

abbrev pub invariant-term_sizes-loop-i : goal.invariant-term_sizes-loop-i
invariant-term_sizes-loop-i l = (l.i ≤ length l.terms) × (l.all ≡ term_sizes (expressions_of (drop l.i l.terms)))

abbrev pub decreases-sizes_of-loop-i : goal.decreases-sizes_of-loop-i
decreases-sizes_of-loop-i l = l.i

abbrev pub decreases-term_sizes-loop-i : goal.decreases-term_sizes-loop-i
decreases-term_sizes-loop-i l = l.i
