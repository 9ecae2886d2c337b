use Rattle.std.proofs.Common.{◌≡◌, ◌++◌, drop, map}
use Rattle.smt_lists.specs.Expressions.{expr, exprs_of}
use Rattle.smt_division.specs.Terms.{bound_reducts, closed_all, reducts}
use Rattle.smt_division.specs.Views.{reducts_are}
use Rattle.smt_division.proofs.Collecting.{followed}
use Rattle.smt_division.proofs.terms.+terms.Given as goal

abbrev pub invariant-closed_all-loop-e : goal.invariant-closed_all-loop-e
invariant-closed_all-loop-e l = map expr l.formulas ++ closed_all (exprs_of (drop l.e-index l.es)) ≡ closed_all (exprs_of l.es)

abbrev pub invariant-reduced_all-loop-e : goal.invariant-reduced_all-loop-e
invariant-reduced_all-loop-e l = followed (reducts_are l.terms) (reducts (exprs_of (drop l.e-index l.es))) ≡ reducts (exprs_of l.es)

abbrev pub invariant-reduced_bindings-loop-pair : goal.invariant-reduced_bindings-loop-pair
invariant-reduced_bindings-loop-pair l = followed (reducts_are l.bindings) (bound_reducts (exprs_of (drop l.pair-index l.pairs))) ≡ bound_reducts (exprs_of l.pairs)

abbrev pub invariant-reduced_choice-loop-e : goal.invariant-reduced_choice-loop-e
invariant-reduced_choice-loop-e l = followed (reducts_are l.terms) (reducts (exprs_of (drop l.e-index l.branches))) ≡ followed (reducts_are l.initial.terms) (reducts (exprs_of l.branches))
