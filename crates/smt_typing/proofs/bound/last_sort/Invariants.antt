use Rattle.std.proofs.Common.{◌≡◌, drop}
use Rattle.smt_terms.specs.Evaluation.{names_of}
use Rattle.smt_terms.specs.Term.{bindings_of}
use Rattle.smt_typing.specs.Bounds.{last_of}
use Rattle.smt_typing.proofs.bound.last_sort.Given as goal

abbrev pub invariant-loop-i : goal.invariant-loop-i
invariant-loop-i l = last_of l.text l.hit (names_of (bindings_of (drop l.i l.bindings))) (drop l.i l.sorts) ≡ last_of l.text l.fn.outside (names_of (bindings_of l.bindings)) l.sorts
