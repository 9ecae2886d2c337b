use Rattle.std.proofs.Common.{◌≡◌, drop}
use Rattle.smt_terms.specs.Term.{bindings_of, phrases_of}
use Rattle.smt_typing.specs.Faults.{any_uses, bound_uses}
use Rattle.smt_typing.proofs.uses.+uses.Given as goal

abbrev pub invariant-any_uses-loop-term : goal.invariant-any_uses-loop-term
invariant-any_uses-loop-term l = any_uses l.text (phrases_of (drop l.term-index l.terms)) ≡ any_uses l.text (phrases_of l.terms)

abbrev pub invariant-binding_uses-loop-binding : goal.invariant-binding_uses-loop-binding
invariant-binding_uses-loop-binding l = bound_uses l.text (bindings_of (drop l.binding-index l.bindings)) ≡ bound_uses l.text (bindings_of l.bindings)
