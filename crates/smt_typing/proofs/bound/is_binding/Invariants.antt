use Rattle.std.proofs.Common.{◌≡◌, drop}
use Rattle.base_texts.specs.Texts.{is_among}
use Rattle.smt_terms.specs.Evaluation.{names_of}
use Rattle.smt_terms.specs.Term.{bindings_of}
use Rattle.smt_typing.proofs.bound.is_binding.Given as goal

abbrev pub invariant-loop-binding : goal.invariant-loop-binding
invariant-loop-binding l = is_among l.text (names_of (bindings_of (drop l.binding-index l.bindings))) ≡ is_among l.text (names_of (bindings_of l.bindings))
