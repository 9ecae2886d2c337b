use Rattle.std.proofs.Common.{◌≡◌, drop}
use Rattle.base_texts.specs.Texts.{is_among}
use Rattle.smt_terms.specs.Evaluation.{texts_of}
use Rattle.smt_typing.proofs.bound.is_variable.Given as goal

abbrev pub invariant-loop-variable : goal.invariant-loop-variable
invariant-loop-variable l = is_among l.text (texts_of (drop l.variable-index l.variables)) ≡ is_among l.text (texts_of l.variables)
