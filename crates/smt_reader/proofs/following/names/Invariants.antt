use Rattle.std.proofs.Common.{◌≡◌, take}
use Rattle.smt_terms.specs.Evaluation.{texts_of}
use Rattle.smt_reader.proofs.following.names.Given as goal

abbrev pub invariant-loop-variable : goal.invariant-loop-variable
invariant-loop-variable l = l.texts ≡ texts_of (take l.variable-index l.variables)
