use Rattle.std.proofs.Common.{◌≡◌, drop}
use Rattle.formula.specs.Form.{are_pure}
use Rattle.formula.specs.Tree.{forms_of}
use Rattle.formula.proofs.purity.+purity.Given as goal

abbrev pub invariant-are_pure-loop-f : goal.invariant-are_pure-loop-f
invariant-are_pure-loop-f l = are_pure (forms_of (drop l.f-index l.formulas)) ≡ are_pure (forms_of l.formulas)
