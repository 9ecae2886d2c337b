-- The operators that join several.
use Rattle.std.specs.Prelude.{Bool, true, false}
use Rattle.smt_terms.specs.declared.operator.Operator.{Operator}
use Rattle.smt_terms.specs.declared.operator.Operator.TheVariants as op

-- at one argument it is that argument
abbrev pub joins : Operator → Bool
joins op.And = true
joins op.Or = true
joins op.Xor = true
joins op.Implies = true
joins op.Plus = true
joins op.Times = true
joins _ = false
