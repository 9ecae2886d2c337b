use Rattle.std.proofs.Common.{◌≡◌, ◌++◌, drop}
use Rattle.proof_tokens.specs.Lines.{values_text}
use Rattle.proof_tokens.specs.Spellings.{spelled}
use Rattle.proof_printer.proofs.rows.put_values.Given as goal

abbrev pub invariant-loop-value : goal.invariant-loop-value
invariant-loop-value l = l.out.items ++ spelled (values_text (drop l.value-index l.values)) ≡ l.fn.out.items ++ spelled (values_text l.values)
