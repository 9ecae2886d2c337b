use Rattle.std.proofs.Common.{◌≡◌, nat_lt, length, drop}
use Rattle.std.specs.List.{list_any}
use Rattle.form_encoding.specs.Encoding.{bounds}
use Rattle.function_encoding.proofs.largeness.has_bounds.Given as goal

abbrev pub invariant-loop-sort : goal.invariant-loop-sort
invariant-loop-sort l = list_any (λ s. nat_lt 0 (length (bounds s))) l.sorts ≡ list_any (λ s. nat_lt 0 (length (bounds s))) (drop l.sort-index l.sorts)
