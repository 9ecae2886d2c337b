-- A disjunction that passed the test is over the names.
use Rattle.std.proofs.Common.{rules, ◌≡◌, true}
use Rattle.cdcl_deciding.proofs.solving.values.Goals as goal

pub solve-outcome-requires-clause-over : goal.solve-outcome-requires-clause-over
solve-outcome-requires-clause-over c = let is : c.is_over.result ≡ true = search rules in c.is_over.ensures.0 is
