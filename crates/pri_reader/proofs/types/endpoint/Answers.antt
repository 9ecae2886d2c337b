use Rattle.std.proofs.Common.{rules}
use Rattle.pri_reader.proofs.Exits.{fails, handed_err, handed_ok}
use Rattle.pri_reader.proofs.TypeLines.{minus_endpoint, no_minus_endpoint, no_plain_endpoint, plain_endpoint}
use Rattle.pri_reader.proofs.types.endpoint.Goals as goal

pub returns-in_default-clause-read : goal.returns-in_default-clause-read
returns-in_default-clause-read c = handed_ok _ _ _ c.number.ensures.found (λ x r. plain_endpoint r)

pub returns-in_default-clause-refused : goal.returns-in_default-clause-refused
returns-in_default-clause-refused c = handed_err _ _ _ c.number.ensures.failed (λ e r. no_plain_endpoint c.in_default.ensures r)

pub returns-in_err-value-clause-refused : goal.returns-in_err-value-clause-refused
returns-in_err-value-clause-refused c = fails _ _ c.from_residual.ensures.1 (no_minus_endpoint c.in-Some.ensures c.in_err-value.ensures.failed)

pub returns-clause-read : goal.returns-clause-read
returns-clause-read c = minus_endpoint c.in-Some.ensures c.in_ok-value.ensures.found (search (rules, c.negated.ensures))
