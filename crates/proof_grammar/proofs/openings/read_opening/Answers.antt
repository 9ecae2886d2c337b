use Rattle.proof_grammar.specs.Faults.{fault_of}
use Rattle.proof_grammar.proofs.Failing.{fails}
use Rattle.std.proofs.Common.{length}
use Rattle.proof_grammar.specs.Refusals.{RefusesText}
use Rattle.proof_grammar.proofs.Standing.{no_head, no_charges, opened}
use Rattle.proof_grammar.proofs.openings.read_opening.Goals as goal

pub returns-in_err-format-clause-refused : goal.returns-in_err-format-clause-refused
returns-in_err-format-clause-refused c =
    fails (fault_of c.in_err-format.field-0.0) c.from_residual.result (RefusesText c.args.text.now) c.from_residual.ensures.1 (no_head c.args.text.now c.in_err-format.field-0.0 c.in_err-format.ensures.first)

pub returns-in_err-amount-clause-refused : goal.returns-in_err-amount-clause-refused
returns-in_err-amount-clause-refused c =
    fails (fault_of c.in_err-amount.field-0.0) c.from_residual-in_err-amount.result (RefusesText c.args.text.now) c.from_residual-in_err-amount.ensures.1
    (no_charges c.in_ok-parts.parts (length c.in_ok-parts.parts) c.args.text.now c.in_ok-parts.behind.now c.in_err-amount.field-0.0 c.in_ok-parts.ensures.found c.in_err-amount.ensures.first)

pub returns-clause-found : goal.returns-clause-found
returns-clause-found c = opened c.in_ok-parts.parts c.in_ok-amount.amount c.args.text.now c.in_ok-parts.behind.now c.in_ok-amount.rest.now c.in_ok-amount.ensures.found.0 c.in_ok-amount.ensures.found.1 c.in_ok-parts.ensures.found
