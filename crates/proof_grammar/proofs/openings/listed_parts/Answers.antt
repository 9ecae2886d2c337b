use Rattle.std.proofs.Common.{◌≤◌, ◌+◌, arith, subst, sym}
use Rattle.proof_grammar.specs.Faults.{fault_of}
use Rattle.proof_grammar.proofs.Failing.{fails}
use Rattle.proof_grammar.specs.Refusals.{RefusesText}
use Rattle.proof_grammar.proofs.Standing.{Parting, no_part, no_parts, parting, parting_end, parting_more}
use Rattle.proof_grammar.proofs.openings.listed_parts.Goals as goal

pub returns-in_err-count-clause-refused : goal.returns-in_err-count-clause-refused
returns-in_err-count-clause-refused c =
    fails (fault_of c.in_err-count.field-0.0) c.from_residual.result (RefusesText c.args.text.now) c.from_residual.ensures.1
    (no_parts c.args.text.now c.args.inner.now c.in_err-count.field-0.0 c.requires c.in_err-count.ensures.first)

pub loop-i-init : goal.loop-i-init
loop-i-init c =
    let count = c.in_ok-count.count in
    subst (λ z. Parting z count 0 c.args.text.now c.in_ok-count.behind.now) (sym c.new-found.ensures)
    (parting count c.args.text.now c.args.inner.now c.in_ok-count.behind.now c.in_ok-count.ensures.found.0 c.in_ok-count.ensures.found.1 c.requires)

pub returns-in_err-log-clause-refused : goal.returns-in_err-log-clause-refused
returns-in_err-log-clause-refused c =
    fails (fault_of c.in_err-log.field-0.0) c.from_residual-in_err-log.result (RefusesText c.args.text.now) c.from_residual-in_err-log.ensures.1
    (no_part c.loop-i.found c.in_ok-count.count c.loop-i._i c.args.text.now c.loop-i.rest.now c.in_err-log.field-0.0 c.loop-i-test.true c.loop-i.invariant c.in_err-log.ensures.first)

pub loop-i-preserved : goal.loop-i-preserved
loop-i-preserved c =
    subst (λ z. Parting z c.in_ok-count.count (c.loop-i._i + 1) c.args.text.now c.in_ok-log.more.now) (sym c.in_ok-push.ensures.ok)
    (parting_more c.loop-i.found c.in_ok-log.log c.in_ok-count.count c.loop-i._i c.args.text.now c.loop-i.rest.now c.in_ok-log.more.now c.loop-i-test.true c.in_ok-log.ensures.found.0 c.in_ok-log.ensures.found.1 c.loop-i.invariant)

pub returns-clause-found : goal.returns-clause-found
returns-clause-found c =
    let past : c.in_ok-count.count ≤ c.loop-i._i = omega (arith, c.loop-i-test.false) in
    parting_end c.loop-i.found c.in_ok-count.count c.loop-i._i c.args.text.now c.loop-i.rest.now past c.loop-i.invariant
