use Rattle.std.proofs.Common.{◌≡◌, ◌∷◌, None, map, rules, subst}
use Rattle.smt_lists.specs.Expressions.{expr}
use Rattle.smt_commands.specs.Faults.{TermFaults, claim_faults}
use Rattle.smt_commands.specs.Least.{least, least_from}
use Rattle.smt_typing.proofs.CommandForms.{claims_on}
use Rattle.smt_typing.proofs.commands.first_fault.Goals as goal

pub loop-claim-preserved : goal.loop-claim-preserved
loop-claim-preserved g c =
    let terms : TermFaults = record { faults = g.T.Terms.faults; uses = g.T.Terms.occurs } in
    let table = c.args.table.now.entries in
    let parts : c.loop-claim.rest.now ≡ c.in-Some.claim.now ∷ c.in-Some.behind.now = search rules in
    claims_on terms table (expr c.in-Some.claim.now) (map expr c.in-Some.behind.now) c.loop-claim.found c.in_ok-found.found (least (claim_faults terms table (map expr c.args.claims.now))) c.in_ok-found.ensures
    (subst (λ z. least_from c.loop-claim.found (claim_faults terms table (map expr z)) ≡ least (claim_faults terms table (map expr c.args.claims.now))) parts c.loop-claim.invariant)
