use Rattle.std.proofs.Common.{arith, ◌≡◌, length}
use Rattle.base_budget.specs.Trace.{capped}
use Rattle.clause_set.specs.Names.{area}
use Rattle.elim_rules.proofs.Remainders.{charge_is}
use Rattle.elim_rules.proofs.apart.charge.Goals as goal

pub returns : goal.returns
returns c =
    let len : c.len.result ≡ capped (length c.args.c.now) = omega (arith, c.len.ensures) in
    charge_is c.min-clauses.result c.in_ok-places.places c.saturating_mul.result c.saturating_add.result c.args.count (area (length c.args.c.now) c.args.c.now) c.min-clauses.ensures
    (c.in_ok-places.ensures (length c.args.c.now) len) c.saturating_mul.ensures c.saturating_add.ensures
