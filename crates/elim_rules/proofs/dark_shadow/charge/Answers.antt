use Rattle.std.proofs.Common.{arith, ◌≡◌, ◌+◌, ◌*◌, length}
use Rattle.base_budget.specs.Trace.{capped}
use Rattle.clause_set.specs.Names.{area}
use Rattle.elim_rules.proofs.Darkness.{charge_is}
use Rattle.elim_rules.proofs.dark_shadow.charge.Goals as goal

pub returns : goal.returns
returns c = λ k e.
    let longer : c.saturating_add.result ≡ capped (length c.args.c.now + 1) = omega (arith, c.saturating_add.ensures, c.len.ensures) in
    charge_is c.in_ok-shadow.shadow c.in_ok-each.each c.args.count c.saturating_mul.result c.saturating_add-2.result k (1 + area (c.args.others + c.args.lows * c.args.ups) c.args.c.now) (area (length c.args.c.now + 1) c.args.c.now)
    c.in_ok-shadow.ensures (c.in_ok-each.ensures (length c.args.c.now + 1) longer) e c.saturating_mul.ensures c.saturating_add-2.ensures
