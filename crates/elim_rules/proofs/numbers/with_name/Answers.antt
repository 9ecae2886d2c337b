use Rattle.std.proofs.Common.{to_z-of_z}
use mir.Syntax.{w128}
use mir.Val.{SFits}
use Rattle.elim_rules.proofs.Named.{naming_fails, naming_done}
use Rattle.elim_rules.proofs.numbers.with_name.Goals as goal

pub returns-in_err-combine-clause-memory : goal.returns-in_err-combine-clause-memory
returns-in_err-combine-clause-memory c =
    let k : SFits w128 c.args.k = c.ranges.k in
    naming_fails c.args.k c.args.x c.args.t.now c.name.result c.in_err-combine.field-0.0 c.from_residual.result c.requires.k_in_range c.know_normal.ensures c.requires.without c.name.ensures
    (simp to_z-of_z at c.in_err-combine.ensures.overflow) c.from_residual.ensures.1

pub returns-clause-exact : goal.returns-clause-exact
returns-clause-exact c =
    let k : SFits w128 c.args.k = c.ranges.k in
    naming_done c.args.k c.args.x c.args.t.now c.name.result c.in_ok-combine.field-0 c.name.ensures (simp to_z-of_z at c.in_ok-combine.ensures.exact)
