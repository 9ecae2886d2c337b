use Rattle.clause_set.specs.Dnfs.{negation}
use Rattle.base_budget.proofs.Charging.{then_ok, then_err, unnoted}
use Rattle.std.proofs.Common.{◌^◌}
use Rattle.quant_elim.proofs.Budgets.{below_budget}
use Rattle.quant_elim.proofs.taking.all_values.Goals as goal

pub returns-in_err-some : goal.returns-in_err-some
returns-in_err-some c = then_ok (negation c.args.d.now) _ (unnoted _ c.in_ok-fails.ensures.charged) (then_err _ negation c.from_residual-in_err-some.result c.from_residual-in_err-some.ensures.1 c.in_err-some.ensures)

pub returns : goal.returns
returns c = then_ok (negation c.args.d.now) _ (unnoted _ c.in_ok-fails.ensures.charged) (then_ok _ negation c.in_ok-some.ensures (unnoted _ c.not-2.ensures.charged))

pub take_name_out-requires : goal.take_name_out-requires
take_name_out-requires c = below_budget (2 ^ 32) c.in_ok-fails.ensures.charged c.requires
