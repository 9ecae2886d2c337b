use Rattle.std.proofs.Common.{◌≡◌, sym, subst, IfOk}
use Rattle.std.specs.Option.{option_map}
use Rattle.smt_division.specs.Views.{reduct_is}
use Rattle.smt_division.proofs.Lists.{some_divisors}
use Rattle.smt_division.proofs.closing.divided_some.Goals as goal

pub returns : goal.returns
returns c =
    subst (λ z. IfOk c.divided_all.result (λ q. option_map reduct_is q ≡ z))
    (sym (some_divisors c.args.at c.args.divisors.now (reduct_is c.args.dividend) c.is_empty.result c.is_empty.ensures c.if-is_empty.false)) c.divided_all.ensures
