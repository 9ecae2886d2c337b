use Rattle.std.proofs.Common.{◌≡◌, map, sym, subst, IfOk}
use Rattle.smt_lists.specs.Expressions.{expr}
use Rattle.smt_division.proofs.Lists.{closing_some}
use Rattle.smt_division.proofs.closing.closing.Goals as goal

pub returns : goal.returns
returns c =
    subst (λ z. IfOk c.quantified.result (λ e. expr e ≡ z))
    (sym (closing_some c.args.at (expr c.args.term) c.args.variables (map expr c.args.conditions) c.is_empty.result c.is_empty.ensures.1 c.if-is_empty.false)) c.quantified.ensures
