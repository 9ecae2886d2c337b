use Rattle.linear_term.proofs.Orders.{linear_cmp-total, linear_cmp-equal}
use Rattle.linear_term.proofs.laws.term_order_law.Goals as goal

pub returns : goal.returns
returns c = record { total = linear_cmp-total; equal = linear_cmp-equal }
