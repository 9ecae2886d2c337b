use Rattle.elim_rules.proofs.Results.{filter_divisors}
use Rattle.elim_rules.proofs.one_side.one_sided.Goals as goal

pub in_form-requires : goal.in_form-requires
in_form-requires c = filter_divisors _ c.args.c.now c.literals.result.now c.in_ok-others.others c.know_clause.ensures.divisors c.literals.ensures c.in_ok-others.ensures
