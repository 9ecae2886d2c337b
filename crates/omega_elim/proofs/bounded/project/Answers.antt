use Rattle.omega_elim.proofs.Choice.{result_kept, result_nearer}
use Rattle.omega_elim.proofs.bounded.project.Goals as goal

pub returns-clause-exact : goal.returns-clause-exact
returns-clause-exact c = result_kept c.args.x c.args.c.now c.by_bounds.result c.requires c.know_clause.ensures.literals c.by_bounds.ensures

pub returns-clause-nearer : goal.returns-clause-nearer
returns-clause-nearer c = result_nearer c.args.x c.args.c.now c.by_bounds.result c.requires c.by_bounds.ensures
