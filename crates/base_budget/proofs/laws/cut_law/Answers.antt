use Rattle.base_budget.proofs.Meaning.{left_where_leaves, passes_where_runs, refused_where_passes, stops_once}
use Rattle.base_budget.proofs.laws.cut_law.Goals as goal

pub returns-clause-passes : goal.returns-clause-passes
returns-clause-passes c = passes_where_runs

pub returns-clause-refused : goal.returns-clause-refused
returns-clause-refused c = refused_where_passes

pub returns-clause-out_of_range : goal.returns-clause-out_of_range
returns-clause-out_of_range c = left_where_leaves

pub returns-clause-once : goal.returns-clause-once
returns-clause-once c = stops_once
