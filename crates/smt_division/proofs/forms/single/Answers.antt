use Rattle.smt_division.proofs.Lists.{no_single}
use Rattle.smt_division.proofs.forms.single.Goals as goal

pub returns-then-not-is_empty : goal.returns-then-not-is_empty
returns-then-not-is_empty c = no_single c.args.es.now c.in-Some.first.now c.in-Some.end.now c.is_empty.result c.in-Some.ensures.cases.0 c.is_empty.ensures c.if-not-is_empty.true
