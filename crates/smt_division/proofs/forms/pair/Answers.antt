use Rattle.smt_division.proofs.Lists.{no_pair}
use Rattle.smt_division.proofs.forms.pair.Goals as goal

pub returns-then-not-is_empty : goal.returns-then-not-is_empty
returns-then-not-is_empty c =
    no_pair c.args.es.now c.in-Some.first.now c.in-Some.behind.now c.in-Some-split_first.second.now c.in-Some-split_first.end.now c.is_empty.result
    c.in-Some.ensures.cases.0 c.in-Some-split_first.ensures.cases.0 c.is_empty.ensures c.if-not-is_empty.true
