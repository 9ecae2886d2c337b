use Rattle.form_encoding.proofs.PlainTypes.{plain_for_all, plain_for_some, plain_problem, plain_parts}
use Rattle.form_encoding.proofs.laws.plain_law.Goals as goal

pub returns-clause-for_all : goal.returns-clause-for_all
returns-clause-for_all c = plain_for_all

pub returns-clause-for_some : goal.returns-clause-for_some
returns-clause-for_some c = plain_for_some

pub returns-clause-problem : goal.returns-clause-problem
returns-clause-problem c = plain_problem

pub returns-clause-parts : goal.returns-clause-parts
returns-clause-parts c = plain_parts
