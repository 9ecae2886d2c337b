use Rattle.form_encoding.proofs.Overs.{encoded_over}
use Rattle.form_encoding.proofs.Parts.{parts_over}
use Rattle.form_encoding.proofs.Problems.{root_over}
use Rattle.form_encoding.proofs.laws.names_law.Goals as goal

pub returns-clause-body : goal.returns-clause-body
returns-clause-body c = encoded_over

pub returns-clause-problem : goal.returns-clause-problem
returns-clause-problem c = root_over

pub returns-clause-parts : goal.returns-clause-parts
returns-clause-parts c = parts_over
