use Rattle.job_values.proofs.Denied.{denied_formed}
use Rattle.job_values.proofs.Found.{negation_found}
use Rattle.job_values.proofs.values.false_values.Goals as goal

pub encoded_values-requires-clause-well_formed : goal.encoded_values-requires-clause-well_formed
encoded_values-requires-clause-well_formed c = denied_formed c.args.problem.now c.in_ok-other.other c.requires.well_formed c.requires.alone c.in_ok-other.ensures

pub returns : goal.returns
returns c = negation_found c.args.budget c.args.problem.now c.in_ok-other.other c.in_ok-other.ensures c.encoded_values.result c.encoded_values.ensures
