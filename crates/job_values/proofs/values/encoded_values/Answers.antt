use Rattle.job_values.proofs.Found.{encoded_found, unencoded_found}
use Rattle.job_values.proofs.values.encoded_values.Goals as goal

pub returns-in-Ok : goal.returns-in-Ok
returns-in-Ok c = encoded_found c.args.budget c.args.problem.now c.in-Ok.ensures.encoded.fits c.run_values.result c.run_values.ensures

pub returns-in-Err : goal.returns-in-Err
returns-in-Err c = unencoded_found c.args.budget c.args.problem.now c.no_values.result (c.no_values.ensures c.args.problem.now c.in-Err.ensures.refused)
