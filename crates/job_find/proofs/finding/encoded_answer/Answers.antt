-- The answer by what was found.
use Rattle.job_find.proofs.Answering.{as_sought, many_found, nowhere_found, run_found, values_found}
use Rattle.job_find.proofs.finding.encoded_answer.Goals as goal

pub found-requires : goal.found-requires
found-requires g c =
    many_found c.args.problem.now c.in-Values.values c.as_slice.result.now c.in-Values.proof.items (as_sought c.args.problem.now _ _ c.in-Values.is c.in_ok-values.ensures) c.as_slice.ensures

pub returns-in-Values : goal.returns-in-Values
returns-in-Values g c =
    values_found c.args.proves c.args.budget c.args.problem.now c.in-Values.values c.as_slice.result.now c.in-Values.proof.items c.as_slice-in-Values.result.now c.found.result
    (as_sought c.args.problem.now _ _ c.in-Values.is c.in_ok-values.ensures) c.as_slice.ensures c.as_slice-in-Values.ensures.value c.found.ensures

pub returns-in-Nowhere : goal.returns-in-Nowhere
returns-in-Nowhere g c = nowhere_found c.args.proves c.args.budget c.args.problem.now c.say.result (as_sought c.args.problem.now _ _ c.in-Nowhere.is c.in_ok-values.ensures) c.say.ensures

pub returns-in-Nothing : goal.returns-in-Nothing
returns-in-Nothing g c = run_found c.args.proves c.args.budget c.args.problem.now c.form.result c.run_answer.result c.form.ensures c.run_answer.ensures
