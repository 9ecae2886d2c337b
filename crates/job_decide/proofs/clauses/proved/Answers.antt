-- A problem with a clause proof holds.
use Rattle.job_clauses.proofs.Proving.{clauses_hold}
use Rattle.job_decide.proofs.clauses.proved.Goals as goal

pub closed-requires-clause-holds : goal.closed-requires-clause-holds
closed-requires-clause-holds c = λ w. clauses_hold w c.args.problem.now c.args.text.now c.requires.well_formed c.requires.left_open.alone c.requires.proof
