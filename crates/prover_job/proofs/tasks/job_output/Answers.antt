use Rattle.std.proofs.Common.{◌≡◌, rules}
use Rattle.job_words.specs.Jobs.{check, drill, eliminate, find_values, minimise, run_script, solve, task_of}
use Rattle.prover_job.proofs.tasks.job_output.Goals as goal

pub returns-in-Solve-clause-answered : goal.returns-in-Solve-clause-answered
returns-in-Solve-clause-answered g c = let is : task_of c.args.job.now ≡ solve c.as_str.result.now c.in-Solve.budget c.in-Solve.asked c.in-Solve.calculus c.in-Solve.shows = search rules in rw is c.solve_output.ensures.answered

pub returns-in-Elim-clause-answered : goal.returns-in-Elim-clause-answered
returns-in-Elim-clause-answered g c = let is : task_of c.args.job.now ≡ eliminate c.as_str-in-Elim.result.now c.in-Elim.budget = search rules in rw is c.elim_output.ensures.answered

pub returns-in-Find-clause-answered : goal.returns-in-Find-clause-answered
returns-in-Find-clause-answered g c = let is : task_of c.args.job.now ≡ find_values c.as_str-in-Find.result.now c.in-Find.budget c.in-Find.proves = search rules in rw is c.find_output.ensures.answered

pub returns-in-Smt-clause-answered : goal.returns-in-Smt-clause-answered
returns-in-Smt-clause-answered g c = let is : task_of c.args.job.now ≡ run_script c.as_str-in-Smt.result.now c.in-Smt.budget = search rules in rw is c.smt_output.ensures.answered

pub returns-in-Least-clause-answered : goal.returns-in-Least-clause-answered
returns-in-Least-clause-answered g c =
    let is : task_of c.args.job.now ≡ minimise c.as_str-in-Least.result.now c.as_str-in-Least-2.result.now c.in-Least.budget = search rules in rw is c.least_output.ensures.answered

pub returns-in_ok-drilled-in-Drill-clause-answered : goal.returns-in_ok-drilled-in-Drill-clause-answered
returns-in_ok-drilled-in-Drill-clause-answered g c = let is : task_of c.args.job.now ≡ drill c.in-Drill.count c.in-Drill.budget = search rules in rw is c.in_ok-drilled-in-Drill.ensures

pub returns-in-Check-clause-answered : goal.returns-in-Check-clause-answered
returns-in-Check-clause-answered g c =
    let is : task_of c.args.job.now ≡ check c.as_str-in-Check.result.now c.as_str-in-Check-2.result.now = search rules in rw is c.check_output.ensures.answered

pub returns-in-Check-clause-broke : goal.returns-in-Check-clause-broke
returns-in-Check-clause-broke g c =
    let is : task_of c.args.job.now ≡ check c.as_str-in-Check.result.now c.as_str-in-Check-2.result.now = search rules in rw is c.check_output.ensures.broke

pub returns-in-Check-clause-begun : goal.returns-in-Check-clause-begun
returns-in-Check-clause-begun g c =
    let is : task_of c.args.job.now ≡ check c.as_str-in-Check.result.now c.as_str-in-Check-2.result.now = search rules in λ some. rw is c.check_output.ensures.begun
