-- The answer is the end of the first part of the run; where that is cut, it is found otherwise.
use Rattle.job_smt.proofs.Raising.{early_so, first_within, sat_so, unsat_so}
use Rattle.job_smt.proofs.checking.encoded_answer.Goals as goal

pub returns-in-Unsat : goal.returns-in-Unsat
returns-in-Unsat g c = unsat_so c.args.budget c.first_part.result c.args.p.now c.in_ok-run.field-0 c.requires.encoded.fits (first_within c.args.budget c.first_part.result c.first_part.ensures) c.in_ok-run.ensures c.in-Unsat.is

pub returns-in-Sat : goal.returns-in-Sat
returns-in-Sat g c = sat_so c.args.budget c.first_part.result c.args.p.now c.in_ok-run.field-0 c.requires.encoded.fits (first_within c.args.budget c.first_part.result c.first_part.ensures) c.in_ok-run.ensures c.in-Sat.is

pub briefly-requires-clause-early : goal.briefly-requires-clause-early
briefly-requires-clause-early g c = early_so c.in-Unknown.field-0 c.args.budget c.first_part.result c.args.p.now c.in_ok-run.field-0 c.requires.alone c.first_part.ensures c.in_ok-run.ensures c.in-Unknown.is
