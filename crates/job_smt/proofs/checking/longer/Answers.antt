use Rattle.job_smt.proofs.Raising.{longer_within, sat_so, unsat_so}
use Rattle.job_smt.proofs.checking.longer.Goals as goal

pub returns-in-Unsat : goal.returns-in-Unsat
returns-in-Unsat g c = unsat_so c.args.budget c.longer_part.result c.args.p.now c.in_ok-run.field-0 c.requires.encoded.fits (longer_within c.args.budget c.longer_part.result c.longer_part.ensures) c.in_ok-run.ensures c.in-Unsat.is

pub returns-in-Sat : goal.returns-in-Sat
returns-in-Sat g c = sat_so c.args.budget c.longer_part.result c.args.p.now c.in_ok-run.field-0 c.requires.encoded.fits (longer_within c.args.budget c.longer_part.result c.longer_part.ensures) c.in_ok-run.ensures c.in-Sat.is
