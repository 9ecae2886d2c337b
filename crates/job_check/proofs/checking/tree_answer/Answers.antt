use Rattle.pri_problem.proofs.Sizes.{searchable}
use Rattle.job_check.proofs.Judging.{accepted_so, fitting, refused_so}
use Rattle.job_check.proofs.checking.tree_answer.Goals as goal

pub check_text-requires : goal.check_text-requires
check_text-requires c = searchable c.args.problem.now c.args.encoded.now c.requires.well_formed c.requires.encoded

pub tell_accepted-requires-clause-fitting : goal.tell_accepted-requires-clause-fitting
tell_accepted-requires-clause-fitting c = fitting c.args.problem.now c.args.encoded.now c.requires.encoded c.args.proof.now c.in-Ok.checked c.in-Ok.ensures

pub returns-in-Ok : goal.returns-in-Ok
returns-in-Ok c = accepted_so c.args.problem.now c.args.encoded.now c.requires.encoded c.args.proof.now c.in-Ok.checked c.in-Ok.ensures _ c.tell_accepted.ensures

pub returns-in-Err : goal.returns-in-Err
returns-in-Err c = refused_so c.args.problem.now c.args.encoded.now c.requires.encoded c.args.proof.now c.in-Err.fault c.in-Err.ensures _ c.tell_refused.ensures
