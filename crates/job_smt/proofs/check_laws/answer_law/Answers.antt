use Rattle.job_smt.proofs.Answered.{sat_refuted, unsat_holds}
use Rattle.job_smt.proofs.SingleCheck.{alike}
use Rattle.job_smt.proofs.check_laws.answer_law.Goals as goal

pub returns-clause-one : goal.returns-clause-one
returns-clause-one c = alike

pub returns-clause-unsat : goal.returns-clause-unsat
returns-clause-unsat c = unsat_holds

pub returns-clause-sat : goal.returns-clause-sat
returns-clause-sat c = sat_refuted
