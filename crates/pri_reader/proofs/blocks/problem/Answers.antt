use Rattle.std.proofs.Common.{arith}
use Rattle.pri_reader.proofs.Exits.{fails, takes_shorter}
use Rattle.pri_reader.proofs.ProblemBlock.{problem_no_brace, problem_no_end, problem_none, problem_read}
use Rattle.pri_reader.proofs.blocks.problem.Goals as goal

pub returns-in_err-inner-clause-refused : goal.returns-in_err-inner-clause-refused
returns-in_err-inner-clause-refused c = fails _ _ c.from_residual.ensures.1 (problem_no_brace c.in_err-inner.ensures.failed)

pub returns-in_err-formula-clause-refused : goal.returns-in_err-formula-clause-refused
returns-in_err-formula-clause-refused c = fails _ _ c.from_residual-in_err-formula.ensures.1 (problem_none c.in_ok-inner.ensures.found c.in_err-formula.ensures.refused)

pub returns-in_err-behind-clause-refused : goal.returns-in_err-behind-clause-refused
returns-in_err-behind-clause-refused c = fails _ _ c.from_residual-in_err-behind.ensures.1 (problem_no_end c.in_ok-inner.ensures.found c.in_ok-formula.ensures.read c.in_err-behind.ensures.failed)

pub returns-clause-read : goal.returns-clause-read
returns-clause-read c = rw c.into_inner.ensures (problem_read c.in_ok-inner.ensures.found c.in_ok-formula.ensures.read c.in_ok-behind.ensures.found)

pub returns-clause-shorter : goal.returns-clause-shorter
returns-clause-shorter c = omega (arith, takes_shorter c.in_ok-inner.ensures.found, c.in_ok-formula.ensures.shorter, takes_shorter c.in_ok-behind.ensures.found)
