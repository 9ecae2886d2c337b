use Rattle.formula.specs.Tree.{form}
use Rattle.job_seeking.proofs.Seeking.{nowhere_over}
use Rattle.job_seeking.proofs.searching.by_denial.Goals as goal

pub search_at-requires : goal.search_at-requires
search_at-requires g c = record { over = nowhere_over c.args.problem.now (form c.in-Some.denial) c.requires.well_formed (rw c.in-Some.is at c.in_ok-denial.ensures) }
