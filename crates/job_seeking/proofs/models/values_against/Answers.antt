use Rattle.std.proofs.Common.{rules}
use Rattle.formula.specs.Tree.{form}
use Rattle.job_seeking.proofs.Overs.{form_over_is}
use Rattle.job_seeking.proofs.models.values_against.Goals as goal

pub search_at-requires : goal.search_at-requires
search_at-requires g c = record { over = form_over_is 0 (form c.in_ok-claim.claim) (c.form_over.ensures (search rules)) }
