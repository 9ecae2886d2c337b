use Rattle.std.proofs.Common.{◌∙◌, ap}
use Rattle.std.specs.Map.{lookup}
use Rattle.clause_set.specs.Clauses.{same_pairs}
use Rattle.clause_set.proofs.Tables.{lookup-put}
use Rattle.clause_set.proofs.table.put_at.Goals as goal

pub returns-clause-put : goal.returns-clause-put
returns-clause-put c = λ q.
    ap (λ es. lookup (λ k. same_pairs q k.items) es) c.in_ok-insert.ensures.entries
    ∙ lookup-put (λ k. k.items) q c.args.p _ c.args.table.now.entries
