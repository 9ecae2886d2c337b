use Rattle.std.proofs.Common.{subst}
use Rattle.base_budget.proofs.Charging.{work_ok}
use Rattle.base_budget.specs.Work.{Worked}
use Rattle.clause_set.specs.Divisibilities.{merged_by}
use Rattle.clause_set.specs.Literals.{term_of}
use Rattle.clause_set.specs.Order.{divisor_of}
use Rattle.elim_rules.proofs.merge.merged.Goals as goal

pub returns : goal.returns
returns c =
    work_ok _ _ c.in_ok-z.ensures.stays
    (subst (λ z. Worked (merged_by c.args.x c.args.rest z (divisor_of c.args.l.now) (term_of c.args.l.now) (divisor_of c.args.m.now) (term_of c.args.m.now)) c.merged_by.result)
    c.in_ok-z.ensures.exact c.merged_by.ensures)
