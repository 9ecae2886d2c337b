use Rattle.std.proofs.Common.{subst}
use Rattle.linear_term.specs.Linear.{IsNormal}
use Rattle.clause_set.proofs.NormalTruth.{literal_is, normal_answer}
use Rattle.clause_set.proofs.clause.normal.Goals as goal

pub returns-clause-truth : goal.returns-clause-truth
returns-clause-truth c =
    normal_answer c.normalized.result c.args.l (literal_is c.args.l (subst IsNormal c.term.ensures c.know_normal.ensures) c.requires) c.normalized.ensures
