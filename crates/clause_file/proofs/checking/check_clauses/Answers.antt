use Rattle.std.proofs.Common.{subst}
use Rattle.clause_text.specs.Head.{RefusesHead}
use Rattle.clause_file.proofs.Following.{head_not_read, head_within}
use Rattle.clause_file.proofs.Meaning.{proof_means}
use Rattle.formula.specs.Tree.{form}
use Rattle.clause_file.proofs.checking.check_clauses.Goals as goal

pub in_file-requires : goal.in_file-requires
in_file-requires c = head_within c.body.result.now _ c.in-Err.refusal c.in-Err.ensures.first c.body.ensures.within

pub returns-in_ok-check_behind-in-Ok-clause-truth : goal.returns-in_ok-check_behind-in-Ok-clause-truth
returns-in_ok-check_behind-in-Ok-clause-truth c = λ w. proof_means w (form c.args.root.now) c.args.count c.args.file.now c.in-Ok.head.values c.requires.over c.know_reduced.ensures c.in_ok-check_behind-in-Ok.ensures

pub returns-in-Err-clause-fault : goal.returns-in-Err-clause-fault
returns-in-Err-clause-fault c =
    head_not_read (form c.args.root.now) c.args.count c.args.file.now c.in-Err.refusal c.in_file.result (subst (λ z. RefusesHead z c.in-Err.refusal) c.body.ensures.exact c.in-Err.ensures.first) c.in_file.ensures
