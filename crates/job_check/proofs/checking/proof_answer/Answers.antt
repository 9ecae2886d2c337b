use Rattle.std.proofs.Common.{sym, ◌∙◌}
use Rattle.job_check.proofs.Proving.{clauses_so, tree_so}
use Rattle.job_check.proofs.checking.proof_answer.Goals as goal

pub returns-then-is_clause_text : goal.returns-then-is_clause_text
returns-then-is_clause_text c = clauses_so c.args.problem.now c.args.proof.now (sym c.is_clause_text.ensures ∙ c.if-is_clause_text.true) _ c.clauses_answer.ensures

pub returns : goal.returns
returns c = tree_so c.args.problem.now c.args.proof.now (sym c.is_clause_text.ensures ∙ c.if-is_clause_text.false) _ c.tree_answer.ensures
