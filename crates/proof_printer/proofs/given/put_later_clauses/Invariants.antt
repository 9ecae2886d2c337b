use Rattle.std.proofs.Common.{◌≡◌, ◌++◌, drop}
use Rattle.proof_constraint.specs.Text.{behind, clause_text}
use Rattle.proof_tokens.specs.declared.tokens.Token.TheVariants as t
use Rattle.proof_tokens.specs.Spellings.{spelled}
use Rattle.proof_printer.proofs.given.put_later_clauses.Given as goal

abbrev pub invariant-loop-clause : goal.invariant-loop-clause
invariant-loop-clause l = l.out.items ++ spelled (behind clause_text t.Or (drop l.clause-index l.clauses)) ≡ l.fn.out.items ++ spelled (behind clause_text t.Or l.clauses)
