use Rattle.std.proofs.Common.{drop}
use Rattle.clause_proof.specs.Lines as lines
use Rattle.clause_checker.proofs.Lefts.{DeleteLeft}
use Rattle.clause_checker.proofs.resolving.delete.Given as goal

abbrev pub invariant-loop-h : goal.invariant-loop-h
invariant-loop-h l = DeleteLeft l.clauses (drop l.h-index l.hints) (lines.without_clauses l.initial.clauses l.hints)
