use Rattle.std.proofs.Common.{drop}
use Rattle.clause_checker.proofs.Lefts.{ClashLeft}
use Rattle.clause_checker.proofs.resolving.clashes.Given as goal

abbrev pub invariant-loop-h : goal.invariant-loop-h
invariant-loop-h l = ClashLeft l.clauses (drop l.h-index l.hints) l.hints l.marks l.initial.marks
