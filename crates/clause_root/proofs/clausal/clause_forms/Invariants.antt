use Rattle.std.proofs.Common.{◌≡◌, take, map}
use Rattle.formula.specs.Tree.{form}
use Rattle.clause_root_laws.specs.Clausal.{clause_form}
use Rattle.clause_root.proofs.clausal.clause_forms.Given as goal

abbrev pub invariant-loop-c : goal.invariant-loop-c
invariant-loop-c l = map form l.members ≡ map (clause_form l.names) (take l.c-index l.clauses)
