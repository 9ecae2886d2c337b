use Rattle.std.proofs.Common.{◌≡◌, take, map}
use Rattle.formula.specs.Tree.{form}
use Rattle.clause_root_laws.specs.Clausal.{literal_form}
use Rattle.clause_root.proofs.clausal.clause_form.Given as goal

abbrev pub invariant-loop-l : goal.invariant-loop-l
invariant-loop-l l = map form l.members ≡ map (literal_form l.names) (take l.l-index l.literals)
