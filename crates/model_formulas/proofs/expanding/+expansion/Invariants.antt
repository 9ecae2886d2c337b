use Rattle.std.proofs.Common.{drop}
use Rattle.formula.specs.Tree.{form, forms_of}
use Rattle.model_formulas.proofs.Lists.{AllLeft, AnyLeft}
use Rattle.model_formulas.proofs.Rests.{RestSo}
use Rattle.model_formulas.proofs.expanding.+expansion.Given as goal

abbrev pub invariant-all_of-loop-f : goal.invariant-all_of-loop-f
invariant-all_of-loop-f l = AllLeft l.model l.ts l.names l.members (drop l.f-index l.members) l.out

abbrev pub invariant-any_of-loop-i : goal.invariant-any_of-loop-i
invariant-any_of-loop-i l = AnyLeft l.model l.ts l.names (drop l.from l.members) (drop l.i l.members) l.out

abbrev pub invariant-rest_of-loop-guard : goal.invariant-rest_of-loop-guard
invariant-rest_of-loop-guard l = RestSo l.model l.ts l.names l.members l.guards (drop l.guard-index l.guards) l.out
