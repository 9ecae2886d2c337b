use Rattle.std.proofs.Common.{◌≡◌, take}
use Rattle.smt_names.specs.Scopes.{last_named}
use Rattle.smt_names.proofs.scope.find_last.Given as goal

abbrev pub invariant-loop-name : goal.invariant-loop-name
invariant-loop-name l = l.found ≡ last_named l.text (take l.name-index l.names)
