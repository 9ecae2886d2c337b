use Rattle.std.proofs.Common.{◌≡◌, map, take}
use Rattle.pri_typing.specs.Terms.{as_declared}
use Rattle.pri_typing.proofs.constant_terms.declare.Given as goal

abbrev pub invariant-loop-constant : goal.invariant-loop-constant
invariant-loop-constant l = l.names ≡ map as_declared (take l.constant-index l.constants)
