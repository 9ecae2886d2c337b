use Rattle.std.proofs.Common.{◌≡◌, [], length, map}
use Rattle.smt_lists.specs.Expressions.{expr}
use Rattle.smt_shorthand.specs.Functions.{functions_from}
use Rattle.smt_shorthand.proofs.functions.functions.Given as goal

abbrev pub invariant-loop-signature : goal.invariant-loop-signature
invariant-loop-signature l = functions_from l.at (map expr l.declarations) (map expr l.assertions) (map expr l.rest) (map expr l.others) ≡ functions_from l.at [] [] (map expr l.signatures) (map expr l.terms)

abbrev pub decreases-loop-signature : goal.decreases-loop-signature
decreases-loop-signature l = length l.rest
