use Rattle.std.proofs.Common.{true, drop, map}
use Rattle.base_budget.proofs.Charging.{Left}
use Rattle.formula.specs.Tree.{form}
use Rattle.form_encoding.specs.Encoding.{all_encoded}
use Rattle.form_encoding.specs.Extent.{extents}
use Rattle.function_encoding.specs.Encoded.{all_assumed}
use Rattle.function_encoding.specs.Ranged.{HaveRangedNumbers}
use Rattle.function_encoding.specs.Room.{HasNamesLeft}
use Rattle.function_encoding.proofs.Encodings.{rest}
use Rattle.function_encoding.proofs.parts.members.Given as goal

abbrev pub invariant-loop-c : goal.invariant-loop-c
invariant-loop-c l = Left (rest l.at l.n true (map form l.out) (all_assumed (drop l.c-index l.components))) (all_encoded l.at l.n true (all_assumed l.components))
    × HaveRangedNumbers (all_assumed (drop l.c-index l.components)) × HasNamesLeft l.n (extents (all_assumed (drop l.c-index l.components)))
