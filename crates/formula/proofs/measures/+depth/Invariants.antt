use Rattle.std.proofs.Common.{◌≡◌, ◌-◌, ◌<◌, ◌^◌, min, max, drop}
use Rattle.formula.specs.Sizes.{depths}
use Rattle.formula.specs.Tree.{forms_of}
use Rattle.formula.proofs.measures.+depth.Given as goal

abbrev pub invariant-depths-loop-f : goal.invariant-depths-loop-f
invariant-depths-loop-f l = (l.most < 2 ^ 32) × (min (max l.most (depths (forms_of (drop l.f-index l.formulas)))) (2 ^ 32 - 1) ≡ min (depths (forms_of l.formulas)) (2 ^ 32 - 1))
