use Rattle.std.proofs.Common.{◌≡◌, ◌++◌, drop, map}
use Rattle.base_texts.specs.Texts.{each_behind}
use Rattle.base_texts.proofs.Texts.put_each.Given as goal

abbrev pub invariant-loop-text : goal.invariant-loop-text
invariant-loop-text l = l.out.items ++ each_behind l.label (map (λ k. k.items) (drop l.text-index l.text-items)) ≡ l.fn.out.items ++ each_behind l.label l.self
