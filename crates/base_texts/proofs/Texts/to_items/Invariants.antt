use Rattle.std.proofs.Common.{◌≡◌, take, map}
use Rattle.base_texts.proofs.Texts.to_items.Given as goal

abbrev pub invariant-loop-text : goal.invariant-loop-text
invariant-loop-text l = l.out ≡ map (λ k. k.items) (take l.text-index l.text-items)
