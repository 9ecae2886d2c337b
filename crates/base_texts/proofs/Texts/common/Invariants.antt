use Rattle.std.proofs.Common.{◌≡◌, [], drop, map}
use Rattle.base_texts.specs.Texts.{picked}
use Rattle.base_texts.proofs.Texts.common.Given as goal

abbrev pub invariant-loop-text : goal.invariant-loop-text
invariant-loop-text l = picked l.others l.most l.found (map (λ k. k.items) (drop l.text-index l.text-items)) ≡ picked l.others l.most [] l.self
