use Rattle.std.proofs.Common.{◌≡◌, drop, map}
use Rattle.base_texts.specs.Texts.{misses}
use Rattle.base_texts.proofs.Texts.misses_some.Given as goal

abbrev pub invariant-loop-text : goal.invariant-loop-text
invariant-loop-text l = misses (map (λ k. k.items) (drop l.text-index l.text-items)) l.given ≡ misses l.self l.given
