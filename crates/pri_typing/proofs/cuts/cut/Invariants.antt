use Rattle.std.proofs.Common.{◌≡◌, take, map}
use Rattle.base_texts.specs.Texts.{place}
use Rattle.pri_typing.proofs.cuts.cut.Given as goal

abbrev pub invariant-loop-set : goal.invariant-loop-set
invariant-loop-set l = l.out ≡ map (λ s. map (λ n. place n.text l.parts) s.names) (take l.set-index l.sets)
