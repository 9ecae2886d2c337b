use Rattle.std.proofs.Common.{◌≡◌, take, map}
use Rattle.base_texts.specs.Texts.{place}
use Rattle.pri_typing.proofs.cuts.numbers.Given as goal

abbrev pub invariant-loop-name : goal.invariant-loop-name
invariant-loop-name l = l.out ≡ map (λ n. place n.text l.parts) (take l.name-index l.names)
