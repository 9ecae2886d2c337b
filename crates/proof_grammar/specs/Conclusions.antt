-- The word that begins the last line.
use Rattle.proof_tokens.specs.declared.tokens.Token.{Token}
use Rattle.proof_tokens.specs.declared.tokens.Token.TheVariants as t

abbrev pub IsEndWord : Token → Type 0
IsEndWord t.Solution = Unit {0}
IsEndWord t.Nothing = Unit {0}
IsEndWord _ = ⊥
