-- Lists turned round.
use Rattle.std.proofs.Common.{◌≡◌, ◌<◌, List, [], ◌∷◌, length, reverse, refl, sym, ap, ◌∙◌, arith}
use Rattle.std.proofs.lemmas.List.{reverse-reverse}

-- at most one item is its own list turned round
pub turned_short : {X : Type 0} (xs : List X) → length xs < 2 → reverse xs ≡ xs
turned_short [] h = refl
turned_short (x ∷ []) h = refl
turned_short (x ∷ y ∷ xs) h = absurd (omega (arith, h))

-- a list is empty where it is empty turned round
pub turned_none : {X : Type 0} (xs turned : List X) → reverse turned ≡ xs → turned ≡ [] → xs ≡ []
turned_none xs turned is none = sym is ∙ ap reverse none

pub none_turned : {X : Type 0} (xs turned : List X) → reverse turned ≡ xs → xs ≡ [] → turned ≡ []
none_turned xs turned is none = sym (reverse-reverse turned) ∙ ap reverse (is ∙ none)
