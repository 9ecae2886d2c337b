-- Texts that are written in parts.
use Rattle.std.proofs.Common.{ℕ, ◌≡◌, List, [], ◌∷◌, ◌++◌, append_assoc, append-nil, refl, sym, ap, ◌∙◌, Result, Ok, Err}
use Rattle.std.specs.Prelude.{OnOk}
use Rattle.clause_words.specs.Reading.{Token}
use Rattle.clause_words.specs.Tokens.{spelled}

pub ruleset texts = (append_assoc, append-nil)

spelled_append : (xs ys : List Token) → spelled (xs ++ ys) ≡ spelled xs ++ spelled ys
spelled_append [] ys = refl
spelled_append (x ∷ xs) ys = ap (λ z. x ++ z) (spelled_append xs ys) ∙ sym (append_assoc x (spelled xs) (spelled ys))

-- a word and two texts
pub by_written : (old a b out w : List ℕ) (xs ys : List Token) → a ≡ old ++ w → b ≡ a ++ spelled xs → out ≡ b ++ spelled ys → out ≡ old ++ spelled (w ∷ (xs ++ ys))
by_written old a b out w xs ys e f g =
    g ∙ ap (λ z. z ++ spelled ys) (f ∙ ap (λ z. z ++ spelled xs) e) ∙ append_assoc (old ++ w) (spelled xs) (spelled ys) ∙ append_assoc old w (spelled xs ++ spelled ys)
    ∙ ap (λ z. old ++ (w ++ z)) (sym (spelled_append xs ys))

pub by_written_ok : {A B : Type 0} (r : Result A B) (old a b out w : List ℕ) (xs ys : List Token) → a ≡ old ++ w → b ≡ a ++ spelled xs → OnOk r (out ≡ b ++ spelled ys) → OnOk r (out ≡ old ++ spelled (w ∷ (xs ++ ys)))
by_written_ok (Ok x) old a b out w xs ys e f g = by_written old a b out w xs ys e f g
by_written_ok (Err x) old a b out w xs ys e f g = tt
