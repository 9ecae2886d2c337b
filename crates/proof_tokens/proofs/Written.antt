-- Texts with a line after them.
use Rattle.std.proofs.Common.{ℕ, ◌≡◌, List, [], ◌∷◌, ◌++◌, ap, ◌∙◌, append_assoc}

pub numbered : (old label digits text : List ℕ) → text ≡ (old ++ (label ++ digits)) ++ 10 ∷ [] → text ≡ old ++ (label ++ (digits ++ 10 ∷ []))
numbered old label digits text e = e ∙ append_assoc old (label ++ digits) (10 ∷ []) ∙ ap (λ z. old ++ z) (append_assoc label digits (10 ∷ []))

pub behind_word : (old word line text : List ℕ) → text ≡ (old ++ word) ++ line → text ≡ old ++ (word ++ line)
behind_word old word line text e = e ∙ append_assoc old word line
