-- How a machine runs, one token after another.
use Rattle.std.proofs.Common.{◌≡◌, List, [], ◌∷◌, refl, ap}
use Rattle.proof_tokens.specs.declared.tokens.Token.{Token}
use Rattle.proof_constraint.proofs.Running.{Step, bad, on, done, refused, read, after, run}

pub run_on : {S V : Type 0} (moves : S → Token → Step S V) (s z : S) (x : Token) (xs : List Token) → moves s x ≡ on z → run moves s (x ∷ xs) ≡ run moves z xs
unfolding run
run_on moves s z x xs e = ap (after (λ z. run moves z xs) x xs) e

pub run_done : {S V : Type 0} (moves : S → Token → Step S V) (s : S) (v : V) (x : Token) (xs : List Token) → moves s x ≡ done v → run moves s (x ∷ xs) ≡ read v xs
unfolding run
run_done moves s v x xs e = ap (after (λ z. run moves z xs) x xs) e

pub run_bad : {S V : Type 0} (moves : S → Token → Step S V) (s : S) (x : Token) (xs : List Token) → moves s x ≡ bad → run moves s (x ∷ xs) ≡ refused (x ∷ xs)
unfolding run
run_bad moves s x xs e = ap (after (λ z. run moves z xs) x xs) e

pub run_nil : {S V : Type 0} (moves : S → Token → Step S V) (s : S) → run moves s [] ≡ refused []
unfolding run
run_nil moves s = refl
