-- Whether each byte of a text passes a test.
use Rattle.std.proofs.Common.{◌≡◌, ℕ, ◌+◌, ◌<◌, Bool, true, false, List, length, drop, get_or, sym, ap, ◌∙◌, ◌&&◌}
use Rattle.std.specs.List.{list_all}
use Rattle.std.proofs.lemmas.List.{drop_more}

-- a byte that passes
pub passed : (p : ℕ → Bool) (xs : List ℕ) (i : ℕ) (r all : Bool) → i < length xs → r ≡ p (get_or xs i 0) → r ≡ true → list_all p (drop i xs) ≡ all → list_all p (drop (i + 1) xs) ≡ all
passed p xs i r all lt tested good h = ap (λ z. z && list_all p (drop (i + 1) xs)) (sym good ∙ tested) ∙ ap (list_all p) (sym (drop_more xs i 0 lt)) ∙ h

-- one that does not
pub failed : (p : ℕ → Bool) (xs : List ℕ) (i : ℕ) (r all : Bool) → i < length xs → r ≡ p (get_or xs i 0) → r ≡ false → list_all p (drop i xs) ≡ all → false ≡ all
failed p xs i r all lt tested bad h = ap (λ z. z && list_all p (drop (i + 1) xs)) (sym bad ∙ tested) ∙ ap (list_all p) (sym (drop_more xs i 0 lt)) ∙ h
