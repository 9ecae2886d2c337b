-- Where a test stops on bytes.
use Rattle.std.proofs.Common.{ℕ, ◌≡◌, ◌+◌, ◌==◌, not, Bool, true, false, cond, List, [], ◌∷◌, ◌++◌, length, drop, refl, ap, ◌∙◌, one-add, arith}
use Rattle.std.specs.List.{list_all, prefix_len}
use Rattle.std.proofs.lemmas.Bool.Decides.{nat_tests}
use Rattle.base_numerals.proofs.Tests.{left_true, right_true}
use Rattle.clause_words.specs.Terms.{no_star}

-- bytes that pass a test, and one that does not
pub front_len : (p : ℕ → Bool) (a : List ℕ) (b : ℕ) (bs : List ℕ) → list_all p a ≡ true → p b ≡ false → prefix_len p (a ++ b ∷ bs) ≡ length a
front_len p [] b bs h q = rw q refl
front_len p (x ∷ xs) b bs h q =
    ap (λ v. cond v (1 + prefix_len p (xs ++ b ∷ bs)) 0) (left_true (p x) (list_all p xs) h)
    ∙ ap (λ n. 1 + n) (front_len p xs b bs (right_true (p x) (list_all p xs) h) q) ∙ one-add (length xs)

-- bytes that pass a test
pub whole_len : (p : ℕ → Bool) (a : List ℕ) → list_all p a ≡ true → prefix_len p a ≡ length a
whole_len p [] h = refl
whole_len p (x ∷ xs) h =
    ap (λ v. cond v (1 + prefix_len p xs) 0) (left_true (p x) (list_all p xs) h)
    ∙ ap (λ n. 1 + n) (whole_len p xs (right_true (p x) (list_all p xs) h)) ∙ one-add (length xs)

-- a `*` comes, or nothing
abbrev pub star_stops : List ℕ → Type 0
star_stops [] = Unit {0}
star_stops (b ∷ bs) = b ≡ 42

pub star_rest : (x : List ℕ) → star_stops (drop (prefix_len no_star x) x)
star_rest [] = tt
star_rest (b ∷ bs) = by (b == 42) refl (star_rest bs)
  where
    at : (b == 42) ≡ true → b ≡ 42
    at h = grind (arith, nat_tests)

    by : (v : Bool) → (b == 42) ≡ v → star_stops (drop (prefix_len no_star bs) bs) → star_stops (drop (cond (not v) (1 + prefix_len no_star bs) 0) (b ∷ bs))
    by true p h = at p
    by false p h = rw one-add h
