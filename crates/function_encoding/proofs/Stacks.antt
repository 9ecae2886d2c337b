-- The first elements of a list, one more at a time.
use Rattle.std.proofs.Common.{◌≡◌, ℕ, zero, suc, List, [], ◌∷◌, ◌++◌, reverse, take, drop, sym, ap, ◌∙◌}
use Rattle.std.proofs.lemmas.List.{reverse-append}

pub drop_next : {X : Type 0} (xs : List X) (i : ℕ) (x : X) (ys : List X) → drop i xs ≡ x ∷ ys → drop (suc i) xs ≡ ys
drop_next [] zero x ys e = absurd (cc)
drop_next [] (suc i) x ys e = absurd (cc)
drop_next (y ∷ xs) zero x ys e = cc
drop_next (y ∷ xs) (suc i) x ys e = drop_next xs i x ys e

pub take_next : {X : Type 0} (xs : List X) (i : ℕ) (x : X) (ys : List X) → drop i xs ≡ x ∷ ys → take (suc i) xs ≡ take i xs ++ x ∷ []
take_next [] zero x ys e = absurd (cc)
take_next [] (suc i) x ys e = absurd (cc)
take_next (y ∷ xs) zero x ys e = let h : y ≡ x = cc in ap (λ z. z ∷ []) h
take_next (y ∷ xs) (suc i) x ys e = ap (λ zs. y ∷ zs) (take_next xs i x ys e)

-- the last element is the first of the list turned round
pub reverse_last : {X : Type 0} (xs : List X) (x : X) → reverse (xs ++ x ∷ []) ≡ x ∷ reverse xs
reverse_last xs x = reverse-append xs (x ∷ [])

-- one more element is taken off the end of what is left
pub taken_more : {X : Type 0} (vs out more left last : List X) (i j : ℕ) (x : X) → j ≡ suc i → out ≡ take i vs → reverse left ≡ drop i vs → left ≡ last ++ x ∷ [] → more ≡ out ++ x ∷ []
    → (more ≡ take j vs) × (reverse last ≡ drop j vs)
taken_more vs out more left last i j x up o l is m =
    let e : drop i vs ≡ x ∷ reverse last = sym l ∙ ap reverse is ∙ reverse_last last x in (
      m ∙ ap (λ ys. ys ++ x ∷ []) o ∙ sym (take_next vs i x (reverse last) e) ∙ ap (λ k. take k vs) (sym up),
      sym (drop_next vs i x (reverse last) e) ∙ ap (λ k. drop k vs) (sym up),
    )
