-- The names of constants, each for itself.
use Rattle.std.proofs.Common.{◌≡◌, ℕ, zero, suc, ◌+◌, ◌<◌, ◌≤◌, ℤ, List, [], ◌∷◌, ◌++◌, length, All, refl, subst, append_assoc, arith, length-append}
use Rattle.std.proofs.lemmas.List.Elements.{All-nil, All-cons}
use Rattle.base_integers.specs.Entry.{entry}
use Rattle.base_integers.proofs.Entries.{entry-append_right}
use Rattle.form_encoding.specs.Meaning.{entries}
use Rattle.form_encoding.specs.Root.{names_from}
use Rattle.form_encoding.proofs.Extending.{IsRead}

pub names_below : (m k n : ℕ) → m + k ≤ n → All (λ x. x < n) (names_from m k)
names_below m zero n le = All-nil (λ x. x < n)
names_below m (suc k) n le = All-cons (λ x. x < n) m (names_from (suc m) k) (omega arith) (names_below (suc m) k n (omega arith))

-- the entries of a list at the names of a part of it are that part
own_entries : (a b : List ℤ) (m k : ℕ) → length a ≡ m → length b ≡ k → entries (names_from m k) (a ++ b) ≡ b
own_entries a [] m zero la lb = refl
own_entries a [] m (suc k) la lb = absurd (omega arith)
own_entries a (v ∷ b) m zero la lb = absurd (omega arith)
own_entries a (v ∷ b) m (suc k) la lb =
    let is : length a + 0 ≡ m = omega arith in
    let first : entry (a ++ v ∷ b) m ≡ v = subst (λ x. entry (a ++ v ∷ b) x ≡ v) is (entry-append_right a (v ∷ b) 0) in
    let later : entries (names_from (suc m) k) (a ++ v ∷ b) ≡ b =
    subst (λ l. entries (names_from (suc m) k) l ≡ b) (append_assoc a (v ∷ []) b) (own_entries (a ++ v ∷ []) b (suc m) k (omega (arith, length-append a (v ∷ []))) (omega arith)) in
    λ i. first i ∷ later i

pub own_read : (n : ℕ) (e : List ℤ) → length e ≡ n → IsRead (names_from 0 n) n e e
own_read n e l = record { long = l; below = names_below 0 n n (omega arith); is = own_entries [] e 0 n refl l }
