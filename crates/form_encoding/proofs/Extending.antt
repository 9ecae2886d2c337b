-- What the names of a formula stand for, at lists of integers that go on.
use Rattle.std.proofs.Common.{◌≡◌, ℕ, zero, suc, ◌+◌, ◌<◌, ◌≤◌, ℤ, pos, ◌+ℤ◌, ◌*ℤ◌, List, [], ◌∷◌, ◌++◌, length, All, refl, ap, ◌∙◌, subst, arith, length-append}
use Rattle.std.proofs.lemmas.List.Elements.{All-nil, All-cons, All-head, All-tail}
use Rattle.base_integers.specs.Entry.{entry}
use Rattle.base_integers.proofs.Entries.{entry-append_left, entry-append_right}
use Rattle.linear_term.specs.Linear.{Linear, total, value_at, value_of, IsOver}
use Rattle.linear_term.specs.Linear as linear
use Rattle.linear_term.proofs.Totals.{value_of-name, value_of-number}
use Rattle.form_encoding.specs.Encoding.{named}
use Rattle.form_encoding.specs.Meaning.{entries}
use Rattle.formula.proofs.Extending.{Extends, extends_refl, extends_trans, entry_last, extends_more, value_extends, values_extend, over_more, over_number, over_name}

pub entries_extend : (n m : ℕ) (e e' : List ℤ) (at : List ℕ) → Extends n e m e' → All (λ x. x < n) at → entries at e' ≡ entries at e
entries_extend n m e e' [] h below = refl
entries_extend n m e e' (x ∷ at) h below =
    let P : ℕ → Type 0 = λ y. y < n in
    let first = h.same x (All-head P x at below) in
    let later = entries_extend n m e e' at h (All-tail P x at below) in
    λ i. first i ∷ later i

pub below_more : (n m : ℕ) (at : List ℕ) → n ≤ m → All (λ x. x < n) at → All (λ x. x < m) at
below_more n m [] le h = All-nil (λ x. x < m)
below_more n m (x ∷ at) le h =
    let lt : x < n = All-head (λ (y : ℕ). y < n) x at h in
    All-cons (λ y. y < m) x at (omega arith) (below_more n m at le (All-tail (λ (y : ℕ). y < n) x at h))

-- What the names of a formula stand for: names below n, at which the integers e have the integers d of the formula.
pub record IsRead (at : List ℕ) (n : ℕ) (e d : List ℤ) : Type 0 where
  pub long : length e ≡ n
  pub below : All (λ x. x < n) at
  pub is : entries at e ≡ d

pub read_extends : (at : List ℕ) (n m : ℕ) (e e' d : List ℤ) → IsRead at n e d → Extends n e m e' → IsRead at m e' d
read_extends at n m e e' d r h = record {
  long = h.long;
  below = below_more n m at h.longer r.below;
  is = entries_extend n m e e' at h r.below ∙ r.is;
}

pub entries-append : (at : List ℕ) (x : ℕ) (e : List ℤ) → entries (at ++ x ∷ []) e ≡ entries at e ++ entry e x ∷ []
entries-append [] x e = refl
entries-append (y ∷ at) x e = ap (λ z. entry e y ∷ z) (entries-append at x e)

pub below-append : (n : ℕ) (at : List ℕ) (x : ℕ) → All (λ y. y < n) at → x < n → All (λ y. y < n) (at ++ x ∷ [])
below-append n [] x h lt = All-cons (λ (y : ℕ). y < n) x [] lt (All-nil (λ (y : ℕ). y < n))
below-append n (y ∷ at) x h lt = All-cons (λ (z : ℕ). z < n) y (at ++ x ∷ []) (All-head (λ (z : ℕ). z < n) y at h) (below-append n at x (All-tail (λ (z : ℕ). z < n) y at h) lt)

pub read_bound : (at : List ℕ) (n : ℕ) (e d : List ℤ) (v : ℤ) → IsRead at n e d → IsRead (at ++ n ∷ []) (suc n) (e ++ v ∷ []) (d ++ v ∷ [])
read_bound at n e d v r =
    let more = extends_more n e v r.long in
    let r' = read_extends at n (suc n) e (e ++ v ∷ []) d r more in
    record {
      long = more.long;
      below = below-append (suc n) at n r'.below (omega arith);
      is = entries-append at n (e ++ v ∷ []) ∙ (λ i. r'.is i ++ entry_last n e v r.long i ∷ []);
    }

named_in : (at : List ℕ) (x : ℕ) (e : List ℤ) → value_of (named at x) e ≡ entry (entries at e) x
named_in [] x e = value_of-number (pos 0) e
named_in (y ∷ at) zero e = value_of-name y e
named_in (y ∷ at) (suc x) e = named_in at x e

pub value_named : (at : List ℕ) (n x : ℕ) (e d : List ℤ) → IsRead at n e d → value_of (named at x) e ≡ entry d x
value_named at n x e d r = named_in at x e ∙ ap (λ l. entry l x) r.is

pub named_over : (at : List ℕ) (n x : ℕ) → All (λ y. y < n) at → IsOver n (named at x)
named_over [] n x h = over_number n (pos 0)
named_over (y ∷ at) n zero h = over_name n y (All-head (λ (z : ℕ). z < n) y at h)
named_over (y ∷ at) n (suc x) h = named_over at n x (All-tail (λ (z : ℕ). z < n) y at h)

pub over_named : (at : List ℕ) (n x : ℕ) (e d : List ℤ) → IsRead at n e d → IsOver n (named at x)
over_named at n x e d r = named_over at n x r.below
