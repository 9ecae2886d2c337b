-- Lists of integers that go on, and what terms are at them.
use Rattle.std.proofs.Common.{◌≡◌, ℕ, suc, ◌+◌, ◌<◌, ◌≤◌, ℤ, pos, ◌+ℤ◌, ◌*ℤ◌, List, [], ◌∷◌, ◌++◌, length, All, refl, ap, ◌∙◌, subst, arith, length-append}
use Rattle.std.proofs.lemmas.List.Elements.{All-nil, All-cons, All-head, All-tail}
use Rattle.base_integers.specs.Entry.{entry}
use Rattle.base_integers.proofs.Entries.{entry-append_left, entry-append_right}
use Rattle.linear_term.specs.Linear.{Linear, total, value_at, value_of, IsOver}
use Rattle.linear_term.specs.Linear as linear
use Rattle.formula.specs.Form.{values_of}

-- e' has m entries, of which the first n are those of e
pub record Extends (n : ℕ) (e : List ℤ) (m : ℕ) (e' : List ℤ) : Type 0 where
  pub longer : n ≤ m
  pub long : length e' ≡ m
  pub same : (x : ℕ) → x < n → entry e' x ≡ entry e x

pub extends_refl : (n : ℕ) (e : List ℤ) → length e ≡ n → Extends n e n e
extends_refl n e h = record { longer = omega arith; long = h; same = λ x lt. refl }

pub extends_trans : (n m k : ℕ) (e f g : List ℤ) → Extends n e m f → Extends m f k g → Extends n e k g
extends_trans n m k e f g h j = record {
  longer = omega (arith, h.longer, j.longer);
  long = j.long;
  same = λ x lt. j.same x (omega (arith, h.longer)) ∙ h.same x lt;
}

pub entry_last : (n : ℕ) (e : List ℤ) (v : ℤ) → length e ≡ n → entry (e ++ v ∷ []) n ≡ v
entry_last n e v h =
    let right = entry-append_right e (v ∷ []) 0 in
    let is : length e + 0 ≡ n = omega arith in
    subst (λ m. entry (e ++ v ∷ []) m ≡ v) is right

pub extends_more : (n : ℕ) (e : List ℤ) (v : ℤ) → length e ≡ n → Extends n e (suc n) (e ++ v ∷ [])
extends_more n e v h = record {
  longer = omega arith;
  long = omega (arith, length-append e (v ∷ []));
  same = λ x lt. entry-append_left e (v ∷ []) x (omega arith);
}

-- the value of a term over n is the same at each list that goes on
total_extends : (n m : ℕ) (e e' : List ℤ) (ps : List (ℕ × ℤ)) → Extends n e m e' → All (λ p. p.0 < n) ps → total (value_at e') ps ≡ total (value_at e) ps
total_extends n m e e' [] h over = refl
total_extends n m e e' (p ∷ ps) h over =
    let first = h.same p.0 (All-head (λ (q : ℕ × ℤ). q.0 < n) p ps over) in
    let later = total_extends n m e e' ps h (All-tail (λ (q : ℕ × ℤ). q.0 < n) p ps over) in
    λ i. (p.1 *ℤ first i) +ℤ later i

pub value_extends : (n m : ℕ) (e e' : List ℤ) (t : Linear) → Extends n e m e' → IsOver n t → value_of t e' ≡ value_of t e
unfolding value_of
value_extends n m e e' t h over = ap (λ z. z +ℤ t.constant) (total_extends n m e e' t.pairs h over)

pub values_extend : (n m : ℕ) (e e' : List ℤ) (ts : List Linear) → Extends n e m e' → All (IsOver n) ts → values_of ts e' ≡ values_of ts e
values_extend n m e e' [] h over = refl
values_extend n m e e' (t ∷ ts) h over =
    let first = value_extends n m e e' t h (All-head (IsOver n) t ts over) in
    let later = values_extend n m e e' ts h (All-tail (IsOver n) t ts over) in
    λ i. first i ∷ later i

below_more_pairs : (n m : ℕ) (ps : List (ℕ × ℤ)) → n ≤ m → All (λ p. p.0 < n) ps → All (λ p. p.0 < m) ps
below_more_pairs n m [] le h = All-nil (λ (q : ℕ × ℤ). q.0 < m)
below_more_pairs n m (p ∷ ps) le h =
    let lt : p.0 < n = All-head (λ (q : ℕ × ℤ). q.0 < n) p ps h in
    All-cons (λ (q : ℕ × ℤ). q.0 < m) p ps (omega arith) (below_more_pairs n m ps le (All-tail (λ (q : ℕ × ℤ). q.0 < n) p ps h))

pub over_more : (n m : ℕ) (t : Linear) → n ≤ m → IsOver n t → IsOver m t
over_more n m t le h = below_more_pairs n m t.pairs le h

pub over_number : (n : ℕ) (k : ℤ) → IsOver n (linear.number k)
over_number n k = All-nil (λ (q : ℕ × ℤ). q.0 < n)

pub over_name : (n x : ℕ) → x < n → IsOver n (linear.name x)
over_name n x lt = All-cons (λ (q : ℕ × ℤ). q.0 < n) (x, pos 1) [] lt (All-nil (λ (q : ℕ × ℤ). q.0 < n))
