-- Integers as texts have them.
use Rattle.std.proofs.Common.{ℕ, zero, suc, ◌≡◌, ◌≤◌, ◌<◌, ◌^◌, ℤ, pos, Bool, true, false, cond, List, [], ◌∷◌, ◌++◌, Option, None, refl, sym, ap, subst, ◌∙◌, arith}
use Rattle.std.specs.Prelude.{int_lt, neg_ℤ, unsigned_abs}
use Rattle.std.proofs.lemmas.Int.{ints}
use Rattle.linear_term.specs.Range.{InRange}
use Rattle.proof_tokens.specs.declared.tokens.Token.{Token}
use Rattle.proof_tokens.specs.declared.tokens.Token.TheVariants as t
use Rattle.proof_tokens.specs.declared.reading.Refusal.{Refusal}
use Rattle.proof_tokens.specs.Lines.{IsNumberIn, IsValueStart, start_token, value_text}
use Rattle.proof_tokens.specs.Reading.{Cuts, RefusesProof, RefusesNext, IsApart}
use Rattle.proof_tokens.proofs.Refusals.{lacked}

-- n or -n
abbrev signed : Bool → ℕ → ℤ
signed minus n = cond minus (neg_ℤ (pos n)) (pos n)

is_signed : (k : ℤ) → signed (int_lt k (pos 0)) (unsigned_abs k) ≡ k
is_signed k = grind (arith, ints)

abbrev text_by : Bool → ℕ → List Token
text_by minus n = cond minus (t.Minus ∷ t.Number n ∷ []) (t.Number n ∷ [])

record Same (p q : Bool) (m n : ℕ) (more : List Token) : Type 0 where
  sign : p ≡ q
  size : m ≡ n
  nothing : more ≡ []

same_by : (p q : Bool) (m n : ℕ) (more : List Token) → text_by p m ≡ text_by q n ++ more → Same p q m n more
same_by true true m n more h = record { sign = refl; size = cc; nothing = let e : [] ≡ more = cc in sym e }
same_by true false m n more h = absurd (cc)
same_by false true m n more h = absurd (cc)
same_by false false m n more h = record { sign = refl; size = cc; nothing = let e : [] ≡ more = cc in sym e }

pub value_apart : IsApart InRange value_text
value_apart u v more i j h =
    let s = same_by (int_lt u (pos 0)) (int_lt v (pos 0)) (unsigned_abs u) (unsigned_abs v) more h in
    (sym (is_signed u) ∙ ap (λ b. signed b (unsigned_abs u)) s.sign ∙ ap (λ n. signed (int_lt v (pos 0)) n) s.size ∙ is_signed v, s.nothing)

not_below : (n : ℕ) → int_lt (pos n) (pos 0) ≡ false
not_below n = grind (arith, ints)

below : (n : ℕ) → 1 ≤ n → int_lt (neg_ℤ (pos n)) (pos 0) ≡ true
below zero h = absurd (omega arith)
below (suc n) h = refl

size_below : (n : ℕ) → unsigned_abs (neg_ℤ (pos n)) ≡ n
size_below zero = refl
size_below (suc n) = refl

-- a number is an integer
pub cut_number : (n : ℕ) (bytes rest : List ℕ) → Cuts (t.Number n ∷ []) bytes rest → Cuts (value_text (pos n)) bytes rest
cut_number n bytes rest c = subst (λ b. Cuts (text_by b n) bytes rest) (sym (not_below n)) c

negative_text : (n : ℕ) → 1 ≤ n → value_text (neg_ℤ (pos n)) ≡ t.Minus ∷ t.Number n ∷ []
negative_text n h = ap (λ b. text_by b (unsigned_abs (neg_ℤ (pos n)))) (below n h) ∙ ap (λ k. t.Minus ∷ t.Number k ∷ []) (size_below n)

-- a `-` and a number are one
pub cut_negative : (n : ℕ) (bytes behind rest : List ℕ) → 1 ≤ n → Cuts (t.Minus ∷ []) bytes behind → Cuts (t.Number n ∷ []) behind rest → Cuts (value_text (neg_ℤ (pos n))) bytes rest
cut_negative n bytes behind rest h c d = subst (λ z. Cuts z bytes rest) (sym (negative_text n h)) (Rattle.proof_tokens.proofs.Cutting.cut_append (t.Minus ∷ []) (t.Number n ∷ []) bytes behind rest c d)

pub negative_range : (n : ℕ) → n < 2 ^ 127 → InRange (neg_ℤ (pos n))
negative_range n h = subst (λ k. k < 2 ^ 127) (sym (size_below n)) h

start_by : (minus : Bool) (n : ℕ) (x : Token) (more : List Token) → text_by minus n ≡ x ∷ more → IsValueStart x
start_by true n x more h = let e : t.Minus ≡ x = cc in subst IsValueStart e tt
start_by false n x more h = let e : t.Number n ≡ x = cc in subst IsValueStart e tt

some_by : (minus : Bool) (n : ℕ) → text_by minus n ≡ [] → ⊥
some_by true n h = cc
some_by false n h = cc

-- no integer begins here
pub no_value : (bytes : List ℕ) (fault : Refusal) → RefusesNext IsValueStart bytes fault → RefusesProof InRange value_text bytes fault
no_value bytes fault lacks = lacked InRange value_text [] bytes bytes IsValueStart fault refl lacks
    (record { value = pos 0; is_value = let z : 0 < 2 ^ 127 = omega arith in z; more = t.Number 0 ∷ []; parts = refl })
    (λ v x more i h. start_by (int_lt v (pos 0)) (unsigned_abs v) x more h)
    (λ v i h. some_by (int_lt v (pos 0)) (unsigned_abs v) h)

digits_by : (minus : Bool) (n : ℕ) (x : Token) (more : List Token) → (minus ≡ true → 1 ≤ n) → n < 2 ^ 127 → text_by minus n ≡ (t.Minus ∷ []) ++ x ∷ more → IsNumberIn 1 170141183460469231731687303715884105727 x
digits_by true n x more some fits h = let e : t.Number n ≡ x = cc in subst (IsNumberIn 1 170141183460469231731687303715884105727) e (some refl, let z : n ≤ 170141183460469231731687303715884105727 = omega arith in z)
digits_by false n x more some fits h = absurd (cc)

only_sign : (minus : Bool) (n : ℕ) → text_by minus n ≡ t.Minus ∷ [] → ⊥
only_sign true n h = cc
only_sign false n h = cc

below_size : (v : ℤ) → int_lt v (pos 0) ≡ true → 1 ≤ unsigned_abs v
below_size v h = grind (arith, ints)

-- no number, or 0, stands after the `-`
pub no_digits : (bytes behind : List ℕ) (fault : Refusal) → Cuts (t.Minus ∷ []) bytes behind → RefusesNext (IsNumberIn 1 170141183460469231731687303715884105727) behind fault → RefusesProof InRange value_text bytes fault
no_digits bytes behind fault cut lacks = lacked InRange value_text (t.Minus ∷ []) bytes behind (IsNumberIn 1 170141183460469231731687303715884105727) fault cut lacks
    (record { value = neg_ℤ (pos 1); is_value = let z : 1 < 2 ^ 127 = omega arith in z; more = t.Number 1 ∷ []; parts = refl })
    (λ v x more i h. digits_by (int_lt v (pos 0)) (unsigned_abs v) x more (λ s. below_size v s) i h)
    (λ v i h. only_sign (int_lt v (pos 0)) (unsigned_abs v) h)

pub minus_cut : (start : Option ℕ) (bytes rest : List ℕ) → start ≡ None → Cuts (start_token start ∷ []) bytes rest → Cuts (t.Minus ∷ []) bytes rest
minus_cut start bytes rest e c = subst (λ s. Cuts (start_token s ∷ []) bytes rest) e c
