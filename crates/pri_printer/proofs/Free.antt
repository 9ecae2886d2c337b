-- Some name of a quotient is free: there are more of them than symbols.
use Rattle.std.proofs.Common.{◌≡◌, ℕ, zero, suc, ◌+◌, ◌<◌, ◌≤◌, ◌^◌, Bool, true, false, ◌||◌, cond, List, [], ◌∷◌, length, refl, sym, ap, subst, ◌∙◌, arith, inl, inr}
use Rattle.std.specs.Fmt.{decimal}
use Rattle.std.specs.List.{list_all}
use Rattle.std.specs.Char.{is_ascii_digit}
use Rattle.std.proofs.lemmas.Fmt.{decimal_injective}
use Rattle.std.proofs.lemmas.Bool.{false≢true, cases_lt}
use Rattle.base_numerals.proofs.Tests.{left_true, right_true}
use Rattle.pri_printer.proofs.Lexing.{digit_is_name_byte}
use Rattle.pri_tokens.specs.Lexemes.{is_name_byte}
use Rattle.base_texts.specs.Texts.{is_text, is_among}
use Rattle.pri_printer.specs.Quotient.{quotient_name, free_from}
use Rattle.pri_tokens.specs.Written.{IsIdentifier}
use Rattle.pri_typing.proofs.Distinct.{text_same}
use Rattle.base_numerals.proofs.Decimals.{decimal_is}

-- the others
without : List ℕ → List (List ℕ) → List (List ℕ)
without t [] = []
without t (x ∷ xs) = cond (is_text t x) (without t xs) (x ∷ without t xs)

without_shorter : (t : List ℕ) (xs : List (List ℕ)) → length (without t xs) ≤ length xs
unfolding without
without_shorter t [] = omega arith
without_shorter t (x ∷ xs) = by (is_text t x) (without_shorter t xs)
  where
    by : (b : Bool) → length (without t xs) ≤ length xs → length (cond b (without t xs) (x ∷ without t xs)) ≤ suc (length xs)
    by true k = omega arith
    by false k = omega arith

without_less : (t : List ℕ) (xs : List (List ℕ)) → is_among t xs ≡ true → suc (length (without t xs)) ≤ length xs
unfolding without
without_less t [] h = absurd (false≢true h)
without_less t (x ∷ xs) h = by (is_text t x) (without_less t xs) h
  where
    by : (b : Bool) → (is_among t xs ≡ true → suc (length (without t xs)) ≤ length xs) → (b || is_among t xs) ≡ true
        → suc (length (cond b (without t xs) (x ∷ without t xs))) ≤ suc (length xs)
    by true f k = omega (arith, without_shorter t xs)
    by false f k = omega (arith, f k)

without_keeps : (t u : List ℕ) (xs : List (List ℕ)) → is_text u t ≡ false → is_among u xs ≡ true → is_among u (without t xs) ≡ true
unfolding without
without_keeps t u [] d h = h
without_keeps t u (x ∷ xs) d h = by (without_keeps t u xs d) (is_text t x) refl (is_text u x) refl h
  where
    by : (is_among u xs ≡ true → is_among u (without t xs) ≡ true) → (b : Bool) → is_text t x ≡ b → (c : Bool) → is_text u x ≡ c → (c || is_among u xs) ≡ true → is_among u (cond b (without t xs) (x ∷ without t xs)) ≡ true
    by g true e true f k = absurd (false≢true (sym d ∙ ap (is_text u) (text_same t x e) ∙ f))
    by g true e false f k = g k
    by g false e true f k = ap (λ z. z || is_among u (without t xs)) f
    by g false e false f k = ap (λ z. z || is_among u (without t xs)) f ∙ g k

tail_of : List ℕ → List ℕ
tail_of [] = []
tail_of (b ∷ bs) = bs

other_name : (i m : ℕ) → i < m → m < 2 ^ 64 → is_text (quotient_name i) (quotient_name m) ≡ false
unfolding tail_of
other_name i m h l = by (is_text (quotient_name i) (quotient_name m)) refl
  where
    by : (b : Bool) → is_text (quotient_name i) (quotient_name m) ≡ b → b ≡ false
    by true e = absurd (omega (arith, decimal_injective i m (omega arith) l (ap tail_of (text_same (quotient_name i) (quotient_name m) e))))
    by false e = refl

-- the first n names are among no fewer than n texts
pigeonhole : (n : ℕ) (names : List (List ℕ)) → n < 2 ^ 64 → ((i : ℕ) → i < n → is_among (quotient_name i) names ≡ true) → n ≤ length names
pigeonhole zero names l h = omega arith
pigeonhole (suc m) names l h =
    let less = without_less (quotient_name m) names (h m (omega arith)) in
    let more = pigeonhole m (without (quotient_name m) names) (omega arith) (λ i s. without_keeps (quotient_name m) (quotient_name i) names (other_name i m s (omega arith)) (h i (omega arith))) in
    omega (arith, less, more)

up_to : (n : ℕ) (P : ℕ → Type 0) → ((i : ℕ) → i < n → P i) → P n → (i : ℕ) → i < suc n → P i
up_to n P h k i l = elim (cases_lt i n) [ inl s ↦ h i s | inr g ↦ subst P (omega arith) k ]

pub free_from_free : (more n : ℕ) (names : List (List ℕ)) → n + more < 2 ^ 63 → length names ≤ n + more
    → ((i : ℕ) → i < n → is_among (quotient_name i) names ≡ true) → is_among (quotient_name (free_from more n names)) names ≡ false
free_from_free zero n names s l h = by (is_among (quotient_name n) names) refl
  where
    by : (b : Bool) → is_among (quotient_name n) names ≡ b → b ≡ false
    by true e = absurd (omega (arith, pigeonhole (suc n) names (omega arith) (up_to n (λ i. is_among (quotient_name i) names ≡ true) h e)))
    by false e = refl
free_from_free (suc more) n names s l h = by (free_from_free more (suc n) names (omega arith) (omega arith)) (is_among (quotient_name n) names) refl
  where
    by : (((i : ℕ) → i < suc n → is_among (quotient_name i) names ≡ true) → is_among (quotient_name (free_from more (suc n) names)) names ≡ false) → (b : Bool) → is_among (quotient_name n) names ≡ b → is_among (quotient_name (cond b (free_from more (suc n) names) n)) names ≡ false
    by g true e = g (up_to n (λ i. is_among (quotient_name i) names ≡ true) h e)
    by g false e = e

pub free_from_least : (more n i : ℕ) (names : List (List ℕ)) → n ≤ i → i < free_from more n names → is_among (quotient_name i) names ≡ true
free_from_least zero n i names h l = absurd (omega arith)
free_from_least (suc more) n i names h l = by (λ g k. free_from_least more (suc n) i names g k) (is_among (quotient_name n) names) refl l
  where
    by : (suc n ≤ i → i < free_from more (suc n) names → is_among (quotient_name i) names ≡ true) → (b : Bool) → is_among (quotient_name n) names ≡ b → i < cond b (free_from more (suc n) names) n → is_among (quotient_name i) names ≡ true
    by f true e k = elim (cases_lt n i) [ inl s ↦ f s k | inr g ↦ subst (λ z. is_among (quotient_name z) names ≡ true) (omega arith) e ]
    by f false e k = absurd (omega arith)

digits_pass : (bs : List ℕ) → list_all is_ascii_digit bs ≡ true → list_all is_name_byte bs ≡ true
digits_pass [] h = refl
digits_pass (b ∷ bs) h = rw (digit_is_name_byte b (left_true (is_ascii_digit b) (list_all is_ascii_digit bs) h)) (digits_pass bs (right_true (is_ascii_digit b) (list_all is_ascii_digit bs) h))

pub quotient_name_is : (n : ℕ) → n < 10 ^ 64 → IsIdentifier (quotient_name n)
quotient_name_is n h = rw (digits_pass (decimal n) (decimal_is n h).digits) refl
