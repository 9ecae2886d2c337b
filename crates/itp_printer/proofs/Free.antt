-- The names of bound variables are different from one another and from those of symbols: there are more numbers than symbols.
use Rattle.std.proofs.Common.{◌≡◌, ℕ, zero, suc, ◌+◌, ◌-◌, ◌*◌, ◌<◌, ◌≤◌, ◌^◌, Bool, true, false, ◌||◌, cond, List, [], ◌∷◌, length, refl, sym, ap, subst, ◌∙◌, arith, inl, inr}
use Rattle.std.specs.Fmt.{decimal}
use Rattle.std.specs.List.{list_all}
use Rattle.std.specs.Char.{is_ascii_digit}
use Rattle.std.proofs.lemmas.Bool.{false≢true, cases_lt}
use Rattle.base_numerals.proofs.Tests.{left_true, right_true}
use Rattle.pri_tokens.specs.Lexemes.{is_name_byte}
use Rattle.base_numerals.specs.Numerals.{decimal_value}
use Rattle.pri_tokens.specs.Written.{IsIdentifier}
use Rattle.base_texts.specs.Texts.{is_text, is_among}
use Rattle.pri_typing.specs.declared.problem.Problem.{Problem}
use Rattle.pri_typing.specs.WellFormed.{names_of_symbols}
use Rattle.pri_typing.proofs.Distinct.{text_same}
use Rattle.itp_printer.specs.Variables.{variable_name, free_from, next_number, variable_number, variable_text}
use Rattle.pri_printer.proofs.Lexing.{digit_is_name_byte}
use Rattle.base_numerals.proofs.Decimals.{decimal_is}

-- the others
without : List ℕ → List (List ℕ) → List (List ℕ)
without t [] = []
without t (x ∷ xs) = cond (is_text t x) (without t xs) (x ∷ without t xs)

without_shorter : (t : List ℕ) (xs : List (List ℕ)) → length (without t xs) ≤ length xs
unfolding without
without_shorter t [] = omega arith
without_shorter t (x ∷ xs) = by (is_text t x) (without_shorter t xs)
  where
    by : (b : Bool) → length (without t xs) ≤ length xs → length (cond b (without t xs) (x ∷ without t xs)) ≤ suc (length xs)
    by true k = omega arith
    by false k = omega arith

without_less : (t : List ℕ) (xs : List (List ℕ)) → is_among t xs ≡ true → suc (length (without t xs)) ≤ length xs
unfolding without
without_less t [] h = absurd (false≢true h)
without_less t (x ∷ xs) h = by (is_text t x) (without_less t xs) h
  where
    by : (b : Bool) → (is_among t xs ≡ true → suc (length (without t xs)) ≤ length xs) → (b || is_among t xs) ≡ true
        → suc (length (cond b (without t xs) (x ∷ without t xs))) ≤ suc (length xs)
    by true f k = omega (arith, without_shorter t xs)
    by false f k = omega (arith, f k)

without_keeps : (t u : List ℕ) (xs : List (List ℕ)) → is_text u t ≡ false → is_among u xs ≡ true → is_among u (without t xs) ≡ true
unfolding without
without_keeps t u [] d h = h
without_keeps t u (x ∷ xs) d h = by (without_keeps t u xs d) (is_text t x) refl (is_text u x) refl h
  where
    by : (is_among u xs ≡ true → is_among u (without t xs) ≡ true) → (b : Bool) → is_text t x ≡ b → (c : Bool) → is_text u x ≡ c → (c || is_among u xs) ≡ true → is_among u (cond b (without t xs) (x ∷ without t xs)) ≡ true
    by g true e true f k = absurd (false≢true (sym d ∙ ap (is_text u) (text_same t x e) ∙ f))
    by g true e false f k = g k
    by g false e true f k = ap (λ z. z || is_among u (without t xs)) f
    by g false e false f k = ap (λ z. z || is_among u (without t xs)) f ∙ g k

tail_of : List ℕ → List ℕ
tail_of [] = []
tail_of (b ∷ bs) = bs

same_decimal : (i m : ℕ) → i < 10 ^ 64 → m < 10 ^ 64 → decimal i ≡ decimal m → i ≡ m
same_decimal i m h l e = sym (decimal_is i h).value ∙ ap decimal_value e ∙ (decimal_is m l).value

pub other_name : (i m : ℕ) → i < m → m < 10 ^ 64 → is_text (variable_name i) (variable_name m) ≡ false
unfolding tail_of
other_name i m h l = by (is_text (variable_name i) (variable_name m)) refl
  where
    by : (b : Bool) → is_text (variable_name i) (variable_name m) ≡ b → b ≡ false
    by true e = absurd (omega (arith, same_decimal i m (omega arith) l (ap tail_of (text_same (variable_name i) (variable_name m) e))))
    by false e = refl

-- n names from some number on are among no fewer than n texts
pigeonhole : (n start : ℕ) (names : List (List ℕ)) → start + n < 10 ^ 64 → ((i : ℕ) → start ≤ i → i < start + n → is_among (variable_name i) names ≡ true) → n ≤ length names
pigeonhole zero start names l h = omega arith
pigeonhole (suc m) start names l h =
    let less = without_less (variable_name (start + m)) names (h (start + m) (omega arith) (omega arith)) in
    let more = pigeonhole m start (without (variable_name (start + m)) names) (omega arith)
    (λ i g s. without_keeps (variable_name (start + m)) (variable_name i) names (other_name i (start + m) s (omega arith)) (h i g (omega arith))) in
    omega (arith, less, more)

up_to : (start n : ℕ) (P : ℕ → Type 0) → ((i : ℕ) → start ≤ i → i < n → P i) → P n → (i : ℕ) → start ≤ i → i < suc n → P i
up_to start n P h k i g l = elim (cases_lt i n) [ inl s ↦ h i g s | inr t ↦ subst P (omega arith) k ]

free_from_free : (more n start : ℕ) (names : List (List ℕ)) → start ≤ n → n + more < 10 ^ 63 → start + length names ≤ n + more
    → ((i : ℕ) → start ≤ i → i < n → is_among (variable_name i) names ≡ true) → is_among (variable_name (free_from more n names)) names ≡ false
free_from_free zero n start names g s l h = by (is_among (variable_name n) names) refl
  where
    by : (b : Bool) → is_among (variable_name n) names ≡ b → b ≡ false
    by true e =
        let q : start + (suc n - start) ≡ suc n = omega arith in
        absurd (omega (arith, pigeonhole (suc n - start) start names (omega arith) (λ i a b. up_to start n (λ i. is_among (variable_name i) names ≡ true) h e i a (omega arith))))
    by false e = refl
free_from_free (suc more) n start names g s l h = by (free_from_free more (suc n) start names (omega arith) (omega arith) (omega arith)) (is_among (variable_name n) names) refl
  where
    by : (((i : ℕ) → start ≤ i → i < suc n → is_among (variable_name i) names ≡ true) → is_among (variable_name (free_from more (suc n) names)) names ≡ false)
        → (b : Bool) → is_among (variable_name n) names ≡ b → is_among (variable_name (cond b (free_from more (suc n) names) n)) names ≡ false
    by f true e = f (up_to start n (λ i. is_among (variable_name i) names ≡ true) h e)
    by f false e = e

free_from_bounds : (more n : ℕ) (names : List (List ℕ)) → (n ≤ free_from more n names) × (free_from more n names ≤ n + more)
free_from_bounds zero n names = (omega arith, omega arith)
free_from_bounds (suc more) n names = by (is_among (variable_name n) names) (free_from_bounds more (suc n) names)
  where
    by : (b : Bool) → (suc n ≤ free_from more (suc n) names) × (free_from more (suc n) names ≤ suc n + more)
        → (n ≤ cond b (free_from more (suc n) names) n) × (cond b (free_from more (suc n) names) n ≤ n + suc more)
    by true h = let low = h.0 in let high = h.1 in (omega (arith, low), omega (arith, high))
    by false h = (omega arith, omega arith)

next_bounds : (p : Problem) (n : ℕ) → (n ≤ next_number p n) × (next_number p n ≤ n + 1000)
unfolding next_number
next_bounds p n = free_from_bounds 1000 n (names_of_symbols p)

next_free : (p : Problem) (n : ℕ) → length (names_of_symbols p) ≤ 1000 → n < 10 ^ 62 → is_among (variable_name (next_number p n)) (names_of_symbols p) ≡ false
unfolding next_number
next_free p n h l = free_from_free 1000 n n (names_of_symbols p) (omega arith) (omega arith) (omega arith) (λ i a b. absurd (omega arith))

-- the number of a variable by that of quantifiers around its own
pub variable_bound : (p : Problem) (d : ℕ) → variable_number p d ≤ 1001 * d + 1000
variable_bound p zero = let h = (next_bounds p 0).1 in omega (arith, h)
variable_bound p (suc d) = let k = variable_bound p d in let h = (next_bounds p (suc (variable_number p d))).1 in omega (arith, h, k)

pub variable_rises : (p : Problem) (i d : ℕ) → i < d → variable_number p i < variable_number p d
variable_rises p i zero h = absurd (omega arith)
variable_rises p i (suc d) h =
    let step = (next_bounds p (suc (variable_number p d))).0 in
    elim (cases_lt i d) [ inl s ↦ omega (arith, step, variable_rises p i d s) | inr g ↦ let q : d ≡ i = omega arith in subst (λ z. variable_number p z < variable_number p (suc d)) q (omega (arith, step)) ]

pub variable_free : (p : Problem) (d : ℕ) → length (names_of_symbols p) ≤ 1000 → d < 2 ^ 64 → is_among (variable_text p d) (names_of_symbols p) ≡ false
variable_free p zero h l = next_free p 0 h (omega arith)
variable_free p (suc d) h l = let k = variable_bound p d in next_free p (suc (variable_number p d)) h (omega (arith, k))

pub variables_differ : (p : Problem) (i d : ℕ) → i < d → d < 2 ^ 64 → is_text (variable_text p i) (variable_text p d) ≡ false
variables_differ p i d h l = let k = variable_bound p d in other_name (variable_number p i) (variable_number p d) (variable_rises p i d h) (omega (arith, k))

digits_pass : (bs : List ℕ) → list_all is_ascii_digit bs ≡ true → list_all is_name_byte bs ≡ true
digits_pass [] h = refl
digits_pass (b ∷ bs) h = rw (digit_is_name_byte b (left_true (is_ascii_digit b) (list_all is_ascii_digit bs) h)) (digits_pass bs (right_true (is_ascii_digit b) (list_all is_ascii_digit bs) h))

variable_name_is : (n : ℕ) → n < 10 ^ 64 → IsIdentifier (variable_name n)
variable_name_is n h = rw (digits_pass (decimal n) (decimal_is n h).digits) refl

pub variable_is : (p : Problem) (d : ℕ) → d < 2 ^ 64 → IsIdentifier (variable_text p d)
variable_is p d l = let k = variable_bound p d in variable_name_is (variable_number p d) (omega (arith, k))

-- numbers that are passed over are taken
free_from_least : (more n i : ℕ) (names : List (List ℕ)) → n ≤ i → i < free_from more n names → is_among (variable_name i) names ≡ true
free_from_least zero n i names h l = absurd (omega arith)
free_from_least (suc more) n i names h l = by (λ g k. free_from_least more (suc n) i names g k) (is_among (variable_name n) names) refl l
  where
    by : (suc n ≤ i → i < free_from more (suc n) names → is_among (variable_name i) names ≡ true) → (b : Bool) → is_among (variable_name n) names ≡ b
        → i < cond b (free_from more (suc n) names) n → is_among (variable_name i) names ≡ true
    by f true e k = elim (cases_lt n i) [ inl s ↦ f s k | inr g ↦ subst (λ z. is_among (variable_name z) names ≡ true) (omega arith) e ]
    by f false e k = absurd (omega arith)

next_least : (p : Problem) (n i : ℕ) → n ≤ i → i < next_number p n → is_among (variable_name i) (names_of_symbols p) ≡ true
unfolding next_number
next_least p n i h l = free_from_least 1000 n i (names_of_symbols p) h l

pub first_least : (p : Problem) (i : ℕ) → i < variable_number p 0 → is_among (variable_name i) (names_of_symbols p) ≡ true
first_least p i l = next_least p 0 i (omega arith) l

pub later_least : (p : Problem) (d i : ℕ) → variable_number p d < i → i < variable_number p (suc d) → is_among (variable_name i) (names_of_symbols p) ≡ true
later_least p d i h l = next_least p (suc (variable_number p d)) i (omega (arith, h)) l
