-- One step of the search for a free number.
use Rattle.std.proofs.Common.{◌≡◌, ℕ, zero, suc, ◌+◌, ◌-◌, ◌<◌, ◌≤◌, true, false, cond, List, [], ◌∷◌, ◌++◌, length, get_or, length-append, subst, inl, inr, ◌*◌, refl, sym, ap, ◌∙◌, arith}
use Rattle.pri_typing.specs.declared.problem.Problem.{Problem}
use Rattle.base_texts.specs.Texts.{is_among}
use Rattle.pri_typing.specs.WellFormed.{names_of_symbols}
use Rattle.itp_printer.specs.Variables.{variable_name, variable_number, next_number, free_from}
use Rattle.itp_printer.specs.Numbers.{AreNumbers}
use Rattle.itp_printer.proofs.Free.{variable_bound}
use Rattle.std.proofs.lemmas.Bool.{cases_lt}

-- the search from some number on
unfoldable pub free_within : ℕ → ℕ → List (List ℕ) → ℕ
free_within = free_from

pub free_begin : (p : Problem) (n m : ℕ) → m ≡ n → free_within (1000 - 0) m (names_of_symbols p) ≡ next_number p n
unfolding free_within next_number
free_begin p n m e = ap (λ k. free_from 1000 k (names_of_symbols p)) e

step_stop : (m n q : ℕ) (names : List (List ℕ)) → 1 ≤ m → free_from m n names ≡ q → is_among (variable_name n) names ≡ false → n ≡ q
step_stop zero n q names h e f = absurd (omega arith)
step_stop (suc m) n q names h e f = sym (ap (λ b. cond b (free_from m (suc n) names) n) f) ∙ e

step_more : (m n q : ℕ) (names : List (List ℕ)) → free_from (suc m) n names ≡ q → is_among (variable_name n) names ≡ true → free_from m (suc n) names ≡ q
step_more m n q names e f = sym (ap (λ b. cond b (free_from m (suc n) names) n) f) ∙ e

pub free_stop : (k n q : ℕ) (p : Problem) → k < 1000 → free_within (1000 - k) n (names_of_symbols p) ≡ q → is_among (variable_name n) (names_of_symbols p) ≡ false → n ≡ q
unfolding free_within
free_stop k n q p h e f = step_stop (1000 - k) n q (names_of_symbols p) (omega arith) e f

pub free_more : (k n m q : ℕ) (p : Problem) → k < 1000 → m ≡ n + 1 → free_within (1000 - k) n (names_of_symbols p) ≡ q
    → is_among (variable_name n) (names_of_symbols p) ≡ true → free_within (1000 - (k + 1)) m (names_of_symbols p) ≡ q
unfolding free_within
free_more k n m q p h o e f =
    let a : 1000 - k ≡ suc (1000 - (k + 1)) = omega arith in
    let b : suc n ≡ m = omega (arith, o) in
    ap (λ z. free_from (1000 - (k + 1)) z (names_of_symbols p)) (sym b)
    ∙ step_more (1000 - (k + 1)) n q (names_of_symbols p) (ap (λ z. free_from z n (names_of_symbols p)) (sym a) ∙ e) f

pub free_end : (k n q : ℕ) (p : Problem) → 1000 ≤ k → free_within (1000 - k) n (names_of_symbols p) ≡ q → n ≡ q
unfolding free_within
free_end k n q p h e =
    let b : 1000 - k ≡ 0 = omega arith in
    sym (ap (λ z. free_from z n (names_of_symbols p)) b) ∙ e

-- where the search for the number of the i-th variable begins
pub next_start : Problem → ℕ → ℕ
next_start p zero = 0
next_start p (suc d) = suc (variable_number p d)

pub start_first : (p : Problem) → 0 ≡ next_start p 0
unfolding next_start
start_first p = refl

pub start_bound : (p : Problem) (i : ℕ) → next_start p i ≤ 1001 * i
unfolding next_start
start_bound p zero = omega arith
start_bound p (suc d) = let k = variable_bound p d in omega (arith, k)

pub number_at : (p : Problem) (i : ℕ) → variable_number p i ≡ next_number p (next_start p i)
unfolding next_start
number_at p zero = refl
number_at p (suc d) = refl

pub start_more : (p : Problem) (i n : ℕ) → n ≡ variable_number p i → n + 1 ≡ next_start p (i + 1)
unfolding next_start
start_more p i n e =
    let q : suc i ≡ i + 1 = omega arith in
    subst (λ z. n + 1 ≡ next_start p z) q (omega (arith, e))

get_before : (xs : List ℕ) (x i : ℕ) → i < length xs → get_or (xs ++ x ∷ []) i 0 ≡ get_or xs i 0
get_before [] x i l = absurd (omega arith)
get_before (y ∷ xs) x zero l = refl
get_before (y ∷ xs) x (suc i) l = get_before xs x i (omega arith)

get_last : (xs : List ℕ) (x : ℕ) → get_or (xs ++ x ∷ []) (length xs) 0 ≡ x
get_last [] x = refl
get_last (y ∷ xs) x = get_last xs x

pub numbers_more : (p : Problem) (ns : List ℕ) (n : ℕ) → AreNumbers p ns → n ≡ variable_number p (length ns) → AreNumbers p (ns ++ n ∷ [])
numbers_more p ns n h e = λ i l.
    elim (cases_lt i (length ns)) [
      | inl s ↦ get_before ns n i s ∙ h i s
      | inr g ↦ let q : length ns ≡ i = omega (arith, length-append ns (n ∷ []), l) in
          subst (λ z. get_or (ns ++ n ∷ []) z 0 ≡ variable_number p z) q (get_last ns n ∙ e)
    ]
