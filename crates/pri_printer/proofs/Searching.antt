-- One step of the search for a free name.
use Rattle.std.proofs.Common.{◌≡◌, ℕ, zero, suc, ◌+◌, ◌-◌, ◌<◌, ◌≤◌, true, false, cond, List, refl, sym, ap, ◌∙◌, arith}
use Rattle.pri_typing.specs.declared.problem.Problem.{Problem}
use Rattle.base_texts.specs.Texts.{is_among}
use Rattle.pri_printer.specs.Quotient.{quotient_name, quotient_number, free_from}
use Rattle.pri_typing.specs.WellFormed.{names_of_symbols}
use Rattle.pri_typing.proofs.Distinct.{among-append}

pub ruleset among = among-append

-- the search from some number on
unfoldable pub free_within : ℕ → ℕ → List (List ℕ) → ℕ
free_within = free_from

pub free_begin : (p : Problem) → free_within (1000 - 0) 0 (names_of_symbols p) ≡ quotient_number p
unfolding free_within quotient_number
free_begin p = refl

step_stop : (m n q : ℕ) (names : List (List ℕ)) → 1 ≤ m → free_from m n names ≡ q → is_among (quotient_name n) names ≡ false → n ≡ q
step_stop zero n q names h e f = absurd (omega arith)
step_stop (suc m) n q names h e f = sym (ap (λ b. cond b (free_from m (suc n) names) n) f) ∙ e

step_more : (m n q : ℕ) (names : List (List ℕ)) → free_from (suc m) n names ≡ q → is_among (quotient_name n) names ≡ true → free_from m (suc n) names ≡ q
step_more m n q names e f = sym (ap (λ b. cond b (free_from m (suc n) names) n) f) ∙ e

pub free_stop : (n : ℕ) (p : Problem) → n < 1000 → free_within (1000 - n) n (names_of_symbols p) ≡ quotient_number p
    → is_among (quotient_name n) (names_of_symbols p) ≡ false → n ≡ quotient_number p
unfolding free_within
free_stop n p h e f = step_stop (1000 - n) n (quotient_number p) (names_of_symbols p) (omega arith) e f

pub free_more : (n : ℕ) (p : Problem) → n < 1000 → free_within (1000 - n) n (names_of_symbols p) ≡ quotient_number p
    → is_among (quotient_name n) (names_of_symbols p) ≡ true → free_within (1000 - (n + 1)) (n + 1) (names_of_symbols p) ≡ quotient_number p
unfolding free_within
free_more n p h e f =
    let a : 1000 - n ≡ suc (1000 - (n + 1)) = omega arith in
    let b : suc n ≡ n + 1 = omega arith in
    ap (λ k. free_from (1000 - (n + 1)) k (names_of_symbols p)) (sym b)
    ∙ step_more (1000 - (n + 1)) n (quotient_number p) (names_of_symbols p) (ap (λ m. free_from m n (names_of_symbols p)) (sym a) ∙ e) f

pub free_end : (n : ℕ) (p : Problem) → 1000 ≤ n → n ≤ 1000 → free_within (1000 - n) n (names_of_symbols p) ≡ quotient_number p → 1000 ≡ quotient_number p
unfolding free_within
free_end n p h l e =
    let a : n ≡ 1000 = omega arith in
    let b : 1000 - n ≡ 0 = omega arith in
    sym a ∙ sym (ap (λ m. free_from m n (names_of_symbols p)) b) ∙ e
