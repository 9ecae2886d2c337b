-- Where the rules apply, by tests of the code.
use Rattle.std.proofs.Common.{◌≡◌, ◌<◌, ◌≤◌, ◌+◌, ℕ, Bool, true, false, not, ◌&&◌, ◌||◌, cond, nat_eq, nat_lt, List, Some, drop, length, get_or, sym, ◌∙◌, ap, arith}
use Rattle.std.specs.Prelude.{count_by, slice_get}
use Rattle.std.specs.List.{list_any}
use Rattle.std.proofs.lemmas.Bool.Decides.{nat_tests}
use Rattle.std.proofs.lemmas.List.Sums.{sum_by-cons}
use Rattle.std.proofs.lemmas.Option.{slice_get_past}
use Rattle.base_budget.specs.declared.log.Entry.TheVariants.{Equation, Apart, Merge, Shift}
use Rattle.base_budget.proofs.Charging.{drop-item, drop_all}
use Rattle.clause_set.specs.declared.literal.Literal.{Literal}
use Rattle.clause_set.specs.Names.{is_equation, is_divisibility, is_indivisibility}
use Rattle.clause_set.specs.Rules.{passes, applies, is_only_divisibility}

pub passes_at : (test : Literal → Bool) (c : List Literal) (i : ℕ) (l : Literal) (b : Bool) → slice_get c i ≡ Some l → b ≡ test l → b ≡ passes test (slice_get c i)
passes_at test c i l b is h = h ∙ sym (ap (passes test) is)

pub passes_past : (test : Literal → Bool) (c : List Literal) (i n : ℕ) → n ≡ length c → n ≤ i → false ≡ passes test (slice_get c i)
passes_past test c i n is le = sym (ap (passes test) (slice_get_past c i (omega (arith, is))))

pub equation_at : (x i : ℕ) (c : List Literal) (l : Literal) (b : Bool) → slice_get c i ≡ Some l → b ≡ is_equation x l → b ≡ applies x c (Equation i)
unfolding applies
equation_at x i c l b is h = passes_at (is_equation x) c i l b is h

pub equation_past : (x i : ℕ) (c : List Literal) (n : ℕ) → n ≡ length c → n ≤ i → false ≡ applies x c (Equation i)
unfolding applies
equation_past x i c n is le = passes_past (is_equation x) c i n is le

pub indivisibility_at : (x i : ℕ) (c : List Literal) (l : Literal) (b : Bool) → slice_get c i ≡ Some l → b ≡ is_indivisibility x l → b ≡ applies x c (Apart i)
unfolding applies
indivisibility_at x i c l b is h = passes_at (is_indivisibility x) c i l b is h

pub indivisibility_past : (x i : ℕ) (c : List Literal) (n : ℕ) → n ≡ length c → n ≤ i → false ≡ applies x c (Apart i)
unfolding applies
indivisibility_past x i c n is le = passes_past (is_indivisibility x) c i n is le

-- i < j, and both tests
pub both_pass : (x i j : ℕ) (c : List Literal) (a b : Bool) → i < j → a ≡ passes (is_divisibility x) (slice_get c i) → a ≡ true → b ≡ passes (is_divisibility x) (slice_get c j) → b ≡ applies x c (Merge i j)
unfolding applies
both_pass x i j c a b lt is_a holds is_b =
    let less : nat_lt i j ≡ true = grind (arith, nat_tests) in
    is_b ∙ sym (ap (λ z. z && (passes (is_divisibility x) (slice_get c i) && passes (is_divisibility x) (slice_get c j))) less
    ∙ ap (λ z. z && passes (is_divisibility x) (slice_get c j)) (sym is_a ∙ holds))

pub first_fails : (x i j : ℕ) (c : List Literal) (a : Bool) → i < j → a ≡ passes (is_divisibility x) (slice_get c i) → a ≡ false → false ≡ applies x c (Merge i j)
unfolding applies
first_fails x i j c a lt is_a fails =
    let less : nat_lt i j ≡ true = grind (arith, nat_tests) in
    sym (ap (λ z. z && (passes (is_divisibility x) (slice_get c i) && passes (is_divisibility x) (slice_get c j))) less
    ∙ ap (λ z. z && passes (is_divisibility x) (slice_get c j)) (sym is_a ∙ fails))

pub not_before : (x i j : ℕ) (c : List Literal) → j ≤ i → false ≡ applies x c (Merge i j)
unfolding applies
not_before x i j c le =
    let less : nat_lt i j ≡ false = grind (arith, nat_tests) in
    sym (ap (λ z. z && (passes (is_divisibility x) (slice_get c i) && passes (is_divisibility x) (slice_get c j))) less)

-- the only one
only_of : (a : Bool) (n : ℕ) (b others : Bool) → others ≡ b → (a && (nat_eq n 1 && not others)) ≡ (a && (nat_eq n 1 && not b))
only_of a n b others is = ap (λ z. a && (nat_eq n 1 && not z)) is

pub only_all : (x i : ℕ) (c ls : List Literal) (a : Bool) (n : ℕ) (o : Bool) → a ≡ passes (is_divisibility x) (slice_get c i) → a ≡ true → ls ≡ c → n ≡ count_by (is_divisibility x) ls → n ≡ 1
    → o ≡ list_any (λ l. is_equation x l || is_indivisibility x l) c → not o ≡ applies x c (Shift i)
unfolding applies
only_all x i c ls a n o is_a holds same is_n one is_o =
    let count : nat_eq (count_by (is_divisibility x) c) 1 ≡ true = ap (λ k. nat_eq k 1) (sym (ap (λ z. count_by (is_divisibility x) z) same) ∙ sym is_n ∙ one) in
    ap not is_o
    ∙ sym (ap (λ z. z && (nat_eq (count_by (is_divisibility x) c) 1 && not (list_any (λ l. is_equation x l || is_indivisibility x l) c))) (sym is_a ∙ holds)
    ∙ ap (λ z. z && not (list_any (λ l. is_equation x l || is_indivisibility x l) c)) count)

pub only_fails : (x i : ℕ) (c : List Literal) (a : Bool) → a ≡ passes (is_divisibility x) (slice_get c i) → a ≡ false → false ≡ applies x c (Shift i)
unfolding applies
only_fails x i c a is_a fails = sym (ap (λ z. z && is_only_divisibility x c) (sym is_a ∙ fails))

pub only_not_one : (x i : ℕ) (c ls : List Literal) (a : Bool) (n : ℕ) → a ≡ passes (is_divisibility x) (slice_get c i) → a ≡ true → ls ≡ c → n ≡ count_by (is_divisibility x) ls → nat_eq n 1 ≡ false
    → false ≡ applies x c (Shift i)
unfolding applies
only_not_one x i c ls a n is_a holds same is_n other =
    let count : nat_eq (count_by (is_divisibility x) c) 1 ≡ false = ap (λ k. nat_eq k 1) (sym (ap (λ z. count_by (is_divisibility x) z) same) ∙ sym is_n) ∙ other in
    sym (ap (λ z. z && is_only_divisibility x c) (sym is_a ∙ holds) ∙ ap (λ z. z && not (list_any (λ l. is_equation x l || is_indivisibility x l) c)) count)

pub ruleset places = (passes_at, passes_past, equation_at, equation_past, indivisibility_at, indivisibility_past, both_pass, first_fails, not_before, only_all, only_fails, only_not_one)

-- ---- counting
pub record Counts (test : Literal → Bool) (xs : List Literal) (i n : ℕ) : Type 0 where
  pub is : n + count_by test (drop i xs) ≡ count_by test xs
  pub within : n ≤ i

pub counts_none : (test : Literal → Bool) (xs : List Literal) → Counts test xs 0 0
counts_none test xs = record { is = omega arith; within = omega arith }

count_step : (test : Literal → Bool) (xs : List Literal) (i : ℕ) (l : Literal) → i < length xs → l ≡ get_or xs i l → count_by test (drop i xs) ≡ cond (test l) 1 0 + count_by test (drop (i + 1) xs)
count_step test xs i l lt is = ap (λ z. count_by test z) (drop-item xs i l lt is) ∙ sum_by-cons (λ z. cond (test z) 1 0) l (drop (i + 1) xs)

pub counts_more : (test : Literal → Bool) (xs : List Literal) (i n : ℕ) (l : Literal) → i < length xs → l ≡ get_or xs i l → test l ≡ true → Counts test xs i n → Counts test xs (i + 1) (n + 1)
counts_more test xs i n l lt is holds h =
    let one : count_by test (drop i xs) ≡ 1 + count_by test (drop (i + 1) xs) = count_step test xs i l lt is ∙ ap {B = ℕ} (λ b. cond b 1 0 + count_by test (drop (i + 1) xs)) holds in
    record { is = omega (arith, one, h.is); within = omega (arith, h.within) }

pub counts_less : (test : Literal → Bool) (xs : List Literal) (i n : ℕ) (l : Literal) → i < length xs → l ≡ get_or xs i l → test l ≡ false → Counts test xs i n → Counts test xs (i + 1) n
counts_less test xs i n l lt is fails h =
    let none : count_by test (drop i xs) ≡ 0 + count_by test (drop (i + 1) xs) = count_step test xs i l lt is ∙ ap {B = ℕ} (λ b. cond b 1 0 + count_by test (drop (i + 1) xs)) fails in
    record { is = omega (arith, none, h.is); within = omega (arith, h.within) }

pub counts_all : (test : Literal → Bool) (xs : List Literal) (i n : ℕ) → length xs ≤ i → Counts test xs i n → n ≡ count_by test xs
counts_all test xs i n le h =
    let none : count_by test (drop i xs) ≡ 0 = ap (λ z. count_by test z) (drop_all xs i le) in
    omega (arith, none, h.is)

pub ruleset counting = (counts_none, counts_more, counts_less, counts_all)
