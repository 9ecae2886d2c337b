-- What is in force, by assertion levels.
use Rattle.std.proofs.Common.{ℕ, ◌≡◌, ◌≤◌, ◌&&◌, Bool, true, false, nat_le, List, [], ◌∷◌, ◌++◌, length, reverse, take, refl, sym, ap, subst, ◌∙◌, suc, arith}
use Rattle.std.proofs.lemmas.Bool.Decides.{nat_tests}
use Rattle.std.proofs.lemmas.List.{length-reverse, reverse-append, take-append-le}
use Rattle.smt_commands.specs.Levels.{Levels, level_fewer, level_more, popped, pushed, with_now}
use Rattle.smt_commands.specs.Marks.{are_marks, taken_at}

-- the same as a fact
abbrev AreMarks : {A : Type 0} → List A → List ℕ → Type 0
AreMarks es [] = Unit {0}
AreMarks es (m ∷ ms) = (m ≤ length es) × AreMarks (take m es) ms

both_true : (a b : Bool) → a ≡ true → b ≡ true → (a && b) ≡ true
both_true a b e f = ap (λ z. z && b) e ∙ f

left_true : (a b : Bool) → (a && b) ≡ true → a ≡ true
left_true true b e = refl
left_true false b e = absurd (cc)

right_true : (a b : Bool) → (a && b) ≡ true → b ≡ true
right_true true b e = e
right_true false b e = absurd (cc)

at_most : (m n : ℕ) → nat_le m n ≡ true → m ≤ n
at_most m n e = grind (arith, nat_tests)

is_at_most : (m n : ℕ) → m ≤ n → nat_le m n ≡ true
is_at_most m n h = grind (arith, nat_tests, h)

marked : {A : Type 0} (es : List A) (ms : List ℕ) → are_marks es ms ≡ true → AreMarks es ms
marked es [] e = tt
marked es (m ∷ ms) e = (
  at_most m (length es) (left_true (nat_le m (length es)) (are_marks (take m es) ms) e),
  marked (take m es) ms (right_true (nat_le m (length es)) (are_marks (take m es) ms) e),
)

marks : {A : Type 0} (es : List A) (ms : List ℕ) → AreMarks es ms → are_marks es ms ≡ true
marks es [] h = refl
marks es (m ∷ ms) h = both_true (nat_le m (length es)) (are_marks (take m es) ms) (is_at_most m (length es) h.0) (marks (take m es) ms h.1)

pub taken_length : {A : Type 0} (es : List A) (ms : List ℕ) → length (taken_at es ms) ≡ length ms
taken_length es [] = refl
taken_length es (m ∷ ms) = ap suc (taken_length (take m es) ms)

pub open_is : {A : Type 0} (es : List A) (ms : List ℕ) → length ms ≡ length (taken_at es (reverse ms))
open_is es ms = sym (taken_length es (reverse ms) ∙ length-reverse ms)

longer : {A : Type 0} (xs : List A) (x : A) → length (xs ++ x ∷ []) ≡ suc (length xs)
longer [] x = refl
longer (y ∷ xs) x = ap suc (longer xs x)

-- one more in force
more_marked : {A : Type 0} (es : List A) (e : A) (ms : List ℕ) → AreMarks es ms → AreMarks (es ++ e ∷ []) ms
more_marked es e [] h = tt
more_marked es e (m ∷ ms) h = (omega (arith, h.0, longer es e), subst (λ z. AreMarks z ms) (sym (take-append-le m es (e ∷ []) h.0)) h.1)

pub marks_more : {A : Type 0} (es : List A) (e : A) (ms : List ℕ) → are_marks es ms ≡ true → are_marks (es ++ e ∷ []) ms ≡ true
marks_more es e ms h = marks (es ++ e ∷ []) ms (more_marked es e ms (marked es ms h))

taken_by : {A : Type 0} (es : List A) (e : A) (ms : List ℕ) → AreMarks es ms → taken_at (es ++ e ∷ []) ms ≡ taken_at es ms
taken_by es e [] h = refl
taken_by es e (m ∷ ms) h = ap (λ z. z ∷ taken_at z ms) (take-append-le m es (e ∷ []) h.0)

pub taken_more : {A : Type 0} (es : List A) (e : A) (ms : List ℕ) → are_marks es ms ≡ true → taken_at (es ++ e ∷ []) ms ≡ taken_at es ms
taken_more es e ms h = taken_by es e ms (marked es ms h)

take_whole : {A : Type 0} (es : List A) → take (length es) es ≡ es
take_whole [] = refl
take_whole (e ∷ es) = ap (λ z. e ∷ z) (take_whole es)

last_first : (ms : List ℕ) (m : ℕ) → reverse (ms ++ m ∷ []) ≡ m ∷ reverse ms
last_first ms m = reverse-append ms (m ∷ [])

-- one level more
pub pushed_marks : {A : Type 0} (es : List A) (old new : List ℕ) (n : ℕ) → n ≡ length es → new ≡ old ++ n ∷ [] → are_marks es (reverse old) ≡ true → are_marks es (reverse new) ≡ true
pushed_marks es old new n l is h =
    ap (are_marks es) (ap reverse is ∙ last_first old n)
    ∙ both_true (nat_le n (length es)) (are_marks (take n es) (reverse old)) (is_at_most n (length es) (omega (arith, l))) (ap (λ z. are_marks z (reverse old)) (ap (λ k. take k es) l ∙ take_whole es) ∙ h)

pub pushed_taken : {A : Type 0} (es : List A) (old new : List ℕ) (n : ℕ) → n ≡ length es → new ≡ old ++ n ∷ [] → taken_at es (reverse new) ≡ es ∷ taken_at es (reverse old)
pushed_taken es old new n l is =
    ap (taken_at es) (ap reverse is ∙ last_first old n) ∙ ap (λ z. z ∷ taken_at z (reverse old)) (ap (λ k. take k es) l ∙ take_whole es)

-- one level fewer
pub popped_marks : {A : Type 0} (es : List A) (old new : List ℕ) (n : ℕ) → old ≡ new ++ n ∷ [] → are_marks es (reverse old) ≡ true → are_marks (take n es) (reverse new) ≡ true
popped_marks es old new n is h =
    right_true (nat_le n (length es)) (are_marks (take n es) (reverse new)) (sym (ap (are_marks es) (ap reverse is ∙ last_first new n)) ∙ h)

pub popped_taken : {A : Type 0} (es : List A) (old new : List ℕ) (n : ℕ) → old ≡ new ++ n ∷ [] → taken_at es (reverse old) ≡ take n es ∷ taken_at (take n es) (reverse new)
popped_taken es old new n is = ap (taken_at es) (ap reverse is ∙ last_first new n)

-- what is in force with one more
pub view_more : {A : Type 0} (es new : List A) (e : A) (ms : List ℕ) (l : Levels (List A)) → new ≡ es ++ e ∷ [] → are_marks es (reverse ms) ≡ true → record { now = es; below = taken_at es (reverse ms) } ≡ l
    → record { now = new; below = taken_at new (reverse ms) } ≡ with_now l (l.now ++ e ∷ [])
view_more es new e ms l is within view =
    ap (λ z. record { now = z; below = taken_at z (reverse ms) }) is ∙ ap (λ z. record { now = es ++ e ∷ []; below = z }) (taken_more es e (reverse ms) within) ∙ ap (λ z. with_now z (z.now ++ e ∷ [])) view

pub more_within : {A : Type 0} (es new : List A) (e : A) (ms : List ℕ) → new ≡ es ++ e ∷ [] → are_marks es (reverse ms) ≡ true → are_marks new (reverse ms) ≡ true
more_within es new e ms is within = ap (λ z. are_marks z (reverse ms)) is ∙ marks_more es e (reverse ms) within

-- levels one by one

pub pushed_on : {A : Type 0} (n m : ℕ) (l new whole : Levels A) → n ≡ suc m → new ≡ level_more l → pushed n l ≡ whole → pushed m new ≡ whole
pushed_on n m l new whole count is w = ap (pushed m) is ∙ ap (λ k. pushed k l) (sym count) ∙ w

pub pushed_all : {A : Type 0} (n : ℕ) (l whole : Levels A) → n ≡ 0 → pushed n l ≡ whole → l ≡ whole
pushed_all n l whole none w = ap (λ k. pushed k l) (sym none) ∙ w

pub popped_on : {A : Type 0} (n m : ℕ) (l new whole : Levels A) → n ≡ suc m → new ≡ level_fewer l → popped n l ≡ whole → popped m new ≡ whole
popped_on n m l new whole count is w = ap (popped m) is ∙ ap (λ k. popped k l) (sym count) ∙ w

pub popped_all : {A : Type 0} (n : ℕ) (l whole : Levels A) → n ≡ 0 → popped n l ≡ whole → l ≡ whole
popped_all n l whole none w = ap (λ k. popped k l) (sym none) ∙ w
