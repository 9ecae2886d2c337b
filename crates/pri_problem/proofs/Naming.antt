-- What a text of a refusal comes of: the names of refusals are different, and that of running out of memory is none of them.
use Rattle.std.proofs.Common.{◌≡◌, ◌+◌, ◌*◌, ℕ, cond, ◌==◌, List, [], ◌∷◌, ◌++◌, drop, Option, Some, None, slice_index_or, sym, ◌∙◌, ap, codes, arith}
use Rattle.std.specs.Str.Parse.{digits_value}
use Rattle.std.proofs.lemmas.Fmt.{decimal_is_IsNumeral}
use Rattle.std.proofs.lemmas.List.{append_cancel_right}
use Rattle.base_answers.specs.Answer.{Answer, placed, refused_answer}
use Rattle.pri_reader.specs.declared.tree.ReadRefusal.TheVariants as reading
use Rattle.pri_typing.specs.declared.problem.TypeRefusal.TheVariants as typing
use Rattle.pri_problem.specs.Reads.{Refusal, FirstRefusal, unread, untyped}
use Rattle.pri_problem.specs.Refusals.{IsNamed, refusal_name}
use Rattle.pri_problem.specs.Refused.{ComesOf}

-- ---- a name is read back
-- the first and the third byte of a text as one number
abbrev letters : List ℕ → ℕ
letters text = slice_index_or text 0 0 * 1000 + slice_index_or text 2 0

-- the place after a name of n bytes
abbrev place_behind : ℕ → List ℕ → ℕ
place_behind n text = digits_value 10 (drop (n + 4) text)

-- the refusal of these letters
abbrev by_letters : ℕ → List ℕ → Option Refusal
by_letters n t =
    cond (n == 83110) (Some (unread (reading.Syntax (place_behind 6 t))))
    (cond (n == 76116) (Some (unread (reading.Literal (place_behind 7 t))))
    (cond (n == 68101) (Some (unread (reading.Deep (place_behind 4 t))))
    (cond (n == 85100) (Some (untyped (typing.Undeclared (place_behind 10 t))))
    (cond (n == 82100) (Some (untyped (typing.Redeclared (place_behind 10 t))))
    (cond (n == 65105) (Some (untyped (typing.Arity (place_behind 5 t))))
    (cond (n == 75110) (Some (untyped (typing.Kind (place_behind 4 t))))
    (cond (n == 78110) (Some (untyped (typing.NonLinear (place_behind 9 t))))
    (cond (n == 80114) (Some (untyped (typing.Parts (place_behind 5 t))))
    (cond (n == 77110) (Some (untyped (typing.Many (place_behind 4 t)))) None)))))))))

read_back : (r : Refusal) → IsNamed r → by_letters (letters (refusal_name r)) (refusal_name r) ≡ Some r
read_back (unread (reading.Syntax at)) h = ap (λ n. Some (unread (reading.Syntax n))) (decimal_is_IsNumeral at h).1
read_back (unread (reading.Literal at)) h = ap (λ n. Some (unread (reading.Literal n))) (decimal_is_IsNumeral at h).1
read_back (unread (reading.Deep at)) h = ap (λ n. Some (unread (reading.Deep n))) (decimal_is_IsNumeral at h).1
read_back (untyped (typing.Undeclared at)) h = ap (λ n. Some (untyped (typing.Undeclared n))) (decimal_is_IsNumeral at h).1
read_back (untyped (typing.Redeclared at)) h = ap (λ n. Some (untyped (typing.Redeclared n))) (decimal_is_IsNumeral at h).1
read_back (untyped (typing.Arity at)) h = ap (λ n. Some (untyped (typing.Arity n))) (decimal_is_IsNumeral at h).1
read_back (untyped (typing.Kind at)) h = ap (λ n. Some (untyped (typing.Kind n))) (decimal_is_IsNumeral at h).1
read_back (untyped (typing.NonLinear at)) h = ap (λ n. Some (untyped (typing.NonLinear n))) (decimal_is_IsNumeral at h).1
read_back (untyped (typing.Parts at)) h = ap (λ n. Some (untyped (typing.Parts n))) (decimal_is_IsNumeral at h).1
read_back (untyped (typing.Many at)) h = ap (λ n. Some (untyped (typing.Many n))) (decimal_is_IsNumeral at h).1
read_back (unread reading.Memory) h = absurd h
read_back (untyped typing.Memory) h = absurd h

some_same : (r q : Refusal) → Some r ≡ Some q → r ≡ q
some_same r q h = cc

pub names_apart : (r q : Refusal) → IsNamed r → IsNamed q → refusal_name r ≡ refusal_name q → r ≡ q
names_apart r q h k e = some_same r q (sym (read_back r h) ∙ ap (λ t. by_letters (letters t) t) e ∙ read_back q k)

-- ---- no refusal of the reader or of typing has a name of another cause
other_letters : (n : ℕ) → ¬ (n ≡ 83110) → ¬ (n ≡ 76116) → ¬ (n ≡ 68101) → ¬ (n ≡ 85100) → ¬ (n ≡ 82100) → ¬ (n ≡ 65105) → ¬ (n ≡ 75110) → ¬ (n ≡ 78110) → ¬ (n ≡ 80114) → ¬ (n ≡ 77110) → ¬ (n ≡ 0)
    → (r : Refusal) → letters (refusal_name r) ≡ n → ⊥
other_letters n a b c d e f g h i j k (unread (reading.Syntax at)) q = a (sym q)
other_letters n a b c d e f g h i j k (unread (reading.Literal at)) q = b (sym q)
other_letters n a b c d e f g h i j k (unread (reading.Deep at)) q = c (sym q)
other_letters n a b c d e f g h i j k (untyped (typing.Undeclared at)) q = d (sym q)
other_letters n a b c d e f g h i j k (untyped (typing.Redeclared at)) q = e (sym q)
other_letters n a b c d e f g h i j k (untyped (typing.Arity at)) q = f (sym q)
other_letters n a b c d e f g h i j k (untyped (typing.Kind at)) q = g (sym q)
other_letters n a b c d e f g h i j k (untyped (typing.NonLinear at)) q = h (sym q)
other_letters n a b c d e f g h i j k (untyped (typing.Parts at)) q = i (sym q)
other_letters n a b c d e f g h i j k (untyped (typing.Many at)) q = j (sym q)
other_letters n a b c d e f g h i j k (unread reading.Memory) q = k (sym q)
other_letters n a b c d e f g h i j k (untyped typing.Memory) q = k (sym q)

large_letters : (r : Refusal) → letters (refusal_name r) ≡ 76114 → ⊥
large_letters = other_letters 76114 (λ z. omega (arith, z)) (λ z. omega (arith, z)) (λ z. omega (arith, z)) (λ z. omega (arith, z)) (λ z. omega (arith, z)) (λ z. omega (arith, z)) (λ z. omega (arith, z)) (λ z. omega (arith, z)) (λ z. omega (arith, z)) (λ z. omega (arith, z)) (λ z. omega (arith, z))

impure_letters : (r : Refusal) → letters (refusal_name r) ≡ 73112 → ⊥
impure_letters = other_letters 73112 (λ z. omega (arith, z)) (λ z. omega (arith, z)) (λ z. omega (arith, z)) (λ z. omega (arith, z)) (λ z. omega (arith, z)) (λ z. omega (arith, z)) (λ z. omega (arith, z)) (λ z. omega (arith, z)) (λ z. omega (arith, z)) (λ z. omega (arith, z)) (λ z. omega (arith, z))

-- answers of refusals are the same where their names are
name_same : (m n : List ℕ) → refused_answer m ≡ refused_answer n → m ≡ n
name_same m n e = ap (drop 9) (append_cancel_right (codes "refused: " ++ m) (codes "refused: " ++ n) (10 ∷ []) (ap (λ a. a.text) e))

-- an answer with the text of a refusal is not that of a large encoding or of an application
pub not_large : (a : Answer) (r : Refusal) → a ≡ refused_answer (refusal_name r) → a ≡ refused_answer (codes "Large") → ⊥
not_large a r e f = large_letters r (ap letters (name_same (refusal_name r) (codes "Large") (sym e ∙ f)))

pub not_impure : (a : Answer) (r : Refusal) (at : ℕ) → a ≡ refused_answer (refusal_name r) → a ≡ refused_answer (placed (codes "Impure") at) → ⊥
not_impure a r at e f = impure_letters r (ap letters (name_same (refusal_name r) (placed (codes "Impure") at) (sym e ∙ f)))

-- nor are these two the same
pub large_apart : (a : Answer) (at : ℕ) → a ≡ refused_answer (codes "Large") → a ≡ refused_answer (placed (codes "Impure") at) → ⊥
large_apart a at e f = let same : 76114 ≡ 73112 = ap letters (name_same (codes "Large") (placed (codes "Impure") at) (sym e ∙ f)) in omega (arith, same)

pub impure_names : (a : Answer) (i at : ℕ) → a ≡ refused_answer (placed (codes "Impure") i) → a ≡ refused_answer (placed (codes "Impure") at) → placed (codes "Impure") i ≡ placed (codes "Impure") at
impure_names a i at e f = name_same (placed (codes "Impure") i) (placed (codes "Impure") at) (sym e ∙ f)

-- it is that of the first refusal
pub comes_of : (bytes : List ℕ) (a : Answer) (r q : Refusal) → a ≡ refused_answer (refusal_name r) → FirstRefusal bytes q → a ≡ refused_answer (refusal_name q) → ComesOf bytes r
comes_of bytes a r q e first f = (q, first, name_same (refusal_name q) (refusal_name r) (sym f ∙ e))
