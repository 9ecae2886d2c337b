-- The text of a linear term spells it.
use Rattle.std.proofs.Common.{ℕ, suc, ◌≡◌, ◌≤◌, ◌<◌, ◌+◌, ◌^◌, Bool, true, false, not, cond, ◌==◌, List, [], ◌∷◌, ◌++◌, length, map, refl, ap, arith, pos}
use Rattle.std.specs.Prelude.{nat_eq, slice_index_or}
use Rattle.std.specs.List.{list_all}
use Rattle.std.specs.Char.{is_ascii_digit}
use Rattle.std.specs.Fmt.{decimal}
use Rattle.std.proofs.lemmas.Bool.Decides.{nat_tests}
use Rattle.pri_tokens.specs.Kinds.{is_name, is_number}
use Rattle.base_numerals.proofs.Decimals.{decimal_is}
use Rattle.base_numerals.proofs.Tests.{left_true}
use Rattle.std.proofs.lemmas.Bool.{false≢true}
use Rattle.pri_tokens.specs.Lexemes.{starts_name}
use Rattle.pri_reader.specs.Grammar.{right, multiplication, primary, factor, sum}
use Rattle.form_typed.specs.Formula.{Expression, number, name, minus, product}
use Rattle.pri_typing.specs.Phrase.{Phrase}
use Rattle.pri_typing.specs.Phrase as ph
use Rattle.pri_typing.specs.Scope.{Scope}
use Rattle.pri_printer.proofs.Spells.{Spells, IsTerm, IsNumeral}
use Rattle.pri_printer.specs.Summands.{Summand, alone, times, SignedSummand}
use Rattle.pri_printer.specs.Text.{summand_text, later_text, sum_text}
use Rattle.pri_printer.specs.Formulas.{summand_value, less_summand, later_part, first_value, sum_value}
use Rattle.pri_printer.proofs.Standing.{IsNameOf, Stand, Fits, AreFit}
use Rattle.pri_printer.proofs.Spelling.{heads, spells_as, factor_spelled, product_of_one, number_spelled, name_spelled, minus_spelled, product_spelled}
use Rattle.pri_printer.proofs.Sums.{AreTermsSpelled, sum_spelled}

-- Numbers and names.

number_by : (text : List ℕ) → list_all is_ascii_digit text ≡ true → 1 ≤ length text → is_number text ≡ true
number_by [] a h = absurd (omega arith)
number_by (b ∷ text) a h = a

no_digit : (b : ℕ) → is_ascii_digit b ≡ true → not (b == 62) ≡ true
no_digit b h = grind (arith, nat_tests)

no_letter : (b : ℕ) → starts_name b ≡ true → not (b == 62) ≡ true
no_letter b h = grind (arith, nat_tests)

number_heads : (text : List ℕ) → list_all is_ascii_digit text ≡ true → 1 ≤ length text → heads (λ b. not (b == 62)) text ≡ true
number_heads [] a h = absurd (omega arith)
number_heads (b ∷ text) a h = no_digit b (left_true (is_ascii_digit b) (list_all is_ascii_digit text) a)

name_heads : (text : List ℕ) → is_name text ≡ true → heads (λ b. not (b == 62)) text ≡ true
name_heads [] a = absurd (false≢true a)
name_heads (b ∷ text) a = no_letter b (left_true (starts_name b) _ a)

pub decimal_spelled : (n v : ℕ) (sc : Scope) → v < 2 ^ 127 → Spells n primary (IsNumeral sc (number (pos v))) (decimal v)
decimal_spelled n v sc h =
    let i = decimal_is v (omega arith) in
    number_spelled n v (IsNumeral sc (number (pos v))) (decimal v)
    (λ at. record { term = record { faultless = λ x. refl; is = refl }; numeral = refl })
    (number_by (decimal v) i.digits i.some) i.value h

negative_spelled : (n v : ℕ) (sc : Scope) → v < 2 ^ 127 → Spells (suc n) factor (IsNumeral sc (minus (number (pos v)))) (45 ∷ decimal v)
negative_spelled n v sc h =
    let i = decimal_is v (omega arith) in
    minus_spelled n (IsNumeral sc (number (pos v))) (IsNumeral sc (minus (number (pos v)))) (decimal v)
    (λ at f q. record { term = record { faultless = λ x. q.term.faultless (ph.first_token f); is = ap minus q.term.is }; numeral = q.numeral })
    (number_heads (decimal v) i.digits i.some)
    (factor_spelled n (IsNumeral sc (number (pos v))) (decimal v) (decimal_spelled n v sc h))

pub constant_spelled : (n x : ℕ) (sc : Scope) (text : List ℕ) → IsNameOf sc x text → Spells n primary (IsTerm sc (name x)) text
constant_spelled n x sc text i =
    name_spelled n (IsTerm sc (name x)) text (λ at. record { faultless = λ y. rw i.refers_to refl; is = rw i.refers_to refl }) i.is i.identifier

-- Products.

product_is : (sc : Scope) (a b : Expression) (at sign : ℕ) (f g : Phrase) → IsNumeral sc a f → IsTerm sc b g → IsTerm sc (product a b) (ph.product at f sign g)
product_is sc a b at sign f g q r = record {
  faultless = λ x. rw (q.numeral, q.term.faultless (ph.first_token f), r.faultless (ph.first_token g)) refl;
  is = rw (q.term.is, r.is) refl;
}

pub times_spelled : (n x : ℕ) (sc : Scope) (a : Expression) (left text : List ℕ) → Spells (suc n) factor (IsNumeral sc a) left → IsNameOf sc x text
    → Spells (suc (suc n)) (right multiplication) (IsTerm sc (product a (name x))) (left ++ 42 ∷ text)
times_spelled n x sc a left text h i =
    product_spelled (suc n) (IsNumeral sc a) (IsTerm sc (name x)) (IsTerm sc (product a (name x))) left text
    (λ at sign f g q r. product_is sc a (name x) at sign f g q r) h
    (product_of_one (suc n) (IsTerm sc (name x)) text (factor_spelled (suc n) (IsTerm sc (name x)) text (constant_spelled (suc n) x sc text i)))

alone_name : (n x : ℕ) (sc : Scope) (text : List ℕ) → IsNameOf sc x text → Spells n (right multiplication) (IsTerm sc (name x)) text
alone_name n x sc text i = product_of_one n (IsTerm sc (name x)) text (factor_spelled n (IsTerm sc (name x)) text (constant_spelled n x sc text i))

minus_name : (n x : ℕ) (sc : Scope) (text : List ℕ) → IsNameOf sc x text → Spells (suc n) (right multiplication) (IsTerm sc (minus (name x))) (45 ∷ text)
minus_name n x sc text i =
    product_of_one (suc n) (IsTerm sc (minus (name x))) (45 ∷ text)
    (minus_spelled n (IsTerm sc (name x)) (IsTerm sc (minus (name x))) text
    (λ at f q. record { faultless = λ y. q.faultless (ph.first_token f); is = ap minus q.is })
    (name_heads text i.is) (factor_spelled n (IsTerm sc (name x)) text (constant_spelled n x sc text i)))

-- Summands.

times_by : (c : Bool) (n v x : ℕ) (sc : Scope) (text : List ℕ) → v < 2 ^ 127 → IsNameOf sc x text
    → Spells (suc (suc n)) (right multiplication) (IsTerm sc (cond c (name x) (product (number (pos v)) (name x)))) (cond c text (decimal v ++ 42 ∷ text))
times_by true n v x sc text h i = alone_name (suc (suc n)) x sc text i
times_by false n v x sc text h i =
    times_spelled n x sc (number (pos v)) (decimal v) text
    (factor_spelled (suc n) (IsNumeral sc (number (pos v))) (decimal v) (decimal_spelled (suc n) v sc h)) i

less_by : (c : Bool) (n v x : ℕ) (sc : Scope) (text : List ℕ) → v < 2 ^ 127 → IsNameOf sc x text
    → Spells (suc (suc n)) (right multiplication) (IsTerm sc (cond c (minus (name x)) (product (minus (number (pos v))) (name x)))) (45 ∷ cond c text (decimal v ++ 42 ∷ text))
less_by true n v x sc text h i = minus_name (suc n) x sc text i
less_by false n v x sc text h i =
    times_spelled n x sc (minus (number (pos v))) (45 ∷ decimal v) text (negative_spelled n v sc h) i

numeral_term : (n : ℕ) (sc : Scope) (a : Expression) (text : List ℕ) → Spells n factor (IsNumeral sc a) text → Spells n (right multiplication) (IsTerm sc a) text
numeral_term n sc a text h = product_of_one n (IsTerm sc a) text (spells_as n factor (IsNumeral sc a) (IsTerm sc a) text (λ p q. q.term) h)

summand_spelled : (n : ℕ) (sc : Scope) (names : List (List ℕ)) → Stand sc names → (a : Summand) → Fits (length names) a
    → Spells (suc (suc n)) (right multiplication) (IsTerm sc (summand_value a)) (summand_text names a)
summand_spelled n sc names st (alone v) h =
    numeral_term (suc (suc n)) sc (number (pos v)) (decimal v) (factor_spelled (suc (suc n)) (IsNumeral sc (number (pos v))) (decimal v) (decimal_spelled (suc (suc n)) v sc h))
summand_spelled n sc names st (times v x) h = times_by (nat_eq v 1) n v x sc (slice_index_or names x []) h.0 (st x h.1)

less_spelled : (n : ℕ) (sc : Scope) (names : List (List ℕ)) → Stand sc names → (a : Summand) → Fits (length names) a
    → Spells (suc (suc n)) (right multiplication) (IsTerm sc (less_summand a)) (45 ∷ summand_text names a)
less_spelled n sc names st (alone v) h = numeral_term (suc (suc n)) sc (minus (number (pos v))) (45 ∷ decimal v) (negative_spelled (suc n) v sc h)
less_spelled n sc names st (times v x) h = less_by (nat_eq v 1) n v x sc (slice_index_or names x []) h.0 (st x h.1)

first_by : (c : Bool) (n : ℕ) (sc : Scope) (names : List (List ℕ)) → Stand sc names → (a : Summand) → Fits (length names) a
    → Spells (suc (suc n)) (right multiplication) (IsTerm sc (cond c (less_summand a) (summand_value a))) (cond c (45 ∷ summand_text names a) (summand_text names a))
first_by true n sc names st a h = less_spelled n sc names st a h
first_by false n sc names st a h = summand_spelled n sc names st a h

later_spelled : (n : ℕ) (sc : Scope) (names : List (List ℕ)) → Stand sc names → (more : List SignedSummand) → AreFit (length names) more
    → AreTermsSpelled (suc (suc n)) sc (map (later_text names) more) (map later_part more)
later_spelled n sc names st [] h = tt
later_spelled n sc names st (a ∷ more) h = (refl, summand_spelled n sc names st a.1 h.0, later_spelled n sc names st more h.1)

-- the text of a term
pub term_spelled : (n : ℕ) (sc : Scope) (names : List (List ℕ)) → Stand sc names → (a : SignedSummand) (more : List SignedSummand) → AreFit (length names) (a ∷ more)
    → Spells (suc (suc n)) sum (IsTerm sc (sum_value (a ∷ more))) (sum_text names (a ∷ more))
term_spelled n sc names st a more h =
    sum_spelled (suc (suc n)) sc _ (map (later_text names) more) (first_value a) (map later_part more)
    (first_by a.0 n sc names st a.1 h.0) (later_spelled n sc names st more h.1)
