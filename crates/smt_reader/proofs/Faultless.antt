-- What terms without faults, and terms built of numerals, are.
use Rattle.std.proofs.Common.{ℕ, suc, ◌≡◌, ◌≤◌, ◌&&◌, ◌||◌, Bool, true, false, List, [], ◌∷◌, ◌++◌, length, map, refl, sym, ap, subst, ◌∙◌, arith, Option, Some, None, nat_eq, nat_le, nat_lt, if◌then◌else◌, codes}
use Rattle.std.proofs.lemmas.Bool.Decides.{nat_tests}
use Rattle.form_typed.specs.Formula as logic
use Rattle.form_typed.specs.Formula.{Formula, Expression, expressions}
use Rattle.pri_typing.specs.WellFormed.{are_numeric, is_numeric}
use Rattle.pri_typing.proofs.Distinct.{text_same}
use Rattle.base_texts.specs.Texts.{is_text}
use Rattle.smt_commands.specs.declared.refusal.ScriptRefusal.{ScriptRefusal}
use Rattle.smt_commands.specs.declared.refusal.ScriptRefusal.TheVariants as r
use Rattle.smt_terms.specs.declared.operator.Sort.{Sort}
use Rattle.smt_terms.specs.declared.operator.Sort.TheVariants as sort
use Rattle.smt_terms.specs.declared.operator.Operator.{Operator}
use Rattle.smt_terms.specs.declared.operator.Operator.TheVariants as op
use Rattle.smt_terms.specs.Term.{PlacedTerms, no_phrase, and_phrase, count}
use Rattle.smt_terms.specs.Operators.{operator_of}
use Rattle.smt_terms.specs.Translation.{Said, term_in, multiplied, operated, Standing, Replacements, Writer, at_depth, use_said, all_said}
use Rattle.smt_typing.specs.Faults.{arity_faults, is_sign, kind_faults}

-- Where there are no faults.

pub none_both : {A : Type 0} (xs ys : List A) → xs ++ ys ≡ [] → (xs ≡ []) × (ys ≡ [])
none_both [] ys e = (refl, e)
none_both (x ∷ xs) ys e = absurd (cc)

kind_is : (k j : Sort) (at : ℕ) → kind_faults (Some k) (Some j) at ≡ [] → j ≡ k
kind_is sort.Int sort.Int at e = refl
kind_is sort.Bool sort.Bool at e = refl
kind_is sort.Int sort.Bool at e = absurd (cc)
kind_is sort.Bool sort.Int at e = absurd (cc)

pub needed_is : (k j : Sort) (s : Option Sort) (at : ℕ) → s ≡ Some j → kind_faults (Some k) s at ≡ [] → j ≡ k
needed_is k j s at e f = kind_is k j at (sym (ap (λ z. kind_faults (Some k) z at) e) ∙ f)

pub fits_by : (b : Bool) (at : ℕ) → arity_faults b at ≡ [] → b ≡ true
fits_by true at e = refl
fits_by false at e = absurd (cc)

pub unknown_by : (b : Bool) (at : ℕ) (more : List ScriptRefusal) → (if b then r.Profile at ∷ [] else r.Undeclared at ∷ []) ++ more ≡ [] → ⊥
unknown_by true at more e = cc
unknown_by false at more e = cc

pub few_by : (b : Bool) (at : ℕ) → (if b then r.NonLinear at ∷ [] else []) ≡ [] → b ≡ false
few_by true at e = absurd (cc)
few_by false at e = refl

pub exactly : (n k : ℕ) → nat_eq n k ≡ true → n ≡ k
exactly n k e = grind (arith, nat_tests)

pub at_least : (k n : ℕ) → nat_le k n ≡ true → k ≤ n
at_least k n e = grind (arith, nat_tests)

pub at_most : (n : ℕ) → nat_lt 1 n ≡ false → n ≤ 1
at_most n e = grind (arith, nat_tests)

pub count_said : (W : Writer) (ns : Replacements) (ts : PlacedTerms) → length (all_said W ns ts) ≡ count ts
count_said W ns no_phrase = refl
count_said W ns (and_phrase t ts) = ap suc (count_said W ns ts)

length_depth : (n : ℕ) (ss : List Standing) → length (at_depth n ss) ≡ length ss
length_depth n [] = refl
length_depth n (s ∷ ss) = ap suc (length_depth n ss)

pub depth_count : (W : Writer) (ns : Replacements) (ts : PlacedTerms) (n : ℕ) → length (at_depth n (all_said W ns ts)) ≡ count ts
depth_count W ns ts n = length_depth n (all_said W ns ts) ∙ count_said W ns ts

-- Terms built of numerals.

-- all are built of numbers
abbrev pub AreNumeric : List Said → Type 0
AreNumeric [] = Unit {0}
AreNumeric (s ∷ ss) = (is_numeric (term_in s) ≡ true) × AreNumeric ss

both_true : (a b : Bool) → a ≡ true → b ≡ true → (a && b) ≡ true
both_true a b e f = ap (λ z. z && b) e ∙ f

pub left_true : (a b : Bool) → (a && b) ≡ true → a ≡ true
left_true true b e = refl
left_true false b e = absurd (cc)

pub right_true : (a b : Bool) → (a && b) ≡ true → b ≡ true
right_true true b e = e
right_true false b e = absurd (cc)

numeric_all : (ss : List Said) → AreNumeric ss → are_numeric (expressions (map term_in ss)) ≡ true
numeric_all [] h = refl
numeric_all (s ∷ ss) h = both_true (is_numeric (term_in s)) (are_numeric (expressions (map term_in ss))) h.0 (numeric_all ss h.1)

numeric_minus : (ss : List Said) → AreNumeric ss → are_numeric (expressions (map logic.minus (map term_in ss))) ≡ true
numeric_minus [] h = refl
numeric_minus (s ∷ ss) h = both_true (is_numeric (term_in s)) (are_numeric (expressions (map logic.minus (map term_in ss)))) h.0 (numeric_minus ss h.1)

numeric_multiplied : (t : Expression) (ss : List Said) → is_numeric t ≡ true → AreNumeric ss → is_numeric (multiplied t (map term_in ss)) ≡ true
numeric_multiplied t [] n h = n
numeric_multiplied t (s ∷ ss) n h = numeric_multiplied (logic.product t (term_in s)) ss (both_true (is_numeric t) (is_numeric (term_in s)) n h.0) h.1

numeric_plus : (ss : List Said) → 1 ≤ length ss → AreNumeric ss → is_numeric (term_in (operated op.Plus ss)) ≡ true
numeric_plus [] e h = absurd (omega arith)
numeric_plus (s ∷ []) e h = h.0
numeric_plus (s ∷ (t ∷ ss)) e h = numeric_all (s ∷ (t ∷ ss)) h

numeric_difference : (ss : List Said) → 1 ≤ length ss → AreNumeric ss → is_numeric (term_in (operated op.Minus ss)) ≡ true
numeric_difference [] e h = absurd (omega arith)
numeric_difference (s ∷ []) e h = h.0
numeric_difference (s ∷ (t ∷ ss)) e h = both_true (is_numeric (term_in s)) (are_numeric (expressions (map logic.minus (map term_in (t ∷ ss))))) h.0 (numeric_minus (t ∷ ss) h.1)

numeric_times : (ss : List Said) → 1 ≤ length ss → AreNumeric ss → is_numeric (term_in (operated op.Times ss)) ≡ true
numeric_times [] e h = absurd (omega arith)
numeric_times (s ∷ []) e h = h.0
numeric_times (s ∷ (t ∷ ss)) e h = numeric_multiplied (term_in s) (t ∷ ss) h.0 h.1

-- the operator of a sign
pub data IsSign : Option Operator → Type 0 where
  plus : IsSign (Some op.Plus)
  minus : IsSign (Some op.Minus)
  times : IsSign (Some op.Times)

sign_by : (x : List ℕ) (a b d : Bool) → is_text x (codes "+") ≡ a → is_text x (codes "-") ≡ b → is_text x (codes "*") ≡ d → (a || (b || (d || false))) ≡ true → IsSign (operator_of x)
sign_by x true b d e f g h = subst (λ z. IsSign (operator_of z)) (sym (text_same x (codes "+") e)) plus
sign_by x false true d e f g h = subst (λ z. IsSign (operator_of z)) (sym (text_same x (codes "-") f)) minus
sign_by x false false true e f g h = subst (λ z. IsSign (operator_of z)) (sym (text_same x (codes "*") g)) times
sign_by x false false false e f g h = absurd (cc)

pub sign_is : (x : List ℕ) → is_sign x ≡ true → IsSign (operator_of x)
sign_is x e = sign_by x (is_text x (codes "+")) (is_text x (codes "-")) (is_text x (codes "*")) refl refl refl e

pub numeric_sign : {o : Option Operator} (W : Writer) (x : List ℕ) (ss : List Standing) (n : ℕ) → IsSign o → 1 ≤ length (at_depth n ss) → AreNumeric (at_depth n ss)
    → is_numeric (term_in (use_said W None o x ss n)) ≡ true
numeric_sign W x ss n plus e h = numeric_plus (at_depth n ss) e h
numeric_sign W x ss n minus e h = numeric_difference (at_depth n ss) e h
numeric_sign W x ss n times e h = numeric_times (at_depth n ss) e h
