-- Words that spell literals and factors.
use Rattle.std.proofs.Common.{ℕ, ◌≡◌, ◌<◌, ◌+◌, ◌^◌, ◌==◌, ◌&&◌, not, ℤ, pos, Bool, true, false, cond, List, [], ◌∷◌, ◌++◌, take, drop, length, Option, Some, None, refl, sym, ap, subst, ◌∙◌, append_assoc, arith}
use Rattle.std.specs.Option.{option_map}
use Rattle.std.specs.List.{list_all, prefix_len}
use Rattle.std.specs.Char.{is_ascii_digit}
use Rattle.std.specs.Fmt.{decimal}
use Rattle.std.proofs.lemmas.List.{take-append-drop, take_at, drop_at}
use Rattle.std.proofs.lemmas.Bool.Decides.{nat_tests}
use Rattle.base_numerals.proofs.Tests.{left_true, right_true}
use Rattle.base_numerals.proofs.Decimals.{digits_back}
use Rattle.linear_term.specs.Range.{InRange}
use Rattle.clause_proof.specs.declared.line.Literal.{Literal}
use Rattle.clause_proof.specs.declared.line.Factor.{Factor}
use Rattle.clause_text.specs.Literals.{literal_text, literal_of, IsLiteral, with_sign, factor_text, factor_of, factor_by, multiplied, IsFactor}
use Rattle.clause_words.specs.Tokens.{in_word}
use Rattle.clause_words.specs.Numbers.{index_of, integer_of}
use Rattle.clause_words.specs.Spelling.{integer_text, is_plain, IsSpelling}
use Rattle.clause_words.specs.Terms.{no_star}
use Rattle.clause_words.proofs.Spelled.{index_spelling, integer_spelling, decimal_plain}
use Rattle.clause_words.proofs.Runs.{front_len, star_stops}

at : (b c : ℕ) → (b == c) ≡ true → b ≡ c
at b c h = grind (arith, nat_tests)

index_found : (bs : List ℕ) (s : Bool) (v : Literal) (o : Option ℕ) → index_of bs ≡ o → option_map (with_sign s) o ≡ Some v → IsLiteral v × (cond s 43 45 ∷ bs ≡ literal_text v)
index_found bs s v None p e = absurd cc
index_found bs s v (Some n) p e =
    let q = index_spelling.found bs n p in
    let is : with_sign s n ≡ v = cc in
    subst (λ z. IsLiteral z × (cond s 43 45 ∷ bs ≡ literal_text z)) is (q.0, ap (λ z. cond s 43 45 ∷ z) q.1)

literal_found : (x : List ℕ) (v : Literal) → literal_of x ≡ Some v → IsLiteral v × (x ≡ literal_text v)
unfolding literal_of
literal_found [] v e = absurd cc
literal_found (b ∷ bs) v e = by (b == 43) (b == 45) refl refl e
  where
    by : (u t : Bool) → (b == 43) ≡ u → (b == 45) ≡ t → cond u (option_map (with_sign true) (index_of bs)) (cond t (option_map (with_sign false) (index_of bs)) None) ≡ Some v → IsLiteral v × (b ∷ bs ≡ literal_text v)
    by true t p r e = let q = index_found bs true v (index_of bs) refl e in (q.0, ap (λ z. z ∷ bs) (at b 43 p) ∙ q.1)
    by false true p r e = let q = index_found bs false v (index_of bs) refl e in (q.0, ap (λ z. z ∷ bs) (at b 45 r) ∙ q.1)
    by false false p r e = absurd cc

again_by : (s : Bool) (n : ℕ) → n < 2 ^ 32 → literal_of (cond s 43 45 ∷ decimal n) ≡ Some (with_sign s n)
unfolding literal_of
again_by true n h = ap (option_map (with_sign true)) (index_spelling.again n h)
again_by false n h = ap (option_map (with_sign false)) (index_spelling.again n h)

plain_behind : (b : ℕ) (w : List ℕ) → in_word b ≡ true → is_plain w ≡ true → is_plain (b ∷ w) ≡ true
plain_behind b [] p h = absurd cc
plain_behind b (c ∷ cs) p h = rw p h

sign_in_word : (s : Bool) → in_word (cond s 43 45) ≡ true
sign_in_word true = refl
sign_in_word false = refl

literal_plain : (v : Literal) → IsLiteral v → is_plain (literal_text v) ≡ true
literal_plain v i = plain_behind (cond v.positive 43 45) (decimal v.variable) (sign_in_word v.positive) (decimal_plain v.variable (let h : v.variable < 2 ^ 32 = i in omega arith))

pub literal_spelling : IsSpelling IsLiteral literal_text literal_of
literal_spelling = record {
  found = literal_found;
  again = λ v i. again_by v.positive v.variable i;
  plain = literal_plain;
  some = record { variable = 0; positive = true };
  some_is = let z : 0 < 2 ^ 32 = omega arith in z;
}

-- ---- factors

both_found : (a : List ℕ) (bs : List ℕ) (v : Factor) (l : Option Literal) (k : Option ℤ) → literal_of a ≡ l → integer_of bs ≡ k → multiplied l k ≡ Some v → IsFactor v × (a ++ 42 ∷ bs ≡ factor_text v)
both_found a bs v None k p q e = absurd cc
both_found a bs v (Some l) None p q e = absurd cc
both_found a bs v (Some l) (Some k) p q e =
    let f = literal_found a l p in
    let g = integer_spelling.found bs k q in
    let w : Factor = record { literal = l; by = k } in
    let is : w ≡ v = cc in
    subst (λ z. IsFactor z × (a ++ 42 ∷ bs ≡ factor_text z)) is ((f.0, g.0), ap (λ z. z ++ 42 ∷ bs) f.1 ∙ ap (λ z. literal_text l ++ 42 ∷ z) g.1)

factor_found_by : (a d : List ℕ) (v : Factor) → star_stops d → factor_by (literal_of a) d ≡ Some v → IsFactor v × (a ++ d ≡ factor_text v)
factor_found_by a [] v h e = absurd cc
factor_found_by a (b ∷ bs) v h e = let q = both_found a bs v (literal_of a) (integer_of bs) refl refl e in (q.0, ap (λ z. a ++ z ∷ bs) h ∙ q.1)

factor_found : (x : List ℕ) (v : Factor) → factor_of x ≡ Some v → IsFactor v × (x ≡ factor_text v)
unfolding factor_of
factor_found x v e =
    let q = factor_found_by (take (prefix_len no_star x) x) (drop (prefix_len no_star x) x) v (Rattle.clause_words.proofs.Runs.star_rest x) e in
    (q.0, sym (take-append-drop (prefix_len no_star x) x) ∙ q.1)

factor_split : (a bs : List ℕ) → list_all no_star a ≡ true → factor_of (a ++ 42 ∷ bs) ≡ multiplied (literal_of a) (integer_of bs)
unfolding factor_of
factor_split a bs h =
    let n : prefix_len no_star (a ++ 42 ∷ bs) ≡ length a = front_len no_star a 42 bs h refl in
    ap (λ k. factor_by (literal_of (take k (a ++ 42 ∷ bs))) (drop k (a ++ 42 ∷ bs))) n
    ∙ ap (λ z. factor_by (literal_of z) (drop (length a) (a ++ 42 ∷ bs))) (take_at a (42 ∷ bs) (length a) refl)
    ∙ ap (factor_by (literal_of a)) (drop_at a (42 ∷ bs) (length a) refl)

no_star_digit : (b : ℕ) → is_ascii_digit b ≡ true → no_star b ≡ true
no_star_digit b h = grind (arith, nat_tests)

no_star_digits : (w : List ℕ) → list_all is_ascii_digit w ≡ true → list_all no_star w ≡ true
no_star_digits [] h = refl
no_star_digits (b ∷ bs) h = rw (no_star_digit b (left_true (is_ascii_digit b) (list_all is_ascii_digit bs) h)) (no_star_digits bs (right_true (is_ascii_digit b) (list_all is_ascii_digit bs) h))

literal_no_star : (s : Bool) (n : ℕ) → n < 2 ^ 32 → list_all no_star (cond s 43 45 ∷ decimal n) ≡ true
literal_no_star true n h = no_star_digits (decimal n) (digits_back n (omega arith))
literal_no_star false n h = no_star_digits (decimal n) (digits_back n (omega arith))

factor_again : (v : Factor) → IsFactor v → factor_of (factor_text v) ≡ Some v
factor_again v i =
    factor_split (literal_text v.literal) (integer_text v.by) (literal_no_star v.literal.positive v.literal.variable i.0)
    ∙ ap (λ z. multiplied z (integer_of (integer_text v.by))) (literal_spelling.again v.literal i.0)
    ∙ ap (multiplied (Some v.literal)) (integer_spelling.again v.by i.1)

plain_all : (w : List ℕ) → is_plain w ≡ true → list_all in_word w ≡ true
plain_all [] h = refl
plain_all (b ∷ bs) h = h

all_append : (a b : List ℕ) → list_all in_word a ≡ true → list_all in_word b ≡ true → list_all in_word (a ++ b) ≡ true
all_append [] b p q = q
all_append (x ∷ xs) b p q = rw (left_true (in_word x) (list_all in_word xs) p) (all_append xs b (right_true (in_word x) (list_all in_word xs) p) q)

factor_plain : (v : Factor) → IsFactor v → is_plain (factor_text v) ≡ true
factor_plain v i = all_append (literal_text v.literal) (42 ∷ integer_text v.by) (literal_plain v.literal i.0) (plain_all (integer_text v.by) (integer_spelling.plain v.by i.1))

pub factor_spelling : IsSpelling IsFactor factor_text factor_of
factor_spelling = record {
  found = factor_found;
  again = factor_again;
  plain = factor_plain;
  some = record { literal = record { variable = 0; positive = true }; by = pos 0 };
  some_is = (let z : 0 < 2 ^ 32 = omega arith in z, let z : 0 < 2 ^ 127 = omega arith in z);
}
