-- Sums of monomials, and whole terms, are read exactly where their spelling comes.
use Rattle.std.proofs.Common.{ℕ, zero, suc, ◌≡◌, ◌≢◌, ◌≤◌, ◌<◌, ◌+◌, ◌^◌, ◌==◌, ◌&&◌, ◌||◌, not, ℤ, pos, negsuc, Bool, true, false, cond, List, [], ◌∷◌, ◌++◌, map, Option, Some, None, refl, sym, ap, subst, ◌∙◌, append_assoc, append-nil, arith, All}
use Rattle.std.specs.Prelude.{int_lt, unsigned_abs, nat_lt, nat_le}
use Rattle.std.specs.Ordering.{int_eq}
use Rattle.std.specs.List.{AllByRecursion, list_all}
use Rattle.std.specs.Fmt.{decimal}
use Rattle.std.proofs.lemmas.Int.{ints}
use Rattle.std.proofs.lemmas.List.Elements.{recursion_from_All, All-from_recursion}
use Rattle.std.proofs.lemmas.Bool.Decides.{nat_tests}
use Rattle.base_numerals.proofs.Tests.{left_true}
use Rattle.linear_term.specs.Range.{InRange}
use Rattle.linear_term.specs.Linear.{Linear, IsNormal, IsRisingFrom, IsCoefficient, number, with_monomial}
use Rattle.clause_words.specs.Tokens.{in_word}
use Rattle.clause_words.specs.Numbers.{signed}
use Rattle.clause_words.specs.Spelling.{is_plain, IsSpelling}
use Rattle.clause_words.specs.declared.terms.Part.{Part}
use Rattle.clause_words.specs.declared.terms.Part.TheVariants as p
use Rattle.clause_words.specs.declared.terms.Sum.{Sum}
use Rattle.clause_words.specs.Terms.{SignedPart, constant_parts, is_none, may_end, monomial_part, no_sign, nothing, part_of, part_text, parts, parts_text, sign_text, sum_of, term_of, term_parts, term_text, with_name}
use Rattle.clause_words.proofs.Summing.{bad_part, last_constant, no_name, one_name, no_more}
use Rattle.clause_words.proofs.SpelledParts.{AreParts, IsPart, Words, all_append, and_right, at, constant_again, no_parts, part_again, part_bytes, part_found, part_signless, part_some, parts_again, whole_text, words}

-- ---- sums, found

abbrev IsFirst : ℕ × ℤ → Type 0
IsFirst m = m.0 < 2 ^ 32

abbrev IsFactorOf : ℕ × ℤ → Type 0
IsFactorOf m = IsCoefficient m.1

-- what is read after a sum: monomials and a constant
record HasSum (s : Sum) (ws : Words) (t : Linear) : Type 0 where
  qs : List (ℕ × ℤ)
  pairs : t.pairs ≡ s.term.pairs ++ qs
  words_are : ws ≡ words (map monomial_part qs ++ constant_parts (is_none (s.term.pairs ++ qs)) t.constant)
  rising : IsRisingFrom s.least qs
  coefficients : AllByRecursion IsFactorOf qs
  names : AllByRecursion IsFirst qs
  range : InRange t.constant

sign_is : (m : Bool) (n : ℕ) → 1 ≤ n → int_lt (signed m n) (pos 0) ≡ m
sign_is true n h = Rattle.clause_words.proofs.Spelled.below n h
sign_is false n h = grind (arith, ints)

size_is : (m : Bool) (n : ℕ) → unsigned_abs (signed m n) ≡ n
size_is true n = Rattle.clause_words.proofs.Spelled.size_below n
size_is false n = refl

not_zero : (m : Bool) (n : ℕ) → 1 ≤ n → int_eq (signed m n) (pos 0) ≡ false
not_zero m zero h = absurd (omega arith)
not_zero true (suc n) h = refl
not_zero false (suc n) h = grind (arith, ints)

-- the constant that ends a sum is written as it was read
constant_word : (alone m : Bool) (n : ℕ) → (nat_lt 0 n || (alone && not m)) ≡ true → (m, decimal n) ∷ [] ≡ words (constant_parts alone (signed m n))
constant_word alone m (suc n) h =
    sym (ap (λ b. words (cond (b && not alone) [] ((int_lt (signed m (suc n)) (pos 0), p.Constant (unsigned_abs (signed m (suc n)))) ∷ []))) (not_zero m (suc n) (omega arith))
    ∙ ap (λ b. (b, decimal (unsigned_abs (signed m (suc n)))) ∷ []) (sign_is m (suc n) (omega arith))
    ∙ ap (λ k. (m, decimal k) ∷ []) (size_is m (suc n)))
constant_word true true zero h = absurd cc
constant_word true false zero h = refl
constant_word false m zero h = absurd cc

constant_sum : (s : Sum) (m : Bool) (w : List ℕ) (t : Linear) (n : ℕ) (v : Bool) → may_end s.term.pairs m n ≡ v → n < 2 ^ 127 → w ≡ decimal n
    → cond v (Some (record { pairs = s.term.pairs; constant = signed m n })) None ≡ Some t → HasSum s ((m, w) ∷ []) t
constant_sum s m w t n false e fits text h = absurd cc
constant_sum s m w t n true e fits text h =
    let u : Linear = record { pairs = s.term.pairs; constant = signed m n } in
    let is : u ≡ t = cc in
    subst (HasSum s ((m, w) ∷ [])) is (record {
      qs = [];
      pairs = sym (append-nil s.term.pairs);
      words_are = ap (λ z. (m, z) ∷ []) text ∙ constant_word (is_none s.term.pairs) m n e ∙ ap (λ z. words (constant_parts (is_none z) (signed m n))) (sym (append-nil s.term.pairs));
      rising = tt;
      coefficients = tt;
      names = tt;
      range = let z : unsigned_abs (signed m n) < 2 ^ 127 = subst (λ k. k < 2 ^ 127) (sym (size_is m n)) fits in z;
    })

some_pairs : (ps qs : List (ℕ × ℤ)) (m : ℕ × ℤ) → is_none (ps ++ m ∷ qs) ≡ false
some_pairs [] qs m = refl
some_pairs (x ∷ xs) qs m = refl

-- a sum that ends without a constant
end_sum : (s : Sum) (t : Linear) → s.term.constant ≡ pos 0 → is_none s.term.pairs ≡ false → Some s.term ≡ Some t → HasSum s [] t
end_sum s t z n h =
    let is : s.term ≡ t = cc in
    subst (HasSum s []) is (record {
      qs = [];
      pairs = sym (append-nil s.term.pairs);
      words_are = sym (ap (λ b. words (constant_parts b s.term.constant)) (ap is_none (append-nil s.term.pairs) ∙ n) ∙ ap (λ k. words (constant_parts false k)) z);
      rising = tt;
      coefficients = tt;
      names = tt;
      range = subst InRange (sym z) (let q : 0 < 2 ^ 127 = omega arith in q);
    })

next_sum : Sum → Bool → ℕ → ℕ → Sum
next_sum s m n x = record { term = with_monomial s.term x (signed m n); least = x + 1 }

coefficient_is : (m : Bool) (n : ℕ) → n < 2 ^ 127 → 1 ≤ n → IsCoefficient (signed m n)
coefficient_is m n h k = record { in_range = let z : unsigned_abs (signed m n) < 2 ^ 127 = subst (λ q. q < 2 ^ 127) (sym (size_is m n)) h in z; not_zero = λ e. zero_not n (sym (size_is m n) ∙ ap unsigned_abs e) k }
  where
    zero_not : (j : ℕ) → j ≡ 0 → 1 ≤ j → ⊥
    zero_not j e h = omega (arith, e, h)

more_sum : (s : Sum) (m : Bool) (w : List ℕ) (ws : Words) (t : Linear) (n x : ℕ) → s.least ≤ x → n < 2 ^ 127 → 1 ≤ n → x < 2 ^ 32 → w ≡ part_text (p.Monomial n x)
    → HasSum (record { term = with_monomial s.term x (signed m n); least = x + 1 }) ws t → HasSum s ((m, w) ∷ ws) t
more_sum s m w ws t n x up fits some small text h = record {
  qs = (x, signed m n) ∷ h.qs;
  pairs = h.pairs ∙ append_assoc s.term.pairs ((x, signed m n) ∷ []) h.qs;
  words_are =
      ap (λ z. (m, z) ∷ ws) text ∙ ap (λ z. (m, part_text (p.Monomial n x)) ∷ z) h.words_are
      ∙ ap (λ z. (m, part_text (p.Monomial n x)) ∷ words (map monomial_part h.qs ++ constant_parts (is_none z) t.constant)) (append_assoc s.term.pairs ((x, signed m n) ∷ []) h.qs)
      ∙ ap (λ z. (m, part_text (p.Monomial z x)) ∷ words (map monomial_part h.qs ++ constant_parts (is_none (s.term.pairs ++ (x, signed m n) ∷ h.qs)) t.constant)) (sym (size_is m n))
      ∙ ap (λ z. (z, part_text (p.Monomial (unsigned_abs (signed m n)) x)) ∷ words (map monomial_part h.qs ++ constant_parts (is_none (s.term.pairs ++ (x, signed m n) ∷ h.qs)) t.constant)) (sym (sign_is m n some));
  rising = (omega arith, h.rising);
  coefficients = (coefficient_is m n fits some, h.coefficients);
  names = (small, h.names);
  range = h.range;
}

abbrev Good : Sum → Words → Type 0
Good s ws = (s.term.constant ≡ pos 0) × (ws ≡ [] → is_none s.term.pairs ≡ false)

sum_found : (s : Sum) (ws : Words) (t : Linear) → Good s ws → sum_of s ws ≡ Some t → HasSum s ws t
sum_found s [] t g h = end_sum s t g.0 (g.1 refl) (sym (no_more s) ∙ h)
sum_found s (w ∷ ws) t g h = by (part_of w.1) refl (λ u k. sum_found u ws t k)
  where
    none_some : (o : Option Linear) → o ≡ None → o ≡ Some t → ⊥
    none_some None e f = cc
    none_some (Some u) e f = cc

    named : (n x : ℕ) (v : Bool) → nat_le s.least x ≡ v → part_of w.1 ≡ Some (p.Monomial n x) → ((u : Sum) → Good u ws → sum_of u ws ≡ Some t → HasSum u ws t) → HasSum s (w ∷ ws) t
    named n x false e q later = absurd (none_some (sum_of s (w ∷ ws)) (no_name s w.0 w.1 ws n x q (ap (λ b. cond b (Some (record { term = with_monomial s.term x (signed w.0 n); least = x + 1 })) None) e)) h)
    named n x true e q later =
        let f = part_found w.1 (p.Monomial n x) q in
        let u : Sum = record { term = with_monomial s.term x (signed w.0 n); least = x + 1 } in
        let up : s.least ≤ x = grind (arith, nat_tests) in
        let rest = later u (g.0, λ z. some_pairs s.term.pairs [] (x, signed w.0 n)) (sym (one_name s u w.0 w.1 ws n x q (ap (λ b. cond b (Some u) None) e)) ∙ h) in
        more_sum s w.0 w.1 ws t n x up f.0.0 f.0.1 f.0.2 f.1 rest

    whole : (n : ℕ) (vs : Words) → ws ≡ vs → part_of w.1 ≡ Some (p.Constant n) → HasSum s (w ∷ ws) t
    whole n [] e q =
        let f = part_found w.1 (p.Constant n) q in
        subst (λ z. HasSum s (w ∷ z) t) (sym e)
        (constant_sum s w.0 w.1 t n (may_end s.term.pairs w.0 n) refl f.0 f.1 (sym (last_constant s w.0 w.1 n q) ∙ ap (λ z. sum_of s (w ∷ z)) (sym e) ∙ h))
    whole n (v ∷ vs) e q = absurd (none_some (sum_of s (w ∷ ws)) (ap (λ z. sum_of s (w ∷ z)) e ∙ Rattle.clause_words.proofs.Summing.more_constant_by s w.0 w.1 n v vs q) h)

    by : (o : Option Part) → part_of w.1 ≡ o → ((u : Sum) → Good u ws → sum_of u ws ≡ Some t → HasSum u ws t) → HasSum s (w ∷ ws) t
    by None q later = absurd (none_some (sum_of s (w ∷ ws)) (bad_part s w.0 w.1 ws q) h)
    by (Some (p.Constant n)) q later = whole n ws refl q
    by (Some (p.Monomial n x)) q later = named n x (nat_le s.least x) refl q later

normal_is : (t : Linear) (ws : Words) (h : HasSum nothing ws t) → IsNormal t
normal_is t ws h = record {
  rising = subst (IsRisingFrom 0) (sym h.pairs) h.rising;
  coefficients = subst (All IsFactorOf) (sym h.pairs) (All-from_recursion IsFactorOf h.qs h.coefficients);
  names = subst (All IsFirst) (sym h.pairs) (All-from_recursion IsFirst h.qs h.names);
  constant = h.range;
}

words_of_term : (t : Linear) (ws : Words) (h : HasSum nothing ws t) → ws ≡ words (term_parts t)
words_of_term t ws h = h.words_are ∙ ap (λ z. words (map monomial_part z ++ constant_parts (is_none z) t.constant)) (sym h.pairs)

found_behind : (m : Bool) (bs : List ℕ) (t : Linear) → sum_of nothing (parts m bs) ≡ Some t → IsNormal t × (cond m (45 ∷ []) [] ++ bs ≡ term_text t)
found_behind m bs t h =
    let f = sum_found nothing (parts m bs) t (refl, λ e. absurd (no_parts m bs e)) h in
    (normal_is t (parts m bs) f, sym (whole_text m bs (term_parts t) (words_of_term t (parts m bs) f)))

term_found : (x : List ℕ) (t : Linear) → term_of x ≡ Some t → IsNormal t × (x ≡ term_text t)
unfolding term_of
term_found [] t h = absurd cc
term_found (b ∷ bs) t h = by (b == 45) refl h
  where
    by : (v : Bool) → (b == 45) ≡ v → cond v (sum_of nothing (parts true bs)) (sum_of nothing (parts false (b ∷ bs))) ≡ Some t → IsNormal t × (b ∷ bs ≡ term_text t)
    by true e h = let f = found_behind true bs t h in (f.0, ap (λ z. z ∷ bs) (at b 45 e) ∙ f.1)
    by false e h = found_behind false (b ∷ bs) t h

-- ---- sums, again

is_signed : (k : ℤ) → signed (int_lt k (pos 0)) (unsigned_abs k) ≡ k
is_signed k = grind (arith, ints)

some_size_of : (k : ℤ) → k ≢ pos 0 → 1 ≤ unsigned_abs k
some_size_of (pos zero) h = absurd (h refl)
some_size_of (pos (suc n)) h = omega arith
some_size_of (negsuc n) h = omega arith

monomial_is : (m : ℕ × ℤ) → IsFactorOf m → IsFirst m → IsPart (monomial_part m).1
monomial_is m c f = (c.in_range, some_size_of m.1 c.not_zero, f)

monomials_are : (qs : List (ℕ × ℤ)) → AllByRecursion IsFactorOf qs → AllByRecursion IsFirst qs → AreParts (map monomial_part qs)
monomials_are [] c f = tt
monomials_are (q ∷ qs) c f = (monomial_is q c.0 f.0, monomials_are qs c.1 f.1)

constants_are : (alone : Bool) (k : ℤ) → InRange k → AreParts (constant_parts alone k)
constants_are alone k r = by (int_eq k (pos 0) && not alone)
  where
    by : (v : Bool) → AreParts (cond v [] ((int_lt k (pos 0), p.Constant (unsigned_abs k)) ∷ []))
    by true = tt
    by false = (r, tt)

are_append : (ss rr : List SignedPart) → AreParts ss → AreParts rr → AreParts (ss ++ rr)
are_append [] rr h g = g
are_append (s ∷ ss) rr h g = (h.0, are_append ss rr h.1 g)

-- a constant may end a sum unless it is a 0 after monomials
zero_is : (k : ℤ) → int_eq k (pos 0) ≡ true → k ≡ pos 0
zero_is k h = grind (arith, ints)

other_size : (k : ℤ) → int_eq k (pos 0) ≡ false → nat_lt 0 (unsigned_abs k) ≡ true
other_size (pos zero) h = absurd cc
other_size (pos (suc n)) h = grind (arith, nat_tests)
other_size (negsuc n) h = grind (arith, nat_tests)

ends_here : (alone : Bool) (k : ℤ) (v : Bool) → int_eq k (pos 0) ≡ v → (v && not alone) ≡ false → (nat_lt 0 (unsigned_abs k) || (alone && not (int_lt k (pos 0)))) ≡ true
ends_here alone k false e h = ap (λ b. b || (alone && not (int_lt k (pos 0)))) (other_size k e)
ends_here false k true e h = absurd cc
ends_here true k true e h =
    ap (λ z. nat_lt 0 (unsigned_abs z) || not (int_lt z (pos 0))) (zero_is k e)

last_again : (s : Sum) (k : ℤ) (v : Bool) → s.term.constant ≡ pos 0 → InRange k → (int_eq k (pos 0) && not (is_none s.term.pairs)) ≡ v
    → sum_of s (words (cond v [] ((int_lt k (pos 0), p.Constant (unsigned_abs k)) ∷ []))) ≡ Some (record { pairs = s.term.pairs; constant = k })
last_again s k true z r e =
    let zero_k : k ≡ pos 0 = zero_is k (left_true (int_eq k (pos 0)) (not (is_none s.term.pairs)) e) in
    no_more s ∙ ap (λ c. Some (record { pairs = s.term.pairs; constant = c })) (z ∙ sym zero_k)
last_again s k false z r e =
    last_constant s (int_lt k (pos 0)) (decimal (unsigned_abs k)) (unsigned_abs k) (constant_again (unsigned_abs k) r)
    ∙ ap (λ b. cond b (Some (record { pairs = s.term.pairs; constant = signed (int_lt k (pos 0)) (unsigned_abs k) })) None) (ends_here (is_none s.term.pairs) k (int_eq k (pos 0)) refl e)
    ∙ ap (λ c. Some (record { pairs = s.term.pairs; constant = c })) (is_signed k)

sum_again : (s : Sum) (qs : List (ℕ × ℤ)) (k : ℤ) → s.term.constant ≡ pos 0 → InRange k → IsRisingFrom s.least qs → AllByRecursion IsFactorOf qs → AllByRecursion IsFirst qs
    → sum_of s (words (map monomial_part qs ++ constant_parts (is_none (s.term.pairs ++ qs)) k)) ≡ Some (record { pairs = s.term.pairs ++ qs; constant = k })
sum_again s [] k z r up c f =
    ap (λ ps. sum_of s (words (constant_parts (is_none ps) k))) (append-nil s.term.pairs)
    ∙ last_again s k (int_eq k (pos 0) && not (is_none s.term.pairs)) z r refl
    ∙ ap (λ ps. Some (record { pairs = ps; constant = k })) (sym (append-nil s.term.pairs))
sum_again s (q ∷ qs) k z r up c f =
    let u : Sum = record { term = with_monomial s.term q.0 q.1; least = q.0 + 1 } in
    let ends = words (map monomial_part qs ++ constant_parts (is_none (s.term.pairs ++ q ∷ qs)) k) in
    let le : nat_le s.least q.0 ≡ true = let h = up.0 in grind (arith, nat_tests) in
    let named : with_name s (int_lt q.1 (pos 0)) (unsigned_abs q.1) q.0 ≡ Some u =
    ap (λ b. cond b (Some (record { term = with_monomial s.term q.0 (signed (int_lt q.1 (pos 0)) (unsigned_abs q.1)); least = q.0 + 1 })) None) le
    ∙ ap (λ c. Some (record { term = with_monomial s.term q.0 c; least = q.0 + 1 })) (is_signed q.1) in
    one_name s u (int_lt q.1 (pos 0)) (part_text (p.Monomial (unsigned_abs q.1) q.0)) ends (unsigned_abs q.1) q.0 (part_again (p.Monomial (unsigned_abs q.1) q.0) (monomial_is q c.0 f.0)) named
    ∙ ap (λ ps. sum_of u (words (map monomial_part qs ++ constant_parts (is_none ps) k))) (sym (append_assoc s.term.pairs (q ∷ []) qs))
    ∙ sum_again u qs k z r up.1 c.1 f.1
    ∙ ap (λ ps. Some (record { pairs = ps; constant = k })) (append_assoc s.term.pairs (q ∷ []) qs)

-- ---- whole terms

some_constant : (k : ℤ) → constant_parts true k ≡ (int_lt k (pos 0), p.Constant (unsigned_abs k)) ∷ []
some_constant k = by (int_eq k (pos 0))
  where
    by : (v : Bool) → cond {A = List SignedPart} (v && false) [] ((int_lt k (pos 0), p.Constant (unsigned_abs k)) ∷ []) ≡ (int_lt k (pos 0), p.Constant (unsigned_abs k)) ∷ []
    by true = refl
    by false = refl

some_parts : (t : Linear) → (s : SignedPart) × (ss : List SignedPart) × (term_parts t ≡ s ∷ ss)
some_parts t = by t.pairs
  where
    by : (ps : List (ℕ × ℤ)) → (s : SignedPart) × (ss : List SignedPart) × (map monomial_part ps ++ constant_parts (is_none ps) t.constant ≡ s ∷ ss)
    by [] = ((int_lt t.constant (pos 0), p.Constant (unsigned_abs t.constant)), [], some_constant t.constant)
    by (q ∷ qs) = (monomial_part q, map monomial_part qs ++ constant_parts false t.constant, refl)

term_parts_are : (t : Linear) → IsNormal t → AreParts (term_parts t)
term_parts_are t i =
    are_append (map monomial_part t.pairs) (constant_parts (is_none t.pairs) t.constant)
    (monomials_are t.pairs (recursion_from_All IsFactorOf t.pairs i.coefficients) (recursion_from_All IsFirst t.pairs i.names)) (constants_are (is_none t.pairs) t.constant i.constant)

sum_is : (t : Linear) → IsNormal t → sum_of nothing (words (term_parts t)) ≡ Some t
sum_is t i = sum_again nothing t.pairs t.constant refl i.constant i.rising (recursion_from_All IsFactorOf t.pairs i.coefficients) (recursion_from_All IsFirst t.pairs i.names)

no_minus : (b : ℕ) → no_sign b ≡ true → (b == 45) ≡ false
no_minus b h = grind (arith, nat_tests)

unsigned_term : (w more : List ℕ) → list_all no_sign w ≡ true → (w ≡ [] → ⊥) → term_of (w ++ more) ≡ sum_of nothing (parts false (w ++ more))
unfolding term_of
unsigned_term [] more h n = absurd (n refl)
unsigned_term (b ∷ bs) more h n =
    ap (λ v. cond v (sum_of nothing (parts true (bs ++ more))) (sum_of nothing (parts false (b ∷ bs ++ more)))) (no_minus b (left_true (no_sign b) (list_all no_sign bs) h))

minus_term : (bs : List ℕ) → term_of (45 ∷ bs) ≡ sum_of nothing (parts true bs)
unfolding term_of
minus_term bs = refl

again_by : (m : Bool) (q : Part) (ss : List SignedPart) → IsPart q → AreParts ss → term_of (cond m (45 ∷ []) [] ++ (part_text q ++ parts_text false ss)) ≡ sum_of nothing ((m, part_text q) ∷ words ss)
again_by true q ss i h = minus_term (part_text q ++ parts_text false ss) ∙ ap (sum_of nothing) (parts_again true q ss i h)
again_by false q ss i h = unsigned_term (part_text q) (parts_text false ss) (part_signless q i) (part_some q i) ∙ ap (sum_of nothing) (parts_again false q ss i h)

term_again : (t : Linear) → IsNormal t → term_of (term_text t) ≡ Some t
term_again t i =
    let s = some_parts t in
    let a : AreParts (s.0 ∷ s.1) = subst AreParts s.2 (term_parts_are t i) in
    ap (λ z. term_of (parts_text true z)) s.2 ∙ again_by s.0.0 s.0.1 s.1 a.0 a.1 ∙ ap (λ z. sum_of nothing (words z)) (sym s.2) ∙ sum_is t i

-- ---- a term is one word

sign_bytes : (first m : Bool) → list_all in_word (sign_text first m) ≡ true
sign_bytes true true = refl
sign_bytes true false = refl
sign_bytes false true = refl
sign_bytes false false = refl

parts_bytes : (first : Bool) (ss : List SignedPart) → AreParts ss → list_all in_word (parts_text first ss) ≡ true
parts_bytes first [] h = refl
parts_bytes first (s ∷ ss) h =
    all_append in_word (sign_text first s.0) (part_text s.1 ++ parts_text false ss) (sign_bytes first s.0)
    (all_append in_word (part_text s.1) (parts_text false ss) (and_right no_sign in_word (part_text s.1) (part_bytes s.1 h.0)) (parts_bytes false ss h.1))

plain_is : (w : List ℕ) → list_all in_word w ≡ true → (w ≡ [] → ⊥) → is_plain w ≡ true
plain_is [] h n = absurd (n refl)
plain_is (b ∷ bs) h n = h

append_more : (a b c : List ℕ) → (b ≡ [] → ⊥) → a ++ (b ++ c) ≡ [] → ⊥
append_more [] [] c n e = n refl
append_more [] (x ∷ xs) c n e = cc
append_more (x ∷ xs) b c n e = cc

term_plain : (t : Linear) → IsNormal t → is_plain (term_text t) ≡ true
term_plain t i =
    let s = some_parts t in
    let a : AreParts (s.0 ∷ s.1) = subst AreParts s.2 (term_parts_are t i) in
    ap (λ z. is_plain (parts_text true z)) s.2
    ∙ plain_is (parts_text true (s.0 ∷ s.1)) (parts_bytes true (s.0 ∷ s.1) a) (append_more (sign_text true s.0.0) (part_text s.0.1) (parts_text false s.1) (part_some s.0.1 a.0))

pub term_spelling : IsSpelling IsNormal term_text term_of
term_spelling = record {
  found = term_found;
  again = term_again;
  plain = term_plain;
  some = number (pos 0);
  some_is = record { rising = tt; coefficients = All-from_recursion IsFactorOf [] tt; names = All-from_recursion IsFirst [] tt; constant = let z : 0 < 2 ^ 127 = omega arith in z };
}
