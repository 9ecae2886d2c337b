-- A clause is its own form.
use Rattle.std.proofs.Common.{◌≡◌, ◌≢◌, ℕ, ℤ, pos, neg_ℤ, ◌≤ℤ◌, ◌<ℤ◌, unsigned_abs, int_lt, int_le, true, false, not, ◌||◌, cond, List, [], ◌∷◌, ◌++◌, refl, sym, ◌∙◌, ap, subst, arith}
use Rattle.std.specs.Prelude.{All}
use Rattle.std.specs.Cmp.{first_so, second_so}
use Rattle.std.specs.List.{AllByRecursion, list_all, list_any, flat_map}
use Rattle.std.specs.Int.{int_div_euclid, int_rem_euclid}
use Rattle.std.specs.Ordering.{int_eq}
use Rattle.std.proofs.lemmas.Int.{ints}
use Rattle.std.proofs.lemmas.List.Elements.{recursion_from_All, All-from_recursion}
use Rattle.base_integers.specs.Divides.{Divides, divides}
use Rattle.base_integers.specs.Gcd.{gcd}
use Rattle.base_integers.proofs.Divisors.{Divides-zero, test_from_Divides}
use Rattle.base_integers.proofs.Residues.{residue-is, residue-only}
use Rattle.linear_term.specs.Linear.{Linear}
use Rattle.clause_set.specs.declared.literal.Literal.{Literal}
use Rattle.clause_set.specs.declared.literal.Literal.TheVariants.{Eq, Geq, Div, NDiv}
use Rattle.clause_set.specs.declared.literal.Norm.{Norm}
use Rattle.clause_set.specs.declared.literal.Norm.TheVariants.{True, False, Lit}
use Rattle.clause_set.specs.Literals.{IsLiteral}
use Rattle.clause_set.specs.Clause.{IsClause}
use Rattle.clause_set.specs.Primitive.{AreCoprime, LeadsPositive, IsReducedModulo, IsPrimitive}
use Rattle.clause_set.specs.Normal.{gcd_with, divided, quotient, negated, leads_negative, turned, is_residue, residues, residue, decided, denied, reduced_divisibility, normal_equation, normal_inequality, normal_divisibility, normal_of}
use Rattle.clause_set.specs.Clauses.{literals_of, is_false}
use Rattle.clause_set.proofs.Contents.{gcd_with-positive, gcd_with-divides, gcd_with-divides_all, gcd_positive_right, quotient_exact}
use Rattle.clause_set.proofs.Primitive.{IsNormalLiteral, normal-keeps}
use Rattle.clause_set.proofs.Kept.{clause-kept}
use Rattle.clause_set.proofs.Quotients.{rem_in_range}

-- ---- division by 1
by_one : (a : ℤ) → int_div_euclid a (pos 1) ≡ a
by_one a = sym (quotient_exact (pos 1) a (omega (arith, ints)) (record { quotient = a; is = omega (arith, ints) }) ∙ omega (arith, ints))

divided-one : (ps : List (ℕ × ℤ)) → divided (pos 1) ps ≡ ps
divided-one [] = refl
divided-one (p ∷ ps) = ap (λ k. (p.0, k) ∷ divided (pos 1) ps) (by_one p.1) ∙ ap (λ z. p ∷ z) (divided-one ps)

quotient-one : (t : Linear) → quotient (pos 1) t ≡ t
quotient-one t = λ i. record { pairs = divided-one t.pairs i; constant = by_one t.constant i }

pub quotient_by_one : (g : ℤ) (t s : Linear) → g ≡ pos 1 → s ≡ t → s ≡ quotient g t
quotient_by_one g t s one is = is ∙ sym (ap (λ k. quotient k t) one ∙ quotient-one t)

pub ruleset ones = (quotient_by_one)

all_by_one : (k : ℤ) → divides 1 k ≡ true
all_by_one k = test_from_Divides 1 k (record { quotient = k; is = omega (arith, ints) })

not_whole : (d : ℤ) → d ≢ pos 1 → int_eq d (pos 1) ≡ false
not_whole d n = grind (arith, ints)

whole-form : (d : ℤ) (r : Linear) → d ≢ pos 1 → Lit (Div d r) ≡ reduced_divisibility (pos 1) d r
whole-form d r n =
    sym (ap (λ b. cond b (cond (int_eq (int_div_euclid d (pos 1)) (pos 1)) True (Lit (Div (int_div_euclid d (pos 1)) (quotient (pos 1) r)))) False) (all_by_one r.constant)
    ∙ ap (λ k. cond (int_eq k (pos 1)) True (Lit (Div k (quotient (pos 1) r)))) (by_one d)
    ∙ ap (λ b. cond b True (Lit (Div d (quotient (pos 1) r)))) (not_whole d n)
    ∙ ap (λ s. Lit (Div d s)) (quotient-one r))

-- a divisibility that nothing divides stays as it is
pub whole_divisibility : (h d : ℤ) (r : Linear) (n : Norm) → h ≡ pos 1 → d ≢ pos 1 → n ≡ Lit (Div d r) → n ≡ reduced_divisibility h d r
whole_divisibility h d r n one other is = is ∙ whole-form d r other ∙ ap (λ k. reduced_divisibility k d r) (sym one)

pub ruleset whole = (whole_divisibility)

-- ---- equations and inequalities
content_one : (p : ℕ × ℤ) (ps : List (ℕ × ℤ)) → p.1 ≢ pos 0 → AreCoprime (pos 0) (p ∷ ps) → gcd_with (pos 0) (p ∷ ps) ≡ pos 1
content_one p ps n c =
    let g : ℤ = gcd_with (pos 0) (p ∷ ps) in
    c g (gcd_with-positive (gcd (pos 0) p.1) ps (gcd_positive_right (pos 0) p.1 n)) (Divides-zero g) (All-from_recursion (λ q. Divides g q.1) (p ∷ ps) (gcd_with-divides_all (pos 0) (p ∷ ps)))

leads_not : (a : ℤ) → pos 0 <ℤ a → int_lt a (pos 0) ≡ false
leads_not a h = grind (arith, ints)

turned-own : (t : Linear) (ps : List (ℕ × ℤ)) → t.pairs ≡ ps → LeadsPositive ps → turned t ≡ t
turned-own t [] is h = absurd h
turned-own t (p ∷ ps) is h =
    ap (λ b. cond b (record { pairs = negated t.pairs; constant = neg_ℤ t.constant }) t) (ap leads_negative is ∙ leads_not p.1 h)

equation-own : (t : Linear) (ps : List (ℕ × ℤ)) → t.pairs ≡ ps → AllByRecursion (λ p. p.1 ≢ pos 0) ps → AreCoprime (pos 0) ps → LeadsPositive ps → normal_equation t ps ≡ Lit (Eq t)
equation-own t [] is n c h = absurd h
equation-own t (p ∷ ps) is n c h =
    let one : gcd_with (pos 0) (p ∷ ps) ≡ pos 1 = content_one p ps n.0 c in
    ap (λ g. cond (divides (unsigned_abs g) t.constant) (Lit (Eq (turned (quotient g t)))) False) one
    ∙ ap (λ b. cond b (Lit (Eq (turned (quotient (pos 1) t)))) False) (all_by_one t.constant)
    ∙ ap (λ s. Lit (Eq (turned s))) (quotient-one t) ∙ ap (λ s. Lit (Eq s)) (turned-own t (p ∷ ps) is h)

some_pair : (P : Type 0) → AreCoprime (pos 0) [] → P
some_pair P c = absurd (let e : pos 2 ≡ pos 1 = c (pos 2) (omega (arith, ints)) (Divides-zero (pos 2)) (All-from_recursion (λ p. Divides (pos 2) p.1) [] tt) in omega (arith, ints, e))

inequality-own : (t : Linear) (ps : List (ℕ × ℤ)) → AllByRecursion (λ p. p.1 ≢ pos 0) ps → AreCoprime (pos 0) ps → normal_inequality t ps ≡ Lit (Geq t)
inequality-own t [] n c = some_pair (decided (int_le (pos 0) t.constant) ≡ Lit (Geq t)) c
inequality-own t (p ∷ ps) n c = ap (λ g. Lit (Geq (quotient g t))) (content_one p ps n.0 c) ∙ ap (λ s. Lit (Geq s)) (quotient-one t)

-- ---- divisibilities
own_residue : (d a : ℤ) → pos 0 ≤ℤ a → a <ℤ d → int_rem_euclid a d ≡ a
own_residue d a low high =
    let dp : pos 0 <ℤ d = omega (arith, ints, low, high) in
    residue-only d a (int_rem_euclid a d) a dp (residue-is d a dp) (record { not_negative = low; below = high; congruent = record { quotient = pos 0; is = omega (arith, ints) } })

not_zero_test : (a : ℤ) → pos 0 <ℤ a → not (int_eq a (pos 0)) ≡ true
not_zero_test a h = grind (arith, ints)

residues-own : (d : ℤ) (ps : List (ℕ × ℤ)) → AllByRecursion (λ p. pos 0 <ℤ p.1) ps → AllByRecursion (λ p. p.1 <ℤ d) ps → residues d ps ≡ ps
residues-own d [] h k = refl
residues-own d (p ∷ ps) h k =
    let low : pos 0 ≤ℤ p.1 = omega (arith, ints, h.0) in
    let e : int_rem_euclid p.1 d ≡ p.1 = own_residue d p.1 low k.0 in
    ap (λ r. cond (not (int_eq r (pos 0))) ((p.0, r) ∷ residues d ps) (residues d ps)) e
    ∙ ap (λ b. cond b (p ∷ residues d ps) (residues d ps)) (not_zero_test p.1 h.0)
    ∙ ap (λ z. p ∷ z) (residues-own d ps h.1 k.1)

small_residues : (d : ℤ) (ps : List (ℕ × ℤ)) → list_all (is_residue d) ps ≡ true → residues d ps ≡ ps
small_residues d ps h = residues-own d ps (above ps h) (below ps h)
  where
    positive : (k : ℤ) → int_lt (pos 0) k ≡ true → pos 0 <ℤ k
    positive k h = grind (arith, ints)

    lesser : (k : ℤ) → int_lt k d ≡ true → k <ℤ d
    lesser k h = grind (arith, ints)

    above : (ps : List (ℕ × ℤ)) → list_all (is_residue d) ps ≡ true → AllByRecursion (λ p. pos 0 <ℤ p.1) ps
    above [] h = tt
    above (p ∷ ps) h = (positive p.1 (first_so (int_lt (pos 0) p.1) (int_lt p.1 d) (first_so (is_residue d p) (list_all (is_residue d) ps) h)), above ps (second_so (is_residue d p) (list_all (is_residue d) ps) h))

    below : (ps : List (ℕ × ℤ)) → list_all (is_residue d) ps ≡ true → AllByRecursion (λ p. p.1 <ℤ d) ps
    below [] h = tt
    below (p ∷ ps) h = (lesser p.1 (second_so (int_lt (pos 0) p.1) (int_lt p.1 d) (first_so (is_residue d p) (list_all (is_residue d) ps) h)), below ps (second_so (is_residue d p) (list_all (is_residue d) ps) h))

-- the residue of a term whose coefficients stay has another constant alone
pub residue_by_constant : (d k : ℤ) (t r : Linear) → list_all (is_residue d) t.pairs ≡ true → r ≡ record { pairs = t.pairs; constant = k } → k ≡ int_rem_euclid t.constant d → r ≡ residue d t
residue_by_constant d k t r h is e =
    is ∙ ap (λ ps. record { pairs = ps; constant = k }) (sym (small_residues d t.pairs h)) ∙ ap (λ c. record { pairs = residues d t.pairs; constant = c }) e

pub ruleset own_residues = (rem_in_range, residue_by_constant)

residue-own : (d : ℤ) (t : Linear) → IsReducedModulo d t → residue d t ≡ t
residue-own d t h =
    let ps = residues-own d t.pairs (recursion_from_All (λ p. pos 0 <ℤ p.1) t.pairs h.positive) (recursion_from_All (λ p. p.1 <ℤ d) t.pairs h.below) in
    let c = own_residue d t.constant h.constant.0 h.constant.1 in
    λ i. record { pairs = ps i; constant = c i }

not_one : (d : ℤ) → pos 1 <ℤ d → int_eq d (pos 1) ≡ false
not_one d h = grind (arith, ints)

divisibility-own : (d : ℤ) (t : Linear) → IsReducedModulo d t → normal_divisibility d t ≡ Lit (Div d t)
divisibility-own d t h =
    let dp : pos 0 <ℤ d = omega (arith, ints, h.divisor) in
    let ps = residues-own d t.pairs (recursion_from_All (λ p. pos 0 <ℤ p.1) t.pairs h.positive) (recursion_from_All (λ p. p.1 <ℤ d) t.pairs h.below) in
    let g : ℤ = gcd_with d t.pairs in
    let one : g ≡ pos 1 = h.coprime g (gcd_with-positive d t.pairs dp) (gcd_with-divides d t.pairs) (All-from_recursion (λ q. Divides g q.1) t.pairs (gcd_with-divides_all d t.pairs)) in
    let form = λ (k : ℤ) (s : Linear). cond (divides (unsigned_abs k) s.constant) (cond (int_eq (int_div_euclid d k) (pos 1)) True (Lit (Div (int_div_euclid d k) (quotient k s)))) False in
    ap (λ qs. form (gcd_with d qs) (residue d t)) ps
    ∙ ap (form g) (residue-own d t h)
    ∙ ap (λ k. form k t) one
    ∙ ap (λ b. cond b (cond (int_eq (int_div_euclid d (pos 1)) (pos 1)) True (Lit (Div (int_div_euclid d (pos 1)) (quotient (pos 1) t)))) False) (all_by_one t.constant)
    ∙ ap (λ k. cond (int_eq k (pos 1)) True (Lit (Div k (quotient (pos 1) t)))) (by_one d)
    ∙ ap (λ b. cond b True (Lit (Div d (quotient (pos 1) t)))) (not_one d h.divisor)
    ∙ ap (λ s. Lit (Div d s)) (quotient-one t)

-- a literal in lowest terms is its own normal form
pub normal-own : (l : Literal) → IsNormalLiteral l → normal_of l ≡ Lit l
unfolding normal_of
normal-own (Eq t) h = equation-own t t.pairs refl (recursion_from_All (λ p. p.1 ≢ pos 0) t.pairs h.formed.literal.term.not_zero) h.primitive.0 h.primitive.1
normal-own (Geq t) h = inequality-own t t.pairs (recursion_from_All (λ p. p.1 ≢ pos 0) t.pairs h.formed.literal.term.not_zero) h.primitive
normal-own (Div d t) h = divisibility-own d t h.primitive
normal-own (NDiv d t) h = ap denied (divisibility-own d t h.primitive)

-- so is the normal form of a literal
pub normal-twice : (l m : Literal) → IsLiteral l → normal_of l ≡ Lit m → normal_of m ≡ Lit m
normal-twice l m h e =
    normal-own m (let all : AllByRecursion IsNormalLiteral (literals_of (Lit m)) = subst (λ n. AllByRecursion IsNormalLiteral (literals_of n)) e (normal-keeps.normal l h) in all.0)

-- ---- the literals of a clause
pub clause-normal : (c : List Literal) → IsClause c → AllByRecursion IsNormalLiteral c
clause-normal c h = clause-kept IsLiteral IsNormalLiteral normal-keeps h.conjunction c (recursion_from_All IsLiteral h.conjunction h.of_literals) h.is

formed_of : (c : List Literal) → AllByRecursion IsNormalLiteral c → AllByRecursion IsPrimitive c
formed_of [] h = tt
formed_of (l ∷ c) h = (h.0.primitive, formed_of c h.1)

pub clause-primitive : (c : List Literal) → IsClause c → All IsPrimitive c
clause-primitive c h = All-from_recursion IsPrimitive c (formed_of c (clause-normal c h))

pub normals-own : (c : List Literal) → AllByRecursion IsNormalLiteral c → flat_map (λ l. literals_of (normal_of l)) c ≡ c
normals-own [] h = refl
normals-own (l ∷ c) h = ap (λ n. literals_of n ++ flat_map (λ m. literals_of (normal_of m)) c) (normal-own l h.0) ∙ ap (λ z. l ∷ z) (normals-own c h.1)

pub none_false : (c : List Literal) → AllByRecursion IsNormalLiteral c → list_any (λ l. is_false (normal_of l)) c ≡ false
none_false [] h = refl
none_false (l ∷ c) h = ap (λ n. is_false n || list_any (λ m. is_false (normal_of m)) c) (normal-own l h.0) ∙ none_false c h.1
