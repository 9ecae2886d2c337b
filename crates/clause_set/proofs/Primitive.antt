-- Normal forms are in lowest terms.
use Rattle.std.proofs.Common.{◌≡◌, ◌≢◌, ℕ, ℤ, pos, neg_ℤ, ◌*ℤ◌, ◌≤ℤ◌, ◌<ℤ◌, unsigned_abs, int_lt, int_le, Bool, true, false, not, cond, List, [], ◌∷◌, Option, Some, None, refl, sym, ◌∙◌, ap, subst, arith}
use Rattle.std.specs.List.{AllByRecursion}
use Rattle.std.specs.Int.{int_div_euclid, int_rem_euclid}
use Rattle.std.specs.Ordering.{int_eq}
use Rattle.std.proofs.lemmas.Int.{ints, by_lt_z}
use Rattle.std.proofs.lemmas.Bool.Decides.{Decides-int_eq}
use Rattle.std.proofs.lemmas.List.Elements.{recursion_from_All, All-from_recursion}
use Rattle.base_integers.specs.Divides.{Divides, divides}
use Rattle.base_integers.specs.Gcd.{gcd}
use Rattle.base_integers.proofs.Ring.{mul_assoc}
use Rattle.base_integers.proofs.Order.{mul_le_right, mul_lt_right, lt_of_mul_lt, mul_cancel}
use Rattle.base_integers.proofs.Divisors.{Divides-zero, Divides-neg, Divides-product, Divides_from_test}
use Rattle.base_integers.proofs.Divisor.{gcd-greatest}
use Rattle.base_integers.proofs.Residues.{rem-bounds}
use Rattle.linear_term.specs.Linear.{Linear, IsReduced}
use Rattle.linear_term.proofs.Totals.{by_test}
use Rattle.clause_set.specs.declared.literal.Literal.{Literal}
use Rattle.clause_set.specs.declared.literal.Literal.TheVariants.{Eq, Geq, Div, NDiv}
use Rattle.clause_set.specs.declared.literal.Norm.{Norm}
use Rattle.clause_set.specs.declared.literal.Norm.TheVariants.{True, False, Lit}
use Rattle.clause_set.specs.Literals.{IsLiteral}
use Rattle.clause_set.specs.Formed.{IsFormed}
use Rattle.clause_set.specs.Primitive.{AreCoprime, LeadsPositive, IsReducedModulo, IsPrimitive}
use Rattle.clause_set.specs.Normal.{gcd_with, divided, quotient, negated, leads_negative, turned, residues, residue, decided, denied, normal_equation, normal_inequality, normal_divisibility, normal_of}
use Rattle.clause_set.specs.Clauses.{slack, extent, is_zero, with_constant, tightened, literals_of}
use Rattle.clause_set.proofs.Contents.{gcd_with-positive, gcd_with-divides, gcd_with-divides_all, gcd_positive_right, quotient_exact}
use Rattle.clause_set.proofs.Formed.{quotient-reduced, residues-positive, divided-positive, with_constant-reduced, quotient_positive, normal-formed, tightened-formed}
use Rattle.clause_set.proofs.Kept.{Keeps}

-- ---- divisors
-- a number that is not negative and divides 1 is 1
pub divisor_of_one : (g : ℤ) → pos 0 ≤ℤ g → Divides g (pos 1) → g ≡ pos 1
divisor_of_one g h d =
    let q : ℤ = d.quotient in
    let some : (pos 0 *ℤ g) <ℤ (q *ℤ g) = omega (arith, ints, d.is) in
    let least : pos 0 <ℤ q = lt_of_mul_lt (pos 0) q g h some in
    let one : pos 1 ≤ℤ q = omega (arith, ints, least) in
    let le : (pos 1 *ℤ g) ≤ℤ (q *ℤ g) = mul_le_right (pos 1) q g h one in
    by_lt_z (pos 0) g (λ more. omega (arith, ints, le, d.is, more)) (λ none. absurd (let z : g ≡ pos 0 = omega (arith, ints, none, h) in omega (arith, ints, d.is, ap (λ y. q *ℤ y) z)))

-- a divisor that is 1 already stays 1
pub gcd_with-one : (ps : List (ℕ × ℤ)) → gcd_with (pos 1) ps ≡ pos 1
gcd_with-one ps =
    let more : pos 0 <ℤ gcd_with (pos 1) ps = gcd_with-positive (pos 1) ps (omega (arith, ints)) in
    divisor_of_one (gcd_with (pos 1) ps) (omega (arith, ints, more)) (gcd_with-divides (pos 1) ps)

-- what divides g and all coefficients divides their greatest common divisor
gcd_with-greatest : (h g : ℤ) (ps : List (ℕ × ℤ)) → Divides h g → AllByRecursion (λ p. Divides h p.1) ps → Divides h (gcd_with g ps)
gcd_with-greatest h g [] d all = d
gcd_with-greatest h g (p ∷ ps) d all = gcd_with-greatest h (gcd g p.1) ps (gcd-greatest g p.1 h d all.0) all.1

divides_back : (h g a : ℤ) → pos 0 <ℤ g → Divides g a → Divides h (int_div_euclid a g) → Divides (h *ℤ g) a
divides_back h g a gp d q = subst (Divides (h *ℤ g)) (sym (quotient_exact g a gp d)) (Divides-product h (int_div_euclid a g) g q)

all_back : (h g : ℤ) (ps : List (ℕ × ℤ)) → pos 0 <ℤ g → AllByRecursion (λ p. Divides g p.1) ps → AllByRecursion (λ p. Divides h p.1) (divided g ps) → AllByRecursion (λ p. Divides (h *ℤ g) p.1) ps
all_back h g [] gp d q = tt
all_back h g (p ∷ ps) gp d q = (divides_back h g p.1 gp d.0 q.0, all_back h g ps gp d.1 q.1)

one_factor : (h g : ℤ) → pos 0 <ℤ h → pos 0 <ℤ g → Divides (h *ℤ g) g → h ≡ pos 1
one_factor h g hp gp d =
    let one : pos 1 *ℤ g ≡ g = omega (arith, ints) in
    let e : pos 1 *ℤ g ≡ (d.quotient *ℤ h) *ℤ g = one ∙ d.is ∙ sym (mul_assoc d.quotient h g) in
    divisor_of_one h (omega (arith, ints, hp)) (record { quotient = d.quotient; is = mul_cancel (pos 1) (d.quotient *ℤ h) g gp e })

-- coefficients divided by their greatest common divisor are coprime
coprime-divided : (ps : List (ℕ × ℤ)) → pos 0 <ℤ gcd_with (pos 0) ps → AreCoprime (pos 0) (divided (gcd_with (pos 0) ps) ps)
coprime-divided ps gp h hp hd all =
    let g : ℤ = gcd_with (pos 0) ps in
    one_factor h g hp gp (gcd_with-greatest (h *ℤ g) (pos 0) ps (Divides-zero (h *ℤ g)) (all_back h g ps gp (gcd_with-divides_all (pos 0) ps) (recursion_from_All (λ p. Divides h p.1) (divided g ps) all)))

-- and so are they with a divisor
coprime-modulo : (d : ℤ) (ps : List (ℕ × ℤ)) → pos 0 <ℤ gcd_with d ps → AreCoprime (int_div_euclid d (gcd_with d ps)) (divided (gcd_with d ps) ps)
coprime-modulo d ps gp h hp hd all =
    let g : ℤ = gcd_with d ps in
    one_factor h g hp gp (gcd_with-greatest (h *ℤ g) d ps (divides_back h g d gp (gcd_with-divides d ps) hd) (all_back h g ps gp (gcd_with-divides_all d ps) (recursion_from_All (λ p. Divides h p.1) (divided g ps) all)))

-- ---- the sign of an equation
all_opposite : (g : ℤ) (ps : List (ℕ × ℤ)) → AllByRecursion (λ p. Divides g p.1) (negated ps) → AllByRecursion (λ p. Divides g p.1) ps
all_opposite g [] h = tt
all_opposite g (p ∷ ps) h =
    let twice : neg_ℤ (neg_ℤ p.1) ≡ p.1 = omega (arith, ints) in
    (subst (Divides g) twice (Divides-neg g (neg_ℤ p.1) h.0), all_opposite g ps h.1)

coprime-negated : (ps : List (ℕ × ℤ)) → AreCoprime (pos 0) ps → AreCoprime (pos 0) (negated ps)
coprime-negated ps h g gp d all =
    h g gp d (All-from_recursion (λ p. Divides g p.1) ps (all_opposite g ps (recursion_from_All (λ p. Divides g p.1) (negated ps) all)))

coprime-some : AreCoprime (pos 0) [] → ⊥
coprime-some h = let e : pos 2 ≡ pos 1 = h (pos 2) (omega (arith, ints)) (Divides-zero (pos 2)) (All-from_recursion (λ p. Divides (pos 2) p.1) [] tt) in omega (arith, ints, e)

negative_turns : (a : ℤ) → int_lt a (pos 0) ≡ true → pos 0 <ℤ neg_ℤ a
negative_turns a h = grind (arith, ints)

not_negative : (a : ℤ) → int_lt a (pos 0) ≡ false → a ≢ pos 0 → pos 0 <ℤ a
not_negative a h n = by_lt_z (pos 0) a (λ lt. lt) (λ le. absurd (n (let l : pos 0 ≤ℤ a = grind (arith, ints) in omega (arith, ints, le, l))))

leads-negated : (ps : List (ℕ × ℤ)) → AreCoprime (pos 0) ps → leads_negative ps ≡ true → LeadsPositive (negated ps)
leads-negated [] c h = absurd (coprime-some c)
leads-negated (p ∷ ps) c h = negative_turns p.1 h

leads-kept : (ps : List (ℕ × ℤ)) → AreCoprime (pos 0) ps → AllByRecursion (λ p. p.1 ≢ pos 0) ps → leads_negative ps ≡ false → LeadsPositive ps
leads-kept [] c n h = absurd (coprime-some c)
leads-kept (p ∷ ps) c n h = not_negative p.1 h n.0

turned-primitive : (t : Linear) → IsReduced t → AreCoprime (pos 0) t.pairs → IsPrimitive (Eq (turned t))
turned-primitive t r c =
    by_test (λ s. AreCoprime (pos 0) s.pairs × LeadsPositive s.pairs) (leads_negative t.pairs) (record { pairs = negated t.pairs; constant = neg_ℤ t.constant }) t
    (λ e. (coprime-negated t.pairs c, leads-negated t.pairs c e))
    (λ e. (c, leads-kept t.pairs c (recursion_from_All (λ p. p.1 ≢ pos 0) t.pairs r.not_zero) e))

-- ---- the normal form of a literal
abbrev ArePrimitive : Norm → Type 0
ArePrimitive n = AllByRecursion IsPrimitive (literals_of n)

decided-primitive : (b : Bool) → ArePrimitive (decided b)
decided-primitive true = tt
decided-primitive false = tt

equation-primitive : (t : Linear) (ps : List (ℕ × ℤ)) → t.pairs ≡ ps → IsReduced t → AllByRecursion (λ p. p.1 ≢ pos 0) ps → ArePrimitive (normal_equation t ps)
equation-primitive t [] is r n = decided-primitive (int_eq t.constant (pos 0))
equation-primitive t (p ∷ ps) is r n =
    let g : ℤ = gcd_with (pos 0) (p ∷ ps) in
    let gp : pos 0 <ℤ g = gcd_with-positive (gcd (pos 0) p.1) ps (gcd_positive_right (pos 0) p.1 n.0) in
    let all : AllByRecursion (λ q. Divides g q.1) t.pairs = subst (AllByRecursion (λ q. Divides g q.1)) (sym is) (gcd_with-divides_all (pos 0) (p ∷ ps)) in
    by_test ArePrimitive (divides (unsigned_abs g) t.constant) (Lit (Eq (turned (quotient g t)))) False
    (λ _. (turned-primitive (quotient g t) (quotient-reduced g t gp all r) (subst (λ qs. AreCoprime (pos 0) (divided g qs)) (sym is) (coprime-divided (p ∷ ps) gp)), tt))
    (λ _. tt)

inequality-primitive : (t : Linear) (ps : List (ℕ × ℤ)) → t.pairs ≡ ps → AllByRecursion (λ p. p.1 ≢ pos 0) ps → ArePrimitive (normal_inequality t ps)
inequality-primitive t [] is n = decided-primitive (int_le (pos 0) t.constant)
inequality-primitive t (p ∷ ps) is n =
    let g : ℤ = gcd_with (pos 0) (p ∷ ps) in
    let gp : pos 0 <ℤ g = gcd_with-positive (gcd (pos 0) p.1) ps (gcd_positive_right (pos 0) p.1 n.0) in
    (subst (λ qs. AreCoprime (pos 0) (divided g qs)) (sym is) (coprime-divided (p ∷ ps) gp), tt)

-- quotients of numbers below d by a divisor of d are below its quotient
quotient_below : (g a d : ℤ) → pos 0 <ℤ g → Divides g a → Divides g d → a <ℤ d → int_div_euclid a g <ℤ int_div_euclid d g
quotient_below g a d gp da dd lt =
    lt_of_mul_lt (int_div_euclid a g) (int_div_euclid d g) g (omega (arith, ints, gp)) (omega (arith, ints, quotient_exact g a gp da, quotient_exact g d gp dd, lt))

quotient_least : (g a : ℤ) → pos 0 <ℤ g → Divides g a → pos 0 ≤ℤ a → pos 0 ≤ℤ int_div_euclid a g
quotient_least g a gp d le = by_lt_z (int_div_euclid a g) (pos 0)
    (λ lt. absurd (let m : (int_div_euclid a g *ℤ g) <ℤ (pos 0 *ℤ g) = mul_lt_right (int_div_euclid a g) (pos 0) g gp lt in omega (arith, ints, m, quotient_exact g a gp d, le)))
    (λ h. h)

divided-below : (g d : ℤ) (ps : List (ℕ × ℤ)) → pos 0 <ℤ g → Divides g d → AllByRecursion (λ p. Divides g p.1) ps → AllByRecursion (λ p. p.1 <ℤ d) ps → AllByRecursion (λ p. p.1 <ℤ int_div_euclid d g) (divided g ps)
divided-below g d [] gp dd all lt = tt
divided-below g d (p ∷ ps) gp dd all lt = (quotient_below g p.1 d gp all.0 dd lt.0, divided-below g d ps gp dd all.1 lt.1)

residues-below : (d : ℤ) (ps : List (ℕ × ℤ)) → pos 0 <ℤ d → AllByRecursion (λ p. p.1 <ℤ d) (residues d ps)
residues-below d [] h = tt
residues-below d (p ∷ ps) h =
    by_test (AllByRecursion (λ q. q.1 <ℤ d)) (not (int_eq (int_rem_euclid p.1 d) (pos 0))) ((p.0, int_rem_euclid p.1 d) ∷ residues d ps) (residues d ps)
    (λ _. ((rem-bounds p.1 d h).1, residues-below d ps h)) (λ _. residues-below d ps h)

above_one : (k : ℤ) → pos 0 <ℤ k → int_eq k (pos 1) ≡ false → pos 1 <ℤ k
above_one k h f = by_lt_z (pos 1) k (λ lt. lt) (λ le. absurd (let e : k ≡ pos 1 = omega (arith, ints, le, h) in let t : int_eq k (pos 1) ≡ true = (Decides-int_eq k (pos 1)).1 e in let z : true ≡ false = sym t ∙ f in cc))

test_divides : (g a : ℤ) → pos 0 <ℤ g → divides (unsigned_abs g) a ≡ true → Divides g a
test_divides g a gp h =
    let is : pos (unsigned_abs g) ≡ g = grind (arith, ints) in
    subst (λ z. Divides z a) is (Divides_from_test (unsigned_abs g) a h)

-- d divides r, by the greatest common divisor g of d and the coefficients
reduced-modulo : (d : ℤ) (t : Linear) → pos 0 <ℤ d → Divides (gcd_with d (residues d t.pairs)) (residue d t).constant
    → int_eq (int_div_euclid d (gcd_with d (residues d t.pairs))) (pos 1) ≡ false
    → IsReducedModulo (int_div_euclid d (gcd_with d (residues d t.pairs))) (quotient (gcd_with d (residues d t.pairs)) (residue d t))
reduced-modulo d t dp dc f =
    let ps : List (ℕ × ℤ) = residues d t.pairs in
    let g : ℤ = gcd_with d ps in
    let gp : pos 0 <ℤ g = gcd_with-positive d ps dp in
    let gd : Divides g d = gcd_with-divides d ps in
    let all : AllByRecursion (λ q. Divides g q.1) ps = gcd_with-divides_all d ps in
    record {
      divisor = above_one (int_div_euclid d g) (quotient_positive g d gp gd dp) f;
      positive = All-from_recursion (λ p. pos 0 <ℤ p.1) (divided g ps) (divided-positive g ps gp all (residues-positive d t.pairs dp));
      below = All-from_recursion (λ p. p.1 <ℤ int_div_euclid d g) (divided g ps) (divided-below g d ps gp gd all (residues-below d t.pairs dp));
      constant = (quotient_least g (int_rem_euclid t.constant d) gp dc (rem-bounds t.constant d dp).0, quotient_below g (int_rem_euclid t.constant d) d gp dc gd (rem-bounds t.constant d dp).1);
      coprime = coprime-modulo d ps gp;
    }

record IsPrimitivePair (n : Norm) : Type 0 where
  plain : ArePrimitive n
  denied : ArePrimitive (denied n)

divisibility-primitive : (d : ℤ) (t : Linear) → pos 0 <ℤ d → IsPrimitivePair (normal_divisibility d t)
divisibility-primitive d t dp =
    let h : ℤ = gcd_with d (residues d t.pairs) in
    let k : ℤ = int_div_euclid d h in
    by_test IsPrimitivePair (divides (unsigned_abs h) (residue d t).constant) (cond (int_eq k (pos 1)) True (Lit (Div k (quotient h (residue d t))))) False
    (λ y. by_test IsPrimitivePair (int_eq k (pos 1)) True (Lit (Div k (quotient h (residue d t))))
    (λ _. record { plain = tt; denied = tt })
    (λ f. let is = reduced-modulo d t dp (test_divides h (residue d t).constant (gcd_with-positive d (residues d t.pairs) dp) y) f in record { plain = (is, tt); denied = (is, tt) }))
    (λ _. record { plain = tt; denied = tt })

pub normal-primitive : (l : Literal) → IsLiteral l → AllByRecursion IsPrimitive (literals_of (normal_of l))
unfolding normal_of
normal-primitive (Eq t) h = equation-primitive t t.pairs refl h.term (recursion_from_All (λ p. p.1 ≢ pos 0) t.pairs h.term.not_zero)
normal-primitive (Geq t) h = inequality-primitive t t.pairs refl (recursion_from_All (λ p. p.1 ≢ pos 0) t.pairs h.term.not_zero)
normal-primitive (Div d t) h = (divisibility-primitive d t h.divisor).plain
normal-primitive (NDiv d t) h = (divisibility-primitive d t h.divisor).denied

-- ---- as clauses have literals
pub record IsNormalLiteral (l : Literal) : Type 0 where
  pub formed : IsFormed l
  pub primitive : IsPrimitive l

both_normal : (ls : List Literal) → AllByRecursion IsFormed ls → AllByRecursion IsPrimitive ls → AllByRecursion IsNormalLiteral ls
both_normal [] h k = tt
both_normal (l ∷ ls) h k = (record { formed = h.0; primitive = k.0 }, both_normal ls h.1 k.1)

with_constant-coprime : (k : Option ℤ) (t : Linear) → AreCoprime (pos 0) t.pairs → AreCoprime (pos 0) (with_constant k t).pairs
with_constant-coprime None t h = h
with_constant-coprime (Some k) t h = h

tightened-primitive : (ls : List Literal) (l : Literal) → IsFormed l → IsPrimitive l → IsPrimitive (tightened ls l)
tightened-primitive ls (Eq t) f h = h
tightened-primitive ls (Geq t) f h =
    let s : Linear = with_constant (slack ls t.pairs) t in
    by_test IsPrimitive (is_zero (extent ls t.pairs)) (Eq (turned s)) (Geq s)
    (λ _. turned-primitive s (with_constant-reduced (slack ls t.pairs) t f.literal.term) (with_constant-coprime (slack ls t.pairs) t h))
    (λ _. with_constant-coprime (slack ls t.pairs) t h)
tightened-primitive ls (Div d t) f h = h
tightened-primitive ls (NDiv d t) f h = h

-- normal forms are in form
pub normal-keeps : Keeps IsLiteral IsNormalLiteral
normal-keeps = record {
  normal = λ l h. both_normal (literals_of (normal_of l)) (normal-formed l h) (normal-primitive l h);
  tight = λ ls l h. record { formed = tightened-formed ls l h.formed; primitive = tightened-primitive ls l h.formed h.primitive };
}
