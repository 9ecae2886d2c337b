-- The greatest common divisor of coefficients, and division by it (as in clause_set, which is not built for this crate).
use Rattle.std.proofs.Common.{◌≡◌, ◌≢◌, ℕ, ℤ, pos, ◌+ℤ◌, ◌*ℤ◌, ◌≤ℤ◌, ◌<ℤ◌, unsigned_abs, List, [], ◌∷◌, Bool, true, false, cond, int_lt, refl, sym, ◌∙◌, ap, arith}
use Rattle.std.specs.List.{AllByRecursion}
use Rattle.std.specs.Int.{int_div_euclid}
use Rattle.std.proofs.lemmas.Int.{ints, by_lt_z}
use Rattle.base_integers.specs.Divides.{Divides}
use Rattle.base_integers.specs.Floor.{IsFloor}
use Rattle.base_integers.specs.Gcd.{nat_gcd, gcd}
use Rattle.base_integers.proofs.Ring.{add-mul, mul_assoc}
use Rattle.base_integers.proofs.Divisors.{Divides-trans, Divides-refl, Divides_from_dvd}
use Rattle.base_integers.proofs.Divisor.{nat_gcd-is, gcd-is}
use Rattle.base_integers.proofs.Floors.{floor-is, floor-only}
use Rattle.linear_term.specs.Linear.{Linear, total, value_at, value_of}
use Rattle.linear_term.proofs.Totals.{by_test}
use Rattle.clause_proof.specs.Atoms.{gcd_with, positive_one, content, divided, quotient}

pub gcd_divides_left : (a b : ℤ) → Divides (gcd a b) a
unfolding gcd
gcd_divides_left a b = Divides_from_dvd (nat_gcd (unsigned_abs a) (unsigned_abs b)) a (nat_gcd-is (unsigned_abs a) (unsigned_abs b)).0

pub gcd_divides_right : (a b : ℤ) → Divides (gcd a b) b
unfolding gcd
gcd_divides_right a b = Divides_from_dvd (nat_gcd (unsigned_abs a) (unsigned_abs b)) b (nat_gcd-is (unsigned_abs a) (unsigned_abs b)).1

-- what divides a number other than 0 is not 0
pub divisor_positive : (g a : ℤ) → pos 0 ≤ℤ g → a ≢ pos 0 → Divides g a → pos 0 <ℤ g
divisor_positive g a h n d =
    by_lt_z (pos 0) g (λ lt. lt)
    (λ le. absurd (n (let z : g ≡ pos 0 = omega (arith, ints) in let p : d.quotient *ℤ g ≡ d.quotient *ℤ pos 0 = ap (λ x. d.quotient *ℤ x) z in d.is ∙ p ∙ omega (arith, ints))))

pub gcd_positive_left : (a b : ℤ) → a ≢ pos 0 → pos 0 <ℤ gcd a b
gcd_positive_left a b n = divisor_positive (gcd a b) a (gcd-is a b).not_negative n (gcd_divides_left a b)

pub gcd_positive_right : (a b : ℤ) → b ≢ pos 0 → pos 0 <ℤ gcd a b
gcd_positive_right a b n = divisor_positive (gcd a b) b (gcd-is a b).not_negative n (gcd_divides_right a b)

pub gcd_with-positive : (g : ℤ) (ps : List (ℕ × ℤ)) → pos 0 <ℤ g → pos 0 <ℤ gcd_with g ps
gcd_with-positive g [] h = h
gcd_with-positive g (p ∷ ps) h = gcd_with-positive (gcd g p.1) ps (gcd_positive_left g p.1 (λ e. omega (arith, ints)))

pub gcd_with-divides : (g : ℤ) (ps : List (ℕ × ℤ)) → Divides (gcd_with g ps) g
gcd_with-divides g [] = Divides-refl g
gcd_with-divides g (p ∷ ps) = Divides-trans (gcd_with (gcd g p.1) ps) (gcd g p.1) g (gcd_with-divides (gcd g p.1) ps) (gcd_divides_left g p.1)

pub gcd_with-divides_all : (g : ℤ) (ps : List (ℕ × ℤ)) → AllByRecursion (λ p. Divides (gcd_with g ps) p.1) ps
gcd_with-divides_all g [] = tt
gcd_with-divides_all g (p ∷ ps) =
    (Divides-trans (gcd_with (gcd g p.1) ps) (gcd g p.1) p.1 (gcd_with-divides (gcd g p.1) ps) (gcd_divides_right g p.1), gcd_with-divides_all (gcd g p.1) ps)

-- a multiple of g is its quotient times g
pub quotient_exact : (g a : ℤ) → pos 0 <ℤ g → Divides g a → a ≡ int_div_euclid a g *ℤ g
quotient_exact g a h d =
    let floor : IsFloor a g d.quotient = record { below = omega (arith, ints, d.is); greatest = omega (arith, ints, d.is) } in
    d.is ∙ ap (λ q. q *ℤ g) (floor-only a g d.quotient (int_div_euclid a g) h floor (floor-is a g h))

value_step : (q g v s : ℤ) → ((q *ℤ g) *ℤ v) +ℤ (s *ℤ g) ≡ ((q *ℤ v) +ℤ s) *ℤ g
value_step q g v s =
    let e : (q *ℤ g) *ℤ v ≡ (q *ℤ v) *ℤ g = mul_assoc q g v ∙ ap (λ z. q *ℤ z) (omega (arith, ints)) ∙ sym (mul_assoc q v g) in
    ap (λ z. z +ℤ (s *ℤ g)) e ∙ sym (add-mul (q *ℤ v) s g)

-- the sum of the monomials is that of the divided ones times g
pub total-divided : (g : ℤ) (e : List ℤ) (ps : List (ℕ × ℤ)) → pos 0 <ℤ g → AllByRecursion (λ p. Divides g p.1) ps
    → total (value_at e) ps ≡ total (value_at e) (divided g ps) *ℤ g
total-divided g e [] h d = omega (arith, ints)
total-divided g e (p ∷ ps) h d =
    ap (λ z. value_at e p.0 z +ℤ total (value_at e) ps) (quotient_exact g p.1 h d.0)
    ∙ ap (λ z. value_at e p.0 (int_div_euclid p.1 g *ℤ g) +ℤ z) (total-divided g e ps h d.1)
    ∙ value_step (int_div_euclid p.1 g) g _ (total (value_at e) (divided g ps))

one_divides : (ps : List (ℕ × ℤ)) → AllByRecursion (λ p. Divides (pos 1) p.1) ps
one_divides [] = tt
one_divides (p ∷ ps) = (record { quotient = p.1; is = omega (arith, ints) }, one_divides ps)

above : (g : ℤ) → int_lt (pos 0) g ≡ true → pos 0 <ℤ g
above g h = grind (arith, ints)

pub content_positive : (ps : List (ℕ × ℤ)) → pos 0 <ℤ content ps
content_positive ps = by_test (λ g. pos 0 <ℤ g) (int_lt (pos 0) (gcd_with (pos 0) ps)) (gcd_with (pos 0) ps) (pos 1) (above (gcd_with (pos 0) ps)) (λ n. omega (arith, ints))

pub content_divides : (ps : List (ℕ × ℤ)) → AllByRecursion (λ p. Divides (content ps) p.1) ps
content_divides ps =
    by_test (λ g. AllByRecursion (λ p. Divides g p.1) ps) (int_lt (pos 0) (gcd_with (pos 0) ps)) (gcd_with (pos 0) ps) (pos 1)
    (λ t. gcd_with-divides_all (pos 0) ps) (λ n. one_divides ps)

-- the value of a term, and of the divided one
pub value_split : (g : ℤ) (t : Linear) (e : List ℤ) → pos 0 <ℤ g → AllByRecursion (λ p. Divides g p.1) t.pairs
    → value_of t e ≡ (total (value_at e) (divided g t.pairs) *ℤ g) +ℤ t.constant
unfolding value_of
value_split g t e h d = ap (λ z. z +ℤ t.constant) (total-divided g e t.pairs h d)

pub value_quotient : (g : ℤ) (t : Linear) (e : List ℤ) → value_of (quotient g t) e ≡ total (value_at e) (divided g t.pairs) +ℤ int_div_euclid t.constant g
unfolding value_of
value_quotient g t e = refl

pub bare_value : (t : Linear) (e : List ℤ) → t.pairs ≡ [] → value_of t e ≡ t.constant
unfolding value_of
bare_value t e is = ap (λ ps. total (value_at e) ps +ℤ t.constant) is ∙ omega (arith, ints)
