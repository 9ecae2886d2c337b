-- The normal form of a literal is true where the literal is.
use Rattle.std.proofs.Common.{◌≡◌, ◌<◌, ◌+◌, ◌*◌, ◌/◌, ◌%◌, ℕ, ℤ, pos, negsuc, neg_ℤ, ◌+ℤ◌, ◌-ℤ◌, ◌*ℤ◌, ◌≤ℤ◌, ◌<ℤ◌, unsigned_abs, int_le, Bool, true, false, not, cond, List, [], ◌∷◌, refl, sym, ◌∙◌, ap, subst, arith}
use Rattle.std.specs.Bool.{Decides}
use Rattle.std.specs.List.{AllByRecursion}
use Rattle.std.specs.Int.{int_div_euclid, int_rem_euclid}
use Rattle.std.specs.Ordering.{int_eq}
use Rattle.std.proofs.lemmas.Int.{ints, by_lt_z}
use Rattle.std.proofs.lemmas.Nat.{div-add-mod'}
use Rattle.std.proofs.lemmas.Bool.Decides.{Decides-int_eq, same_from_decides}
use Rattle.std.proofs.lemmas.List.Elements.{recursion_from_All}
use Rattle.base_integers.specs.Divides.{Divides, divides}
use Rattle.base_integers.specs.Gcd.{gcd}
use Rattle.base_integers.proofs.Ring.{add-mul, mul_assoc, neg-mul}
use Rattle.base_integers.proofs.Order.{mul_cancel, mul_le_right}
use Rattle.base_integers.proofs.Divisors.{Divides-sum, Divides-difference, Divides-trans, Divides-product, Divides_from_test, test_from_Divides}
use Rattle.base_integers.proofs.Floors.{floor-below, floor-above}
use Rattle.linear_term.specs.Linear.{Linear, total, value_at, value_of}
use Rattle.linear_term.proofs.Totals.{by_test}
use Rattle.clause_set.specs.declared.literal.Literal.{Literal}
use Rattle.clause_set.specs.declared.literal.Literal.TheVariants.{Eq, Geq, Div, NDiv}
use Rattle.clause_set.specs.declared.literal.Norm.{Norm}
use Rattle.clause_set.specs.declared.literal.Norm.TheVariants.{True, False, Lit}
use Rattle.std.proofs.Common.{Result, Ok, Err, IfOk}
use Rattle.clause_set.proofs.Quotients.{div_in_range}
use Rattle.clause_set.specs.Literals.{term_of, literal_truth, norm_truth, HasDivisor, HasPositiveDivisor, HasDivisorNorm, IsLiteral, IsDivisor}
use Rattle.linear_term.specs.Linear.{IsNormal}
use Rattle.std.proofs.Common.{◌≢◌}
use Rattle.linear_term.proofs.Names.{reduced-normal}
use Rattle.clause_set.specs.Normal.{gcd_with, divided, quotient, negated, leads_negative, turned, residues, residue, decided, denied, reduced_equation, normal_equation, normal_inequality, reduced_divisibility, normal_divisibility, normal_of}
use Rattle.clause_set.proofs.Contents.{gcd_with-positive, gcd_with-divides, gcd_with-divides_all, gcd_positive_right, quotient_exact, total-divided}

pub size_positive : (g : ℤ) → pos 0 <ℤ g → pos (unsigned_abs g) ≡ g
size_positive (pos n) h = refl
size_positive (negsuc n) h = absurd (omega (arith, ints))

-- the test of divisibility by a positive number
pub divides_decides : (g z : ℤ) → pos 0 <ℤ g → Decides (divides (unsigned_abs g) z) (Divides g z)
divides_decides g z h = (
  λ t. subst (λ d. Divides d z) (size_positive g h) (Divides_from_test (unsigned_abs g) z t),
  λ d. test_from_Divides (unsigned_abs g) z (subst (λ k. Divides k z) (sym (size_positive g h)) d),
)

pub le_decides : (a b : ℤ) → Decides (int_le a b) (a ≤ℤ b)
le_decides a b = (λ h. grind (arith, ints), λ h. grind (arith, ints))

pub decides_false : {P : Type 0} (b : Bool) → Decides b P → (P → ⊥) → b ≡ false
decides_false true d n = absurd (n (d.0 refl))
decides_false false d n = refl

pub not_decided : {P : Type 0} (b : Bool) → Decides b P → b ≡ false → P → ⊥
not_decided b d is p = let t : b ≡ true = d.1 p in cc

-- ---- values of quotients
value-split : (g : ℤ) (t : Linear) (e : List ℤ) → pos 0 <ℤ g → AllByRecursion (λ p. Divides g p.1) t.pairs
    → value_of t e ≡ (total (value_at e) (divided g t.pairs) *ℤ g) +ℤ t.constant
unfolding value_of
value-split g t e h d = ap (λ z. z +ℤ t.constant) (total-divided g e t.pairs h d)

value-quotient : (g : ℤ) (t : Linear) (e : List ℤ) → value_of (quotient g t) e ≡ total (value_at e) (divided g t.pairs) +ℤ int_div_euclid t.constant g
unfolding value_of
value-quotient g t e = refl

-- where g divides all numbers of t, its value is that of the quotient times g
value-multiple : (g : ℤ) (t : Linear) (e : List ℤ) → pos 0 <ℤ g → AllByRecursion (λ p. Divides g p.1) t.pairs → Divides g t.constant
    → value_of t e ≡ value_of (quotient g t) e *ℤ g
value-multiple g t e h d k =
    value-split g t e h d ∙ ap (λ z. (total (value_at e) (divided g t.pairs) *ℤ g) +ℤ z) (quotient_exact g t.constant h k)
    ∙ sym (add-mul (total (value_at e) (divided g t.pairs)) (int_div_euclid t.constant g) g) ∙ ap (λ z. z *ℤ g) (sym (value-quotient g t e))

-- a value of t that g divides is one where g divides the constant
divides-constant : (g : ℤ) (t : Linear) (e : List ℤ) → pos 0 <ℤ g → AllByRecursion (λ p. Divides g p.1) t.pairs → Divides g (value_of t e) → Divides g t.constant
divides-constant g t e h d v =
    let s = total (value_at e) (divided g t.pairs) in
    let multiple : Divides g (s *ℤ g) = record { quotient = s; is = refl } in
    let is : t.constant ≡ value_of t e -ℤ (s *ℤ g) = omega (arith, ints, value-split g t e h d) in
    subst (Divides g) (sym is) (Divides-difference g (value_of t e) (s *ℤ g) v multiple)

-- ---- equations
zero_multiple : (x y g : ℤ) → pos 0 <ℤ g → x ≡ y *ℤ g → int_eq y (pos 0) ≡ int_eq x (pos 0)
zero_multiple x y g h is =
    same_from_decides (int_eq y (pos 0)) (int_eq x (pos 0)) (Decides-int_eq y (pos 0)) (
      λ t. mul_cancel y (pos 0) g h (sym is ∙ (Decides-int_eq x (pos 0)).0 t ∙ omega (arith, ints)),
      λ z. (Decides-int_eq x (pos 0)).1 (is ∙ ap (λ k. k *ℤ g) z ∙ omega (arith, ints)),
    )

negated_step : (c v s r : ℤ) → s ≡ neg_ℤ r → (neg_ℤ c *ℤ v) +ℤ s ≡ neg_ℤ ((c *ℤ v) +ℤ r)
negated_step c v s r e = omega (arith, ints, e, neg-mul c v)

pub total-negated : (e : List ℤ) (ps : List (ℕ × ℤ)) → total (value_at e) (negated ps) ≡ neg_ℤ (total (value_at e) ps)
total-negated e [] = refl
total-negated e (p ∷ ps) = negated_step p.1 _ _ _ (total-negated e ps)

pub value-negated : (t : Linear) (e : List ℤ) → value_of (record { pairs = negated t.pairs; constant = neg_ℤ t.constant }) e ≡ neg_ℤ (value_of t e)
unfolding value_of
value-negated t e = omega (arith, ints, total-negated e t.pairs)

zero_negated : (x : ℤ) → int_eq (neg_ℤ x) (pos 0) ≡ int_eq x (pos 0)
zero_negated x =
    same_from_decides (int_eq (neg_ℤ x) (pos 0)) (int_eq x (pos 0)) (λ t. let z = (Decides-int_eq (neg_ℤ x) (pos 0)).0 t in omega (arith, ints, z), λ z. (Decides-int_eq (neg_ℤ x) (pos 0)).1 (omega (arith, ints, z))) (Decides-int_eq x (pos 0))

pub zero-turned : (t : Linear) (e : List ℤ) → int_eq (value_of (turned t) e) (pos 0) ≡ int_eq (value_of t e) (pos 0)
zero-turned t e =
    by_test (λ s. int_eq (value_of s e) (pos 0) ≡ int_eq (value_of t e) (pos 0)) (leads_negative t.pairs) _ t
    (λ _. ap (λ z. int_eq z (pos 0)) (value-negated t e) ∙ zero_negated (value_of t e))
    (λ _. refl)

equation-truth : (g : ℤ) (t : Linear) (e : List ℤ) → pos 0 <ℤ g → AllByRecursion (λ p. Divides g p.1) t.pairs
    → norm_truth (reduced_equation g t) e ≡ int_eq (value_of t e) (pos 0)
equation-truth g t e h d =
    by_test (λ n. norm_truth n e ≡ int_eq (value_of t e) (pos 0)) (divides (unsigned_abs g) t.constant) (Lit (Eq (turned (quotient g t)))) False
    (λ y. zero-turned (quotient g t) e ∙ zero_multiple (value_of t e) (value_of (quotient g t) e) g h
    (value-multiple g t e h d ((divides_decides g t.constant h).0 y)))
    (λ n. sym (decides_false (int_eq (value_of t e) (pos 0)) (Decides-int_eq (value_of t e) (pos 0))
    (λ z. not_decided (divides (unsigned_abs g) t.constant) (divides_decides g t.constant h) n
    (divides-constant g t e h d (record { quotient = pos 0; is = z ∙ omega (arith, ints) })))))

-- ---- inequalities
bound-truth : (g : ℤ) (t : Linear) (e : List ℤ) → pos 0 <ℤ g → AllByRecursion (λ p. Divides g p.1) t.pairs
    → int_le (pos 0) (value_of (quotient g t) e) ≡ int_le (pos 0) (value_of t e)
bound-truth g t e h d =
    let s = total (value_at e) (divided g t.pairs) in
    same_from_decides (int_le (pos 0) (value_of (quotient g t) e)) (int_le (pos 0) (value_of t e)) (le_decides (pos 0) (value_of (quotient g t) e)) (
      λ y. let le = (le_decides (pos 0) (value_of t e)).0 y in
          let below : (neg_ℤ s *ℤ g) ≤ℤ t.constant = omega (arith, ints, le, value-split g t e h d, neg-mul s g) in
          omega (arith, ints, floor-below t.constant g (neg_ℤ s) h below, value-quotient g t e),
      λ le. (le_decides (pos 0) (value_of t e)).1
          (let low : neg_ℤ s ≤ℤ int_div_euclid t.constant g = omega (arith, ints, le, value-quotient g t e) in
          omega (arith, ints, floor-above t.constant g (neg_ℤ s) h low, value-split g t e h d, neg-mul s g)),
    )

-- ---- residues
pub rem-is : (a d : ℤ) → pos 0 <ℤ d → a ≡ (int_div_euclid a d *ℤ d) +ℤ int_rem_euclid a d
rem-is (pos a) (pos d) h = let parts : a / d * d + a % d ≡ a = div-add-mod' a d in omega (arith, ints)
rem-is (negsuc a) (pos d) h =
    let some : 0 < d = omega (arith, ints) in
    let parts : a / d * d + a % d ≡ a = div-add-mod' a d in
    let rest : a % d < d = omega arith in
    omega (arith, ints)
rem-is a (negsuc d) h = absurd (omega (arith, ints))

residue_step : (d q r v s m : ℤ) → Divides d (s -ℤ m) → Divides d ((((q *ℤ d) +ℤ r) *ℤ v +ℤ s) -ℤ ((r *ℤ v) +ℤ m))
residue_step d q r v s m h =
    let multiple : Divides d ((q *ℤ d) *ℤ v) = record { quotient = q *ℤ v; is = mul_assoc q d v ∙ ap (λ z. q *ℤ z) (omega (arith, ints)) ∙ sym (mul_assoc q v d) } in
    let is : (((q *ℤ d) +ℤ r) *ℤ v +ℤ s) -ℤ ((r *ℤ v) +ℤ m) ≡ ((q *ℤ d) *ℤ v) +ℤ (s -ℤ m) = omega (arith, ints, add-mul (q *ℤ d) r v) in
    subst (Divides d) (sym is) (Divides-sum d ((q *ℤ d) *ℤ v) (s -ℤ m) multiple h)

residues_step : (d : ℤ) (e : List ℤ) (x : ℕ) (r : ℤ) (rest : List (ℕ × ℤ))
    → total (value_at e) (cond (not (int_eq r (pos 0))) ((x, r) ∷ rest) rest) ≡ value_at e x r +ℤ total (value_at e) rest
residues_step d e x r rest =
    by_test (λ ps. total (value_at e) ps ≡ value_at e x r +ℤ total (value_at e) rest) (not (int_eq r (pos 0))) ((x, r) ∷ rest) rest
    (λ _. refl)
    (λ no. let z : r ≡ pos 0 = (Decides-int_eq r (pos 0)).0 (let t : int_eq r (pos 0) ≡ true = grind arith in t) in
    let v : value_at e x r ≡ pos 0 = ap (λ k. value_at e x k) z ∙ omega (arith, ints) in omega (arith, ints, v))

-- the monomials and their residues differ by a multiple of d
residues-differ : (d : ℤ) (e : List ℤ) (ps : List (ℕ × ℤ)) → pos 0 <ℤ d → Divides d (total (value_at e) ps -ℤ total (value_at e) (residues d ps))
residues-differ d e [] h = record { quotient = pos 0; is = omega (arith, ints) }
residues-differ d e (p ∷ ps) h =
    let tail = residue_step d (int_div_euclid p.1 d) (int_rem_euclid p.1 d) _ _ _ (residues-differ d e ps h) in
    let whole : p.1 ≡ (int_div_euclid p.1 d *ℤ d) +ℤ int_rem_euclid p.1 d = rem-is p.1 d h in
    let left : value_at e p.0 p.1 ≡ value_at e p.0 ((int_div_euclid p.1 d *ℤ d) +ℤ int_rem_euclid p.1 d) = ap (λ z. value_at e p.0 z) whole in
    subst (λ z. Divides d ((value_at e p.0 p.1 +ℤ total (value_at e) ps) -ℤ z)) (sym (residues_step d e p.0 (int_rem_euclid p.1 d) (residues d ps)))
    (subst (λ z. Divides d ((z +ℤ total (value_at e) ps) -ℤ (value_at e p.0 (int_rem_euclid p.1 d) +ℤ total (value_at e) (residues d ps)))) (sym left) tail)

-- so do the values of a term and of its residue
value-residue : (d : ℤ) (t : Linear) (e : List ℤ) → pos 0 <ℤ d → Divides d (value_of t e -ℤ value_of (residue d t) e)
unfolding value_of
value-residue d t e h =
    let whole = rem-is t.constant d h in
    let constant : Divides d (t.constant -ℤ int_rem_euclid t.constant d) = record { quotient = int_div_euclid t.constant d; is = omega (arith, ints, whole) } in
    let is : value_of t e -ℤ value_of (residue d t) e ≡ (total (value_at e) t.pairs -ℤ total (value_at e) (residues d t.pairs)) +ℤ (t.constant -ℤ int_rem_euclid t.constant d) = omega (arith, ints) in
    subst (Divides d) (sym is) (Divides-sum d _ _ (residues-differ d e t.pairs h) constant)

divides-residue : (d : ℤ) (t : Linear) (e : List ℤ) → pos 0 <ℤ d → divides (unsigned_abs d) (value_of (residue d t) e) ≡ divides (unsigned_abs d) (value_of t e)
divides-residue d t e h =
    let differ = value-residue d t e h in
    same_from_decides _ _ (divides_decides d (value_of (residue d t) e) h) (
      λ y. let v = (divides_decides d (value_of t e) h).0 y in
          let is : value_of (residue d t) e ≡ value_of t e -ℤ (value_of t e -ℤ value_of (residue d t) e) = omega (arith, ints) in
          subst (Divides d) (sym is) (Divides-difference d _ _ v differ),
      λ v. (divides_decides d (value_of t e) h).1
          (let is : value_of t e ≡ (value_of t e -ℤ value_of (residue d t) e) +ℤ value_of (residue d t) e = omega (arith, ints) in
          subst (Divides d) (sym is) (Divides-sum d _ _ differ v)),
    )

-- ---- divisibilities
divides_cancel : (d g y : ℤ) → pos 0 <ℤ g → Divides (d *ℤ g) (y *ℤ g) → Divides d y
divides_cancel d g y h v = record { quotient = v.quotient; is = mul_cancel y (v.quotient *ℤ d) g h (v.is ∙ sym (mul_assoc v.quotient d g)) }

pub positive_factor : (d g x : ℤ) → pos 0 <ℤ x → pos 0 <ℤ g → x ≡ d *ℤ g → pos 0 <ℤ d
positive_factor d g x hx hg is =
    by_lt_z (pos 0) d (λ lt. lt)
    (λ le. let small : (d *ℤ g) ≤ℤ (pos 0 *ℤ g) = mul_le_right d (pos 0) g (omega (arith, ints)) le in absurd (omega (arith, ints, small)))

-- h divides d and all numbers of r but its constant
reduced-truth : (h d : ℤ) (r : Linear) (e : List ℤ) → pos 0 <ℤ d → pos 0 <ℤ h → Divides h d → AllByRecursion (λ p. Divides h p.1) r.pairs
    → norm_truth (reduced_divisibility h d r) e ≡ divides (unsigned_abs d) (value_of r e)
reduced-truth h d r e dp hp hd all =
    let whole : d ≡ int_div_euclid d h *ℤ h = quotient_exact h d hp hd in
    let dq : pos 0 <ℤ int_div_euclid d h = positive_factor (int_div_euclid d h) h d dp hp whole in
    by_test (λ n. norm_truth n e ≡ divides (unsigned_abs d) (value_of r e)) (divides (unsigned_abs h) r.constant) _ False
    (λ y. let multiple : value_of r e ≡ value_of (quotient h r) e *ℤ h = value-multiple h r e hp all ((divides_decides h r.constant hp).0 y) in
    by_test (λ n. norm_truth n e ≡ divides (unsigned_abs d) (value_of r e)) (int_eq (int_div_euclid d h) (pos 1)) True (Lit (Div (int_div_euclid d h) (quotient h r)))
    (λ one. let same : d ≡ h = whole ∙ ap (λ z. z *ℤ h) ((Decides-int_eq (int_div_euclid d h) (pos 1)).0 one) ∙ omega (arith, ints) in
    sym ((divides_decides d (value_of r e) dp).1 (record { quotient = value_of (quotient h r) e; is = multiple ∙ ap (λ z. value_of (quotient h r) e *ℤ z) (sym same) })))
    (λ _. same_from_decides _ _ (divides_decides (int_div_euclid d h) (value_of (quotient h r) e) dq) (
      λ t. divides_cancel (int_div_euclid d h) h (value_of (quotient h r) e) hp
          (subst (λ z. Divides z (value_of (quotient h r) e *ℤ h)) whole (subst (Divides d) multiple ((divides_decides d (value_of r e) dp).0 t))),
      λ v. (divides_decides d (value_of r e) dp).1
          (subst (λ z. Divides z (value_of r e)) (sym whole) (subst (Divides (int_div_euclid d h *ℤ h)) (sym multiple) (Divides-product (int_div_euclid d h) (value_of (quotient h r) e) h v))),
    )))
    (λ n. sym (decides_false (divides (unsigned_abs d) (value_of r e)) (divides_decides d (value_of r e) dp)
    (λ v. not_decided (divides (unsigned_abs h) r.constant) (divides_decides h r.constant hp) n
    (divides-constant h r e hp all (Divides-trans h d (value_of r e) hd v)))))

divisibility-truth : (d : ℤ) (t : Linear) (e : List ℤ) → pos 0 <ℤ d → norm_truth (normal_divisibility d t) e ≡ divides (unsigned_abs d) (value_of t e)
divisibility-truth d t e dp =
    reduced-truth (gcd_with d (residues d t.pairs)) d (residue d t) e dp (gcd_with-positive d (residues d t.pairs) dp) (gcd_with-divides d (residues d t.pairs)) (gcd_with-divides_all d (residues d t.pairs))
    ∙ divides-residue d t e dp

denied-truth : (h d : ℤ) (r : Linear) (e : List ℤ) → norm_truth (denied (reduced_divisibility h d r)) e ≡ not (norm_truth (reduced_divisibility h d r) e)
denied-truth h d r e =
    by_test (λ n. norm_truth (denied n) e ≡ not (norm_truth n e)) (divides (unsigned_abs h) r.constant) _ False
    (λ _. by_test (λ n. norm_truth (denied n) e ≡ not (norm_truth n e)) (int_eq (int_div_euclid d h) (pos 1)) True _ (λ _. refl) (λ _. refl))
    (λ _. refl)

-- ---- all kinds
content_positive : (p : ℕ × ℤ) (ps : List (ℕ × ℤ)) → p.1 ≢ pos 0 → pos 0 <ℤ gcd_with (pos 0) (p ∷ ps)
content_positive p ps c = gcd_with-positive (gcd (pos 0) p.1) ps (gcd_positive_right (pos 0) p.1 c)

decided-truth : (b : Bool) (e : List ℤ) → norm_truth (decided b) e ≡ b
decided-truth true e = refl
decided-truth false e = refl

constant-value : (t : Linear) (e : List ℤ) → t.pairs ≡ [] → value_of t e ≡ t.constant
unfolding value_of
constant-value t e none = ap (λ ps. total (value_at e) ps +ℤ t.constant) none ∙ omega (arith, ints)

normal_equation-truth : (t : Linear) (ps : List (ℕ × ℤ)) (e : List ℤ) → t.pairs ≡ ps → AllByRecursion (λ p. p.1 ≢ pos 0) ps
    → norm_truth (normal_equation t ps) e ≡ int_eq (value_of t e) (pos 0)
normal_equation-truth t [] e is c = decided-truth (int_eq t.constant (pos 0)) e ∙ ap (λ z. int_eq z (pos 0)) (sym (constant-value t e is))
normal_equation-truth t (p ∷ ps) e is c =
    equation-truth (gcd_with (pos 0) (p ∷ ps)) t e (content_positive p ps c.0)
    (subst (λ qs. AllByRecursion (λ q. Divides (gcd_with (pos 0) (p ∷ ps)) q.1) qs) (sym is) (gcd_with-divides_all (pos 0) (p ∷ ps)))

normal_inequality-truth : (t : Linear) (ps : List (ℕ × ℤ)) (e : List ℤ) → t.pairs ≡ ps → AllByRecursion (λ p. p.1 ≢ pos 0) ps
    → norm_truth (normal_inequality t ps) e ≡ int_le (pos 0) (value_of t e)
normal_inequality-truth t [] e is c = decided-truth (int_le (pos 0) t.constant) e ∙ ap (λ z. int_le (pos 0) z) (sym (constant-value t e is))
normal_inequality-truth t (p ∷ ps) e is c =
    bound-truth (gcd_with (pos 0) (p ∷ ps)) t e (content_positive p ps c.0)
    (subst (λ qs. AllByRecursion (λ q. Divides (gcd_with (pos 0) (p ∷ ps)) q.1) qs) (sym is) (gcd_with-divides_all (pos 0) (p ∷ ps)))

pub normal-truth : (l : Literal) (e : List ℤ) → IsLiteral l → norm_truth (normal_of l) e ≡ literal_truth l e
unfolding normal_of
normal-truth (Eq t) e h = normal_equation-truth t t.pairs e refl (recursion_from_All _ t.pairs h.term.not_zero)
normal-truth (Geq t) e h = normal_inequality-truth t t.pairs e refl (recursion_from_All _ t.pairs h.term.not_zero)
normal-truth (Div d t) e h = divisibility-truth d t e h.divisor
normal-truth (NDiv d t) e h =
    denied-truth (gcd_with d (residues d t.pairs)) d (residue d t) e ∙ ap not (divisibility-truth d t e h.divisor)

-- the same of a call's answer
pub normal_answer : {E : Type 0} (r : Result Norm E) (l : Literal) → IsLiteral l → IfOk r (λ n. n ≡ normal_of l) → IfOk r (λ n. (e : List ℤ) → norm_truth n e ≡ literal_truth l e)
normal_answer (Ok n) l h is = λ e. ap (λ m. norm_truth m e) is ∙ normal-truth l e h
normal_answer (Err x) l h is = tt

decided-divisor : (b : Bool) → HasDivisorNorm (decided b)
decided-divisor true = tt
decided-divisor false = tt

equation-divisor : (t : Linear) (ps : List (ℕ × ℤ)) → HasDivisorNorm (normal_equation t ps)
equation-divisor t [] = decided-divisor (int_eq t.constant (pos 0))
equation-divisor t (p ∷ ps) = by_test HasDivisorNorm (divides (unsigned_abs (gcd_with (pos 0) (p ∷ ps))) t.constant) _ False (λ _. tt) (λ _. tt)

inequality-divisor : (t : Linear) (ps : List (ℕ × ℤ)) → HasDivisorNorm (normal_inequality t ps)
inequality-divisor t [] = decided-divisor (int_le (pos 0) t.constant)
inequality-divisor t (p ∷ ps) = tt

reduced-divisor : (h d : ℤ) (r : Linear) → IsDivisor d → pos 0 <ℤ h → Divides h d → HasDivisorNorm (reduced_divisibility h d r)
reduced-divisor h d r dd hp hd =
    let quotient_divisor : IsDivisor (int_div_euclid d h) = record { positive = positive_factor (int_div_euclid d h) h d dd.positive hp (quotient_exact h d hp hd); in_range = div_in_range d h hp dd.in_range } in
    by_test HasDivisorNorm (divides (unsigned_abs h) r.constant) _ False
    (λ _. by_test HasDivisorNorm (int_eq (int_div_euclid d h) (pos 1)) True (Lit (Div (int_div_euclid d h) (quotient h r))) (λ _. tt) (λ _. quotient_divisor))
    (λ _. tt)

denied-divisor : (h d : ℤ) (r : Linear) → HasDivisorNorm (reduced_divisibility h d r) → HasDivisorNorm (denied (reduced_divisibility h d r))
denied-divisor h d r =
    by_test (λ n. HasDivisorNorm n → HasDivisorNorm (denied n)) (divides (unsigned_abs h) r.constant) _ False
    (λ _. by_test (λ n. HasDivisorNorm n → HasDivisorNorm (denied n)) (int_eq (int_div_euclid d h) (pos 1)) True (Lit (Div (int_div_euclid d h) (quotient h r))) (λ _ k. k) (λ _ k. k))
    (λ _ k. k)

-- the divisor of a normal form is one
pub normal-divisor : (l : Literal) → HasDivisor l → HasDivisorNorm (normal_of l)
unfolding normal_of
normal-divisor (Eq t) h = equation-divisor t t.pairs
normal-divisor (Geq t) h = inequality-divisor t t.pairs
normal-divisor (Div d t) h = reduced-divisor (gcd_with d (residues d t.pairs)) d (residue d t) h (gcd_with-positive d (residues d t.pairs) h.positive) (gcd_with-divides d (residues d t.pairs))
normal-divisor (NDiv d t) h =
    denied-divisor (gcd_with d (residues d t.pairs)) d (residue d t)
    (reduced-divisor (gcd_with d (residues d t.pairs)) d (residue d t) h (gcd_with-positive d (residues d t.pairs) h.positive) (gcd_with-divides d (residues d t.pairs)))

positive_divisor : (l : Literal) → HasDivisor l → HasPositiveDivisor l
positive_divisor (Eq t) h = tt
positive_divisor (Geq t) h = tt
positive_divisor (Div d t) h = h.positive
positive_divisor (NDiv d t) h = h.positive

-- a literal as code holds it is one over the integers without a limit
pub literal_is : (l : Literal) → IsNormal (term_of l) → HasDivisor l → IsLiteral l
literal_is l n h = record { term = reduced-normal (term_of l) n; divisor = positive_divisor l h }

pub ruleset known = (literal_is)
