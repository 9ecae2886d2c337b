-- Quotients and residues of terms in normal form are in normal form.
use Rattle.std.proofs.Common.{◌≡◌, ◌≢◌, ◌<◌, ◌≤◌, ◌+◌, ◌/◌, ◌%◌, ◌^◌, ℕ, ℤ, pos, negsuc, ◌*ℤ◌, ◌≤ℤ◌, ◌<ℤ◌, int_le, true, not, cond, List, [], ◌∷◌, ◌++◌, length, refl, sym, ◌∙◌, ap, subst, arith}
use Rattle.std.specs.Prelude.{All}
use Rattle.std.proofs.Common.{to_z, of_z, to_z-of_z}
use mir.Syntax.{w128}
use mir.Val.{SFits}
use Rattle.std.specs.Int.{int_div_euclid, int_rem_euclid}
use Rattle.std.specs.Ordering.{int_eq}
use Rattle.std.specs.List.{AllByRecursion, flat_map}
use Rattle.clause_set.proofs.Walks.{FlatMaps, flat_maps_more, flat_maps_all}
use Rattle.std.proofs.lemmas.Int.{ints}
use Rattle.std.proofs.Math.Nat.{div-le_self}
use Rattle.std.proofs.lemmas.Bool.Decides.{Decides-int_eq}
use Rattle.std.proofs.lemmas.List.Elements.{All-from_recursion, recursion_from_All}
use Rattle.base_integers.specs.Divides.{Divides}
use Rattle.linear_term.specs.Linear.{Linear, IsRisingFrom, IsCoefficient, IsNormal}
use Rattle.linear_term.specs.Range.{InRange}
use Rattle.linear_term.proofs.Totals.{by_test}
use Rattle.linear_term.proofs.Normal.{rising_weaker}
use Rattle.clause_set.specs.Literals.{IsDivisor}
use Rattle.clause_set.specs.Content.{HasContent}
use Rattle.clause_set.specs.declared.literal.Literal.TheVariants.{Geq}
use Rattle.clause_set.specs.declared.literal.Norm.TheVariants.{Lit}
use Rattle.clause_set.specs.Normal.{gcd_with, divided, quotient, residues, residue, decided, normal_equation, reduced_equation, normal_inequality}
use Rattle.clause_set.proofs.Contents.{quotient_exact, gcd_with-positive, gcd_with-divides_all, gcd_positive_right}
use Rattle.clause_set.proofs.Terms.{in_range-coefficients}
use Rattle.base_integers.specs.Gcd.{gcd}

pub div_in_range : (a g : ℤ) → pos 0 <ℤ g → InRange a → InRange (int_div_euclid a g)
div_in_range (pos a) (pos g) h r = let s : a / g ≤ a = div-le_self a g in omega (arith, ints)
div_in_range (negsuc a) (pos g) h r = let s : a / g ≤ a = div-le_self a g in omega (arith, ints)
div_in_range a (negsuc g) h r = absurd (omega (arith, ints))

pub quotient_not_zero : (a g : ℤ) → pos 0 <ℤ g → Divides g a → a ≢ pos 0 → int_div_euclid a g ≢ pos 0
quotient_not_zero a g h d n z = n (quotient_exact g a h d ∙ ap (λ q. q *ℤ g) z ∙ omega (arith, ints))

pub divided-rises : (g : ℤ) (n : ℕ) (ps : List (ℕ × ℤ)) → IsRisingFrom n ps → IsRisingFrom n (divided g ps)
divided-rises g n [] h = tt
divided-rises g n (p ∷ ps) h = (h.0, divided-rises g (p.0 + 1) ps h.1)

divided-coefficients : (g : ℤ) (ps : List (ℕ × ℤ)) → pos 0 <ℤ g → AllByRecursion (λ p. Divides g p.1) ps → AllByRecursion (λ p. IsCoefficient p.1) ps
    → AllByRecursion (λ p. IsCoefficient p.1) (divided g ps)
divided-coefficients g [] h d c = tt
divided-coefficients g (p ∷ ps) h d c =
    (record { in_range = div_in_range p.1 g h c.0.in_range; not_zero = quotient_not_zero p.1 g h d.0 c.0.not_zero }, divided-coefficients g ps h d.1 c.1)

divided-names : (g : ℤ) (ps : List (ℕ × ℤ)) → AllByRecursion (λ p. p.0 < 2 ^ 32) ps → AllByRecursion (λ p. p.0 < 2 ^ 32) (divided g ps)
divided-names g [] h = tt
divided-names g (p ∷ ps) h = (h.0, divided-names g ps h.1)

pub normal-quotient : (g : ℤ) (t : Linear) → pos 0 <ℤ g → All (λ p. Divides g p.1) t.pairs → IsNormal t → IsNormal (quotient g t)
normal-quotient g t h d n = record {
  rising = divided-rises g 0 t.pairs n.rising;
  coefficients = All-from_recursion (λ p. IsCoefficient p.1) (divided g t.pairs)
      (divided-coefficients g t.pairs h (recursion_from_All _ t.pairs d) (recursion_from_All _ t.pairs n.coefficients));
  names = All-from_recursion (λ p. p.0 < 2 ^ 32) (divided g t.pairs) (divided-names g t.pairs (recursion_from_All _ t.pairs n.names));
  constant = div_in_range t.constant g h n.constant;
}

-- ---- residues
pub rem_bounds : (a d : ℤ) → pos 0 <ℤ d → (pos 0 ≤ℤ int_rem_euclid a d) × (int_rem_euclid a d <ℤ d)
rem_bounds (pos a) (pos d) h = let some : 0 < d = omega (arith, ints) in let r : a % d < d = omega arith in (omega (arith, ints), omega (arith, ints))
rem_bounds (negsuc a) (pos d) h = let some : 0 < d = omega (arith, ints) in let r : a % d < d = omega arith in (omega (arith, ints), omega (arith, ints))
rem_bounds a (negsuc d) h = absurd (omega (arith, ints))

pub rem_in_range : (a d : ℤ) → IsDivisor d → InRange (int_rem_euclid a d)
rem_in_range a d h = let b = rem_bounds a d h.positive in let r : InRange d = h.in_range in omega (arith, ints, b.0, b.1)

pub residues-rise : (d : ℤ) (n : ℕ) (ps : List (ℕ × ℤ)) → IsRisingFrom n ps → IsRisingFrom n (residues d ps)
residues-rise d n [] h = tt
residues-rise d n (p ∷ ps) h =
    let behind = residues-rise d (p.0 + 1) ps h.1 in
    by_test (IsRisingFrom n) (not (int_eq (int_rem_euclid p.1 d) (pos 0))) _ _
    (λ _. (h.0, behind))
    (λ _. rising_weaker n (p.0 + 1) (residues d ps) (omega (arith, h.0)) behind)

residues-coefficients : (d : ℤ) (ps : List (ℕ × ℤ)) → IsDivisor d → AllByRecursion (λ p. IsCoefficient p.1) (residues d ps)
residues-coefficients d [] h = tt
residues-coefficients d (p ∷ ps) h =
    by_test (AllByRecursion (λ q. IsCoefficient q.1)) (not (int_eq (int_rem_euclid p.1 d) (pos 0))) _ _
    (λ t. (record { in_range = rem_in_range p.1 d h; not_zero = λ z. let e : int_eq (int_rem_euclid p.1 d) (pos 0) ≡ true = (Decides-int_eq _ (pos 0)).1 z in grind arith }, residues-coefficients d ps h))
    (λ _. residues-coefficients d ps h)

residues-names : (d : ℤ) (ps : List (ℕ × ℤ)) → AllByRecursion (λ p. p.0 < 2 ^ 32) ps → AllByRecursion (λ p. p.0 < 2 ^ 32) (residues d ps)
residues-names d [] h = tt
residues-names d (p ∷ ps) h =
    by_test (AllByRecursion (λ q. q.0 < 2 ^ 32)) (not (int_eq (int_rem_euclid p.1 d) (pos 0))) _ _ (λ _. (h.0, residues-names d ps h.1)) (λ _. residues-names d ps h.1)

pub normal-residue : (d : ℤ) (t : Linear) → IsDivisor d → IsNormal t → IsNormal (residue d t)
normal-residue d t h n = record {
  rising = residues-rise d 0 t.pairs n.rising;
  coefficients = All-from_recursion (λ p. IsCoefficient p.1) (residues d t.pairs) (residues-coefficients d t.pairs h);
  names = All-from_recursion (λ p. p.0 < 2 ^ 32) (residues d t.pairs) (residues-names d t.pairs (recursion_from_All _ t.pairs n.names));
  constant = rem_in_range t.constant d h;
}

-- ---- the loop over the residues
residues-cons : (d : ℤ) (p : ℕ × ℤ) (ps : List (ℕ × ℤ)) → residues d (p ∷ ps) ≡ residues d (p ∷ []) ++ residues d ps
residues-cons d p ps =
    by_test (λ z. z ≡ cond (not (int_eq (int_rem_euclid p.1 d) (pos 0))) ((p.0, int_rem_euclid p.1 d) ∷ []) [] ++ residues d ps)
    (not (int_eq (int_rem_euclid p.1 d) (pos 0))) ((p.0, int_rem_euclid p.1 d) ∷ residues d ps) (residues d ps)
    (λ t. ap (λ b. cond b ((p.0, int_rem_euclid p.1 d) ∷ []) [] ++ residues d ps) (sym t))
    (λ t. ap (λ b. cond b ((p.0, int_rem_euclid p.1 d) ∷ []) [] ++ residues d ps) (sym t))

pub residues-flat : (d : ℤ) (ps : List (ℕ × ℤ)) → flat_map (λ p. residues d (p ∷ [])) ps ≡ residues d ps
residues-flat d [] = refl
residues-flat d (p ∷ ps) = ap (λ z. residues d (p ∷ []) ++ z) (residues-flat d ps) ∙ sym (residues-cons d p ps)

pub residues_done : (d : ℤ) (ps : List (ℕ × ℤ)) (i : ℕ) (out : List (ℕ × ℤ)) → length ps ≤ i → FlatMaps (λ p. residues d (p ∷ [])) ps i out → out ≡ residues d ps
residues_done d ps i out le h = flat_maps_all (λ p. residues d (p ∷ [])) ps i out le h ∙ residues-flat d ps

pub ruleset residue_steps = (flat_maps_more, residues_done)

-- ---- the greatest common divisor of a term's coefficients
content_of : (g : ℤ) (ps : List (ℕ × ℤ)) → AllByRecursion (λ p. IsCoefficient p.1) ps → HasContent g ps → pos 0 <ℤ gcd_with g ps
content_of g [] c some = some refl
content_of g (p ∷ ps) c some = gcd_with-positive (gcd g p.1) ps (gcd_positive_right g p.1 c.0.not_zero)

pub content_positive : (g : ℤ) (t : Linear) → IsNormal t → HasContent g t.pairs → pos 0 <ℤ gcd_with g t.pairs
content_positive g t n some = content_of g t.pairs (recursion_from_All _ t.pairs n.coefficients) some

pub content_divides : (g : ℤ) (ps : List (ℕ × ℤ)) → All (λ p. Divides (gcd_with g ps) p.1) ps
content_divides g ps = All-from_recursion (λ p. Divides (gcd_with g ps) p.1) ps (gcd_with-divides_all g ps)

-- the same of a divisor that was passed by value
content_value : (g : ℤ) (t : Linear) (ps : List (ℕ × ℤ)) (r : ℤ) → ps ≡ t.pairs → r ≡ gcd_with g ps → SFits w128 r → to_z w128 (of_z w128 r) ≡ gcd_with g t.pairs
content_value g t ps r same is fits = to_z-of_z fits ∙ is ∙ ap (λ z. gcd_with g z) same

pub content_passed_positive : (g : ℤ) (t : Linear) (ps : List (ℕ × ℤ)) (r : ℤ) → IsNormal t → HasContent g t.pairs → ps ≡ t.pairs → r ≡ gcd_with g ps → SFits w128 r
    → pos 0 <ℤ to_z w128 (of_z w128 r)
content_passed_positive g t ps r n some same is fits = subst (λ z. pos 0 <ℤ z) (sym (content_value g t ps r same is fits)) (content_positive g t n some)

pub content_passed_divides : (g : ℤ) (t : Linear) (ps : List (ℕ × ℤ)) (r : ℤ) → ps ≡ t.pairs → r ≡ gcd_with g ps → SFits w128 r
    → All (λ p. Divides (to_z w128 (of_z w128 r)) p.1) t.pairs
content_passed_divides g t ps r same is fits = subst (λ z. All (λ p. Divides z p.1) t.pairs) (sym (content_value g t ps r same is fits)) (content_divides g t.pairs)

pub normal_equation-some : (t : Linear) (ps : List (ℕ × ℤ)) → ps ≢ [] → normal_equation t ps ≡ reduced_equation (gcd_with (pos 0) ps) t
normal_equation-some t [] n = absurd (n refl)
normal_equation-some t (p ∷ ps) n = refl

pub normal_equation-none : (t : Linear) (ps : List (ℕ × ℤ)) → ps ≡ [] → normal_equation t ps ≡ decided (int_eq t.constant (pos 0))
normal_equation-none t [] e = refl
normal_equation-none t (p ∷ ps) e = absurd cc

pub normal_inequality-some : (t : Linear) (ps : List (ℕ × ℤ)) → ps ≢ [] → normal_inequality t ps ≡ Lit (Geq (quotient (gcd_with (pos 0) ps) t))
normal_inequality-some t [] n = absurd (n refl)
normal_inequality-some t (p ∷ ps) n = refl

pub normal_inequality-none : (t : Linear) (ps : List (ℕ × ℤ)) → ps ≡ [] → normal_inequality t ps ≡ decided (int_le (pos 0) t.constant)
normal_inequality-none t [] e = refl
normal_inequality-none t (p ∷ ps) e = absurd cc

pub ruleset contents = (content_positive, content_divides, in_range-coefficients, normal_equation-some, normal_equation-none, normal_inequality-some, normal_inequality-none)
