-- Terms in normal form stay so where their constant changes or their sign is turned.
use Rattle.std.proofs.Common.{◌≡◌, ◌+◌, ◌<◌, ◌^◌, ℕ, ℤ, pos, neg_ℤ, unsigned_abs, List, [], ◌∷◌, true, false, refl, sym, ◌∙◌, ap, subst, arith}
use Rattle.std.specs.Prelude.{All}
use Rattle.std.proofs.Common.{to_z, of_z, to_z-of_z}
use mir.Syntax.{w128}
use mir.Val.{SFits}
use Rattle.std.proofs.lemmas.Int.{ints}
use Rattle.std.proofs.lemmas.List.Elements.{All-map, All-weaker}
use Rattle.linear_term.specs.Linear.{Linear, IsRisingFrom, IsCoefficient, IsNormal}
use Rattle.linear_term.specs.Range.{InRange}
use Rattle.clause_set.specs.Normal.{negated, turned, leads_negative}

pub normal-constant : (t : Linear) (k : ℤ) → IsNormal t → InRange k → IsNormal (record { pairs = t.pairs; constant = k })
normal-constant t k n h = record { rising = n.rising; coefficients = n.coefficients; names = n.names; constant = h }

pub rising-negated : (n : ℕ) (ps : List (ℕ × ℤ)) → IsRisingFrom n ps → IsRisingFrom n (negated ps)
rising-negated n [] h = tt
rising-negated n (p ∷ ps) h = (h.0, rising-negated (p.0 + 1) ps h.1)

pub neg_in_range : (k : ℤ) → InRange k → InRange (neg_ℤ k)
neg_in_range k h = let e : unsigned_abs (neg_ℤ k) ≡ unsigned_abs k = grind (arith, ints) in rw e h

neg_coefficient : (k : ℤ) → IsCoefficient k → IsCoefficient (neg_ℤ k)
neg_coefficient k h = record { in_range = neg_in_range k h.in_range; not_zero = λ e. h.not_zero (let z : k ≡ pos 0 = omega (arith, ints, e) in z) }

pub normal-negated : (t : Linear) → IsNormal t → IsNormal (record { pairs = negated t.pairs; constant = neg_ℤ t.constant })
normal-negated t n = record {
  rising = rising-negated 0 t.pairs n.rising;
  coefficients = All-map (λ p. IsCoefficient p.1) (λ p. (p.0, neg_ℤ p.1)) t.pairs (All-weaker (λ p. IsCoefficient p.1) (λ p. IsCoefficient (neg_ℤ p.1)) (λ p h. neg_coefficient p.1 h) t.pairs n.coefficients);
  names = All-map (λ p. p.0 < 2 ^ 32) (λ p. (p.0, neg_ℤ p.1)) t.pairs n.names;
  constant = neg_in_range t.constant n.constant;
}

pub negated-negated : (ps : List (ℕ × ℤ)) → negated (negated ps) ≡ ps
negated-negated [] = refl
negated-negated (p ∷ ps) =
    let e : neg_ℤ (neg_ℤ p.1) ≡ p.1 = omega (arith, ints) in
    ap (λ k. (p.0, k) ∷ negated (negated ps)) e ∙ ap (λ z. p ∷ z) (negated-negated ps)

-- the coefficients of a term in normal form are in the range
pub in_range-coefficients : (t : Linear) → IsNormal t → All (λ p. InRange p.1) t.pairs
in_range-coefficients t n = All-weaker (λ p. IsCoefficient p.1) (λ p. InRange p.1) (λ p h. h.in_range) t.pairs n.coefficients

pub turned_no : (t : Linear) → leads_negative t.pairs ≡ false → turned t ≡ t
turned_no t h = rw h refl

pub turned_yes : (t : Linear) → leads_negative t.pairs ≡ true → turned t ≡ record { pairs = negated t.pairs; constant = neg_ℤ t.constant }
turned_yes t h = rw h refl

-- the same of a constant that was passed by value
pub normal_passed : (t : Linear) (ps : List (ℕ × ℤ)) (k : ℤ) → IsNormal t → ps ≡ negated t.pairs → SFits w128 k → k ≡ neg_ℤ t.constant
    → IsNormal (record { pairs = ps; constant = to_z w128 (of_z w128 k) })
normal_passed t ps k n same fits e =
    let there : to_z w128 (of_z w128 k) ≡ neg_ℤ t.constant = to_z-of_z fits ∙ e in
    subst (λ z. IsNormal (record { pairs = ps; constant = z })) (sym there)
    (subst (λ z. IsNormal (record { pairs = z; constant = neg_ℤ t.constant })) (sym same) (normal-negated t n))

-- a term in normal form, of pairs and of a constant that was passed by value
pub passed : (t : Linear) (ps : List (ℕ × ℤ)) (k : ℤ) → IsNormal t → ps ≡ t.pairs → k ≡ t.constant → SFits w128 k → IsNormal (record { pairs = ps; constant = to_z w128 (of_z w128 k) })
passed t ps k n same e fits =
    subst (λ z. IsNormal (record { pairs = ps; constant = z })) (sym (to_z-of_z fits ∙ e)) (subst (λ z. IsNormal (record { pairs = z; constant = t.constant })) (sym same) n)

pub ruleset terms = (normal-constant, normal-negated, negated-negated, in_range-coefficients, neg_in_range)

pub ruleset turning = (terms, turned_no, turned_yes)
