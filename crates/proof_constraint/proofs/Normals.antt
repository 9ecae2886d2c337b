-- A linear term in normal form, by its pairs in turn.
use Rattle.std.proofs.Common.{ℕ, ◌≡◌, ◌≤◌, ◌<◌, ◌+◌, ◌^◌, ℤ, List, [], ◌∷◌, arith}
use Rattle.std.specs.List.{AllByRecursion}
use Rattle.std.proofs.lemmas.List.Elements.{All-from_recursion, recursion_from_All}
use Rattle.linear_term.specs.Range.{InRange}
use Rattle.linear_term.specs.Linear.{Linear, IsRisingFrom, IsCoefficient, IsNormal, IsOver}
use Rattle.proof_constraint.proofs.Said.{ArePairs, above}

pairs_by : (n : ℕ) (ps : List (ℕ × ℤ)) → IsRisingFrom n ps → AllByRecursion (λ (p : ℕ × ℤ). IsCoefficient p.1) ps → AllByRecursion (λ (p : ℕ × ℤ). p.0 < 2 ^ 32) ps → ArePairs n ps
pairs_by n [] r c l = tt
pairs_by n (p ∷ ps) r c l = (let h = r.0 in omega arith, l.0, c.0.not_zero, c.0.in_range, pairs_by (p.0 + 1) ps r.1 c.1 l.1)

pub normal_pairs : (s : Linear) → IsNormal s → ArePairs 0 s.pairs
normal_pairs s h = pairs_by 0 s.pairs h.rising (recursion_from_All (λ (p : ℕ × ℤ). IsCoefficient p.1) s.pairs h.coefficients) (recursion_from_All (λ (p : ℕ × ℤ). p.0 < 2 ^ 32) s.pairs h.names)

rising : (n : ℕ) (ps : List (ℕ × ℤ)) → ArePairs n ps → IsRisingFrom n ps
rising n [] a = tt
rising n (p ∷ ps) a = (let h = a.0 in omega arith, rising (p.0 + 1) ps a.4)

coefficients : (n : ℕ) (ps : List (ℕ × ℤ)) → ArePairs n ps → AllByRecursion (λ (p : ℕ × ℤ). IsCoefficient p.1) ps
coefficients n [] a = tt
coefficients n (p ∷ ps) a = (record { in_range = a.3; not_zero = a.2 }, coefficients (p.0 + 1) ps a.4)

names : (n : ℕ) (ps : List (ℕ × ℤ)) → ArePairs n ps → AllByRecursion (λ (p : ℕ × ℤ). p.0 < 2 ^ 32) ps
names n [] a = tt
names n (p ∷ ps) a = (a.1, names (p.0 + 1) ps a.4)

pub normal_sum : (ps : List (ℕ × ℤ)) (k : ℤ) → ArePairs 0 ps → InRange k → IsNormal (record { pairs = ps; constant = k })
normal_sum ps k a h = record {
  rising = rising 0 ps a;
  coefficients = All-from_recursion (λ (p : ℕ × ℤ). IsCoefficient p.1) ps (coefficients 0 ps a);
  names = All-from_recursion (λ (p : ℕ × ℤ). p.0 < 2 ^ 32) ps (names 0 ps a);
  constant = h;
}

risen : (n : ℕ) (ps : List (ℕ × ℤ)) → ArePairs n ps → n ≤ above n ps
risen n [] a = omega arith
risen n (p ∷ ps) a = let up = risen (p.0 + 1) ps a.4 in let low = a.0 in omega arith

below : (n x : ℕ) (ps : List (ℕ × ℤ)) → ArePairs n ps → above n ps ≤ x → AllByRecursion (λ (p : ℕ × ℤ). p.0 < x) ps
below n x [] a h = tt
below n x (p ∷ ps) a h = (let up = risen (p.0 + 1) ps a.4 in omega arith, below (p.0 + 1) x ps a.4 h)

-- a name that is at least the next one is above all
pub over : (s : Linear) (least x : ℕ) → least ≡ above 0 s.pairs → ArePairs 0 s.pairs → least ≤ x → IsOver x s
over s least x e a h = All-from_recursion (λ (p : ℕ × ℤ). p.0 < x) s.pairs (below 0 x s.pairs a (omega arith))
