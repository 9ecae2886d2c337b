-- Numbers in the range: what the tests say, and the numbers of a combination.
use Rattle.std.proofs.Common.{◌≡◌, ℕ, ℤ, pos, ◌+ℤ◌, ◌*ℤ◌, List, [], ◌∷◌, map, true, refl, arith}
use Rattle.std.specs.Prelude.{All}
use Rattle.std.specs.List.{AllByRecursion}
use Rattle.std.proofs.lemmas.Bool.Decides.{nat_tests}
use Rattle.std.proofs.lemmas.List.Sums.{AllPass-from_list_all, list_all-from_AllPass}
use Rattle.std.proofs.lemmas.List.Elements.{All-from_recursion, recursion_from_All, All-append}
use Rattle.linear_term.specs.Linear.{Linear, IsCoefficient, IsNormal}
use Rattle.linear_term.specs.Range.{InRange, Stays, IsPlace, is_in_range, stays, all_stay}
use Rattle.linear_term.specs.Combination.{aligned_right, aligned_behind, aligned, place_of, raw_numbers}
use Rattle.linear_term.specs.declared.merge.Aligned.{Aligned}
use Rattle.linear_term.specs.declared.range.Place.{Place}
use Rattle.linear_term.proofs.Totals.{by_names}

pub Stays-from_test : (p : Place) → stays p ≡ true → Stays p.m p.a p.n p.b
unfolding stays
Stays-from_test p h = record { left = grind (arith, nat_tests); right = grind (arith, nat_tests); whole = grind (arith, nat_tests) }

pub test-from_Stays : (p : Place) → Stays p.m p.a p.n p.b → stays p ≡ true
unfolding stays
test-from_Stays p h =
    let left : is_in_range (p.m *ℤ p.a) ≡ true = grind (arith, nat_tests, h.left) in
    let right : is_in_range (p.n *ℤ p.b) ≡ true = grind (arith, nat_tests, h.right) in
    let whole : is_in_range ((p.m *ℤ p.a) +ℤ (p.n *ℤ p.b)) ≡ true = grind (arith, nat_tests, h.whole) in
    rw (left, right, whole) refl

pub All-from_all_stay : (ps : List Place) → all_stay ps ≡ true → All (λ p. stays p ≡ true) ps
unfolding all_stay
All-from_all_stay ps h = AllPass-from_list_all stays ps h

pub all_stay-from_All : (ps : List Place) → All (λ p. stays p ≡ true) ps → all_stay ps ≡ true
unfolding all_stay
all_stay-from_All ps h = list_all-from_AllPass stays ps h

-- ---- the fields of the numbers of a combination
abbrev AreSides : List Aligned → Type 0
AreSides [] = Unit {0}
AreSides (r ∷ rs) = InRange r.left × InRange r.right × AreSides rs

zero_in_range : InRange (pos 0)
zero_in_range = omega arith

right-sides : (qs : List (ℕ × ℤ)) → AllByRecursion (λ (q : ℕ × ℤ). IsCoefficient q.1) qs → AreSides (aligned_right qs)
right-sides [] h = tt
right-sides (q ∷ qs) h = (zero_in_range, (h.0).in_range, right-sides qs h.1)

behind-sides : (p : ℕ × ℤ) (rest : List (ℕ × ℤ) → List Aligned) → InRange p.1
    → ((bs : List (ℕ × ℤ)) → AllByRecursion (λ (q : ℕ × ℤ). IsCoefficient q.1) bs → AreSides (rest bs))
    → (qs : List (ℕ × ℤ)) → AllByRecursion (λ (q : ℕ × ℤ). IsCoefficient q.1) qs → AreSides (aligned_behind p rest qs)
behind-sides p rest first each [] h = (first, zero_in_range, each [] tt)
behind-sides p rest first each (q ∷ qs) h =
    by_names AreSides p.0 q.0 _ _ _
    (λ _. (first, zero_in_range, each (q ∷ qs) h))
    (λ _. (zero_in_range, (h.0).in_range, behind-sides p rest first each qs h.1))
    (λ _. (first, (h.0).in_range, each qs h.1))

aligned-sides : (ps qs : List (ℕ × ℤ)) → AllByRecursion (λ (q : ℕ × ℤ). IsCoefficient q.1) ps
    → AllByRecursion (λ (q : ℕ × ℤ). IsCoefficient q.1) qs → AreSides (aligned ps qs)
aligned-sides [] qs h g = right-sides qs g
aligned-sides (p ∷ ps) qs h g = behind-sides p (aligned ps) (h.0).in_range (λ bs b. aligned-sides ps bs h.1 b) qs g

places-of : (m n : ℤ) (rs : List Aligned) → InRange m → InRange n → AreSides rs → AllByRecursion IsPlace (map (place_of m n) rs)
places-of m n [] h g s = tt
places-of m n (r ∷ rs) h g s = (record { m = h; a = s.0; n = g; b = s.1 }, places-of m n rs h g s.2)

pub raw_numbers-places : (m n : ℤ) (s t : Linear) → InRange m → InRange n → IsNormal s → IsNormal t → All IsPlace (raw_numbers m s n t)
unfolding raw_numbers
raw_numbers-places m n s t h g u v =
    let constants : Place = record { m = m; a = s.constant; n = n; b = t.constant } in
    let last : AllByRecursion IsPlace (constants ∷ []) = (record { m = h; a = u.constant; n = g; b = v.constant }, tt) in
    All-append IsPlace (map (place_of m n) (aligned s.pairs t.pairs)) _
    (All-from_recursion IsPlace _
    (places-of m n (aligned s.pairs t.pairs) h g
    (aligned-sides s.pairs t.pairs
    (recursion_from_All (λ (q : ℕ × ℤ). IsCoefficient q.1) s.pairs u.coefficients)
    (recursion_from_All (λ (q : ℕ × ℤ). IsCoefficient q.1) t.pairs v.coefficients))))
    (All-from_recursion IsPlace (constants ∷ []) last)
