-- The combination of two terms in normal form is in normal form.
use Rattle.std.proofs.Common.{◌≡◌, ◌+◌, ◌<◌, ◌≤◌, ◌^◌, ℕ, ℤ, pos, ◌+ℤ◌, ◌*ℤ◌, List, [], ◌∷◌, map, Bool, true, false, ◌&&◌, refl, sym, ◌∙◌, subst, arith}
use Rattle.std.specs.List.{list_all, AllByRecursion}
use Rattle.std.specs.Ordering.{int_eq}
use Rattle.std.proofs.lemmas.Int.{ints}
use Rattle.std.proofs.lemmas.Bool.Decides.{nat_tests}
use Rattle.std.proofs.lemmas.List.Elements.{All-from_recursion, recursion_from_All}
use Rattle.std.proofs.lemmas.List.Folds.{list_all-append}
use Rattle.linear_term.specs.Linear.{Linear, IsRisingFrom, IsCoefficient, IsNormal}
use Rattle.linear_term.specs.Range.{InRange, stays, all_stay}
use Rattle.linear_term.specs.Combination.{aligned_right, aligned_behind, aligned, combined, combination, place_of, raw_numbers}
use Rattle.linear_term.specs.declared.merge.Aligned.{Aligned}
use Rattle.linear_term.specs.declared.range.Place.{Place}
use Rattle.linear_term.proofs.Totals.{by_test, by_names}

pub rising_weaker : (j k : ℕ) (ps : List (ℕ × ℤ)) → j ≤ k → IsRisingFrom k ps → IsRisingFrom j ps
rising_weaker j k [] le h = tt
rising_weaker j k (p ∷ ps) le h = (omega (arith, h.0), h.1)

-- ---- names that rise
abbrev pub NamesRise : ℕ → List Aligned → Type 0
NamesRise n [] = Unit {0}
NamesRise n (r ∷ rs) = (n < r.name + 1) × NamesRise (r.name + 1) rs

right-rises : (k : ℕ) (qs : List (ℕ × ℤ)) → IsRisingFrom k qs → NamesRise k (aligned_right qs)
right-rises k [] h = tt
right-rises k (q ∷ qs) h = (h.0, right-rises (q.0 + 1) qs h.1)

behind-rises : (p : ℕ × ℤ) (rest : List (ℕ × ℤ) → List Aligned)
    → ((bs : List (ℕ × ℤ)) → IsRisingFrom (p.0 + 1) bs → NamesRise (p.0 + 1) (rest bs))
    → (k : ℕ) (qs : List (ℕ × ℤ)) → k < p.0 + 1 → IsRisingFrom k qs → NamesRise k (aligned_behind p rest qs)
behind-rises p rest each k [] lt h = (lt, each [] tt)
behind-rises p rest each k (q ∷ qs) lt h =
    by_names (NamesRise k) p.0 q.0 _ _ _
    (λ less. (lt, each (q ∷ qs) (omega (arith, less), h.1)))
    (λ more. (h.0, behind-rises p rest each (q.0 + 1) qs (omega (arith, more)) h.1))
    (λ same. (lt, each qs (subst (λ (x : ℕ). IsRisingFrom (x + 1) qs) (sym same) h.1)))

pub aligned-rises : (k : ℕ) (ps qs : List (ℕ × ℤ)) → IsRisingFrom k ps → IsRisingFrom k qs → NamesRise k (aligned ps qs)
aligned-rises k [] qs h g = right-rises k qs g
aligned-rises k (p ∷ ps) qs h g =
    behind-rises p (aligned ps) (λ bs b. aligned-rises (p.0 + 1) ps bs h.1 b) k qs h.0 g

pub combined-rises : (m n : ℤ) (k : ℕ) (rs : List Aligned) → NamesRise k rs → IsRisingFrom k (combined m n rs)
combined-rises m n k [] h = tt
combined-rises m n k (r ∷ rs) h =
    let below = combined-rises m n (r.name + 1) rs h.1 in
    by_test (IsRisingFrom k) (int_eq ((m *ℤ r.left) +ℤ (n *ℤ r.right)) (pos 0)) _ _
    (λ _. rising_weaker k (r.name + 1) (combined m n rs) (omega (arith, h.0)) below)
    (λ _. (h.0, below))

-- ---- a fact about every name
abbrev pub AllNames : (ℕ → Type 0) → List Aligned → Type 0
AllNames P [] = Unit {0}
AllNames P (r ∷ rs) = P r.name × AllNames P rs

right-names : (P : ℕ → Type 0) (qs : List (ℕ × ℤ)) → AllByRecursion (λ (q : ℕ × ℤ). P q.0) qs → AllNames P (aligned_right qs)
right-names P [] h = tt
right-names P (q ∷ qs) h = (h.0, right-names P qs h.1)

behind-names : (P : ℕ → Type 0) (p : ℕ × ℤ) (rest : List (ℕ × ℤ) → List Aligned) → P p.0
    → ((bs : List (ℕ × ℤ)) → AllByRecursion (λ (q : ℕ × ℤ). P q.0) bs → AllNames P (rest bs))
    → (qs : List (ℕ × ℤ)) → AllByRecursion (λ (q : ℕ × ℤ). P q.0) qs → AllNames P (aligned_behind p rest qs)
behind-names P p rest first each [] h = (first, each [] tt)
behind-names P p rest first each (q ∷ qs) h =
    by_names (AllNames P) p.0 q.0 _ _ _
    (λ _. (first, each (q ∷ qs) h))
    (λ _. (h.0, behind-names P p rest first each qs h.1))
    (λ _. (first, each qs h.1))

pub aligned-names : (P : ℕ → Type 0) (ps qs : List (ℕ × ℤ)) → AllByRecursion (λ (q : ℕ × ℤ). P q.0) ps
    → AllByRecursion (λ (q : ℕ × ℤ). P q.0) qs → AllNames P (aligned ps qs)
aligned-names P [] qs h g = right-names P qs g
aligned-names P (p ∷ ps) qs h g = behind-names P p (aligned ps) h.0 (λ bs b. aligned-names P ps bs h.1 b) qs g

pub combined-names : (P : ℕ → Type 0) (m n : ℤ) (rs : List Aligned) → AllNames P rs
    → AllByRecursion (λ (q : ℕ × ℤ). P q.0) (combined m n rs)
combined-names P m n [] h = tt
combined-names P m n (r ∷ rs) h =
    by_test (AllByRecursion (λ (q : ℕ × ℤ). P q.0)) (int_eq ((m *ℤ r.left) +ℤ (n *ℤ r.right)) (pos 0)) _ _
    (λ _. combined-names P m n rs h.1)
    (λ _. (h.0, combined-names P m n rs h.1))

-- ---- coefficients in the range
pub stays-range : (p : Place) → stays p ≡ true → InRange ((p.m *ℤ p.a) +ℤ (p.n *ℤ p.b))
unfolding stays
stays-range p h = grind (arith, nat_tests)

both_true : (a b : Bool) → (a && b) ≡ true → (a ≡ true) × (b ≡ true)
both_true true b h = (refl, h)
both_true false b h = absurd (cc)

pub combined-coefficients : (m n : ℤ) (rs : List Aligned) → list_all stays (map (place_of m n) rs) ≡ true
    → AllByRecursion (λ (q : ℕ × ℤ). IsCoefficient q.1) (combined m n rs)
combined-coefficients m n [] h = tt
combined-coefficients m n (r ∷ rs) h =
    let parts = both_true (stays (place_of m n r)) (list_all stays (map (place_of m n) rs)) h in
    let below = combined-coefficients m n rs parts.1 in
    by_test (AllByRecursion (λ (q : ℕ × ℤ). IsCoefficient q.1)) (int_eq ((m *ℤ r.left) +ℤ (n *ℤ r.right)) (pos 0)) _ _
    (λ _. below)
    (λ e. (record { in_range = stays-range (place_of m n r) parts.0; not_zero = λ z. grind (arith, ints) }, below))

-- ---- the whole term
pub raw_numbers-parts : (m n : ℤ) (s t : Linear) → all_stay (raw_numbers m s n t) ≡ true
    → (list_all stays (map (place_of m n) (aligned s.pairs t.pairs)) ≡ true) × (stays (record { m = m; a = s.constant; n = n; b = t.constant }) ≡ true)
unfolding all_stay raw_numbers
raw_numbers-parts m n s t h =
    let parts = both_true _ _ (sym (list_all-append stays (map (place_of m n) (aligned s.pairs t.pairs)) _) ∙ h) in
    (parts.0, (both_true _ _ parts.1).0)

pub normal-combination : (m n : ℤ) (s t : Linear) → IsNormal s → IsNormal t → all_stay (raw_numbers m s n t) ≡ true
    → IsNormal (combination m s n t)
unfolding combination
normal-combination m n s t h g all =
    let parts = raw_numbers-parts m n s t all in
    record {
      rising = combined-rises m n 0 (aligned s.pairs t.pairs) (aligned-rises 0 s.pairs t.pairs h.rising g.rising);
      coefficients = All-from_recursion (λ (q : ℕ × ℤ). IsCoefficient q.1) _ (combined-coefficients m n (aligned s.pairs t.pairs) parts.0);
      names = All-from_recursion (λ (q : ℕ × ℤ). q.0 < 2 ^ 32) _
          (combined-names (λ (x : ℕ). x < 2 ^ 32) m n (aligned s.pairs t.pairs)
          (aligned-names (λ (x : ℕ). x < 2 ^ 32) s.pairs t.pairs
          (recursion_from_All (λ (q : ℕ × ℤ). q.0 < 2 ^ 32) s.pairs h.names)
          (recursion_from_All (λ (q : ℕ × ℤ). q.0 < 2 ^ 32) t.pairs g.names)));
      constant = stays-range _ parts.1;
    }
