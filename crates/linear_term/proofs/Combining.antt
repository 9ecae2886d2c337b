-- From the merge of the pairs and the number of the constants to the combination of two terms.
use Rattle.std.proofs.Common.{◌≡◌, ℕ, ℤ, ◌+ℤ◌, ◌*ℤ◌, List, [], ◌∷◌, ◌++◌, map, true, false, refl, sym, ◌∙◌, subst, arith}
use Rattle.std.specs.Prelude.{Contains}
use Rattle.std.proofs.lemmas.List.Folds.{list_all-append}
use Rattle.std.proofs.lemmas.List.Elements.{Contains-append_left, Contains-append_right}
use Rattle.linear_term.specs.Linear.{Linear}
use Rattle.linear_term.specs.Range.{stays, all_stay, IsCause}
use Rattle.linear_term.specs.Combination.{aligned, combined, combination, place_of, raw_numbers}
use Rattle.linear_term.specs.declared.range.Place.{Place}
use Rattle.linear_term.specs.declared.range.TermFault.{TermFault}
use Rattle.linear_term.specs.declared.range.TermFault.TheVariants.{Overflow}
use Rattle.linear_term.proofs.Merging.{cause_more}
use Rattle.linear_term.proofs.Normal.{normal-combination}

pub raw_stay : (m n : ℤ) (s t : Linear) → all_stay (map (place_of m n) (aligned s.pairs t.pairs)) ≡ true
    → stays (record { m = m; a = s.constant; n = n; b = t.constant }) ≡ true → all_stay (raw_numbers m s n t) ≡ true
unfolding all_stay raw_numbers
raw_stay m n s t h g = list_all-append stays (map (place_of m n) (aligned s.pairs t.pairs)) _ ∙ cc

pub cause_in_names : (m n : ℤ) (s t : Linear) (fault : TermFault) → IsCause fault (map (place_of m n) (aligned s.pairs t.pairs))
    → IsCause fault (raw_numbers m s n t)
unfolding raw_numbers
cause_in_names m n s t fault h = cause_more fault _ _ (λ p c. Contains-append_left _ _ p c) h

pub cause_in_constants : (m n : ℤ) (s t : Linear) (fault : TermFault) (p : Place) → p ≡ record { m = m; a = s.constant; n = n; b = t.constant }
    → fault ≡ Overflow p → stays p ≡ false → IsCause fault (raw_numbers m s n t)
unfolding raw_numbers
cause_in_constants m n s t fault p is e h =
    let names : List Place = map (place_of m n) (aligned s.pairs t.pairs) in
    let last : Place = record { m = m; a = s.constant; n = n; b = t.constant } in
    let alone : Contains (last ∷ []) last = (0, omega arith, refl) in
    let among : Contains (names ++ last ∷ []) p =
    subst (λ (q : Place). Contains (names ++ last ∷ []) q) (sym is) (Contains-append_right names (last ∷ []) last alone) in
    subst (λ (f : TermFault). IsCause f (names ++ last ∷ [])) (sym e) (among, h)

pub combination-is : (m n : ℤ) (s t : Linear) (ps : List (ℕ × ℤ)) (k : ℤ) → ps ≡ combined m n (aligned s.pairs t.pairs)
    → k ≡ (m *ℤ s.constant) +ℤ (n *ℤ t.constant) → record { pairs = ps; constant = k } ≡ combination m s n t
unfolding combination
combination-is m n s t ps k e f = cc

pub ruleset combining = (raw_stay, cause_in_names, cause_in_constants, combination-is, normal-combination)
