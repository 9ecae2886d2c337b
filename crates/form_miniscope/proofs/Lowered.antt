-- A term whose names are lowered is normal.
use Rattle.std.proofs.Common.{◌≡◌, ℕ, ◌+◌, ◌-◌, ◌<◌, ◌≤◌, ◌^◌, ℤ, true, false, nat_eq, nat_lt, List, [], ◌∷◌, map, take, length, All, sym, ap, ◌∙◌, arith}
use Rattle.std.specs.List.{list_any}
use Rattle.std.proofs.lemmas.Bool.Decides.{nat_tests}
use Rattle.std.proofs.lemmas.List.Elements.{All-nil, All-cons, All-head, All-tail, All-map}
use Rattle.std.proofs.lemmas.List.{take_all}
use Rattle.linear_term.specs.Linear.{Linear, IsNormal, IsRisingFrom, IsCoefficient}
use Rattle.linear_term.proofs.Totals.{by_test}
use Rattle.form_miniscope.specs.Lowering.{has, lowered_name, lowered}
use Rattle.form_miniscope.proofs.Lowering.{neither}

-- lowering keeps the order of names other than n
name_falls : (n x y : ℕ) → nat_eq x n ≡ false → nat_eq y n ≡ false → x < y → lowered_name n x < lowered_name n y
name_falls n x y ox oy lt =
    by_test (λ a. a < lowered_name n y) (nat_lt n x) (x - 1) x
    (λ s. by_test (λ b. x - 1 < b) (nat_lt n y) (y - 1) y (λ t. one s t) (λ t. two s t))
    (λ s. by_test (λ b. x < b) (nat_lt n y) (y - 1) y (λ t. three s t) (λ t. lt))
  where
    one : nat_lt n x ≡ true → nat_lt n y ≡ true → x - 1 < y - 1
    one s t = grind (arith, nat_tests)

    two : nat_lt n x ≡ true → nat_lt n y ≡ false → x - 1 < y
    two s t = omega (arith, lt)

    three : nat_lt n x ≡ false → nat_lt n y ≡ true → x < y - 1
    three s t = grind (arith, nat_tests)

rising_lowered : (n m l : ℕ) (ps : List (ℕ × ℤ)) → ((x : ℕ) → m ≤ x → nat_eq x n ≡ false → l ≤ lowered_name n x) → list_any (λ (p : ℕ × ℤ). nat_eq p.0 n) ps ≡ false → IsRisingFrom m ps
    → IsRisingFrom l (map (λ (p : ℕ × ℤ). (lowered_name n p.0, p.1)) ps)
rising_lowered n m l [] h o r = tt
rising_lowered n m l (p ∷ ps) h o r =
    let two = neither (nat_eq p.0 n) (list_any (λ (q : ℕ × ℤ). nat_eq q.0 n) ps) o in
    let at : l ≤ lowered_name n p.0 = h p.0 (omega (arith, r.0)) two.0 in
    (omega (arith, at), rising_lowered n (p.0 + 1) (lowered_name n p.0 + 1) ps (λ x le other. up x (name_falls n p.0 x two.0 other (omega (arith, le)))) two.1 r.1)
  where
    up : (x : ℕ) → lowered_name n p.0 < lowered_name n x → lowered_name n p.0 + 1 ≤ lowered_name n x
    up x lt = omega (arith, lt)

name_below : (n b x : ℕ) → x < b → lowered_name n x < b
name_below n b x lt = by_test (λ y. y < b) (nat_lt n x) (x - 1) x (λ t. omega (arith, lt)) (λ t. lt)

names_below : (n b : ℕ) (ps : List (ℕ × ℤ)) → All (λ (p : ℕ × ℤ). p.0 < b) ps → All (λ (p : ℕ × ℤ). p.0 < b) (map (λ (p : ℕ × ℤ). (lowered_name n p.0, p.1)) ps)
names_below n b [] h = All-nil (λ (q : ℕ × ℤ). q.0 < b)
names_below n b (p ∷ ps) h =
    All-cons (λ (q : ℕ × ℤ). q.0 < b) (lowered_name n p.0, p.1) (map (λ (q : ℕ × ℤ). (lowered_name n q.0, q.1)) ps)
    (name_below n b p.0 (All-head (λ (q : ℕ × ℤ). q.0 < b) p ps h)) (names_below n b ps (All-tail (λ (q : ℕ × ℤ). q.0 < b) p ps h))

pub lowered_normal : (n : ℕ) (t : Linear) → has n t ≡ false → IsNormal t → IsNormal (lowered n t)
lowered_normal n t free h = record {
  rising = rising_lowered n 0 0 t.pairs (λ x le other. omega arith) free h.rising;
  coefficients = All-map (λ (q : ℕ × ℤ). IsCoefficient q.1) (λ (q : ℕ × ℤ). (lowered_name n q.0, q.1)) t.pairs h.coefficients;
  names = names_below n (2 ^ 32) t.pairs h.names;
  constant = h.constant;
}

pub ruleset lowering = (lowered_normal)

pub lowered_whole : (n i : ℕ) (t : Linear) (ps qs : List (ℕ × ℤ)) (z : ℤ) → ps ≡ qs → qs ≡ map (λ (p : ℕ × ℤ). (lowered_name n p.0, p.1)) (take i t.pairs) → length t.pairs ≤ i → z ≡ t.constant
    → lowered n t ≡ record { pairs = ps; constant = z }
lowered_whole n i t ps qs z slice is le const =
    let whole : map (λ (p : ℕ × ℤ). (lowered_name n p.0, p.1)) t.pairs ≡ ps =
    ap (map (λ (p : ℕ × ℤ). (lowered_name n p.0, p.1))) (sym (take_all i t.pairs le)) ∙ sym is ∙ sym slice in
    λ j. record { pairs = whole j; constant = sym const j }
