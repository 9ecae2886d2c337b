-- A term whose names are raised is normal.
use Rattle.std.proofs.Common.{◌≡◌, ℕ, ◌+◌, ◌<◌, ◌≤◌, ◌^◌, ℤ, nat_lt, List, [], ◌∷◌, map, take, length, All, sym, ap, ◌∙◌, arith}
use Rattle.std.proofs.lemmas.List.Elements.{All-nil, All-cons, All-head, All-tail, All-map}
use Rattle.linear_term.specs.Linear.{Linear, IsOver, IsNormal, IsRisingFrom, IsCoefficient}
use Rattle.linear_term.proofs.Totals.{by_test}
use Rattle.std.proofs.lemmas.Bool.{ltb-true, ltb-false}
use Rattle.std.proofs.lemmas.List.{take_all}
use Rattle.formula.specs.Shifts.{raised_name, raised}

-- raising keeps the order of names
name_rises : (n k x y : ℕ) → x < y → raised_name n k x < raised_name n k y
name_rises n k x y lt =
    by_test (λ a. a < raised_name n k y) (nat_lt x n) x (x + k)
    (λ s. by_test (λ b. x < b) (nat_lt y n) y (y + k) (λ t. lt) (λ t. omega (arith, lt)))
    (λ s. by_test (λ b. x + k < b) (nat_lt y n) y (y + k) (λ t. absurd (below_two (ltb-false x n s) (ltb-true y n t) lt)) (λ t. omega (arith, lt)))
  where
    below_two : {x y n : ℕ} → n ≤ x → y < n → x < y → ⊥
    below_two h i j = omega (arith, h, i, j)

pub rising_raised : (n k m l : ℕ) (ps : List (ℕ × ℤ)) → ((x : ℕ) → m ≤ x → l ≤ raised_name n k x) → IsRisingFrom m ps → IsRisingFrom l (map (λ (p : ℕ × ℤ). (raised_name n k p.0, p.1)) ps)
rising_raised n k m l [] h r = tt
rising_raised n k m l (p ∷ ps) h r =
    let at : l ≤ raised_name n k p.0 = h p.0 (omega (arith, r.0)) in
    (omega (arith, at), rising_raised n k (p.0 + 1) (raised_name n k p.0 + 1) ps (λ x le. up x (name_rises n k p.0 x (omega (arith, le)))) r.1)
  where
    up : (x : ℕ) → raised_name n k p.0 < raised_name n k x → raised_name n k p.0 + 1 ≤ raised_name n k x
    up x lt = omega (arith, lt)

name_below : (n k b x : ℕ) → b + k ≤ 2 ^ 32 → x < b → raised_name n k x < 2 ^ 32
name_below n k b x room lt = by_test (λ y. y < 2 ^ 32) (nat_lt x n) x (x + k) (λ t. omega (arith, room, lt)) (λ t. omega (arith, room, lt))

names_below : (n k b : ℕ) (ps : List (ℕ × ℤ)) → b + k ≤ 2 ^ 32 → All (λ (p : ℕ × ℤ). p.0 < b) ps → All (λ (p : ℕ × ℤ). p.0 < 2 ^ 32) (map (λ (p : ℕ × ℤ). (raised_name n k p.0, p.1)) ps)
names_below n k b [] room h = All-nil (λ (q : ℕ × ℤ). q.0 < 2 ^ 32)
names_below n k b (p ∷ ps) room h =
    All-cons (λ (q : ℕ × ℤ). q.0 < 2 ^ 32) (raised_name n k p.0, p.1) (map (λ (q : ℕ × ℤ). (raised_name n k q.0, q.1)) ps)
    (name_below n k b p.0 room (All-head (λ (q : ℕ × ℤ). q.0 < b) p ps h)) (names_below n k b ps room (All-tail (λ (q : ℕ × ℤ). q.0 < b) p ps h))

pub raised_normal : (n k b : ℕ) (t : Linear) → b + k ≤ 2 ^ 32 → IsOver b t → IsNormal t → IsNormal (raised n k t)
unfolding raised
raised_normal n k b t room over h = record {
  rising = rising_raised n k 0 0 t.pairs (λ x le. omega arith) h.rising;
  coefficients = All-map (λ (q : ℕ × ℤ). IsCoefficient q.1) (λ (q : ℕ × ℤ). (raised_name n k q.0, q.1)) t.pairs h.coefficients;
  names = names_below n k b t.pairs room over;
  constant = h.constant;
}

pub ruleset raising = (raised_normal)

pub raised_whole : (n k i : ℕ) (t : Linear) (ps qs : List (ℕ × ℤ)) (z : ℤ) → ps ≡ qs → qs ≡ map (λ (p : ℕ × ℤ). (raised_name n k p.0, p.1)) (take i t.pairs) → length t.pairs ≤ i → z ≡ t.constant
    → raised n k t ≡ record { pairs = ps; constant = z }
unfolding raised
raised_whole n k i t ps qs z slice is le const =
    let whole : map (λ (p : ℕ × ℤ). (raised_name n k p.0, p.1)) t.pairs ≡ ps =
    ap (map (λ (p : ℕ × ℤ). (raised_name n k p.0, p.1))) (sym (take_all i t.pairs le)) ∙ sym is ∙ sym slice in
    λ j. record { pairs = whole j; constant = sym const j }
