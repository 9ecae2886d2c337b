-- One name of a term: its coefficient, the term without it, and the value where it changes.
use Rattle.std.proofs.Common.{◌≡◌, ◌≢◌, ◌+◌, ◌<◌, ◌≤◌, ◌^◌, ℕ, ℤ, pos, ◌+ℤ◌, ◌*ℤ◌, List, [], ◌∷◌, Bool, true, false, not, cond, nat_eq, Some, None, refl, sym, ◌∙◌, ap, subst, arith}
use Rattle.std.specs.Prelude.{Option}
use Rattle.std.specs.List.{filter, find, AllByRecursion}
use Rattle.std.specs.Ordering.{int_eq}
use Rattle.linear_term.specs.declared.merge.Aligned.{Aligned}
use Rattle.std.proofs.lemmas.Int.{ints}
use Rattle.std.proofs.lemmas.Bool.Decides.{nat_tests}
use Rattle.std.proofs.lemmas.List.Elements.{All-from_recursion, recursion_from_All, All-filter, All-weaker}
use Rattle.base_integers.specs.Entry.{entry, put}
use Rattle.base_integers.proofs.Entries.{entry-put_same, entry-put_other}
use Rattle.base_integers.proofs.Ring.{add-mul}
use Rattle.linear_term.specs.Linear.{Linear, total, coef_at, value_at, coef_of, value_of, without, mentions, has_name, IsRisingFrom, IsCoefficient, IsNormal, IsOver, IsReduced}
use Rattle.linear_term.specs.Range.{InRange}
use Rattle.linear_term.specs.Combination.{aligned, combined, combination}
use Rattle.linear_term.proofs.Totals.{by_test, by_names}
use Rattle.linear_term.proofs.Normal.{aligned-names, aligned-rises, combined-names, combined-rises, rising_weaker}

by_three : {P : Type 0} (a b : ℕ) → (a < b → P) → (b < a → P) → (a ≡ b → P) → P
by_three {P} a b less more same = by_names (λ (u : Unit {0}). P) a b tt tt tt less more same

-- ---- the coefficient
-- a name below all others has the coefficient 0
pub coef_before : (x k : ℕ) (ps : List (ℕ × ℤ)) → x < k → IsRisingFrom k ps → total (coef_at x) ps ≡ pos 0
coef_before x k [] lt h = refl
coef_before x k (p ∷ ps) lt h =
    let other : nat_eq p.0 x ≡ false = grind (arith, nat_tests, h.0) in
    let none : coef_at x p.0 p.1 ≡ pos 0 = ap (λ (t : Bool). cond t p.1 (pos 0)) other in
    let rest : total (coef_at x) ps ≡ pos 0 = coef_before x (p.0 + 1) ps (omega (arith, h.0)) h.1 in
    omega (arith, ints)

coef_found_step : (x : ℕ) (q p : ℕ × ℤ) (qs : List (ℕ × ℤ)) (t : Bool) → nat_eq q.0 x ≡ t → IsRisingFrom (q.0 + 1) qs
    → (Some p ≡ find (λ (r : ℕ × ℤ). nat_eq r.0 x) qs → p.1 ≡ total (coef_at x) qs)
    → Some p ≡ cond t (Some q) (find (λ (r : ℕ × ℤ). nat_eq r.0 x) qs) → p.1 ≡ cond t q.1 (pos 0) +ℤ total (coef_at x) qs
coef_found_step x q p qs true d h behind e =
    let at : p.1 ≡ q.1 = cc in
    let rest : total (coef_at x) qs ≡ pos 0 = coef_before x (q.0 + 1) qs (grind (arith, nat_tests)) h in
    omega (arith, ints)
coef_found_step x q p qs false d h behind e =
    let rest : p.1 ≡ total (coef_at x) qs = behind e in
    omega (arith, ints)

pub coef_found : (x k : ℕ) (ps : List (ℕ × ℤ)) (p : ℕ × ℤ) → IsRisingFrom k ps → Some p ≡ find (λ (q : ℕ × ℤ). nat_eq q.0 x) ps
    → p.1 ≡ total (coef_at x) ps
coef_found x k [] p h e = absurd (cc)
coef_found x k (q ∷ qs) p h e =
    coef_found_step x q p qs (nat_eq q.0 x) refl h.1 (λ d. coef_found x (q.0 + 1) qs p h.1 d) e

coef_missing_step : (x : ℕ) (q : ℕ × ℤ) (qs : List (ℕ × ℤ)) (t : Bool)
    → (None ≡ find (λ (r : ℕ × ℤ). nat_eq r.0 x) qs → total (coef_at x) qs ≡ pos 0)
    → None ≡ cond t (Some q) (find (λ (r : ℕ × ℤ). nat_eq r.0 x) qs) → cond t q.1 (pos 0) +ℤ total (coef_at x) qs ≡ pos 0
coef_missing_step x q qs true behind e = absurd (cc)
coef_missing_step x q qs false behind e =
    let rest : total (coef_at x) qs ≡ pos 0 = behind e in
    omega (arith, ints)

pub coef_missing : (x : ℕ) (ps : List (ℕ × ℤ)) → None ≡ find (λ (q : ℕ × ℤ). nat_eq q.0 x) ps → total (coef_at x) ps ≡ pos 0
coef_missing x [] e = refl
coef_missing x (q ∷ qs) e = coef_missing_step x q qs (nat_eq q.0 x) (coef_missing x qs) e

found_step : (P : ℕ × ℤ → Type 0) (q p : ℕ × ℤ) (r : Option (ℕ × ℤ)) (t : Bool) → P q → (Some p ≡ r → P p) → Some p ≡ cond t (Some q) r → P p
found_step P q p r true h behind e = let at : q ≡ p = cc in subst P at h
found_step P q p r false h behind e = behind e

-- what is found has what all have
pub found_has : (P : ℕ × ℤ → Type 0) (test : ℕ × ℤ → Bool) (ps : List (ℕ × ℤ)) (p : ℕ × ℤ) → AllByRecursion P ps
    → Some p ≡ find test ps → P p
found_has P test [] p h e = absurd (cc)
found_has P test (q ∷ qs) p h e = found_step P q p (find test qs) (test q) h.0 (found_has P test qs p h.1) e

-- ---- the term without the name
rises-without : (x k : ℕ) (ps : List (ℕ × ℤ)) → IsRisingFrom k ps → IsRisingFrom k (filter (λ (p : ℕ × ℤ). not (nat_eq p.0 x)) ps)
rises-without x k [] h = tt
rises-without x k (p ∷ ps) h =
    let behind = rises-without x (p.0 + 1) ps h.1 in
    by_test (IsRisingFrom k) (not (nat_eq p.0 x)) _ _
    (λ _. (h.0, behind))
    (λ _. rising_weaker k (p.0 + 1) (filter (λ (q : ℕ × ℤ). not (nat_eq q.0 x)) ps) (omega (arith, h.0)) behind)

pub normal-without : (t : Linear) (x : ℕ) → IsNormal t → IsNormal (without t x)
unfolding without
normal-without t x h = record {
  rising = rises-without x 0 t.pairs h.rising;
  coefficients = All-filter _ (λ (p : ℕ × ℤ). IsCoefficient p.1) t.pairs h.coefficients;
  names = All-filter _ (λ (p : ℕ × ℤ). p.0 < 2 ^ 32) t.pairs h.names;
  constant = h.constant;
}

-- a total over the pairs of x and one over the others
gone_step : (x : ℕ) (p : ℕ × ℤ) (ps : List (ℕ × ℤ)) (b : Bool) → nat_eq p.0 x ≡ b → has_name ps x ≡ false → has_name (cond (not b) (p ∷ ps) ps) x ≡ false
gone_step x p ps true e h = h
gone_step x p ps false e h = ap (λ b. cond b true (has_name ps x)) e ∙ h

name_gone : (x : ℕ) (ps : List (ℕ × ℤ)) → has_name (filter (λ p. not (nat_eq p.0 x)) ps) x ≡ false
name_gone x [] = refl
name_gone x (p ∷ ps) = gone_step x p (filter (λ q. not (nat_eq q.0 x)) ps) (nat_eq p.0 x) refl (name_gone x ps)

pub without-free : (t : Linear) (x : ℕ) → mentions (without t x) x ≡ false
unfolding mentions without
without-free t x = name_gone x t.pairs

total-without_step : (f : ℕ → ℤ → ℤ) (x : ℕ) (p : ℕ × ℤ) (whole rest : ℤ) (ps : List (ℕ × ℤ)) (t : Bool)
    → nat_eq p.0 x ≡ t → rest ≡ whole +ℤ total f ps
    → f p.0 p.1 +ℤ rest ≡ (cond t (f p.0 p.1) (pos 0) +ℤ whole) +ℤ total f (cond (not t) (p ∷ ps) ps)
total-without_step f x p whole rest ps true d e = omega (arith, ints)
total-without_step f x p whole rest ps false d e = omega (arith, ints)

-- the sum of f over the pairs of the name x
abbrev pub total_on : (ℕ → ℤ → ℤ) → ℕ → List (ℕ × ℤ) → ℤ
total_on f x [] = pos 0
total_on f x (p ∷ ps) = cond (nat_eq p.0 x) (f p.0 p.1) (pos 0) +ℤ total_on f x ps

pub total-without : (f : ℕ → ℤ → ℤ) (x : ℕ) (ps : List (ℕ × ℤ))
    → total f ps ≡ total_on f x ps +ℤ total f (filter (λ (p : ℕ × ℤ). not (nat_eq p.0 x)) ps)
total-without f x [] = refl
total-without f x (p ∷ ps) =
    total-without_step f x p (total_on f x ps) (total f ps) (filter (λ (q : ℕ × ℤ). not (nat_eq q.0 x)) ps) (nat_eq p.0 x) refl (total-without f x ps)

value_on_step : (e : List ℤ) (x : ℕ) (p : ℕ × ℤ) (rest c : ℤ) (t : Bool) → nat_eq p.0 x ≡ t → rest ≡ c *ℤ entry e x
    → cond t (p.1 *ℤ entry e p.0) (pos 0) +ℤ rest ≡ (cond t p.1 (pos 0) +ℤ c) *ℤ entry e x
value_on_step e x p rest c true d h =
    let at : p.1 *ℤ entry e p.0 ≡ p.1 *ℤ entry e x = ap (λ (y : ℕ). p.1 *ℤ entry e y) (grind (arith, nat_tests)) in
    omega (arith, ints, add-mul p.1 c (entry e x))
value_on_step e x p rest c false d h = omega (arith, ints, add-mul (pos 0) c (entry e x))

-- the pairs of x have the value of their coefficients times the entry at x
pub value_on : (e : List ℤ) (x : ℕ) (ps : List (ℕ × ℤ)) → total_on (value_at e) x ps ≡ total (coef_at x) ps *ℤ entry e x
value_on e x [] = omega (arith, ints)
value_on e x (p ∷ ps) = value_on_step e x p (total_on (value_at e) x ps) (total (coef_at x) ps) (nat_eq p.0 x) refl (value_on e x ps)

pub value_of-without : (t : Linear) (x : ℕ) (e : List ℤ) → value_of t e ≡ (coef_of t x *ℤ entry e x) +ℤ value_of (without t x) e
unfolding value_of coef_of without
value_of-without t x e = omega (arith, ints, total-without (value_at e) x t.pairs, value_on e x t.pairs)

value-put_step : (e : List ℤ) (x : ℕ) (v : ℤ) (p : ℕ × ℤ) (ps : List (ℕ × ℤ)) (t : Bool) → nat_eq p.0 x ≡ t
    → total (value_at (put e x v)) ps ≡ total (value_at e) ps
    → total (value_at (put e x v)) (cond (not t) (p ∷ ps) ps) ≡ total (value_at e) (cond (not t) (p ∷ ps) ps)
value-put_step e x v p ps true d h = h
value-put_step e x v p ps false d h =
    let other : x ≢ p.0 = λ i. grind (arith, nat_tests) in
    let at : p.1 *ℤ entry (put e x v) p.0 ≡ p.1 *ℤ entry e p.0 = ap (λ (z : ℤ). p.1 *ℤ z) (entry-put_other e x p.0 v other) in
    omega (arith, ints)

value-put_others : (e : List ℤ) (x : ℕ) (v : ℤ) (ps : List (ℕ × ℤ))
    → total (value_at (put e x v)) (filter (λ (p : ℕ × ℤ). not (nat_eq p.0 x)) ps) ≡ total (value_at e) (filter (λ (p : ℕ × ℤ). not (nat_eq p.0 x)) ps)
value-put_others e x v [] = refl
value-put_others e x v (p ∷ ps) =
    value-put_step e x v p (filter (λ (q : ℕ × ℤ). not (nat_eq q.0 x)) ps) (nat_eq p.0 x) refl (value-put_others e x v ps)

-- a term without x has one value at e whatever stands at x
pub value_of-without-put : (t : Linear) (x : ℕ) (e : List ℤ) (v : ℤ) → value_of (without t x) (put e x v) ≡ value_of (without t x) e
unfolding value_of without
value_of-without-put t x e v = ap (λ (z : ℤ). z +ℤ t.constant) (value-put_others e x v t.pairs)

pub value_of-put : (t : Linear) (x : ℕ) (e : List ℤ) (v : ℤ) → value_of t (put e x v) ≡ (coef_of t x *ℤ v) +ℤ value_of (without t x) e
value_of-put t x e v =
    let at : coef_of t x *ℤ entry (put e x v) x ≡ coef_of t x *ℤ v = ap (λ (z : ℤ). coef_of t x *ℤ z) (entry-put_same e x v) in
    omega (arith, ints, value_of-without t x (put e x v), value_of-without-put t x e v)

coef-without_same_step : (x : ℕ) (p : ℕ × ℤ) (ps : List (ℕ × ℤ)) (t : Bool) → nat_eq p.0 x ≡ t
    → total (coef_at x) ps ≡ pos 0 → total (coef_at x) (cond (not t) (p ∷ ps) ps) ≡ pos 0
coef-without_same_step x p ps true d h = h
coef-without_same_step x p ps false d h =
    let none : coef_at x p.0 p.1 ≡ pos 0 = ap (λ (t : Bool). cond t p.1 (pos 0)) d in
    omega (arith, ints)

coef-without_same_in : (x : ℕ) (ps : List (ℕ × ℤ)) → total (coef_at x) (filter (λ (p : ℕ × ℤ). not (nat_eq p.0 x)) ps) ≡ pos 0
coef-without_same_in x [] = refl
coef-without_same_in x (p ∷ ps) =
    coef-without_same_step x p (filter (λ (q : ℕ × ℤ). not (nat_eq q.0 x)) ps) (nat_eq p.0 x) refl (coef-without_same_in x ps)

pub coef_of-without_same : (t : Linear) (x : ℕ) → coef_of (without t x) x ≡ pos 0
unfolding coef_of without
coef_of-without_same t x = coef-without_same_in x t.pairs

coef-without_other_step : (x y : ℕ) (p : ℕ × ℤ) (ps : List (ℕ × ℤ)) (z : ℤ) (t : Bool) → nat_eq p.0 x ≡ t → x ≢ y
    → total (coef_at y) ps ≡ z → total (coef_at y) (cond (not t) (p ∷ ps) ps) ≡ coef_at y p.0 p.1 +ℤ z
coef-without_other_step x y p ps z true d n h =
    let at : p.0 ≡ x = grind (arith, nat_tests) in
    let other : nat_eq p.0 y ≡ false = rw at (grind (arith, nat_tests)) in
    let none : coef_at y p.0 p.1 ≡ pos 0 = ap (λ (t : Bool). cond t p.1 (pos 0)) other in
    omega (arith, ints)
coef-without_other_step x y p ps z false d n h = ap (λ (w : ℤ). coef_at y p.0 p.1 +ℤ w) h

coef-without_other_in : (x y : ℕ) (ps : List (ℕ × ℤ)) → x ≢ y
    → total (coef_at y) (filter (λ (p : ℕ × ℤ). not (nat_eq p.0 x)) ps) ≡ total (coef_at y) ps
coef-without_other_in x y [] n = refl
coef-without_other_in x y (p ∷ ps) n =
    coef-without_other_step x y p (filter (λ (q : ℕ × ℤ). not (nat_eq q.0 x)) ps) (total (coef_at y) ps) (nat_eq p.0 x) refl n
    (coef-without_other_in x y ps n)

pub coef_of-without_other : (t : Linear) (x y : ℕ) → x ≢ y → coef_of (without t x) y ≡ coef_of t y
unfolding coef_of without
coef_of-without_other t x y n = coef-without_other_in x y t.pairs n

-- ---- names that do not occur
unmentioned_step : (x : ℕ) (p : ℕ × ℤ) (ps : List (ℕ × ℤ)) (t : Bool) → (has_name ps x ≡ false → filter (λ (q : ℕ × ℤ). not (nat_eq q.0 x)) ps ≡ ps)
    → cond t true (has_name ps x) ≡ false → cond (not t) (p ∷ filter (λ (q : ℕ × ℤ). not (nat_eq q.0 x)) ps) (filter (λ (q : ℕ × ℤ). not (nat_eq q.0 x)) ps) ≡ p ∷ ps
unmentioned_step x p ps true behind h = absurd (cc)
unmentioned_step x p ps false behind h = ap (λ (qs : List (ℕ × ℤ)). p ∷ qs) (behind h)

unmentioned_in : (x : ℕ) (ps : List (ℕ × ℤ)) → has_name ps x ≡ false → filter (λ (q : ℕ × ℤ). not (nat_eq q.0 x)) ps ≡ ps
unmentioned_in x [] h = refl
unmentioned_in x (p ∷ ps) h = unmentioned_step x p ps (nat_eq p.0 x) (unmentioned_in x ps) h

pub without-unmentioned : (t : Linear) (x : ℕ) → mentions t x ≡ false → without t x ≡ t
unfolding without mentions
without-unmentioned t x h = ap (λ (ps : List (ℕ × ℤ)). record { pairs = ps; constant = t.constant }) (unmentioned_in x t.pairs h)

pub value_of-unmentioned : (t : Linear) (x : ℕ) (e : List ℤ) (v : ℤ) → mentions t x ≡ false → value_of t (put e x v) ≡ value_of t e
value_of-unmentioned t x e v h = subst (λ (s : Linear). value_of s (put e x v) ≡ value_of s e) (without-unmentioned t x h) (value_of-without-put t x e v)

pub coef_of-unmentioned : (t : Linear) (x : ℕ) → mentions t x ≡ false → coef_of t x ≡ pos 0
coef_of-unmentioned t x h = sym (ap (λ (s : Linear). coef_of s x) (without-unmentioned t x h)) ∙ coef_of-without_same t x

mentioned_step : (x : ℕ) (p : ℕ × ℤ) (ps : List (ℕ × ℤ)) (t : Bool) → nat_eq p.0 x ≡ t → IsRisingFrom (p.0 + 1) ps → p.1 ≢ pos 0
    → (total (coef_at x) ps ≡ pos 0 → has_name ps x ≡ false) → cond t p.1 (pos 0) +ℤ total (coef_at x) ps ≡ pos 0
    → cond t true (has_name ps x) ≡ false
mentioned_step x p ps true d h n behind e =
    let rest : total (coef_at x) ps ≡ pos 0 = coef_before x (p.0 + 1) ps (grind (arith, nat_tests)) h in
    absurd (n (omega (arith, ints)))
mentioned_step x p ps false d h n behind e = behind (omega (arith, ints))

mentioned_in : (x k : ℕ) (ps : List (ℕ × ℤ)) → IsRisingFrom k ps → AllByRecursion (λ (p : ℕ × ℤ). p.1 ≢ pos 0) ps
    → total (coef_at x) ps ≡ pos 0 → has_name ps x ≡ false
mentioned_in x k [] h c e = refl
mentioned_in x k (p ∷ ps) h c e =
    mentioned_step x p ps (nat_eq p.0 x) refl h.1 (c.0) (mentioned_in x (p.0 + 1) ps h.1 c.1) e

-- in a reduced term a name with the coefficient 0 does not occur
pub unmentioned_from_coef : (t : Linear) (x : ℕ) → IsReduced t → coef_of t x ≡ pos 0 → mentions t x ≡ false
unfolding coef_of mentions
unmentioned_from_coef t x h e =
    mentioned_in x 0 t.pairs h.rising (recursion_from_All (λ (p : ℕ × ℤ). p.1 ≢ pos 0) t.pairs h.not_zero) e

unmentioned_from_all : (x : ℕ) (ps : List (ℕ × ℤ)) → AllByRecursion (λ (p : ℕ × ℤ). p.0 ≢ x) ps → has_name ps x ≡ false
unmentioned_from_all x [] h = refl
unmentioned_from_all x (p ∷ ps) h =
    let other : nat_eq p.0 x ≡ false = grind (arith, nat_tests, h.0) in
    rw other (unmentioned_from_all x ps h.1)

all_from_unmentioned_step : (x : ℕ) (p : ℕ × ℤ) (ps : List (ℕ × ℤ)) (t : Bool) → nat_eq p.0 x ≡ t
    → (has_name ps x ≡ false → AllByRecursion (λ (q : ℕ × ℤ). q.0 ≢ x) ps) → cond t true (has_name ps x) ≡ false
    → (p.0 ≢ x) × AllByRecursion (λ (q : ℕ × ℤ). q.0 ≢ x) ps
all_from_unmentioned_step x p ps true d behind h = absurd (cc)
all_from_unmentioned_step x p ps false d behind h = (λ e. grind (arith, nat_tests), behind h)

all_from_unmentioned : (x : ℕ) (ps : List (ℕ × ℤ)) → has_name ps x ≡ false → AllByRecursion (λ (p : ℕ × ℤ). p.0 ≢ x) ps
all_from_unmentioned x [] h = tt
all_from_unmentioned x (p ∷ ps) h = all_from_unmentioned_step x p ps (nat_eq p.0 x) refl (all_from_unmentioned x ps) h

pub combination-unmentioned : (m n : ℤ) (s t : Linear) (x : ℕ) → mentions s x ≡ false → mentions t x ≡ false
    → mentions (combination m s n t) x ≡ false
unfolding mentions combination
combination-unmentioned m n s t x h g =
    unmentioned_from_all x (combined m n (aligned s.pairs t.pairs))
    (combined-names (λ (y : ℕ). y ≢ x) m n (aligned s.pairs t.pairs)
    (aligned-names (λ (y : ℕ). y ≢ x) s.pairs t.pairs (all_from_unmentioned x s.pairs h) (all_from_unmentioned x t.pairs g)))

pub combination-over : (k : ℕ) (m n : ℤ) (s t : Linear) → IsOver k s → IsOver k t → IsOver k (combination m s n t)
unfolding combination
combination-over k m n s t h g =
    All-from_recursion (λ (p : ℕ × ℤ). p.0 < k) _
    (combined-names (λ (y : ℕ). y < k) m n (aligned s.pairs t.pairs)
    (aligned-names (λ (y : ℕ). y < k) s.pairs t.pairs
    (recursion_from_All (λ (p : ℕ × ℤ). p.0 < k) s.pairs h) (recursion_from_All (λ (p : ℕ × ℤ). p.0 < k) t.pairs g)))

over_apart : (k x : ℕ) (ps : List (ℕ × ℤ)) → k ≤ x → AllByRecursion (λ (p : ℕ × ℤ). p.0 < k) ps → AllByRecursion (λ (p : ℕ × ℤ). p.0 ≢ x) ps
over_apart k x [] le h = tt
over_apart k x (p ∷ ps) le h = (λ e. omega (arith, h.0), over_apart k x ps le h.1)

pub over-unmentioned : (k x : ℕ) (t : Linear) → IsOver k t → k ≤ x → mentions t x ≡ false
unfolding mentions
over-unmentioned k x t h le =
    unmentioned_from_all x t.pairs (over_apart k x t.pairs le (recursion_from_All (λ (p : ℕ × ℤ). p.0 < k) t.pairs h))

-- ---- a reduced term is determined by its coefficients and its constant
apart_first : (p : ℕ × ℤ) (ps qs : List (ℕ × ℤ)) → IsRisingFrom (p.0 + 1) ps → IsRisingFrom (p.0 + 1) qs → p.1 ≢ pos 0
    → total (coef_at p.0) (p ∷ ps) ≡ total (coef_at p.0) qs → ⊥
apart_first p ps qs h g n e =
    let one : nat_eq p.0 p.0 ≡ true = grind (arith, nat_tests) in
    let at : coef_at p.0 p.0 p.1 ≡ p.1 = ap (λ (t : Bool). cond t p.1 (pos 0)) one in
    n (omega (arith, ints, coef_before p.0 (p.0 + 1) ps (omega arith) h, coef_before p.0 (p.0 + 1) qs (omega arith) g))

same_first : (p q : ℕ × ℤ) (ps qs : List (ℕ × ℤ)) → p.0 ≡ q.0 → IsRisingFrom (p.0 + 1) ps → IsRisingFrom (p.0 + 1) qs
    → total (coef_at p.0) (p ∷ ps) ≡ total (coef_at p.0) (q ∷ qs) → p.1 ≡ q.1
same_first p q ps qs d h g e =
    let one : nat_eq p.0 p.0 ≡ true = grind (arith, nat_tests) in
    let two : nat_eq q.0 p.0 ≡ true = grind (arith, nat_tests) in
    let at : coef_at p.0 p.0 p.1 ≡ p.1 = ap (λ (t : Bool). cond t p.1 (pos 0)) one in
    let bt : coef_at p.0 q.0 q.1 ≡ q.1 = ap (λ (t : Bool). cond t q.1 (pos 0)) two in
    omega (arith, ints, coef_before p.0 (p.0 + 1) ps (omega arith) h, coef_before p.0 (p.0 + 1) qs (omega arith) g)

pairs_same : (k : ℕ) (ps qs : List (ℕ × ℤ)) → IsRisingFrom k ps → IsRisingFrom k qs
    → AllByRecursion (λ (p : ℕ × ℤ). p.1 ≢ pos 0) ps → AllByRecursion (λ (p : ℕ × ℤ). p.1 ≢ pos 0) qs
    → ((x : ℕ) → total (coef_at x) ps ≡ total (coef_at x) qs) → ps ≡ qs
pairs_same k [] [] h g c d e = refl
pairs_same k [] (q ∷ qs) h g c d e = absurd (apart_first q qs [] g.1 tt (d.0) (sym (e q.0)))
pairs_same k (p ∷ ps) [] h g c d e = absurd (apart_first p ps [] h.1 tt (c.0) (e p.0))
pairs_same k (p ∷ ps) (q ∷ qs) h g c d e =
    by_three p.0 q.0
    (λ less. absurd (apart_first p ps (q ∷ qs) h.1 (omega arith, g.1) (c.0) (e p.0)))
    (λ more. absurd (apart_first q qs (p ∷ ps) g.1 (omega arith, h.1) (d.0) (sym (e q.0))))
    (λ same.
    let g' : IsRisingFrom (p.0 + 1) qs = subst (λ (x : ℕ). IsRisingFrom (x + 1) qs) (sym same) g.1 in
    let first : p.1 ≡ q.1 = same_first p q ps qs same h.1 g' (e p.0) in
    let both : p ≡ q = λ i. (same i, first i) in
    let rest : ps ≡ qs = pairs_same (p.0 + 1) ps qs h.1 g' c.1 d.1
    (λ x.
    let at : coef_at x p.0 p.1 ≡ coef_at x q.0 q.1 = ap (λ (r : ℕ × ℤ). coef_at x r.0 r.1) both in
    omega (arith, ints, e x)) in
    λ i. both i ∷ rest i)

pub reduced_same : (s t : Linear) → IsReduced s → IsReduced t → ((x : ℕ) → coef_of s x ≡ coef_of t x) → s.constant ≡ t.constant → s ≡ t
unfolding coef_of
reduced_same s t h g e k =
    let same : s.pairs ≡ t.pairs = pairs_same 0 s.pairs t.pairs h.rising g.rising
    (recursion_from_All (λ (p : ℕ × ℤ). p.1 ≢ pos 0) s.pairs h.not_zero)
    (recursion_from_All (λ (p : ℕ × ℤ). p.1 ≢ pos 0) t.pairs g.not_zero) e in
    λ i. record { pairs = same i; constant = k i }

-- ---- what a search for the name finds
pub coef_of_found : (t : Linear) (x : ℕ) (p : ℕ × ℤ) → IsNormal t → Some p ≡ find (λ (q : ℕ × ℤ). nat_eq q.0 x) t.pairs → p.1 ≡ coef_of t x
unfolding coef_of
coef_of_found t x p h e = coef_found x 0 t.pairs p h.rising e

pub range_of_found : (t : Linear) (x : ℕ) (p : ℕ × ℤ) → IsNormal t → Some p ≡ find (λ (q : ℕ × ℤ). nat_eq q.0 x) t.pairs → InRange p.1
range_of_found t x p h e =
    (found_has (λ (q : ℕ × ℤ). IsCoefficient q.1) (λ (q : ℕ × ℤ). nat_eq q.0 x) t.pairs p
    (recursion_from_All (λ (q : ℕ × ℤ). IsCoefficient q.1) t.pairs h.coefficients) e).in_range

pub coef_of_missing : (t : Linear) (x : ℕ) → None ≡ find (λ (q : ℕ × ℤ). nat_eq q.0 x) t.pairs → pos 0 ≡ coef_of t x
unfolding coef_of
coef_of_missing t x e = sym (coef_missing x t.pairs e)

pub without-is : (t : Linear) (x : ℕ) (ps : List (ℕ × ℤ)) (k : ℤ) → ps ≡ filter (λ (p : ℕ × ℤ). not (nat_eq p.0 x)) t.pairs
    → k ≡ t.constant → record { pairs = ps; constant = k } ≡ without t x
unfolding without
without-is t x ps k e d = λ i. record { pairs = e i; constant = d i }

-- ---- reduced terms
pub reduced-normal : (t : Linear) → IsNormal t → IsReduced t
reduced-normal t h = record {
  rising = h.rising;
  not_zero = All-weaker (λ (p : ℕ × ℤ). IsCoefficient p.1) (λ (p : ℕ × ℤ). p.1 ≢ pos 0) (λ p k. k.not_zero) t.pairs h.coefficients;
}

combined-not_zero : (m n : ℤ) (rs : List Aligned) → AllByRecursion (λ (p : ℕ × ℤ). p.1 ≢ pos 0) (combined m n rs)
combined-not_zero m n [] = tt
combined-not_zero m n (r ∷ rs) =
    let below = combined-not_zero m n rs in
    by_test (AllByRecursion (λ (p : ℕ × ℤ). p.1 ≢ pos 0)) (int_eq ((m *ℤ r.left) +ℤ (n *ℤ r.right)) (pos 0)) _ _
    (λ _. below)
    (λ e. (λ z. grind (arith, ints), below))

pub reduced-combination : (m n : ℤ) (s t : Linear) → IsReduced s → IsReduced t → IsReduced (combination m s n t)
unfolding combination
reduced-combination m n s t h g = record {
  rising = combined-rises m n 0 (aligned s.pairs t.pairs) (aligned-rises 0 s.pairs t.pairs h.rising g.rising);
  not_zero = All-from_recursion (λ (p : ℕ × ℤ). p.1 ≢ pos 0) _ (combined-not_zero m n (aligned s.pairs t.pairs));
}

pub reduced-without : (t : Linear) (x : ℕ) → IsReduced t → IsReduced (without t x)
unfolding without
reduced-without t x h = record {
  rising = rises-without x 0 t.pairs h.rising;
  not_zero = All-filter _ (λ (p : ℕ × ℤ). p.1 ≢ pos 0) t.pairs h.not_zero;
}
