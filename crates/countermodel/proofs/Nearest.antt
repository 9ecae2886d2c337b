-- The values of the existential constants with which a counterexample is sought are values of their types, nearest to 0.
use Rattle.std.proofs.Common.{◌≡◌, ◌⊎◌, inl, inr, ℤ, pos, ◌≤ℤ◌, Bool, true, false, cond, int_lt, List, [], ◌∷◌, Option, Some, None, refl, subst, arith}
use Rattle.std.specs.List.{AllByRecursion}
use Rattle.std.proofs.lemmas.Int.{ints}
use Rattle.linear_term.specs.Range.{InRange}
use Rattle.form_typed.specs.Sorts.{AreValuesOf, IsSortRanged, IsValueOf}
use Rattle.form_typed.specs.declared.typed.Sort.{Sort}
use Rattle.form_typed.specs.declared.typed.Sort.TheVariants.{Int, Nat, Range}
use Rattle.countermodel.specs.Probes.{AreProbes, IsProbe, nearest, probe_value, probe_values, with_value}

-- ---- one type
zero_probe : (s : Sort) → IsValueOf s (pos 0) → IsProbe s (pos 0)
zero_probe s h = record { value = h; least = λ u t. omega arith; alone = λ u t e. omega (arith, ints, e) }

range_probe : (a b : ℤ) (p : Bool) → int_lt (pos 0) a ≡ p → (q : Bool) → int_lt b (pos 0) ≡ q → int_lt b a ≡ false → IsProbe (Range a b) (cond p a (cond q b (pos 0)))
range_probe a b true p q is le = record { value = (omega (arith, ints), omega (arith, ints, le)); least = λ u t. omega (arith, ints, p, t.0); alone = λ u t e. omega (arith, ints, p, e, t.0) }
range_probe a b false p true q le = record { value = (omega (arith, ints, le), omega (arith, ints)); least = λ u t. omega (arith, ints, q, t.1); alone = λ u t e. omega (arith, ints, q, e, t.1) }
range_probe a b false p false q le = zero_probe (Range a b) (omega (arith, ints, p), omega (arith, ints, q))

range_has : (a b v : ℤ) (p : Bool) → int_lt b a ≡ p → cond p None (Some (nearest a b)) ≡ Some v → IsProbe (Range a b) v
range_has a b v true is h = absurd (cc)
range_has a b v false is h = let same : nearest a b ≡ v = cc in subst (IsProbe (Range a b)) same (range_probe a b (int_lt (pos 0) a) refl (int_lt b (pos 0)) refl is)

pub probe_is : (s : Sort) (v : ℤ) → probe_value s ≡ Some v → IsProbe s v
probe_is Int v h = let same : pos 0 ≡ v = cc in subst (IsProbe Int) same (zero_probe Int tt)
probe_is Nat v h = let same : pos 0 ≡ v = cc in subst (IsProbe Nat) same (zero_probe Nat (omega (arith, ints)))
probe_is (Range a b) v h = range_has a b v (int_lt b a) refl h

no_range : (a b v : ℤ) (p : Bool) → int_lt b a ≡ p → cond p None (Some (nearest a b)) ≡ None → IsValueOf (Range a b) v → ⊥
no_range a b v true is h t = omega (arith, ints, is, t.0, t.1)
no_range a b v false is h t = absurd (cc)

pub probe_none : (s : Sort) → probe_value s ≡ None → (v : ℤ) → ¬ (IsValueOf s v)
probe_none Int h v = absurd (cc)
probe_none Nat h v = absurd (cc)
probe_none (Range a b) h v = no_range a b v (int_lt b a) refl h

-- ---- several
with_both : (o : Option ℤ) (os : Option (List ℤ)) (vs : List ℤ) → with_value o os ≡ Some vs → (v : ℤ) × (us : List ℤ) × (o ≡ Some v) × (os ≡ Some us) × (v ∷ us ≡ vs)
with_both None os vs h = absurd (cc)
with_both (Some v) None vs h = absurd (cc)
with_both (Some v) (Some us) vs h = (v, us, refl, refl, (let same : v ∷ us ≡ vs = cc in same))

pub probes_are : (ss : List Sort) (vs : List ℤ) → probe_values ss ≡ Some vs → AreProbes ss vs
probes_are [] vs h = let same : [] ≡ vs = cc in subst (AreProbes []) same tt
probes_are (s ∷ ss) vs h =
    let b = with_both (probe_value s) (probe_values ss) vs h in
    subst (AreProbes (s ∷ ss)) (b.4) (probe_is s (b.0) (b.2), probes_are ss (b.1) (b.3))

probes_typed : (ss : List Sort) (vs : List ℤ) → AreProbes ss vs → AreValuesOf ss vs
probes_typed [] [] h = tt
probes_typed [] (v ∷ vs) h = absurd h
probes_typed (s ∷ ss) [] h = absurd h
probes_typed (s ∷ ss) (v ∷ vs) h = ((h.0).value, probes_typed ss vs h.1)

pub typed_probes : (ss : List Sort) (vs : List ℤ) → probe_values ss ≡ Some vs → AreValuesOf ss vs
typed_probes ss vs h = probes_typed ss vs (probes_are ss vs h)

with_neither : (o : Option ℤ) (os : Option (List ℤ)) → with_value o os ≡ None → (o ≡ None) ⊎ (os ≡ None)
with_neither None os h = inl refl
with_neither (Some v) None h = inr refl
with_neither (Some v) (Some us) h = absurd (cc)

pub probes_none : (ss : List Sort) → probe_values ss ≡ None → (vs : List ℤ) → ¬ (AreValuesOf ss vs)
probes_none [] h vs t = absurd (cc)
probes_none (s ∷ ss) h [] t = t
probes_none (s ∷ ss) h (v ∷ vs) t = elim (with_neither (probe_value s) (probe_values ss) h) [ inl p ↦ probe_none s p v t.0 | inr q ↦ probes_none ss q vs t.1 ]

-- ---- in the range
between : (a b v : ℤ) → InRange a → InRange b → a ≤ℤ v → v ≤ℤ b → InRange v
between a b v p q le ge = omega (arith, ints, p, q, le, ge)

value_ranged : (s : Sort) (v : ℤ) → IsSortRanged s → IsProbe s v → InRange v
value_ranged Int v r h = omega (arith, h.least (pos 0) tt)
value_ranged Nat v r h = omega (arith, h.least (pos 0) (omega (arith, ints)))
value_ranged (Range a b) v r h = between a b v r.0 r.1 (h.value).0 (h.value).1

pub probes_ranged : (ss : List Sort) (vs : List ℤ) → AllByRecursion IsSortRanged ss → AreProbes ss vs → AllByRecursion InRange vs
probes_ranged [] [] r h = tt
probes_ranged [] (v ∷ vs) r h = absurd h
probes_ranged (s ∷ ss) [] r h = absurd h
probes_ranged (s ∷ ss) (v ∷ vs) r h = (value_ranged s v r.0 h.0, probes_ranged ss vs r.1 h.1)
