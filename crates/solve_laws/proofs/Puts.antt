-- A value that was put into clauses is in the range, or they do not speak of its name.
use Rattle.std.proofs.Common.{◌≡◌, ◌≢◌, ℕ, zero, suc, ◌+◌, ◌*◌, ◌≤◌, ℤ, pos, ◌*ℤ◌, unsigned_abs, Bool, true, false, ◌&&◌, List, [], ◌∷◌, ◌++◌, map, refl, sym, ◌∙◌, arith, inl, inr, ◌⊎◌}
use Rattle.std.specs.List.{AllByRecursion, list_all}
use Rattle.std.specs.Ordering.{int_eq}
use Rattle.std.proofs.lemmas.Int.{ints, unsigned_abs-mul}
use Rattle.std.proofs.lemmas.Bool.Decides.{nat_tests, Decides-int_eq}
use Rattle.std.proofs.lemmas.List.Folds.{list_all-append}
use Rattle.linear_term.specs.declared.range.Place.{Place}
use Rattle.linear_term.specs.Linear.{Linear, coef_of, number, without}
use Rattle.linear_term.specs.Range.{InRange, all_stay, stays}
use Rattle.linear_term.specs.Combination.{aligned, place_of, raw_numbers}
use Rattle.base_budget.specs.Runs.{raw_stay}
use Rattle.base_budget.specs.Trace.{just, step, next, each}
use Rattle.clause_set.specs.declared.literal.Literal.{Literal}
use Rattle.clause_set.specs.declared.literal.Literal.TheVariants.{Eq, Geq, Div, NDiv}
use Rattle.clause_set.specs.Literals.{term_of}
use Rattle.solve_laws.specs.Solutions.{valued, valued_clause, with_value}
use Rattle.solve_laws.proofs.Parts.{both_true, stay_parts}
use Rattle.solve_laws.proofs.Entries.{Misses}

product_stays : (p : Place) → stays p ≡ true → InRange (p.n *ℤ p.b)
unfolding stays
product_stays p h = grind (arith, nat_tests)

last_stays : (ps : List Place) (p : Place) → all_stay (ps ++ p ∷ []) ≡ true → stays p ≡ true
unfolding all_stay
last_stays ps p h = (both_true (stays p) true (both_true (list_all stays ps) (stays p && true) (sym (list_all-append stays ps (p ∷ [])) ∙ h)).1).0

put_product : (j : ℕ) (v : ℤ) (t : Linear) → all_stay (raw_numbers (pos 1) (without t j) (coef_of t j) (number v)) ≡ true → InRange (coef_of t j *ℤ v)
unfolding raw_numbers
put_product j v t h =
    let p : Place = record { m = pos 1; a = (without t j).constant; n = coef_of t j; b = v } in
    product_stays p (last_stays (map (place_of (pos 1) (coef_of t j)) (aligned (without t j).pairs [])) p h)

at_least : (a b : ℕ) → 1 ≤ a → b ≤ a * b
at_least zero b h = absurd (omega arith)
at_least (suc a) b h = let e : suc a * b ≡ b + a * b = omega arith in omega (arith, e)

not_zero : (c : ℤ) → c ≢ pos 0 → 1 ≤ unsigned_abs c
not_zero c h = grind (arith, ints, h)

factor_in : (c v : ℤ) → c ≢ pos 0 → InRange (c *ℤ v) → InRange v
factor_in c v n h =
    let e = unsigned_abs-mul c v in
    let le = at_least (unsigned_abs c) (unsigned_abs v) (not_zero c n) in
    omega (arith, e, le, h)

by_coefficient : (j : ℕ) (v : ℤ) (l : Literal) → InRange (coef_of (term_of l) j *ℤ v) → InRange v ⊎ Misses j l
by_coefficient j v l h = by (int_eq (coef_of (term_of l) j) (pos 0)) refl
  where
    by : (b : Bool) → int_eq (coef_of (term_of l) j) (pos 0) ≡ b → InRange v ⊎ Misses j l
    by true is = inr ((Decides-int_eq (coef_of (term_of l) j) (pos 0)).0 is)
    by false is = inl (factor_in (coef_of (term_of l) j) v (λ z. absurd (let y = (Decides-int_eq (coef_of (term_of l) j) (pos 0)).1 z in cc)) h)

literal_put : (j : ℕ) (v : ℤ) (l : Literal) → raw_stay (valued j v l).events ≡ true → InRange v ⊎ Misses j l
unfolding next just step
literal_put j v (Eq t) h = by_coefficient j v (Eq t) (put_product j v t (both_true _ true h).0)
literal_put j v (Geq t) h = by_coefficient j v (Geq t) (put_product j v t (both_true _ true h).0)
literal_put j v (Div d t) h = by_coefficient j v (Div d t) (put_product j v t (both_true _ true h).0)
literal_put j v (NDiv d t) h = by_coefficient j v (NDiv d t) (put_product j v t (both_true _ true h).0)

both : (P Q : Type 0) {A : Type 0} → A ⊎ P → A ⊎ Q → A ⊎ (P × Q)
both P Q (inl a) y = inl a
both P Q (inr p) (inl a) = inl a
both P Q (inr p) (inr q) = inr (p, q)

clause_put : (j : ℕ) (v : ℤ) (c out : List Literal) → raw_stay (each (valued j v) c out).events ≡ true → InRange v ⊎ AllByRecursion (Misses j) c
unfolding next just
clause_put j v [] out h = inr tt
clause_put j v (l ∷ c) out h =
    let s = stay_parts (valued j v l).events (each (valued j v) c (out ++ (valued j v l).value)).events h in
    both (Misses j l) (AllByRecursion (Misses j) c) (literal_put j v l s.0) (clause_put j v c (out ++ (valued j v l).value) s.1)

clauses_put : (j : ℕ) (v : ℤ) (d out : List (List Literal)) → raw_stay (each (valued_clause j v) d out).events ≡ true → InRange v ⊎ AllByRecursion (AllByRecursion (Misses j)) d
unfolding next just
clauses_put j v [] out h = inr tt
clauses_put j v (c ∷ d) out h =
    let s = stay_parts (valued_clause j v c).events (each (valued_clause j v) d (out ++ (valued_clause j v c).value)).events h in
    both (AllByRecursion (Misses j) c) (AllByRecursion (AllByRecursion (Misses j)) d) (clause_put j v c [] (stay_parts (each (valued j v) c []).events [] s.0).0) (clauses_put j v d (out ++ (valued_clause j v c).value) s.1)

-- the value was put into d within the range
pub value_put : (j : ℕ) (v : ℤ) (d : List (List Literal)) → raw_stay (with_value j v d).events ≡ true → InRange v ⊎ AllByRecursion (AllByRecursion (Misses j)) d
unfolding with_value next step
value_put j v d h = clauses_put j v d [] (stay_parts (each (valued_clause j v) d []).events _ h).0
