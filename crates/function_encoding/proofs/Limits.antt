-- The extent of an encoded problem, and the tests of it.
use Rattle.std.proofs.Common.{◌≡◌, ◌+◌, ◌≤◌, ◌<◌, ℕ, zero, suc, Bool, true, false, ◌||◌, nat_lt, List, [], ◌∷◌, ◌++◌, length, drop, get_or, refl, sym, ap, ◌∙◌, arith}
use Rattle.std.specs.List.{list_any}
use Rattle.std.proofs.lemmas.Grind.{common_steps}
use Rattle.form_typed.specs.declared.typed.Sort.{Sort}
use Rattle.form_typed.specs.Formula.{formula}
use Rattle.pri_typing.specs.declared.problem.Problem.{Problem}
use Rattle.base_budget.specs.Trace.{Traced, just, next, capped}
use Rattle.base_budget.proofs.Charging.{drop-item, drop_all}
use Rattle.formula.specs.Form.{Form, Forms, forms, no_form}
use Rattle.formula.specs.Sizes.{size, depth}
use Rattle.form_encoding.specs.Encoding.{bounds, restricted}
use Rattle.form_encoding.specs.Root.{conditions, for_last, names_from}
use Rattle.form_encoding.specs.Extent.{Extent, beside, leaf, nothing, above, behind_atoms, restricted_extent, measured, all_measured, extent}
use Rattle.form_encoding.specs.Problems.{constants, body, problem_root, is_large}
use Rattle.form_encoding.proofs.Bounding.{measured-bound}
use Rattle.form_encoding.proofs.Measuring.{measured-more, measured-junction, measured-nothing}
use Rattle.form_encoding.proofs.Extents.{extent_is}
use Rattle.function_encoding.specs.Bounds.{kept_bounds, below_types}
use Rattle.function_encoding.proofs.Kept.{conditions_measured, conditions_many}

measured_last : (m : ℕ) (ss : List Sort) (work : Traced Form) (a : Extent) → measured work.value ≡ a → measured (for_last m ss work).value ≡ below_types ss a
measured_last m [] work a p = p
measured_last m (s ∷ ss) work a p = measured-bound true m s (for_last (suc m) ss work) (below_types ss a) (measured_last (suc m) ss work a p)

restricted_measured : (hs : List Form) (g : Form) (k : ℕ) (a : Extent) → length hs ≡ k → measured g ≡ a → all_measured (forms (hs ++ g ∷ [])) ≡ behind_atoms k (beside a nothing)
    → measured (restricted false hs g) ≡ restricted_extent k a
restricted_measured [] g zero a l p q = p
restricted_measured [] g (suc k) a l p q = absurd (omega (arith, l))
restricted_measured (h ∷ hs) g zero a l p q = absurd (omega (arith, l))
restricted_measured (h ∷ hs) g (suc k) a l p q = measured-junction true (forms ((h ∷ hs) ++ g ∷ [])) (behind_atoms (suc k) (beside a nothing)) q

-- the extent of an encoded problem
pub problem_extent : (p : Problem) → measured (problem_root p).value ≡ restricted_extent (kept_bounds (λ x. true) 0 p.existential_types) (below_types p.universal_types (extent (formula p.formula)))
unfolding next just
problem_extent p =
    let es = p.existential_types in
    let g : Form = (for_last (length es) p.universal_types (body p)).value in
    let a : Extent = below_types p.universal_types (extent (formula p.formula)) in
    let hs : List Form = (conditions (λ x. true) 0 es).value in
    let last : measured g ≡ a = measured_last (length es) p.universal_types (body p) (extent (formula p.formula)) (extent_is (formula p.formula) (names_from 0 (constants p)) (constants p) true) in
    restricted_measured hs g (kept_bounds (λ x. true) 0 es) a (conditions_many (λ x. true) 0 es) last
    (conditions_measured (λ x. true) 0 es (g ∷ []) (beside a nothing) (measured-more g no_form a nothing last measured-nothing))

nodes_test : (s : ℕ) → nat_lt 1000000 (capped s) ≡ nat_lt 1000000 s
nodes_test s = grind (arith, common_steps)

levels_test : (s : ℕ) → nat_lt 2000 (capped s) ≡ nat_lt 2000 s
levels_test s = grind (arith, common_steps)

-- the limits can be tested on the extent
pub large_is : (f : Form) (e : Extent) → measured f ≡ e → (nat_lt 1000000 e.nodes || nat_lt 2000 e.levels) ≡ is_large f
large_is f e h =
    (λ i. nat_lt 1000000 (sym h i).nodes || nat_lt 2000 (sym h i).levels)
    ∙ (λ i. nodes_test (size f) i || levels_test (depth f) i)

-- from the last quantifier back
pub types_back : (i j : ℕ) (ss : List Sort) (s : Sort) (all r e new : Extent) → i ≡ j + 1 → j < length ss → s ≡ get_or ss j s → all ≡ below_types (drop i ss) e
    → r ≡ restricted_extent (length (bounds s)) all → new ≡ above r → new ≡ below_types (drop j ss) e
types_back i j ss s all r e new up lt is h g n =
    n ∙ ap above g ∙ ap (λ z. above (restricted_extent (length (bounds s)) z)) (h ∙ ap (λ m. below_types (drop m ss) e) up) ∙ ap (λ l. below_types l e) (sym (drop-item ss j s lt is))

pub types_last : (i : ℕ) (ss : List Sort) (e : Extent) → length ss ≤ i → e ≡ below_types (drop i ss) e
types_last i ss e le = ap (λ l. below_types l e) (sym (drop_all ss i le))

-- the conditions of types, where there are any
abbrev has_bound : Sort → Bool
has_bound s = nat_lt 0 (length (bounds s))

no_bound : (n : ℕ) → nat_lt 0 n ≡ false → n ≡ 0
no_bound n h = grind (arith, common_steps)

some_bound : (n : ℕ) → nat_lt 0 n ≡ true → 1 ≤ n
some_bound n h = grind (arith, common_steps)

pub unbounded : (x : ℕ) (ss : List Sort) → list_any has_bound ss ≡ false → kept_bounds (λ y. true) x ss ≡ 0
unbounded x [] h = refl
unbounded x (s ∷ ss) h = by (unbounded (suc x) ss) (has_bound s) refl h
  where
    by : (list_any has_bound ss ≡ false → kept_bounds (λ y. true) (suc x) ss ≡ 0) → (b : Bool) → has_bound s ≡ b → (b || list_any has_bound ss) ≡ false → kept_bounds (λ y. true) x (s ∷ ss) ≡ 0
    by others true e k = absurd cc
    by others false e k = let own = no_bound (length (bounds s)) e in let rest = others k in omega (arith, own, rest)

pub bounded : (x : ℕ) (ss : List Sort) → list_any has_bound ss ≡ true → 1 ≤ kept_bounds (λ y. true) x ss
bounded x [] h = absurd cc
bounded x (s ∷ ss) h = by (bounded (suc x) ss) (has_bound s) refl h
  where
    by : (list_any has_bound ss ≡ true → 1 ≤ kept_bounds (λ y. true) (suc x) ss) → (b : Bool) → has_bound s ≡ b → (b || list_any has_bound ss) ≡ true → 1 ≤ kept_bounds (λ y. true) x (s ∷ ss)
    by others true e k = let own = some_bound (length (bounds s)) e in omega (arith, own)
    by others false e k = let rest = others k in omega (arith, rest)

pub without_bounds : (ss : List Sort) (e : Extent) → list_any has_bound ss ≡ false → e ≡ restricted_extent (kept_bounds (λ y. true) 0 ss) e
without_bounds ss e h = ap (λ k. restricted_extent k e) (sym (unbounded 0 ss h))

pub with_bounds : (ss : List Sort) (e b c new : Extent) → list_any has_bound ss ≡ true → b ≡ beside e nothing → c ≡ behind_atoms (kept_bounds (λ y. true) 0 ss) b → new ≡ above c
    → new ≡ restricted_extent (kept_bounds (λ y. true) 0 ss) e
with_bounds ss e b c new h p q n = n ∙ ap above (q ∙ ap (behind_atoms (kept_bounds (λ y. true) 0 ss)) p) ∙ by (kept_bounds (λ y. true) 0 ss) (bounded 0 ss h)
  where
    by : (k : ℕ) → 1 ≤ k → above (behind_atoms k (beside e nothing)) ≡ restricted_extent k e
    by zero le = absurd (omega (arith, le))
    by (suc k) le = refl

-- Levels.

behind_levels : (k : ℕ) (e : Extent) → e.levels ≤ (behind_atoms k e).levels
behind_levels zero e = omega arith
behind_levels (suc k) e = let rest = behind_levels k e in omega (arith, rest)

capped_small : (k l : ℕ) → capped (k + l) ≤ 2000 → l ≤ 2000
capped_small k l h = omega (arith, h)

pub restricted_levels : (k : ℕ) (e : Extent) → (restricted_extent k e).levels ≤ 2000 → e.levels ≤ 2000
restricted_levels zero e h = h
restricted_levels (suc k) e h =
    let under = capped_small 1 (behind_atoms (suc k) (beside e nothing)).levels h in
    let all = behind_levels (suc k) (beside e nothing) in
    omega (arith, under, all)

pub types_levels : (ss : List Sort) (e : Extent) → (below_types ss e).levels ≤ 2000 → e.levels ≤ 2000
types_levels [] e h = h
types_levels (s ∷ ss) e h =
    let r = restricted_extent (length (bounds s)) (below_types ss e) in
    types_levels ss e (restricted_levels (length (bounds s)) (below_types ss e) (capped_small 1 r.levels h))
