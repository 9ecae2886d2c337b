-- What parts of a problem with cuts assume is no larger than the problem: its components stand below a connective.
use Rattle.std.proofs.Common.{◌≡◌, ◌⊎◌, ◌+◌, ◌<◌, ◌≤◌, ℕ, zero, suc, max, Bool, true, false, not, ◌||◌, cond, nat_eq, nat_lt, List, [], ◌∷◌, ◌++◌, length, get_or, map, inl, inr, refl, sym, ◌∙◌, ap, subst, arith}
use Rattle.std.specs.Prelude.{Contains}
use Rattle.std.specs.List.{AllByRecursion, IsDistinct, concat, filter}
use Rattle.std.proofs.lemmas.Bool.Decides.{nat_tests}
use Rattle.std.proofs.lemmas.List.Elements.{All-contains, recursion_from_All}
use Rattle.form_typed.specs.Formula.{Formula, Formulas, formula, formulas, constant, compares, applies, negation, every, some, implies, iff, for_all, for_some, part, no_formula, and_formula}
use Rattle.base_budget.specs.Trace.{capped}
use Rattle.pri_typing.specs.declared.problem.Cut.{Cut}
use Rattle.pri_typing.specs.declared.problem.Problem.{Problem}
use Rattle.pri_typing.specs.Problems.{assumed, assumed_by, is_part_in}
use Rattle.pri_typing.specs.WellFormed.{IsDivision, IsWellFormed, SignedFormula, all_formula_components, components_of, formula_components, part_number, part_numbers}
use Rattle.form_typed.specs.declared.typed.Sort.{Sort}
use Rattle.form_encoding.specs.Encoding.{bounds}
use Rattle.form_encoding.specs.Extent.{Extent, above, above_two, behind_atoms, beside, extent, extents, nothing, restricted_extent}
use Rattle.form_encoding.specs.Occurrences.{occurs}
use Rattle.form_encoding.specs.Problems.{is_large, parts_root, problem_root, types}
use Rattle.function_encoding.specs.Bounds.{below_types, extents_before, kept_bounds}
use Rattle.function_encoding.proofs.Chosen.{parts_extent}
use Rattle.function_encoding.proofs.Kept.{kept-two}
use Rattle.function_encoding.proofs.Limits.{large_is, problem_extent, restricted_levels, types_levels}

-- ---- nodes and levels of components
abbrev nodes_of : List SignedFormula → ℕ
nodes_of [] = 0
nodes_of (c ∷ cs) = (extent c.what).nodes + nodes_of cs

abbrev levels_of : List SignedFormula → ℕ
levels_of [] = 0
levels_of (c ∷ cs) = max (extent c.what).levels (levels_of cs)

nodes-append : (cs ds : List SignedFormula) → nodes_of (cs ++ ds) ≡ nodes_of cs + nodes_of ds
nodes-append [] ds = omega arith
nodes-append (c ∷ cs) ds = let rest = nodes-append cs ds in omega (arith, rest)

levels-append : (cs ds : List SignedFormula) → levels_of (cs ++ ds) ≡ max (levels_of cs) (levels_of ds)
levels-append [] ds = omega arith
levels-append (c ∷ cs) ds = let rest = levels-append cs ds in omega (arith, rest)

-- within the limits of an encoding
record IsSmall (e : Extent) : Type 0 where
  nodes : e.nodes ≤ 1000000
  levels : e.levels ≤ 2000

-- k nodes and levels stand above these components
record Stand (k : ℕ) (e : Extent) (cs : List SignedFormula) : Type 0 where
  nodes : k + nodes_of cs ≤ e.nodes
  levels : k + levels_of cs ≤ e.levels

alone : (plus : Bool) (f : Formula) → Stand 0 (extent f) ((record { plus = plus; what = f }) ∷ [])
alone plus f = record { nodes = omega arith; levels = omega arith }

lower : (e : Extent) (cs : List SignedFormula) → Stand 1 e cs → Stand 0 e cs
lower e cs h = let n = h.nodes in let l = h.levels in record { nodes = omega (arith, n); levels = omega (arith, l) }

both : (a b : Extent) (cs ds : List SignedFormula) → IsSmall (above_two a b) → (IsSmall a → Stand 0 a cs) → (IsSmall b → Stand 0 b ds) → Stand 1 (above_two a b) (cs ++ ds)
both a b cs ds s f g =
    let n = s.nodes in
    let l = s.levels in
    let h = f (record { nodes = omega (arith, n); levels = omega (arith, l) }) in
    let k = g (record { nodes = omega (arith, n); levels = omega (arith, l) }) in
    let hn = h.nodes in
    let kn = k.nodes in
    let hl = h.levels in
    let kl = k.levels in
    let an = nodes-append cs ds in
    let al = levels-append cs ds in
    record { nodes = omega (arith, n, hn, kn, an); levels = omega (arith, l, hl, kl, al) }

members : (e : Extent) (cs : List SignedFormula) → IsSmall (above e) → (IsSmall e → Stand 0 e cs) → Stand 1 (above e) cs
members e cs s f =
    let n = s.nodes in
    let l = s.levels in
    let h = f (record { nodes = omega (arith, n); levels = omega (arith, l) }) in
    let hn = h.nodes in
    let hl = h.levels in
    record { nodes = omega (arith, n, hn); levels = omega (arith, l, hl) }

beside_both : (a b : Extent) (cs ds : List SignedFormula) → IsSmall (beside a b) → (IsSmall a → Stand 0 a cs) → (IsSmall b → Stand 0 b ds) → Stand 0 (beside a b) (cs ++ ds)
beside_both a b cs ds s f g =
    let n = s.nodes in
    let l = s.levels in
    let h = f (record { nodes = omega (arith, n); levels = omega (arith, l) }) in
    let k = g (record { nodes = omega (arith, n); levels = omega (arith, l) }) in
    let hn = h.nodes in
    let kn = k.nodes in
    let hl = h.levels in
    let kl = k.levels in
    let an = nodes-append cs ds in
    let al = levels-append cs ds in
    record { nodes = omega (arith, n, hn, kn, an); levels = omega (arith, l, hl, kl, al) }

mutual
  components_stand : (plus : Bool) (f : Formula) → IsSmall (extent f) → Stand 0 (extent f) (formula_components plus f)
  components_stand plus (negation f) s = components_stand (not plus) f s
  components_stand true (implies f g) s = lower _ _ (both (extent f) (extent g) (formula_components false f) (formula_components true g) s (components_stand false f) (components_stand true g))
  components_stand false (implies f g) s = alone false (implies f g)
  components_stand true (some fs) s = lower _ _ (members (extents fs) (all_formula_components true fs) s (all_stand true fs))
  components_stand false (some fs) s = alone false (some fs)
  components_stand true (every fs) s = alone true (every fs)
  components_stand false (every fs) s = lower _ _ (members (extents fs) (all_formula_components false fs) s (all_stand false fs))
  components_stand true (constant b) s = alone true (constant b)
  components_stand false (constant b) s = alone false (constant b)
  components_stand true (compares r t u) s = alone true (compares r t u)
  components_stand false (compares r t u) s = alone false (compares r t u)
  components_stand true (applies p ts) s = alone true (applies p ts)
  components_stand false (applies p ts) s = alone false (applies p ts)
  components_stand true (iff f g) s = alone true (iff f g)
  components_stand false (iff f g) s = alone false (iff f g)
  components_stand true (for_all sort f) s = alone true (for_all sort f)
  components_stand false (for_all sort f) s = alone false (for_all sort f)
  components_stand true (for_some sort f) s = alone true (for_some sort f)
  components_stand false (for_some sort f) s = alone false (for_some sort f)
  components_stand true (part k f) s = alone true (part k f)
  components_stand false (part k f) s = alone false (part k f)

  all_stand : (plus : Bool) (fs : Formulas) → IsSmall (extents fs) → Stand 0 (extents fs) (all_formula_components plus fs)
  all_stand plus no_formula s = record { nodes = omega arith; levels = omega arith }
  all_stand plus (and_formula f fs) s = beside_both (extent f) (extents fs) (formula_components plus f) (all_formula_components plus fs) s (components_stand plus f) (all_stand plus fs)

-- the formula is its only component
abbrev IsAlone : Bool → Formula → Type 0
IsAlone plus f = (c : SignedFormula) × (formula_components plus f ≡ c ∷ [])

-- a formula that is not has a connective above its components
above_or_alone : (plus : Bool) (f : Formula) → IsSmall (extent f) → Stand 1 (extent f) (formula_components plus f) ⊎ IsAlone plus f
above_or_alone plus (negation f) s = above_or_alone (not plus) f s
above_or_alone true (implies f g) s = inl (both (extent f) (extent g) (formula_components false f) (formula_components true g) s (components_stand false f) (components_stand true g))
above_or_alone false (implies f g) s = inr (_, refl)
above_or_alone true (some fs) s = inl (members (extents fs) (all_formula_components true fs) s (all_stand true fs))
above_or_alone false (some fs) s = inr (_, refl)
above_or_alone true (every fs) s = inr (_, refl)
above_or_alone false (every fs) s = inl (members (extents fs) (all_formula_components false fs) s (all_stand false fs))
above_or_alone true (constant b) s = inr (_, refl)
above_or_alone false (constant b) s = inr (_, refl)
above_or_alone true (compares r t u) s = inr (_, refl)
above_or_alone false (compares r t u) s = inr (_, refl)
above_or_alone true (applies p ts) s = inr (_, refl)
above_or_alone false (applies p ts) s = inr (_, refl)
above_or_alone true (iff f g) s = inr (_, refl)
above_or_alone false (iff f g) s = inr (_, refl)
above_or_alone true (for_all sort f) s = inr (_, refl)
above_or_alone false (for_all sort f) s = inr (_, refl)
above_or_alone true (for_some sort f) s = inr (_, refl)
above_or_alone false (for_some sort f) s = inr (_, refl)
above_or_alone true (part k f) s = inr (_, refl)
above_or_alone false (part k f) s = inr (_, refl)

-- ---- a problem with a cut is not its only component
one_number : (j k d : ℕ) (i : ℕ) → i < 1 → get_or (j ∷ []) i d ≡ k → j ≡ k
one_number j k d zero lt h = h
one_number j k d (suc i) lt h = absurd (omega (arith, lt))

no_number : {A : Type 0} (k : ℕ) → Contains [] k → A
no_number k h = let lt = h.1 in absurd (omega (arith, lt))

same_part : (f : Formula) (k l : ℕ) → Contains (part_number f ++ []) k → Contains (part_number f ++ []) l → k ≡ l
same_part (part j f) k l h g = sym (one_number j k _ h.0 h.1 h.2) ∙ one_number j l _ g.0 g.1 g.2
same_part (constant b) k l h g = no_number k h
same_part (compares r t u) k l h g = no_number k h
same_part (applies p ts) k l h g = no_number k h
same_part (negation f) k l h g = no_number k h
same_part (every fs) k l h g = no_number k h
same_part (some fs) k l h g = no_number k h
same_part (implies f g) k l h i = no_number k h
same_part (iff f g) k l h i = no_number k h
same_part (for_all sort f) k l h g = no_number k h
same_part (for_some sort f) k l h g = no_number k h

-- two different parts
record TwoParts (parts : ℕ) : Type 0 where
  one : ℕ
  other : ℕ
  one_below : one < parts
  other_below : other < parts
  differ : nat_eq one other ≡ false

behind : (P : ℕ → Type 0) (xs : List ℕ) (y : ℕ) (ys : List ℕ) → AllByRecursion P (xs ++ y ∷ ys) → P y
behind P [] y ys h = h.0
behind P (x ∷ xs) y ys h = behind P xs y ys h.1

two_parts : (parts : ℕ) (sets : List (List ℕ)) → 2 ≤ length sets → AllByRecursion (λ set. 1 ≤ length set) sets → AllByRecursion (λ k. k < parts) (concat sets) → IsDistinct nat_eq (concat sets) → TwoParts parts
unfolding IsDistinct
two_parts parts [] s f b d = absurd (omega (arith, s))
two_parts parts (x ∷ []) s f b d = absurd (omega (arith, s))
two_parts parts ([] ∷ y ∷ more) s f b d = let n = f.0 in absurd (omega (arith, n))
two_parts parts ((x ∷ xs) ∷ [] ∷ more) s f b d = let n = f.1.0 in absurd (omega (arith, n))
two_parts parts ((x ∷ xs) ∷ (y ∷ ys) ∷ more) s f b d = record {
  one = x;
  other = y;
  one_below = b.0;
  other_below = behind (λ k. k < parts) xs y (ys ++ concat more) b.1;
  differ = behind (λ k. nat_eq x k ≡ false) xs y (ys ++ concat more) d.0;
}

not_alone : (p : Problem) (cut : Cut) → IsWellFormed p → Contains p.cuts cut → ¬ (IsAlone true (formula p.formula))
not_alone p cut formed among h =
    let some : 1 ≤ length p.cuts = let lt = among.1 in omega (arith, lt) in
    let divides = All-contains (IsDivision (length p.parts)) p.cuts cut formed.divided among in
    let two = two_parts (length p.parts) cut.sets divides.several (recursion_from_All (λ set. 1 ≤ length set) cut.sets divides.filled) (recursion_from_All (λ k. k < length p.parts) (concat cut.sets) divides.below) divides.once in
    let each = (formed.divisible some).each_part in
    let found : (k : ℕ) → k < length p.parts → Contains (part_number (h.0).what ++ []) k = λ k lt. subst (λ cs. Contains (part_numbers cs) k) h.1 (each k lt) in
    let same : two.one ≡ two.other = same_part (h.0).what two.one two.other (found two.one two.one_below) (found two.other two.other_below) in
    let differ = two.differ in
    absurd (grind (arith, nat_tests, same, differ))

-- ---- what parts assume
nodes-filter : (q : SignedFormula → Bool) (cs : List SignedFormula) → (nodes_of (filter q cs) ≤ nodes_of cs) × (levels_of (filter q cs) ≤ levels_of cs)
nodes-filter q [] = (omega arith, omega arith)
nodes-filter q (c ∷ cs) = by (q c) (nodes-filter q cs)
  where
    by : (b : Bool) → (nodes_of (filter q cs) ≤ nodes_of cs) × (levels_of (filter q cs) ≤ levels_of cs)
        → (nodes_of (cond b (c ∷ filter q cs) (filter q cs)) ≤ (extent c.what).nodes + nodes_of cs) × (levels_of (cond b (c ∷ filter q cs) (filter q cs)) ≤ max (extent c.what).levels (levels_of cs))
    by true h = let n = h.0 in let l = h.1 in (omega (arith, n), omega (arith, l))
    by false h = let n = h.0 in let l = h.1 in (omega (arith, n), omega (arith, l))

assumed_extent : (c : SignedFormula) → extent (assumed c) ≡ extent c.what
assumed_extent c = by c.plus
  where
    by : (b : Bool) → extent (cond b (negation c.what) c.what) ≡ extent c.what
    by true = refl
    by false = refl

abbrev nodes_sum : Formulas → ℕ
nodes_sum no_formula = 0
nodes_sum (and_formula f fs) = (extent f).nodes + nodes_sum fs

abbrev levels_max : Formulas → ℕ
levels_max no_formula = 0
levels_max (and_formula f fs) = max (extent f).levels (levels_max fs)

within : (k n l : ℕ) → (nat_lt 1000000 (capped (k + n)) || nat_lt 2000 (capped (k + l))) ≡ false → (n ≤ 1000000) × (l ≤ 2000)
within k n l h = by (nat_lt 1000000 (capped (k + n))) refl h
  where
    by : (b : Bool) → nat_lt 1000000 (capped (k + n)) ≡ b → (b || nat_lt 2000 (capped (k + l))) ≡ false → (n ≤ 1000000) × (l ≤ 2000)
    by true e i = absurd (cc)
    by false e i =
        let sn : capped (k + n) ≤ 1000000 = grind (arith, nat_tests) in
        let sl : capped (k + l) ≤ 2000 = grind (arith, nat_tests) in
        (omega (arith, sn), omega (arith, sl))

capped_tests : (n l : ℕ) → (nat_lt 1000000 n || nat_lt 2000 l) ≡ false → (nat_lt 1000000 (capped (0 + n)) || nat_lt 2000 (capped (0 + l))) ≡ false
capped_tests n l h =
    let one : nat_lt 1000000 (capped (0 + n)) ≡ nat_lt 1000000 n = grind (arith, nat_tests) in
    let two : nat_lt 2000 (capped (0 + l)) ≡ nat_lt 2000 l = grind (arith, nat_tests) in
    (λ i. one i || two i) ∙ h

small_tests : (n l : ℕ) → n ≤ 1000000 → l ≤ 2000 → (nat_lt 1000000 n || nat_lt 2000 l) ≡ false
small_tests n l h k =
    let one : nat_lt 1000000 n ≡ false = grind (arith, nat_tests) in
    let two : nat_lt 2000 l ≡ false = grind (arith, nat_tests) in
    λ i. one i || two i

-- more nodes, and how many there are at least and at most
least_nodes : (k : ℕ) (e : Extent) → (behind_atoms k e).nodes ≤ 1000000 → k + e.nodes ≤ (behind_atoms k e).nodes
least_nodes zero e h = omega arith
least_nodes (suc k) e h = let rest = least_nodes k e (omega (arith, h)) in omega (arith, h, rest)

restricted_nodes : (k : ℕ) (e : Extent) → (restricted_extent k e).nodes ≤ 1000000 → k + e.nodes ≤ (restricted_extent k e).nodes
restricted_nodes zero e h = omega arith
restricted_nodes (suc k) e h =
    let all = behind_atoms (suc k) (beside e nothing) in
    let small : all.nodes ≤ 1000000 = omega (arith, h) in
    let rest = least_nodes (suc k) (beside e nothing) small in
    omega (arith, h, small, rest)

types_nodes : (x : ℕ) (ss : List Sort) (e : Extent) → (below_types ss e).nodes ≤ 1000000 → kept_bounds (λ y. true) x ss + e.nodes ≤ (below_types ss e).nodes
types_nodes x [] e h = omega arith
types_nodes x (s ∷ ss) e h =
    let under = restricted_extent (length (bounds s)) (below_types ss e) in
    let small : under.nodes ≤ 1000000 = omega (arith, h) in
    let own = restricted_nodes (length (bounds s)) (below_types ss e) small in
    let rest = types_nodes (suc x) ss e (omega (arith, own, small)) in
    omega (arith, h, small, own, rest)

most_nodes : (k : ℕ) → (behind_atoms k nothing).nodes ≤ k
most_nodes zero = omega arith
most_nodes (suc k) = let rest = most_nodes k in omega (arith, rest)

most_levels : (k : ℕ) → (behind_atoms k nothing).levels ≤ 1
most_levels zero = omega arith
most_levels (suc k) = let rest = most_levels k in omega (arith, rest)

before_nodes : (fs : Formulas) (e : Extent) → ((extents_before fs e).nodes ≤ nodes_sum fs + e.nodes) × ((extents_before fs e).levels ≤ max (levels_max fs) e.levels)
before_nodes no_formula e = (omega arith, omega arith)
before_nodes (and_formula f fs) e = let rest = before_nodes fs e in let n = rest.0 in let l = rest.1 in (omega (arith, n), omega (arith, l))

assumed_sums : (cs : List SignedFormula) → (nodes_sum (formulas (map assumed cs)) ≡ nodes_of cs) × (levels_max (formulas (map assumed cs)) ≡ levels_of cs)
assumed_sums [] = (refl, refl)
assumed_sums (c ∷ cs) =
    let rest = assumed_sums cs in
    (λ i. (assumed_extent c i).nodes + rest.0 i, λ i. max (assumed_extent c i).levels (rest.1 i))

fewer : (kept : ℕ → Bool) (x : ℕ) (ss : List Sort) → kept_bounds kept x ss ≤ kept_bounds (λ y. true) x ss
fewer kept x [] = omega arith
fewer kept x (s ∷ ss) = by (kept x) (fewer kept (suc x) ss)
  where
    by : (b : Bool) → kept_bounds kept (suc x) ss ≤ kept_bounds (λ y. true) (suc x) ss
        → cond b (length (bounds s)) 0 + kept_bounds kept (suc x) ss ≤ length (bounds s) + kept_bounds (λ y. true) (suc x) ss
    by true h = omega (arith, h)
    by false h = omega (arith, h)

-- of a problem with few nodes and levels
record Inside (p : Problem) : Type 0 where
  all : ℕ
  are : kept_bounds (λ y. true) 0 (types p) ≡ all
  nodes : all + (extent (formula p.formula)).nodes ≤ 1000000
  levels : (extent (formula p.formula)).levels ≤ 2000

any_start : (x y : ℕ) (ss : List Sort) → kept_bounds (λ z. true) x ss ≡ kept_bounds (λ z. true) y ss
any_start x y [] = refl
any_start x y (s ∷ ss) = ap (λ k. length (bounds s) + k) (any_start (suc x) (suc y) ss)

inside : (p : Problem) → is_large (problem_root p).value ≡ false → Inside p
inside p small =
    let e = extent (formula p.formula) in
    let below = below_types p.universal_types e in
    let k = kept_bounds (λ y. true) 0 p.existential_types in
    let w = within 0 (restricted_extent k below).nodes (restricted_extent k below).levels (capped_tests (restricted_extent k below).nodes (restricted_extent k below).levels (large_is (problem_root p).value _ (problem_extent p) ∙ small)) in
    let wn = w.0 in
    let wl = w.1 in
    let rn = restricted_nodes k below wn in
    let bn = types_nodes 0 p.universal_types e (omega (arith, wn, rn)) in
    record {
      all = k + kept_bounds (λ y. true) 0 p.universal_types;
      are = kept-two (λ y. true) 0 p.existential_types p.universal_types ∙ ap (λ j. k + j) (any_start (0 + length p.existential_types) 0 p.universal_types);
      nodes = omega (arith, wn, rn, bn);
      levels = types_levels p.universal_types e (restricted_levels k below wl);
    }

pub parts_small : (p : Problem) (cut : Cut) (set : List ℕ) → IsWellFormed p → Contains p.cuts cut → is_large (problem_root p).value ≡ false → is_large (parts_root p set).value ≡ false
parts_small p cut set formed among small =
    let f = formula p.formula in
    let cs = components_of p in
    let q : SignedFormula → Bool = λ c. is_part_in set c.what in
    let kept : ℕ → Bool = λ x. occurs x (assumed_by p set) in
    let in_limits = inside p small in
    let n = in_limits.nodes in
    let l = in_limits.levels in
    let are = in_limits.are in
    let stand : Stand 1 (extent f) cs = elim (above_or_alone true f (record { nodes = omega (arith, n); levels = l })) [ inl h ↦ h | inr h ↦ absurd (not_alone p cut formed among h) ] in
    let chosen = nodes-filter q cs in
    let fs = formulas (map assumed (filter q cs)) in
    let sums = assumed_sums (filter q cs) in
    let k = kept_bounds kept 0 (types p) in
    let own = before_nodes fs (behind_atoms k nothing) in
    let most = fewer kept 0 (types p) in
    let an = most_nodes k in
    let al = most_levels k in
    let sn = stand.nodes in
    let sl = stand.levels in
    let cn = chosen.0 in
    let cl = chosen.1 in
    let mn = sums.0 in
    let ml = sums.1 in
    let on = own.0 in
    let ol = own.1 in
    let e = above (extents_before fs (behind_atoms k nothing)) in
    sym (large_is (parts_root p set).value e (parts_extent p set))
    ∙ small_tests e.nodes e.levels (omega (arith, n, are, most, an, sn, cn, mn, on)) (omega (arith, l, al, sl, cl, ml, ol))
