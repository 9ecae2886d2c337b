-- The candidates of a clause in one name by its equation, its bounds, or what its first split leaves.
use Rattle.std.proofs.Common.{◌≡◌, ◌<◌, ◌≤◌, ◌+◌, ℕ, zero, suc, ℤ, pos, Bool, true, false, nat_lt, List, [], ◌∷◌, ◌++◌, drop, length, get_or, Option, Some, None, Result, Ok, Err, IsErrAnd, refl, sym, ◌∙◌, ap, subst, arith}
use Rattle.std.specs.Prelude.{All, max, position}
use Rattle.std.specs.List.{AllByRecursion, list_any}
use Rattle.std.proofs.lemmas.Bool.{cond-true, cond-false}
use Rattle.std.proofs.lemmas.Option.{slice_get-get_or}
use Rattle.std.proofs.lemmas.List.Quantifiers.{position-Some}
use Rattle.std.proofs.lemmas.List.Elements.{All-append, All-from_recursion, recursion_from_All}
use Rattle.std.proofs.lemmas.Bool.Decides.{nat_tests}
use Rattle.linear_term.specs.Linear.{number}
use Rattle.linear_term.specs.Range.{InRange}
use Rattle.linear_term.proofs.Totals.{by_test}
use Rattle.base_budget.specs.declared.fault.StepFault.{StepFault}
use Rattle.base_budget.specs.declared.log.Entry.{Entry}
use Rattle.base_budget.specs.declared.log.Entry.TheVariants.{Apart, Merge}
use Rattle.base_budget.specs.Trace.{Funds, Traced, just, next, each}
use Rattle.base_budget.specs.Work.{Charged, Worked}
use Rattle.base_budget.proofs.Charging.{then_ok, then_err, then_just, free, charged_value}
use Rattle.base_budget.proofs.Tracing.{next-same, next-just, next-assoc}
use Rattle.clause_set.specs.declared.literal.Literal.{Literal}
use Rattle.clause_set.specs.declared.literal.Literal.TheVariants.{Geq}
use Rattle.clause_set.specs.Formed.{IsFormed}
use Rattle.clause_set.specs.Primitive.{IsShaped}
use Rattle.clause_set.specs.Names.{is_equation, is_divisibility, is_indivisibility}
use Rattle.clause_set.specs.Rules.{applies, passes, rule, measure, first_of, first_merge}
use Rattle.std.specs.Option.{option_map}
use Rattle.elim_rule_laws.proofs.EquationLists.{any-got, none-any, kept-weaker}
use Rattle.solve_laws.specs.Nearest.{nearer, nearest_of, nearest}
use Rattle.solve_laws.specs.Best.{rank}
use Rattle.solve_laws.specs.Candidates.{IsAlone, root_at, bounded, first_split, split_by, candidates}
use Rattle.solve_laws.proofs.Spans.{IsIn, IsName, in-formed, in-shaped, all_lack}
use Rattle.solve_laws.proofs.Candidates.{position-none, position-got, get-drop}
use Rattle.solve_laws.proofs.Ranks.{both}
use Rattle.solve_laws.proofs.Splits.{IsCase, case_of, alone_in, in-alone, clause-splits}
use Rattle.parameter_solver.specs.Names.{IsOfName}
use Rattle.parameter_solver.specs.Splits.{split_at, splitting}

-- ---- clauses on one name
pub of_name : (j : ℕ) (c : List Literal) → IsOfName j c → AllByRecursion (IsIn (IsName j)) c
of_name j c h = alone_in j c h.formed h.shaped h.lacks

pub alone : (j : ℕ) (c : List Literal) → IsOfName j c → All (IsAlone j) c
alone j c h = All-from_recursion (IsAlone j) c (in-alone j c (of_name j c h))

pub to_name : (j : ℕ) (c : List Literal) → AllByRecursion (IsIn (IsName j)) c → IsOfName j c
to_name j c h = record {
  formed = All-from_recursion IsFormed c (in-formed (IsName j) c h);
  shaped = All-from_recursion IsShaped c (in-shaped (IsName j) c h);
  lacks = λ y n. (all_lack (IsName j) y (c ∷ []) (λ e. n e) (h, tt)).0;
}

pub to_names : (j : ℕ) (cs : List (List Literal)) → AllByRecursion (AllByRecursion (IsIn (IsName j))) cs → All (IsOfName j) cs
to_names j cs h = All-from_recursion (IsOfName j) cs (kept-weaker (AllByRecursion (IsIn (IsName j))) (IsOfName j) (to_name j) cs h)

-- ---- places
pub found_at : (p : Literal → Bool) (ls c : List Literal) (o w : Option ℕ) → ls ≡ c → o ≡ position p ls → o ≡ w → position p c ≡ w
found_at p ls c o w same is at = sym (ap (position p) same) ∙ sym is ∙ at

pub place_within : (p : Literal → Bool) (c : List Literal) (i : ℕ) → position p c ≡ Some i → i < length c
place_within p c i h = (position-Some p c i (Geq (number (pos 0))) h).0

pub apart_place : (j i : ℕ) (c : List Literal) → position (is_indivisibility j) c ≡ Some i → applies j c (Apart i) ≡ true
unfolding applies
apart_place j i c h = position-got (is_indivisibility j) c i h

pub merge_place : (j i k : ℕ) (c : List Literal) → position (is_divisibility j) c ≡ Some i → position (is_divisibility j) (drop (i + 1) c) ≡ Some k → applies j c (Merge i (i + 1 + k)) ≡ true
unfolding applies
merge_place j i k c h g =
    let l : nat_lt i (i + 1 + k) ≡ true = grind (arith, nat_tests) in
    both _ _ l (both _ _ (position-got (is_divisibility j) c i h)
    (ap (passes (is_divisibility j)) (sym (get-drop c (i + 1) k)) ∙ position-got (is_divisibility j) (drop (i + 1) c) k g))

pub any_place : (p : Literal → Bool) (c : List Literal) (i : ℕ) → position p c ≡ Some i → list_any p c ≡ true
any_place p c i h =
    let d : Literal = Geq (number (pos 0)) in
    let k = position-Some p c i d h in
    any-got p c i (get_or c i d) (slice_get-get_or c i d k.0) k.1

pub no_place : (p : Literal → Bool) (c : List Literal) → position p c ≡ None → list_any p c ≡ false
no_place p c h = none-any p c (position-none p c h)

-- ---- what the first split leaves
splitting_by : (j : ℕ) (c : List Literal) (o q : Option ℕ) → position (is_indivisibility j) c ≡ o → position (is_divisibility j) c ≡ q
    → splitting j c ≡ split_at j c (first_of (option_map (λ i. Apart i) o) (first_merge j c q))
unfolding splitting
splitting_by j c o q h g =
    ap (λ z. split_at j c (first_of (option_map (λ i. Apart i) z) (first_merge j c (position (is_divisibility j) c)))) h
    ∙ ap (λ z. split_at j c (first_of (option_map (λ i. Apart i) o) (first_merge j c z))) g

pub split_apart : (j i : ℕ) (c : List Literal) → position (is_indivisibility j) c ≡ Some i → splitting j c ≡ next (rule j c (Apart i)) (λ rs. just (Some rs))
split_apart j i c h = splitting_by j c (Some i) (position (is_divisibility j) c) h refl

pub split_merge : (j i k : ℕ) (c : List Literal) → position (is_indivisibility j) c ≡ None → position (is_divisibility j) c ≡ Some i → position (is_divisibility j) (drop (i + 1) c) ≡ Some k
    → splitting j c ≡ next (rule j c (Merge i (i + 1 + k))) (λ rs. just (Some rs))
split_merge j i k c h g f =
    splitting_by j c None (Some i) h g ∙ ap (λ z. split_at j c (option_map (λ m. Merge i (i + 1 + m)) z)) f

pub split_no : (j : ℕ) (c : List Literal) → position (is_indivisibility j) c ≡ None → position (is_divisibility j) c ≡ None → splitting j c ≡ just None
split_no j c h g = splitting_by j c None None h g

pub split_one : (j i : ℕ) (c : List Literal) → position (is_indivisibility j) c ≡ None → position (is_divisibility j) c ≡ Some i → position (is_divisibility j) (drop (i + 1) c) ≡ None
    → splitting j c ≡ just None
split_one j i c h g f = splitting_by j c None (Some i) h g ∙ ap (λ z. split_at j c (option_map (λ m. Merge i (i + 1 + m)) z)) f

-- work that is that of a rule, or none
pub rule_ok : (w : Traced (Option (List (List Literal)))) (u : Traced (List (List Literal))) (rs : List (List Literal)) {f g : Funds} → w ≡ next u (λ x. just (Some x)) → Charged u f (Ok rs) g
    → Charged w f (Ok (Some rs)) g
rule_ok w u rs {f} {g} is did = subst (λ z. Charged z f (Ok (Some rs)) g) (sym is) (then_ok u _ did (then_just (Some rs) (Some rs) refl))

pub rule_err : (w : Traced (Option (List (List Literal)))) (u : Traced (List (List Literal))) (e : StepFault) (r : Result (Option (List (List Literal))) StepFault) {f g : Funds} → w ≡ next u (λ x. just (Some x))
    → Charged u f (Err e) g → IsErrAnd r (λ x. x ≡ e) → Charged w f r g
rule_err w u e r {f} {g} is did h = subst (λ z. Charged z f r g) (sym is) (then_err u _ r h did)

pub rule_none : (w : Traced (Option (List (List Literal)))) {f : Funds} → w ≡ just None → Charged w f (Ok None) f
rule_none w {f} is = subst (λ z. Charged z f (Ok None) f) (sym is) (then_just None None refl)

-- ---- candidates
-- what comes after the split
abbrev pub after_split : ℕ → List Literal → Option (List (List Literal)) → Traced (List ℤ)
after_split j c None = bounded j c
after_split j c (Some rs) = each (candidates j) rs []

split_again : (j : ℕ) (c : List Literal) (o : Option Entry) → split_by (candidates j) j c o ≡ next (split_at j c o) (after_split j c)
split_again j c None = sym (next-just None (after_split j c))
split_again j c (Some e) = sym (next-assoc (rule j c e) _ (after_split j c) ∙ next-same (rule j c e) _ _ (next-just (Some (rule j c e).value) (after_split j c)))

by_equation : (j i : ℕ) (c : List Literal) → IsOfName j c → position (is_equation j) c ≡ Some i → candidates j c ≡ root_at j c (Some i)
by_equation j i c h at =
    clause-splits j c h.formed h.shaped h.lacks ∙ cond-true _ _ _ (any_place (is_equation j) c i at) ∙ ap (root_at j c) at

by_split : (j : ℕ) (c : List Literal) → IsOfName j c → position (is_equation j) c ≡ None → candidates j c ≡ next (splitting j c) (after_split j c)
unfolding splitting
by_split j c h at =
    clause-splits j c h.formed h.shaped h.lacks ∙ cond-false _ _ _ (no_place (is_equation j) c at) ∙ split_again j c (first_split j c)

pub candidates_root : (j i : ℕ) (c : List Literal) (r : Result (List ℤ) StepFault) {f : Funds} → IsOfName j c → position (is_equation j) c ≡ Some i → Worked (root_at j c (Some i)) r → Charged (candidates j c) f r f
candidates_root j i c r {f} h at did = subst (λ w. Charged w f r f) (sym (by_equation j i c h at)) (free r did)

pub candidates_fault : (j : ℕ) (c : List Literal) (e : StepFault) (r : Result (List ℤ) StepFault) {f g : Funds} → IsOfName j c → position (is_equation j) c ≡ None → Charged (splitting j c) f (Err e) g → IsErrAnd r (λ x. x ≡ e)
    → Charged (candidates j c) f r g
candidates_fault j c e r {f} {g} h at did err = subst (λ w. Charged w f r g) (sym (by_split j c h at)) (then_err (splitting j c) (after_split j c) r err did)

pub candidates_parts : (j : ℕ) (c : List Literal) (o : Option (List (List Literal))) (rs ps : List (List Literal)) (r : Result (List ℤ) StepFault) {f g k : Funds} → IsOfName j c → position (is_equation j) c ≡ None
    → Charged (splitting j c) f (Ok o) g → o ≡ Some rs → ps ≡ rs → Charged (each (candidates j) ps []) g r k → Charged (candidates j c) f r k
candidates_parts j c o rs ps r {f} {g} {k} h at did is same rest =
    subst (λ w. Charged w f r k) (sym (by_split j c h at))
    (then_ok (splitting j c) (after_split j c) did (subst (λ z. Charged (after_split j c z) g r k) (sym is) (subst (λ z. Charged (each (candidates j) z []) g r k) same rest)))

pub candidates_bounds : (j : ℕ) (c : List Literal) (o : Option (List (List Literal))) (r : Result (List ℤ) StepFault) {f g : Funds} → IsOfName j c → position (is_equation j) c ≡ None
    → Charged (splitting j c) f (Ok o) g → o ≡ None → Worked (bounded j c) r → Charged (candidates j c) f r g
candidates_bounds j c o r {f} {g} h at did is rest =
    subst (λ w. Charged w f r g) (sym (by_split j c h at))
    (then_ok (splitting j c) (after_split j c) did (subst (λ z. Charged (after_split j c z) g r g) (sym is) (free r rest)))

-- ---- the parts of a clause are nearer to being without the name
-- above the measures of all the clauses
abbrev pub above : ℕ → List (List Literal) → ℕ
above j [] = 0
above j (c ∷ cs) = max (suc (measure j c)) (above j cs)

above-least : (j n : ℕ) (cs : List (List Literal)) → AllByRecursion (λ r. measure j r < n) cs → above j cs ≤ n
above-least j n [] h = omega arith
above-least j n (c ∷ cs) h = let a = h.0 in let b = above-least j n cs h.1 in omega (arith, a, b)

above-drop : (j i : ℕ) (cs : List (List Literal)) → above j (drop i cs) ≤ above j cs
above-drop j zero cs = omega arith
above-drop j (suc i) [] = omega arith
above-drop j (suc i) (c ∷ cs) = let r = above-drop j i cs in omega (arith, r)

pub below_above : (j i : ℕ) (cs ds : List (List Literal)) (c : List Literal) → drop i cs ≡ c ∷ ds → measure j c < above j cs
below_above j i cs ds c is =
    let first : measure j c < above j (drop i cs) = subst (λ z. measure j c < above j z) (sym is) (omega arith) in
    let all = above-drop j i cs in
    omega (arith, first, all)

pub record AreParts (j : ℕ) (c : List Literal) (rs : List (List Literal)) : Type 0 where
  pub names : All (IsOfName j) rs
  pub nearer : above j rs ≤ measure j c

parts_by : (j : ℕ) (c : List Literal) (rs : List (List Literal)) (o : Option Entry) → IsCase j c o → (split_at j c o).value ≡ Some rs → AreParts j c rs
unfolding next just
parts_by j c rs None s h = absurd (cc)
parts_by j c rs (Some e) s h =
    let same : (rule j c e).value ≡ rs = cc in
    subst (AreParts j c) same (record { names = to_names j (rule j c e).value s.on; nearer = above-least j (measure j c) (rule j c e).value s.nearer })

pub parts_of : (j : ℕ) (c : List Literal) (o : Option (List (List Literal))) (rs : List (List Literal)) {f g : Funds} → IsOfName j c → position (is_equation j) c ≡ None → Charged (splitting j c) f (Ok o) g → o ≡ Some rs
    → AreParts j c rs
unfolding splitting
parts_of j c o rs h at did is =
    parts_by j c rs (first_split j c) (case_of j c (record { inside = of_name j c h; none = no_place (is_equation j) c at })) (sym (charged_value did) ∙ is)

-- ---- the nearest is in the range
nearest_of_range : (v : ℤ) (vs : List ℤ) → InRange v → AllByRecursion InRange vs → InRange (nearest_of v vs)
nearest_of_range v [] h all = h
nearest_of_range v (u ∷ us) h all = nearest_of_range (nearer u v) us (by_test InRange (nat_lt (rank u) (rank v)) u v (λ _. all.0) (λ _. h)) all.1

nearest_in : (vs : List ℤ) → AllByRecursion InRange vs → InRange (nearest vs)
nearest_in [] h = omega arith
nearest_in (v ∷ vs) h = nearest_of_range v vs h.0 h.1

pub nearest_range : (vs : List ℤ) → All InRange vs → InRange (nearest vs)
nearest_range vs h = nearest_in vs (recursion_from_All InRange vs h)

-- numbers added to others
pub range_append : (us vs ws : List ℤ) → ws ≡ us ++ vs → All InRange us → All InRange vs → All InRange ws
range_append us vs ws is h k = subst (All InRange) (sym is) (All-append InRange us vs h k)

pub name_item : (j : ℕ) (cs : List (List Literal)) (i : ℕ) (c : List Literal) → All (IsOfName j) cs → i < length cs → c ≡ get_or cs i c → IsOfName j c
name_item j cs i c h lt is = subst (IsOfName j) (sym is) (h i c lt)
