-- A name out of a clause, row by row.
use Rattle.std.proofs.Common.{◌≡◌, ◌<◌, ◌≤◌, ◌+◌, ◌*◌, ℕ, zero, suc, true, cond, List, [], ◌∷◌, ◌++◌, map, drop, Option, Some, None, Result, Ok, Err, IsErrAnd, refl, sym, ◌∙◌, ap, subst, arith}
use Rattle.std.specs.Prelude.{count_by}
use Rattle.std.specs.List.{AllByRecursion, list_any}
use Rattle.std.proofs.lemmas.List.{map-append}
use Rattle.std.proofs.lemmas.List.Elements.{recursion_from_All}
use Rattle.linear_term.proofs.Totals.{by_test}
use Rattle.base_budget.specs.declared.fault.StepFault.{StepFault}
use Rattle.base_budget.specs.declared.fault.StepFault.TheVariants.{Memory}
use Rattle.base_budget.specs.declared.log.Entry.{Entry}
use Rattle.base_budget.specs.declared.log.ElimLog.{ElimLog}
use Rattle.base_budget.specs.Trace.{Funds, Mark, entry, At, at, Traced, just, next, note, each}
use Rattle.base_budget.specs.Work.{ChargedAt, Charged, marks_of}
use Rattle.base_budget.proofs.Charging.{then_ok, then_err, then_just, no_memory, unnoted, charged_value}
use Rattle.base_budget.proofs.Tracing.{next-same, next-just, next-assoc}
use Rattle.clause_set.specs.declared.literal.Literal.{Literal}
use Rattle.clause_set.specs.Names.{has, is_equation, is_divisibility, is_indivisibility}
use Rattle.clause_set.specs.Rules.{rule, first_rule, unused, measure}
use Rattle.elim_laws.specs.Elimination.{by_first, taken_out}
use Rattle.elim_laws.proofs.First.{first_is_rule, applies_has}
use Rattle.elim_laws.proofs.Taking.{taken_out-rule}
use Rattle.omega_elim.specs.Projection.{with_entry}
use Rattle.quant_elim.specs.First.{rule_with_entry, first_row, farthest}

-- ---- the first row
pub row_is : (x : ℕ) (c : List Literal) (e : Entry) → first_rule x c ≡ Some e → first_row x c ≡ next (with_entry e (rule x c e)) (λ r. just (Some r))
unfolding first_row
row_is x c e h = ap (rule_with_entry x c) h ∙ sym (next-assoc (rule x c e) _ _ ∙ next-same (rule x c e) _ _ (next-just (e, (rule x c e).value) (λ r. just (Some r))))

pub row_ok : (x : ℕ) (c : List Literal) (e : Entry) (r : Entry × List (List Literal)) {f g : Funds} → first_rule x c ≡ Some e → Charged (with_entry e (rule x c e)) f (Ok r) g → Charged (first_row x c) f (Ok (Some r)) g
row_ok x c e r {f} {g} h did = subst (λ w. Charged w f (Ok (Some r)) g) (sym (row_is x c e h)) (then_ok (with_entry e (rule x c e)) _ did (then_just (Some r) (Some r) refl))

pub row_err : (x : ℕ) (c : List Literal) (e : Entry) (r : Result (Option (Entry × List (List Literal))) StepFault) {f g : Funds} {s : StepFault} → first_rule x c ≡ Some e → IsErrAnd r (λ z. z ≡ s) → Charged (with_entry e (rule x c e)) f (Err s) g
    → Charged (first_row x c) f r g
row_err x c e r {f} {g} h is did = subst (λ w. Charged w f r g) (sym (row_is x c e h)) (then_err (with_entry e (rule x c e)) _ r is did)

pub row_without : (x : ℕ) (c : List Literal) {f : Funds} → first_rule x c ≡ None → Charged (first_row x c) f (Ok None) f
unfolding first_row
row_without x c {f} h = subst (λ o. Charged (rule_with_entry x c o) f (Ok None) f) (sym h) (then_just None None refl)

-- what comes after the first row
abbrev pub after_row : ℕ → List Literal → Option (Entry × List (List Literal)) → Traced (List (List Literal))
after_row x c None = unused c
after_row x c (Some r) = next (note (entry (r.0))) (λ _. each (taken_out x) (r.1) [])

pub taken_row : (x : ℕ) (c : List Literal) → taken_out x c ≡ next (first_row x c) (after_row x c)
unfolding first_row
taken_row x c = taken_out-rule x c ∙ by (first_rule x c)
  where
    by : (o : Option Entry) → by_first (taken_out x) x c o ≡ next (rule_with_entry x c o) (after_row x c)
    by None = sym (next-just None (after_row x c))
    by (Some e) = sym (next-assoc (rule x c e) _ (after_row x c) ∙ next-same (rule x c e) _ _ (next-just (Some (e, (rule x c e).value)) (after_row x c)))

pub row_fault : (x : ℕ) (c : List Literal) (ms : List Mark) {f g : Funds} {e : StepFault} (r : Result (List (List Literal)) StepFault) → Charged (first_row x c) f (Err e) g → IsErrAnd r (λ z. z ≡ e)
    → ChargedAt (taken_out x c) (at f ms) r (at g ms)
row_fault x c ms {f} {g} r h is = subst (λ w. ChargedAt w (at f ms) r (at g ms)) (sym (taken_row x c)) (then_err (first_row x c) (after_row x c) r is (unnoted ms h))

pub row_none : (x : ℕ) (c : List Literal) (ms : List Mark) {f g h : Funds} (o : Option (Entry × List (List Literal))) (r : Result (List (List Literal)) StepFault) → Charged (first_row x c) f (Ok o) g → o ≡ None → Charged (unused c) g r h
    → ChargedAt (taken_out x c) (at f ms) r (at h ms)
row_none x c ms {f} {g} {h} o r k is l =
    subst (λ w. ChargedAt w (at f ms) r (at h ms)) (sym (taken_row x c))
    (then_ok (first_row x c) (after_row x c) (unnoted ms k) (subst (λ z. ChargedAt (after_row x c z) (at g ms) r (at h ms)) (sym is) (unnoted ms l)))

pub row_some : (x : ℕ) (c : List Literal) (ms : List Mark) {f g : Funds} {b : At} (o : Option (Entry × List (List Literal))) (e : Entry) (rs : List (List Literal)) (r : Result (List (List Literal)) StepFault)
    → Charged (first_row x c) f (Ok o) g → o ≡ Some (e, rs) → ChargedAt (next (note (entry e)) (λ _. each (taken_out x) rs [])) (at g ms) r b
    → ChargedAt (taken_out x c) (at f ms) r b
row_some x c ms {f} {g} {b} o e rs r k is h =
    subst (λ w. ChargedAt w (at f ms) r b) (sym (taken_row x c))
    (then_ok (first_row x c) (after_row x c) (unnoted ms k) (subst (λ z. ChargedAt (after_row x c z) (at g ms) r b) (sym is) h))

-- running out of memory after a row
pub row_memory : (x : ℕ) (c : List Literal) (ms ns : List Mark) {f g : Funds} (o : Option (Entry × List (List Literal))) (e : Entry) (rs : List (List Literal)) (r : Result (List (List Literal)) StepFault)
    → Charged (first_row x c) f (Ok o) g → o ≡ Some (e, rs) → ns ≡ ms → IsErrAnd r (λ z. z ≡ Memory) → ChargedAt (taken_out x c) (at f ms) r (at g ns)
row_memory x c ms ns {f} {g} o e rs r k is same h =
    subst (λ z. ChargedAt (taken_out x c) (at f ms) r (at g z)) (sym same) (row_some x c ms o e rs r k is (no_memory r h))

pub noted : (log : ElimLog) (es : List Entry) (e : Entry) → es ≡ log.entries ++ e ∷ [] → marks_of (record { entries = es }) ≡ marks_of log ++ entry e ∷ []
noted log es e is = ap (map entry) is ∙ map-append entry log.entries (e ∷ [])

-- ---- the measure
measure_positive : (x : ℕ) (c : List Literal) → list_any (has x) c ≡ true → 0 < measure x c
unfolding measure
measure_positive x c h =
    subst (λ b. 0 < cond b (cond (list_any (is_equation x) c) 1 (2 + 2 * count_by (is_indivisibility x) c + count_by (is_divisibility x) c)) 0) (sym h)
    (by_test (λ n. 0 < n) (list_any (is_equation x) c) 1 (2 + 2 * count_by (is_indivisibility x) c + count_by (is_divisibility x) c) (λ _. omega arith) (λ _. omega arith))

farthest-less : (x n : ℕ) (cs : List (List Literal)) → 0 < n → AllByRecursion (λ r. measure x r < n) cs → farthest x cs < n
farthest-less x n [] p h = p
farthest-less x n (c ∷ cs) p h = let a = h.0 in let b = farthest-less x n cs p h.1 in omega (arith, a, b)

row-value : (x : ℕ) (c : List Literal) (e : Entry) (rs : List (List Literal)) → (first_row x c).value ≡ Some (e, rs) → farthest x rs < measure x c
unfolding first_row next just
row-value x c e rs h = by (first_rule x c) refl h
  where
    by : (o : Option Entry) → first_rule x c ≡ o → (rule_with_entry x c o).value ≡ Some (e, rs) → farthest x rs < measure x c
    by None is s = absurd (cc)
    by (Some d) is s =
        let p : ◌≡◌ {A = Entry × List (List Literal)} (d, (rule x c d).value) (e, rs) = cc in
        let k = first_is_rule x c d is in
        subst (λ z. farthest x z < measure x c) (ap (λ (z : Entry × List (List Literal)). z.1) p)
        (farthest-less x (measure x c) (rule x c d).value (measure_positive x c (applies_has x c d k.applies)) (recursion_from_All _ _ k.nearer))

-- what a row leaves is nearer
pub row_nearer : (x : ℕ) (c : List Literal) {f g : Funds} (o : Option (Entry × List (List Literal))) (e : Entry) (rs : List (List Literal)) → Charged (first_row x c) f (Ok o) g → o ≡ Some (e, rs) → farthest x rs < measure x c
row_nearer x c o e rs h is = row-value x c e rs (sym (charged_value h) ∙ is)

-- an item is no farther than the farthest
pub farthest-item : (x : ℕ) (cs ds : List (List Literal)) (c : List Literal) → cs ≡ c ∷ ds → measure x c ≤ farthest x cs
farthest-item x cs ds c is = subst (λ z. measure x c ≤ farthest x z) (sym is) (omega arith)

pub farthest-drop : (x i : ℕ) (cs : List (List Literal)) → farthest x (drop i cs) ≤ farthest x cs
farthest-drop x zero cs = omega arith
farthest-drop x (suc i) [] = omega arith
farthest-drop x (suc i) (c ∷ cs) = let r = farthest-drop x i cs in omega (arith, r)
