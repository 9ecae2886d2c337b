-- The values of a solution whose numbers stay in the range are in the range.
use Rattle.std.proofs.Common.{◌≡◌, ℕ, zero, suc, ◌+◌, ◌<◌, ◌≤◌, ℤ, pos, unsigned_abs, true, List, [], ◌∷◌, ◌++◌, length, Some, refl, sym, ◌∙◌, ap, subst, arith, append_assoc, append-nil, inl, inr, ◌⊎◌}
use Rattle.std.specs.List.{AllByRecursion}
use Rattle.std.proofs.lemmas.Bool.{cases_lt}
use Rattle.base_integers.specs.Entry.{entry}
use Rattle.linear_term.specs.Range.{InRange}
use Rattle.base_budget.specs.Runs.{raw_stay}
use Rattle.base_budget.specs.Trace.{just, step, next}
use Rattle.clause_set.specs.declared.literal.Literal.{Literal}
use Rattle.clause_set.specs.Literals.{dnf_truth}
use Rattle.elim_laws.specs.Whole.{names_out}
use Rattle.solve_laws.specs.Best.{IsBest, IsNearer}
use Rattle.solve_laws.specs.Solutions.{IsGiven, answered, chosen, names_from, solving, values_at, with_value}
use Rattle.solve_laws.proofs.Solving.{solving-best, with_value-spans, with_value-truth}
use Rattle.solve_laws.proofs.Spans.{Spans, given-spans}
use Rattle.solve_laws.proofs.Parts.{stay_parts}
use Rattle.solve_laws.proofs.Entries.{Misses, entry_at, missed_truth, one_longer, put_at, same_length, take_front}
use Rattle.solve_laws.proofs.Puts.{value_put}

values_more : (pre : List ℤ) (v : ℤ) → AllByRecursion InRange pre → InRange v → AllByRecursion InRange (pre ++ v ∷ [])
values_more [] v a h = (h, tt)
values_more (x ∷ pre) v a h = (a.0, values_more pre v a.1 h)

-- the values stand after those that were there
values_behind : (k j : ℕ) (d : List (List Literal)) (pre : List ℤ) → (rest : List ℤ) × ((values_at k j d pre).value ≡ pre ++ rest)
unfolding next just step
values_behind zero j d pre = ([], sym (append-nil pre))
values_behind (suc k) j d pre =
    let v : ℤ = (chosen j (names_from k (suc j) d).value).value in
    let r = values_behind k (suc j) (with_value j v d).value (pre ++ v ∷ []) in
    (v ∷ r.0, r.1 ∙ append_assoc pre (v ∷ []) r.0)

-- a best value of a name that the clauses do not speak of is 0
missed_in : (n : ℕ) (d0 d : List (List Literal)) (pre rest : List ℤ) (v : ℤ) → IsBest (dnf_truth d0) n (pre ++ v ∷ rest) → length pre < n → ((tail : List ℤ) → dnf_truth d (pre ++ tail) ≡ dnf_truth d0 (pre ++ tail))
    → AllByRecursion (AllByRecursion (Misses (length pre))) d → InRange v
missed_in n d0 d pre rest v best lt agree misses = by (cases_lt 0 (unsigned_abs v))
  where
    other : List ℤ
    other = pre ++ pos 0 ∷ rest

    true_there : dnf_truth d0 (pre ++ pos 0 ∷ rest) ≡ true
    true_there =
        sym (agree (pos 0 ∷ rest)) ∙ ap (dnf_truth d) (sym (put_at pre rest v (pos 0))) ∙ missed_truth (length pre) (pos 0) (pre ++ v ∷ rest) d misses
        ∙ agree (v ∷ rest) ∙ best.satisfies

    not_nearer : ¬ (IsNearer (pos 0) v)
    not_nearer =
        subst (λ (z : ℤ). ¬ (IsNearer (pos 0) z)) (entry_at pre rest v)
        (subst (λ (z : ℤ). ¬ (IsNearer z (entry (pre ++ v ∷ rest) (length pre)))) (entry_at pre rest (pos 0))
        (best.best (pre ++ pos 0 ∷ rest) (same_length pre rest (pos 0) v ∙ best.names) true_there (length pre) lt (take_front pre (pos 0 ∷ rest) ∙ sym (take_front pre (v ∷ rest)))))

    by : (0 < unsigned_abs v) ⊎ (unsigned_abs v ≤ 0) → InRange v
    by (inl more) = absurd (not_nearer (inl more))
    by (inr none) = omega (arith, none)

values_in : (n : ℕ) (d0 : List (List Literal)) (vs : List ℤ) → IsBest (dnf_truth d0) n vs → (k : ℕ) (d : List (List Literal)) (pre : List ℤ) → length pre + k ≡ n → Spans (length pre) n d
    → ((tail : List ℤ) → dnf_truth d (pre ++ tail) ≡ dnf_truth d0 (pre ++ tail)) → AllByRecursion InRange pre → (values_at k (length pre) d pre).value ≡ vs → raw_stay (values_at k (length pre) d pre).events ≡ true → AllByRecursion InRange vs
unfolding next just step
values_in n d0 vs best zero d pre sum s agree a e h = subst (AllByRecursion InRange) e a
values_in n d0 vs best (suc k) d pre sum s agree a e h =
    let j : ℕ = length pre in
    let left : List (List Literal) = (names_from k (suc j) d).value in
    let v : ℤ = (chosen j left).value in
    let r : List (List Literal) = (with_value j v d).value in
    let later = values_behind k (suc j) r (pre ++ v ∷ []) in
    let vs_is : vs ≡ pre ++ v ∷ later.0 = sym e ∙ later.1 ∙ append_assoc pre (v ∷ []) later.0 in
    let out = stay_parts (names_from k (suc j) d).events _ h in
    let choice = stay_parts (chosen j left).events _ out.1 in
    let putting = stay_parts (with_value j v d).events _ choice.1 in
    let in_range : InRange v = by_case (value_put j v d putting.0) (λ m. missed_in n d0 d pre later.0 v (subst (IsBest (dnf_truth d0) n) vs_is best) (omega (arith, sum)) agree m) in
    let long : length (pre ++ v ∷ []) ≡ suc j = one_longer pre v in
    values_in n d0 vs best k r (pre ++ v ∷ []) (omega (arith, sum, long)) (subst (λ (i : ℕ). Spans i n r) (sym long) (with_value-spans j n v d s))
    (λ tail. ap (dnf_truth r) (append_assoc pre (v ∷ []) tail) ∙ with_value-truth j n v d (pre ++ v ∷ tail) s ∙ ap (dnf_truth d) (put_at pre tail v v) ∙ agree (v ∷ tail) ∙ ap (dnf_truth d0) (sym (append_assoc pre (v ∷ []) tail)))
    (values_more pre v a in_range)
    (subst (λ (i : ℕ). (values_at k i r (pre ++ v ∷ [])).value ≡ vs) (sym long) e)
    (subst (λ (i : ℕ). raw_stay (values_at k i r (pre ++ v ∷ [])).events ≡ true) (sym long) putting.1)
  where
    by_case : {A B : Type 0} → A ⊎ B → (B → A) → A
    by_case (inl x) f = x
    by_case (inr y) f = f y

-- the values that solve d
pub solution_in : (n : ℕ) (d : List (List Literal)) (vs : List ℤ) → IsGiven n d → (solving n d).value ≡ Some vs → raw_stay (solving n d).events ≡ true → AllByRecursion InRange vs
unfolding solving next just
solution_in n d vs given e h = by (names_out n d).value (solving-best n d vs given e) e (stay_parts (names_out n d).events _ h).1
  where
    by : (left : List (List Literal)) → IsBest (dnf_truth d) n vs → (answered n d left).value ≡ Some vs → raw_stay (answered n d left).events ≡ true → AllByRecursion InRange vs
    by [] best e h = absurd (cc)
    by (c ∷ cs) best e h =
        let is : (values_at n 0 d []).value ≡ vs = cc in
        values_in n d vs best n d [] (omega arith) (given-spans n d given) (λ tail. refl) tt is (stay_parts (values_at n 0 d []).events [] h).0
