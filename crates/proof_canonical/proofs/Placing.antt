-- The values that solve clauses, put into them one after another, leave the disjunction that is true.
use Rattle.std.proofs.Common.{◌≡◌, ℕ, zero, suc, ◌+◌, ℤ, pos, true, List, [], ◌∷◌, ◌++◌, length, Some, refl, sym, ◌∙◌, ap, subst, arith, append_assoc, append-nil}
use Rattle.std.specs.List.{AllByRecursion}
use Rattle.std.specs.List.Sorted.{IsStrictlySortedBy}
use Rattle.base_integers.specs.Gcd.{gcd}
use Rattle.base_budget.specs.Runs.{raw_stay}
use Rattle.base_budget.specs.Trace.{each, just, next, step}
use Rattle.clause_set.specs.declared.literal.Literal.{Literal}
use Rattle.clause_set.specs.declared.literal.Literal.TheVariants.{Eq, Geq, Div, NDiv}
use Rattle.clause_set.specs.Dnfs.{top}
use Rattle.clause_set.specs.Literals.{dnf_truth}
use Rattle.clause_set.specs.Primitive.{IsSingleWith, IsUnit}
use Rattle.clause_set.proofs.Canonical.{tidied-sorted}
use Rattle.elim_laws.specs.Whole.{names_out}
use Rattle.solve_laws.specs.Best.{IsBest}
use Rattle.solve_laws.specs.Solutions.{IsGiven, answered, chosen, names_from, solving, valued_clause, values_at, with_value}
use Rattle.solve_laws.proofs.Solving.{solving-best, with_value-spans, with_value-truth}
use Rattle.solve_laws.proofs.Spans.{IsFrom, IsIn, Spans, given-spans}
use Rattle.proof_tree.specs.Proves.{values_put}
use Rattle.solve_laws.proofs.Parts.{stay_parts}
use Rattle.solve_laws.proofs.Entries.{one_longer, put_at}
use Rattle.proof_canonical.proofs.Sorting.{AreSorted}
use Rattle.proof_canonical.proofs.Staying.{stay_both}

-- ---- clauses without names
no_names : (U : ℤ → Type 0) (j : ℕ) (ps : List (ℕ × ℤ)) → IsSingleWith U ps → AllByRecursion (λ p. IsFrom j j p.0) ps → ⊥
no_names U j [] s o = s
no_names U j (p ∷ ps) s o = omega (arith, o.0.0, o.0.1)

no_literal : (j : ℕ) (l : Literal) → IsIn (IsFrom j j) l → ⊥
no_literal j (Eq t) h = no_names (λ a. a ≡ pos 1) j t.pairs h.shaped h.on
no_literal j (Geq t) h = no_names IsUnit j t.pairs h.shaped h.on
no_literal j (Div d t) h = no_names (λ a. gcd a d ≡ pos 1) j t.pairs h.shaped h.on
no_literal j (NDiv d t) h = no_names (λ a. gcd a d ≡ pos 1) j t.pairs h.shaped h.on

-- in order, each once, they are none or the one without literals
one_clause : (j : ℕ) (d : List (List Literal)) (e : List ℤ) → Spans j j d → AreSorted d → dnf_truth d e ≡ true → d ≡ top
unfolding IsStrictlySortedBy
one_clause j [] e s o t = absurd (cc)
one_clause j ((l ∷ ls) ∷ d) e s o t = absurd (no_literal j l s.0.0)
one_clause j ([] ∷ []) e s o t = refl
one_clause j ([] ∷ (l ∷ ls) ∷ d) e s o t = absurd (no_literal j l s.1.0.0)
one_clause j ([] ∷ [] ∷ d) e s o t = absurd (let z = o.0.0 in cc)

-- ---- one value
put_value : (j : ℕ) (v : ℤ) (vs : List ℤ) (d : List (List Literal)) → (values_put j (v ∷ vs) d).value ≡ (values_put (suc j) vs (with_value j v d).value).value
unfolding with_value next just step
put_value j v vs d = refl

put_events : (j : ℕ) (v : ℤ) (vs : List ℤ) (d : List (List Literal))
    → (values_put j (v ∷ vs) d).events ≡ (each (valued_clause j v) d []).events ++ (values_put (suc j) vs (with_value j v d).value).events
unfolding with_value next just step
put_events j v vs d = refl

one_stays : (j : ℕ) (v : ℤ) (d : List (List Literal)) → raw_stay (with_value j v d).events ≡ true → raw_stay (each (valued_clause j v) d []).events ≡ true
unfolding with_value next step
one_stays j v d h = (stay_parts (each (valued_clause j v) d []).events _ h).0

one_sorted : (j : ℕ) (v : ℤ) (d : List (List Literal)) → AreSorted (with_value j v d).value
unfolding with_value next just
one_sorted j v d = tidied-sorted _

-- ---- all values
-- the values after `pre`, put into d: their raw numbers were computed before, and a disjunction without names is left that
-- is true where d is at all values
record ArePut (n k j : ℕ) (d : List (List Literal)) (pre : List ℤ) : Type 0 where
  values : List ℤ
  value : (values_at k j d pre).value ≡ pre ++ values
  stay : raw_stay (values_at k j d pre).events ≡ true → raw_stay (values_put j values d).events ≡ true
  spans : Spans n n (values_put j values d).value
  sorted : AreSorted (values_put j values d).value
  truth : dnf_truth (values_put j values d).value (pre ++ values) ≡ dnf_truth d (pre ++ values)

all_put : (n k : ℕ) (d : List (List Literal)) (pre : List ℤ) → length pre + k ≡ n → Spans (length pre) n d → AreSorted d → ArePut n k (length pre) d pre
unfolding next just step
all_put n zero d pre sum s o = record {
  values = [];
  value = sym (append-nil pre);
  stay = λ h. refl;
  spans = subst (λ (i : ℕ). Spans i n d) (let e : length pre ≡ n = omega (arith, sum) in e) s;
  sorted = o;
  truth = refl;
}
all_put n (suc k) d pre sum s o =
    let j : ℕ = length pre in
    let left : List (List Literal) = (names_from k (suc j) d).value in
    let v : ℤ = (chosen j left).value in
    let r : List (List Literal) = (with_value j v d).value in
    let long : length (pre ++ v ∷ []) ≡ suc j = one_longer pre v in
    let later : ArePut n k (suc j) r (pre ++ v ∷ []) =
    subst (λ (i : ℕ). ArePut n k i r (pre ++ v ∷ [])) long
    (all_put n k r (pre ++ v ∷ []) (omega (arith, sum, long)) (subst (λ (i : ℕ). Spans i n r) (sym long) (with_value-spans j n v d s)) (one_sorted j v d)) in
    let whole : (pre ++ v ∷ []) ++ later.values ≡ pre ++ v ∷ later.values = append_assoc pre (v ∷ []) later.values in
    let last : (values_put j (v ∷ later.values) d).value ≡ (values_put (suc j) later.values r).value = put_value j v later.values d in
    record {
      values = v ∷ later.values;
      value = later.value ∙ whole;
      stay = λ h.
          let out = stay_parts (names_from k (suc j) d).events _ h in
          let choice = stay_parts (chosen j left).events _ out.1 in
          let putting = stay_parts (with_value j v d).events _ choice.1 in
          ap raw_stay (put_events j v later.values d)
          ∙ stay_both (each (valued_clause j v) d []).events (values_put (suc j) later.values r).events (one_stays j v d putting.0) (later.stay putting.1);
      spans = subst (Spans n n) (sym last) later.spans;
      sorted = subst AreSorted (sym last) later.sorted;
      truth =
          ap (λ z. dnf_truth z (pre ++ v ∷ later.values)) last
          ∙ ap (dnf_truth (values_put (suc j) later.values r).value) (sym whole) ∙ later.truth ∙ ap (dnf_truth r) whole
          ∙ with_value-truth j n v d (pre ++ v ∷ later.values) s ∙ ap (dnf_truth d) (put_at pre later.values v v);
    }

-- the values of a solution leave what is true, and their raw numbers stay where those of solving do
pub record IsSolution (vs : List ℤ) (d : List (List Literal)) : Type 0 where
  pub left : (values_put 0 vs d).value ≡ top
  pub stay : raw_stay (values_put 0 vs d).events ≡ true

pub solution_put : (n : ℕ) (d : List (List Literal)) (vs : List ℤ) → IsGiven n d → AreSorted d → (solving n d).value ≡ Some vs → raw_stay (solving n d).events ≡ true → IsSolution vs d
unfolding solving next just
solution_put n d vs given o e h = by (names_out n d).value (solving-best n d vs given e) e (stay_parts (names_out n d).events _ h).1
  where
    by : (left : List (List Literal)) → IsBest (dnf_truth d) n vs → (answered n d left).value ≡ Some vs → raw_stay (answered n d left).events ≡ true → IsSolution vs d
    by [] best e h = absurd (cc)
    by (c ∷ cs) best e h =
        let p = all_put n n d [] (omega arith) (given-spans n d given) o in
        let found : (values_at n 0 d []).value ≡ vs = cc in
        let is : p.values ≡ vs = sym p.value ∙ found in
        let satisfied : dnf_truth d p.values ≡ true = ap (dnf_truth d) is ∙ best.satisfies in
        subst (λ (z : List ℤ). IsSolution z d) is (record {
          left = one_clause n (values_put 0 p.values d).value p.values p.spans p.sorted (p.truth ∙ satisfied);
          stay = p.stay (stay_parts (values_at n 0 d []).events [] h).0;
        })
