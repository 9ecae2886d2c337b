-- The names of a disjunction whose values are found one by one.
use Rattle.std.proofs.Common.{◌≡◌, ◌<◌, ◌≤◌, ◌+◌, ◌-◌, ℕ, zero, suc, ℤ, List, [], ◌∷◌, ◌++◌, Result, Ok, refl, sym, ◌∙◌, ap, subst, arith, map}
use Rattle.std.specs.Prelude.{All, ◌⊎◌}
use Rattle.std.specs.List.{AllByRecursion}
use Rattle.std.proofs.lemmas.Bool.{cases_lt}
use Rattle.std.proofs.lemmas.List.Elements.{recursion_from_All}
use mathlib.Core.Logic.{inl, inr}
use Rattle.base_budget.specs.declared.fault.StepFault.{StepFault}
use Rattle.base_budget.specs.declared.log.Entry.{Entry}
use Rattle.base_budget.specs.Trace.{Funds, Traced, just, step, next, note, new_log, at, entry}
use Rattle.base_budget.specs.Work.{ChargedAt}
use Rattle.base_budget.specs.Followed.{Followed}
use Rattle.elim_laws.specs.Logs.{entries_of}
use Rattle.parameter_solver.proofs.Logging.{follow_entries, entries_added}
use Rattle.base_budget.proofs.Following.{followed_value}
use Rattle.base_budget.proofs.Tracing.{next-same, next-just, next-assoc}
use Rattle.clause_set.specs.declared.literal.Literal.{Literal}
use Rattle.clause_set.specs.Clause.{IsClause}
use Rattle.clause_set.specs.Formed.{IsFormed}
use Rattle.clause_set.specs.Primitive.{IsShaped}
use Rattle.clause_set.specs.Literals.{term_of}
use Rattle.clause_set.proofs.Formed.{clause-is_formed}
use Rattle.clause_set.proofs.Shapes.{clause-shaped}
use Rattle.elim_rule_laws.proofs.EquationLists.{kept-weaker}
use Rattle.elim_laws.specs.Elimination.{exists_name}
use Rattle.elim_laws.specs.Whole.{AreOver, Lacks, names_out}
use Rattle.solve_laws.specs.Solutions.{IsGiven, names_from, values_at, chosen, with_value}
use Rattle.solve_laws.proofs.Spans.{IsIn, IsName, IsFrom, Spans, all_lack, all_from_lacks, spans-formed, spans-shaped}
use Rattle.solve_laws.proofs.Outs.{exists_name-spans}
use Rattle.solve_laws.proofs.Solving.{with_value-spans}
use Rattle.parameter_solver.specs.Names.{IsOfName, IsOfNames}
use Rattle.parameter_solver.specs.Logs.{in_log, value_step}
use Rattle.parameter_solver.proofs.Parting.{to_names}

-- ---- names from j on and below n
to_span : (j n : ℕ) (d : List (List Literal)) → IsOfNames j n d → Spans j n d
to_span j n d h = all_from_lacks (IsFrom j n) d h.formed h.shaped (λ y. low y (cases_lt y j))
  where
    high : (y : ℕ) → j ≤ y → (y < n) ⊎ (n ≤ y) → IsFrom j n y ⊎ AllByRecursion (Lacks y) d
    high y le (inl l) = inl (le, l)
    high y le (inr l) = inr (h.over y l)

    low : (y : ℕ) → (y < j) ⊎ (j ≤ y) → IsFrom j n y ⊎ AllByRecursion (Lacks y) d
    low y (inl l) = inr (h.lacks y l)
    low y (inr l) = high y l (cases_lt y n)

from_span : (j n : ℕ) (d : List (List Literal)) → Spans j n d → IsOfNames j n d
from_span j n d s = record {
  formed = spans-formed (IsFrom j n) d s;
  shaped = spans-shaped (IsFrom j n) d s;
  lacks = λ y l. all_lack (IsFrom j n) y d (λ k. absurd (omega (arith, l, k.0))) s;
  over = λ y l. all_lack (IsFrom j n) y d (λ k. absurd (omega (arith, l, k.1))) s;
}

-- the k names from j on go out
out_spans : (k j i : ℕ) (d : List (List Literal)) → i ≤ j → Spans i (j + k) d → Spans i j (names_from k j d).value
unfolding next just
out_spans zero j i d le s = subst (λ (n : ℕ). Spans i n d) (omega arith) s
out_spans (suc k) j i d le s =
    let more : j + suc k ≡ suc (j + k) = omega arith in
    out_spans k j i (exists_name (j + k) d).value le (exists_name-spans i (j + k) d (omega arith) (subst (λ (n : ℕ). Spans i n d) more s))

the_name : (j : ℕ) (l : Literal) → IsIn (IsFrom j (suc j)) l → IsIn (IsName j) l
the_name j l h = record { formed = h.formed; shaped = h.shaped; on = kept-weaker (λ p. IsFrom j (suc j) p.0) (λ p. IsName j p.0) (λ p k. let e : p.0 ≡ j = omega (arith, k.0, k.1) in e) (term_of l).pairs h.on }

-- what is left speaks of j alone
pub left_names : (j k : ℕ) (d left : List (List Literal)) → IsOfNames j (j + k + 1) d → left ≡ (names_from k (suc j) d).value → All (IsOfName j) left
left_names j k d left h is =
    let more : j + k + 1 ≡ suc j + k = omega arith in
    let s = out_spans k (suc j) j d (omega arith) (subst (λ (n : ℕ). Spans j n d) more (to_span j (j + k + 1) d h)) in
    subst (All (IsOfName j)) (sym is)
    (to_names j (names_from k (suc j) d).value (kept-weaker (AllByRecursion (IsIn (IsFrom j (suc j)))) (AllByRecursion (IsIn (IsName j))) (λ c f. kept-weaker (IsIn (IsFrom j (suc j))) (IsIn (IsName j)) (the_name j) c f) (names_from k (suc j) d).value s))

-- what a value leaves speaks of the names after
pub step_names : (j k n : ℕ) (d r : List (List Literal)) (v : ℤ) {a b : Funds} {s t : List Entry} → IsOfNames j n d → Followed in_log (value_step k j d) a s (Ok (v, r)) b t → IsOfNames (j + 1) n r
unfolding next just step
step_names j k n d r v h did =
    let u : ℤ = (chosen j (names_from k (suc j) d).value).value in
    let is : r ≡ (with_value j u d).value = ap (λ (z : ℤ × List (List Literal)). z.1) (followed_value did) in
    let more : suc j ≡ j + 1 = omega arith in
    subst (λ (i : ℕ). IsOfNames i n r) more (subst (IsOfNames (suc j) n) (sym is) (from_span (suc j) n (with_value j u d).value (with_value-spans j n u d (to_span j n d h))))

-- ---- a given disjunction
pub given_names : (n : ℕ) (ds d : List (List Literal)) → ds ≡ d → All IsClause ds → AreOver n d → IsOfNames 0 n d
given_names n ds d same h over =
    let cs : AllByRecursion IsClause d = subst (AllByRecursion IsClause) same (recursion_from_All IsClause ds h) in
    record {
      formed = kept-weaker IsClause (All IsFormed) clause-is_formed d cs;
      shaped = kept-weaker IsClause (All IsShaped) clause-shaped d cs;
      lacks = λ y l. absurd (omega (arith, l));
      over = over;
    }

pub given : (n : ℕ) (d : List (List Literal)) → IsOfNames 0 n d → IsGiven n d
given n d h = record { formed = h.formed; shaped = h.shaped; over = h.over }

-- ---- the work, step by step
pub names_next : (n j : ℕ) (d : List (List Literal)) → 0 < n → names_from n j d ≡ next (exists_name (j + (n - 1)) d) (λ r. names_from (n - 1) j r)
names_next zero j d lt = absurd (omega arith)
names_next (suc n) j d lt = let one : n ≡ suc n - 1 = omega arith in ap (λ (m : ℕ). next (exists_name (j + m) d) (λ r. names_from m j r)) one

all_names : (n : ℕ) (d : List (List Literal)) → names_from n 0 d ≡ names_out n d
all_names zero d = refl
all_names (suc n) d =
    let same : 0 + n ≡ n = omega arith in
    ap (λ (m : ℕ). next (exists_name m d) (λ r. names_from n 0 r)) same ∙ next-same (exists_name n d) (λ r. names_from n 0 r) (names_out n) (all_names n (exists_name n d).value)

value_next : (k j : ℕ) (d : List (List Literal)) (vs : List ℤ) → values_at (suc k) j d vs ≡ next (value_step k j d) (λ p. values_at k (suc j) p.1 (vs ++ p.0 ∷ []))
value_next k j d vs =
    let left : List (List Literal) = (names_from k (suc j) d).value in
    let v : ℤ = (chosen j left).value in
    let f : ℤ × List (List Literal) → Traced (List ℤ) = λ p. values_at k (suc j) p.1 (vs ++ p.0 ∷ []) in
    sym (next-assoc (note new_log) _ f
    ∙ next-same (note new_log) _ _ (next-assoc (names_from k (suc j) d) _ f
    ∙ next-same (names_from k (suc j) d) _ _ (next-assoc (chosen j left) _ f
    ∙ next-same (chosen j left) _ _ (next-assoc (with_value j v d) _ f
    ∙ next-same (with_value j v d) _ _ (next-just (v, (with_value j v d).value) f)))))

pub values_next : (n j : ℕ) (d : List (List Literal)) (vs : List ℤ) → j < n
    → values_at (n - j) j d vs ≡ next (value_step (n - 1 - j) j d) (λ p. values_at (n - (j + 1)) (j + 1) p.1 (vs ++ p.0 ∷ []))
values_next n j d vs lt =
    let first : n - j ≡ suc (n - 1 - j) = omega arith in
    let rest : n - 1 - j ≡ n - (j + 1) = omega arith in
    let one : suc j ≡ j + 1 = omega arith in
    ap (λ (m : ℕ). values_at m j d vs) first ∙ value_next (n - 1 - j) j d vs
    ∙ ap (λ (m : ℕ). next (value_step (n - 1 - j) j d) (λ p. values_at m (suc j) p.1 (vs ++ p.0 ∷ []))) rest
    ∙ ap (λ (m : ℕ). next (value_step (n - 1 - j) j d) (λ p. values_at (n - (j + 1)) m p.1 (vs ++ p.0 ∷ []))) one

pub from_next : (k j : ℕ) (d : List (List Literal)) (r : Result (List (List Literal)) StepFault) (es ds : List Entry) {a b : Funds} → ChargedAt (names_from k (j + 1) d) (at a (map entry es)) r (at b (map entry ds))
    → Followed in_log (names_from k (suc j) d) a es r b ds
from_next k j d r es ds {a} {b} h =
    let one : j + 1 ≡ suc j = omega arith in subst (λ (i : ℕ). Followed in_log (names_from k i d) a es r b ds) one (follow_entries (names_from k (j + 1) d) es ds r h)

pub all_out : (n : ℕ) (d : List (List Literal)) (r : Result (List (List Literal)) StepFault) (es ds : List Entry) {a b : Funds} → ChargedAt (names_from n 0 d) (at a (map entry es)) r (at b (map entry ds)) → Followed in_log (names_out n d) a es r b ds
all_out n d r es ds {a} {b} h = subst (λ w. Followed in_log w a es r b ds) (all_names n d) (follow_entries (names_from n 0 d) es ds r h)

pub all_entries : (n : ℕ) (d left : List (List Literal)) (es ds : List Entry) {a b : Funds} → ChargedAt (names_from n 0 d) (at a (map entry es)) (Ok left) (at b (map entry ds)) → ds ≡ es ++ entries_of (names_out n d).events
all_entries n d left es ds h = entries_added (names_from n 0 d) es ds left h ∙ ap (λ w. es ++ entries_of w.events) (all_names n d)
