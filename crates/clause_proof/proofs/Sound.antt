-- Each line keeps refutations, so a clause proof shows its formula.
use Rattle.std.proofs.Common.{◌≡◌, ℕ, suc, ◌+◌, ◌<◌, ℤ, pos, negsuc, ◌≤ℤ◌, Bool, true, false, not, ◌&&◌, List, [], ◌∷◌, ◌++◌, length, map, Option, Some, None, cond, refl, sym, ap, ◌∙◌, subst, arith}
use Rattle.std.specs.List.{AllByRecursion, slice_get}
use Rattle.std.proofs.lemmas.Bool.{and_parts}
use Rattle.std.proofs.lemmas.Int.{ints}
use Rattle.linear_term.specs.Linear.{Linear, value_of, name, number, IsOver}
use Rattle.linear_term.proofs.Totals.{value_of-combination, value_of-number, value_of-name, by_test}
use Rattle.form_typed.specs.Truth.{Meaning}
use Rattle.formula.specs.Form.{Form, FormTruth, values_of}
use Rattle.formula.proofs.Stability.{form_stable}
use Rattle.formula.proofs.Extending.{extends_refl, extends_more, values_extend, value_extends, entry_last, over_more, over_number}
use Rattle.sequent.proofs.Members.{all_at, all_same}
use Rattle.clause_proof.specs.declared.line.Application.{Application}
use Rattle.clause_proof.specs.declared.line.Literal.{Literal}
use Rattle.clause_proof.specs.declared.line.Factor.{Factor}
use Rattle.clause_proof.specs.declared.line.Line.{Line}
use Rattle.clause_proof.specs.declared.line.Line.TheVariants as line
use Rattle.clause_proof.specs.Clauses.{Definition, always, at_least_zero, is_zero, predicate, closure, IsApplicationTrue, State, ClauseTruth, IsKeptTrue, AreTrue, AreClausesRefuted, IsDefinitionOver, IsFormedState}
use Rattle.clause_proof.specs.Atoms.{Signed, plain, less_one, opposite_less_one, inequality_literal, equation_literal, literal_of}
use Rattle.clause_proof.specs.Lines.{positive, found, opposite, Addition, adding, extended, clauses_of, next_number, opened, applied, are_over, read_all, implied_by, bodies, instanced, with_atom, is_over, splitted, sum_of, is_absurd, literal_of_fact, summed, paired, predicates_paired, are_known, clashes, closure_at, as_closure, added, after}
use Rattle.clause_proof.specs.Proofs.{empty_state, start, run, is_empty, ends_so, ends_empty, IsClauseProof, KeepsTruth}
use Rattle.clause_proof.proofs.Canonical.{Same, both, IsSigned, IsSignedOver, inequality_means, inequality_over, equation_over, less_over, opposite_over, literal_means, literal_over}
use Rattle.clause_proof.proofs.Over.{over_is, overs_are, Parts, parts_of}
use Rattle.clause_proof.proofs.Keeping.{all_of, literal_is, opposite_is, clause_stays, Adds, adds_all, adds_plain}
use Rattle.clause_proof.proofs.Opening.{old_false, open_gives}
use Rattle.clause_proof.proofs.Reading.{implied_gives, bodies_inward, bodies_over, read_inward, read_over}
use Rattle.clause_proof.proofs.Summing.{sum_true}
use Rattle.clause_proof.proofs.Clashing.{clash_absurd, deleted_true}
use Rattle.clause_proof.proofs.Pairing.{pair_gives, predicates_give}
use Rattle.clause_proof.proofs.Dividing.{divide_gives}

adds_found : {A : Type 0} (w : Meaning) (s : State) (o : Option A) (f : A → Option Addition) → ((x : A) → o ≡ Some x → Adds w s (f x)) → Adds w s (found o f)
adds_found w s None f h = tt
adds_found w s (Some x) f h = h x refl

adds_if : (w : Meaning) (s : State) (b : Bool) (o : Option Addition) → (b ≡ true → Adds w s o) → Adds w s (cond b o None)
adds_if w s b o h = by_test (Adds w s) b o None h (λ absent. tt)

-- ---- closures
adds_closure_at : (w : Meaning) (s : State) (i : ℕ) (d : Definition) (k : Form → List Linear → Option Addition) → IsFormedState s → slice_get s.definitions i ≡ Some d
    → ((f : Form) (ts : List Linear) → AllByRecursion (IsOver s.count) ts → slice_get s.definitions i ≡ Some (closure f ts) → Adds w s (k f ts)) → Adds w s (as_closure d k)
adds_closure_at w s i (closure f ts) k formed is h = h f ts (all_at (IsDefinitionOver s.count) s.definitions i (closure f ts) is formed.definitions) is
adds_closure_at w s i always k formed is h = tt
adds_closure_at w s i (at_least_zero t) k formed is h = tt
adds_closure_at w s i (is_zero t) k formed is h = tt
adds_closure_at w s i (predicate p ts) k formed is h = tt

adds_closure : (w : Meaning) (s : State) (i : ℕ) (k : Form → List Linear → Option Addition) → IsFormedState s
    → ((f : Form) (ts : List Linear) → AllByRecursion (IsOver s.count) ts → slice_get s.definitions i ≡ Some (closure f ts) → Adds w s (k f ts)) → Adds w s (closure_at s i k)
adds_closure w s i k formed h = adds_found w s (slice_get s.definitions i) (λ d. as_closure d k) (λ d is. adds_closure_at w s i d k formed is h)

-- ---- apply
apply_gives : (w : Meaning) (s : State) (f : ℕ) (ts : List Linear) → IsFormedState s → Adds w s (applied s f ts)
apply_gives w s f ts formed =
    let a : Application = record { function = f; terms = ts; constant = s.count } in
    adds_if w s (are_over s.count ts) (Some (record { meant = []; literals = []; clauses = []; applications = a ∷ []; count = suc s.count }))
    (λ test.
    let over = overs_are s.count ts test in
    adds_all w s (record { meant = []; literals = []; clauses = []; applications = a ∷ []; count = suc s.count }) formed (omega arith) tt
    (record { terms = all_same (IsOver s.count) (IsOver (suc s.count)) ts (λ t k. over_more s.count (suc s.count) t (omega arith) k) over; constant = omega arith }, tt)
    (λ ds g st e len t absent.
    let v : ℤ = w.value f (values_of ts e) in
    let x = extends_more s.count e v len in
    let own : value_of (name s.count) (e ++ v ∷ []) ≡ v = value_of-name s.count (e ++ v ∷ []) ∙ entry_last s.count e v len in
    absent (e ++ v ∷ []) x tt (ap (w.value f) (sym (all_of s.count ts over (suc s.count) e (e ++ v ∷ []) x)) ∙ sym own, tt)))

-- ---- instances
instance_gives : (w : Meaning) (s : State) (i : ℕ) (us : List Linear) (m : Literal) (f : Form) (ts : List Linear) → IsFormedState s → AllByRecursion (IsOver s.count) ts
    → slice_get s.definitions i ≡ Some (closure f ts) → Adds w s (instanced s i us m f ts)
instance_gives w s i us m f ts formed over is =
    adds_if w s (are_over s.count us) (found (bodies us f ts) (implied_by s i m)) (λ test.
    adds_found w s (bodies us f ts) (implied_by s i m) (λ x at.
    implied_gives w s i m f ts x formed is (bodies_over s.count us f ts x (overs_are s.count us test) over at) (λ e t. bodies_inward w e us f ts x at)))

-- ---- atoms
atom_gives : (w : Meaning) (s : State) (test : Bool) (d : Definition) → IsFormedState s → (test ≡ true → IsDefinitionOver s.count d) → Adds w s (with_atom s test d)
atom_gives w s test d formed h =
    adds_if w s test _ (λ so. adds_plain w s (plain d ∷ []) (positive (next_number s) ∷ []) [] formed (h so, tt) (λ ds g st e len t. tt))

-- ---- split
three_cases : (t : Linear) (e : List ℤ) → ¬ (value_of t e ≡ pos 0) → ¬ (pos 0 ≤ℤ value_of (less_one t) e) → ¬ (pos 0 ≤ℤ value_of (opposite_less_one t) e) → ⊥
three_cases t e absent less more =
    grind (arith, ints, value_of-combination (pos 1) (pos 1) t (number (negsuc 0)) e, value_of-combination (negsuc 0) (pos 1) t (number (negsuc 0)) e, value_of-number (negsuc 0) e)

split_gives : (w : Meaning) (s : State) (i : ℕ) (g h : Literal) (d : Definition) → IsFormedState s → slice_get s.definitions i ≡ Some d → Adds w s (splitted s i g h d)
split_gives w s i g h (is_zero t) formed is =
    let over = all_at (IsDefinitionOver s.count) s.definitions i (is_zero t) is formed.definitions in
    adds_plain w s (inequality_literal (less_one t) ∷ inequality_literal (opposite_less_one t) ∷ []) (g ∷ h ∷ []) ((positive i ∷ g ∷ h ∷ []) ∷ []) formed
    (inequality_over s.count (less_one t) (less_over s.count t over), (inequality_over s.count (opposite_less_one t) (opposite_over s.count t over), tt))
    (λ ds grows st e len all. (
      (λ none. three_cases t e (old_false w e s.definitions ds i (is_zero t) grows is none.0)
          (λ k. none.1.0 ((both (literal_is w e ds (inequality_literal (less_one t)) g st.0) (inequality_means w (less_one t) e)).back k))
          (λ k. none.1.1.0 ((both (literal_is w e ds (inequality_literal (opposite_less_one t)) h st.1.0) (inequality_means w (opposite_less_one t) e)).back k))),
      tt,
    ))
split_gives w s i g h always formed is = tt
split_gives w s i g h (at_least_zero t) formed is = tt
split_gives w s i g h (predicate p ts) formed is = tt
split_gives w s i g h (closure f ts) formed is = tt

-- ---- clauses alone
clauses_give : (w : Meaning) (s : State) (c : List Literal) → IsFormedState s → ((e : List ℤ) → AreTrue w e s → ClauseTruth w e s.definitions c) → Adds w s (Some (clauses_of s (c ∷ [])))
clauses_give w s c formed h =
    adds_plain w s [] [] (c ∷ []) formed tt (λ ds g st e len t. (clause_stays w s.count s.count e e s.definitions ds c (extends_refl s.count e len) formed.definitions g (h e t), tt))

-- ---- all lines
added_gives : (w : Meaning) (s : State) (l : Line) → IsFormedState s → Adds w s (added s l)
added_gives w s (line.Open i ms) formed = adds_closure w s i (opened s i ms) formed (λ f ts over is. open_gives w s i ms f ts formed over is)
added_gives w s (line.Apply f ts) formed = apply_gives w s f ts formed
added_gives w s (line.Read i apps m) formed =
    adds_closure w s i (λ f ts. found (read_all s.applications apps f ts) (implied_by s i m)) formed (λ f ts over is.
    adds_found w s (read_all s.applications apps f ts) (implied_by s i m) (λ x at.
    implied_gives w s i m f ts x formed is (read_over s.count s.applications apps f ts x formed.applications over at) (λ e t. read_inward w e s.applications apps f ts x t.applications at)))
added_gives w s (line.Instance i us m) formed = adds_closure w s i (instanced s i us m) formed (λ f ts over is. instance_gives w s i us m f ts formed over is)
added_gives w s (line.Inequality t) formed = atom_gives w s (is_over s.count t) (inequality_literal t).definition formed (λ h. inequality_over s.count t (over_is s.count t h))
added_gives w s (line.Equation t) formed = atom_gives w s (is_over s.count t) (equation_literal t).definition formed (λ h. equation_over s.count t (over_is s.count t h))
added_gives w s (line.Predicate p ts) formed = atom_gives w s (are_over s.count ts) (predicate p ts) formed (λ h. overs_are s.count ts h)
added_gives w s (line.Split i g h) formed = adds_found w s (slice_get s.definitions i) (splitted s i g h) (λ d is. split_gives w s i g h d formed is)
added_gives w s (line.Sum xs) formed =
    adds_found w s (sum_of s.definitions xs (number (pos 0), true)) _ (λ u is. adds_if w s (is_absurd (literal_of_fact u)) _
    (λ test. clauses_give w s (map (λ x. x.literal) xs) formed (λ e t. sum_true w e s.definitions xs u is test)))
added_gives w s (line.Pair a b es r) formed =
    adds_found w s (slice_get s.applications a) (λ x. found (slice_get s.applications b) (paired s es r x)) (λ x xa.
    adds_found w s (slice_get s.applications b) (paired s es r x) (λ y yb. pair_gives w s a b es r x y formed xa yb))
added_gives w s (line.PredicatePair i j es) formed =
    adds_found w s (slice_get s.definitions i) (λ c. found (slice_get s.definitions j) (predicates_paired s i j es c)) (λ c ci.
    adds_found w s (slice_get s.definitions j) (predicates_paired s i j es c) (λ d dj. predicates_give w s i j es c d formed ci dj))
added_gives w s (line.Divide d t g h) formed = divide_gives w s d t g h formed
added_gives w s (line.Resolve c hints) formed =
    adds_if w s (are_known (next_number s) c && clashes s.clauses hints c) _
    (λ test. clauses_give w s c formed (λ e t none. clash_absurd w e s.definitions s.clauses hints c t.clauses none (and_parts (are_known (next_number s) c) (clashes s.clauses hints c) test).1))
added_gives w s (line.Delete hints) formed = tt

put_gives : (w : Meaning) (s : State) (o : Option Addition) → Adds w s o → KeepsTruth w s (found o (extended s))
put_gives w s None h = tt
put_gives w s (Some a) h = h

pub after_gives : (w : Meaning) (s : State) (l : Line) → IsFormedState s → KeepsTruth w s (after s l)
after_gives w s (line.Open i ms) formed = put_gives w s (added s (line.Open i ms)) (added_gives w s (line.Open i ms) formed)
after_gives w s (line.Apply f ts) formed = put_gives w s (added s (line.Apply f ts)) (added_gives w s (line.Apply f ts) formed)
after_gives w s (line.Read i apps m) formed = put_gives w s (added s (line.Read i apps m)) (added_gives w s (line.Read i apps m) formed)
after_gives w s (line.Instance i us m) formed = put_gives w s (added s (line.Instance i us m)) (added_gives w s (line.Instance i us m) formed)
after_gives w s (line.Inequality t) formed = put_gives w s (added s (line.Inequality t)) (added_gives w s (line.Inequality t) formed)
after_gives w s (line.Equation t) formed = put_gives w s (added s (line.Equation t)) (added_gives w s (line.Equation t) formed)
after_gives w s (line.Predicate p ts) formed = put_gives w s (added s (line.Predicate p ts)) (added_gives w s (line.Predicate p ts) formed)
after_gives w s (line.Split i g h) formed = put_gives w s (added s (line.Split i g h)) (added_gives w s (line.Split i g h) formed)
after_gives w s (line.Sum xs) formed = put_gives w s (added s (line.Sum xs)) (added_gives w s (line.Sum xs) formed)
after_gives w s (line.Pair a b es r) formed = put_gives w s (added s (line.Pair a b es r)) (added_gives w s (line.Pair a b es r) formed)
after_gives w s (line.PredicatePair i j es) formed = put_gives w s (added s (line.PredicatePair i j es)) (added_gives w s (line.PredicatePair i j es) formed)
after_gives w s (line.Divide d t g h) formed = put_gives w s (added s (line.Divide d t g h)) (added_gives w s (line.Divide d t g h) formed)
after_gives w s (line.Resolve c hints) formed = put_gives w s (added s (line.Resolve c hints)) (added_gives w s (line.Resolve c hints) formed)
after_gives w s (line.Delete hints) formed = (
  record { definitions = formed.definitions; applications = formed.applications },
  λ absent e len h. absent e len (record { applications = h.applications; clauses = deleted_true w e s.definitions s.clauses hints h.clauses }),
)

-- ---- the end: the empty clause is true nowhere
no_empty : (w : Meaning) (e : List ℤ) (ds : List Definition) (c : Option (List Literal)) → is_empty c ≡ true → IsKeptTrue w e ds c → ⊥
no_empty w e ds None is h = absurd (cc)
no_empty w e ds (Some []) is h = h tt
no_empty w e ds (Some (l ∷ ls)) is h = absurd (cc)

no_end : (w : Meaning) (e : List ℤ) (ds : List Definition) (c : Option (List Literal)) (cs : List (Option (List Literal))) → ends_so c cs ≡ true → IsKeptTrue w e ds c
    → AllByRecursion (IsKeptTrue w e ds) cs → ⊥
no_end w e ds c [] is h k = no_empty w e ds c is h
no_end w e ds c (d ∷ cs) is h k = no_end w e ds d cs is k.0 k.1

ended_refuted : (w : Meaning) (e : List ℤ) (ds : List Definition) (cs : List (Option (List Literal))) → ends_empty cs ≡ true → AllByRecursion (IsKeptTrue w e ds) cs → ⊥
ended_refuted w e ds [] is h = absurd (cc)
ended_refuted w e ds (c ∷ cs) is h = no_end w e ds c cs is h.0 h.1

run_step : (w : Meaning) (s : State) (o : Option State) (rest : State → Option State) (t : State) → KeepsTruth w s o
    → ((u : State) → IsFormedState u → rest u ≡ Some t → AreClausesRefuted w u) → found o rest ≡ Some t → AreClausesRefuted w s
run_step w s None rest t g h is = absurd (cc)
run_step w s (Some u) rest t g h is = g.1 (h u g.0 is)

run_refuted : (w : Meaning) (s : State) (ls : List Line) (t : State) → IsFormedState s → ends_empty t.clauses ≡ true → run s ls ≡ Some t → AreClausesRefuted w s
run_refuted w s [] t formed ends is =
    let same : t ≡ s = cc in
    subst (AreClausesRefuted w) same (λ e len h. ended_refuted w e t.definitions t.clauses ends h.clauses)
run_refuted w s (l ∷ ls) t formed ends is =
    run_step w s (after s l) (λ u. run u ls) t (after_gives w s l formed) (λ u k more. run_refuted w u ls t k ends more) is

-- ---- the start: where the formula is false, the first clauses are true
numbers_over : (ks : List ℤ) → AllByRecursion (IsOver 0) (map number ks)
numbers_over [] = tt
numbers_over (k ∷ ks) = (over_number 0 k, numbers_over ks)

numbers_value : (ks : List ℤ) (e : List ℤ) → values_of (map number ks) e ≡ ks
numbers_value [] e = refl
numbers_value (k ∷ ks) e = λ i. value_of-number k e i ∷ numbers_value ks e i

empty_formed : IsFormedState empty_state
empty_formed = record { definitions = (tt, tt); applications = tt }

-- the start as a line: sound where the formula is false
start_gives : (w : Meaning) (f : Form) (ks : List ℤ) (m : Literal) → ¬ (FormTruth w f ks) → KeepsTruth w empty_state (start f ks m)
start_gives w f ks m absent =
    adds_plain w empty_state (literal_of f (map number ks) ∷ []) (m ∷ []) ((opposite m ∷ []) ∷ []) empty_formed (literal_over 0 f (map number ks) (numbers_over ks), tt)
    (λ ds g st e len t. (
      (λ none. none.0 ((opposite_is w e ds (literal_of f (map number ks)) m st.0 (literal_means w f (map number ks) e)).back
          (λ h. absent (subst (FormTruth w f) (numbers_value ks e) h)))),
      tt,
    ))

empty_true : (w : Meaning) → AreTrue w [] empty_state
empty_true w = record { applications = tt; clauses = ((λ none. none.0 tt), tt) }

-- a clause proof shows its formula
pub proof_shows : (w : Meaning) (f : Form) (ks : List ℤ) (m : Literal) (ls : List Line) → IsClauseProof f ks m ls → FormTruth w f ks
proof_shows w f ks m ls p =
    form_stable w f ks (λ absent.
    run_step w empty_state (start f ks m) (λ s. run s ls) p.last (start_gives w f ks m absent) (λ u formed is. run_refuted w u ls p.last formed p.ends is) p.runs
    [] refl (empty_true w))

given : (w : Meaning) (s : State) (o : Option State) (t : State) → o ≡ Some t → KeepsTruth w s o → IsFormedState t
given w s None t is g = absurd (cc)
given w s (Some u) t is g = let same : u ≡ t = cc in subst IsFormedState same g.0

some_world : Meaning
some_world = record { truth = λ p xs. true; value = λ f xs. pos 0 }

-- the state after a line is well formed, and so is that at the start
pub after_formed : (s t : State) (l : Line) → IsFormedState s → after s l ≡ Some t → IsFormedState t
after_formed s t l formed is = given some_world s (after s l) t is (after_gives some_world s l formed)
