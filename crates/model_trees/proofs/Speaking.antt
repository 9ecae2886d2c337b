-- The table of a leaf speaks of the symbols of the formulas with which the walk began.
use Rattle.std.proofs.Common.{◌≡◌, ℕ, suc, ◌-◌, ℤ, List, [], ◌∷◌, ◌++◌, map, length, Option, Some, None, refl, sym, ◌∙◌, ap, subst}
use Rattle.std.specs.List.{AllByRecursion, flat_map, remove, slice_get}
use Rattle.base_budget.specs.Trace.{Traced, just, next, each}
use Rattle.base_budget.proofs.Tracing.{each-value}
use Rattle.linear_term.specs.Linear.{Linear}
use Rattle.clause_set.proofs.Divisors.{sorted_once-kept}
use Rattle.form_typed.specs.declared.world.TruthRow.{TruthRow}
use Rattle.form_typed.specs.declared.world.ValueRow.{ValueRow}
use Rattle.formula.specs.Form.{Form, Forms, equal, unequal, at_least, holds, fails, differs, conjunction, disjunction, universal, existential, no_form, and_form}
use Rattle.formula.specs.Shifts.{raised, shifted, all_shifted}
use Rattle.sequent.specs.declared.member.Pick.TheVariants as pick
use Rattle.sequent.specs.Rules.{brought, new_members, one_each, place, premises_at, premises_by, premises_of}
use Rattle.sequent.specs.Sequent.{Member, Sequent, member, sequent}
use Rattle.sequent.proofs.Members.{all_append, all_at, all_remove}
use Rattle.proof_tree.specs.Proof.{Proof, Proofs, node, no_proof, and_proof, given, all_given}
use Rattle.proof_tree.specs.Rules.{first_given}
use Rattle.proof_tree.specs.Walk.{on_some}
use Rattle.model_trees.specs.Rows.{all_evaluated, table_at, truth_cmp, truth_row, value_cmp, value_row}
use Rattle.model_trees.specs.Symbols.{AllSpeakIn, SpeaksIn, TableSpeaksIn, Vocabulary}
use Rattle.model_trees.specs.Walk.{Stop, affirmed, denied, walk, walk_false, walk_first, where_none}
use Rattle.model_trees.proofs.Tables.{all_evaluated-value}

length_map : {A B : Type 0} (f : A → B) (xs : List A) → length (map f xs) ≡ length xs
length_map f [] = refl
length_map f (x ∷ xs) = ap suc (length_map f xs)

-- ---- shifts
mutual
  shifted_speaks : (y : Vocabulary) (n k : ℕ) (f : Form) → SpeaksIn y f → SpeaksIn y (shifted n k f)
  shifted_speaks y n k (equal t) h = tt
  shifted_speaks y n k (unequal t) h = tt
  shifted_speaks y n k (at_least t) h = tt
  shifted_speaks y n k (holds p ts) h = subst (y.predicate p) (sym (length_map (raised n k) ts)) h
  shifted_speaks y n k (fails p ts) h = subst (y.predicate p) (sym (length_map (raised n k) ts)) h
  shifted_speaks y n k (differs f ts u) h = subst (y.function f) (sym (length_map (raised n k) ts)) h
  shifted_speaks y n k (conjunction fs) h = all_shifted_speak y n k fs h
  shifted_speaks y n k (disjunction fs) h = all_shifted_speak y n k fs h
  shifted_speaks y n k (universal f) h = shifted_speaks y n k f h
  shifted_speaks y n k (existential f) h = shifted_speaks y n k f h

  all_shifted_speak : (y : Vocabulary) (n k : ℕ) (fs : Forms) → AllSpeakIn y fs → AllSpeakIn y (all_shifted n k fs)
  all_shifted_speak y n k no_form h = tt
  all_shifted_speak y n k (and_form f fs) h = (shifted_speaks y n k f h.0, all_shifted_speak y n k fs h.1)

-- ---- premises
abbrev MemberSpeaks : Vocabulary → Member → Type 0
MemberSpeaks y m = SpeaksIn y m.formula

abbrev SequentSpeaks : Vocabulary → Sequent → Type 0
SequentSpeaks y s = AllByRecursion (λ m. SpeaksIn y m.formula) s.members

brought_speaks : (y : Vocabulary) (over n : ℕ) (f : Form) → SpeaksIn y f → SpeaksIn y (brought over n f)
brought_speaks y over n f h = shifted_speaks y over (n - over) f h

new_speak : (y : Vocabulary) (over n : ℕ) (fs : Forms) → AllSpeakIn y fs → AllByRecursion (MemberSpeaks y) (new_members over n fs)
new_speak y over n no_form h = tt
new_speak y over n (and_form f fs) h = (brought_speaks y over n f h.0, new_speak y over n fs h.1)

each_speaks : (y : Vocabulary) (rest : List Member) (n over : ℕ) (fs : Forms) → AllByRecursion (MemberSpeaks y) rest → AllSpeakIn y fs
    → AllByRecursion (SequentSpeaks y) (map (λ new. sequent (rest ++ new) n) (one_each (new_members over n fs)))
each_speaks y rest n over no_form r h = tt
each_speaks y rest n over (and_form f fs) r h =
    (all_append (MemberSpeaks y) rest (member (brought over n f) n 0 ∷ []) r (brought_speaks y over n f h.0, tt), each_speaks y rest n over fs r h.1)

premises_speak : (y : Vocabulary) (s : Sequent) (i over used : ℕ) (f : Form) → SpeaksIn y f → AllByRecursion (MemberSpeaks y) (remove s.members i) → AllByRecursion (SequentSpeaks y) (premises_at s i (Some (member f over used)))
premises_speak y s i over used (conjunction fs) h r = each_speaks y (remove s.members i) s.count over fs r h
premises_speak y s i over used (disjunction fs) h r = (all_append (MemberSpeaks y) (remove s.members i) (new_members over s.count fs) r (new_speak y over s.count fs h), tt)
premises_speak y s i over used (universal f) h r = (all_append (MemberSpeaks y) (remove s.members i) (member (brought over s.count f) (suc s.count) 0 ∷ []) r (brought_speaks y over s.count f h, tt), tt)
premises_speak y s i over used (existential f) h r =
    (all_append (MemberSpeaks y) (remove s.members i) (member (brought over s.count f) (suc s.count) 0 ∷ member (existential f) over (suc used) ∷ []) r (brought_speaks y over s.count f h, (h, tt)), tt)
premises_speak y s i over used (equal t) h r = tt
premises_speak y s i over used (unequal t) h r = tt
premises_speak y s i over used (at_least t) h r = tt
premises_speak y s i over used (holds p ts) h r = tt
premises_speak y s i over used (fails p ts) h r = tt
premises_speak y s i over used (differs p ts u) h r = tt

speak_at : (y : Vocabulary) (s : Sequent) (i : ℕ) (o : Option Member) → slice_get s.members i ≡ o → SequentSpeaks y s → AllByRecursion (SequentSpeaks y) (premises_at s i o)
speak_at y s i None is h = tt
speak_at y s i (Some m) is h = premises_speak y s i m.over m.used m.formula (all_at (MemberSpeaks y) s.members i m is h) (all_remove (MemberSpeaks y) s.members i h)

speak_by : (y : Vocabulary) (s : Sequent) (o : Option ℕ) → SequentSpeaks y s → AllByRecursion (SequentSpeaks y) (premises_by s o)
speak_by y s None h = tt
speak_by y s (Some i) h = speak_at y s i (slice_get s.members i) refl h

-- ---- the walk
StopSpeaks : Vocabulary → Option Stop → Type 0
StopSpeaks y None = Unit {0}
StopSpeaks y (Some stop) = AllByRecursion (λ m. SpeaksIn y m.formula) stop.members

found_speaks : (y : Vocabulary) (f : List ℤ → Traced (Option Stop)) (o : Option (List ℤ)) → ((u : List ℤ) → StopSpeaks y (f u).value) → StopSpeaks y (on_some f o).value
unfolding just StopSpeaks
found_speaks y f None h = tt
found_speaks y f (Some u) h = h u

where_speaks : (y : Vocabulary) (first second : Traced (Option Stop)) (o : Option (List ℤ)) → StopSpeaks y first.value → StopSpeaks y second.value → StopSpeaks y (where_none first second o).value
where_speaks y first second None h k = h
where_speaks y first second (Some a) h k = k

mutual
  unfolding next just StopSpeaks

  walk_speaks : (y : Vocabulary) (s : Sequent) (x : Proof) (v : List ℤ) → SequentSpeaks y s → StopSpeaks y (walk s x v).value
  walk_speaks y s (node (pick.Trivial i) ns log d) v h = tt
  walk_speaks y s (node (pick.Alpha i) ns log d) v h = first_speaks y (premises_of s (pick.Alpha i)) ns v (speak_by y s (place (pick.Alpha i)) h)
  walk_speaks y s (node (pick.Delta i) ns log d) v h =
      found_speaks y (λ u. walk_first (premises_of s (pick.Delta i)) ns u) (denied (suc s.count) (first_given (all_given ns)) v).value (λ u. first_speaks y (premises_of s (pick.Delta i)) ns u (speak_by y s (place (pick.Delta i)) h))
  walk_speaks y s (node (pick.Beta i) ns log d) v h = false_speaks y s.count (premises_of s (pick.Beta i)) ns v (speak_by y s (place (pick.Beta i)) h)
  walk_speaks y s (node (pick.Gamma i) ns log d) v h = tt
  walk_speaks y s (node pick.Close ns log d) v h = h

  first_speaks : (y : Vocabulary) (ss : List Sequent) (ns : Proofs) (v : List ℤ) → AllByRecursion (SequentSpeaks y) ss → StopSpeaks y (walk_first ss ns v).value
  first_speaks y [] ns v h = tt
  first_speaks y (s ∷ ss) no_proof v h = tt
  first_speaks y (s ∷ ss) (and_proof x xs) v h = walk_speaks y s x v h.0

  false_speaks : (y : Vocabulary) (n : ℕ) (ss : List Sequent) (ns : Proofs) (v : List ℤ) → AllByRecursion (SequentSpeaks y) ss → StopSpeaks y (walk_false n ss ns v).value
  false_speaks y n [] ns v h = tt
  false_speaks y n (s ∷ ss) no_proof v h = tt
  false_speaks y n (s ∷ ss) (and_proof x xs) v h = where_speaks y (walk s x v) (walk_false n ss xs v) (affirmed n (given x) v).value (walk_speaks y s x v h.0) (false_speaks y n ss xs v h.1)

pub stop_speaks : (y : Vocabulary) (s : Sequent) (x : Proof) (v : List ℤ) (stop : Stop) → AllByRecursion (λ m. SpeaksIn y m.formula) s.members → (walk s x v).value ≡ Some stop → AllByRecursion (λ m. SpeaksIn y m.formula) stop.members
unfolding StopSpeaks
stop_speaks y s x v stop h is = subst (StopSpeaks y) is (walk_speaks y s x v h)

-- ---- rows
as_many : (e : List ℤ) (ts : List Linear) → length ts ≡ length (all_evaluated e ts).value
as_many e ts = sym (length_map (λ t. _) ts) ∙ ap length (sym (all_evaluated-value e ts))

truth_speaks : (y : Vocabulary) (e : List ℤ) (g : Form) → SpeaksIn y g → AllByRecursion (λ (r : TruthRow). y.predicate r.id (length r.at)) (truth_row e g).value
unfolding next just
truth_speaks y e (fails p ts) h = (subst (y.predicate p) (as_many e ts) h, tt)
truth_speaks y e (equal t) h = tt
truth_speaks y e (unequal t) h = tt
truth_speaks y e (at_least t) h = tt
truth_speaks y e (holds p ts) h = tt
truth_speaks y e (differs f ts u) h = tt
truth_speaks y e (conjunction fs) h = tt
truth_speaks y e (disjunction fs) h = tt
truth_speaks y e (universal f) h = tt
truth_speaks y e (existential f) h = tt

value_speaks : (y : Vocabulary) (e : List ℤ) (g : Form) → SpeaksIn y g → AllByRecursion (λ (r : ValueRow). y.function r.id (length r.at)) (value_row e g).value
unfolding next just
value_speaks y e (differs f ts u) h = (subst (y.function f) (as_many e ts) h, tt)
value_speaks y e (equal t) h = tt
value_speaks y e (unequal t) h = tt
value_speaks y e (at_least t) h = tt
value_speaks y e (holds p ts) h = tt
value_speaks y e (fails p ts) h = tt
value_speaks y e (conjunction fs) h = tt
value_speaks y e (disjunction fs) h = tt
value_speaks y e (universal f) h = tt
value_speaks y e (existential f) h = tt

all_rows : {R : Type 0} (P : R → Type 0) (Q : Member → Type 0) (f : Member → Traced (List R)) → ((m : Member) → Q m → AllByRecursion P (f m).value) → (ms : List Member) → AllByRecursion Q ms → AllByRecursion P (flat_map (λ m. (f m).value) ms)
all_rows P Q f each_has [] h = tt
all_rows P Q f each_has (m ∷ ms) h = all_append P (f m).value (flat_map (λ z. (f z).value) ms) (each_has m h.0) (all_rows P Q f each_has ms h.1)

pub table_speaks : (y : Vocabulary) (stop : Stop) → AllByRecursion (λ m. SpeaksIn y m.formula) stop.members → TableSpeaksIn y (table_at stop).value
unfolding next just
table_speaks y stop h =
    let e = stop.values in
    let ms = stop.members in
    let P : TruthRow → Type 0 = λ r. y.predicate r.id (length r.at) in
    let Q : ValueRow → Type 0 = λ r. y.function r.id (length r.at) in
    let truths : AllByRecursion P (each (λ m. truth_row e m.formula) ms []).value =
    subst (AllByRecursion P) (sym (each-value (λ m. truth_row e m.formula) ms [])) (all_rows P (MemberSpeaks y) (λ m. truth_row e m.formula) (λ m k. truth_speaks y e m.formula k) ms h) in
    let values : AllByRecursion Q (each (λ m. value_row e m.formula) ms []).value =
    subst (AllByRecursion Q) (sym (each-value (λ m. value_row e m.formula) ms [])) (all_rows Q (MemberSpeaks y) (λ m. value_row e m.formula) (λ m k. value_speaks y e m.formula k) ms h) in
    record { truths = sorted_once-kept P truth_cmp (each (λ m. truth_row e m.formula) ms []).value truths; values = sorted_once-kept Q value_cmp (each (λ m. value_row e m.formula) ms []).value values }
