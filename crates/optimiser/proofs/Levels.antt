-- The work of `least`, call by call, and what its answer says.
use Rattle.std.proofs.Common.{◌≡◌, ℕ, ℤ, false, List, [], ◌++◌, length, Result, Ok, Err, IsErrAnd, refl, sym, ◌∙◌, ap, subst}
use Rattle.std.specs.Prelude.{All, IfOk, OnOk}
use Rattle.base_budget.specs.declared.fault.StepFault.{StepFault}
use Rattle.base_budget.specs.declared.fault.StepFault.TheVariants as step_fault
use Rattle.base_budget.specs.declared.fault.ElimFault.{ElimFault}
use Rattle.base_budget.specs.declared.fault.ElimFault.TheVariants.{Steps, Overflow, Memory}
use Rattle.base_budget.specs.declared.log.Entry.{Entry}
use Rattle.base_budget.specs.declared.log.ElimLog.{ElimLog}
use Rattle.base_budget.specs.Trace.{Funds, Traced, just, next, new_log}
use Rattle.base_budget.specs.Work.{Charged}
use Rattle.base_budget.specs.Followed.{Followed}
use Rattle.base_budget.proofs.Following.{follow_ok, follow_err, follow_fault, follow_just, follow_unnoted, follow_note, followed_value}
use Rattle.base_budget.proofs.Charging.{charged_value}
use Rattle.linear_term.specs.Linear.{Linear, IsNormal, IsOver, value_of}
use Rattle.linear_term.proofs.Names.{reduced-normal}
use Rattle.clause_set.specs.declared.literal.Literal.{Literal}
use Rattle.clause_set.specs.Clause.{IsClause}
use Rattle.clause_set.specs.Literals.{dnf_truth}
use Rattle.elim_laws.specs.Logs.{entries_of}
use Rattle.elim_laws.specs.Whole.{AreOver, names_out}
use Rattle.solve_laws.specs.Solutions.{solving}
use Rattle.parameter_solver.specs.Logs.{Solves, in_log}
use Rattle.parameter_solver.specs.Names.{IsOfName}
use Rattle.parameter_solver.specs.declared.solving.Solved.TheVariants as solved
use Rattle.parameter_solver.proofs.Parting.{to_names}
use Rattle.parameter_solver.proofs.Spanning.{given, given_names}
use Rattle.optimiser.specs.declared.floor.Floor.{Floor}
use Rattle.optimiser.specs.declared.floor.Floor.TheVariants.{Nowhere, At, Unbounded}
use Rattle.optimiser.specs.OneName.{dnf_floor}
use Rattle.optimiser.specs.Least.{IsAttained, IsMinimum, IsTask, Minimum, nothing, no_least, least_at, at_values, by_floor, minimising, values_floor, with_level, with_objective}
use Rattle.optimiser.proofs.LeastProofs.{least-exact, level-over, level-satisfied, objective-alone, task, values-attained}
use Rattle.optimiser.specs.Answers.{Minimises, MinimisesFrom, minimum_of, with_log}
use Rattle.optimiser.specs.declared.found.Least.{Least}
use Rattle.optimiser.specs.declared.found.Least.TheVariants as least

-- ---- what is asked
pub task_of : (n : ℕ) (ds d : List (List Literal)) (t : Linear) → ds ≡ d → All IsClause ds → AreOver n d → IsNormal t → IsOver n t → IsTask n d t
task_of n ds d t same h over normal within = task n d t (given n d (given_names n ds d same h over)) (reduced-normal t normal) within

-- ---- where the values begin
pub left_names : (n : ℕ) (d both left : List (List Literal)) (t : Linear) → IsTask n d t → both ≡ (with_objective n d t).value → left ≡ (names_out n both).value → All (IsOfName n) left
left_names n d both left t h is out =
    subst (All (IsOfName n)) (sym (out ∙ ap (λ b. (names_out n b).value) is)) (to_names n (names_out n (with_objective n d t).value).value (objective-alone n d t h))

pub begins_failed : (n : ℕ) (d : List (List Literal)) (t : Linear) (e : StepFault) (r : Result Floor StepFault) (es : List Entry) {f g : Funds} → Charged (with_objective n d t) f (Err e) g → IsErrAnd r (λ x. x ≡ e)
    → Followed in_log (values_floor n d t) f es r g es
unfolding values_floor
begins_failed n d t e r es did h = follow_err (with_objective n d t) _ r h (follow_unnoted (Err e) did)

pub begins_stopped : (n : ℕ) (d both : List (List Literal)) (t : Linear) (e : StepFault) (r : Result Floor StepFault) (es ds : List Entry) {f g h : Funds} → Charged (with_objective n d t) f (Ok both) g
    → Followed in_log (names_out n both) g es (Err e) h ds → IsErrAnd r (λ x. x ≡ e) → Followed in_log (values_floor n d t) f es r h ds
unfolding values_floor
begins_stopped n d both t e r es ds did out err = follow_ok (with_objective n d t) _ (follow_unnoted (Ok both) did) (follow_err (names_out n both) (dnf_floor n) r err out)

pub begins_done : (n : ℕ) (d both left : List (List Literal)) (t : Linear) (r : Result Floor StepFault) (es ds : List Entry) {f g h i : Funds} → Charged (with_objective n d t) f (Ok both) g
    → Followed in_log (names_out n both) g es (Ok left) h ds → Charged (dnf_floor n left) h r i → Followed in_log (values_floor n d t) f es r i ds
unfolding values_floor
begins_done n d both left t r es ds did out rest = follow_ok (with_objective n d t) _ (follow_unnoted (Ok both) did) (follow_ok (names_out n both) (dnf_floor n) out (follow_unnoted r rest))

-- the entries that the elimination adds to the log
on_ok : {A E P : Type 0} (r : Result A E) → P → OnOk r P
on_ok (Ok v) h = h
on_ok (Err e) h = tt

pub same_log : (n : ℕ) (d both : List (List Literal)) (t : Linear) (es ds : List Entry) (r : Result Floor StepFault) {f g : Funds} → Charged (with_objective n d t) f (Ok both) g
    → ds ≡ es ++ entries_of (names_out n both).events → OnOk r (ds ≡ es ++ entries_of (names_out n (with_objective n d t).value).events)
same_log n d both t es ds r did is = on_ok r (is ∙ ap (λ b. es ++ entries_of (names_out n b).events) (charged_value did))

-- ---- the best values at a level
pub level_done : (n : ℕ) (d b : List (List Literal)) (t : Linear) (k : ℤ) (vs : List ℤ) (es : List Entry) (log : ElimLog) {f g h : Funds} → Charged (with_level d t k) f (Ok b) g
    → Solves (solving n b) g (Ok (solved.Values vs)) h → MinimisesFrom es (by_floor n d t (At k)) f (Ok (least.At k vs log)) h
level_done n d b t k vs es log did solves = (
  solves.0,
  follow_ok (with_level d t k) _ (follow_unnoted (Ok b) did)
      (follow_note new_log _ refl (follow_ok (solving n b) (λ o. just (at_values k o)) solves.1 (follow_just (least_at k vs) (least_at k vs) refl))),
)

pub level_stopped : (n : ℕ) (d b : List (List Literal)) (t : Linear) (k : ℤ) (fault : ElimFault) (es : List Entry) (f g h : Funds) → Charged (with_level d t k) f (Ok b) g → Solves (solving n b) g (Err fault) h
    → MinimisesFrom es (by_floor n d t (At k)) f (Err fault) h
level_stopped n d b t k (Steps log) es f g h did solves = follow_ok (with_level d t k) _ (follow_unnoted (Ok b) did) (follow_note new_log _ refl (follow_fault (solving n b) (λ o. just (at_values k o)) solves))
level_stopped n d b t k (Overflow log p) es f g h did solves = follow_ok (with_level d t k) _ (follow_unnoted (Ok b) did) (follow_note new_log _ refl (follow_fault (solving n b) (λ o. just (at_values k o)) solves))
level_stopped n d b t k Memory es f g h did solves =
    (solves.0, follow_ok (with_level d t k) _ (follow_unnoted (Ok b) did) (follow_note new_log _ refl (follow_fault (solving n b) (λ o. just (at_values k o)) solves.1)))

-- a fault before: its log is the one in progress
pub from_fault : (work : Traced Minimum) (e : StepFault) (es : List Entry) (log : ElimLog) {f g : Funds} → Followed in_log work f es (Err e) g log.entries → MinimisesFrom es work f (Err (with_log e log)) g
from_fault work step_fault.Steps es log did = did
from_fault work (step_fault.Overflow p) es log did = did
from_fault work step_fault.Memory es log did = (log.entries, did)

pub level_failed : (n : ℕ) (d : List (List Literal)) (t : Linear) (k : ℤ) (e : StepFault) (log : ElimLog) {f g : Funds} → Charged (with_level d t k) f (Err e) g
    → MinimisesFrom log.entries (by_floor n d t (At k)) f (Err (with_log e log)) g
level_failed n d t k e log did = from_fault (by_floor n d t (At k)) e log.entries log (follow_fault (with_level d t k) _ (follow_unnoted (Err e) did))

pub joined_over : (n : ℕ) (d b : List (List Literal)) (t : Linear) (k : ℤ) {f g : Funds} → IsTask n d t → Charged (with_level d t k) f (Ok b) g → AreOver n b
joined_over n d b t k h did = subst (AreOver n) (sym (charged_value did)) (level-over n d t k h)

pub solved_some : (n : ℕ) (d b : List (List Literal)) (t : Linear) (k : ℤ) {f g : Funds} → IsTask n d t → IsAttained n d t k → Charged (with_level d t k) f (Ok b) g → ((w : List ℤ) → length w ≡ n → dnf_truth b w ≡ false) → ⊥
solved_some n d b t k h r did none = level-satisfied n d t k h r (subst (λ z. (w : List ℤ) → length w ≡ n → dnf_truth z w ≡ false) (charged_value did) none)

-- ---- the whole
pub least_none : (n : ℕ) (d : List (List Literal)) (t : Linear) (log : ElimLog) {f g : Funds} → Followed in_log (values_floor n d t) f [] (Ok Nowhere) g log.entries → Minimises (minimising n d t) f (Ok (least.None log)) g
unfolding minimising
least_none n d t log did = (log.entries, follow_ok (values_floor n d t) (by_floor n d t) did (follow_just nothing nothing refl))

pub least_unbounded : (n : ℕ) (d : List (List Literal)) (t : Linear) (log : ElimLog) {f g : Funds} → Followed in_log (values_floor n d t) f [] (Ok Unbounded) g log.entries
    → Minimises (minimising n d t) f (Ok (least.Unbounded log)) g
unfolding minimising
least_unbounded n d t log did = (log.entries, follow_ok (values_floor n d t) (by_floor n d t) did (follow_just no_least no_least refl))

pub least_failed : (n : ℕ) (d : List (List Literal)) (t : Linear) (e : StepFault) (log : ElimLog) {f g : Funds} → Followed in_log (values_floor n d t) f [] (Err e) g log.entries
    → Minimises (minimising n d t) f (Err (with_log e log)) g
unfolding minimising
least_failed n d t e log did = from_fault (next (values_floor n d t) (by_floor n d t)) e [] log (follow_fault (values_floor n d t) (by_floor n d t) did)

pub least_level : (n : ℕ) (d : List (List Literal)) (t : Linear) (k : ℤ) (es : List Entry) (r : Result Least ElimFault) (f g h : Funds) → Followed in_log (values_floor n d t) f [] (Ok (At k)) g es
    → MinimisesFrom es (by_floor n d t (At k)) g r h → Minimises (minimising n d t) f r h
unfolding minimising
least_level n d t k es (Ok m) f g h did rest = (rest.0, follow_ok (values_floor n d t) (by_floor n d t) did rest.1)
least_level n d t k es (Err (Steps log)) f g h did rest = follow_ok (values_floor n d t) (by_floor n d t) did rest
least_level n d t k es (Err (Overflow log p)) f g h did rest = follow_ok (values_floor n d t) (by_floor n d t) did rest
least_level n d t k es (Err Memory) f g h did rest = (rest.0, follow_ok (values_floor n d t) (by_floor n d t) did rest.1)

pub attained : (n : ℕ) (d : List (List Literal)) (t : Linear) (k : ℤ) (es ds : List Entry) {f g : Funds} → IsTask n d t → Followed in_log (values_floor n d t) f es (Ok (At k)) g ds → IsAttained n d t k
attained n d t k es ds h did = values-attained n d t k h (sym (followed_value did))

-- the answer says the least value
pub minimum_said : (n : ℕ) (d : List (List Literal)) (t : Linear) (r : Result Least ElimFault) (f g : Funds) → IsTask n d t → Minimises (minimising n d t) f r g
    → IfOk r (λ m. IsMinimum (dnf_truth d) n (value_of t) (minimum_of m))
minimum_said n d t (Ok m) f g h did = subst (IsMinimum (dnf_truth d) n (value_of t)) (sym (followed_value did.1)) (least-exact n d t h.given h.reduced h.over)
minimum_said n d t (Err e) f g h did = tt
