-- The outcome of a run.
use Rattle.std.proofs.Common.{◌≡◌, ℕ, ◌-◌, ◌≤◌, ℤ, Bool, true, false, List, [], refl, sym, ◌∙◌, ap, subst, Option, Some, None, Result, Ok, Err, IfOk, IsErrAnd}
use Rattle.std.specs.Prelude.{IsSome}
use Rattle.std.specs.Option.{option_map}
use Rattle.std.proofs.lemmas.List.{append-nil}
use Rattle.linear_term.specs.declared.range.Memory.{Memory}
use Rattle.base_budget.specs.declared.fault.StepFault.{StepFault}
use Rattle.base_budget.specs.declared.fault.StepFault.TheVariants as step_fault
use Rattle.base_budget.specs.declared.log.ElimLog.{ElimLog}
use Rattle.base_budget.specs.Followed.{after_notes, Followed, Later}
use Rattle.base_budget.specs.Runs.{total}
use Rattle.base_budget.specs.Trace.{Funds, Mark, Traced, at, stand}
use Rattle.base_budget.proofs.Advancing.{followed_later}
use Rattle.clause_set.specs.declared.literal.Literal.{Literal}
use Rattle.formula.specs.Form.{Form}
use Rattle.proof_tree.specs.declared.node.Conclusion.TheVariants.{Solution, Nothing}
use Rattle.proof_tree.specs.declared.node.Node.{Node}
use Rattle.proof_tree.specs.declared.run.Run.{Run}
use Rattle.proof_tree.specs.declared.run.Why.{Why}
use Rattle.proof_tree.specs.declared.run.Why.TheVariants as why
use Rattle.proof_tree.specs.Proof.{Proof, given}
use Rattle.proof_tree.specs.Proves.{proof_walk}
use Rattle.proof_tree.specs.Views.{proof_of}
use Rattle.search.specs.declared.course.Course.{Course}
use Rattle.search.specs.declared.judge.Decided.{Decided}
use Rattle.search.specs.declared.judge.Decided.TheVariants as decided
use Rattle.search.specs.declared.judge.Found.{Found}
use Rattle.search.specs.declared.judge.Found.TheVariants as found
use Rattle.search.specs.declared.judge.Outcome.{Outcome}
use Rattle.search.specs.declared.judge.Outcome.TheVariants as outcome
use Rattle.search.specs.Course.{noted}
use Rattle.search.specs.Outcomes.{DecidesAs, EndsAs, IsRun, no_course, run_of, stopped_by}
use Rattle.search.specs.Rounds.{HasRoot, IsAnswer, IsOutcome, decided_of}
use Rattle.base_budget.specs.Ending.{ended, ending, ends_with}
use Rattle.search.specs.Run.{RunAnswer, canonical_run, invalid, saturated, too_long, valid}
use Rattle.search.specs.Walking.{Gets, IsKeptNode}
use Rattle.search.proofs.Nodes.{node_of, of_node}

-- ---- runs that are cut
run_is_there : (c : Course) (old new : Funds) (ms : List Mark) → c ≡ after_notes noted no_course ms → record { round = c.round; nodes = c.nodes; log = c.log; spent = new.spent - old.spent } ≡ run_of old (at new ms)
run_is_there c old new ms is = ap (λ (z : Course). record { round = z.round; nodes = z.nodes; log = z.log; spent = new.spent - old.spent }) is

pub gets_later : {A B : Type 0} {P : A → B → Type 0} {work : Traced A} {a b : Funds} {c d : Course} (r : Result B StepFault) → a.spent ≤ a.budget → Gets P work a c r b d → Later a b
gets_later (Ok y) funds m = let h = m.ok y refl in followed_later (Ok h.0) funds h.1
gets_later (Err e) funds m = followed_later (Err e) funds (m.err e refl)

pub run_made : (keeps : Bool) (f : Form) (n : ℕ) {old new : Funds} {c0 c : Course} (r : Result Found StepFault) → c0 ≡ no_course → Gets (IsAnswer keeps f n) (canonical_run f n old.budget) old c0 r new c → (spent : ℕ) → spent ≡ new.spent - old.spent
    → IsRun keeps f n old r (record { round = c.round; nodes = c.nodes; log = c.log; spent = spent }) new
run_made keeps f n {old} {new} {c0} {c} r begun did spent is = (
  c,
  subst (λ (z : Course). Gets (IsAnswer keeps f n) (canonical_run f n old.budget) old z r new c) begun did,
  ap (λ (z : ℕ). let out : Run = record { round = c.round; nodes = c.nodes; log = c.log; spent = z } in out) is,
)

-- the outcome of a run that is cut
abbrev with_run : Result Why Memory → Run → Result Outcome Memory
with_run (Ok y) run = Ok (outcome.Unknown y run)
with_run (Err m) run = Err m

stopped_ends : (f : Form) (n : ℕ) (old new : Funds) (c : Course) (e : StepFault) → Followed noted (canonical_run f n old.budget) old no_course (Err e) new c
    → EndsAs f n old (with_run (stopped_by e) (record { round = c.round; nodes = c.nodes; log = c.log; spent = new.spent - old.spent })) new
stopped_ends f n old new c step_fault.Steps h = (h.notes, ap (ended (canonical_run f n old.budget).value) (h.charged.steps refl).end, run_is_there c old new h.notes h.kept)
stopped_ends f n old new c (step_fault.Overflow p) h =
    let l = h.charged.overflow p refl in (h.notes, l.numbers, ap (ended (canonical_run f n old.budget).value) l.end, l.among, l.leaves, run_is_there c old new h.notes h.kept)
stopped_ends f n old new c step_fault.Memory h = (h.notes, h.charged.memory refl)

pub cut_end : (keeps : Bool) (f : Form) (n : ℕ) {old new : Funds} (e : StepFault) (y : Why) (run : Run) → IsRun keeps f n old (Err e) run new → Ok y ≡ stopped_by e → EndsAs f n old (Ok (outcome.Unknown y run)) new
cut_end keeps f n {old} {new} e y run did y_is =
    subst (λ (z : Result Why Memory). EndsAs f n old (with_run z run) new) (sym y_is) (subst (λ (z : Run). EndsAs f n old (with_run (stopped_by e) z) new) (sym did.2) (stopped_ends f n old new did.0 e (did.1.err e refl)))

memory_stop : (keeps : Bool) (f : Form) (n : ℕ) {old new : Funds} (e : StepFault) (m : Memory) (run : Run) → IsRun keeps f n old (Err e) run new → Err m ≡ stopped_by e → EndsAs f n old (Err m) new
memory_stop keeps f n {old} {new} e m run did m_is =
    subst (λ (z : Result Why Memory). EndsAs f n old (with_run z run) new) (sym m_is) (subst (λ (z : Run). EndsAs f n old (with_run (stopped_by e) z) new) (sym did.2) (stopped_ends f n old new did.0 e (did.1.err e refl)))

-- where memory runs out in the run
pub memory_cut : (keeps : Bool) (f : Form) (n : ℕ) {old new : Funds} (e : StepFault) (m : Memory) (run : Run) (r : Result Outcome Memory) → IsErrAnd r (λ x. x ≡ m) → IsRun keeps f n old (Err e) run new → Err m ≡ stopped_by e → EndsAs f n old r new
memory_cut keeps f n e m run (Ok o) h did m_is = absurd h
memory_cut keeps f n e m run (Err k) h did m_is = memory_stop keeps f n e m run did m_is

-- ---- runs that are not
-- where memory runs out for the outcome
memory_end : (f : Form) (n : ℕ) {old new : Funds} {c d : Course} (a : RunAnswer) (m : Memory) → Followed noted (canonical_run f n old.budget) old c (Ok a) new d → EndsAs f n old (Err m) new
memory_end f n {old} {new} a m did =
    let es = (canonical_run f n old.budget).events in
    (did.notes, record { before = es; after = []; whole = sym (append-nil es); stands = ap stand (did.charged.ok a refl).1.end })

run_ends : (f : Form) (n : ℕ) {old new : Funds} {c d : Course} (a : RunAnswer) (did : Followed noted (canonical_run f n old.budget) old c (Ok a) new d) → ending (canonical_run f n old.budget) (at old []) ≡ ends_with a (at new did.notes)
run_ends f n {old} {new} a did =
    let w = did.charged.ok a refl in
    ap (ended (canonical_run f n old.budget).value) w.1.end ∙ ap (λ v. ends_with v (at new did.notes)) (sym w.0)

valid_end : (f : Form) (n : ℕ) {old new : Funds} {c : Course} (a : RunAnswer) (vs : List ℤ) (x : Proof) (d : List (List Literal)) (charges : ℕ) (r : Node) → Followed noted (canonical_run f n old.budget) old no_course (Ok a) new c → a ≡ valid vs x
    → proof_of r ≡ x → d ≡ given x → charges ≡ total (proof_walk f n x (Solution vs)).events → EndsAs f n old (Ok (outcome.Valid d vs (record { charges = charges; root = r; conclusion = Solution vs }))) new
valid_end f n {new = new} a vs x d charges r did a_is r_is d_is charges_are =
    (did.notes, x, run_ends f n a did ∙ ap (λ z. ends_with z (at new did.notes)) a_is, d_is, record { root = r_is; conclusion = refl; charges = charges_are })

invalid_end : (f : Form) (n : ℕ) {old new : Funds} {c : Course} (a : RunAnswer) (log : ElimLog) (x : Proof) (d : List (List Literal)) (charges : ℕ) (r : Node) → Followed noted (canonical_run f n old.budget) old no_course (Ok a) new c
    → a ≡ invalid log.entries x → proof_of r ≡ x → d ≡ given x → charges ≡ total (proof_walk f n x (Nothing log)).events
    → EndsAs f n old (Ok (outcome.Invalid d (record { charges = charges; root = r; conclusion = Nothing log }))) new
invalid_end f n {new = new} a log x d charges r did a_is r_is d_is charges_are =
    (did.notes, log, x, run_ends f n a did ∙ ap (λ z. ends_with z (at new did.notes)) a_is, d_is, record { root = r_is; conclusion = refl; charges = charges_are })

saturated_end : (f : Form) (n : ℕ) {old new : Funds} {c : Course} (a : RunAnswer) (log : ElimLog) (x : Proof) (d : List (List Literal)) (charges : ℕ) (r : Node) → Followed noted (canonical_run f n old.budget) old no_course (Ok a) new c
    → a ≡ saturated log.entries x → proof_of r ≡ x → d ≡ given x → charges ≡ total (proof_walk f n x (Nothing log)).events
    → EndsAs f n old (Ok (outcome.Saturated d (record { charges = charges; root = r; conclusion = Nothing log }))) new
saturated_end f n {new = new} a log x d charges r did a_is r_is d_is charges_are =
    (did.notes, log, x, run_ends f n a did ∙ ap (λ z. ends_with z (at new did.notes)) a_is, d_is, record { root = r_is; conclusion = refl; charges = charges_are })

long_end : (f : Form) (n : ℕ) {old new : Funds} {c : Course} (a : RunAnswer) (run : Run) (did : Followed noted (canonical_run f n old.budget) old no_course (Ok a) new c) → a ≡ too_long → run ≡ run_of old (at new did.notes)
    → EndsAs f n old (Ok (outcome.Unknown why.Branch run)) new
long_end f n {new = new} a run did a_is run_is = (did.notes, run_ends f n a did ∙ ap (λ z. ends_with z (at new did.notes)) a_is, run_is)

-- ---- with a tree
kept_root : (x : Proof) (o : Option Node) (r : Node) → IsKeptNode true x o → o ≡ Some r → proof_of r ≡ x
kept_root x o r kept is = let e : Some (proof_of r) ≡ Some x = sym (ap (option_map proof_of) is) ∙ kept in cc

some_root : (x : Proof) (o : Option Node) → IsKeptNode true x o → IsSome o
some_root x None kept = absurd (cc)
some_root x (Some r) kept = refl

pub has_root : (f : Form) (n : ℕ) {old new : Funds} (a : Found) (run : Run) → IsRun true f n old (Ok a) run new → HasRoot a
has_root f n (found.Valid tree charges vs) run did = some_root (did.1.ok _ refl).2.0 tree.root (did.1.ok _ refl).2.2.root
has_root f n (found.Invalid tree charges log) run did = some_root (did.1.ok _ refl).2.0 tree.root (did.1.ok _ refl).2.2.root
has_root f n (found.Saturated tree charges log) run did = some_root (did.1.ok _ refl).2.0 tree.root (did.1.ok _ refl).2.2.root
has_root f n found.Branch run did = tt

found_cases : (f : Form) (n : ℕ) {old new : Funds} {c : Course} (a : RunAnswer) (x : Found) (run : Run) (did : Followed noted (canonical_run f n old.budget) old no_course (Ok a) new c) → run ≡ run_of old (at new did.notes)
    → IsAnswer true f n a x → (o : Outcome) → IsOutcome x run o → EndsAs f n old (Ok o) new
found_cases f n {old} {new} a (found.Valid tree charges vs) run did run_is is o o_is =
    subst (λ (z : Outcome). EndsAs f n old (Ok z) new) (sym o_is.2)
    (valid_end f n a vs is.0 tree.constraint charges o_is.0 did is.1 (kept_root is.0 tree.root o_is.0 (is.2).root o_is.1) (is.2).constraint (is.2).charges_are)
found_cases f n {old} {new} a (found.Invalid tree charges log) run did run_is is o o_is =
    subst (λ (z : Outcome). EndsAs f n old (Ok z) new) (sym o_is.2)
    (invalid_end f n a log is.0 tree.constraint charges o_is.0 did is.1 (kept_root is.0 tree.root o_is.0 (is.2).root o_is.1) (is.2).constraint (is.2).charges_are)
found_cases f n {old} {new} a (found.Saturated tree charges log) run did run_is is o o_is =
    subst (λ (z : Outcome). EndsAs f n old (Ok z) new) (sym o_is.2)
    (saturated_end f n a log is.0 tree.constraint charges o_is.0 did is.1 (kept_root is.0 tree.root o_is.0 (is.2).root o_is.1) (is.2).constraint (is.2).charges_are)
found_cases f n {old} {new} a found.Branch run did run_is is o o_is = subst (λ (z : Outcome). EndsAs f n old (Ok z) new) (sym o_is) (long_end f n a run did is run_is)

stands_there : (keeps : Bool) (f : Form) (n : ℕ) {old new : Funds} (a : Found) (run : Run) (did : IsRun keeps f n old (Ok a) run new) → run ≡ run_of old (at new (did.1.ok a refl).1.notes)
stands_there keeps f n {old} {new} a run did = did.2 ∙ run_is_there did.0 old new (did.1.ok a refl).1.notes (did.1.ok a refl).1.kept

pub found_end : (f : Form) (n : ℕ) {old new : Funds} (a : Found) (run : Run) (r : Result Outcome Memory) → IsRun true f n old (Ok a) run new → IfOk r (λ o. IsOutcome a run o) → EndsAs f n old r new
found_end f n a run (Ok o) did is = let h = did.1.ok a refl in found_cases f n h.0 a run h.1 (stands_there true f n a run did) h.2 o is
found_end f n a run (Err m) did is = let h = did.1.ok a refl in memory_end f n h.0 m h.1

-- ---- without one
pub bare_end : (f : Form) (n : ℕ) {old new : Funds} (a : Found) (run : Run) → IsRun false f n old (Ok a) run new → DecidesAs f n old (Ok (decided_of a run)) new
bare_end f n (found.Valid tree charges vs) run did =
    let h = did.1.ok _ refl in let is = h.2 in (Ok (outcome.Valid tree.constraint vs (record { charges = charges; root = node_of is.0; conclusion = Solution vs })), valid_end f n h.0 vs is.0 tree.constraint charges (node_of is.0) h.1 is.1 (of_node is.0) (is.2).constraint (is.2).charges_are, refl)
bare_end f n (found.Invalid tree charges log) run did =
    let h = did.1.ok _ refl in let is = h.2 in (Ok (outcome.Invalid tree.constraint (record { charges = charges; root = node_of is.0; conclusion = Nothing log })), invalid_end f n h.0 log is.0 tree.constraint charges (node_of is.0) h.1 is.1 (of_node is.0) (is.2).constraint (is.2).charges_are, refl)
bare_end f n (found.Saturated tree charges log) run did =
    let h = did.1.ok _ refl in let is = h.2 in (Ok (outcome.Saturated tree.constraint (record { charges = charges; root = node_of is.0; conclusion = Nothing log })), saturated_end f n h.0 log is.0 tree.constraint charges (node_of is.0) h.1 is.1 (of_node is.0) (is.2).constraint (is.2).charges_are, refl)
bare_end f n found.Branch run did = let h = did.1.ok _ refl in (Ok (outcome.Unknown why.Branch run), long_end f n h.0 run h.1 h.2 (stands_there false f n found.Branch run did), refl)

pub bare_cut : (f : Form) (n : ℕ) {old new : Funds} (e : StepFault) (y : Why) (run : Run) → IsRun false f n old (Err e) run new → Ok y ≡ stopped_by e → DecidesAs f n old (Ok (decided.Unknown y run)) new
bare_cut f n e y run did y_is = (Ok (outcome.Unknown y run), cut_end false f n e y run did y_is, refl)

pub bare_memory : (f : Form) (n : ℕ) {old new : Funds} (e : StepFault) (m : Memory) (run : Run) (r : Result Decided Memory) → IsErrAnd r (λ x. x ≡ m) → IsRun false f n old (Err e) run new → Err m ≡ stopped_by e → DecidesAs f n old r new
bare_memory f n e m run (Ok o) h did m_is = absurd h
bare_memory f n e m run (Err k) h did m_is = (Err k, memory_stop false f n e m run did m_is, refl)
