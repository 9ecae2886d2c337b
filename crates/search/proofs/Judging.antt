-- One round, by the calls that make it.
use Rattle.std.proofs.Common.{◌≡◌, ℕ, ◌+◌, ◌-◌, ◌≤◌, ℤ, Bool, true, false, cond, List, refl, sym, ◌∙◌, ap, subst, arith, Option, Some, None, Result, Ok, Err, IsErrAnd}
use Rattle.base_budget.specs.declared.fault.StepFault.{StepFault}
use Rattle.base_budget.specs.declared.fault.StepFault.TheVariants.{Memory}
use Rattle.base_budget.specs.declared.log.ElimLog.{ElimLog}
use Rattle.base_budget.specs.Followed.{Followed}
use Rattle.base_budget.specs.Runs.{total}
use Rattle.base_budget.specs.Trace.{Funds, At, Traced, just, next, round, step}
use Rattle.base_budget.proofs.Advancing.{followed_whole}
use Rattle.base_budget.proofs.Following.{follow_err, follow_just, follow_note, follow_ok, followed_value}
use Rattle.base_budget.proofs.Tracing.{next-assoc, next-just, next-same}
use Rattle.clause_set.specs.declared.literal.Literal.{Literal}
use Rattle.elim_laws.specs.Logs.{entries_of}
use Rattle.elim_laws.specs.Whole.{AreOver, names_out}
use Rattle.formula.specs.Form.{Form, IsFormOver, is_pure}
use Rattle.parameter_solver.specs.declared.solving.Solved.{Solved}
use Rattle.sequent.specs.Sequent.{Sequent}
use Rattle.sequent.proofs.Forming.{start_formed}
use Rattle.solve_laws.specs.Solutions.{solving}
use Rattle.proof_tree.specs.declared.node.Conclusion.{Conclusion}
use Rattle.proof_tree.specs.declared.node.Conclusion.TheVariants.{Nothing, Solution}
use Rattle.proof_tree.specs.Proof.{Proof, given}
use Rattle.proof_tree.specs.Proves.{proof_walk, start}
use Rattle.proof_tree.specs.Reduced.{IsReducedSequent}
use Rattle.proof_tree.specs.Walk.{in_new_log}
use Rattle.search.specs.declared.course.Course.{Course}
use Rattle.search.specs.declared.judge.Found.{Found}
use Rattle.search.specs.declared.judge.Found.TheVariants as found
use Rattle.search.specs.declared.walk.Built.{Built}
use Rattle.search.specs.Building.{built}
use Rattle.search.specs.Course.{noted}
use Rattle.search.specs.Rounds.{IsAnswer, IsTreeOf, found_by, solved_of, solving_of}
use Rattle.search.specs.Run.{RunAnswer, concluded, has_open_leaf, invalid, judged, one_round, saturated, too_long}
use Rattle.base_limits.specs.Limits.{branch_limit}
use Rattle.search.specs.Walking.{IsGrown, Makes}
use Rattle.search.proofs.Charges.{invalid_charges, saturated_charges, solving_charges, valid_charges}
use Rattle.search.proofs.Given.{built-given}
use Rattle.search.proofs.Growing.{made_none, made_some, makes_err, makes_memory}

-- ---- what is found
-- an answer or none, and what was found or nothing
abbrev IsFinding : Bool → Form → ℕ → Option RunAnswer → Option Found → Type 0
IsFinding keeps f n (Some a) (Some x) = IsAnswer keeps f n a x
IsFinding keeps f n None None = Unit {0}
IsFinding keeps f n (Some a) None = ⊥
IsFinding keeps f n None (Some x) = ⊥

lost_is : (keeps : Bool) (f : Form) (n : ℕ) (x : Proof) (b : Built) (charged spent : ℕ) (log : ElimLog) (p o : Bool) → b.has_open ≡ o → (p ≡ true → IsTreeOf keeps f n x (Nothing log) b spent) → (p ≡ false → IsTreeOf keeps f n x (Nothing log) b charged)
    → IsFinding keeps f n (cond p (Some (invalid log.entries x)) (cond o None (Some (saturated log.entries x)))) (cond p (Some (found.Invalid b spent log)) (cond o None (Some (found.Saturated b charged log))))
lost_is keeps f n x b charged spent log true o is pure other = (x, refl, pure refl)
lost_is keeps f n x b charged spent log false true is pure other = tt
lost_is keeps f n x b charged spent log false false is pure other = (x, refl, other refl)

-- ---- the charges
tree_of : (keeps : Bool) (f : Form) (n : ℕ) (x : Proof) (c : Conclusion) (b : Built) (charges : ℕ) → IsGrown keeps (start f n) x b → charges ≡ total (proof_walk f n x c).events → IsTreeOf keeps f n x c b charges
tree_of keeps f n x c b charges grown is = record { root = grown.root; constraint = grown.constraint; charges_are = is }

found_is : (keeps : Bool) (f : Form) (n k : ℕ) (x : Proof) (b : Built) (charged spent : ℕ) (a : Option (List ℤ)) → IsGrown keeps (start f n) x b → (built k branch_limit 0 (start f n)).value ≡ Some x → a ≡ (solving n (given x)).value
    → charged ≡ total (built k branch_limit 0 (start f n)).events → spent ≡ total (built k branch_limit 0 (start f n)).events + total (solving n (given x)).events
    → IsFinding keeps f n (concluded f n x a) (found_by f b charged spent (solved_of n (given x) a))
found_is keeps f n k x b charged spent (Some vs) grown is a_is charged_is spent_is = (x, refl, tree_of keeps f n x (Solution vs) b charged grown (charged_is ∙ valid_charges f n k x vs is))
found_is keeps f n k x b charged spent None grown is a_is charged_is spent_is =
    let log : ElimLog = record { entries = entries_of (names_out n (given x)).events } in
    subst (λ o. IsFinding keeps f n (concluded f n x None) (cond (is_pure f) (Some (found.Invalid b spent log)) (cond o None (Some (found.Saturated b charged log))))) (sym grown.has_open)
    (lost_is keeps f n x b charged spent log (is_pure f) (has_open_leaf (start f n) x) grown.has_open (λ pure. tree_of keeps f n x (Nothing log) b spent grown (spent_is ∙ invalid_charges f n k x pure is (sym a_is)))
    (λ other. tree_of keeps f n x (Nothing log) b charged grown (charged_is ∙ saturated_charges f n k x log other is)))

-- ---- the calls of a round
-- the tree is that of the formula, and its first node has the number 0
pub of_round : (f : Form) (n k : ℕ) (q : Sequent) {a b : Funds} (c : Course) {c1 d : Course} (r : Result (Option Proof) StepFault) → q ≡ start f n → c1 ≡ noted c (round k) → Followed noted (built k branch_limit c1.nodes q) a c1 r b d
    → Followed noted (built k branch_limit 0 (start f n)) a c1 r b d
of_round f n k q {a} {b} c {c1} {d} r q_is is h =
    subst (λ m. Followed noted (built k branch_limit m (start f n)) a c1 r b d) (ap (λ (z : Course). z.nodes) is) (subst (λ (s : Sequent). Followed noted (built k branch_limit c1.nodes s) a c1 r b d) q_is h)

pub round_memory : (f : Form) (n k : ℕ) {a : Funds} (c : Course) {c1 d : Course} {P : RunAnswer → Found → Type 0} (r : Result (Option Found) StepFault) → c1 ≡ noted c (round k) → IsErrAnd r (λ x. x ≡ Memory) → Makes P (one_round f n k) a c r a d
round_memory f n k c r is err = makes_memory r err

pub round_cut : (f : Form) (n k : ℕ) {a b : Funds} (c : Course) {c1 d : Course} {e : StepFault} {P : RunAnswer → Found → Type 0} (r : Result (Option Found) StepFault) → c1 ≡ noted c (round k) → IsErrAnd r (λ x. x ≡ e)
    → Followed noted (built k branch_limit 0 (start f n)) a c1 (Err e) b d → Makes P (one_round f n k) a c r b d
round_cut f n k c {e = e} r is err h = makes_err e r err (follow_note (round k) _ is (follow_err (built k branch_limit 0 (start f n)) (judged f n) (Err e) refl h))

pub round_long : (f : Form) (n k : ℕ) {a b : Funds} (c : Course) {c1 d : Course} → c1 ≡ noted c (round k) → Followed noted (built k branch_limit 0 (start f n)) a c1 (Ok None) b d → Followed noted (one_round f n k) a c (Ok (Some too_long)) b d
round_long f n k c is h = follow_note (round k) _ is (follow_ok (built k branch_limit 0 (start f n)) (judged f n) h (follow_just (Some too_long) (Some too_long) refl))

-- the solution of the constraint of the tree, as the definition has it
solved_work : (n : ℕ) (d : List (List Literal)) (g : Solved → Traced (Option RunAnswer)) (h : Option (List ℤ) → Traced (Option RunAnswer)) → ((a : Option (List ℤ)) → a ≡ (solving n d).value → g (solved_of n d a) ≡ h a)
    → next (solving_of n d) g ≡ next (in_new_log (solving n d)) h
unfolding next step just
solved_work n d g h same =
    let w = in_new_log (solving n d) in
    next-assoc w (λ a. just (solved_of n d a)) g ∙ next-same w (λ a. next (just (solved_of n d a)) g) h (next-just (solved_of n d w.value) g ∙ same w.value refl)

solving_value : (n : ℕ) (d : List (List Literal)) → (solving_of n d).value ≡ solved_of n d (solving n d).value
unfolding next just
solving_value n d = refl

-- the judgement of a tree whose constraint was solved, or was not
as_judged : (f : Form) (n : ℕ) (x : Proof) {a b : Funds} {c d : Course} {r : Result (Option RunAnswer) StepFault}
    → Followed noted (next (solving_of n (given x)) (λ v. just (concluded f n x (solving n (given x)).value))) a c r b d → Followed noted (judged f n (Some x)) a c r b d
as_judged f n x {a} {b} {c} {d} {r} h =
    subst (λ (w : Traced (Option RunAnswer)). Followed noted w a c r b d)
    (solved_work n (given x) (λ v. just (concluded f n x (solving n (given x)).value)) (λ a. just (concluded f n x a)) (λ a is. ap (λ o. just (concluded f n x o)) (sym is))) h

unsolved : (f : Form) (n : ℕ) (x : Proof) {b g : Funds} {d h : Course} {e : StepFault} → Followed noted (solving_of n (given x)) b d (Err e) g h → Followed noted (judged f n (Some x)) b d (Err e) g h
unsolved f n x {e = e} s = as_judged f n x (follow_err (solving_of n (given x)) _ (Err e) refl s)

judged_to : (f : Form) (n : ℕ) (x : Proof) (v : Solved) {b g : Funds} {d h : Course} → Followed noted (solving_of n (given x)) b d (Ok v) g h → Followed noted (judged f n (Some x)) b d (Ok (concluded f n x (solving n (given x)).value)) g h
judged_to f n x v s =
    let o = concluded f n x (solving n (given x)).value in as_judged f n x (follow_ok (solving_of n (given x)) _ s (follow_just o o refl))

finding : (keeps : Bool) (f : Form) (n : ℕ) (work : Traced (Option RunAnswer)) (o : Option Found) (a : Option RunAnswer) {old new : Funds} {c d : Course} → Followed noted work old c (Ok a) new d → IsFinding keeps f n a o → Makes (IsAnswer keeps f n) work old c (Ok o) new d
finding keeps f n work (Some x) (Some a) h is = made_some a x h is
finding keeps f n work None None h is = made_none h
finding keeps f n work (Some x) None h is = absurd is
finding keeps f n work None (Some a) h is = absurd is

pub round_unsolved : (f : Form) (n k : ℕ) (x : Proof) (ds : List (List Literal)) {a b g : Funds} (c : Course) {c1 d h : Course} {e : StepFault} {P : RunAnswer → Found → Type 0} (r : Result (Option Found) StepFault) → c1 ≡ noted c (round k) → ds ≡ given x
    → IsErrAnd r (λ y. y ≡ e) → Followed noted (built k branch_limit 0 (start f n)) a c1 (Ok (Some x)) b d → Followed noted (solving_of n ds) b d (Err e) g h → Makes P (one_round f n k) a c r g h
round_unsolved f n k x ds {a} {b} {g} c {c1} {d} {h} {e} r is ds_is err w s =
    let v = subst (λ (z : List (List Literal)). Followed noted (solving_of n z) b d (Err e) g h) ds_is s in
    makes_err e r err (follow_note (round k) _ is (follow_ok (built k branch_limit 0 (start f n)) (judged f n) w (unsolved f n x v)))

pub round_judged : (keeps : Bool) (f : Form) (n k : ℕ) (x : Proof) (t : Built) (v : Solved) (charged spent before : ℕ) {a b g : Funds} (c : Course) {c1 d h : Course} (o : Option Found) → c1 ≡ noted c (round k) → a.spent ≤ a.budget
    → IsGrown keeps (start f n) x t → Followed noted (built k branch_limit 0 (start f n)) a c1 (Ok (Some x)) b d → b.spent ≤ b.budget → Followed noted (solving_of n t.constraint) b d (Ok v) g h → before ≡ a.spent → charged ≡ b.spent - before
    → spent ≡ g.spent - before → o ≡ found_by f t charged spent v → Makes (IsAnswer keeps f n) (one_round f n k) a c (Ok o) g h
round_judged keeps f n k x t v charged spent before {a} {b} {g} c {c1} {d} {h} o is funds grown w within s before_is charged_is spent_is o_is =
    let u = subst (λ (z : List (List Literal)). Followed noted (solving_of n z) b d (Ok v) g h) grown.constraint s in
    let first : b.spent ≡ a.spent + total (built k branch_limit 0 (start f n)).events = ap (λ (z : At). z.funds.spent) (followed_whole noted (built k branch_limit 0 (start f n)) a b c1 d (Some x) funds w).1.stands in
    let second : g.spent ≡ b.spent + total (solving_of n (given x)).events = ap (λ (z : At). z.funds.spent) (followed_whole noted (solving_of n (given x)) b g d h v within u).1.stands in
    let same = solving_charges n (given x) in
    let v_is : v ≡ solved_of n (given x) (solving n (given x)).value = followed_value u ∙ solving_value n (given x) in
    let find = found_is keeps f n k x t charged spent (solving n (given x)).value grown (sym (followed_value w)) refl (omega (arith, before_is, charged_is, first)) (omega (arith, before_is, spent_is, first, second, same)) in
    finding keeps f n (one_round f n k) o (concluded f n x (solving n (given x)).value)
    (follow_note (round k) _ is (follow_ok (built k branch_limit 0 (start f n)) (judged f n) w (judged_to f n x v u)))
    (subst (λ (z : Option Found). IsFinding keeps f n (concluded f n x (solving n (given x)).value) z) (sym (o_is ∙ ap (λ z. found_by f t charged spent z) v_is)) find)

-- ---- its tree
-- the constraint of the tree is over the constants of the formula
pub tree_over : (keeps : Bool) (f : Form) (n k : ℕ) (q : Sequent) (x : Proof) (t : Built) {a b : Funds} {c d : Course} → q ≡ start f n → IsFormOver n f → IsReducedSequent q → IsGrown keeps (start f n) x t
    → Followed noted (built k branch_limit 0 (start f n)) a c (Ok (Some x)) b d → AreOver n t.constraint
tree_over keeps f n k q x t is over reduced grown w =
    let all = built-given k branch_limit 0 (start f n) x (start_formed f n over) (subst IsReducedSequent is reduced) (sym (followed_value w)) in
    subst (AreOver n) (sym grown.constraint) all.over
