-- What a checked log answers, as the work of a walk.
use Rattle.std.proofs.Common.{◌≡◌, ◌∙◌, ℕ, suc, List, [], ◌∷◌, map, take, Option, Some, Result, Ok, Err, refl, sym, subst, arith, ◌+◌, ◌-◌}
use Rattle.linear_term.specs.declared.range.TermFault.{TermFault}
use Rattle.base_budget.specs.declared.log.Entry.{Entry}
use Rattle.base_budget.specs.declared.fault.StepFault.{StepFault}
use Rattle.base_budget.specs.declared.fault.StepFault.TheVariants as step_fault
use Rattle.base_budget.specs.Trace.{Funds, entry, new_log, Traced, just, next, note}
use Rattle.base_budget.specs.Work.{Charged, step_fault_of}
use Rattle.base_budget.specs.Followed.{Followed, after_notes, UnlessMemory}
use Rattle.base_budget.proofs.Following.{follow_ok, follow_fault, follow_just, follow_free, follow_note, follow_unnoted}
use Rattle.base_budget.proofs.Charging.{then_just}
use Rattle.base_budget.proofs.Tracing.{next-same, next-just, next-assoc}
use Rattle.clause_set.specs.declared.literal.Literal.{Literal}
use Rattle.formula.specs.Form.{Form}
use Rattle.formula.specs.Made.{Made}
use Rattle.formula.specs.Sizes.{depth}
use Rattle.elim_laws.specs.Logs.{Reader, rest, by_log, by_whole_log, go_on, read_next, reads_none, used_up, every_by_log}
use Rattle.elim_check.specs.Checked.{Checked, EndsAt}
use Rattle.elim_check.specs.Reading.{noted, reading}
use Rattle.elim_check.specs.declared.fault.LogFault.{LogFault}
use Rattle.elim_check.specs.declared.fault.LogFault.TheVariants as log_fault
use Rattle.proof_tree.specs.Walk.{in_new_log}
use Rattle.tree_checker.specs.Hand.{at_node, outcome}

-- ---- the notes of a log leave the node at hand

at_same : (n : ℕ) (log : List Entry) → n ≡ after_notes at_node n (map entry log)
at_same n [] = refl
at_same n (e ∷ log) = at_same n log

unless : {A P : Type 0} (r : Result A StepFault) → P → UnlessMemory r P
unless (Ok v) h = h
unless (Err step_fault.Steps) h = h
unless (Err (step_fault.Overflow p)) h = h
unless (Err step_fault.Memory) h = tt

ended_so : {A : Type 0} (m : Reader A) (log : List Entry) {a b : Funds} {r : Result (Option A) StepFault} {k : ℕ} (n : ℕ) → EndsAt m log a r k b → Followed at_node (by_whole_log m log) a n r b n
ended_so m log {r = r} {k = k} n h = record { notes = noted log k; charged = h.charged; kept = unless r (at_same n (take k log)) }

-- a call that checks a whole log does its work
pub log_followed : {A : Type 0} (m : Reader A) (log : List Entry) {a b : Funds} (t : Result A LogFault) {r : Result (Option A) StepFault} (n : ℕ) → Checked m log a t b → r ≡ outcome t
    → Followed at_node (by_whole_log m log) a n r b n
log_followed m log {a} {b} t n h is = subst (λ r. Followed at_node (by_whole_log m log) a n r b n) (sym is) (so t h)
  where
    so : (t : Result _ LogFault) → Checked m log a t b → Followed at_node (by_whole_log m log) a n (outcome t) b n
    so (Ok v) h = ended_so m log n h
    so (Err (log_fault.Entry k)) h = ended_so m log n h
    so (Err (log_fault.Cost k)) h = ended_so m log n h
    so (Err (log_fault.Range k p)) h = ended_so m log n h
    so (Err log_fault.Memory) h = ended_so m log n h.1

-- ---- work without a log

pub unlogged_ok : {A : Type 0} (w : Traced A) {a b : Funds} {v : A} (n : ℕ) → Charged w a (Ok v) b → Followed at_node (by_whole_log (reads_none w) []) a n (Ok (Some v)) b n
unlogged_ok w {v = v} n h =
    follow_ok (reads_none w []) (λ o. just (used_up o)) (follow_ok w (λ x. just (Some (rest x []))) (follow_unnoted (Ok v) h) (follow_just (Some (rest v [])) (Some (rest v [])) refl))
    (follow_just (used_up (Some (rest v []))) (Some v) refl)

pub unlogged_just : {A : Type 0} (x v : A) (b : Funds) (n : ℕ) → v ≡ x → Followed at_node (by_whole_log (reads_none (just x)) []) b n (Ok (Some v)) b n
unlogged_just x v b n same = unlogged_ok (just x) n (then_just x v same)

pub unlogged_err : {A : Type 0} (w : Traced A) {a b : Funds} {e : StepFault} (n : ℕ) → Charged w a (Err e) b → Followed at_node (by_whole_log (reads_none w) []) a n (Err e) b n
unlogged_err {A} w {e = e} n h = let r : Result A StepFault = Err e in follow_fault (reads_none w []) (λ o. just (used_up o)) (follow_fault w (λ x. just (Some (rest x []))) (follow_unnoted r h))

-- ---- the work in a log of its own
pub in_its_log : {A : Type 0} (w : Traced A) {a b : Funds} (r : Result A StepFault) (n : ℕ) → Followed at_node w a n r b n → Followed at_node (in_new_log w) a n r b n
in_its_log w (Ok v) n h = follow_note new_log (λ _. next w (λ x. next (note new_log) (λ _. just x))) refl
    (follow_ok w (λ x. next (note new_log) (λ _. just x)) h (follow_note new_log (λ _. just v) refl (follow_just v v refl)))
in_its_log w (Err e) n h = follow_note new_log (λ _. next w (λ x. next (note new_log) (λ _. just x))) refl (follow_fault w (λ x. next (note new_log) (λ _. just x)) h)

-- ---- first work without a log, then work by the whole log
pub whole_next : {A B : Type 0} (w : Traced A) (f : A → Reader B) (log : List Entry) → by_whole_log (read_next (reads_none w) f) log ≡ next w (λ x. by_whole_log (f x) log)
whole_next w f log =
    next-assoc (reads_none w log) (go_on f) (λ o. just (used_up o))
    ∙ next-assoc w (λ x. just (Some (rest x log))) (λ o. next (go_on f o) (λ p. just (used_up p)))
    ∙ next-same w (λ x. next (just (Some (rest x log))) (λ o. next (go_on f o) (λ p. just (used_up p)))) (λ x. by_whole_log (f x) log)
    (next-just (Some (rest w.value log)) (λ o. next (go_on f o) (λ p. just (used_up p))))

pub closed_ok : {A : Type 0} (view : A → Form) (w : Traced Form) (count : ℕ) (log : List Entry) {a b : Funds} {x : A} (r : Result (Option (List (List Literal))) StepFault) (n : ℕ) → Made view w (Ok x)
    → Followed at_node (by_whole_log (reading count (view x)) log) a n r b n → Followed at_node (by_whole_log (read_next (reads_none w) (λ f. by_log (suc (depth f)) count f)) log) a n r b n
unfolding reading
closed_ok view w count log {a} {b} {x} r n made h =
    subst (λ t. Followed at_node t a n r b n) (sym (whole_next w (λ f. by_log (suc (depth f)) count f) log))
    (follow_ok w (λ f. by_whole_log (by_log (suc (depth f)) count f) log) (follow_free (Ok (view x)) made.works) h)

pub closed_err : {A : Type 0} (view : A → Form) (w : Traced Form) (count : ℕ) (log : List Entry) {a : Funds} (e : TermFault) {d : StepFault} (n : ℕ) → Made view w (Err e) → d ≡ step_fault_of e
    → Followed at_node (by_whole_log (read_next (reads_none w) (λ f. by_log (suc (depth f)) count f)) log) a n (Err d) a n
closed_err view w count log {a} e {d} n made is =
    let r : Result Form StepFault = Err (step_fault_of e) in
    subst (λ (x : StepFault). Followed at_node (by_whole_log (read_next (reads_none w) (λ f. by_log (suc (depth f)) count f)) log) a n (Err x) a n) (sym is)
    (subst (λ t. Followed at_node t a n (Err (step_fault_of e)) a n) (sym (whole_next w (λ f. by_log (suc (depth f)) count f) log))
    (follow_fault w (λ f. by_whole_log (by_log (suc (depth f)) count f) log) (follow_free r made.works)))

-- ---- every value of the name that comes last
pub every_followed : (count : ℕ) (d e : List (List Literal)) (log : List Entry) {a b : Funds} (t : Result (List (List Literal)) LogFault) {r : Result (Option (List (List Literal))) StepFault} (n : ℕ)
    → Checked (every_by_log (count + 1 - 1) d) log a t b → r ≡ outcome t → d ≡ e → Followed at_node (by_whole_log (every_by_log count e) log) a n r b n
every_followed count d e log {a} {b} t {r} n h is same =
    let one : count + 1 - 1 ≡ count = omega arith in
    subst (λ x. Followed at_node (by_whole_log (every_by_log count x) log) a n r b n) same
    (log_followed (every_by_log count d) log t n (subst (λ k. Checked (every_by_log k d) log a t b) one h) is)
