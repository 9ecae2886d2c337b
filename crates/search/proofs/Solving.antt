-- Calls that eliminate, within a run.
use Rattle.std.proofs.Common.{◌≡◌, ℕ, ℤ, cond, nat_le, Bool, true, false, List, [], ◌∷◌, ◌++◌, map, refl, sym, ◌∙◌, ap, subst, append_assoc, Option, Some, None, Ok, Err}
use Rattle.std.proofs.lemmas.List.{append-nil}
use Rattle.std.specs.List.{AllByRecursion}
use Rattle.linear_term.specs.Range.{all_stay}
use Rattle.base_budget.specs.declared.log.Entry.{Entry}
use Rattle.base_budget.specs.declared.log.ElimLog.{ElimLog}
use Rattle.base_budget.specs.declared.fault.StepFault.{StepFault}
use Rattle.base_budget.specs.declared.fault.ElimFault.{ElimFault}
use Rattle.base_budget.specs.declared.fault.ElimFault.TheVariants.{Steps, Overflow, Memory}
use Rattle.base_budget.specs.Followed.{after_notes, Followed}
use Rattle.base_budget.specs.Runs.{notes}
use Rattle.base_budget.specs.Trace.{Funds, Mark, entry, new_log, round, enter, back, Event, charge, raw, mark, At, at, End, done, refused, out_of_range, cut, stand, after_charge, after_mark, Traced, just}
use Rattle.base_budget.specs.Work.{ChargedAt, Logged, marks_of}
use Rattle.base_budget.proofs.Following.{follow_ok, follow_fault, follow_just, follow_note}
use Rattle.clause_set.specs.declared.literal.Literal.{Literal}
use Rattle.clause_set.proofs.Divisors.{kept-append}
use Rattle.elim_laws.specs.Logs.{IsOfLog, NotesLogs, entries_of}
use Rattle.elim_laws.specs.Whole.{names_out}
use Rattle.parameter_solver.specs.Logs.{in_log, Solves}
use Rattle.parameter_solver.specs.declared.solving.Solved.{Solved}
use Rattle.parameter_solver.specs.declared.solving.Solved.TheVariants as solved
use Rattle.sequent.specs.declared.member.Pick.{Pick}
use Rattle.sequent.specs.Sequent.{Sequent}
use Rattle.solve_laws.specs.Solutions.{solving}
use Rattle.solve_laws.proofs.Noting.{solving_logs}
use Rattle.proof_tree.specs.Walk.{in_new_log}
use Rattle.search.specs.declared.course.Course.{Course}
use Rattle.search.specs.Building.{canonical_constraint}
use Rattle.search.specs.Course.{no_log, logged, noted, Eliminates, cause_of, cut_at}
use Rattle.search.specs.Walking.{making}
use Rattle.search.specs.Rounds.{solved_of, solving_of}

-- ---- within a run
-- notes of logs change the log alone
log_alone : (c : Course) (ms : List Mark) → AllByRecursion IsOfLog ms → after_notes noted c ms ≡ record { round = c.round; nodes = c.nodes; log = after_notes logged c.log ms }
log_alone c [] h = refl
log_alone c (entry e ∷ ms) h = log_alone (noted c (entry e)) ms h.1
log_alone c (new_log ∷ ms) h = log_alone (noted c new_log) ms h.1
log_alone c (round k ∷ ms) h = absurd h.0
log_alone c (enter n ∷ ms) h = absurd h.0
log_alone c (back n ∷ ms) h = absurd h.0

eliminates_ok : {A : Type 0} (w : Traced A) {a b : Funds} {c d : Course} {v : A} → Eliminates w a (Ok v) b → d ≡ noted c new_log → Followed noted (in_new_log w) a c (Ok v) b d
eliminates_ok w {b = b} {c = c} {d = d} {v = v} h is =
    let ms = h.0 in
    let end : noted (after_notes noted d ms) new_log ≡ d = ap (λ (z : Course). noted z new_log) (log_alone d ms h.1) ∙ ap (λ (z : Course). noted z new_log) is ∙ sym is in
    follow_note new_log _ is
    (follow_ok w _ {t = after_notes noted d ms} (record { notes = ms; charged = h.2; kept = refl })
    (follow_note new_log _ {u = noted (after_notes noted d ms) new_log} refl
    (subst (λ (z : Course). Followed noted (just v) b (noted (after_notes noted d ms) new_log) (Ok v) b z) end (follow_just v v refl))))

-- the course e, with the log of the elimination that was cut
kept_log : (c e d : Course) (ms : List Mark) (log : ElimLog) → AllByRecursion IsOfLog ms → log ≡ after_notes logged no_log ms → e ≡ noted c new_log → d ≡ record { round = e.round; nodes = e.nodes; log = log } → d ≡ after_notes noted e ms
kept_log c e d ms log h log_is e_is d_is =
    let begun : e.log ≡ no_log = ap (λ (z : Course). z.log) e_is in
    d_is ∙ ap (λ (l : ElimLog). record { round = e.round; nodes = e.nodes; log = l }) (log_is ∙ ap (λ (l : ElimLog). after_notes logged l ms) (sym begun)) ∙ sym (log_alone e ms h)

err_cases : {A : Type 0} (w : Traced A) {a b : Funds} (c e : Course) (f : ElimFault) → Eliminates w a (Err f) b → e ≡ noted c new_log → Followed noted (in_new_log w) a c (Err (cause_of f)) b (cut_at e f)
err_cases w c e (Steps log) h e_is = follow_note new_log _ {u = e} e_is (follow_fault w _ (record { notes = h.0; charged = h.2; kept = kept_log c e (cut_at e (Steps log)) h.0 log h.1 h.3 e_is refl }))
err_cases w c e (Overflow log p) h e_is =
    follow_note new_log _ {u = e} e_is (follow_fault w _ (record { notes = h.0; charged = h.2; kept = kept_log c e (cut_at e (Overflow log p)) h.0 log h.1 h.3 e_is refl }))
err_cases w c e Memory h e_is = follow_note new_log _ {u = e} e_is (follow_fault w _ (record { notes = h.0; charged = h.1; kept = tt }))

eliminates_err : {A : Type 0} (w : Traced A) {a b : Funds} {c d : Course} (e : Course) (f : ElimFault) {x : StepFault} → Eliminates w a (Err f) b → e ≡ noted c new_log → x ≡ cause_of f → d ≡ cut_at e f → Followed noted (in_new_log w) a c (Err x) b d
eliminates_err w {a} {b} {c} {d} e f {x} h e_is x_is d_is =
    subst (λ (y : StepFault). Followed noted (in_new_log w) a c (Err y) b d) (sym x_is) (subst (λ (z : Course). Followed noted (in_new_log w) a c (Err (cause_of f)) b z) (sym d_is) (err_cases w c e f h e_is))

-- ---- one log
entries_logs : (es : List Entry) → AllByRecursion IsOfLog (map entry es)
entries_logs [] = tt
entries_logs (e ∷ es) = (tt, entries_logs es)

log_after : (before es : List Entry) → record { entries = before ++ es } ≡ after_notes logged (record { entries = before }) (map entry es)
log_after before [] = ap (λ (xs : List Entry). record { entries = xs }) (append-nil before)
log_after before (e ∷ es) = ap (λ (xs : List Entry). record { entries = xs }) (sym (append_assoc before (e ∷ []) es)) ∙ log_after (before ++ e ∷ []) es

logged_err : {A : Type 0} (m : Traced A) (a b : Funds) (f : ElimFault) → Logged m a (Err f) b → Eliminates m a (Err f) b
logged_err m a b (Steps log) h = (marks_of log, entries_logs log.entries, h, log_after [] log.entries)
logged_err m a b (Overflow log p) h = (marks_of log, entries_logs log.entries, h, log_after [] log.entries)
logged_err m a b Memory h = h

-- the notes of a run that passes are those of its events
pass_marks : (es : List Event) (a b : At) → cut es a ≡ done b → b.marks ≡ a.marks ++ notes es
unfolding cut
pass_marks [] a b h = let same : a ≡ b = cc in ap (λ (z : At). z.marks) (sym same) ∙ sym (append-nil a.marks)
pass_marks (charge n ∷ es) a b h = by (nat_le _ a.funds.budget) (pass_marks es (after_charge n a) b) h
  where
    by : (t : Bool) → (cut es (after_charge n a) ≡ done b → b.marks ≡ a.marks ++ notes es) → cond t (cut es (after_charge n a)) (refused a) ≡ done b → b.marks ≡ a.marks ++ notes es
    by true f k = f k
    by false f k = absurd (cc)
pass_marks (raw ps ∷ es) a b h = by (all_stay ps) (pass_marks es a b) h
  where
    by : (t : Bool) → (cut es a ≡ done b → b.marks ≡ a.marks ++ notes es) → cond t (cut es a) (out_of_range ps a) ≡ done b → b.marks ≡ a.marks ++ notes es
    by true f k = f k
    by false f k = absurd (cc)
pass_marks (mark m ∷ es) a b h = pass_marks es (after_mark m a) b h ∙ append_assoc a.marks (m ∷ []) (notes es)

-- the entries among notes
entries_in : List Mark → List Entry
entries_in [] = []
entries_in (entry e ∷ ms) = e ∷ entries_in ms
entries_in (new_log ∷ ms) = entries_in ms
entries_in (round k ∷ ms) = entries_in ms
entries_in (enter n ∷ ms) = entries_in ms
entries_in (back n ∷ ms) = entries_in ms

entries_are : (es : List Event) → entries_of es ≡ entries_in (notes es)
unfolding entries_in
entries_are [] = refl
entries_are (charge n ∷ es) = entries_are es
entries_are (raw ps ∷ es) = entries_are es
entries_are (mark (entry e) ∷ es) = ap (λ (xs : List Entry). e ∷ xs) (entries_are es)
entries_are (mark new_log ∷ es) = entries_are es
entries_are (mark (round k) ∷ es) = entries_are es
entries_are (mark (enter n) ∷ es) = entries_are es
entries_are (mark (back n) ∷ es) = entries_are es

entries_back : (es : List Entry) → entries_in (map entry es) ≡ es
unfolding entries_in
entries_back [] = refl
entries_back (e ∷ es) = ap (λ (xs : List Entry). e ∷ xs) (entries_back es)

-- a log has the entries that its work notes
entries_added : {A : Type 0} (w : Traced A) (es : List Entry) (v : A) {a b : Funds} → ChargedAt w (at a []) (Ok v) (at b (map entry es)) → es ≡ entries_of w.events
entries_added w es v {a} {b} h = sym (entries_are w.events ∙ ap entries_in (sym (pass_marks w.events (at a []) (at b (map entry es)) (h.ok v refl).1.end)) ∙ entries_back es)

pub made_ok : (s : Sequent) (p : Pick) (ds : List (List (List Literal))) {a b : Funds} {c d : Course} (r : List (List Literal) × ElimLog) → Logged (canonical_constraint s p ds) a (Ok r) b → d ≡ noted c new_log
    → Followed noted (making s p ds) a c (Ok r) b d
made_ok s p ds r h is =
    let w = canonical_constraint s p ds in
    let log : r.1.entries ≡ entries_of w.events = entries_added w r.1.entries r.0 h in
    follow_ok (in_new_log w) _ (eliminates_ok w (marks_of r.1, entries_logs r.1.entries, h) is) (follow_just (r.0, record { entries = entries_of w.events }) r (ap (λ es. (r.0, record { entries = es })) log))

pub made_err : (s : Sequent) (p : Pick) (ds : List (List (List Literal))) {a b : Funds} {c d : Course} (e : Course) (f : ElimFault) {x : StepFault} → Logged (canonical_constraint s p ds) a (Err f) b → e ≡ noted c new_log
    → x ≡ cause_of f → d ≡ cut_at e f → Followed noted (making s p ds) a c (Err x) b d
made_err s p ds e f h e_is x_is d_is = follow_fault (in_new_log (canonical_constraint s p ds)) _ (eliminates_err (canonical_constraint s p ds) e f (logged_err (canonical_constraint s p ds) _ _ f h) e_is x_is d_is)

-- ---- solving
-- the notes of a run are of logs, as far as it came
stand_logs : (es : List Event) (a : At) → AllByRecursion IsOfLog a.marks → AllByRecursion IsOfLog (notes es) → AllByRecursion IsOfLog (stand (cut es a)).marks
unfolding cut
stand_logs [] a h k = h
stand_logs (charge n ∷ es) a h k = by (nat_le _ a.funds.budget) (stand_logs es (after_charge n a) h k)
  where
    by : (t : Bool) → AllByRecursion IsOfLog (stand (cut es (after_charge n a))).marks → AllByRecursion IsOfLog (stand (cond t (cut es (after_charge n a)) (refused a))).marks
    by true g = g
    by false g = h
stand_logs (raw ps ∷ es) a h k = by (all_stay ps) (stand_logs es a h k)
  where
    by : (t : Bool) → AllByRecursion IsOfLog (stand (cut es a)).marks → AllByRecursion IsOfLog (stand (cond t (cut es a) (out_of_range ps a))).marks
    by true g = g
    by false g = h
stand_logs (mark m ∷ es) a h k = stand_logs es (after_mark m a) (kept-append IsOfLog a.marks (m ∷ []) h (k.0, tt)) k.1

end_logs : {A : Type 0} (w : Traced A) (a b : Funds) (e : End) {ms : List Mark} → NotesLogs w → cut w.events (at a []) ≡ e → stand e ≡ at b ms → AllByRecursion IsOfLog ms
end_logs w a b e n h is = subst (λ (z : At). AllByRecursion IsOfLog z.marks) (ap stand h ∙ is) (stand_logs w.events (at a []) tt n.logs)

ends_logs : {A : Type 0} (w : Traced A) (a b : Funds) {ms : List Mark} → NotesLogs w → cut w.events (at a []) ≡ done (at b ms) → AllByRecursion IsOfLog ms
ends_logs w a b {ms} n h = end_logs w a b (done (at b ms)) n h refl

-- the two ways to keep a log agree
log_both : (es : List Entry) (ms : List Mark) → record { entries = after_notes in_log es ms } ≡ after_notes logged (record { entries = es }) ms
log_both es [] = refl
log_both es (entry e ∷ ms) = log_both (es ++ e ∷ []) ms
log_both es (new_log ∷ ms) = log_both [] ms
log_both es (round k ∷ ms) = log_both es ms
log_both es (enter n ∷ ms) = log_both es ms
log_both es (back n ∷ ms) = log_both es ms

solves_err : (w : Traced (Option (List ℤ))) (a b : Funds) (f : ElimFault) → NotesLogs w → Solves w a (Err f) b → Eliminates w a (Err f) b
solves_err w a b (Steps log) n h = (h.notes, end_logs w a b (refused (at b h.notes)) n (h.charged.steps refl).end refl, h.charged, ap (λ (xs : List Entry). record { entries = xs }) h.kept ∙ log_both [] h.notes)
solves_err w a b (Overflow log p) n h =
    let l = h.charged.overflow p refl in (h.notes, end_logs w a b (out_of_range l.numbers (at b h.notes)) n l.end refl, h.charged, ap (λ (xs : List Entry). record { entries = xs }) h.kept ∙ log_both [] h.notes)
solves_err w a b Memory n h = (h.1.notes, h.1.charged)

pub solution_err : (n : ℕ) (d : List (List Literal)) {a b : Funds} {c k : Course} (e : Course) (f : ElimFault) {x : StepFault} → Solves (solving n d) a (Err f) b → e ≡ noted c new_log → x ≡ cause_of f → k ≡ cut_at e f
    → Followed noted (solving_of n d) a c (Err x) b k
solution_err n d e f h e_is x_is k_is = follow_fault (in_new_log (solving n d)) _ (eliminates_err (solving n d) e f (solves_err (solving n d) _ _ f (solving_logs n d) h) e_is x_is k_is)

found : (n : ℕ) (d : List (List Literal)) {a b : Funds} {c k : Course} (o : Option (List ℤ)) (s : List Entry) (v : Solved) → Followed in_log (solving n d) a [] (Ok o) b s → k ≡ noted c new_log → v ≡ solved_of n d o
    → Followed noted (solving_of n d) a c (Ok v) b k
found n d {a} o s v h is v_is =
    follow_ok (in_new_log (solving n d)) _ (eliminates_ok (solving n d) (h.notes, ends_logs (solving n d) a _ (solving_logs n d) (h.charged.ok o refl).1.end, h.charged) is)
    (follow_just (solved_of n d o) v v_is)

pub solution_ok : (n : ℕ) (d : List (List Literal)) {a b : Funds} {c k : Course} (v : Solved) → Solves (solving n d) a (Ok v) b → ((log : ElimLog) → v ≡ solved.None log → log.entries ≡ entries_of (names_out n d).events)
    → k ≡ noted c new_log → Followed noted (solving_of n d) a c (Ok v) b k
solution_ok n d (solved.Values vs) h log is = found n d (Some vs) h.0 (solved.Values vs) h.1 is refl
solution_ok n d (solved.None l) h log is = found n d None l.entries (solved.None l) h is (ap (λ es. solved.None (record { entries = es })) (log l refl))
