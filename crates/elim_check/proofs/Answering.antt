-- An answer about a log is the only one; the log of a run is accepted.
use Rattle.std.proofs.Common.{◌≡◌, ◌+◌, ◌≤◌, ℕ, suc, true, List, [], length, take, Option, Some, Result, Ok, Err, refl, sym, ◌∙◌, ap, subst, arith}
use Rattle.std.proofs.lemmas.List.{append-nil, length-map, length-take-le}
use Rattle.base_budget.specs.declared.fault.StepFault.TheVariants.{Steps, Overflow}
use Rattle.base_budget.specs.declared.log.Entry.{Entry}
use Rattle.base_budget.specs.Runs.{notes, total, raw_stay, RunsThrough}
use Rattle.base_budget.specs.Trace.{Funds, At, at, entry, End, done, refused, out_of_range, cut, Traced, just, next}
use Rattle.base_budget.proofs.Meaning.{passes_where_runs}
use Rattle.clause_set.specs.declared.literal.Literal.{Literal}
use Rattle.formula.specs.Form.{Form}
use Rattle.formula.specs.Sizes.{depth}
use Rattle.elim_laws.specs.Logs.{Reader, by_whole_log, entries_of}
use Rattle.elim_laws.specs.Whole.{eliminating}
use Rattle.elim_laws.proofs.Wholes.{form_log}
use Rattle.elim_check.specs.declared.fault.LogFault.{LogFault}
use Rattle.elim_check.specs.declared.fault.LogFault.TheVariants as log_fault
use Rattle.elim_check.specs.Answers.{FitsFunds, paid_for, GoesThrough, IsSameAnswer, UnlessLogMemory}
use Rattle.elim_check.specs.Checked.{EndsAt, Checked}
use Rattle.elim_check.specs.Reading.{noted, reading}

noted-length : (log : List Entry) (n : ℕ) → n ≤ length log → length (noted log n) ≡ n
noted-length log n h = length-map (take n log) entry ∙ length-take-le n log h

module _ {A : Type 0} (m : Reader A) (log : List Entry) (old : Funds) where
  -- where the whole work is cut
  whole : End
  whole = cut (by_whole_log m log).events (at old [])

  ended_ok : {o : Option A} {n : ℕ} {new : Funds} → EndsAt m log old (Ok o) n new → (o ≡ (by_whole_log m log).value) × (whole ≡ done (at new (noted log n)))
  unfolding whole
  ended_ok {o} h = let e = h.charged.ok o refl in (e.0, e.1.end)

  ended_cost : {n : ℕ} {new : Funds} → EndsAt m log old (Err Steps) n new → whole ≡ refused (at new (noted log n))
  unfolding whole
  ended_cost h = (h.charged.steps refl).end

  ended_range : {p : _} {n : ℕ} {new : Funds} → EndsAt m log old (Err (Overflow p)) n new → (ps : List _) × (whole ≡ out_of_range ps (at new (noted log n)))
  unfolding whole
  ended_range {p} h = let l = h.charged.overflow p refl in (l.numbers, l.end)

  -- where the work ends is where its charges lead
  runs_through : {o : Option A} {n : ℕ} {new : Funds} → old.spent ≤ old.budget → EndsAt m log old (Ok o) n new → RunsThrough (by_whole_log m log).events (at old []) (at new (noted log n))
  unfolding whole
  runs_through {o} {n} {new} le h = (passes_where_runs (by_whole_log m log).events (at old []) (at new (noted log n)) le).0 (ended_ok h).1

  -- a log that is accepted goes through
  pub accepted_through : {v : A} {new : Funds} → old.spent ≤ old.budget → Checked m log old (Ok v) new → GoesThrough m log old v
  accepted_through le h =
      let runs = runs_through le h in
      record { value = sym (ended_ok h).0; fits = record { within = runs.within; stay = runs.stay } }

  whole_done : {v : A} → old.spent ≤ old.budget → GoesThrough m log old v → whole ≡ done (at (paid_for (by_whole_log m log) old) (notes (by_whole_log m log).events))
  unfolding whole
  whole_done le g = (passes_where_runs (by_whole_log m log).events (at old []) _ le).1 (record { within = g.fits.within; stay = g.fits.stay; stands = refl })

  -- one that goes through is accepted
  pub through_accepted : (v : A) (r : Result A LogFault) (new : Funds) → old.spent ≤ old.budget → Checked m log old r new → GoesThrough m log old v → UnlessLogMemory r (r ≡ Ok v)
  through_accepted v (Ok w) new le h g = let e = (ended_ok h).0 in let k = g.value in let same : w ≡ v = cc in ap Ok same
  through_accepted v (Err (log_fault.Entry n)) new le h g = absurd (let e = (ended_ok h).0 in let k = g.value in cc)
  through_accepted v (Err (log_fault.Cost n)) new le h g = absurd (let e = ended_cost h in let k = whole_done le g in cc)
  through_accepted v (Err (log_fault.Range n p)) new le h g = absurd (let e = (ended_range h).1 in let k = whole_done le g in cc)
  through_accepted v (Err log_fault.Memory) new le h g = tt

  -- two ends at the same place
  same_place : (n k : ℕ) {f g : Funds} → n ≤ length log → k ≤ length log → at f (noted log n) ≡ at g (noted log k) → (n ≡ k) × (f ≡ g)
  same_place n k h l is = (sym (noted-length log n h) ∙ ap (λ (a : At). length a.marks) is ∙ noted-length log k l, ap (λ (a : At). a.funds) is)

  pub same_answer : (r s : Result A LogFault) (f g : Funds) → Checked m log old r f → Checked m log old s g → UnlessLogMemory r (UnlessLogMemory s (IsSameAnswer r s × (f ≡ g)))
  same_answer (Err log_fault.Memory) s f g h k = tt
  same_answer (Ok v) (Ok w) f g h k =
      let a = ended_ok h in let b = ended_ok k in
      let same : v ≡ w = let x = a.0 in let y = b.0 in cc in
      let at_end : at f (noted log (length log)) ≡ at g (noted log (length log)) = let x = a.1 in let y = b.1 in cc in
      (ap Ok same, ap (λ (z : At). z.funds) at_end)
  same_answer (Err (log_fault.Entry n)) (Err (log_fault.Entry i)) f g h k =
      let at_end : at f (noted log n) ≡ at g (noted log i) = let x = (ended_ok h).1 in let y = (ended_ok k).1 in cc in
      let p = same_place n i h.within k.within at_end in
      (ap (λ z. Err (log_fault.Entry z)) p.0, p.1)
  same_answer (Err (log_fault.Cost n)) (Err (log_fault.Cost i)) f g h k =
      let at_end : at f (noted log n) ≡ at g (noted log i) = let x = ended_cost h in let y = ended_cost k in cc in
      let p = same_place n i h.within k.within at_end in
      (ap (λ z. Err (log_fault.Cost z)) p.0, p.1)
  same_answer (Err (log_fault.Range n a)) (Err (log_fault.Range i b)) f g h k =
      let at_end : at f (noted log n) ≡ at g (noted log i) = let x = (ended_range h).1 in let y = (ended_range k).1 in cc in
      same_place n i h.within k.within at_end
  same_answer (Ok v) (Err (log_fault.Entry i)) f g h k = absurd (let x = (ended_ok h).0 in let y = (ended_ok k).0 in cc)
  same_answer (Ok v) (Err (log_fault.Cost i)) f g h k = absurd (let x = (ended_ok h).1 in let y = ended_cost k in cc)
  same_answer (Ok v) (Err (log_fault.Range i b)) f g h k = absurd (let x = (ended_ok h).1 in let y = (ended_range k).1 in cc)
  same_answer (Ok v) (Err log_fault.Memory) f g h k = tt
  same_answer (Err (log_fault.Entry n)) (Ok w) f g h k = absurd (let x = (ended_ok h).0 in let y = (ended_ok k).0 in cc)
  same_answer (Err (log_fault.Entry n)) (Err (log_fault.Cost i)) f g h k = absurd (let x = (ended_ok h).1 in let y = ended_cost k in cc)
  same_answer (Err (log_fault.Entry n)) (Err (log_fault.Range i b)) f g h k = absurd (let x = (ended_ok h).1 in let y = (ended_range k).1 in cc)
  same_answer (Err (log_fault.Entry n)) (Err log_fault.Memory) f g h k = tt
  same_answer (Err (log_fault.Cost n)) (Ok w) f g h k = absurd (let x = ended_cost h in let y = (ended_ok k).1 in cc)
  same_answer (Err (log_fault.Cost n)) (Err (log_fault.Entry i)) f g h k = absurd (let x = ended_cost h in let y = (ended_ok k).1 in cc)
  same_answer (Err (log_fault.Cost n)) (Err (log_fault.Range i b)) f g h k = absurd (let x = ended_cost h in let y = (ended_range k).1 in cc)
  same_answer (Err (log_fault.Cost n)) (Err log_fault.Memory) f g h k = tt
  same_answer (Err (log_fault.Range n a)) (Ok w) f g h k = absurd (let x = (ended_range h).1 in let y = (ended_ok k).1 in cc)
  same_answer (Err (log_fault.Range n a)) (Err (log_fault.Entry i)) f g h k = absurd (let x = (ended_range h).1 in let y = (ended_ok k).1 in cc)
  same_answer (Err (log_fault.Range n a)) (Err (log_fault.Cost i)) f g h k = absurd (let x = (ended_range h).1 in let y = ended_cost k in cc)
  same_answer (Err (log_fault.Range n a)) (Err log_fault.Memory) f g h k = tt

-- ---- the log of a run
log_through : {A : Type 0} (m : Reader A) (log : List Entry) (old : Funds) (work : Traced A) → by_whole_log m log ≡ next work (λ a. just (Some a)) → FitsFunds work old → GoesThrough m log old work.value
unfolding next just
log_through m log old work same fits =
    let events : (by_whole_log m log).events ≡ work.events = ap (λ (w : Traced _). w.events) same ∙ append-nil work.events in
    record {
      value = ap (λ (w : Traced _). w.value) same;
      fits = record { within = subst (λ es. old.spent + total es ≤ old.budget) (sym events) fits.within; stay = subst (λ es. raw_stay es ≡ true) (sym events) fits.stay };
    }

log_paid : {A : Type 0} (m : Reader A) (log : List Entry) (old new : Funds) (work : Traced A) {v : A} → by_whole_log m log ≡ next work (λ a. just (Some a)) → old.spent ≤ old.budget → Checked m log old (Ok v) new → new ≡ paid_for work old
unfolding next just
log_paid m log old new work same le h =
    let events : (by_whole_log m log).events ≡ work.events = ap (λ (w : Traced _). w.events) same ∙ append-nil work.events in
    ap (λ (a : At). a.funds) (runs_through m log old le h).stands ∙ ap (λ es. record { budget = old.budget; spent = old.spent + total es }) events

pub run_accepted : {A : Type 0} (m : Reader A) (log : List Entry) (old : Funds) (work : Traced A) → by_whole_log m log ≡ next work (λ a. just (Some a)) → FitsFunds work old → (r : Result A LogFault) (new : Funds) → Checked m log old r new
    → UnlessLogMemory r ((r ≡ Ok work.value) × (new ≡ paid_for work old))
run_accepted m log old work same fits r new h =
    let within = fits.within in
    let le : old.spent ≤ old.budget = omega (arith, within) in
    by r h (through_accepted m log old work.value r new le h (log_through m log old work same fits)) le
  where
    by : (r : Result _ LogFault) → Checked m log old r new → UnlessLogMemory r (r ≡ Ok work.value) → old.spent ≤ old.budget → UnlessLogMemory r ((r ≡ Ok work.value) × (new ≡ paid_for work old))
    by (Ok v) h is le = (is, log_paid m log old new work same le h)
    by (Err (log_fault.Entry n)) h is le = absurd (cc)
    by (Err (log_fault.Cost n)) h is le = absurd (cc)
    by (Err (log_fault.Range n p)) h is le = absurd (cc)
    by (Err log_fault.Memory) h is le = tt

pub form_run : (n : ℕ) (f : Form) (old new : Funds) (r : Result (List (List Literal)) LogFault) → FitsFunds (eliminating n f) old → Checked (reading n f) (entries_of (eliminating n f).events) old r new
    → UnlessLogMemory r ((r ≡ Ok (eliminating n f).value) × (new ≡ paid_for (eliminating n f) old))
unfolding reading eliminating
form_run n f old new r fits h = run_accepted (reading n f) (entries_of (eliminating n f).events) old (eliminating n f) (form_log (suc (depth f)) n f) fits r new h
