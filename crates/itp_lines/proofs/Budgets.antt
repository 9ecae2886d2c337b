-- The work for a line leaves the budget as it is, however it ends.
use Rattle.std.proofs.Common.{◌≡◌, ◌<◌, ◌+◌, ℕ, Bool, true, false, cond, if◌then◌else◌, nat_le, List, [], ◌∷◌, length, refl, sym, ◌∙◌, subst}
use Rattle.linear_term.specs.Range.{all_stay}
use Rattle.base_budget.specs.Runs.{raw_stay}
use Rattle.base_budget.specs.Trace.{Event, charge, raw, mark, Funds, At, at, End, done, refused, out_of_range, after_charge, after_mark, capped, cut, stand}
use Rattle.form_typed.specs.Formula.{Formula}
use Rattle.pri_typing.specs.declared.problem.Problem.{Problem}
use Rattle.form_encoding.specs.Problems.{is_large}
use Rattle.search.specs.Run as run
use Rattle.base_budget.specs.Ending.{ended}
use Rattle.search.specs.Run.{canonical_run}
use Rattle.itp_sides.specs.Sides.{Case, arithmetic, first_itself, second_denied, none}
use Rattle.pred_interpolant.specs.Middle.{obligation_root}
use Rattle.itp_lines.specs.Blocks.{after_line, after_lines}
use Rattle.itp_lines.specs.Ends.{LineEnd, prints, tells, unproved, overflow, large, plain, left_by, above_by, below_by, found_by, is_applied, is_plainly_valid, middle_by, normal_end, proof_ended, run_ended, seam_case, seam_end, seam_run, stays, then_encoded, then_proved}
use Rattle.itp_lines.specs.Seams.{Seam}

-- the budget is the same
pub record Keeps (old new : Funds) : Type 0 where
  pub budget : new.budget ≡ old.budget

kept : (g : Funds) → Keeps g g
kept g = record { budget = refl }

kept_by : (f g h : Funds) → Keeps f g → Keeps g h → Keeps f h
kept_by f g h a b = record { budget = b.budget ∙ a.budget }

cut_keeps : (es : List Event) (a : At) → Keeps a.funds (stand (cut es a)).funds
unfolding cut
cut_keeps [] a = kept a.funds
cut_keeps (charge n ∷ es) a = by (nat_le (a.funds.spent + capped n) a.funds.budget) (cut_keeps es (after_charge n a))
  where
    by : (t : Bool) → Keeps (after_charge n a).funds (stand (cut es (after_charge n a))).funds
        → Keeps a.funds (stand (cond t (cut es (after_charge n a)) (refused a))).funds
    by true h = record { budget = h.budget }
    by false h = kept a.funds
cut_keeps (raw ps ∷ es) a = by (all_stay ps) (cut_keeps es a)
  where
    by : (t : Bool) → Keeps a.funds (stand (cut es a)).funds → Keeps a.funds (stand (cond t (cut es a) (out_of_range ps a))).funds
    by true h = h
    by false h = kept a.funds
cut_keeps (mark m ∷ es) a = cut_keeps es (after_mark m a)

pub cut_budget : (es : List Event) (a : At) → (stand (cut es a)).funds.budget ≡ a.funds.budget
cut_budget es a = (cut_keeps es a).budget

-- ---- the steps

ran : (old : Funds) (end : End) → Keeps old (stand end).funds → Keeps old (left_by (run_ended end))
ran old (done a) h = h
ran old (refused a) h = h
ran old (out_of_range numbers a) h = h

tried : (old : Funds) (v : run.RunAnswer) (end : End) → Keeps old (stand end).funds → Keeps old (left_by (proof_ended (ended v end)))
tried old (run.valid vs x) (done a) h = h
tried old (run.invalid log x) (done a) h = h
tried old (run.saturated log x) (done a) h = h
tried old run.too_long (done a) h = h
tried old v (refused a) h = h
tried old v (out_of_range numbers a) h = h

normal_keeps : (p : Problem) (s : Seam) (old : Funds) → Keeps old (left_by (normal_end p s old))
normal_keeps p s old = by (stays p s)
  where
    by : (t : Bool) → Keeps old (left_by (if t then run_ended (seam_end p s old) else tells overflow old))
    by true = ran old (seam_end p s old) (cut_keeps (seam_run p s).events (at old []))
    by false = kept old

found_keeps : (p : Problem) (s : Seam) (c : Case) (old : Funds) → Keeps old (left_by (found_by p s c old))
found_keeps p s arithmetic old = normal_keeps p s old
found_keeps p s first_itself old = kept old
found_keeps p s second_denied old = kept old
found_keeps p s none old = kept old

encoded_keeps : (p : Problem) (f : Formula) (end : LineEnd) → Keeps (left_by end) (left_by (then_encoded p f end))
encoded_keeps p f (prints left) = by (is_large (obligation_root p f).value) (raw_stay (obligation_root p f).events)
  where
    by : (l t : Bool) → Keeps left (left_by (if l then tells large left else (if t then prints left else tells overflow left)))
    by true t = kept left
    by false true = kept left
    by false false = kept left
encoded_keeps p f (tells c left) = kept left
encoded_keeps p f (unproved left) = kept left

proved_keeps : (p : Problem) (f : Formula) (end : LineEnd) → Keeps (left_by end) (left_by (then_proved p f end))
proved_keeps p f (prints left) =
    let work = canonical_run (obligation_root p f).value (length p.existentials) left.budget in
    tried left work.value (cut work.events (at left [])) (cut_keeps work.events (at left []))
proved_keeps p f (tells c left) = kept left
proved_keeps p f (unproved left) = kept left

middle_keeps : (p : Problem) (s : Seam) (c : Case) (old : Funds) → Keeps old (left_by (middle_by p s c old))
middle_keeps p s c old =
    let one = found_by p s c old in
    let two = then_encoded p (below_by p s c) one in
    let three = then_encoded p (above_by p s c) two in
    let four = then_proved p (below_by p s c) three in
    kept_by _ _ _ (found_keeps p s c old) (kept_by _ _ _ (encoded_keeps p (below_by p s c) one) (kept_by _ _ _ (encoded_keeps p (above_by p s c) two)
    (kept_by _ _ _ (proved_keeps p (below_by p s c) three) (proved_keeps p (above_by p s c) four))))

-- ---- lines

after_keeps : (p : Problem) (s : Seam) (old : Funds) → Keeps old (after_line p s old)
after_keeps p s old = by (is_applied p) (is_plainly_valid p)
  where
    by : (a v : Bool) → Keeps old (left_by (if a then (if v then tells plain old else middle_by p s (seam_case p s) old) else normal_end p s old))
    by true true = kept old
    by true false = middle_keeps p s (seam_case p s) old
    by false v = normal_keeps p s old

pub line_keeps : (p : Problem) (s : Seam) (old new : Funds) → new ≡ after_line p s old → Keeps old new
line_keeps p s old new is = subst (Keeps old) (sym is) (after_keeps p s old)

after_lines_keep : (p : Problem) (ss : List Seam) (old : Funds) → Keeps old (after_lines p ss old)
after_lines_keep p [] old = kept old
after_lines_keep p (s ∷ ss) old = kept_by _ _ _ (after_keeps p s old) (after_lines_keep p ss (after_line p s old))

pub lines_keep : (p : Problem) (ss : List Seam) (old new : Funds) → new ≡ after_lines p ss old → Keeps old new
lines_keep p ss old new is = subst (Keeps old) (sym is) (after_lines_keep p ss old)

pub below_still : (old new : Funds) (n : ℕ) → Keeps old new → old.budget < n → new.budget < n
below_still old new n h lt = subst (λ k. k < n) (sym h.budget) lt
