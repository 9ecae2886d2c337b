-- How the work for a line ends: which formula stands between the sides of a seam, its obligations, and the runs that prove them.
use Rattle.std.specs.Prelude.{ℕ, Bool, false, if◌then◌else◌, List, [], ◌∷◌, length, codes, is_some}
use Rattle.std.specs.List.{list_any}
use Rattle.form_typed.specs.Formula.{Formula, constant, every, formulas, implies}
use Rattle.base_budget.specs.Runs.{raw_stay}
use Rattle.base_budget.specs.Trace.{Funds, At, at, End, done, refused, out_of_range, Traced}
use Rattle.base_budget.specs.Trace as trace
use Rattle.pri_typing.specs.declared.problem.Problem.{Problem}
use Rattle.pri_typing.specs.Problems.{is_plainly_true}
use Rattle.pri_typing.specs.WellFormed.{components_of}
use Rattle.pri_printer.specs.Printed.{dnf_formula}
use Rattle.clause_set.specs.declared.literal.Literal.{Literal}
use Rattle.form_encoding.specs.Problems.{is_large, parts_root}
use Rattle.search.specs.Run as run
use Rattle.base_budget.specs.Ending.{Ending, ending, ends_with, out_of_steps, overflows}
use Rattle.search.specs.Run.{canonical_run}
use Rattle.interpolant.specs.Run.{interpolating}
use Rattle.itp_sides.specs.Closing.{strongest_formula, weakest_formula}
use Rattle.itp_sides.specs.Sides.{Case, arithmetic, first_itself, second_denied, none, case_of, first_sets, other_sets}
use Rattle.pred_interpolant.specs.Middle.{obligation_root}
use Rattle.itp_lines.specs.Seams.{Seam, before, behind}

-- why there is no interpolant: the budget ends; a number leaves the range; each side has a predicate or a function that the other
-- has not; a branch of a proof is too long; an obligation is too large; or a component of the problem is plainly true
pub data Cause : Type 0 where
  steps : Cause
  overflow : Cause
  symbols : Cause
  branch : Cause
  large : Cause
  plain : Cause

-- the word for it
abbrev pub cause_text : Cause → List ℕ
cause_text steps = codes "steps"
cause_text overflow = codes "overflow"
cause_text symbols = codes "symbols"
cause_text branch = codes "branch"
cause_text large = codes "large"
cause_text plain = codes "plain"

-- how the work for a line ends, and how the purse stands then: with an interpolant; without one, for this cause; or an obligation
-- has no proof, which it always has where the problem holds
pub data LineEnd : Type 0 where
  prints : Funds → LineEnd
  tells : Cause → Funds → LineEnd
  unproved : Funds → LineEnd

-- how the purse stands then
abbrev pub left_by : LineEnd → Funds
left_by (prints left) = left
left_by (tells c left) = left
left_by (unproved left) = left

-- the problem has a predicate or a function in its formula
abbrev pub is_applied : Problem → Bool
is_applied p = is_some p.first_application

-- some component of the problem is plainly true
abbrev pub is_plainly_valid : Problem → Bool
is_plainly_valid p = list_any is_plainly_true (components_of p)

-- The formula.

-- which formula stands between the sides of a seam; in a problem without applications the first side has none
abbrev pub seam_case : Problem → Seam → Case
seam_case p s = if is_applied p then case_of p s.cut s.at else arithmetic

-- the interpolant of the sets before a seam and those after it, with its run, where the first side has no application
abbrev pub seam_run : Problem → Seam → Traced (List (List Literal))
seam_run p s = interpolating p (first_sets s.cut s.at) (other_sets s.cut s.at)

-- how the run ends on a purse that stands so
abbrev pub seam_end : Problem → Seam → Funds → End
seam_end p s old = trace.cut (seam_run p s).events (at old [])

-- whether the numbers of what is encoded for it stay in the range
abbrev pub stays : Problem → Seam → Bool
stays p s = raw_stay (parts_root p (first_sets s.cut s.at)).events

-- the formula that stands there by the case
abbrev pub formula_by : Problem → Seam → Case → Formula
formula_by p s arithmetic = dnf_formula p (seam_run p s).value
formula_by p s first_itself = strongest_formula p (before p s) (behind p s)
formula_by p s second_denied = weakest_formula p (before p s) (behind p s)
formula_by p s none = constant false

-- and its obligations: it follows from the first side, and it contradicts the second
abbrev pub below_by : Problem → Seam → Case → Formula
below_by p s c = implies (before p s) (formula_by p s c)

abbrev pub above_by : Problem → Seam → Case → Formula
above_by p s c = implies (every (formulas (formula_by p s c ∷ behind p s ∷ []))) (constant false)

-- The steps of the work.

-- a run for the formula that ends so
abbrev pub run_ended : End → LineEnd
run_ended (done a) = prints a.funds
run_ended (refused a) = tells steps a.funds
run_ended (out_of_range numbers a) = tells overflow a.funds

-- the run for the formula where the first side has no application; there is none where what is encoded for it leaves the range
abbrev pub normal_end : Problem → Seam → Funds → LineEnd
normal_end p s old = if stays p s then run_ended (seam_end p s old) else tells overflow old

-- the formula by the case
abbrev pub found_by : Problem → Seam → Case → Funds → LineEnd
found_by p s arithmetic old = normal_end p s old
found_by p s first_itself old = prints old
found_by p s second_denied old = prints old
found_by p s none old = tells symbols old

-- then the encoding of an obligation
abbrev pub then_encoded : Problem → Formula → LineEnd → LineEnd
then_encoded p f (prints left) =
    if is_large (obligation_root p f).value then tells large left else (if raw_stay (obligation_root p f).events then prints left else tells overflow left)
then_encoded p f (tells c left) = tells c left
then_encoded p f (unproved left) = unproved left

-- a run for a proof that ends so
abbrev pub proof_ended : Ending run.RunAnswer → LineEnd
proof_ended (ends_with (run.valid vs x) a) = prints a.funds
proof_ended (ends_with (run.invalid log x) a) = unproved a.funds
proof_ended (ends_with (run.saturated log x) a) = unproved a.funds
proof_ended (ends_with run.too_long a) = tells branch a.funds
proof_ended (out_of_steps a) = tells steps a.funds
proof_ended (overflows numbers a) = tells overflow a.funds

-- how the canonical run for an obligation ends, on a purse that stands so
abbrev pub obligation_end : Problem → Formula → Funds → Ending run.RunAnswer
obligation_end p f old = ending (canonical_run (obligation_root p f).value (length p.existentials) old.budget) (at old [])

-- then the proof of an obligation
abbrev pub then_proved : Problem → Formula → LineEnd → LineEnd
then_proved p f (prints left) = proof_ended (obligation_end p f left)
then_proved p f (tells c left) = tells c left
then_proved p f (unproved left) = unproved left

-- the formula by the case; then both encodings, and then both proofs
abbrev pub middle_by : Problem → Seam → Case → Funds → LineEnd
middle_by p s c old = then_proved p (above_by p s c) (then_proved p (below_by p s c) (then_encoded p (above_by p s c) (then_encoded p (below_by p s c) (found_by p s c old))))

-- the work for the line of a seam, on a purse that stands so: none where the problem has applications and is plainly valid
abbrev pub line_end : Problem → Seam → Funds → LineEnd
line_end p s old = if is_applied p then (if is_plainly_valid p then tells plain old else middle_by p s (seam_case p s) old) else normal_end p s old
