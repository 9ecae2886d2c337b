-- What is answered to the `\interpolant` blocks of a problem: a line for each of their seams, of work on the purse as what went
-- before left it.
use Rattle.std.specs.Prelude.{◌≡◌, ◌≢◌, ℕ, List, [], ◌∷◌, ◌++◌, codes, None}
use Rattle.std.specs.List.{concat}
use Rattle.form_typed.specs.Formula.{Formula}
use Rattle.base_budget.specs.Trace.{Funds}
use Rattle.pri_typing.specs.declared.problem.Cut.{Cut}
use Rattle.pri_typing.specs.declared.problem.Problem.{Problem}
use Rattle.pri_typing.specs.Problems.{Says}
use Rattle.itp_sides.specs.Sides.{Case, arithmetic, first_itself, second_denied, none}
use Rattle.base_answers.specs.Answer.{line}
use Rattle.pri_lines.specs.Constraint.{IsTextOf, interpolant_line}
use Rattle.itp_printer.specs.Plain.{plain as plain_form}
use Rattle.itp_printer.specs.TypedText.{formula_text}
use Rattle.itp_lines.specs.Ends.{Cause, cause_text, formula_by, left_by, line_end, prints, seam_case, seam_run, tells}
use Rattle.itp_lines.specs.Proved.{AreObligationsProved}
use Rattle.itp_lines.specs.Seams.{Seam, seams}

-- how the purse stands after the line of a seam
abbrev pub after_line : Problem → Seam → Funds → Funds
after_line p s old = left_by (line_end p s old)

-- and after several
abbrev pub after_lines : Problem → List Seam → Funds → Funds
after_lines p [] old = old
after_lines p (s ∷ ss) old = after_lines p ss (after_line p s old)

-- the line where there is no interpolant, with the cause
abbrev pub unknown_line : List ℕ → List ℕ
unknown_line cause = line (codes "interpolant unknown: " ++ cause)

-- x is the text of a formula over the symbols of the problem, and is read back as its plain form
pub record IsTypedText (p : Problem) (f : Formula) (x : List ℕ) : Type 0 where
  pub text : x ≡ formula_text p 0 f
  pub says : Says x p (plain_form f)

-- x is the text of the formula that stands at a seam by the case
abbrev pub IsTextBy : Problem → Seam → Case → List ℕ → Type 0
IsTextBy p s arithmetic x = IsTextOf p (seam_run p s).value x
IsTextBy p s first_itself x = IsTypedText p (formula_by p s first_itself) x
IsTextBy p s second_denied x = IsTypedText p (formula_by p s second_denied) x
IsTextBy p s none x = ⊥

-- the text is the line of the seam, on a purse that stands so; where the problem has applications, its obligations are proved
pub data IsSeamLine (p : Problem) (s : Seam) (old : Funds) (text : List ℕ) : Type 0 where
  found : (left : Funds) (x : List ℕ) → line_end p s old ≡ prints left → IsTextBy p s (seam_case p s) x → text ≡ interpolant_line x
      → (p.first_application ≢ None → AreObligationsProved p s (formula_by p s (seam_case p s))) → IsSeamLine p s old text
  unknown : (c : Cause) (left : Funds) → line_end p s old ≡ tells c left → text ≡ unknown_line (cause_text c) → IsSeamLine p s old text

-- the lines of seams, in their order, each on the purse that the one before left
abbrev pub AreLines : Problem → List Seam → Funds → List (List ℕ) → Type 0
AreLines p [] old [] = Unit {0}
AreLines p [] old (text ∷ texts) = ⊥
AreLines p (s ∷ ss) old [] = ⊥
AreLines p (s ∷ ss) old (text ∷ texts) = IsSeamLine p s old text × AreLines p ss (after_line p s old) texts

-- the text is that of the lines of these seams
pub record IsLinesText (p : Problem) (ss : List Seam) (old : Funds) (text : List ℕ) : Type 0 where
  pub lines : List (List ℕ)
  pub are : AreLines p ss old lines
  pub whole : text ≡ concat lines

-- the lines of blocks: of the seams of each, in their order
abbrev pub AreBlockLines : Problem → List Cut → Funds → List (List ℕ) → Type 0
AreBlockLines p bs old texts = AreLines p (seams bs) old texts

-- the text is that of the lines of all blocks of the problem
abbrev pub IsBlocksText : Problem → Funds → List ℕ → Type 0
IsBlocksText p old text = IsLinesText p (seams p.cuts) old text
