-- Where each line of an `\interpolant` block comes.
use Rattle.std.specs.Prelude.{◌≡◌, ◌<◌, ◌↔◌, ℕ, List, [], length, take}
use Rattle.std.specs.List.{slice_index_or}
use Rattle.base_budget.specs.Trace.{Funds}
use Rattle.pri_typing.specs.declared.problem.Problem.{Problem}
use Rattle.pri_lines.specs.Constraint.{interpolant_line}
use Rattle.itp_lines.specs.Blocks.{after_lines, unknown_line, IsTextBy}
use Rattle.itp_lines.specs.Ends.{Cause, cause_text, line_end, prints, seam_case, tells}
use Rattle.itp_lines.specs.Seams.{Seam, seams}

-- the seam with this number, over all blocks of the problem
abbrev pub seam_at : Problem → ℕ → Seam
seam_at p k = slice_index_or (seams p.cuts) k (record { cut = record { sets = [] }; at = 0 })

-- how the purse stands before the line with this number
abbrev pub before_line : Problem → Funds → ℕ → Funds
before_line p old k = after_lines p (take k (seams p.cuts)) old

-- the line with this number
abbrev pub line_at : List (List ℕ) → ℕ → List ℕ
line_at lines k = slice_index_or lines k []

-- the work for the line of a seam ends with an interpolant
abbrev pub IsSeamFound : Problem → Seam → Funds → Type 0
IsSeamFound p s old = (left : Funds) × (line_end p s old ≡ prints left)

-- it ends without one, for this cause
abbrev pub IsUnknown : Cause → Problem → Seam → Funds → Type 0
IsUnknown c p s old = (left : Funds) × (line_end p s old ≡ tells c left)

-- there is a line for each seam of each block, and each comes exactly where its row says
pub record AreBlocksCaused (p : Problem) (old : Funds) (lines : List (List ℕ)) : Type 0 where
  pub many : length lines ≡ length (seams p.cuts)
  pub found : (k : ℕ) → k < length (seams p.cuts)
      → ((x : List ℕ) × IsTextBy p (seam_at p k) (seam_case p (seam_at p k)) x × (line_at lines k ≡ interpolant_line x)) ↔ IsSeamFound p (seam_at p k) (before_line p old k)
  pub unknown : (c : Cause) (k : ℕ) → k < length (seams p.cuts) → (line_at lines k ≡ unknown_line (cause_text c)) ↔ IsUnknown c p (seam_at p k) (before_line p old k)
