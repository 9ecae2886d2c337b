-- What a check charges, and where the charges that a proof states do not pay for it.
use Rattle.std.specs.Prelude.{ℕ, ◌≡◌, ◌+◌, ◌<◌, List, [], ◌∷◌, ◌++◌, length}
use Rattle.base_budget.specs.Trace.{Funds}
use Rattle.formula.specs.Form.{Form}
use Rattle.proof_file.specs.Body.{body}
use Rattle.clause_proof.specs.declared.line.Line.{Line}
use Rattle.clause_proof.specs.Clauses.{State}
use Rattle.clause_proof.specs.Lines.{after}
use Rattle.clause_checker.specs.Prices.{price, priced, start_price}
use Rattle.clause_text.specs.declared.head.Head.{Head}
use Rattle.clause_text.specs.Lines.{IsLine, line_text}
use Rattle.clause_words.specs.Tokens.{spelled}
use Rattle.clause_file.specs.Courses.{begun, BeginsWith, Reaches}
use Rattle.clause_file.specs.Roots.{prepared_root, preparation_price}
use Rattle.clause_file.specs.Verdicts.{first_line}

-- lines, one after the other
abbrev pub run_price : State → List Line → ℕ
run_price s [] = 0
run_price s (l ∷ ls) = price s l + priced (after s l) (λ t. run_price t ls)

-- the preparation and the start
abbrev pub begin_price : Form → ℕ → Head → ℕ
begin_price f n h = preparation_price f h.prepared + start_price (prepared_root n f h.prepared) h.values

-- these, and the lines after the first ones
abbrev pub check_price : Form → ℕ → Head → List Line → ℕ
check_price f n h ls = begin_price f n h + priced (begun f n h) (λ s. run_price s ls)

-- the charges that the proof states are the budget, and this much of it is spent
abbrev pub HasPaid : Funds → Head → ℕ → Type 0
HasPaid funds h paid = funds ≡ record { budget = h.charges.count; spent = paid }

-- The line with this number is the first that the charges of the proof do not pay for: line 3, where they do not pay for the
-- preparation; line 5, the root's; or a line after these. All before it is read, made and paid.
pub data IsCostAt (f : Form) (n : ℕ) (file : List ℕ) (number : ℕ) : Type 0 where
  preparation : (h : Head) (rest : List ℕ) → BeginsWith (body file) h [] rest → h.charges.count < preparation_price f h.prepared → number ≡ 3 → IsCostAt f n file number
  root : (h : Head) (rest : List ℕ) → BeginsWith (body file) h [] rest → length h.values ≡ n → h.charges.count < begin_price f n h → number ≡ 5 → IsCostAt f n file number
  line : (h : Head) (ls : List Line) (l : Line) (rest : List ℕ) (s : State) → Reaches f n file h ls (spelled (line_text l) ++ rest) s → IsLine l → h.charges.count < check_price f n h (ls ++ l ∷ []) → number ≡ first_line + length ls
      → IsCostAt f n file number
