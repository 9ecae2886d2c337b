-- Where a number can leave the range in a check.
use Rattle.std.specs.Prelude.{ℕ, ◌≡◌, ◌+◌, List, [], ◌++◌, length}
use Rattle.formula.specs.Form.{Form}
use Rattle.proof_file.specs.Body.{body}
use Rattle.clause_proof.specs.declared.line.Line.{Line}
use Rattle.clause_proof.specs.Clauses.{State}
use Rattle.clause_text.specs.declared.head.Head.{Head}
use Rattle.clause_text.specs.Lines.{IsLine, line_text}
use Rattle.clause_words.specs.Tokens.{spelled}
use Rattle.clause_file.specs.Courses.{BeginsWith, Reaches}
use Rattle.clause_file.specs.Verdicts.{first_line}

-- A number can leave the range at the line with this number: line 5, the root's, or a line after it. All before it is read and made.
pub data IsRangeAt (f : Form) (n : ℕ) (file : List ℕ) (number : ℕ) : Type 0 where
  root : (h : Head) (rest : List ℕ) → BeginsWith (body file) h [] rest → length h.values ≡ n → number ≡ 5 → IsRangeAt f n file number
  line : (h : Head) (ls : List Line) (l : Line) (rest : List ℕ) (s : State) → Reaches f n file h ls (spelled (line_text l) ++ rest) s → IsLine l → number ≡ first_line + length ls → IsRangeAt f n file number
