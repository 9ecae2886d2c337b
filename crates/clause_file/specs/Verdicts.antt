-- What a file is as a proof of a formula over n names: a proof of it, wrong at a line, or refused at a token.
use Rattle.std.specs.Prelude.{ℕ, ℤ, ◌≡◌, ◌≢◌, ◌+◌, false, List, [], ◌++◌, length, None}
use Rattle.formula.specs.Form.{Form}
use Rattle.proof_file.specs.Body.{body}
use Rattle.clause_proof.specs.declared.line.Line.{Line}
use Rattle.clause_proof.specs.Clauses.{State}
use Rattle.clause_proof.specs.Lines.{after}
use Rattle.clause_proof.specs.Proofs.{ends_empty, IsClauseProof}
use Rattle.clause_text.specs.declared.head.Head.{Head}
use Rattle.clause_text.specs.Files.{IsProofRefusedAt, IsProofText, proof_text}
use Rattle.clause_text.specs.Lines.{IsLine, line_text}
use Rattle.clause_words.specs.Tokens.{spelled, tokens}
use Rattle.clause_file.specs.Courses.{begun, BeginsWith, Reaches}
use Rattle.clause_file.specs.Roots.{prepared_root}

-- the first lines are lines 1 to 5, so the next one is line 6
abbrev pub first_line : ℕ
first_line = 6

-- the file holds a proof that f is true at the values vs of its n names
pub record HoldsClauseProof (f : Form) (n : ℕ) (file : List ℕ) (vs : List ℤ) : Type 0 where
  pub head : Head
  pub lines : List Line
  pub is_text : IsProofText (head, lines)
  pub is : body file ≡ spelled (proof_text (head, lines))
  pub values : head.values ≡ vs
  pub count : length vs ≡ n
  pub proves : IsClauseProof (prepared_root n f head.prepared) vs head.root lines

-- All before the line with this number is read and made, and the line makes nothing: there is not one value for each name; the
-- literal cannot stand for the root; the line adds nothing; or no line is left, and the last clause is not the empty one.
pub data IsWrongAt (f : Form) (n : ℕ) (file : List ℕ) (number : ℕ) : Type 0 where
  values : (h : Head) (rest : List ℕ) → BeginsWith (body file) h [] rest → length h.values ≢ n → number ≡ 4 → IsWrongAt f n file number
  root : (h : Head) (rest : List ℕ) → BeginsWith (body file) h [] rest → length h.values ≡ n → begun f n h ≡ None → number ≡ 5 → IsWrongAt f n file number
  line : (h : Head) (ls : List Line) (l : Line) (rest : List ℕ) (s : State) → Reaches f n file h ls (spelled (line_text l) ++ rest) s → IsLine l → after s l ≡ None → number ≡ first_line + length ls
      → IsWrongAt f n file number
  end : (h : Head) (ls : List Line) (s : State) → Reaches f n file h ls [] s → ends_empty s.clauses ≡ false → number ≡ first_line + length ls → IsWrongAt f n file number

-- the text of a proof in the file is refused at this place, counted in bytes from the start of the file
abbrev pub RefusesClauseText : List ℕ → ℕ → Type 0
RefusesClauseText file at = (left : ℕ) × IsProofRefusedAt (tokens (body file)) left × (at + left ≡ length file)

-- it is refused there, and no line before is wrong
pub record IsRefusedFirst (f : Form) (n : ℕ) (file : List ℕ) (at : ℕ) : Type 0 where
  pub refuses : RefusesClauseText file at
  pub before : (number : ℕ) → IsWrongAt f n file number → ⊥

-- a verdict on a file
pub data Verdict : Type 0 where
  proof : List ℤ → Verdict
  wrong : ℕ → Verdict
  refused : ℕ → Verdict

abbrev pub IsVerdict : Form → ℕ → List ℕ → Verdict → Type 0
IsVerdict f n file (proof vs) = HoldsClauseProof f n file vs
IsVerdict f n file (wrong number) = IsWrongAt f n file number
IsVerdict f n file (refused at) = IsRefusedFirst f n file at
