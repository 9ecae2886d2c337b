-- How far a check of a proof's text goes.
use Rattle.std.specs.Prelude.{ℕ, ◌≡◌, List, [], ◌++◌, length, Option, Some}
use Rattle.formula.specs.Form.{Form}
use Rattle.proof_file.specs.Body.{body}
use Rattle.clause_proof.specs.declared.line.Line.{Line}
use Rattle.clause_proof.specs.Clauses.{State}
use Rattle.clause_proof.specs.Lines.{found}
use Rattle.clause_proof.specs.Proofs.{run, start}
use Rattle.clause_text.specs.declared.head.Head.{Head}
use Rattle.clause_text.specs.Files.{IsProofText, proof_text}
use Rattle.clause_words.specs.Tokens.{spelled}
use Rattle.clause_file.specs.Roots.{prepared_root}

-- the bytes begin with the text of these first lines and lines, and the rest stands after them
pub record BeginsWith (text : List ℕ) (h : Head) (ls : List Line) (rest : List ℕ) : Type 0 where
  pub is_text : IsProofText (h, ls)
  pub parts : text ≡ spelled (proof_text (h, ls)) ++ rest

-- the state at the start of a proof of f over n names: the root is false at the values
abbrev pub begun : Form → ℕ → Head → Option State
begun f n h = start (prepared_root n f h.prepared) h.values h.root

-- the state that the lines make of it
abbrev pub made : Form → ℕ → Head → List Line → Option State
made f n h ls = found (begun f n h) (λ s. run s ls)

-- the proof in the file has one value for each of the n names, and its first lines and these lines make the state s
pub record Reaches (f : Form) (n : ℕ) (file : List ℕ) (h : Head) (ls : List Line) (rest : List ℕ) (s : State) : Type 0 where
  pub begins : BeginsWith (body file) h ls rest
  pub values : length h.values ≡ n
  pub makes : made f n h ls ≡ Some s

-- the proof in the file has these first lines, with one value for each of the n names, and its root is g
pub record Starts (f : Form) (n : ℕ) (file : List ℕ) (h : Head) (rest : List ℕ) (g : Form) : Type 0 where
  pub begins : BeginsWith (body file) h [] rest
  pub values : length h.values ≡ n
  pub root : prepared_root n f h.prepared ≡ g
