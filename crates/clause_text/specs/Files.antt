-- The text of a whole proof: the first lines, and a line for each line.
use Rattle.std.specs.Prelude.{ℕ, ◌≡◌, List, [], ◌∷◌, ◌++◌}
use Rattle.std.specs.List.{AllByRecursion}
use Rattle.clause_proof.specs.declared.line.Line.{Line}
use Rattle.clause_text.specs.declared.head.Head.{Head}
use Rattle.clause_text.specs.Head.{head_text, IsHead}
use Rattle.clause_text.specs.Lines.{line_text, IsLine}
use Rattle.clause_words.specs.Reading.{Token}
use Rattle.clause_words.specs.Tokens.{size}
use Rattle.clause_words.specs.Places.{Begins}

-- the first lines of a proof, and its lines
abbrev pub ProofText : Type 0
ProofText = Head × List Line

abbrev pub lines_text : List Line → List Token
lines_text [] = []
lines_text (l ∷ ls) = line_text l ++ lines_text ls

abbrev pub proof_text : ProofText → List Token
proof_text p = head_text p.0 ++ lines_text p.1

abbrev pub IsProofText : ProofText → Type 0
IsProofText p = IsHead p.0 × AllByRecursion IsLine p.1

-- The tokens are refused with this many bytes left: those before begin the text of a proof, and together with the next token, or
-- with the end where none is left, they do not.
pub record IsProofRefusedAt (ts : List Token) (left : ℕ) : Type 0 where
  pub front : List Token
  pub back : List Token
  pub whole : ts ≡ front ++ back
  pub begins : Begins IsProofText proof_text front
  pub none : (x : Token) (rest : List Token) → back ≡ x ∷ rest → Begins IsProofText proof_text (front ++ x ∷ []) → ⊥
  pub ends : back ≡ [] → (p : ProofText) → IsProofText p → proof_text p ≡ front → ⊥
  pub place : size back ≡ left
