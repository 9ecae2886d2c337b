-- Where a file holds no proof.
use Rattle.std.specs.Prelude.{ℕ, ◌+◌, ◌≡◌, List, length}
use Rattle.proof_grammar.specs.declared.text.Fault.TheVariants as f
use Rattle.proof_grammar.specs.Refusals.{RefusesText}
use Rattle.proof_file.specs.declared.refusal.ProofRefusal.{ProofRefusal}
use Rattle.proof_file.specs.declared.refusal.ProofRefusal.TheVariants as r
use Rattle.proof_file.specs.Body.{body}

-- what a refusal of a file says: the part that holds the proof is refused at that place of the file
abbrev pub RefusesProofFile : List ℕ → ProofRefusal → Type 0
RefusesProofFile bytes (r.Syntax at) = (left : ℕ) × RefusesText (body bytes) (f.Syntax left) × (at + left ≡ length bytes)
RefusesProofFile bytes (r.Deep at) = (left : ℕ) × RefusesText (body bytes) (f.Deep left) × (at + left ≡ length bytes)
RefusesProofFile bytes r.Memory = Unit {0}
