-- The place of a refusal in the whole file.
use Rattle.std.proofs.Common.{ℕ, ◌-◌, ◌≡◌, ◌≤◌, List, [], ◌∷◌, length, ap, subst, arith}
use Rattle.proof_tokens.specs.declared.tokens.Token.{Token}
use Rattle.proof_tokens.specs.Reading.{Cuts}
use Rattle.proof_grammar.specs.declared.text.Fault.{Fault}
use Rattle.proof_grammar.specs.declared.text.Fault.TheVariants as f
use Rattle.proof_grammar.specs.Refusals.{RefusesText}
use Rattle.proof_grammar.proofs.Shorter.{cut_shorter}
use Rattle.proof_file.specs.declared.refusal.ProofRefusal.TheVariants as r
use Rattle.proof_file.specs.Body.{body}
use Rattle.proof_file.specs.Refused.{RefusesProofFile}

cut_within : (xs : List Token) (bytes rest : List ℕ) → Cuts xs bytes rest → length rest ≤ length bytes
cut_within [] bytes rest c = let e = ap length c in omega arith
cut_within (x ∷ xs) bytes rest c = let h = cut_shorter x xs bytes rest c in omega arith

syntax_left : (text : List ℕ) (left : ℕ) → RefusesText text (f.Syntax left) → left ≤ length text
syntax_left text left q = let h = cut_within q.2.first.front text q.0 q.2.first.cut in let e = q.1 in omega arith

deep_left : (text : List ℕ) (left : ℕ) → RefusesText text (f.Deep left) → left ≤ length text
deep_left text left q = let h = cut_within _ text q.0 q.2.cut in let e = q.1 in omega arith

-- what is left of the part that holds the proof is left of the file
pub syntax_within : (bytes : List ℕ) (fault : Fault) (left : ℕ) → fault ≡ f.Syntax left → RefusesText (body bytes) fault → length (body bytes) ≤ length bytes → left ≤ length bytes
syntax_within bytes fault left e q h = let k = syntax_left (body bytes) left (subst (RefusesText (body bytes)) e q) in omega arith

pub deep_within : (bytes : List ℕ) (fault : Fault) (left : ℕ) → fault ≡ f.Deep left → RefusesText (body bytes) fault → length (body bytes) ≤ length bytes → left ≤ length bytes
deep_within bytes fault left e q h = let k = deep_left (body bytes) left (subst (RefusesText (body bytes)) e q) in omega arith

pub syntax_placed : (bytes : List ℕ) (fault : Fault) (left : ℕ) → fault ≡ f.Syntax left → RefusesText (body bytes) fault → length (body bytes) ≤ length bytes → RefusesProofFile bytes (r.Syntax (length bytes - left))
syntax_placed bytes fault left e q h = let k = syntax_within bytes fault left e q h in (left, subst (RefusesText (body bytes)) e q, omega arith)

pub deep_placed : (bytes : List ℕ) (fault : Fault) (left : ℕ) → fault ≡ f.Deep left → RefusesText (body bytes) fault → length (body bytes) ≤ length bytes → RefusesProofFile bytes (r.Deep (length bytes - left))
deep_placed bytes fault left e q h = let k = deep_within bytes fault left e q h in (left, subst (RefusesText (body bytes)) e q, omega arith)
