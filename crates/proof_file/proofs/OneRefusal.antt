-- Bytes, and files, have one refusal at most.
use Rattle.std.proofs.Common.{ℕ, ◌+◌, ◌≡◌, ◌≢◌, List, length, refl, sym, ap, ◌∙◌, arith}
use Rattle.proof_tokens.proofs.Apart.{first_same}
use Rattle.proof_grammar.specs.Lines.{tokens_of}
use Rattle.proof_grammar.specs.Owed.{OwesNothing, start, Any}
use Rattle.proof_grammar.specs.declared.text.Fault.{Fault}
use Rattle.proof_grammar.specs.declared.text.Fault.TheVariants as f
use Rattle.proof_grammar.specs.Refusals.{RefusesText}
use Rattle.proof_grammar.proofs.Deep.{one_deep}
use Rattle.proof_file.specs.Body.{body}
use Rattle.proof_file.specs.Refused.{RefusesProofFile}
use Rattle.proof_file.specs.declared.refusal.ProofRefusal.{ProofRefusal}
use Rattle.proof_file.specs.declared.refusal.ProofRefusal.TheVariants as r

-- this many bytes are left after the place of a refusal
abbrev left_of : List ℕ → ℕ
left_of back = length back

pub one_by_text : (bytes : List ℕ) (a b : Fault) → RefusesText bytes a → RefusesText bytes b → a ≢ f.Memory → b ≢ f.Memory → a ≡ b
one_by_text bytes (f.Syntax m) (f.Syntax n) p q i j = ap f.Syntax (sym p.1 ∙ ap left_of (first_same (OwesNothing Any start) tokens_of bytes p.0 q.0 p.2.first q.2.first) ∙ q.1)
one_by_text bytes (f.Syntax m) (f.Deep n) p q i j = absurd (p.2.shallow q.0 q.2)
one_by_text bytes (f.Deep m) (f.Syntax n) p q i j = absurd (q.2.shallow p.0 p.2)
one_by_text bytes (f.Deep m) (f.Deep n) p q i j = ap f.Deep (sym p.1 ∙ ap left_of (one_deep bytes p.0 q.0 p.2 q.2) ∙ q.1)
one_by_text bytes f.Memory b p q i j = absurd (i refl)
one_by_text bytes a f.Memory p q i j = absurd (j refl)

same_left : (m n : ℕ) → f.Syntax m ≡ f.Syntax n → m ≡ n
same_left m n e = cc

same_deep : (m n : ℕ) → f.Deep m ≡ f.Deep n → m ≡ n
same_deep m n e = cc

-- with this many bytes left, it stands so far from the start
same_place : (m n left more whole : ℕ) → m + left ≡ whole → n + more ≡ whole → left ≡ more → m ≡ n
same_place m n left more whole p q e = omega arith

pub one_by_file : (bytes : List ℕ) (a b : ProofRefusal) → RefusesProofFile bytes a → RefusesProofFile bytes b → a ≢ r.Memory → b ≢ r.Memory → a ≡ b
one_by_file bytes (r.Syntax m) (r.Syntax n) p q i j =
    ap r.Syntax (same_place m n p.0 q.0 (length bytes) p.2 q.2 (same_left p.0 q.0 (one_by_text (body bytes) (f.Syntax p.0) (f.Syntax q.0) p.1 q.1 (λ e. cc) (λ e. cc))))
one_by_file bytes (r.Syntax m) (r.Deep n) p q i j = let bad = one_by_text (body bytes) (f.Syntax p.0) (f.Deep q.0) p.1 q.1 (λ e. cc) (λ e. cc) in absurd cc
one_by_file bytes (r.Deep m) (r.Syntax n) p q i j = let bad = one_by_text (body bytes) (f.Deep p.0) (f.Syntax q.0) p.1 q.1 (λ e. cc) (λ e. cc) in absurd cc
one_by_file bytes (r.Deep m) (r.Deep n) p q i j =
    ap r.Deep (same_place m n p.0 q.0 (length bytes) p.2 q.2 (same_deep p.0 q.0 (one_by_text (body bytes) (f.Deep p.0) (f.Deep q.0) p.1 q.1 (λ e. cc) (λ e. cc))))
one_by_file bytes r.Memory b p q i j = absurd (i refl)
one_by_file bytes a r.Memory p q i j = absurd (j refl)
