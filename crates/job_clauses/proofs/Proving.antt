-- What a clause proof in a file shows of the problem.
use Rattle.std.proofs.Common.{◌≡◌, ℤ, ℕ, List, [], ◌∷◌, length, refl, sym, ap, subst}
use Rattle.form_encoding.specs.Problems.{problem_root}
use Rattle.form_encoding.proofs.Problems.{holds_is, root_over}
use Rattle.form_typed.specs.Truth.{Meaning}
use Rattle.formula.specs.Form.{FormTruth, IsFormOver}
use Rattle.clause_file.specs.Verdicts.{HoldsClauseProof}
use Rattle.clause_file.proofs.Meaning.{proof_means}
use Rattle.job_clauses.specs.Judged.{IsClauseFile}
use Rattle.pri_problem.proofs.Reduced.{problem_reduced}
use Rattle.pri_typing.specs.Problems.{Holds}
use Rattle.pri_typing.specs.WellFormed.{IsWellFormed}
use Rattle.pri_typing.specs.declared.problem.Problem.{Problem}

none_long : (p : Problem) → p.existentials ≡ [] → length p.existentials ≡ 0
none_long p none = ap length none

-- the problem holds in each interpretation
pub clauses_hold : (w : Meaning) (p : Problem) (file : List ℕ) → IsWellFormed p → p.existentials ≡ [] → IsClauseFile p file → Holds w p []
clauses_hold w p file formed none h =
    let over : IsFormOver 0 (problem_root p).value = subst (λ n. IsFormOver n (problem_root p).value) (none_long p none) (root_over p formed) in
    (holds_is w p [] formed (sym (none_long p none))).0 (proof_means w (problem_root p).value 0 file [] over (problem_reduced p) h.holds)

-- a list of no values
pub no_values : (vs : List ℤ) → length vs ≡ 0 → vs ≡ []
no_values [] e = refl
no_values (v ∷ vs) e = absurd cc
