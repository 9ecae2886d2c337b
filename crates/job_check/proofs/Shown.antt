-- What a clause proof shows of a problem.
use Rattle.std.proofs.Common.{◌≡◌, ◌+◌, ◌∙◌, ℕ, ℤ, true, List, [], ◌∷◌, ◌++◌, length, append-nil, length-append, refl, sym, ap, subst, arith}
use Rattle.formula.specs.Form.{Form, FormTruth, IsFormOver}
use Rattle.clause_set.specs.Literals.{dnf_truth}
use Rattle.elim_laws.specs.Whole.{AreOver}
use Rattle.form_encoding.specs.Problems.{problem_root}
use Rattle.model_trees.specs.Walk.{point}
use Rattle.model_trees.proofs.Points.{point_given, point_true, true_point}
use Rattle.pri_typing.specs.declared.problem.Problem.{Problem}
use Rattle.pri_lines.specs.Meaning.{CoversRoot}
use Rattle.pri_problem.specs.Reads.{AreSame}
use Rattle.pri_problem.proofs.Encoded.{root_same}
use Rattle.pri_problem.proofs.Reduced.{problem_reduced}
use Rattle.clause_file.specs.Verdicts.{IsVerdict, Verdict, proof as shows, refused, wrong}
use Rattle.clause_file.proofs.Meaning.{proof_means}
use Rattle.clause_file.proofs.OneVerdict.{one_verdict}
use Rattle.job_check.specs.Clauses.{HasWrongLine, IsRefusedText, Shows}

-- what is so of the encoding of a problem is so of that of the same problem
pub moved : (P : Form → ℕ → Type 0) (p q : Problem) → AreSame p q → P (problem_root p).value (length p.existentials) → P (problem_root q).value (length q.existentials)
moved P p q same h = subst (λ names. P (problem_root q).value (length names)) same.existentials (subst (λ w. P w.value (length p.existentials)) (root_same p q same) h)

no_more : (r : List ℤ) → length r ≡ 0 → r ≡ []
no_more [] e = refl
no_more (x ∷ r) e = absurd (omega (arith, e))

-- a list that begins with another one of its length is that one
alone : (vs e r : List ℤ) → length e ≡ length vs → e ≡ vs ++ r → vs ≡ e
alone vs e r long is =
    let none = no_more r (omega (arith, long, ap length is, length-append vs r)) in
    sym (is ∙ ap (λ t. vs ++ t) none ∙ append-nil vs)

-- a clause proof covers the encoding of the problem at its values alone
pub shown_covers : (p : Problem) → IsFormOver (length p.existentials) (problem_root p).value → (proof : List ℕ) (vs : List ℤ) → Shows p proof vs → CoversRoot p (point vs) vs
shown_covers p over proof vs h = record {
  over = subst (λ n. AreOver n (point vs)) h.count (point_given (length vs) vs (omega arith)).over;
  covers = λ w e long t.
      let r = true_point vs e (omega (arith, long, h.count)) t in
      subst (FormTruth w (problem_root p).value) (alone vs e r.0 (long ∙ sym h.count) r.1) (proof_means w (problem_root p).value (length p.existentials) proof vs over (problem_reduced p) h);
  many = h.count;
  satisfies = subst (λ e. dnf_truth (point vs) e ≡ true) (append-nil vs) (point_true vs []);
}

-- ---- what a file is as a clause proof, it is once
pub one : (p : Problem) (proof : List ℕ) (a b : Verdict) → IsVerdict (problem_root p).value (length p.existentials) proof a → IsVerdict (problem_root p).value (length p.existentials) proof b → a ≡ b
one p proof = one_verdict (problem_root p).value (length p.existentials) proof

pub not_refused : (p : Problem) (proof : List ℕ) (at : ℕ) (vs : List ℤ) → IsRefusedText p proof at → Shows p proof vs → ⊥
not_refused p proof at vs h k = let bad = one p proof (refused at) (shows vs) h k in cc

pub not_wrong : (p : Problem) (proof : List ℕ) (at : ℕ) (vs : List ℤ) → HasWrongLine p proof at → Shows p proof vs → ⊥
not_wrong p proof at vs h k = let bad = one p proof (wrong at) (shows vs) h k in cc
