-- What the clause search finds, judged.
use Rattle.std.proofs.Common.{◌≡◌, ◌∙◌, ◌≤◌, ◌+◌, ◌*◌, ◌^◌, ℕ, zero, suc, ℤ, true, List, [], ◌∷◌, ◌++◌, length, refl, sym, ap, subst, append_assoc, append-nil, Result, Ok, arith}
use Rattle.form_encoding.specs.Problems.{problem_root}
use Rattle.form_encoding.specs.Root.{all_last}
use Rattle.form_encoding.proofs.Problems.{holds_is, pure_is, root_over}
use Rattle.base_budget.specs.Trace.{at}
use Rattle.clause_file.specs.Verdicts.{HoldsClauseProof}
use Rattle.clause_file.proofs.Meaning.{proof_means}
use Rattle.form_typed.specs.Truth.{Meaning}
use Rattle.formula.specs.Duals.{dual}
use Rattle.formula.specs.Made.{Made}
use Rattle.formula.specs.declared.calculus.Core.{Core}
use Rattle.linear_term.specs.declared.range.TermFault.{TermFault}
use Rattle.formula.specs.Form.{Form, FormTruth, IsFormOver}
use Rattle.formula.specs.Sizes.{depth}
use Rattle.formula.specs.Tree.{form}
use Rattle.formula.proofs.Duals.{dual_is, dual_over}
use Rattle.formula.proofs.Sameness.{depth_dual}
use Rattle.function_encoding.specs.declared.answer.Encoded.{Encoded}
use Rattle.job_seeking.specs.Sought.{IsClauseFileAt, IsProvedNowhere, denial}
use Rattle.pri_lines.proofs.Losing.{lost_refuted}
use Rattle.pri_problem.specs.Encoded.{IsEncoded}
use Rattle.pri_problem.proofs.Reduced.{problem_reduced}
use Rattle.pri_problem.proofs.Sizes.{searchable}
use Rattle.pri_typing.specs.Problems.{Holds, IsPure, IsRefuted}
use Rattle.pri_typing.specs.WellFormed.{IsWellFormed}
use Rattle.pri_typing.specs.declared.problem.Problem.{Problem}

-- ---- at values

-- the problem holds at the values of a proof
pub values_hold : (w : Meaning) (p : Problem) (vs : List ℤ) (file : List ℕ) → IsWellFormed p → IsClauseFileAt p vs file → Holds w p vs
values_hold w p vs file formed h =
    (holds_is w p vs formed h.holds.count).0 (proof_means w (problem_root p).value (length p.existentials) file vs (root_over p formed) (problem_reduced p) h.holds)

-- ---- nowhere

-- the formula for all integers of its last names is true exactly where it is at all lists of these
pub all_last_true : (w : Meaning) (k : ℕ) (f : Form) (e : List ℤ) → FormTruth w (all_last k f) e → (us : List ℤ) → length us ≡ k → FormTruth w f (e ++ us)
all_last_true w zero f e t [] is = subst (FormTruth w f) (sym (append-nil e)) t
all_last_true w zero f e t (u ∷ us) is = absurd cc
all_last_true w (suc k) f e t [] is = absurd cc
all_last_true w (suc k) f e t (u ∷ us) is = subst (FormTruth w f) (append_assoc e (u ∷ []) us) (all_last_true w k f (e ++ u ∷ []) (t u) us (let n = is in omega (arith, n)))

-- it speaks of as many names fewer
pub all_last_over : (n k : ℕ) (f : Form) → IsFormOver (n + k) f → IsFormOver n (all_last k f)
all_last_over n zero f over = subst (λ m. IsFormOver m f) (omega arith) over
all_last_over n (suc k) f over = all_last_over (suc n) k f (subst (λ m. IsFormOver m f) (omega arith) over)

pub all_last_depth : (k : ℕ) (f : Form) → depth (all_last k f) ≡ k + depth f
all_last_depth zero f = omega arith
all_last_depth (suc k) f = let e = all_last_depth k f in omega (arith, e)

pub denial_over : (p : Problem) → IsWellFormed p → IsFormOver 0 (denial p)
denial_over p formed =
    let n = length p.existentials in
    let f = (dual (problem_root p).value).value in
    all_last_over 0 n f (subst (λ m. IsFormOver m f) (omega arith) (dual_over n (problem_root p).value (root_over p formed)))

pub denial_depth : (p : Problem) (e : Encoded) → IsWellFormed p → IsEncoded p e → 2 * depth (denial p) + 64 ≤ 2 ^ 32
denial_depth p e formed h =
    let limits = searchable p e formed h in
    let many = h.constants in
    let few = limits.constants in
    let within = limits.depth in
    let root : depth (form e.root) ≡ depth (problem_root p).value = ap depth h.root in
    let same = all_last_depth (length p.existentials) (dual (problem_root p).value).value in
    let dual_depth = depth_dual (problem_root p).value in
    omega (arith, many, few, within, root, same, dual_depth)

-- where that is true in every interpretation the problem is refuted
pub denial_refutes : (p : Problem) → IsWellFormed p → IsPure p → ((w : Meaning) → FormTruth w (denial p) []) → IsRefuted p
denial_refutes p formed pure denied =
    lost_refuted p formed ((pure_is p).1 pure) (λ w v many t.
    let false_there = all_last_true w (length p.existentials) (dual (problem_root p).value).value [] (denied w) v many in
    (dual_is w (problem_root p).value v ((pure_is p).1 pure)).0 false_there t)

-- a check with no names has no values
no_values : (vs : List ℤ) → length vs ≡ 0 → vs ≡ []
no_values [] e = refl
no_values (u ∷ us) e = absurd cc

pub proved_nowhere : (p : Problem) (f : Form) (file : List ℕ) (vs : List ℤ) → IsWellFormed p → IsPure p → f ≡ denial p → HoldsClauseProof f 0 file vs → ((w : Meaning) → FormTruth w f vs) → IsProvedNowhere p
proved_nowhere p f file vs formed pure is held truth =
    let none = no_values vs held.count in
    record {
      pure = pure;
      refuted = denial_refutes p formed pure (λ w. subst (λ g. FormTruth w g []) is (subst (FormTruth w f) none (truth w)));
      file = file;
      proof = subst (λ g. HoldsClauseProof g 0 file []) is (subst (HoldsClauseProof f 0 file) none held);
    }

-- ---- in code

pub negation_made : (f : Form) (r : Result Core TermFault) (g : Core) → Made form (dual f) r → r ≡ Ok g → form g ≡ (dual f).value
negation_made f r g made is = by (subst (Made form (dual f)) is made)
  where
    by : Made form (dual f) (Ok g) → form g ≡ (dual f).value
    by k = ((k.works.each (at (record { budget = 0; spent = 0 }) [])).ok (form g) refl).0

-- it is closed, and a check has room for it
pub nowhere_over : (p : Problem) (f : Form) → IsWellFormed p → f ≡ denial p → IsFormOver 0 f
nowhere_over p f formed is = subst (IsFormOver 0) (sym is) (denial_over p formed)

pub nowhere_room : (p : Problem) (e : Encoded) (f : Form) → IsWellFormed p → IsEncoded p e → f ≡ denial p → 2 * depth f + 64 ≤ 2 ^ 32
nowhere_room p e f formed h is = subst (λ g. 2 * depth g + 64 ≤ 2 ^ 32) (sym is) (denial_depth p e formed h)
