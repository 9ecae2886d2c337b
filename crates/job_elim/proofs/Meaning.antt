-- What the answers of `elim` mean.
use Rattle.std.proofs.Common.{◌≡◌, ◌≢◌, ◌↔◌, ℕ, suc, ℤ, Bool, true, false, List, length, refl, sym, ◌∙◌, ap, subst, arith}
use Rattle.form_typed.specs.Truth.{Meaning}
use Rattle.base_budget.specs.Trace.{At, at, End, done, refused as end_refused, out_of_range}
use Rattle.clause_set.specs.declared.literal.Literal.{Literal}
use Rattle.clause_set.specs.Literals.{dnf_truth}
use Rattle.formula.specs.Form.{Form, FormTruth, IsFormOver}
use Rattle.formula.specs.Sizes.{depth}
use Rattle.elim_laws.specs.Elimination.{Reflects}
use Rattle.elim_laws.specs.Presburger.{IsPresburger, IsPresburgerTrue as IsPlainlyTrue}
use Rattle.elim_laws.specs.Whole.{AreOver, IsExact, eliminating}
use Rattle.elim_laws.proofs.Over.{eliminated-over}
use Rattle.elim_laws.proofs.Reduced.{presburger_of}
use Rattle.elim_laws.proofs.Whole.{anywhere, eliminating-exact}
use Rattle.base_budget.specs.Ending.{ended, ends_with}
use Rattle.form_encoding.specs.Problems.{problem_root}
use Rattle.form_encoding.proofs.Problems.{holds_is, pure_is, root_over}
use Rattle.pri_typing.specs.declared.problem.Problem.{Problem}
use Rattle.pri_typing.specs.Problems.{IsPure}
use Rattle.pri_printer.specs.Printed.{dnf_formula}
use Rattle.base_answers.specs.Answer.{Answer}
use Rattle.pri_lines.specs.Constraint.{IsTextOf, constraint_line}
use Rattle.pri_lines.proofs.Printed.{speaks, true_where}
use Rattle.pri_problem.specs.Reads.{Reads}
use Rattle.pri_problem.specs.Answers.{refused, posed}
use Rattle.pri_problem.specs.Encoded.{impure, pure, large, leaves, runs}
use Rattle.pri_problem.proofs.Bytes.{reads_formed, reads_pure}
use Rattle.pri_problem.proofs.Reduced.{problem_reduced}
use Rattle.job_elim.specs.Eliminated.{AnswersElimEnd, made, steps, overflow, elimination_end, IsEliminated}
use Rattle.job_elim.specs.Meaning.{Constrained, ElimMeans}

-- ---- the constraint that elimination makes

root_presburger : (p : Problem) → IsPure p → IsPresburger (problem_root p).value
root_presburger p without = presburger_of (problem_root p).value ((pure_is p).1 without) (problem_reduced p)

eliminating_over : (n : ℕ) (f : Form) → IsPresburger f → IsFormOver n f → AreOver n (eliminating n f).value
unfolding eliminating
eliminating_over n f is over = eliminated-over (suc (depth f)) n f (omega arith) is over

yes_where : (b : Bool) (P : Type 0) → Reflects b P → P → b ≡ true
yes_where true P h x = refl
yes_where false P h x = absurd (h.no refl x)

-- the constraint is true exactly where the encoded problem is
exact_where : (w : Meaning) (p : Problem) (d : List (List Literal)) (e : List ℤ) → IsPure p → d ≡ (eliminating (length p.existentials) (problem_root p).value).value → length e ≡ length p.existentials
    → (dnf_truth d e ≡ true) ↔ FormTruth w (problem_root p).value e
exact_where w p d e without is many =
    let f = (problem_root p).value in
    let presburger = root_presburger p without in
    let exact : IsExact d f (length p.existentials) = subst (λ x. IsExact x f (length p.existentials)) (sym is) (eliminating-exact (length p.existentials) f presburger) in
    let any = anywhere w f e presburger in
    (λ t. any.1 ((exact.tells e many).yes t), λ t. yes_where (dnf_truth d e) (IsPlainlyTrue f e) (exact.tells e many) (any.0 t))

-- what an elimination ends with is its value
ends_same : (v d : List (List Literal)) (z : End) (stands : At) → ended v z ≡ ends_with d stands → v ≡ d
ends_same v d (done a) stands is = cc
ends_same v d (end_refused a) stands is = absurd cc
ends_same v d (out_of_range numbers a) stands is = absurd cc

-- ---- status 0

-- the constraint that is made is over the existential constants
pub made_over : (p : Problem) → IsFormOver (length p.existentials) (problem_root p).value → (d : List (List Literal)) → IsPure p → d ≡ (eliminating (length p.existentials) (problem_root p).value).value → AreOver (length p.existentials) d
made_over p own d without is = subst (AreOver (length p.existentials)) (sym is) (eliminating_over (length p.existentials) (problem_root p).value (root_presburger p without) own)

made_constrains : (w : Meaning) (bytes : List ℕ) (p : Problem) (d : List (List Literal)) (x text : List ℕ) → Reads bytes p → IsPure p
    → d ≡ (eliminating (length p.existentials) (problem_root p).value).value → IsTextOf p d x → text ≡ constraint_line x → Constrained w bytes text
made_constrains w bytes p d x text reads without is printed e =
    let formed = reads_formed bytes p reads in
    let over = made_over p (root_over p formed) d without is in
    record {
      problem = p;
      reads = reads;
      x = x;
      printed = e;
      constraint = dnf_formula p d;
      says = printed.says;
      alone = speaks p d over;
      exact = λ v. (
        λ t. (holds_is w p v formed t.many).0 ((exact_where w p d v without is t.many).0 ((true_where w p d v over t.many).0 t)),
        λ h. (true_where w p d v over h.many).1 ((exact_where w p d v without is h.many).1 ((holds_is w p v formed h.many).1 h)),
      );
    }

-- an answer with another status than 0 says nothing
nothing_made : (w : Meaning) (bytes : List ℕ) (a : Answer) (s : ℕ) → a.status ≡ s → s ≢ 0 → ElimMeans w bytes a
nothing_made w bytes a s e other = λ z. absurd (other (sym e ∙ z))

end_means : (w : Meaning) (budget : ℕ) (bytes : List ℕ) (p : Problem) (a : Answer) → Reads bytes p → IsPure p → AnswersElimEnd p (elimination_end budget p) a → ElimMeans w bytes a
end_means w budget bytes p a reads without (made d stands x is printed e) =
    λ z. made_constrains w bytes p d x a.text reads without (sym (ends_same _ d _ stands is)) printed (ap (λ b. b.text) e)
end_means w budget bytes p a reads without (steps stands is e) = nothing_made w bytes a 2 (ap (λ b. b.status) e) (λ z. cc)
end_means w budget bytes p a reads without (overflow numbers stands is e) = nothing_made w bytes a 2 (ap (λ b. b.status) e) (λ z. cc)

pub means : (w : Meaning) (budget : ℕ) (bytes : List ℕ) (a : Answer) → IsEliminated budget bytes a → ElimMeans w bytes a
means w budget bytes a (refused r h e) = nothing_made w bytes a 3 (ap (λ b. b.status) e) (λ z. cc)
means w budget bytes a (posed p h (impure at k e)) = nothing_made w bytes a 3 (ap (λ b. b.status) e) (λ z. cc)
means w budget bytes a (posed p h (pure k (large l e))) = nothing_made w bytes a 3 (ap (λ b. b.status) e) (λ z. cc)
means w budget bytes a (posed p h (pure k (leaves l e))) = nothing_made w bytes a 2 (ap (λ b. b.status) e) (λ z. cc)
means w budget bytes a (posed p h (pure k (runs f r))) = end_means w budget bytes p a h.reads ((reads_pure bytes p h.reads).0 k) r
