-- What the answers of `least` mean.
use Rattle.std.proofs.Common.{◌≡◌, ◌≢◌, ℕ, ℤ, suc, Bool, true, false, ◌&&◌, List, length, inl, inr, refl, sym, ◌∙◌, ap, subst, arith}
use Rattle.std.specs.Ordering.{int_eq}
use Rattle.std.proofs.lemmas.Bool.Decides.{Decides-int_eq}
use Rattle.linear_term.specs.Linear.{value_of}
use Rattle.base_budget.specs.Trace.{Funds, Traced}
use Rattle.clause_set.specs.Literals.{dnf_truth}
use Rattle.formula.specs.Form.{Form, IsFormOver}
use Rattle.formula.specs.Sizes.{depth}
use Rattle.elim_laws.specs.Elimination.{Reflects}
use Rattle.elim_laws.specs.Presburger.{IsPresburger}
use Rattle.elim_laws.specs.Whole.{AreOver, Expresses, eliminating}
use Rattle.elim_laws.proofs.Over.{eliminated-over}
use Rattle.elim_laws.proofs.Reduced.{presburger_of}
use Rattle.elim_laws.proofs.Whole.{anywhere, eliminating-exact, tells_map}
use Rattle.solve_laws.specs.Solutions.{IsGiven}
use Rattle.optimiser.specs.Least.{IsMinimum, Minimum, nothing, no_least, least_at, minimising}
use Rattle.optimiser.proofs.LeastProofs.{least-exact}
use Rattle.form_typed.specs.Formula.{Expression}
use Rattle.form_typed.specs.Truth.{Meaning, HasValue}
use Rattle.pri_typing.specs.declared.problem.Problem.{Problem}
use Rattle.pri_typing.specs.Problems.{Holds, IsPure}
use Rattle.pri_typing.specs.WellFormed.{IsWellFormed}
use Rattle.form_encoding.specs.Plain.{IsPlain}
use Rattle.form_encoding.specs.Problems.{problem_root}
use Rattle.form_encoding.specs.Root.{names_from}
use Rattle.form_encoding.proofs.Problems.{holds_is, pure_is, root_over}
use Rattle.form_encoding.proofs.Products.{IsTermLinear}
use Rattle.job_least.proofs.PlainValues.{LeastMeans, plain_value}
use Rattle.job_least.proofs.PlainLeast.{means as least_means, same_value}
use Rattle.job_least.proofs.Terms.{over_all, plain_has}
use Rattle.base_answers.specs.Answer.{Answer}
use Rattle.pri_problem.specs.Reads.{Reads}
use Rattle.pri_problem.specs.Answers.{refused, posed}
use Rattle.pri_problem.specs.Encoded.{impure, pure, large, leaves, runs}
use Rattle.pri_problem.proofs.Bytes.{reads_formed, reads_pure}
use Rattle.pri_problem.proofs.Reduced.{problem_reduced}
use Rattle.job_least.specs.Objective.{IsObjective}
use Rattle.job_least.specs.Leasts.{AnswersConstraint, AnswersLeast, AnswersMinimum, AnswersObjective, AnswersWork, IsLeastAnswer, constraint_of, gives, minimum_answer, objective_of, overflow, refused_text, stated, steps}
use Rattle.job_least.specs.Meaning.{LeastAnswers}
use Rattle.job_least.proofs.Exactly.{Tells as TellsMinimum}
use Rattle.job_least.proofs.Shaped.{eliminating_form, reduced_of}
use Rattle.job_least.proofs.Typed.{objective_typed}

-- ---- the constraint that elimination makes

root_presburger : (p : Problem) → IsPure p → IsPresburger (problem_root p).value
root_presburger p without = presburger_of (problem_root p).value ((pure_is p).1 without) (problem_reduced p)

eliminating_over : (n : ℕ) (f : Form) → IsPresburger f → IsFormOver n f → AreOver n (eliminating n f).value
unfolding eliminating
eliminating_over n f is over = eliminated-over (suc (depth f)) n f (omega arith) is over

constraint_given : (p : Problem) → IsWellFormed p → IsPure p → IsGiven (length p.existentials) (constraint_of p).value
constraint_given p formed without =
    let f = (problem_root p).value in
    let is = root_presburger p without in
    let form = eliminating_form (length p.existentials) f is in
    record { formed = form.formed; shaped = form.shaped; over = eliminating_over (length p.existentials) f is (root_over p formed) }

-- it is true exactly where the problem holds
pub constraint_expresses : (w : Meaning) (p : Problem) → IsWellFormed p → IsPure p → Expresses (constraint_of p).value (length p.existentials) (Holds w p)
constraint_expresses w p formed without =
    let f = (problem_root p).value in
    let is = root_presburger p without in
    let exact = eliminating-exact (length p.existentials) f is in
    record {
      formed = exact.formed;
      tells = λ e many. tells_map (λ t. (holds_is w p e formed many).0 ((anywhere w f e is).1 t)) (λ h. (anywhere w f e is).0 ((holds_is w p e formed many).1 h)) (exact.tells e many);
    }

-- ---- the least value over it

-- what the search for the least value says
pub found_of : Problem → Expression → Minimum
found_of p x = (minimising (length p.existentials) (constraint_of p).value (objective_of p x).value).value

pub found_is : (p : Problem) (x : Expression) → (minimising (length p.existentials) (constraint_of p).value (objective_of p x).value).value ≡ found_of p x
unfolding found_of
found_is p x = refl

pub IsFound : Problem → Expression → Minimum → Type 0
IsFound p x m = IsMinimum (dnf_truth (constraint_of p).value) (length p.existentials) (value_of (objective_of p x).value) m

pub is_found : (p : Problem) (x : Expression) → IsWellFormed p → IsPure p → IsPlain x → IsFound p x (found_of p x)
unfolding found_of IsFound
is_found p x formed without plain =
    let n = length p.existentials in
    least-exact n (constraint_of p).value (objective_of p x).value (constraint_given p formed without) (reduced_of x (names_from 0 n) plain) (over_all n x plain)

-- what is said of the least value is so
pub found_means : (w : Meaning) (p : Problem) (x : Expression) (m : Minimum) → IsWellFormed p → IsPure p → IsPlain x → IsTermLinear x → IsFound p x m → LeastMeans w (Holds w p) (length p.existentials) x m
unfolding IsFound
found_means w p x m formed without plain linear is =
    least_means w (constraint_of p).value (length p.existentials) (Holds w p) x m (constraint_expresses w p formed without) plain linear is

-- ---- the best values there

has_value : (w : Meaning) (x : Expression) (e : List ℤ) (k : ℤ) → IsPlain x → HasValue w x e (λ v. v ≡ k) → plain_value x e ≡ k
has_value w x e k plain h = subst (λ (A : Type 0). A) (plain_has w x e (λ v. v ≡ k) plain) h

true_where : (b : Bool) (P : Type 0) → Reflects b P → P → b ≡ true
true_where true P t h = refl
true_where false P t h = absurd (t.no refl h)

both : (a b : Bool) → a ≡ true → b ≡ true → (a && b) ≡ true
both a b h k = ap (λ z. z && b) h ∙ k

-- a list at which the problem holds and the term has the value k is one that the search has compared
compared : (w : Meaning) (p : Problem) (x : Expression) (k : ℤ) (e : List ℤ) → IsWellFormed p → IsPure p → IsPlain x → IsTermLinear x → Holds w p e → HasValue w x e (λ v. v ≡ k)
    → (dnf_truth (constraint_of p).value e && int_eq (value_of (objective_of p x).value e) k) ≡ true
compared w p x k e formed without plain linear holds at =
    let d = (constraint_of p).value in
    let t = (objective_of p x).value in
    let value : value_of t e ≡ k = same_value (length p.existentials) x e plain linear holds.many ∙ has_value w x e k plain at in
    both (dnf_truth d e) (int_eq (value_of t e) k) (true_where (dnf_truth d e) (Holds w p e) ((constraint_expresses w p formed without).tells e holds.many) holds)
    ((Decides-int_eq (value_of t e) k).1 value)

-- ---- from work to its answer

-- what is so of each answer of status 2, and of each answer to the value of the work, is so of each answer to the work
pub by_work : {A : Type 0} (IsAnswer : A → Funds → Answer → Type 0) (P : Answer → Type 0) (work : Traced A) → ((a : Answer) → a.status ≡ 2 → P a) → ((f : Funds) (a : Answer) → IsAnswer work.value f a → P a)
    → (funds : Funds) (a : Answer) → AnswersWork IsAnswer work funds a → P a
by_work IsAnswer P work unknown told funds a (gives s e h) = told s.funds a h
by_work IsAnswer P work unknown told funds a (steps s e h) = unknown a (ap (λ (b : Answer). b.status) h)
by_work IsAnswer P work unknown told funds a (overflow ns s e h) = unknown a (ap (λ (b : Answer). b.status) h)

-- the same of the whole work for a term
pub by_least : (budget : ℕ) (x : Expression) (p : Problem) (P : Answer → Type 0) → ((a : Answer) → a.status ≡ 2 → P a) → ((a : Answer) → a ≡ minimum_answer p (found_of p x) → P a)
    → (a : Answer) → AnswersLeast budget x p a → P a
unfolding found_of
by_least budget x p P unknown told =
    let t = (objective_of p x).value in
    let d = (constraint_of p).value in
    by_work (AnswersConstraint p) P (objective_of p x) unknown
    (by_work (AnswersMinimum p t) P (constraint_of p) unknown (by_work (TellsMinimum p) P (minimising (length p.existentials) d t) unknown (λ f a e. told a e)))
    (record { budget = budget; spent = 0 })

-- ---- what the answers mean

-- an answer of another status than 0 and 1 says nothing
nothing_said : (w : Meaning) (term bytes : List ℕ) (a : Answer) (s : ℕ) → a.status ≡ s → s ≢ 0 → s ≢ 1 → LeastAnswers w term bytes a
nothing_said w term bytes a s e zero one = record { found = λ z. absurd (zero (sym e ∙ z)); none = λ z. absurd (one (sym e ∙ z)) }

minimum_means : (w : Meaning) (term bytes : List ℕ) (p : Problem) (x : Expression) (m : Minimum) (a : Answer) → Reads bytes p → IsPure p → IsObjective p term x → IsFound p x m → a ≡ minimum_answer p m → LeastAnswers w term bytes a
unfolding IsFound
minimum_means w term bytes p x nothing a reads without is found e =
    let formed = reads_formed bytes p reads in
    let linear = (objective_typed p term x is).1 in
    record {
      found = λ z. let bad = sym z ∙ ap (λ (b : Answer). b.status) e in absurd cc;
      none = λ z. record { problem = p; reads = reads; nowhere = λ v h. found_means w p x nothing formed without is.plain linear found v h.many h };
    }
minimum_means w term bytes p x no_least a reads without is found e =
    let formed = reads_formed bytes p reads in
    let linear = (objective_typed p term x is).1 in
    let below = found_means w p x no_least formed without is.plain linear found in
    record {
      found = λ z. record {
        problem = p;
        reads = reads;
        objective = x;
        stated = is;
        tells = inr (λ k. ((below k).0, (below k).1.holds, (below k).1.below), ap (λ (b : Answer). b.text) e);
      };
      none = λ z. let bad = sym z ∙ ap (λ (b : Answer). b.status) e in absurd cc;
    }
minimum_means w term bytes p x (least_at k vs) a reads without is found e =
    let formed = reads_formed bytes p reads in
    let linear = (objective_typed p term x is).1 in
    let says = found_means w p x (least_at k vs) formed without is.plain linear found in
    record {
      found = λ z. record {
        problem = p;
        reads = reads;
        objective = x;
        stated = is;
        tells = inl (
          k,
          vs,
          record {
            holds = says.holds;
            value = says.value;
            least = λ v h. says.least v h.many h;
            best = λ v h at j lt same. found.best.best v h.many (compared w p x k v formed without is.plain linear h at) j lt same;
          },
          ap (λ (b : Answer). b.text) e,
        );
      };
      none = λ z. let bad = sym z ∙ ap (λ (b : Answer). b.status) e in absurd cc;
    }

objective_means : (w : Meaning) (term : List ℕ) (budget : ℕ) (bytes : List ℕ) (p : Problem) (a : Answer) → Reads bytes p → IsPure p → AnswersObjective term budget p a → LeastAnswers w term bytes a
objective_means w term budget bytes p a reads without (refused_text none e) = nothing_said w term bytes a 3 (ap (λ (b : Answer). b.status) e) (λ z. cc) (λ z. cc)
objective_means w term budget bytes p a reads without (stated x is (large l e)) = nothing_said w term bytes a 3 (ap (λ (b : Answer). b.status) e) (λ z. cc) (λ z. cc)
objective_means w term budget bytes p a reads without (stated x is (leaves l e)) = nothing_said w term bytes a 2 (ap (λ (b : Answer). b.status) e) (λ z. cc) (λ z. cc)
objective_means w term budget bytes p a reads without (stated x is (runs fits r)) =
    by_least budget x p (LeastAnswers w term bytes) (λ b s. nothing_said w term bytes b 2 s (λ z. cc) (λ z. cc))
    (λ b e. minimum_means w term bytes p x (found_of p x) b reads without is (is_found p x (reads_formed bytes p reads) without is.plain) e) a r

pub means : (w : Meaning) (term : List ℕ) (budget : ℕ) (bytes : List ℕ) (a : Answer) → IsLeastAnswer term budget bytes a → LeastAnswers w term bytes a
means w term budget bytes a (refused r h e) = nothing_said w term bytes a 3 (ap (λ (b : Answer). b.status) e) (λ z. cc) (λ z. cc)
means w term budget bytes a (posed p h (impure at k e)) = nothing_said w term bytes a 3 (ap (λ (b : Answer). b.status) e) (λ z. cc) (λ z. cc)
means w term budget bytes a (posed p h (pure k r)) = objective_means w term budget bytes p a h.reads ((reads_pure bytes p h.reads).0 k) r
