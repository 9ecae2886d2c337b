-- A file and a term have at most one answer of `least`, and it has a status of answers.
use Rattle.std.proofs.Common.{◌≡◌, ℕ, ℤ, List, [], ◌∷◌, ◌++◌, length, None, refl, sym, ◌∙◌, ap, subst, codes}
use Rattle.std.specs.Fmt.{signed_decimal}
use Rattle.linear_term.specs.Linear.{Linear}
use Rattle.base_budget.specs.Trace.{At, Funds, Traced, done}
use Rattle.clause_set.specs.declared.literal.Literal.{Literal}
use Rattle.formula.specs.Form.{Form}
use Rattle.elim_laws.specs.Whole.{eliminating}
use Rattle.form_typed.specs.Formula.{Expression}
use Rattle.optimiser.specs.Least.{Minimum, nothing, no_least, least_at, minimising}
use Rattle.pri_typing.specs.declared.problem.Problem.{Problem}
use Rattle.pri_typing.specs.Phrase.{phrase}
use Rattle.pri_typing.specs.Terms.{IsTermOf}
use Rattle.pri_printer.specs.Text.{listed_text, value_texts}
use Rattle.form_encoding.specs.Plain.{linear_of}
use Rattle.form_encoding.specs.Problems.{problem_root}
use Rattle.form_encoding.specs.Root.{names_from}
use Rattle.base_answers.specs.Answer.{Answer, IsAnswerStatus, line}
use Rattle.pri_problem.specs.Reads.{AreSame}
use Rattle.pri_problem.specs.Answers.{Poses, refused, posed}
use Rattle.pri_problem.specs.Encoded.{AnswersEncoded, AnswersPure, impure, pure, large, leaves, runs}
use Rattle.pri_problem.proofs.Answering.{one_of_file, posed_answered}
use Rattle.pri_problem.proofs.Encoded.{one_of_encoded, one_of_pure, pure_answered, root_same, same_encoded, same_pure}
use Rattle.job_least.specs.Objective.{IsObjective}
use Rattle.job_least.specs.Leasts.{AnswersConstraint, AnswersLeast, AnswersMinimum, AnswersObjective, AnswersWork, IsLeastAnswer, constraint_of, gives, minimum_answer, objective_of, overflow, refused_text, stated, steps, values_line, least_text}
use Rattle.job_least.proofs.Objectives.{one_objective}

-- ---- one answer to work

same_end : (s t : At) → done s ≡ done t → s ≡ t
same_end s t e = cc

one_of_work : {A : Type 0} (IsAnswer : A → Funds → Answer → Type 0) → ((v : A) (f : Funds) (a b : Answer) → IsAnswer v f a → IsAnswer v f b → a ≡ b) → (work : Traced A) (funds : Funds) (a b : Answer)
    → AnswersWork IsAnswer work funds a → AnswersWork IsAnswer work funds b → a ≡ b
one_of_work IsAnswer one work funds a b (gives s e h) (gives t g k) = one work.value t.funds a b (subst (λ (z : At). IsAnswer work.value z.funds a) (same_end s t (sym e ∙ g)) h) k
one_of_work IsAnswer one work funds a b (gives s e h) (steps t g k) = let bad = sym e ∙ g in absurd cc
one_of_work IsAnswer one work funds a b (gives s e h) (overflow ns t g k) = let bad = sym e ∙ g in absurd cc
one_of_work IsAnswer one work funds a b (steps s e h) (gives t g k) = let bad = sym e ∙ g in absurd cc
one_of_work IsAnswer one work funds a b (steps s e h) (steps t g k) = h ∙ sym k
one_of_work IsAnswer one work funds a b (steps s e h) (overflow ns t g k) = let bad = sym e ∙ g in absurd cc
one_of_work IsAnswer one work funds a b (overflow ms s e h) (gives t g k) = let bad = sym e ∙ g in absurd cc
one_of_work IsAnswer one work funds a b (overflow ms s e h) (steps t g k) = let bad = sym e ∙ g in absurd cc
one_of_work IsAnswer one work funds a b (overflow ms s e h) (overflow ns t g k) = h ∙ sym k

-- what each answer to the value is, each answer to the work is
pub of_work : {A : Type 0} (P Q : A → Funds → Answer → Type 0) → ((v : A) (f : Funds) (a : Answer) → P v f a → Q v f a) → (work : Traced A) (funds : Funds) (a : Answer)
    → AnswersWork P work funds a → AnswersWork Q work funds a
of_work P Q go work funds a (gives s e h) = gives s e (go work.value s.funds a h)
of_work P Q go work funds a (steps s e h) = steps s e h
of_work P Q go work funds a (overflow ns s e h) = overflow ns s e h

-- the answer that tells this
abbrev pub Tells : Problem → Minimum → Funds → Answer → Type 0
Tells p m funds answer = answer ≡ minimum_answer p m

one_minimum : (p : Problem) (t : Linear) (d : List (List Literal)) (funds : Funds) (a b : Answer) → AnswersMinimum p t d funds a → AnswersMinimum p t d funds b → a ≡ b
one_minimum p t d = one_of_work (Tells p) (λ m f a b h k. h ∙ sym k) (minimising (length p.existentials) d t)

one_constraint : (p : Problem) (t : Linear) (funds : Funds) (a b : Answer) → AnswersConstraint p t funds a → AnswersConstraint p t funds b → a ≡ b
one_constraint p t = one_of_work (AnswersMinimum p t) (one_minimum p t) (constraint_of p)

one_least : (budget : ℕ) (x : Expression) (p : Problem) (a b : Answer) → AnswersLeast budget x p a → AnswersLeast budget x p b → a ≡ b
one_least budget x p = one_of_work (AnswersConstraint p) (one_constraint p) (objective_of p x) (record { budget = budget; spent = 0 })

one_of_objective : (text : List ℕ) (budget : ℕ) (p : Problem) (a b : Answer) → AnswersObjective text budget p a → AnswersObjective text budget p b → a ≡ b
one_of_objective text budget p a b (refused_text n e) (refused_text m f) = e ∙ sym f
one_of_objective text budget p a b (refused_text n e) (stated x h k) = absurd (n x h)
one_of_objective text budget p a b (stated x h k) (refused_text n e) = absurd (n x h)
one_of_objective text budget p a b (stated x h k) (stated y g l) =
    one_of_encoded (AnswersLeast budget y) (one_least budget y) p a b (subst (λ z. AnswersEncoded (AnswersLeast budget z) p a) (one_objective p text x y h g) k) l

-- ---- the same problems have the same answers

values_same : (p q : Problem) (names : List (List ℕ)) (vs : List ℤ) → p.existentials ≡ q.existentials → values_line p names vs ≡ values_line q names vs
values_same p q [] vs same = refl
values_same p q (name ∷ names) vs same = ap (λ es. line (codes "at: " ++ listed_text (value_texts es vs))) same

text_same : (p q : Problem) (k : ℤ) (vs : List ℤ) → p.existentials ≡ q.existentials → least_text p k vs ≡ least_text q k vs
text_same p q k vs same = ap (λ l. line (codes "least: " ++ signed_decimal k) ++ l) (values_same p q p.existentials vs same ∙ ap (λ names. values_line q names vs) same)

told_same : (p q : Problem) (m : Minimum) → p.existentials ≡ q.existentials → minimum_answer p m ≡ minimum_answer q m
told_same p q nothing same = refl
told_same p q no_least same = refl
told_same p q (least_at k vs) same = ap (λ text. found text) (text_same p q k vs same)
  where
    found : List ℕ → Answer
    found text = record { status = 0; text = text }

same_minimum : (p q : Problem) → AreSame p q → (t : Linear) (d : List (List Literal)) (funds : Funds) (a : Answer) → AnswersMinimum p t d funds a → AnswersMinimum q t d funds a
same_minimum p q same t d funds a h =
    subst (λ (w : Traced Minimum). AnswersWork (Tells q) w funds a) (ap (λ (names : List (List ℕ)). minimising (length names) d t) same.existentials)
    (of_work (Tells p) (Tells q) (λ m f b e. e ∙ told_same p q m same.existentials) (minimising (length p.existentials) d t) funds a h)

constraint_same : (p q : Problem) → AreSame p q → constraint_of p ≡ constraint_of q
constraint_same p q same =
    ap (λ (w : Traced Form). eliminating (length p.existentials) w.value) (root_same p q same) ∙ ap (λ (names : List (List ℕ)). eliminating (length names) (problem_root q).value) same.existentials

same_constraint : (p q : Problem) → AreSame p q → (t : Linear) (funds : Funds) (a : Answer) → AnswersConstraint p t funds a → AnswersConstraint q t funds a
same_constraint p q same t funds a h =
    subst (λ (w : Traced (List (List Literal))). AnswersWork (AnswersMinimum q t) w funds a) (constraint_same p q same)
    (of_work (AnswersMinimum p t) (AnswersMinimum q t) (same_minimum p q same t) (constraint_of p) funds a h)

same_least : (budget : ℕ) (x : Expression) (p q : Problem) (a : Answer) → AreSame p q → AnswersLeast budget x p a → AnswersLeast budget x q a
same_least budget x p q a same h =
    subst (λ (w : Traced Linear). AnswersWork (AnswersConstraint q) w (record { budget = budget; spent = 0 }) a) (ap (λ (names : List (List ℕ)). linear_of (names_from 0 (length names)) x) same.existentials)
    (of_work (AnswersConstraint p) (AnswersConstraint q) (same_constraint p q same) (objective_of p x) (record { budget = budget; spent = 0 }) a h)

pub objective_same : (p q : Problem) (text : List ℕ) (x : Expression) → p.existentials ≡ q.existentials → IsObjective p text x → IsObjective q text x
objective_same p q text x same h = record { read = h.read; reads = h.reads; typed = subst (λ cs. IsTermOf cs (phrase h.read) x) same h.typed; plain = h.plain }

same_objective : (text : List ℕ) (budget : ℕ) (p q : Problem) (a : Answer) → AreSame p q → AnswersObjective text budget p a → AnswersObjective text budget q a
same_objective text budget p q a same (refused_text none e) = refused_text (λ x h. none x (objective_same q p text x (sym same.existentials) h)) e
same_objective text budget p q a same (stated x h k) = stated x (objective_same p q text x same.existentials h) (same_encoded (AnswersLeast budget x) (same_least budget x) p q a same k)

same_problem : (text : List ℕ) (budget : ℕ) (p q : Problem) (a : Answer) → AreSame p q → AnswersPure (AnswersObjective text budget) p a → AnswersPure (AnswersObjective text budget) q a
same_problem text budget = same_pure (AnswersObjective text budget) (same_objective text budget)

pub one_answer : (text : List ℕ) (budget : ℕ) (bytes : List ℕ) (a b : Answer) → IsLeastAnswer text budget bytes a → IsLeastAnswer text budget bytes b → a ≡ b
one_answer text budget = one_of_file (AnswersPure (AnswersObjective text budget)) (same_problem text budget) (one_of_pure (AnswersObjective text budget) (one_of_objective text budget))

-- the answer to the bytes of a problem without applications is that of the term to the problem
pub objective_answered : (text : List ℕ) (budget : ℕ) (bytes : List ℕ) (a : Answer) (p : Problem) → IsLeastAnswer text budget bytes a → Poses bytes p → p.first_application ≡ None → AnswersObjective text budget p a
objective_answered text budget bytes a p answered poses none =
    pure_answered (AnswersObjective text budget) p a (posed_answered (AnswersPure (AnswersObjective text budget)) (same_problem text budget) bytes a p answered poses) none

-- ---- its status

minimum_status : (p : Problem) (m : Minimum) → IsAnswerStatus (minimum_answer p m).status
minimum_status p nothing = refl
minimum_status p no_least = refl
minimum_status p (least_at k vs) = refl

-- an answer to work has a status, where each answer to its value has one
work_status : {A : Type 0} (IsAnswer : A → Funds → Answer → Type 0) → ((v : A) (f : Funds) (a : Answer) → IsAnswer v f a → IsAnswerStatus a.status) → (work : Traced A) (funds : Funds) (a : Answer)
    → AnswersWork IsAnswer work funds a → IsAnswerStatus a.status
work_status IsAnswer all work funds a (gives s e h) = all work.value s.funds a h
work_status IsAnswer all work funds a (steps s e h) = subst (λ (b : Answer). IsAnswerStatus b.status) (sym h) refl
work_status IsAnswer all work funds a (overflow ns s e h) = subst (λ (b : Answer). IsAnswerStatus b.status) (sym h) refl

least_of_status : (budget : ℕ) (x : Expression) (p : Problem) (a : Answer) → AnswersLeast budget x p a → IsAnswerStatus a.status
least_of_status budget x p =
    work_status (AnswersConstraint p) (λ t. work_status (AnswersMinimum p t) (λ d. work_status (Tells p) (λ m f a e. subst (λ (b : Answer). IsAnswerStatus b.status) (sym e) (minimum_status p m))
    (minimising (length p.existentials) d t)) (constraint_of p)) (objective_of p x) (record { budget = budget; spent = 0 })

objective_status : (text : List ℕ) (budget : ℕ) (p : Problem) (a : Answer) → AnswersObjective text budget p a → IsAnswerStatus a.status
objective_status text budget p a (refused_text n e) = subst (λ (b : Answer). IsAnswerStatus b.status) (sym e) refl
objective_status text budget p a (stated x h (large l e)) = subst (λ (b : Answer). IsAnswerStatus b.status) (sym e) refl
objective_status text budget p a (stated x h (leaves l e)) = subst (λ (b : Answer). IsAnswerStatus b.status) (sym e) refl
objective_status text budget p a (stated x h (runs f r)) = least_of_status budget x p a r

pub least_status : (text : List ℕ) (budget : ℕ) (bytes : List ℕ) (a : Answer) → IsLeastAnswer text budget bytes a → IsAnswerStatus a.status
least_status text budget bytes a (refused r h e) = subst (λ (b : Answer). IsAnswerStatus b.status) (sym e) refl
least_status text budget bytes a (posed p h (impure at k e)) = subst (λ (b : Answer). IsAnswerStatus b.status) (sym e) refl
least_status text budget bytes a (posed p h (pure k r)) = objective_status text budget p a r
