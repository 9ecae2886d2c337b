-- What `least` answers: the term, the elimination and the search for the least value, one after another with one purse.
use Rattle.std.specs.Prelude.{◌≡◌, ℕ, ℤ, List, [], ◌∷◌, ◌++◌, length, codes}
use Rattle.std.specs.Fmt.{signed_decimal}
use Rattle.linear_term.specs.Linear.{Linear}
use Rattle.linear_term.specs.declared.range.Place.{Place}
use Rattle.base_budget.specs.declared.fault.ElimFault.{ElimFault}
use Rattle.base_budget.specs.declared.fault.ElimFault.TheVariants as fault
use Rattle.base_budget.specs.Trace.{At, Funds, Traced, at, cut, done, out_of_range, refused}
use Rattle.clause_set.specs.declared.literal.Literal.{Literal}
use Rattle.elim_laws.specs.Whole.{eliminating}
use Rattle.form_typed.specs.Formula.{Expression}
use Rattle.pri_typing.specs.declared.problem.Problem.{Problem}
use Rattle.pri_printer.specs.Printed.{solution_text}
use Rattle.form_encoding.specs.Plain.{linear_of}
use Rattle.form_encoding.specs.Problems.{problem_root}
use Rattle.form_encoding.specs.Root.{names_from}
use Rattle.base_answers.specs.Answer.{Answer, line, refused_answer, says_line, unknown_answer}
use Rattle.pri_problem.specs.Answers.{AnswersFile}
use Rattle.pri_problem.specs.Encoded.{AnswersEncoded, AnswersPure}
use Rattle.optimiser.specs.Least.{Minimum, nothing, no_least, least_at, minimising}
use Rattle.job_least.specs.Objective.{IsObjective, IsNoObjective}

-- the line of the best values; there is none without existential constants
abbrev pub values_line : Problem → List (List ℕ) → List ℤ → List ℕ
values_line p [] vs = []
values_line p (name ∷ names) vs = line (codes "at: " ++ solution_text p vs)

-- the text that tells a least value
abbrev pub least_text : Problem → ℤ → List ℤ → List ℕ
least_text p k vs = line (codes "least: " ++ signed_decimal k) ++ values_line p p.existentials vs

-- the answer that tells what is said of the least value
abbrev pub minimum_answer : Problem → Minimum → Answer
minimum_answer p nothing = says_line 1 (codes "INVALID")
minimum_answer p no_least = says_line 0 (codes "unbounded")
minimum_answer p (least_at k vs) = record { status = 0; text = least_text p k vs }

-- the answer to work with a purse: that of its value, with the purse as the work leaves it, or that it is cut
pub data AnswersWork {A : Type 0} (IsAnswer : A → Funds → Answer → Type 0) (work : Traced A) (funds : Funds) (answer : Answer) : Type 0 where
  gives : (stands : At) → cut work.events (at funds []) ≡ done stands → IsAnswer work.value stands.funds answer → AnswersWork IsAnswer work funds answer
  steps : (stands : At) → cut work.events (at funds []) ≡ refused stands → answer ≡ unknown_answer (codes "steps") → AnswersWork IsAnswer work funds answer
  overflow : (numbers : List Place) (stands : At) → cut work.events (at funds []) ≡ out_of_range numbers stands → answer ≡ unknown_answer (codes "overflow")
      → AnswersWork IsAnswer work funds answer

-- what is told of work that is cut by this fault; running out of memory is not told
abbrev pub IsToldCut : ElimFault → Answer → Type 0
IsToldCut (fault.Steps log) answer = answer ≡ unknown_answer (codes "steps")
IsToldCut (fault.Overflow log place) answer = answer ≡ unknown_answer (codes "overflow")
IsToldCut fault.Memory answer = ⊥

-- a value for each existential constant, where there is a least value
abbrev pub HasLeastValues : Problem → Minimum → Type 0
HasLeastValues p (least_at k vs) = length vs ≡ length p.existentials
HasLeastValues p _ = Unit {0}

-- the linear term that the term is
abbrev pub objective_of : Problem → Expression → Traced Linear
objective_of p x = linear_of (names_from 0 (length p.existentials)) x

-- the exact constraint of the problem
abbrev pub constraint_of : Problem → Traced (List (List Literal))
constraint_of p = eliminating (length p.existentials) (problem_root p).value

-- the answer with the least value, found over a constraint
abbrev pub AnswersMinimum : Problem → Linear → List (List Literal) → Funds → Answer → Type 0
AnswersMinimum p t d = AnswersWork (λ m funds answer. answer ≡ minimum_answer p m) (minimising (length p.existentials) d t)

-- first comes the elimination
abbrev pub AnswersConstraint : Problem → Linear → Funds → Answer → Type 0
AnswersConstraint p t = AnswersWork (AnswersMinimum p t) (constraint_of p)

-- and before it the term is computed
abbrev pub AnswersLeast : ℕ → Expression → Problem → Answer → Type 0
AnswersLeast budget x p = AnswersWork (AnswersConstraint p) (objective_of p x) (record { budget = budget; spent = 0 })

-- the answer to a problem and the text of a term: the text is no such term, or the answer of the term to the problem's encoding
pub data AnswersObjective (text : List ℕ) (budget : ℕ) (p : Problem) (answer : Answer) : Type 0 where
  refused_text : IsNoObjective p text → answer ≡ refused_answer (codes "Objective") → AnswersObjective text budget p answer
  stated : (x : Expression) → IsObjective p text x → AnswersEncoded (AnswersLeast budget x) p answer → AnswersObjective text budget p answer

-- the answer of `least` with this term and budget to the bytes of a file
abbrev pub IsLeastAnswer : List ℕ → ℕ → List ℕ → Answer → Type 0
IsLeastAnswer text budget = AnswersFile (AnswersPure (AnswersObjective text budget))
