-- The encoding of a formula of numbers is one.
use Rattle.std.proofs.Common.{◌≡◌, ℕ, pos, negsuc, Bool, true, false, not, List, [], ◌∷◌, length, subst, arith}
use Rattle.std.specs.Bool.{beq}
use Rattle.linear_term.specs.Linear as linear
use Rattle.linear_term.specs.Linear.{Linear}
use Rattle.form_typed.specs.declared.typed.Relation.{Relation}
use Rattle.form_typed.specs.declared.typed.Relation.TheVariants.{Eq, Neq, Lt, Leq, Gt, Geq}
use Rattle.form_typed.specs.Formula.{Formula, Formulas, Expression, Expressions, formula, constant, compares, applies, negation, every, some, implies, iff, for_all, for_some, part, no_formula, and_formula, number, name, call, minus, total, product, choice, absolute, lesser, greater, no_expression, and_expression}
use Rattle.base_budget.specs.Trace.{Traced, just, step, next, combining, at}
use Rattle.formula.specs.Form.{Form, Forms, IsFormOver, no_form}
use Rattle.pri_typing.specs.declared.problem.Problem.{Problem}
use Rattle.pri_typing.specs.Everywhere.{Property, Everywhere, AllEverywhere, TermEverywhere, TermsEverywhere}
use Rattle.pri_typing.specs.Problems.{IsNoCall}
use Rattle.pri_typing.specs.WellFormed.{is_numeric, IsWellFormed}
use Rattle.form_encoding.specs.Encoding.{named, multiple, related, signed_relation, product_of, junction, cases, encoded, all_encoded, with_value, with_sum, with_more}
use Rattle.form_typed.specs.declared.typed.Sort.{Sort}
use Rattle.form_encoding.specs.Problems.{body, constants, problem_root}
use Rattle.form_encoding.specs.Root.{names_from, root}
use Rattle.pri_problem.proofs.Bytes.{reads_formed}
use Rattle.form_encoding.proofs.Problems.{root_over}
use Rattle.search.specs.Closed.{IsClosed, AreClosed}
use Rattle.base_budget.specs.Ending.{ending, out_of_steps}
use Rattle.search.specs.Run.{canonical_run}
use Rattle.search.proofs.Closed.{closed_enough}
use Rattle.job_solve.specs.Ground.{IsGround, IsEnough, IsGroundFormula}

plain : Property
plain = record { of_formula = IsGroundFormula; of_term = IsNoCall }

related_closed : (r : Relation) (a b : Linear) → IsClosed (related r a b).value
unfolding next just step
related_closed Eq a b = tt
related_closed Neq a b = tt
related_closed Geq a b = tt
related_closed Gt a b = tt
related_closed Leq a b = tt
related_closed Lt a b = tt

junction_closed : (plus : Bool) (gs : Forms) → AreClosed gs → IsClosed (junction plus gs)
junction_closed true gs h = h
junction_closed false gs h = h

abbrev RestClosed : (ℕ → Linear → Traced Form) → Type 0
RestClosed rest = (m : ℕ) (a : Linear) → IsClosed (rest m a).value

mutual
  unfolding next just step plain

  encoded_closed : (k : ℕ) (f : Formula) (at : List ℕ) (n : ℕ) (plus : Bool) → Everywhere plain k f → IsClosed (encoded at n plus f).value
  encoded_closed k (constant b) at n plus h = junction_closed (beq b plus) no_form tt
  encoded_closed k (compares r s t) at n plus h =
      value_closed k s at n (λ m a. with_value at t m (λ j b. related (signed_relation plus r) a b)) h.1
      (λ m a. value_closed k t at m (λ j b. related (signed_relation plus r) a b) h.2 (λ j b. related_closed (signed_relation plus r) a b))
  encoded_closed k (applies p ts) at n plus h = absurd h.0
  encoded_closed k (negation f) at n plus h = encoded_closed k f at n (not plus) h.1
  encoded_closed k (every fs) at n plus h = junction_closed plus (all_encoded at n plus fs).value (all_closed k fs at n plus h.1)
  encoded_closed k (some fs) at n plus h = junction_closed (not plus) (all_encoded at n plus fs).value (all_closed k fs at n plus h.1)
  encoded_closed k (implies f g) at n plus h = junction_closed (not plus) _ (encoded_closed k f at n (not plus) h.1, (encoded_closed k g at n plus h.2, tt))
  encoded_closed k (iff f g) at n plus h =
      ((encoded_closed k f at n (not plus) h.1, (encoded_closed k g at n true h.2, tt)), ((encoded_closed k f at n plus h.1, (encoded_closed k g at n false h.2, tt)), tt))
  encoded_closed k (for_all sort f) at n plus h = absurd h.0
  encoded_closed k (for_some sort f) at n plus h = absurd h.0
  encoded_closed k (part j f) at n plus h = encoded_closed k f at n plus h.1

  all_closed : (k : ℕ) (fs : Formulas) (at : List ℕ) (n : ℕ) (plus : Bool) → AllEverywhere plain k fs → AreClosed (all_encoded at n plus fs).value
  all_closed k no_formula at n plus h = tt
  all_closed k (and_formula f fs) at n plus h = (encoded_closed k f at n plus h.0, all_closed k fs at n plus h.1)

  value_closed : (k : ℕ) (t : Expression) (at : List ℕ) (n : ℕ) (rest : ℕ → Linear → Traced Form) → TermEverywhere plain k t → RestClosed rest → IsClosed (with_value at t n rest).value
  value_closed k (number v) at n rest h r = r n (linear.number v)
  value_closed k (name x) at n rest h r = r n (named at x)
  value_closed k (call f ts) at n rest h r = absurd h.0
  value_closed k (minus t) at n rest h r = value_closed k t at n (λ m a. next (multiple (negsuc 0) a) (rest m)) h.1 (λ m a. r m _)
  value_closed k (total ts) at n rest h r = sum_closed k ts at n rest h.1 r
  value_closed k (product s t) at n rest h r =
      value_closed k s at n (λ m a. with_value at t m (λ j b. next (product_of (is_numeric s) a b) (rest j))) h.1
      (λ m a. value_closed k t at m (λ j b. next (product_of (is_numeric s) a b) (rest j)) h.2 (λ j b. r j _))
  value_closed k (choice f s t) at n rest h r =
      value_closed k s at n (λ m a. with_value at t m (λ j b. cases (encoded at j true f) (rest j a) (encoded at j false f) (rest j b))) h.2
      (λ m a. value_closed k t at m (λ j b. cases (encoded at j true f) (rest j a) (encoded at j false f) (rest j b)) h.3
      (λ j b. ((encoded_closed k f at j true h.1, (r j a, tt)), ((encoded_closed k f at j false h.1, (r j b, tt)), tt))))
  value_closed k (absolute t) at n rest h r =
      value_closed k t at n (λ m a. cases (related Geq a (linear.number (pos 0))) (rest m a) (related Lt a (linear.number (pos 0))) (next (multiple (negsuc 0) a) (rest m))) h.1
      (λ m a. ((related_closed Geq a (linear.number (pos 0)), (r m a, tt)), ((related_closed Lt a (linear.number (pos 0)), (r m _, tt)), tt)))
  value_closed k (lesser s t) at n rest h r =
      value_closed k s at n (λ m a. with_value at t m (λ j b. cases (related Leq a b) (rest j a) (related Gt a b) (rest j b))) h.1
      (λ m a. value_closed k t at m (λ j b. cases (related Leq a b) (rest j a) (related Gt a b) (rest j b)) h.2
      (λ j b. ((related_closed Leq a b, (r j a, tt)), ((related_closed Gt a b, (r j b, tt)), tt))))
  value_closed k (greater s t) at n rest h r =
      value_closed k s at n (λ m a. with_value at t m (λ j b. cases (related Geq a b) (rest j a) (related Lt a b) (rest j b))) h.1
      (λ m a. value_closed k t at m (λ j b. cases (related Geq a b) (rest j a) (related Lt a b) (rest j b)) h.2
      (λ j b. ((related_closed Geq a b, (r j a, tt)), ((related_closed Lt a b, (r j b, tt)), tt))))

  sum_closed : (k : ℕ) (ts : Expressions) (at : List ℕ) (n : ℕ) (rest : ℕ → Linear → Traced Form) → TermsEverywhere plain k ts → RestClosed rest → IsClosed (with_sum at ts n rest).value
  sum_closed k no_expression at n rest h r = r n (linear.number (pos 0))
  sum_closed k (and_expression t ts) at n rest h r = value_closed k t at n (λ m a. with_more at ts m a rest) h.0 (λ m a. more_closed k ts at m a rest h.1 r)

  more_closed : (k : ℕ) (ts : Expressions) (at : List ℕ) (n : ℕ) (s : Linear) (rest : ℕ → Linear → Traced Form) → TermsEverywhere plain k ts → RestClosed rest → IsClosed (with_more at ts n s rest).value
  more_closed k no_expression at n s rest h r = r n s
  more_closed k (and_expression (minus t) ts) at n s rest h r =
      value_closed k t at n (λ m a. next (combining (pos 1) s (negsuc 0) a) (λ z. with_more at ts m z rest)) h.0.1 (λ m a. more_closed k ts at m _ rest h.1 r)
  more_closed k (and_expression t ts) at n s rest h r =
      value_closed k t at n (λ m a. next (combining (pos 1) s (pos 1) a) (λ z. with_more at ts m z rest)) h.0 (λ m a. more_closed k ts at m _ rest h.1 r)

no_constants : (es us : List Sort) (work : Traced Form) → length es ≡ 0 → length us ≡ 0 → IsClosed work.value → IsClosed (root es us work).value
unfolding next just
no_constants [] [] work e u h = h
no_constants [] (s ∷ us) work e u h = absurd (omega (arith, u))
no_constants (s ∷ es) us work e u h = absurd (omega (arith, e))

root_closed : (p : Problem) → IsWellFormed p → IsGround p → IsClosed (problem_root p).value
unfolding plain
root_closed p formed h =
    let none = h.alone in
    let m = formed.existential_types.many in
    let k = formed.universal_types.many in
    no_constants p.existential_types p.universal_types (body p) (omega (arith, none, m)) (omega (arith, none, k))
    (encoded_closed 0 (formula p.formula) (names_from 0 (constants p)) (constants p) true h.plain)

pub ground_enough : (budget : ℕ) (bytes : List ℕ) → IsEnough budget bytes
ground_enough budget bytes p poses fits ground enough out =
    let none = ground.alone in
    let formed = reads_formed bytes p poses.reads in
    let m : length p.existentials ≡ 0 = omega (arith, none) in
    let over : IsFormOver 0 (problem_root p).value = subst (λ n. IsFormOver n (problem_root p).value) m (root_over p formed) in
    closed_enough (problem_root p).value (record { budget = budget; spent = 0 }) out.0 (root_closed p formed ground) over (omega (arith, enough))
    (subst (λ n. ending (canonical_run (problem_root p).value n budget) (at (record { budget = budget; spent = 0 }) []) ≡ out_of_steps out.0) m out.1)
