-- What is told of the check of a clause proof is the answer to the problem and the proof.
use Rattle.std.proofs.Common.{◌≡◌, ◌∙◌, ℕ, ℤ, true, false, List, length, Result, Ok, Err, IfOk, ap, subst}
use Rattle.linear_term.specs.declared.range.Memory.{Memory}
use Rattle.formula.specs.Form.{Form}
use Rattle.formula.specs.Tree.{form}
use Rattle.form_encoding.specs.Problems.{problem_root}
use Rattle.function_encoding.specs.declared.answer.Encoded.{Encoded}
use Rattle.model_trees.specs.Walk.{point}
use Rattle.pri_typing.specs.declared.problem.Problem.{Problem}
use Rattle.base_answers.specs.Answer.{Answer, answer_of}
use Rattle.base_answers.specs.declared.output.Output.{Output}
use Rattle.pri_problem.specs.Encoded.{IsEncoded}
use Rattle.clause_file.specs.Answers.{IsFault, is_clause_text}
use Rattle.clause_file.specs.Costs.{IsCostAt}
use Rattle.clause_file.specs.Ranges.{IsRangeAt}
use Rattle.clause_file.specs.Verdicts.{HoldsClauseProof, IsRefusedFirst, IsWrongAt}
use Rattle.clause_file.specs.declared.fault.ClauseFault.{ClauseFault}
use Rattle.clause_file.specs.declared.fault.ClauseFault.TheVariants as fault
use Rattle.job_check.specs.Checked.{AnswersProof, AnswersTree, clauses, tree}
use Rattle.job_check.specs.Clauses.{AnswersClauses, closed, cost, range, syntax, valid, wrong}
use Rattle.job_check.specs.Told.{IsCheckedValid, TellsClauseFault, alone, lines}

-- what is so of the encoded root is so of the encoding of the problem
pub at_problem : (P : Form → ℕ → Type 0) (p : Problem) (e : Encoded) → IsEncoded p e → P (form e.root) e.constants → P (problem_root p).value (length p.existentials)
at_problem P p e h k = subst (P (problem_root p).value) h.constants (subst (λ f. P f e.constants) h.root k)

shown_told : (p : Problem) (e : Encoded) → IsEncoded p e → (proof : List ℕ) (vs : List ℤ) → HoldsClauseProof (form e.root) e.constants proof vs → (a : Answer) → IsCheckedValid p (point vs) vs a → AnswersClauses proof p a
shown_told p e h proof vs k a (alone none is) = closed vs (at_problem (λ f n. HoldsClauseProof f n proof vs) p e h k) none is
shown_told p e h proof vs k a (lines text some ls is) = valid vs ls.0 (at_problem (λ f n. HoldsClauseProof f n proof vs) p e h k) some ls.1 (is ∙ ap (λ x. record { status = 0; text = x }) ls.2)

pub shown_so : (p : Problem) (e : Encoded) → IsEncoded p e → (proof : List ℕ) (vs : List ℤ) → HoldsClauseProof (form e.root) e.constants proof vs → (r : Result Output Memory)
    → IfOk r (λ out. IsCheckedValid p (point vs) vs (answer_of out)) → IfOk r (λ out. AnswersClauses proof p (answer_of out))
shown_so p e h proof vs k (Ok out) told = shown_told p e h proof vs k (answer_of out) told
shown_so p e h proof vs k (Err m) told = tt

fault_told : (p : Problem) (e : Encoded) → IsEncoded p e → (proof : List ℕ) (f : ClauseFault) → IsFault (form e.root) e.constants proof f → (a : Answer) → TellsClauseFault f a → AnswersClauses proof p a
fault_told p e h proof (fault.Syntax at) t a is = syntax at (at_problem (λ f n. IsRefusedFirst f n proof at) p e h t) is
fault_told p e h proof (fault.Line at) t a is = wrong at (at_problem (λ f n. IsWrongAt f n proof at) p e h t) is
fault_told p e h proof (fault.Range at) t a is = range at (at_problem (λ f n. IsRangeAt f n proof at) p e h t) is
fault_told p e h proof (fault.Cost at) t a is = cost at (at_problem (λ f n. IsCostAt f n proof at) p e h t) is
fault_told p e h proof fault.Memory t a is = absurd is

pub fault_so : (p : Problem) (e : Encoded) → IsEncoded p e → (proof : List ℕ) (f : ClauseFault) → IsFault (form e.root) e.constants proof f → (r : Result Output Memory)
    → IfOk r (λ out. TellsClauseFault f (answer_of out)) → IfOk r (λ out. AnswersClauses proof p (answer_of out))
fault_so p e h proof f t (Ok out) told = fault_told p e h proof f t (answer_of out) told
fault_so p e h proof f t (Err m) told = tt

-- ---- by the format

pub clauses_so : (p : Problem) (proof : List ℕ) → is_clause_text proof ≡ true → (r : Result Output Memory) → IfOk r (λ out. AnswersClauses proof p (answer_of out)) → IfOk r (λ out. AnswersProof proof p (answer_of out))
clauses_so p proof is (Ok out) k = clauses is k
clauses_so p proof is (Err m) k = tt

pub tree_so : (p : Problem) (proof : List ℕ) → is_clause_text proof ≡ false → (r : Result Output Memory) → IfOk r (λ out. AnswersTree proof p (answer_of out)) → IfOk r (λ out. AnswersProof proof p (answer_of out))
tree_so p proof other (Ok out) k = tree other k
tree_so p proof other (Err m) k = tt
