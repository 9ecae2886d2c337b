-- What holds of the answers to files, whatever is answered of the problems: each job has this of its own answers.
use Rattle.std.proofs.Common.{◌≡◌, ℕ, List, Result, Ok, Err, IfOk, refl, sym, ◌∙◌, ap, subst, ◌⊎◌, inl, inr}
use Rattle.linear_term.specs.declared.range.Memory.{Memory}
use Rattle.base_answers.specs.Answer.{Answer, answer_of, refused_answer}
use Rattle.base_answers.specs.declared.output.Output.{Output}
use Rattle.pri_reader.specs.declared.tree.ReadRefusal.TheVariants as reading
use Rattle.pri_typing.specs.declared.problem.Problem.{Problem}
use Rattle.pri_typing.specs.declared.problem.TypeRefusal.{TypeRefusal}
use Rattle.pri_typing.specs.declared.problem.TypeRefusal.TheVariants as typing
use Rattle.pri_problem.specs.declared.fault.FileFault.{FileFault}
use Rattle.pri_problem.specs.declared.fault.FileFault.TheVariants as fault
use Rattle.pri_problem.specs.Reads.{Reads, Refusal, FirstRefusal, AreSame, unread, untyped}
use Rattle.pri_problem.specs.Refusals.{refusal_name}
use Rattle.pri_problem.specs.Answers.{Poses, AnswersFile, refused, posed}
use Rattle.pri_problem.specs.Faults.{RefusesFile, IsTold}
use Rattle.pri_problem.proofs.Bytes.{one_problem, one_refusal, read_or_refused}
use Rattle.pri_problem.proofs.Existing.{either}

-- one answer for each problem is one answer for each file
pub one_of_file : (IsAnswer : Problem → Answer → Type 0) → ((p q : Problem) (a : Answer) → AreSame p q → IsAnswer p a → IsAnswer q a) → ((p : Problem) (a b : Answer) → IsAnswer p a → IsAnswer p b → a ≡ b)
    → (bytes : List ℕ) (a b : Answer) → AnswersFile IsAnswer bytes a → AnswersFile IsAnswer bytes b → a ≡ b
one_of_file IsAnswer same one bytes a b (refused r h e) (refused s k f) = e ∙ ap (λ x. refused_answer (refusal_name x)) (one_refusal bytes r s h k) ∙ sym f
one_of_file IsAnswer same one bytes a b (refused r h e) (posed q k f) = absurd (read_or_refused bytes q r k.reads h)
one_of_file IsAnswer same one bytes a b (posed p h e) (refused s k f) = absurd (read_or_refused bytes p s h.reads k)
one_of_file IsAnswer same one bytes a b (posed p h e) (posed q k f) = one q a b (same p q a (one_problem bytes p q h.reads k.reads) e) f

-- the answer to the bytes of a problem that is answered is one of its answers
pub posed_answered : (IsAnswer : Problem → Answer → Type 0) → ((p q : Problem) (a : Answer) → AreSame p q → IsAnswer p a → IsAnswer q a)
    → (bytes : List ℕ) (a : Answer) (p : Problem) → AnswersFile IsAnswer bytes a → Poses bytes p → IsAnswer p a
posed_answered IsAnswer same bytes a p (refused r h e) poses = absurd (read_or_refused bytes p r poses.reads h)
posed_answered IsAnswer same bytes a p (posed q k e) poses = same q p a (one_problem bytes q p k.reads poses.reads) e

-- an answer for each problem is an answer for each file
pub some_of_file : (IsAnswer : Problem → Answer → Type 0) → ((bytes : List ℕ) (p : Problem) → Poses bytes p → (a : Answer) × IsAnswer p a) → (bytes : List ℕ) → (a : Answer) × AnswersFile IsAnswer bytes a
some_of_file IsAnswer some bytes = by (either bytes)
  where
    by : ((p : Problem) × Reads bytes p) ⊎ ((r : Refusal) × FirstRefusal bytes r) → (a : Answer) × AnswersFile IsAnswer bytes a
    by (inl h) =
        let poses : Poses bytes h.0 = record { reads = h.1 } in
        let found = some bytes h.0 poses in
        (found.0, posed h.0 poses found.1)
    by (inr h) = (refused_answer (refusal_name h.0), refused h.0 h.1 refl)

-- what is answered of the problem that a file poses is answered of the file
pub posed_so : (IsAnswer : Problem → Answer → Type 0) (bytes : List ℕ) (p : Problem) → Poses bytes p → (r : Result Output Memory)
    → IfOk r (λ o. IsAnswer p (answer_of o)) → IfOk r (λ o. AnswersFile IsAnswer bytes (answer_of o))
posed_so IsAnswer bytes p h (Ok o) k = posed p h k
posed_so IsAnswer bytes p h (Err m) k = tt

told_typing : (e : TypeRefusal) (o : Output) → IsTold (fault.Typing e) o → answer_of o ≡ refused_answer (refusal_name (untyped e))
told_typing (typing.Undeclared at) o k = k
told_typing (typing.Redeclared at) o k = k
told_typing (typing.Arity at) o k = k
told_typing (typing.Kind at) o k = k
told_typing (typing.NonLinear at) o k = k
told_typing (typing.Parts at) o k = k
told_typing (typing.Many at) o k = k
told_typing typing.Memory o k = absurd k

-- a fault that is told is the answer to the file
pub refused_so : (IsAnswer : Problem → Answer → Type 0) (bytes : List ℕ) (f : FileFault) → RefusesFile bytes f → (r : Result Output Memory)
    → IfOk r (IsTold f) → IfOk r (λ o. AnswersFile IsAnswer bytes (answer_of o))
refused_so IsAnswer bytes f h (Err m) k = tt
refused_so IsAnswer bytes (fault.Reading (reading.Syntax at)) h (Ok o) k = refused (unread (reading.Syntax at)) h k
refused_so IsAnswer bytes (fault.Reading (reading.Literal at)) h (Ok o) k = refused (unread (reading.Literal at)) h k
refused_so IsAnswer bytes (fault.Reading (reading.Deep at)) h (Ok o) k = refused (unread (reading.Deep at)) h k
refused_so IsAnswer bytes (fault.Reading reading.Memory) h (Ok o) k = absurd k
refused_so IsAnswer bytes (fault.Typing e) (inl memory) (Ok o) k = absurd (subst (λ x. IsTold (fault.Typing x) o) memory k)
refused_so IsAnswer bytes (fault.Typing e) (inr h) (Ok o) k = refused (untyped e) h (told_typing e o k)
