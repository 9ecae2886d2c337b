-- An answer to a check and a model beside it.
use Rattle.std.proofs.Common.{◌≡◌, ℕ, Option, Some, subst}
use Rattle.pri_typing.specs.declared.problem.Problem.{Problem}
use Rattle.job_smt.specs.declared.checking.CheckAnswer.{CheckAnswer}
use Rattle.job_smt.specs.declared.models.Shown.{Shown}
use Rattle.job_smt.specs.Answers.{IsCheckAnswer, IsCheckOutcome, IsCheckedOutcome, IsModelShown}

pub answer_of : (budget : ℕ) (p : Problem) (o : Option CheckAnswer) (a : CheckAnswer) → o ≡ Some a → IsCheckOutcome budget p o → IsCheckAnswer budget p a
answer_of budget p o a e h = subst (IsCheckOutcome budget p) e h

pub both : (budget : ℕ) (p : Problem) (a : CheckAnswer) (m : Option Shown) → IsCheckAnswer budget p a → IsModelShown p m → IsCheckedOutcome budget p (Some (record { answer = a; model = m }))
both budget p a m h k = (h, k)
