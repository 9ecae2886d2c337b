-- The answers to checks as the code makes them.
use Rattle.std.specs.Prelude.{ℕ, Bool, true, false, List, [], ◌∷◌, Option, Some, None}
use Rattle.pri_typing.specs.declared.problem.Problem.{Problem}
use Rattle.job_smt.specs.declared.checking.CheckAnswer.{CheckAnswer}
use Rattle.job_smt.specs.declared.models.Checked.{Checked}
use Rattle.job_smt.specs.declared.checking.CheckAnswer.TheVariants.{Unsat, Sat, Unknown}
use Rattle.smt_reader.specs.declared.replies.Reply.{Reply}
use Rattle.smt_reader.specs.declared.replies.Reply.TheVariants as reply
use Rattle.job_smt.specs.declared.lines.Answers.{Answers}
use Rattle.job_smt.specs.Answers.{AreCheckAnswers, AreFirstAnswers}

-- answers to all checks, or, where they stop, to those before one that is too large
abbrev pub AreGivenBy : ℕ → List Problem → List Checked → Bool → Type 0
AreGivenBy budget ps xs false = AreCheckAnswers budget ps xs
AreGivenBy budget ps xs true = AreFirstAnswers budget ps xs

abbrev pub AreGiven : ℕ → List Problem → Answers → Type 0
AreGiven budget ps found = AreGivenBy budget ps found.given found.stopped

-- the first check of some, as the last one that is answered
abbrev pub last_of : List Checked → Option Checked
last_of [] = None
last_of (a ∷ xs) = Some a

-- the reply is a model, or values in one
abbrev pub asks_for_model : Reply → Bool
asks_for_model reply.Check = false
asks_for_model (reply.Says text) = false
asks_for_model reply.Reason = false
asks_for_model reply.Model = true
asks_for_model (reply.Values names) = true
asks_for_model reply.Change = false

-- the status after a further answer
abbrev pub raised : ℕ → CheckAnswer → ℕ
raised s Unsat = s
raised s Sat = s
raised s (Unknown cause) = 2
