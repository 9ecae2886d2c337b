-- The text and the status of answers, one after the other.
use Rattle.std.proofs.Common.{◌≡◌, ℕ, cond, List, [], ◌∷◌, ◌++◌, refl, sym, ◌∙◌, ap, append_assoc, append-nil, Bool, true, false, Option, Some, None}
use Rattle.std.specs.List.{list_any}
use Rattle.smt_reader.specs.declared.replies.Reply.{Reply}
use Rattle.smt_reader.specs.declared.replies.Reply.TheVariants as reply
use Rattle.job_smt.specs.declared.checking.CheckAnswer.{CheckAnswer}
use Rattle.job_smt.specs.declared.models.Checked.{Checked}
use Rattle.job_smt.specs.declared.models.Shown.{Shown}
use Rattle.job_smt.specs.declared.checking.CheckAnswer.TheVariants.{Unsat, Sat, Unknown}
use Rattle.job_smt.specs.Lines.{last_of, raised}
use Rattle.job_smt.specs.Answers.{is_open, replied_from, told_model, told_reason, told_values, word}

-- ---- the text: what is told so far, and what is told of the rest, is the whole

pub told_end : (l : Option Checked) (text whole : List ℕ) (told : List Reply) (xs : List Checked) → told ≡ [] → text ++ replied_from l told xs ≡ whole → text ≡ whole
told_end l text whole told xs e w = sym (ap (λ z. text ++ replied_from l z xs) e ∙ append-nil text) ∙ w

pub told_short : (l : Option Checked) (text whole : List ℕ) (told more : List Reply) (xs : List Checked) → told ≡ reply.Check ∷ more → xs ≡ [] → text ++ replied_from l told xs ≡ whole → text ≡ whole
told_short l text whole told more xs e n w = sym (ap (λ z. text ++ replied_from l z xs) e ∙ ap (λ z. text ++ replied_from l (reply.Check ∷ more) z) n ∙ append-nil text) ∙ w

-- a line more, before the rest
line_more : (l : Option Checked) (text new line whole : List ℕ) (told more : List Reply) (xs : List Checked) → replied_from l told xs ≡ line ++ replied_from l more xs → new ≡ text ++ line
    → text ++ replied_from l told xs ≡ whole → new ++ replied_from l more xs ≡ whole
line_more l text new line whole told more xs e a w = ap (λ z. z ++ replied_from l more xs) a ∙ append_assoc text line (replied_from l more xs) ∙ sym (ap (λ z. text ++ z) e) ∙ w

pub told_line : (l : Option Checked) (text new line whole : List ℕ) (told more : List Reply) (xs : List Checked) → told ≡ reply.Says line ∷ more → new ≡ text ++ line
    → text ++ replied_from l told xs ≡ whole → new ++ replied_from l more xs ≡ whole
told_line l text new line whole told more xs e = line_more l text new line whole told more xs (ap (λ z. replied_from l z xs) e)

pub told_reason_on : (l : Option Checked) (text new whole : List ℕ) (told more : List Reply) (xs : List Checked) → told ≡ reply.Reason ∷ more → new ≡ text ++ told_reason l
    → text ++ replied_from l told xs ≡ whole → new ++ replied_from l more xs ≡ whole
told_reason_on l text new whole told more xs e = line_more l text new (told_reason l) whole told more xs (ap (λ z. replied_from l z xs) e)

pub told_model_on : (l : Option Checked) (text new whole : List ℕ) (told more : List Reply) (xs : List Checked) → told ≡ reply.Model ∷ more → new ≡ text ++ told_model l
    → text ++ replied_from l told xs ≡ whole → new ++ replied_from l more xs ≡ whole
told_model_on l text new whole told more xs e = line_more l text new (told_model l) whole told more xs (ap (λ z. replied_from l z xs) e)

pub told_values_on : (l : Option Checked) (names : List (List ℕ)) (text new whole : List ℕ) (told more : List Reply) (xs : List Checked) → told ≡ reply.Values names ∷ more
    → new ≡ text ++ told_values l names → text ++ replied_from l told xs ≡ whole → new ++ replied_from l more xs ≡ whole
told_values_on l names text new whole told more xs e = line_more l text new (told_values l names) whole told more xs (ap (λ z. replied_from l z xs) e)

pub told_change : (l : Option Checked) (text whole : List ℕ) (told more : List Reply) (xs last : List Checked) → told ≡ reply.Change ∷ more → last ≡ []
    → text ++ replied_from l told xs ≡ whole → text ++ replied_from (last_of last) more xs ≡ whole
told_change l text whole told more xs last e none w = ap (λ z. text ++ replied_from (last_of z) more xs) none ∙ sym (ap (λ z. text ++ replied_from l z xs) e) ∙ w

pub told_answer : (l : Option Checked) (text new whole : List ℕ) (told more : List Reply) (xs later : List Checked) (a : Checked) → told ≡ reply.Check ∷ more → xs ≡ a ∷ later
    → new ≡ text ++ word a.answer → text ++ replied_from l told xs ≡ whole → new ++ replied_from (last_of xs) more later ≡ whole
told_answer l text new whole told more xs later a e is added w =
    ap (λ z. z ++ replied_from (last_of xs) more later) added ∙ append_assoc text (word a.answer) (replied_from (last_of xs) more later)
    ∙ ap (λ z. text ++ (word a.answer ++ replied_from (last_of z) more later)) is
    ∙ sym (ap (λ z. text ++ replied_from l z xs) e ∙ ap (λ z. text ++ replied_from l (reply.Check ∷ more) z) is) ∙ w

-- ---- the status

-- the status after many answers
abbrev pub status_with : ℕ → List Checked → ℕ
status_with s [] = s
status_with s (a ∷ xs) = status_with (raised s a.answer) xs

two_stays : (b : CheckAnswer) → raised 2 b ≡ 2
two_stays Unsat = refl
two_stays Sat = refl
two_stays (Unknown cause) = refl

stays_raised : (xs : List Checked) → status_with 2 xs ≡ 2
stays_raised [] = refl
stays_raised (a ∷ xs) = ap (λ z. status_with z xs) (two_stays a.answer) ∙ stays_raised xs

one_more : (b : CheckAnswer) (m : Option Shown) (xs : List Checked) → status_with 0 xs ≡ cond (list_any is_open xs) 2 0
    → status_with (raised 0 b) xs ≡ cond (list_any is_open (record { answer = b; model = m } ∷ xs)) 2 0
one_more Unsat m xs h = h
one_more Sat m xs h = h
one_more (Unknown cause) m xs h = stays_raised xs

status_is : (xs : List Checked) → status_with 0 xs ≡ cond (list_any is_open xs) 2 0
status_is [] = refl
status_is (a ∷ xs) = one_more a.answer a.model xs (status_is xs)

pub raised_on : (s new whole : ℕ) (xs later : List Checked) (a : Checked) → xs ≡ a ∷ later → new ≡ raised s a.answer → status_with s xs ≡ whole → status_with new later ≡ whole
raised_on s new whole xs later a e n w = ap (λ z. status_with z later) n ∙ sym (ap (status_with s) e) ∙ w

pub raised_end : (s : ℕ) (xs all : List Checked) → xs ≡ [] → status_with s xs ≡ status_with 0 all → s ≡ cond (list_any is_open all) 2 0
raised_end s xs all e w = sym (ap (status_with s) e) ∙ w ∙ status_is all
