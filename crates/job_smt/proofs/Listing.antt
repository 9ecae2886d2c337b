-- The answers to checks, one after the other.
use Rattle.std.proofs.Common.{◌≡◌, ◌<◌, ◌≤◌, ◌+◌, ℕ, Bool, true, false, List, [], ◌∷◌, ◌++◌, drop, get_or, length, sym, ◌∙◌, ap, subst, append_assoc, append-nil}
use Rattle.base_budget.proofs.Charging.{drop-item, drop_all}
use Rattle.pri_typing.specs.declared.problem.Problem.{Problem}
use Rattle.pri_problem.specs.Encoded.{IsLarge}
use Rattle.job_smt.specs.declared.models.Checked.{Checked}
use Rattle.job_smt.specs.Lines.{AreGivenBy}
use Rattle.job_smt.specs.Answers.{AreCheckAnswers, AreFirstAnswers, IsChecked}

-- with answers to the checks that are left, those given so far are answers to all
abbrev pub Goes : ℕ → List Problem → List Problem → List Checked → Type 0
Goes budget all rest given = (stops : Bool) (xs : List Checked) → AreGivenBy budget rest xs stops → AreGivenBy budget all (given ++ xs) stops

pub goes_start : (budget : ℕ) (ps : List Problem) → Goes budget ps ps []
goes_start budget ps stops xs are = are

one_more : (budget : ℕ) (p : Problem) (rest : List Problem) (a : Checked) (xs : List Checked) (stops : Bool) → IsChecked budget p a → AreGivenBy budget rest xs stops → AreGivenBy budget (p ∷ rest) (a ∷ xs) stops
one_more budget p rest a xs true one are = (one, are)
one_more budget p rest a xs false one are = (one, are)

pub goes_next : (budget : ℕ) (all rest left : List Problem) (p : Problem) (a : Checked) (given more : List Checked) → left ≡ p ∷ rest → IsChecked budget p a → more ≡ given ++ a ∷ [] → Goes budget all left given
    → Goes budget all rest more
goes_next budget all rest left p a given more is one e goes stops xs are =
    let h = subst (λ l. Goes budget all l given) is goes stops (a ∷ xs) (one_more budget p rest a xs stops one are) in
    subst (λ z. AreGivenBy budget all z stops) (sym (ap (λ z. z ++ xs) e ∙ append_assoc given (a ∷ []) xs)) h

pub goes_end : (budget : ℕ) (all left : List Problem) (given : List Checked) → left ≡ [] → Goes budget all left given → AreCheckAnswers budget all given
goes_end budget all left given is goes =
    subst (λ z. AreCheckAnswers budget all z) (append-nil given) (subst (λ l. Goes budget all l given) is goes false [] tt)

pub goes_stop : (budget : ℕ) (all rest left : List Problem) (p : Problem) (given : List Checked) → left ≡ p ∷ rest → IsLarge p → Goes budget all left given → AreFirstAnswers budget all given
goes_stop budget all rest left p given is big goes =
    subst (λ z. AreFirstAnswers budget all z) (append-nil given) (subst (λ l. Goes budget all l given) is goes true [] big)

pub next_problem : (ps slice : List Problem) (i : ℕ) (p : Problem) → slice ≡ ps → i < length slice → p ≡ get_or slice i p → drop i ps ≡ p ∷ drop (i + 1) ps
next_problem ps slice i p is lt read = subst (λ qs. drop i qs ≡ p ∷ drop (i + 1) qs) is (drop-item slice i p lt read)

pub none_left : (ps slice : List Problem) (i : ℕ) → slice ≡ ps → length slice ≤ i → drop i ps ≡ []
none_left ps slice i is le = subst (λ qs. drop i qs ≡ []) is (drop_all slice i le)
