-- The job that all the words name, by their command.
use Rattle.std.proofs.Common.{◌≡◌, ◌∙◌, ℕ, Bool, true, false, List, [], ◌∷◌, Option, Some, None, refl, sym, ap, subst, codes}
use Rattle.std.specs.List.{slice_index_or}
use Rattle.std.specs.Str.{bytes_eq}
use Rattle.std.specs.Str.Parse.{digits_value}
use Rattle.base_answers.specs.declared.form.ProofForm.{ProofForm}
use Rattle.base_answers.specs.declared.form.ProofForm.TheVariants.{Whole, Short}
use Rattle.job_words.specs.Uses.{Text, operands, times, values_of}
use Rattle.job_words.specs.Jobs.{IsBudget, NamesCheck, NamesDrill, NamesFile, NamesFind, NamesJob, NamesLeast, NamesSolve, Task, asks_short, asks_whole, solve, eliminate, find_values, run_script, minimise, check, drill}
use Rattle.job_words.proofs.Answering.{one_flag}
use Rattle.job_words.proofs.Commanding.{check_is, drill_is, elim_is, find_is, least_is, smt_is, solve_is}
use Rattle.job_words.proofs.Finds.{same_uses}

-- the command of a job
abbrev command_of : Task → Text
command_of (solve file budget asked calculus shows) = codes "solve"
command_of (eliminate file budget) = codes "elim"
command_of (find_values file budget proves) = codes "find"
command_of (run_script file budget) = codes "smt"
command_of (minimise file term budget) = codes "least"
command_of (check file proof) = codes "check"
command_of (drill count budget) = codes "drill"

-- after a command stands a job of that command
pub only_solve : (line : List Text) → ((f : Text) (n : ℕ) (a : Option ProofForm) (k v : Bool) → NamesSolve line f n a k v → ⊥) → (task : Task) → NamesJob (codes "solve" ∷ line) task → ⊥
only_solve line none (solve f n a k v) names = none f n a k v names.1
only_solve line none task names =
    let bad : true ≡ false = ap (bytes_eq (codes "solve")) names.0 in cc

pub only_elim : (line : List Text) → ((f : Text) (n : ℕ) → NamesFile line f n → ⊥) → (task : Task) → NamesJob (codes "elim" ∷ line) task → ⊥
only_elim line none (eliminate f n) names = none f n names.1
only_elim line none task names =
    let bad : true ≡ false = ap (bytes_eq (codes "elim")) names.0 in cc

pub only_find : (line : List Text) → ((f : Text) (n : ℕ) (p : Bool) → NamesFind line f n p → ⊥) → (task : Task) → NamesJob (codes "find" ∷ line) task → ⊥
only_find line none (find_values f n p) names = none f n p names.1
only_find line none task names =
    let bad : true ≡ false = ap (bytes_eq (codes "find")) names.0 in cc

pub only_smt : (line : List Text) → ((f : Text) (n : ℕ) → NamesFile line f n → ⊥) → (task : Task) → NamesJob (codes "smt" ∷ line) task → ⊥
only_smt line none (run_script f n) names = none f n names.1
only_smt line none task names =
    let bad : true ≡ false = ap (bytes_eq (codes "smt")) names.0 in cc

pub only_least : (line : List Text) → ((f t : Text) (n : ℕ) → NamesLeast line f t n → ⊥) → (task : Task) → NamesJob (codes "least" ∷ line) task → ⊥
only_least line none (minimise f t n) names = none f t n names.1
only_least line none task names =
    let bad : true ≡ false = ap (bytes_eq (codes "least")) names.0 in cc

pub only_drill : (line : List Text) → ((n m : ℕ) → NamesDrill line n m → ⊥) → (task : Task) → NamesJob (codes "drill" ∷ line) task → ⊥
only_drill line none (drill n m) names = none n m names.1
only_drill line none task names =
    let bad : true ≡ false = ap (bytes_eq (codes "drill")) names.0 in cc

pub only_check : (line : List Text) → ((f p : Text) → NamesCheck line f p → ⊥) → (task : Task) → NamesJob (codes "check" ∷ line) task → ⊥
only_check line none (check f p) names = none f p names.1
only_check line none task names =
    let bad : true ≡ false = ap (bytes_eq (codes "check")) names.0 in cc

-- ---- words name one job

one_budget : (values : List Text) (n m : ℕ) → IsBudget values n → IsBudget values m → n ≡ m
one_budget [] n m a b = a ∙ sym b
one_budget (text ∷ []) n m a b = sym a.value ∙ b.value
one_budget (text ∷ more ∷ rest) n m a b = absurd a

same_form : (p q : Option ProofForm) → asks_whole p ≡ asks_whole q → asks_short p ≡ asks_short q → p ≡ q
same_form None None h k = refl
same_form None (Some Whole) h k = absurd cc
same_form None (Some Short) h k = absurd cc
same_form (Some Whole) None h k = absurd cc
same_form (Some Whole) (Some Whole) h k = refl
same_form (Some Whole) (Some Short) h k = absurd cc
same_form (Some Short) None h k = absurd cc
same_form (Some Short) (Some Whole) h k = absurd cc
same_form (Some Short) (Some Short) h k = refl

one_solve : (line : List Text) (f g : Text) (n m : ℕ) (p q : Option ProofForm) (k l v w : Bool) → NamesSolve line f n p k v → NamesSolve line g m q l w → solve f n p k v ≡ solve g m q l w
one_solve line f g n m p q k l v w a b =
    let us = same_uses _ _ _ _ solve_is line a.us b.us a.spells b.spells in
    let file : f ≡ g = ap (λ l. slice_index_or l 0 []) (sym a.file_is ∙ ap operands us ∙ b.file_is) in
    let budget = one_budget (values_of (codes "budget") b.us) n m (subst (λ vs. IsBudget (values_of (codes "budget") vs) n) us a.budget_is) b.budget_is in
    let whole = one_flag (asks_whole p) (asks_whole q) (sym a.proof_is ∙ ap (times (codes "proof")) us ∙ b.proof_is) in
    let short = one_flag (asks_short p) (asks_short q) (sym a.short_is ∙ ap (times (codes "short")) us ∙ b.short_is) in
    let form = same_form p q whole short in
    let calculus = one_flag k l (sym a.calculus_is ∙ ap (times (codes "calculus")) us ∙ b.calculus_is) in
    let shows = one_flag v w (sym a.shows_is ∙ ap (times (codes "counterexample")) us ∙ b.shows_is) in λ i. solve (file i) (budget i) (form i) (calculus i) (shows i)

one_elim : (line : List Text) (f g : Text) (n m : ℕ) → NamesFile line f n → NamesFile line g m → eliminate f n ≡ eliminate g m
one_elim line f g n m a b =
    let us = same_uses _ _ _ _ elim_is line a.us b.us a.spells b.spells in
    let file : f ≡ g = ap (λ l. slice_index_or l 0 []) (sym a.file_is ∙ ap operands us ∙ b.file_is) in
    let budget = one_budget (values_of (codes "budget") b.us) n m (subst (λ vs. IsBudget (values_of (codes "budget") vs) n) us a.budget_is) b.budget_is in λ i. eliminate (file i) (budget i)

one_find : (line : List Text) (f g : Text) (n m : ℕ) (p q : Bool) → NamesFind line f n p → NamesFind line g m q → find_values f n p ≡ find_values g m q
one_find line f g n m p q a b =
    let us = same_uses _ _ _ _ find_is line a.us b.us a.spells b.spells in
    let file : f ≡ g = ap (λ l. slice_index_or l 0 []) (sym a.file_is ∙ ap operands us ∙ b.file_is) in
    let budget = one_budget (values_of (codes "budget") b.us) n m (subst (λ vs. IsBudget (values_of (codes "budget") vs) n) us a.budget_is) b.budget_is in
    let proof = one_flag p q (sym a.proof_is ∙ ap (times (codes "proof")) us ∙ b.proof_is) in λ i. find_values (file i) (budget i) (proof i)

one_smt : (line : List Text) (f g : Text) (n m : ℕ) → NamesFile line f n → NamesFile line g m → run_script f n ≡ run_script g m
one_smt line f g n m a b =
    let us = same_uses _ _ _ _ smt_is line a.us b.us a.spells b.spells in
    let file : f ≡ g = ap (λ l. slice_index_or l 0 []) (sym a.file_is ∙ ap operands us ∙ b.file_is) in
    let budget = one_budget (values_of (codes "budget") b.us) n m (subst (λ vs. IsBudget (values_of (codes "budget") vs) n) us a.budget_is) b.budget_is in λ i. run_script (file i) (budget i)

one_least : (line : List Text) (f g t u : Text) (n m : ℕ) → NamesLeast line f t n → NamesLeast line g u m → minimise f t n ≡ minimise g u m
one_least line f g t u n m a b =
    let us = same_uses _ _ _ _ least_is line a.us b.us a.spells b.spells in
    let words = sym a.words_are ∙ ap operands us ∙ b.words_are in
    let budget = one_budget (values_of (codes "budget") b.us) n m (subst (λ vs. IsBudget (values_of (codes "budget") vs) n) us a.budget_is) b.budget_is in
    λ i. minimise (slice_index_or (words i) 0 []) (slice_index_or (words i) 1 []) (budget i)

one_check : (line : List Text) (f g p q : Text) → NamesCheck line f p → NamesCheck line g q → check f p ≡ check g q
one_check line f g p q a b =
    let us = same_uses _ _ _ _ check_is line a.us b.us a.spells b.spells in
    let files = sym a.files_are ∙ ap operands us ∙ b.files_are in λ i. check (slice_index_or (files i) 0 []) (slice_index_or (files i) 1 [])

one_drill : (line : List Text) (n m k l : ℕ) → NamesDrill line n k → NamesDrill line m l → (n ≡ m) × (k ≡ l)
one_drill line n m k l a b =
    let us : a.us ≡ b.us = same_uses _ _ _ _ drill_is line a.us b.us a.spells b.spells in
    let text : a.text ≡ b.text = ap (λ ws. slice_index_or ws 0 []) (sym a.text_is ∙ ap operands us ∙ b.text_is) in (
      sym a.count_is.value ∙ ap (digits_value 10) text ∙ b.count_is.value,
      one_budget (values_of (codes "budget") b.us) k l (subst (λ vs. IsBudget (values_of (codes "budget") vs) k) us a.budget_is) b.budget_is,
    )

pub one_job : (words : List Text) (a b : Task) → NamesJob words a → NamesJob words b → a ≡ b
one_job [] a b x y = absurd x
one_job (command ∷ line) (solve f n p k v) (solve g m q l w) x y = one_solve line f g n m p q k l v w x.1 y.1
one_job (command ∷ line) (eliminate f n) (eliminate g m) x y = one_elim line f g n m x.1 y.1
one_job (command ∷ line) (find_values f n p) (find_values g m q) x y = one_find line f g n m p q x.1 y.1
one_job (command ∷ line) (run_script f n) (run_script g m) x y = one_smt line f g n m x.1 y.1
one_job (command ∷ line) (minimise f t n) (minimise g u m) x y = one_least line f g t u n m x.1 y.1
one_job (command ∷ line) (check f p) (check g q) x y = one_check line f g p q x.1 y.1
one_job (command ∷ line) (drill n k) (drill m l) x y =
    let same = one_drill line n m k l x.1 y.1 in λ i. drill (same.0 i) (same.1 i)
one_job (command ∷ line) a b x y =
    let bad : true ≡ false = ap (bytes_eq (command_of a)) (sym x.0 ∙ y.0) in cc
