-- The commands of the program, and what each finds in its line.
use Rattle.std.proofs.Common.{◌≡◌, ◌∙◌, ◌&&◌, ℕ, Bool, true, false, List, [], ◌∷◌, map, Option, Some, None, refl, sym, ap, codes}
use Rattle.std.specs.List.{slice_index_or}
use Rattle.clap.specs.Matches.{first_value, one_text}
use Rattle.clap.specs.declared.parser.matches.Found.{Found}
use Rattle.base_answers.specs.declared.form.ProofForm.{ProofForm}
use Rattle.base_answers.specs.declared.form.ProofForm.TheVariants.{Whole, Short}
use Rattle.job_words.specs.Uses.{Text, listed, operands, tally, times, values_of}
use Rattle.job_words.specs.Jobs.{IsBudget, IsNumber, NamesCheck, NamesDrill, NamesFile, NamesFind, NamesLeast, NamesSolve, asks_short, asks_whole, budget_option, find_options, solve_options}
use Rattle.job_words.specs.Shapes.{command_app}
use Rattle.job_words.proofs.Accepted.{IsCommand}
use Rattle.job_words.proofs.Answering.{budget_is, budget_once, flag_is, flag_once, one_flag, operand_is, operands_are}
use Rattle.job_words.proofs.Finds.{Finds, OnceEach, same_uses}

pub solve_is : IsCommand (command_app (codes "solve") (codes "FILE" ∷ []) solve_options) (codes "solve") (codes "FILE" ∷ []) solve_options
solve_is = record { is_built = refl; whole = refl; places = (refl, refl); strange = (refl, tt); distinct_rules = refl; distinct_ids = refl; distinct_names = refl; named = refl }

pub elim_is : IsCommand (command_app (codes "elim") (codes "FILE" ∷ []) budget_option) (codes "elim") (codes "FILE" ∷ []) budget_option
elim_is = record { is_built = refl; whole = refl; places = (refl, refl); strange = (refl, tt); distinct_rules = refl; distinct_ids = refl; distinct_names = refl; named = refl }

pub find_is : IsCommand (command_app (codes "find") (codes "FILE" ∷ []) find_options) (codes "find") (codes "FILE" ∷ []) find_options
find_is = record { is_built = refl; whole = refl; places = (refl, refl); strange = (refl, tt); distinct_rules = refl; distinct_ids = refl; distinct_names = refl; named = refl }

pub smt_is : IsCommand (command_app (codes "smt") (codes "FILE" ∷ []) budget_option) (codes "smt") (codes "FILE" ∷ []) budget_option
smt_is = record { is_built = refl; whole = refl; places = (refl, refl); strange = (refl, tt); distinct_rules = refl; distinct_ids = refl; distinct_names = refl; named = refl }

pub least_is : IsCommand (command_app (codes "least") (codes "FILE" ∷ codes "TERM" ∷ []) budget_option) (codes "least") (codes "FILE" ∷ codes "TERM" ∷ []) budget_option
least_is = record { is_built = refl; whole = refl; places = (refl, (refl, refl)); strange = (refl, (refl, tt)); distinct_rules = refl; distinct_ids = refl; distinct_names = refl; named = refl }

pub check_is : IsCommand (command_app (codes "check") (codes "FILE" ∷ codes "PROOF" ∷ []) []) (codes "check") (codes "FILE" ∷ codes "PROOF" ∷ []) []
check_is = record { is_built = refl; whole = refl; places = (refl, (refl, refl)); strange = (refl, (refl, tt)); distinct_rules = refl; distinct_ids = refl; distinct_names = refl; named = refl }

-- ---- each option once at most

pub solve_once : (line : List Text) (file : Text) (n : ℕ) (a : Option ProofForm) (k v : Bool) (names : NamesSolve line file n a k v) → OnceEach solve_options names.us
solve_once line file n a k v names = (
  budget_once (values_of (codes "budget") names.us) n names.budget_is,
  (flag_once (times (codes "proof") names.us) (asks_whole a) names.proof_is, (flag_once (times (codes "short") names.us) (asks_short a) names.short_is, (flag_once (times (codes "calculus") names.us) k names.calculus_is, (flag_once (times (codes "counterexample") names.us) v names.shows_is, tt)))),
)

pub elim_once : (line : List Text) (file : Text) (n : ℕ) (names : NamesFile line file n) → OnceEach budget_option names.us
elim_once line file n names = (budget_once (values_of (codes "budget") names.us) n names.budget_is, tt)

pub find_once : (line : List Text) (file : Text) (n : ℕ) (p : Bool) (names : NamesFind line file n p) → OnceEach find_options names.us
find_once line file n p names = (budget_once (values_of (codes "budget") names.us) n names.budget_is, (flag_once (times (codes "proof") names.us) p names.proof_is, tt))

pub least_once : (line : List Text) (file term : Text) (n : ℕ) (names : NamesLeast line file term n) → OnceEach budget_option names.us
least_once line file term n names = (budget_once (values_of (codes "budget") names.us) n names.budget_is, tt)

-- ---- what is found names the job

-- a flag as clap tells it
abbrev pub Raised : Found → Text → Bool → Type 0
Raised f name given = (one_text f name ≡ Some (codes "true") → given ≡ true) × (one_text f name ≡ Some (codes "false") → given ≡ false)

pub solve_named : (line : List Text) (f : Found) (file : Text) (n : ℕ) (p s k v : Bool) (a : Option ProofForm) → Finds (codes "FILE" ∷ []) solve_options line f → Some file ≡ first_value f (codes "FILE") → IsBudget (listed (first_value f (codes "budget"))) n
    → Raised f (codes "proof") p → Raised f (codes "short") s → (asks_whole a ≡ p) × (asks_short a ≡ s) → Raised f (codes "calculus") k → Raised f (codes "counterexample") v
    → NamesSolve line file n a k v
solve_named line f file n p s k v a found is budget proof short asks calculus shows = record {
  us = found.us;
  spells = found.spells;
  file_is = operand_is (codes "FILE") file solve_options line f found is;
  budget_is = budget_is (codes "FILE" ∷ []) solve_options line f n refl found budget;
  proof_is = flag_is (codes "proof") (codes "FILE" ∷ []) solve_options line f p refl found proof.0 proof.1 ∙ ap tally (sym asks.0);
  short_is = flag_is (codes "short") (codes "FILE" ∷ []) solve_options line f s refl found short.0 short.1 ∙ ap tally (sym asks.1);
  calculus_is = flag_is (codes "calculus") (codes "FILE" ∷ []) solve_options line f k refl found calculus.0 calculus.1;
  shows_is = flag_is (codes "counterexample") (codes "FILE" ∷ []) solve_options line f v refl found shows.0 shows.1;
}

-- not both forms are asked for
one_alone : (a : Option ProofForm) → (asks_whole a && asks_short a) ≡ true → ⊥
one_alone None h = cc
one_alone (Some Whole) h = cc
one_alone (Some Short) h = cc

-- where both forms of the proof are asked for, the line names no job
pub not_both : (line : List Text) (f : Found) (p s : Bool) → Finds (codes "FILE" ∷ []) solve_options line f → Raised f (codes "proof") p → Raised f (codes "short") s → (p && s) ≡ true
    → (file : Text) (n : ℕ) (a : Option ProofForm) (k v : Bool) → NamesSolve line file n a k v → ⊥
not_both line f p s found proof short both file n a k v names =
    let us : names.us ≡ found.us = same_uses _ _ _ _ solve_is line names.us found.us names.spells found.spells in
    let proofs : asks_whole a ≡ p = one_flag (asks_whole a) p (sym names.proof_is ∙ ap (times (codes "proof")) us ∙ flag_is (codes "proof") (codes "FILE" ∷ []) solve_options line f p refl found proof.0 proof.1) in
    let shorts : asks_short a ≡ s = one_flag (asks_short a) s (sym names.short_is ∙ ap (times (codes "short")) us ∙ flag_is (codes "short") (codes "FILE" ∷ []) solve_options line f s refl found short.0 short.1) in
    one_alone a ((λ i. proofs i && shorts i) ∙ both)

pub elim_named : (line : List Text) (f : Found) (file : Text) (n : ℕ) → Finds (codes "FILE" ∷ []) budget_option line f → Some file ≡ first_value f (codes "FILE") → IsBudget (listed (first_value f (codes "budget"))) n
    → NamesFile line file n
elim_named line f file n found is budget = record {
  us = found.us;
  spells = found.spells;
  file_is = operand_is (codes "FILE") file budget_option line f found is;
  budget_is = budget_is (codes "FILE" ∷ []) budget_option line f n refl found budget;
}

pub find_named : (line : List Text) (f : Found) (file : Text) (n : ℕ) (p : Bool) → Finds (codes "FILE" ∷ []) find_options line f → Some file ≡ first_value f (codes "FILE") → IsBudget (listed (first_value f (codes "budget"))) n
    → Raised f (codes "proof") p → NamesFind line file n p
find_named line f file n p found is budget proof = record {
  us = found.us;
  spells = found.spells;
  file_is = operand_is (codes "FILE") file find_options line f found is;
  budget_is = budget_is (codes "FILE" ∷ []) find_options line f n refl found budget;
  proof_is = flag_is (codes "proof") (codes "FILE" ∷ []) find_options line f p refl found proof.0 proof.1;
}

pub least_named : (line : List Text) (f : Found) (file term : Text) (n : ℕ) → Finds (codes "FILE" ∷ codes "TERM" ∷ []) budget_option line f → Some file ≡ first_value f (codes "FILE") → Some term ≡ first_value f (codes "TERM")
    → IsBudget (listed (first_value f (codes "budget"))) n → NamesLeast line file term n
least_named line f file term n found first second budget = record {
  us = found.us;
  spells = found.spells;
  words_are = operands_are (codes "FILE") (codes "TERM") file term budget_option line f found first second;
  budget_is = budget_is (codes "FILE" ∷ codes "TERM" ∷ []) budget_option line f n refl found budget;
}

pub check_named : (line : List Text) (f : Found) (file proof : Text) → Finds (codes "FILE" ∷ codes "PROOF" ∷ []) [] line f → Some file ≡ first_value f (codes "FILE") → Some proof ≡ first_value f (codes "PROOF")
    → NamesCheck line file proof
check_named line f file proof found first second = record {
  us = found.us;
  spells = found.spells;
  files_are = operands_are (codes "FILE") (codes "PROOF") file proof [] line f found first second;
}

-- ---- drill

pub drill_is : IsCommand (command_app (codes "drill") (codes "COUNT" ∷ []) budget_option) (codes "drill") (codes "COUNT" ∷ []) budget_option
drill_is = record { is_built = refl; whole = refl; places = (refl, refl); strange = (refl, tt); distinct_rules = refl; distinct_ids = refl; distinct_names = refl; named = refl }

pub drill_once : (line : List Text) (n m : ℕ) (names : NamesDrill line n m) → OnceEach budget_option names.us
drill_once line n m names = (budget_once (values_of (codes "budget") names.us) m names.budget_is, tt)

pub drill_named : (line : List Text) (f : Found) (n m : ℕ) → Finds (codes "COUNT" ∷ []) budget_option line f → (text : Text) × (Some text ≡ first_value f (codes "COUNT")) × IsNumber 1000 text n
    → IsBudget (listed (first_value f (codes "budget"))) m → NamesDrill line n m
drill_named line f n m found count budget = record {
  us = found.us;
  spells = found.spells;
  text = count.0;
  text_is = operand_is (codes "COUNT") count.0 budget_option line f found count.1;
  count_is = count.2;
  budget_is = budget_is (codes "COUNT" ∷ []) budget_option line f m refl found budget;
}

-- where the operand that is found is no size, the line names none
pub no_count : (line : List Text) (f : Found) → Finds (codes "COUNT" ∷ []) budget_option line f → ((text : Text) → Some text ≡ first_value f (codes "COUNT") → (n : ℕ) → IsNumber 1000 text n → ⊥)
    → (n m : ℕ) → NamesDrill line n m → ⊥
no_count line f found none n m names =
    let us : names.us ≡ found.us = same_uses _ _ _ _ drill_is line names.us found.us names.spells found.spells in
    let first : map Some (names.text ∷ []) ≡ first_value f (codes "COUNT") ∷ [] = ap (map Some) (sym names.text_is ∙ ap operands us) ∙ found.operands_are in
    none names.text (ap (λ os. slice_index_or os 0 None) first) n names.count_is
