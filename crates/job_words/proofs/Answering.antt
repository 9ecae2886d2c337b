-- What a command finds in its line names its job.
use Rattle.std.proofs.Common.{◌≡◌, ◌≢◌, ◌≤◌, ◌∙◌, ℕ, Bool, true, false, List, [], ◌∷◌, map, Some, None, Result, Ok, Err, length, refl, sym, ap, subst, codes, unwrap_or, arith}
use Rattle.std.specs.Prelude.{IfErr, IsErrAnd}
use Rattle.clap.specs.Matches.{first_value, one_text}
use Rattle.clap.specs.Simple.{App}
use Rattle.clap.specs.declared.parser.matches.Found.{Found}
use Rattle.job_words.specs.declared.jobs.WordsFault.{WordsFault}
use Rattle.job_words.specs.declared.jobs.WordsFault.TheVariants.{Words}
use Rattle.job_words.specs.Uses.{Text, Use, Options, Spells, operands, tally, takes_value, times, values_of, listed}
use Rattle.job_words.specs.Jobs.{IsBudget}
use Rattle.job_words.proofs.Accepted.{IsCommand, flag_text}
use Rattle.job_words.proofs.Finds.{Finds, same_uses}

-- an error that is handed on refuses what it refused
pub handed_on : {T : Type 0} (r : Result T WordsFault) (fault : WordsFault) (claim : Type 0) → IsErrAnd r (λ e. e ≡ fault) → (fault ≡ Words → claim) → IfErr r (λ e. e ≡ Words → claim)
handed_on (Ok x) fault claim is refuses = tt
handed_on (Err e) fault claim is refuses = λ words. refuses (sym is ∙ words)

-- ---- operands

-- words that are all there are those that are listed
somes : (xs ys : List Text) → map Some xs ≡ map Some ys → xs ≡ ys
somes xs ys e = sym (back xs) ∙ ap (map (λ o. unwrap_or o [])) e ∙ back ys
  where
    back : (zs : List Text) → map (λ o. unwrap_or o []) (map Some zs) ≡ zs
    back [] = refl
    back (z ∷ zs) = ap (λ l. z ∷ l) (back zs)

-- the operand is there
pub operand_there : (id : Text) (options : Options) (line : List Text) (f : Found) → Finds (id ∷ []) options line f → first_value f id ≢ None
operand_there id options line f found none = go (operands found.us) (found.operands_are ∙ ap (λ o. o ∷ []) none)
  where
    go : (words : List Text) → map Some words ≡ None ∷ [] → ⊥
    go [] e = cc
    go (w ∷ ws) e = cc

pub operand_is : (id word : Text) (options : Options) (line : List Text) (f : Found) (found : Finds (id ∷ []) options line f) → Some word ≡ first_value f id → operands found.us ≡ word ∷ []
operand_is id word options line f found is = somes (operands found.us) (word ∷ []) (found.operands_are ∙ ap (λ o. o ∷ []) (sym is))

-- the same of two operands
pub first_there : (id other : Text) (options : Options) (line : List Text) (f : Found) → Finds (id ∷ other ∷ []) options line f → first_value f id ≢ None
first_there id other options line f found none = go (operands found.us) (found.operands_are ∙ ap (λ o. o ∷ first_value f other ∷ []) none)
  where
    go : (words : List Text) → map Some words ≡ None ∷ first_value f other ∷ [] → ⊥
    go [] e = cc
    go (w ∷ ws) e = cc

pub second_there : (other id : Text) (options : Options) (line : List Text) (f : Found) → Finds (other ∷ id ∷ []) options line f → first_value f id ≢ None
second_there other id options line f found none = go (operands found.us) (found.operands_are ∙ ap (λ o. first_value f other ∷ o ∷ []) none)
  where
    go : (words : List Text) → map Some words ≡ first_value f other ∷ None ∷ [] → ⊥
    go [] e = cc
    go (w ∷ []) e = cc
    go (w ∷ v ∷ ws) e = cc

pub operands_are : (a b word other : Text) (options : Options) (line : List Text) (f : Found) (found : Finds (a ∷ b ∷ []) options line f) → Some word ≡ first_value f a → Some other ≡ first_value f b
    → operands found.us ≡ word ∷ other ∷ []
operands_are a b word other options line f found first second =
    somes (operands found.us) (word ∷ other ∷ []) (found.operands_are ∙ (λ i. sym first i ∷ sym second i ∷ []))

-- ---- the budget

-- it is given once at most
pub budget_once : (values : List Text) (n : ℕ) → IsBudget values n → length values ≤ 1
budget_once [] n is = omega arith
budget_once (text ∷ []) n is = omega arith
budget_once (text ∷ more ∷ rest) n is = absurd is

pub budget_is : (ids : List Text) (options : Options) (line : List Text) (f : Found) (n : ℕ) → takes_value options (codes "budget") ≡ Some true → (found : Finds ids options line f)
    → IsBudget (listed (first_value f (codes "budget"))) n → IsBudget (values_of (codes "budget") found.us) n
budget_is ids options line f n takes found is = subst (λ values. IsBudget values n) (sym (found.values_are (codes "budget") takes)) is

-- where what is found is none, the line gives none
pub no_budget : (app : App) (name : Text) (ids : List Text) (options : Options) → IsCommand app name ids options → takes_value options (codes "budget") ≡ Some true → (line : List Text) (f : Found) → Finds ids options line f
    → ((n : ℕ) → IsBudget (listed (first_value f (codes "budget"))) n → ⊥) → (us : List Use) → Spells options line us → (n : ℕ) → IsBudget (values_of (codes "budget") us) n → ⊥
no_budget app name ids options is takes line f found none us spells n budget =
    let same : us ≡ found.us = same_uses app name ids options is line us found.us spells found.spells in
    none n (subst (λ values. IsBudget values n) (ap (values_of (codes "budget")) same ∙ found.values_are (codes "budget") takes) budget)

-- ---- flags

-- a flag as it is found is how often the uses raise it
pub flag_is : (name : Text) (ids : List Text) (options : Options) (line : List Text) (f : Found) (given : Bool) → takes_value options name ≡ Some false → (found : Finds ids options line f)
    → (one_text f name ≡ Some (codes "true") → given ≡ true) → (one_text f name ≡ Some (codes "false") → given ≡ false) → times name found.us ≡ tally given
flag_is name ids options line f given takes found on off =
    let flag = found.flags_are name takes in flag.1 ∙ ap tally (sym (pick flag.0 flag.2))
  where
    pick : (b : Bool) → one_text f name ≡ Some (flag_text b) → given ≡ b
    pick true e = on e
    pick false e = off e

-- a number tells one flag
pub one_flag : (p q : Bool) → tally p ≡ tally q → p ≡ q
one_flag true true e = refl
one_flag false false e = refl
one_flag true false e = absurd (omega arith)
one_flag false true e = absurd (omega arith)

-- a flag is raised once at most
pub flag_once : (n : ℕ) (given : Bool) → n ≡ tally given → n ≤ 1
flag_once n true e = omega arith
flag_once n false e = omega arith
