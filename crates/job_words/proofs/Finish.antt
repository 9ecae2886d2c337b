-- The rows once the words are over: what was left out is filled in, and each operand must be there.
use Rattle.std.proofs.Common.{◌≡◌, ◌≢◌, ◌∙◌, ◌==◌, ◌&&◌, ◌||◌, ℕ, Bool, cond, true, false, not, List, [], ◌∷◌, ◌++◌, map, Option, Some, None, suc, refl, sym, ap, subst, codes, if◌then◌else◌, unwrap_or, arith}
use Rattle.std.specs.Prelude.{option_map, find, fold, is_some}
use Rattle.std.specs.List.{list_any}
use Rattle.std.specs.Option.{option_or}
use Rattle.std.specs.Str.{bytes_eq}
use Rattle.std.proofs.lemmas.List.Folds.{find-append}
use Rattle.clap.specs.Walk.{Row, Rule, has_row, more_values, with_default}
use Rattle.clap.specs.Takes.{is_given}
use Rattle.clap.specs.Faults.{check_fault, default_fault, defaults_fault}
use Rattle.clap.specs.Kinds.{Kinds, check_kinds, or_else}
use Rattle.clap.specs.declared.parser.matches.ValueSource.TheVariants.{DefaultValue}
use Rattle.job_words.specs.Uses.{Text, Options, takes_value}
use Rattle.job_words.proofs.Pairs.{Pair, and_both, count, distinct, first, itself, none_counted, same_id, vals}
use Rattle.job_words.proofs.Rules.{flat, operand_arg, option_arg, rules_from}
use Rattle.job_words.proofs.Rows.{at_row-missing, row, row_by, rows}
use Rattle.job_words.proofs.Walks.{answer, finish}

-- the row of an id
abbrev pub found : Text → List Row → Option Row
found id rs = find (λ r. bytes_eq r.id id) rs

has_row-found : (id : Text) (rs : List Row) → has_row id rs ≡ is_some (found id rs)
has_row-found id [] = refl
has_row-found id (r ∷ rs) = go (bytes_eq r.id id) (has_row-found id rs)
  where
    go : (b : Bool) → has_row id rs ≡ is_some (found id rs) → (b || has_row id rs) ≡ is_some (cond b (Some r) (found id rs))
    go true same = refl
    go false same = same

-- the row of an id by its values
pub found-rows : (id : Text) (ps : List Pair) → found id (rows ps) ≡ option_map (λ v. row (id, v)) (first (vals id ps))
found-rows id [] = refl
found-rows id (p ∷ ps) = go (bytes_eq p.0 id) refl (found-rows id ps)
  where
    go : (t : Bool) → bytes_eq p.0 id ≡ t → found id (rows ps) ≡ option_map (λ v. row (id, v)) (first (vals id ps))
        → cond t (Some (row p)) (found id (rows ps)) ≡ option_map (λ v. row (id, v)) (first (if t then p.1 ∷ vals id ps else vals id ps))
    go true e next = ap (λ n. Some (row (n, p.1))) (same_id p.0 id e)
    go false e next = next

found-new : (id : Text) (r : Row) (rs : List Row) → found id (rs ++ r ∷ []) ≡ option_or (found id rs) (cond (bytes_eq r.id id) (Some r) None)
found-new id r rs = find-append (λ x. bytes_eq x.id id) rs (r ∷ [])

or_nothing : (o : Option Row) → option_or o None ≡ o
or_nothing None = refl
or_nothing (Some x) = refl

either_way : {X : Type 0} (b : Bool) (x : X) → (if b then x else x) ≡ x
either_way true x = refl
either_way false x = refl

has_or_empty : (b : Bool) (k : Kinds) → (if b || true then [] else k) ≡ []
has_or_empty true k = refl
has_or_empty false k = refl

-- ---- what is filled in

-- the row of a flag that was left out
abbrev pub left_out : Text → Row
left_out n = row_by DefaultValue (n, codes "false")

flag_default : (n : Text) (rs : List Row) → with_default rs (option_arg (n, false)) ≡ (if has_row n rs then rs else rs ++ left_out n ∷ [])
flag_default n rs = go (has_row n rs) refl
  where
    go : (t : Bool) → has_row n rs ≡ t → with_default rs (option_arg (n, false)) ≡ (if t then rs else rs ++ left_out n ∷ [])
    go true e = rw e refl
    go false e = rw e (at_row-missing n (more_values DefaultValue (codes "false" ∷ [])) (left_out n ∷ []) rs e)

value_default : (n : Text) (rs : List Row) → with_default rs (option_arg (n, true)) ≡ rs
value_default n rs = either_way (has_row n rs) rs

-- what is there stays, and another id changes nothing
default_stays : (id : Text) (r : Row) (o : Text × Bool) (rs : List Row) → found id rs ≡ Some r → found id (with_default rs (option_arg o)) ≡ Some r
default_stays id r o rs is = go o.1
  where
    at : (t : Bool) → found id (if t then rs else rs ++ left_out o.0 ∷ []) ≡ Some r
    at true = is
    at false = found-new id (left_out o.0) rs ∙ rw is refl

    go : (b : Bool) → found id (with_default rs (option_arg (o.0, b))) ≡ Some r
    go true = ap (found id) (value_default o.0 rs) ∙ is
    go false = ap (found id) (flag_default o.0 rs) ∙ at (has_row o.0 rs)

default_other : (id n : Text) (b : Bool) (rs : List Row) → bytes_eq n id ≡ false → found id (with_default rs (option_arg (n, b))) ≡ found id rs
default_other id n true rs other = ap (found id) (value_default n rs)
default_other id n false rs other = ap (found id) (flag_default n rs) ∙ go (has_row n rs)
  where
    go : (t : Bool) → found id (if t then rs else rs ++ left_out n ∷ []) ≡ found id rs
    go true = refl
    go false = found-new id (left_out n) rs ∙ rw other (or_nothing (found id rs))

abbrev pub filled_up : List Rule → List Row → List Row
filled_up c rs = fold with_default rs c

pub stays : (id : Text) (r : Row) (options : Options) (rs : List Row) → found id rs ≡ Some r → found id (filled_up (map option_arg options) rs) ≡ Some r
stays id r [] rs is = is
stays id r (o ∷ options) rs is = stays id r options (with_default rs (option_arg o)) (default_stays id r o rs is)

abbrev pub option_names : Options → List Text
option_names options = map (λ o. o.0) options

-- a name that is not there is no option's
unnamed : (options : Options) (id : Text) → count id (option_names options) ≡ 0 → takes_value options id ≡ None
unnamed [] id e = refl
unnamed (o ∷ options) id e = go (bytes_eq o.0 id) e (unnamed options id)
  where
    go : (t : Bool) → (if t then suc (count id (option_names options)) else count id (option_names options)) ≡ 0
        → (count id (option_names options) ≡ 0 → takes_value options id ≡ None) → option_map (λ (x : Text × Bool). x.1) (cond t (Some o) (find (λ x. bytes_eq x.0 id) options)) ≡ None
    go true e next = absurd (omega arith)
    go false e next = next e

-- what is no flag is not filled in
pub kept : (id : Text) (options : Options) (rs : List Row) → distinct (option_names options) ≡ true → takes_value options id ≢ Some false
    → found id (filled_up (map option_arg options) rs) ≡ found id rs
kept id [] rs is none = refl
kept id (o ∷ options) rs is none =
    let both = and_both (count o.0 (option_names options) == 0) (distinct (option_names options)) is in
    let alone = none_counted (count o.0 (option_names options)) both.0 in
    kept id options (with_default rs (option_arg o)) both.1 (rest (bytes_eq o.0 id) refl none alone) ∙ here (bytes_eq o.0 id) refl o.1 none
  where
    rest : (t : Bool) → bytes_eq o.0 id ≡ t → option_map (λ (x : Text × Bool). x.1) (cond t (Some o) (find (λ x. bytes_eq x.0 id) options)) ≢ Some false
        → count o.0 (option_names options) ≡ 0 → takes_value options id ≢ Some false
    rest true e none alone bad =
        let missing : takes_value options id ≡ None = unnamed options id (subst (λ n. count n (option_names options) ≡ 0) (same_id o.0 id e) alone) in
        let worse = sym missing ∙ bad in cc
    rest false e none alone bad = none bad

    here : (t : Bool) → bytes_eq o.0 id ≡ t → (b : Bool) → option_map (λ (x : Text × Bool). x.1) (cond t (Some (o.0, b)) (find (λ x. bytes_eq x.0 id) options)) ≢ Some false
        → found id (with_default rs (option_arg (o.0, b))) ≡ found id rs
    here false e b none = default_other id o.0 b rs e
    here true e true none = ap (found id) (value_default o.0 rs)
    here true e false none = absurd (none refl)

-- a flag is filled in where it was left out
pub flagged : (id : Text) (options : Options) (rs : List Row) → takes_value options id ≡ Some false
    → found id (filled_up (map option_arg options) rs) ≡ Some (unwrap_or (found id rs) (left_out id))
flagged id [] rs is = cc
flagged id (o ∷ options) rs is = go (bytes_eq o.0 id) refl o.1 refl is (λ r e. stays id r options (with_default rs (option_arg o)) e) (flagged id options (with_default rs (option_arg o)))
  where
    at : (t : Bool) → has_row id rs ≡ t → found id (if t then rs else rs ++ left_out id ∷ []) ≡ Some (unwrap_or (found id rs) (left_out id))
    at true e = some (found id rs) (sym (has_row-found id rs) ∙ e)
      where
        some : (x : Option Row) → is_some x ≡ true → x ≡ Some (unwrap_or x (left_out id))
        some None e = cc
        some (Some r) e = refl
    at false e = found-new id (left_out id) rs ∙ none (found id rs) (sym (has_row-found id rs) ∙ e)
      where
        none : (x : Option Row) → is_some x ≡ false → option_or x (cond (bytes_eq id id) (Some (left_out id)) None) ≡ Some (unwrap_or x (left_out id))
        none None e = rw (itself id) refl
        none (Some r) e = cc

    go : (t : Bool) → bytes_eq o.0 id ≡ t → (b : Bool) → o.1 ≡ b → option_map (λ (x : Text × Bool). x.1) (cond t (Some (o.0, b)) (find (λ x. bytes_eq x.0 id) options)) ≡ Some false
        → ((r : Row) → found id (with_default rs (option_arg o)) ≡ Some r → found id (filled_up (map option_arg options) (with_default rs (option_arg o))) ≡ Some r)
        → (takes_value options id ≡ Some false → found id (filled_up (map option_arg options) (with_default rs (option_arg o))) ≡ Some (unwrap_or (found id (with_default rs (option_arg o))) (left_out id)))
        → found id (filled_up (map option_arg options) (with_default rs (option_arg o))) ≡ Some (unwrap_or (found id rs) (left_out id))
    go true e true takes is keep next = cc
    go true e false takes is keep next = keep (unwrap_or (found id rs) (left_out id)) (ap (λ b. found id (with_default rs (option_arg (o.0, b)))) takes
        ∙ ap (found id) (flag_default o.0 rs)
        ∙ ap (λ n. found id (if has_row n rs then rs else rs ++ left_out n ∷ [])) (same_id o.0 id e)
        ∙ at (has_row id rs) refl)
    go false e b takes is keep next = next is ∙ ap (λ x. Some (unwrap_or x (left_out id))) (default_other id o.0 o.1 rs e)

-- ---- the last checks

operands_fill : (i : ℕ) (ids : List Text) (options : Options) (rs : List Row) → filled_up (rules_from i ids options) rs ≡ filled_up (map option_arg options) rs
operands_fill i [] options rs = refl
operands_fill i (id ∷ ids) options rs = ap (λ x. filled_up (rules_from (suc i) ids options) x) (either_way (has_row id rs) rs) ∙ operands_fill (suc i) ids options rs

options_pass : (options : Options) (rs : List Row) → defaults_fault rs (map option_arg options) ≡ []
unfolding defaults_fault
options_pass [] rs = refl
options_pass (o ∷ options) rs = ap (λ k. or_else k (defaults_fault (with_default rs (option_arg o)) (map option_arg options))) (go o.1) ∙ options_pass options (with_default rs (option_arg o))
  where
    go : (b : Bool) → default_fault rs (option_arg (o.0, b)) ≡ []
    go true = has_or_empty (has_row o.0 rs) _
    go false = either_way (has_row o.0 rs || false) []

defaults_pass : (i : ℕ) (ids : List Text) (options : Options) (rs : List Row) → defaults_fault rs (rules_from i ids options) ≡ []
unfolding defaults_fault
defaults_pass i [] options rs = options_pass options rs
defaults_pass i (id ∷ ids) options rs =
    ap (λ k. or_else k (defaults_fault (with_default rs (operand_arg i id)) (rules_from (suc i) ids options))) (has_or_empty (has_row id rs) _)
    ∙ defaults_pass (suc i) ids options (with_default rs (operand_arg i id))

-- an operand has no row
abbrev pub missing : List Text → List Row → Bool
missing ids rs = list_any (λ id. not (is_given id rs)) ids

wanted : (i : ℕ) (ids : List Text) (options : Options) (rs : List Row) → list_any (λ (a : Rule). a.required && not (is_given a.id rs)) (rules_from i ids options) ≡ missing ids rs
wanted i [] [] rs = refl
wanted i [] (o ∷ options) rs = wanted i [] options rs
wanted i (id ∷ ids) options rs = ap (λ b. not (is_given id rs) || b) (wanted (suc i) ids options rs)

pub finish_is : (name : Text) (ids : List Text) (options : Options) (rs : List Row)
    → finish name (rules_from 1 ids options) rs ≡ (if missing ids (filled_up (map option_arg options) rs) then None else Some (filled_up (map option_arg options) rs))
finish_is name ids options rs =
    let c = rules_from 1 ids options in
    ap (λ k. answer (or_else k (check_fault (flat name c) (filled_up c rs) false)) (filled_up c rs)) (defaults_pass 1 ids options rs)
    ∙ ap (λ x. answer (check_fault (flat name c) x false) x) (operands_fill 1 ids options rs)
    ∙ ap (λ b. answer (check_kinds false false (not false && b)) (filled_up (map option_arg options) rs)) (wanted 1 ids options (filled_up (map option_arg options) rs))
    ∙ go (missing ids (filled_up (map option_arg options) rs))
  where
    go : (t : Bool) → answer (check_kinds false false (not false && t)) (filled_up (map option_arg options) rs) ≡ (if t then None else Some (filled_up (map option_arg options) rs))
    go true = refl
    go false = refl
