-- What a command finds in a line, and which lines it refuses.
use Rattle.std.proofs.Common.{◌≡◌, ◌≢◌, ◌≤◌, ◌∙◌, ◌==◌, ◌||◌, ℕ, Bool, cond, true, false, not, List, [], ◌∷◌, map, drop, Option, Some, None, suc, zero, length, refl, sym, ap, subst, codes, if◌then◌else◌, unwrap_or, arith}
use Rattle.std.specs.Prelude.{option_map, option_and_then, slice_get, find}
use Rattle.std.specs.List.{All, list_all, list_any}
use Rattle.std.specs.Str.{bytes_eq, IsUtf8}
use Rattle.clap.specs.Walk.{Row, first_of, nothing_held, one_of, row_text, rows_after}
use Rattle.clap.specs.Takes.{is_given}
use Rattle.clap.specs.Simple.{App, argument_words, built, matches_of, names_of}
use Rattle.clap.specs.Faults.{built_fault, fault_of}
use Rattle.clap.specs.Kinds.{Kinds}
use Rattle.clap.proofs.FaultLemmas.{leaf_fault}
use Rattle.clap.proofs.CutLemmas.{Lacks}
use Rattle.job_words.specs.Uses.{Text, Use, Options, operand, takes_value, operands, values_of, times, listed, tally, Spells, over, behind_dashes, positional, value_apart, value_joined, raised}
use Rattle.job_words.proofs.Reading.{uses}
use Rattle.job_words.proofs.Rules.{flat, option_arg, rules_from}
use Rattle.job_words.proofs.Pairs.{Given, Known, Once, Pair, Strange, and_both, count, distinct, few_vals, first, flag_vals, fresh, from_once, given, none_counted, paired, pairs, same_id, to_once, trues, vals, valued_vals}
use Rattle.job_words.proofs.Walks.{answer, apply, finish, reads}
use Rattle.job_words.proofs.Flat.{ids_of, is_flat}
use Rattle.job_words.proofs.Rows.{Places, applied, ends, row, rows}
use Rattle.job_words.proofs.Finish.{option_names, filled_up, finish_is, flagged, found, found-rows, kept, left_out, missing}
use Rattle.job_words.proofs.Spelt.{WellNamed, lacks_from, read_from, spelt}

-- the name is not empty and has no '='
abbrev pub is_named : Text → Bool
is_named [] = false
is_named (b ∷ rest) = not (list_any (λ x. x == 61) (b ∷ rest))

-- the command has these operands and options, and no two of one name; each field holds by computing
pub record IsCommand (app : App) (name : Text) (ids : List Text) (options : Options) : Type 0 where
  pub is_built : built app ≡ record { top = flat name (rules_from 1 ids options); subs = [] }
  pub whole : app.top.no_binary_name ≡ true
  pub places : Places (rules_from 1 ids options) 1 ids
  pub strange : Strange options ids
  pub distinct_rules : distinct (ids_of (rules_from 1 ids options)) ≡ true
  pub distinct_ids : distinct ids ≡ true
  pub distinct_names : distinct (option_names options) ≡ true
  pub named : list_all (λ (o : Text × Bool). is_named o.0) options ≡ true

-- what the flag's row says
abbrev pub flag_text : Bool → Text
flag_text true = codes "true"
flag_text false = codes "false"

-- the line spells uses which the rows show: a word for each operand, and each option once at most
pub record Accepts (ids : List Text) (options : Options) (line : List Text) (rs : List Row) : Type 0 where
  pub us : List Use
  pub spells : Spells options line us
  pub operands_are : map Some (operands us) ≡ map (λ id. first_of id rs) ids
  pub values_are : (name : Text) → takes_value options name ≡ Some true → values_of name us ≡ listed (first_of name rs)
  pub flags_are : (name : Text) → takes_value options name ≡ Some false → (b : Bool) × (times name us ≡ tally b) × (one_of name rs ≡ Some (flag_text b))

-- as many words as operands, and each option once at most
pub record IsFull (ids : List Text) (options : Options) (us : List Use) : Type 0 where
  pub full : length (operands us) ≡ length ids
  pub once : (name : Text) → takes_value options name ≡ Some true → length (values_of name us) ≤ 1
  pub raised_once : (name : Text) → takes_value options name ≡ Some false → times name us ≤ 1

-- ---- uses of a line

known_operands : (options : Options) (words : List Text) → Known options (map operand words)
known_operands options [] = tt
known_operands options (word ∷ words) = known_operands options words

-- the uses name options of the command
pub known : (options : Options) (words : List Text) (us : List Use) → Spells options words us → Known options us
known options words us over = tt
known options words us (behind_dashes {words = rest}) = known_operands options rest
known options words us (positional {words = rest} {us = vs} is next) = known options rest vs next
known options words us (value_apart {words = rest} {us = vs} takes is next) = (takes, known options rest vs next)
known options words us (value_joined {words = rest} {us = vs} takes next) = (takes, known options rest vs next)
known options words us (raised {words = rest} {us = vs} takes next) = (takes, known options rest vs next)

named_text : (name : Text) → is_named name ≡ true → Lacks 61 name × (name ≢ [])
named_text [] e = cc
named_text (b ∷ rest) e = (lacks_from (b ∷ rest) (go (list_any (λ x. x == 61) (b ∷ rest)) e), λ bad. cc)
  where
    go : (t : Bool) → not t ≡ true → t ≡ false
    go true e = cc
    go false e = refl

pub well_named : (options : Options) → list_all (λ (o : Text × Bool). is_named o.0) options ≡ true → WellNamed options
well_named [] is name b e = cc
well_named (o ∷ options) is name b e =
    let both = and_both (is_named o.0) (list_all (λ (x : Text × Bool). is_named x.0) options) is in
    go (bytes_eq o.0 name) refl e (well_named options both.1 name b)
  where
    go : (t : Bool) → bytes_eq o.0 name ≡ t → option_map (λ (x : Text × Bool). x.1) (cond t (Some o) (find (λ x. bytes_eq x.0 name) options)) ≡ Some b
        → (takes_value options name ≡ Some b → Lacks 61 name × (name ≢ [])) → Lacks 61 name × (name ≢ [])
    go true same e next = subst (λ n. Lacks 61 n × (n ≢ [])) (same_id o.0 name same) (named_text o.0 (and_both (is_named o.0) (list_all (λ (x : Text × Bool). is_named x.0) options) is).0)
    go false same e next = next e

-- ---- each id once

length-trues : (k : ℕ) → length (trues k) ≡ k
length-trues zero = refl
length-trues (suc k) =
    let e = length-trues k in omega arith

few_count : (x : Text) (xs : List Text) → distinct xs ≡ true → count x xs ≤ 1
few_count x [] is = omega arith
few_count x (y ∷ ys) is =
    let both = and_both (count y ys == 0) (distinct ys) is in
    go (bytes_eq y x) refl (none_counted (count y ys) both.0) (few_count x ys both.1)
  where
    go : (t : Bool) → bytes_eq y x ≡ t → count y ys ≡ 0 → count x ys ≤ 1 → (if t then suc (count x ys) else count x ys) ≤ 1
    go true same none next =
        let alone : count x ys ≡ 0 = subst (λ n. count n ys ≡ 0) (same_id y x same) none in omega arith
    go false same none next = next

once_all : (ids : List Text) (options : Options) (us : List Use) (ps : List Pair) → distinct ids ≡ true → Strange options ids → Known options us → pairs ids us ≡ Some ps → IsFull ids options us → Once ps
once_all ids options us ps is strange knows e full id = go (takes_value options id) refl
  where
    go : (t : Option Bool) → takes_value options id ≡ t → length (vals id ps) ≤ 1
    go None has =
        let few = few_vals options id has us ids ps knows e in
        let one = few_count id ids is in omega arith
    go (Some true) has = subst (λ xs. length xs ≤ 1) (sym (valued_vals options id has us ids ps knows strange e)) (full.once id has)
    go (Some false) has =
        let same = ap length (flag_vals options id has us ids ps knows strange e) ∙ length-trues (times id us) in
        let one = full.raised_once id has in omega arith

-- ---- what the rows show at the end

-- the row of what is no flag
shown : (options : Options) (id : Text) (ps : List Pair) → distinct (option_names options) ≡ true → takes_value options id ≢ Some false
    → found id (filled_up (map option_arg options) (rows ps)) ≡ option_map (λ v. row (id, v)) (first (vals id ps))
shown options id ps is none = kept id options (rows ps) is none ∙ found-rows id ps

or_right : (a b : Bool) → (a || b) ≡ false → b ≡ false
or_right true b e = cc
or_right false b e = e

not_flag : (options : Options) (id : Text) (t : Option Bool) → takes_value options id ≡ t → t ≢ Some false → takes_value options id ≢ Some false
not_flag options id t e other bad = other (sym e ∙ bad)

show_operands : (options : Options) (ids words : List Text) (ps : List Pair) → distinct (option_names options) ≡ true → Strange options ids → Given ids words ps
    → missing ids (filled_up (map option_arg options) (rows ps)) ≡ false → map Some words ≡ map (λ id. first_of id (filled_up (map option_arg options) (rows ps))) ids
show_operands options [] [] ps is strange g e = refl
show_operands options [] (word ∷ words) ps is strange g e = absurd g
show_operands options (id ∷ ids) [] ps is strange g e =
    let rs = filled_up (map option_arg options) (rows ps) in
    let none : found id rs ≡ None = shown options id ps is (not_flag options id None strange.0 (λ bad. cc)) ∙ ap (λ xs. option_map (λ v. row (id, v)) (first xs)) g.0 in
    let lacks : is_given id rs ≡ false = rw none refl in
    let bad : true ≡ false = ap (λ b. not b || missing ids rs) (sym lacks) ∙ e in cc
show_operands options (id ∷ ids) (word ∷ words) ps is strange g e =
    let rs = filled_up (map option_arg options) (rows ps) in
    let here : found id rs ≡ Some (row (id, word)) = shown options id ps is (not_flag options id None strange.0 (λ bad. cc)) ∙ ap (λ xs. option_map (λ v. row (id, v)) (first xs)) g.0 in
    let text : first_of id rs ≡ Some word = rw here refl in
    let rest = show_operands options ids words ps is strange.1 g.1 (or_right (not (is_given id rs)) (missing ids rs) e) in λ i. sym text i ∷ rest i

none_missing : (options : Options) (ids words : List Text) (ps : List Pair) → distinct (option_names options) ≡ true → Strange options ids → length words ≡ length ids → Given ids words ps
    → missing ids (filled_up (map option_arg options) (rows ps)) ≡ false
none_missing options [] words ps is strange len g = refl
none_missing options (id ∷ ids) [] ps is strange len g = absurd (omega arith)
none_missing options (id ∷ ids) (word ∷ words) ps is strange len g =
    let rs = filled_up (map option_arg options) (rows ps) in
    let here : found id rs ≡ Some (row (id, word)) = shown options id ps is (not_flag options id None strange.0 (λ bad. cc)) ∙ ap (λ xs. option_map (λ v. row (id, v)) (first xs)) g.0 in
    let has : is_given id rs ≡ true = rw here refl in
    ap (λ b. not b || missing ids rs) has ∙ none_missing options ids words ps is strange.1 (omega arith) g.1

-- values of which there is one at most
at_most_one : (xs : List Text) → length xs ≤ 1 → xs ≡ listed (first xs)
at_most_one [] h = refl
at_most_one (x ∷ []) h = refl
at_most_one (x ∷ y ∷ xs) h = absurd (omega arith)

first_shown : (id : Text) (xs : List Text) → first xs ≡ option_and_then (λ (r : Row). slice_get r.values 0) (option_map (λ v. row (id, v)) (first xs))
first_shown id [] = refl
first_shown id (x ∷ xs) = refl

show_value : (options : Options) (name : Text) (us : List Use) (ids : List Text) (ps : List Pair) → distinct (option_names options) ≡ true → Strange options ids → Known options us → pairs ids us ≡ Some ps → Once ps
    → takes_value options name ≡ Some true → values_of name us ≡ listed (first_of name (filled_up (map option_arg options) (rows ps)))
show_value options name us ids ps is strange knows e once takes =
    let rs = filled_up (map option_arg options) (rows ps) in
    let text : first (vals name ps) ≡ first_of name rs = first_shown name (vals name ps)
    ∙ ap (option_and_then (λ (r : Row). slice_get r.values 0)) (sym (shown options name ps is (not_flag options name (Some true) takes (λ bad. cc)))) in
    sym (valued_vals options name takes us ids ps knows strange e) ∙ at_most_one (vals name ps) (once name) ∙ ap listed text

show_flag : (options : Options) (name : Text) (us : List Use) (ids : List Text) (ps : List Pair) → Strange options ids → Known options us → pairs ids us ≡ Some ps → Once ps
    → takes_value options name ≡ Some false → (b : Bool) × (times name us ≡ tally b) × (one_of name (filled_up (map option_arg options) (rows ps)) ≡ Some (flag_text b))
show_flag options name us ids ps strange knows e once takes =
    go (times name us) (flag_vals options name takes us ids ps knows strange e) (flagged name options (rows ps) takes ∙ ap (λ x. Some (unwrap_or x (left_out name))) (found-rows name ps)) (once name)
  where
    go : (k : ℕ) → vals name ps ≡ trues k → found name (filled_up (map option_arg options) (rows ps)) ≡ Some (unwrap_or (option_map (λ v. row (name, v)) (first (vals name ps))) (left_out name)) → length (vals name ps) ≤ 1
        → (b : Bool) × (k ≡ tally b) × (one_of name (filled_up (map option_arg options) (rows ps)) ≡ Some (flag_text b))
    go zero is shows one = (false, refl, ap (option_and_then row_text) (shows ∙ ap (λ xs. Some (unwrap_or (option_map (λ v. row (name, v)) (first xs)) (left_out name))) is))
    go (suc zero) is shows one = (true, refl, ap (option_and_then row_text) (shows ∙ ap (λ xs. Some (unwrap_or (option_map (λ v. row (name, v)) (first xs)) (left_out name))) is))
    go (suc (suc k)) is shows one =
        let same = ap length is in absurd (omega arith)

-- ---- the whole line

module _ (app : App) (name : Text) (ids : List Text) (options : Options) (is : IsCommand app name ids options) where
  -- what clap makes of a line, by the uses that it reads
  parse : (words : List Text) → All IsUtf8 words → answer (fault_of app words) (matches_of app words) ≡ option_and_then (apply name (rules_from 1 ids options) [] 1) (uses options None words)
  parse words all =
      let whole : argument_words app words ≡ words = ap (λ b. if b then words else drop 1 words) is.whole in
      let c = rules_from 1 ids options in
      let b : App = record { top = flat name c; subs = [] } in
      ap (λ ws. answer (built_fault (built app) nothing_held ws) (rows_after (built app).top.rules (names_of (built app)) ws)) whole
      ∙ ap (λ (x : App). answer (built_fault x nothing_held words) (rows_after x.top.rules (names_of x) words)) is.is_built
      ∙ ap (λ k. answer k (rows_after c [] words)) (leaf_fault b nothing_held words refl)
      ∙ (reads name c options (is_flat ids options is.distinct_rules) words all).0 [] None 1

  -- what clap makes of uses
  made : (us : List Use) → Known options us → apply name (rules_from 1 ids options) [] 1 us ≡ option_and_then (ends name (rules_from 1 ids options) []) (pairs ids us)
  made us knows = applied name ids options us [] 1 ids knows is.places

  accept_pairs : (words : List Text) (us : List Use) (ps : List Pair) (rs : List Row) → Spells options words us → pairs ids us ≡ Some ps → fresh [] ps ≡ true
      → Some rs ≡ (if missing ids (filled_up (map option_arg options) (rows ps)) then None else Some (filled_up (map option_arg options) (rows ps))) → Accepts ids options words rs
  accept_pairs words us ps rs spells e new same = go (missing ids (filled_up (map option_arg options) (rows ps))) refl same
    where
      once : Once ps
      once = to_once ps [] (λ id. omega arith) new

      knows : Known options us
      knows = known options words us spells

      go : (t : Bool) → missing ids (filled_up (map option_arg options) (rows ps)) ≡ t → Some rs ≡ (if t then None else Some (filled_up (map option_arg options) (rows ps))) → Accepts ids options words rs
      go true lacks same = cc
      go false lacks same =
          let here : filled_up (map option_arg options) (rows ps) ≡ rs = ap (λ o. unwrap_or o rs) (sym same) in
          subst (Accepts ids options words) here (record {
            us = us;
            spells = spells;
            operands_are = show_operands options ids (operands us) ps is.distinct_names is.strange (given options us ids ps knows is.strange is.distinct_ids e) lacks;
            values_are = λ n takes. show_value options n us ids ps is.distinct_names is.strange knows e once takes;
            flags_are = λ n takes. show_flag options n us ids ps is.strange knows e once takes;
          })

  pub accepts : (words : List Text) → All IsUtf8 words → fault_of app words ≡ [] → Accepts ids options words (matches_of app words)
  accepts words all none = go (uses options None words) refl (ap (λ k. answer k (matches_of app words)) (sym none) ∙ parse words all)
    where
      new : (us : List Use) (ps : List Pair) (t : Bool) → Spells options words us → pairs ids us ≡ Some ps → fresh [] ps ≡ t
          → Some (matches_of app words) ≡ (if t then finish name (rules_from 1 ids options) (rows ps) else None) → Accepts ids options words (matches_of app words)
      new us ps true spells e is_new same = accept_pairs words us ps (matches_of app words) spells e is_new (same ∙ finish_is name ids options (rows ps))
      new us ps false spells e is_new same = cc

      by_pairs : (us : List Use) (o : Option (List Pair)) → Spells options words us → pairs ids us ≡ o → Some (matches_of app words) ≡ option_and_then (ends name (rules_from 1 ids options) []) o → Accepts ids options words (matches_of app words)
      by_pairs us None spells e same = cc
      by_pairs us (Some ps) spells e same = new us ps (fresh [] ps) spells e refl same

      go : (o : Option (List Use)) → uses options None words ≡ o → Some (matches_of app words) ≡ option_and_then (apply name (rules_from 1 ids options) [] 1) o → Accepts ids options words (matches_of app words)
      go None e same = cc
      go (Some us) e same =
          let spells : Spells options words us = spelt options words None us e in by_pairs us (pairs ids us) spells refl (same ∙ made us (known options words us spells))

  pub refuses : (words : List Text) → All IsUtf8 words → fault_of app words ≢ [] → (us : List Use) → Spells options words us → IsFull ids options us → ⊥
  refuses words all fails us spells full = go (fault_of app words) fails (parse words all ∙ ap (option_and_then (apply name (rules_from 1 ids options) [] 1)) read ∙ made us knows ∙ ap (option_and_then (ends name (rules_from 1 ids options) [])) pairs_are.1 ∙ ended)
    where
      knows : Known options us
      knows = known options words us spells

      read : uses options None words ≡ Some us
      read = read_from options (well_named options is.named) words us spells

      pairs_are : (ps : List Pair) × (pairs ids us ≡ Some ps)
      pairs_are = paired us ids (let e = full.full in omega arith)

      ps : List Pair
      ps = pairs_are.0

      lacks_none : missing ids (filled_up (map option_arg options) (rows ps)) ≡ false
      lacks_none = none_missing options ids (operands us) ps is.distinct_names is.strange full.full (given options us ids ps knows is.strange is.distinct_ids pairs_are.1)

      ended : ends name (rules_from 1 ids options) [] ps ≡ Some (filled_up (map option_arg options) (rows ps))
      ended = ap (λ t. if t then finish name (rules_from 1 ids options) (rows ps) else None) (from_once ps [] (once_all ids options us ps is.distinct_ids is.strange knows pairs_are.1 full))
          ∙ finish_is name ids options (rows ps)
          ∙ ap (λ t. if t then None else Some (filled_up (map option_arg options) (rows ps))) lacks_none

      go : (k : Kinds) → k ≢ [] → answer k (matches_of app words) ≡ Some (filled_up (map option_arg options) (rows ps)) → ⊥
      go [] fails e = fails refl
      go (k ∷ ks) fails e = cc
