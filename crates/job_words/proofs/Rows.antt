-- The rows that clap makes of the uses of a line.
use Rattle.std.proofs.Common.{◌≡◌, ◌≢◌, ◌∙◌, ◌||◌, ℕ, Bool, true, false, List, [], ◌∷◌, ◌++◌, map, Option, Some, None, refl, sym, ap, codes, if◌then◌else◌, append_assoc}
use Rattle.std.specs.Prelude.{option_map, option_and_then}
use Rattle.std.specs.Str.{bytes_eq}
use Rattle.std.proofs.lemmas.List.{append-nil}
use Rattle.clap.specs.Walk.{Row, Rule, arg_by_index, at_row, has_row, more_values, next_position, used}
use Rattle.clap.specs.Faults.{use_fault}
use Rattle.clap.specs.Kinds.{Kinds}
use Rattle.clap.specs.declared.error.kind.ErrorKind.TheVariants as kind
use Rattle.clap.specs.declared.error.kind.ErrorKind.{ErrorKind}
use Rattle.clap.specs.declared.parser.matches.ValueSource.{ValueSource}
use Rattle.clap.specs.declared.parser.matches.ValueSource.TheVariants.{CommandLine}
use Rattle.clap.specs.declared.builder.value_parser.Reading.TheVariants.{AsWritten}
use Rattle.job_words.specs.Uses.{Text, Use, Options, operand, valued, flag}
use Rattle.job_words.proofs.Pairs.{Pair, Known, fresh, has, pairs}
use Rattle.job_words.proofs.Rules.{operand_arg, option_arg, rules_from}
use Rattle.job_words.proofs.Flat.{by_name}
use Rattle.job_words.proofs.Walks.{after, after_fails, apply, finish, on_rule}

-- the row of an id with one value
abbrev pub row_by : ValueSource → Pair → Row
row_by source p = record { id = p.0; values = p.1 ∷ []; count = None; source = Some source; reading = AsWritten }

abbrev pub row : Pair → Row
row p = row_by CommandLine p

abbrev pub rows : List Pair → List Row
rows ps = map row ps

pub has_row-rows : (id : Text) (ps : List Pair) → has_row id (rows ps) ≡ has id ps
has_row-rows id [] = refl
has_row-rows id (p ∷ ps) = ap (λ b. bytes_eq p.0 id || b) (has_row-rows id ps)

map-append : (a b : List Pair) → rows (a ++ b) ≡ rows a ++ rows b
map-append [] b = refl
map-append (p ∷ a) b = ap (λ rs. row p ∷ rs) (map-append a b)

-- where the argument has no row, a new one comes last
pub at_row-missing : (id : Text) (change : Row → List Row) (missing rs : List Row) → has_row id rs ≡ false → at_row id change missing rs ≡ rs ++ missing
at_row-missing id change missing [] e = refl
at_row-missing id change missing (r ∷ rs) e = go (bytes_eq r.id id) (at_row-missing id change missing rs) e
  where
    go : (b : Bool) → (has_row id rs ≡ false → at_row id change missing rs ≡ rs ++ missing) → (b || has_row id rs) ≡ false → (if b then change r ++ rs else r ∷ at_row id change missing rs) ≡ r ∷ (rs ++ missing)
    go true next e = cc
    go false next e = ap (λ x. r ∷ x) (next e)

new_row : (id : Text) (change : Row → List Row) (r : Row) (rs : List Row) → has_row id rs ≡ false → at_row id change (r ∷ []) (at_row id (λ _. []) [] rs) ≡ rs ++ r ∷ []
new_row id change r rs e = ap (λ x. at_row id change (r ∷ []) x) (at_row-missing id (λ _. []) [] rs e ∙ append-nil rs) ∙ at_row-missing id change (r ∷ []) rs e

-- a use of the argument makes this row, and no second one
record Makes (a : Rule) (values : List Text) (p : Pair) : Type 0 where
  again : (rs : List Row) → has_row p.0 rs ≡ true → use_fault false a values rs ≢ []
  first : (rs : List Row) → has_row p.0 rs ≡ false → use_fault false a values rs ≡ []
  adds : (rs : List Row) → has_row p.0 rs ≡ false → used a values rs ≡ rs ++ row p ∷ []

one_kind : (kinds : Kinds) (k : ErrorKind) → kinds ≡ k ∷ [] → kinds ≢ []
one_kind kinds k is none =
    let bad : k ∷ [] ≡ [] = sym is ∙ none in cc

operand_makes : (i : ℕ) (id word : Text) → Makes (operand_arg i id) (word ∷ []) (id, word)
operand_makes i id word = record {
  again = λ rs e. one_kind _ kind.ArgumentConflict (rw e refl);
  first = λ rs e. rw e refl;
  adds = λ rs e. new_row id (more_values CommandLine (word ∷ [])) (row (id, word)) rs e;
}

option_makes : (n v : Text) → Makes (option_arg (n, true)) (v ∷ []) (n, v)
option_makes n v = record {
  again = λ rs e. one_kind _ kind.ArgumentConflict (rw e refl);
  first = λ rs e. rw e refl;
  adds = λ rs e. new_row n (more_values CommandLine (v ∷ [])) (row (n, v)) rs e;
}

flag_makes : (n : Text) → Makes (option_arg (n, false)) [] (n, codes "true")
flag_makes n = record {
  again = λ rs e. one_kind _ kind.ArgumentConflict (rw e refl);
  first = λ rs e. rw e refl;
  adds = λ rs e. new_row n (more_values CommandLine (codes "true" ∷ [])) (row (n, codes "true")) rs e;
}

-- the end of a line that made these pairs and then the new ones
abbrev pub ends : Text → List Rule → List Pair → List Pair → Option (List Row)
ends name c done new = if fresh done new then finish name c (rows (done ++ new)) else None

-- one use, and then the rest
step : (name : Text) (c : List Rule) (a : Rule) (values : List Text) (p : Pair) (done : List Pair) (rest : List Row → Option (List Row)) (more : Option (List Pair)) → Makes a values p
    → rest (rows (done ++ p ∷ [])) ≡ option_and_then (ends name c (done ++ p ∷ [])) more
    → after (use_fault false a values (rows done)) (rest (used a values (rows done))) ≡ option_and_then (ends name c done) (option_map (λ ps. p ∷ ps) more)
step name c a values p done rest more makes next = go (has p.0 done) refl
  where
    hidden : (o : Option (List Pair)) → has p.0 done ≡ true → None ≡ option_and_then (ends name c done) (option_map (λ ps. p ∷ ps) o)
    hidden None e = refl
    hidden (Some new) e = rw e refl

    shown : (o : Option (List Pair)) → has p.0 done ≡ false → option_and_then (ends name c (done ++ p ∷ [])) o ≡ option_and_then (ends name c done) (option_map (λ ps. p ∷ ps) o)
    shown None e = refl
    shown (Some new) e = rw (e, append_assoc done (p ∷ []) new) refl

    go : (t : Bool) → has p.0 done ≡ t → after (use_fault false a values (rows done)) (rest (used a values (rows done))) ≡ option_and_then (ends name c done) (option_map (λ ps. p ∷ ps) more)
    go true e = after_fails (use_fault false a values (rows done)) _ (makes.again (rows done) (has_row-rows p.0 done ∙ e)) ∙ hidden more e
    go false e =
        let none = has_row-rows p.0 done ∙ e in
        ap (λ k. after k (rest (used a values (rows done)))) (makes.first (rows done) none)
        ∙ ap rest (makes.adds (rows done) none ∙ sym (map-append done (p ∷ [])))
        ∙ next
        ∙ shown more e

-- the operands that are left stand at the places from i on
abbrev pub Places : List Rule → ℕ → List Text → Type 0
Places c i [] = arg_by_index c i ≡ None
Places c i (id ∷ ids) = (arg_by_index c i ≡ Some (operand_arg i id)) × Places c (next_position (operand_arg i id) i) ids

-- what the uses do, by the pairs that they make
pub applied : (name : Text) (all : List Text) (options : Options) (us : List Use) (done : List Pair) (i : ℕ) (left : List Text) → Known options us → Places (rules_from 1 all options) i left
    → apply name (rules_from 1 all options) (rows done) i us ≡ option_and_then (ends name (rules_from 1 all options) done) (pairs left us)
unfolding apply pairs
applied name all options [] done i [] known places = ap (λ ps. finish name (rules_from 1 all options) (rows ps)) (sym (append-nil done))
applied name all options [] done i (id ∷ ids) known places = ap (λ ps. finish name (rules_from 1 all options) (rows ps)) (sym (append-nil done))
applied name all options (operand word ∷ us) done i [] known places =
    ap (λ found. on_rule found (word ∷ []) (rows done) (λ a r. apply name (rules_from 1 all options) r (next_position a i) us)) places
applied name all options (operand word ∷ us) done i (id ∷ ids) known places =
    let c = rules_from 1 all options in
    ap (λ found. on_rule found (word ∷ []) (rows done) (λ a r. apply name c r (next_position a i) us)) places.0
    ∙ step name c (operand_arg i id) (word ∷ []) (id, word) done (λ r. apply name c r (next_position (operand_arg i id) i) us) (pairs ids us) (operand_makes i id word)
    (applied name all options us (done ++ (id, word) ∷ []) (next_position (operand_arg i id) i) ids known places.1)
applied name all options (valued n v ∷ us) done i left known places =
    let c = rules_from 1 all options in
    ap (λ found. on_rule found (v ∷ []) (rows done) (λ a r. apply name c r i us)) (by_name n true 1 all options known.0)
    ∙ step name c (option_arg (n, true)) (v ∷ []) (n, v) done (λ r. apply name c r i us) (pairs left us) (option_makes n v)
    (applied name all options us (done ++ (n, v) ∷ []) i left known.1 places)
applied name all options (flag n ∷ us) done i left known places =
    let c = rules_from 1 all options in
    ap (λ found. on_rule found [] (rows done) (λ a r. apply name c r i us)) (by_name n false 1 all options known.0)
    ∙ step name c (option_arg (n, false)) [] (n, codes "true") done (λ r. apply name c r i us) (pairs left us) (flag_makes n)
    (applied name all options us (done ++ (n, codes "true") ∷ []) i left known.1 places)
