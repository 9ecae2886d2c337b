-- How clap walks over a line of words.
use Rattle.std.proofs.Common.{◌<◌, ◌≡◌, ◌≢◌, ◌∙◌, ◌&&◌, ◌||◌, if◌then◌else◌, ℕ, Bool, true, false, List, [], ◌∷◌, map, Option, Some, None, suc, zero, length, refl, sym, ap, arith}
use Rattle.std.specs.Prelude.{unwrap_or, option_map, option_and_then, fold, slice_get}
use Rattle.std.specs.List.{All}
use Rattle.std.specs.Option.{option_map_or}
use Rattle.clap.specs.declared.error.kind.ErrorKind.TheVariants as kind
use Rattle.clap.specs.declared.error.kind.ErrorKind.{ErrorKind}
use Rattle.std.proofs.lemmas.Slice.Eq.{bytes_eq-Decides}
use Rattle.std.specs.Str.{bytes_eq, chars, IsUtf8}
use Rattle.clap.specs.Facts.{unwrap_or_range}
use Rattle.clap.specs.Walk.{subcommand_met, positional, after_flag, after_step, long_met, to_positional, pushed, is_pending, used_by_id, Held, Row, Rule, Walk, Waiting, idle, option, arg_by_id, arg_by_index, arg_by_long, arg_by_short, finished, is_multiple, most_values, next_position, settled, takes_several, takes_values, used, walked, with_default}
use Rattle.clap.specs.Faults.{flags_fault, long_fault, positional_fault, step_fault, check_fault, defaults_fault, settle_fault, turn_fault, use_fault, walk_fault}
use Rattle.clap.specs.Kinds.{Kinds, or_else}
use Rattle.job_words.proofs.Rules.{flat}
use Rattle.job_words.specs.Uses.{Text, Use, Options, operand, valued, flag, takes_value}
use Rattle.job_words.proofs.Reading.{Look, ends, named, dashed, plain, look, uses, word_uses, option_uses}
use Rattle.job_words.proofs.Looks.{Sees, sees}

-- the rest, where a step does not fail
abbrev pub after : {X : Type 0} → Kinds → Option X → Option X
after [] rest = rest
after (k ∷ ks) rest = None

-- the rows, where nothing failed
abbrev pub answer : Kinds → List Row → Option (List Row)
answer kinds rows = after kinds (Some rows)

after_both : {X : Type 0} (a b : Kinds) (o : Option X) → after (or_else a b) o ≡ after a (after b o)
after_both [] b o = refl
after_both (k ∷ ks) b o = refl

after_three : {X : Type 0} (a b d : Kinds) (o : Option X) → after (or_else (or_else a b) d) o ≡ after a (after (or_else b d) o)
after_three [] b d o = refl
after_three (k ∷ ks) b d o = refl

pub after_fails : {X : Type 0} (a : Kinds) (o : Option X) → a ≢ [] → after a o ≡ None
after_fails [] o fails = absurd (fails refl)
after_fails (k ∷ ks) o fails = refl

-- what is left to do once the words are over
abbrev pub end_kinds : Text → List Rule → List Row → Kinds
end_kinds name c rows = or_else (defaults_fault rows c) (check_fault (flat name c) (fold with_default rows c) false)

abbrev pub finish : Text → List Rule → List Row → Option (List Row)
finish name c rows = answer (end_kinds name c rows) (fold with_default rows c)

-- what clap makes of the words, from where a walk stands
abbrev pub outcome : Text → List Rule → Walk → List Text → Option (List Row)
outcome name c w words =
    let end = (fold (walked c []) w words).held in
    answer (or_else (walk_fault (flat name c) [] w words) (or_else (settle_fault c false end) (end_kinds name c (settled c end).rows))) (finished c end)

outcome_end : (name : Text) (c : List Rule) (w : Walk) → outcome name c w [] ≡ after (settle_fault c false w.held) (finish name c (settled c w.held).rows)
unfolding walk_fault
outcome_end name c w = after_both (settle_fault c false w.held) (end_kinds name c (settled c w.held).rows) _

outcome_next : (name : Text) (c : List Rule) (w : Walk) (word : Text) (words : List Text)
    → outcome name c w (word ∷ words) ≡ after (turn_fault (flat name c) [] w word) (outcome name c (walked c [] w word) words)
unfolding walk_fault
outcome_next name c w word words = after_three (turn_fault (flat name c) [] w word) _ _ _

-- ---- what the uses do, one after another

abbrev pub on_rule : Option Rule → List Text → List Row → (Rule → List Row → Option (List Row)) → Option (List Row)
on_rule None values rows rest = None
on_rule (Some a) values rows rest = after (use_fault false a values rows) (rest a (used a values rows))

abbrev pub on_use : List Rule → Use → List Row → ℕ → (List Row → ℕ → Option (List Row)) → Option (List Row)
on_use c (operand word) rows i rest = on_rule (arg_by_index c i) (word ∷ []) rows (λ a after. rest after (next_position a i))
on_use c (valued name value) rows i rest = on_rule (arg_by_long c name) (value ∷ []) rows (λ a after. rest after i)
on_use c (flag name) rows i rest = on_rule (arg_by_long c name) [] rows (λ a after. rest after i)

unfoldable pub apply : Text → List Rule → List Row → ℕ → List Use → Option (List Row)
apply name c rows i [] = finish name c rows
apply name c rows i (u ∷ us) = on_use c u rows i (λ after j. apply name c after j us)

-- an argument that takes one value, and once
pub record IsOne (a : Rule) : Type 0 where
  pub most : most_values a ≡ 1
  pub least : (unwrap_or_range a.range).start_inclusive ≡ 1
  pub several : takes_several a ≡ false
  pub multiple : is_multiple a ≡ false
  pub trailing : a.trailing_var_arg ≡ false

-- a command whose arguments are operands and options of this kind
pub record IsFlat (c : List Rule) (options : Options) : Type 0 where
  pub index : (i : ℕ) (a : Rule) → arg_by_index c i ≡ Some a → IsOne a × (arg_by_id c a.id ≡ Some a)
  pub long : (n : Text) (a : Rule) → arg_by_long c n ≡ Some a → arg_by_id c a.id ≡ Some a
  pub one : (n : Text) (a : Rule) → arg_by_long c n ≡ Some a → takes_values a ≡ true → IsOne a
  pub values : (n : Text) → option_map takes_values (arg_by_long c n) ≡ takes_value options n
  pub short : (x : ℕ) → arg_by_short c x ≡ None

abbrev pub held : List Row → Option (Text × List Text) → Held
held rows pending = record { rows = rows; pending = pending; skip = 0 }

abbrev pub between : Held → ℕ → Walk
between h i = record { held = h; waiting = idle; position = i; is_trailing = false; stopped = None }

abbrev pub behind_dashes : Held → Waiting → ℕ → Walk
behind_dashes h w i = record { held = h; waiting = w; position = i; is_trailing = true; stopped = None }

abbrev pub waits : Held → Text → ℕ → Walk
waits h id i = record { held = h; waiting = option id; position = i; is_trailing = false; stopped = None }

-- the pending use is made, and then the others
abbrev pub settles : Text → List Rule → Held → ℕ → List Use → Option (List Row)
settles name c h i us = after (settle_fault c false h) (apply name c (settled c h).rows i us)

abbrev nothing : Option (List Row)
nothing = None

after_none : (k : Kinds) → after k nothing ≡ nothing
after_none [] = refl
after_none (k ∷ ks) = refl

and_false : (b : Bool) → (b && false) ≡ false
and_false true = refl
and_false false = refl

or_false : (b : Bool) → (b || false) ≡ b
or_false true = refl
or_false false = refl

-- a pending use that is known is made before the others
pending_is : (name : Text) (c : List Rule) (a : Rule) (rows : List Row) (values : List Text) (i : ℕ) (us : List Use) → arg_by_id c a.id ≡ Some a
    → settles name c (held rows (Some (a.id, values))) i us ≡ after (use_fault false a values rows) (apply name c (used a values rows) i us)
pending_is name c a rows values i us e =
    ap (λ found. after (option_map_or (λ x. use_fault false x values rows) found []) (apply name c (used_by_id found values rows) i us)) e

-- an option that still waits for its value fails
unfilled : {X : Type 0} (c : List Rule) (a : Rule) (rows : List Row) (o : Option X) → arg_by_id c a.id ≡ Some a → IsOne a
    → after (settle_fault c false (held rows (Some (a.id, [])))) o ≡ None
unfilled c a rows o e one =
    let step : settle_fault c false (held rows (Some (a.id, []))) ≡ use_fault false a [] rows = ap (λ found. option_map_or (λ x. use_fault false x [] rows) found []) e in
    rw (step, one.least) refl

abbrev walk_at : Bool → Held → Waiting → ℕ → Walk
walk_at t h w i = record { held = h; waiting = w; position = i; is_trailing = t; stopped = None }

-- a pending use before the others, where there are any
pending_then : (name : Text) (c : List Rule) (a : Rule) (rows : List Row) (values : List Text) (i : ℕ) (k : Kinds) (o : Option (List Use)) → arg_by_id c a.id ≡ Some a
    → after k (option_and_then (settles name c (held rows (Some (a.id, values))) i) o) ≡ option_and_then (λ us. after k (after (use_fault false a values rows) (apply name c (used a values rows) i us))) o
pending_then name c a rows values i k None e = after_none k
pending_then name c a rows values i k (Some us) e = ap (λ x. after k x) (pending_is name c a rows values i us e)

none_then : (k : Kinds) (o : Option (List Use)) → nothing ≡ option_and_then (λ us. after k nothing) o
none_then k None = refl
none_then k (Some us) = sym (after_none k)

-- a positional word
on_operand : (name : Text) (c : List Rule) (t : Bool) (rows : List Row) (p : Option (Text × List Text)) (w : Waiting) (i : ℕ) (found : Option Rule) (word : Text) (rest : List Text) (o : Option (List Use))
    → ((a : Rule) → found ≡ Some a → IsOne a × (arg_by_id c a.id ≡ Some a))
    → ((r : List Row) (q : Option (Text × List Text)) (j : ℕ) → outcome name c (walk_at t (held r q) idle j) rest ≡ option_and_then (settles name c (held r q) j) o)
    → after (option_map_or (λ a. positional_fault c false a (held rows p)) found (kind.UnknownArgument ∷ [])) (outcome name c (to_positional c found word (walk_at t (held rows p) w i) (held rows p)) rest)
    ≡ option_and_then (λ us. after (settle_fault c false (held rows p)) (on_rule found (word ∷ []) (settled c (held rows p)).rows (λ a r. apply name c r (next_position a i) us))) o
on_operand name c t rows p w i None word rest o known next = none_then (settle_fault c false (held rows p)) o
on_operand name c t rows p w i (Some a) word rest o known next =
    let one = (known a refl).0 in
    let h = held rows p in
    let now = (settled c h).rows in
    let M : Bool → Bool → Bool → Option (List Row) = λ pends multiple trailing. after (if pends then [] else settle_fault c false h)
    (outcome name c (record {
      held = pushed a.id word (if pends then h else settled c h);
      waiting = if multiple then positional else idle;
      position = next_position a i;
      is_trailing = trailing;
      stopped = None;
    }) rest) in
    ap (λ b. M (is_pending a p && b) (is_multiple a) (t || a.trailing_var_arg)) one.several
    ∙ ap (λ b. M b (is_multiple a) (t || a.trailing_var_arg)) (and_false (is_pending a p))
    ∙ ap (λ b. M false b (t || a.trailing_var_arg)) one.multiple
    ∙ ap (λ b. M false false (t || b)) one.trailing
    ∙ ap (λ b. M false false b) (or_false t)
    ∙ ap (λ x. after (settle_fault c false h) x) (next now (Some (a.id, word ∷ [])) (next_position a i))
    ∙ pending_then name c a now (word ∷ []) (next_position a i) (settle_fault c false h) o (known a refl).1

-- after `--` every word is positional
trails : (name : Text) (c : List Rule) (options : Options) → IsFlat c options → (words : List Text) (rows : List Row) (p : Option (Text × List Text)) (w : Waiting) (i : ℕ)
    → outcome name c (behind_dashes (held rows p) w i) words ≡ settles name c (held rows p) i (map operand words)
unfolding walked apply
trails name c options is [] rows p w i = outcome_end name c (behind_dashes (held rows p) w i)
trails name c options is (word ∷ rest) rows p w i = outcome_next name c (behind_dashes (held rows p) w i) word rest
    ∙ on_operand name c true rows p w i (arg_by_index c i) word rest (Some (map operand rest)) (is.index i) (λ r q j. trails name c options is rest r q idle j)

-- nothing waits for a subcommand
abbrev NoSub : Waiting → Text → Type 0
NoSub w word = subcommand_met [] w word ≡ None

turn_ends : (name : Text) (c : List Rule) (h : Held) (w : Waiting) (i : ℕ) (word : Text) → NoSub w word → Sees word ends → turn_fault (flat name c) [] (walk_at false h w i) word ≡ []
turn_ends name c h w i word sub e = rw (sub, e) refl

walk_ends : (name : Text) (c : List Rule) (h : Held) (w : Waiting) (i : ℕ) (word : Text) → NoSub w word → Sees word ends → walked c [] (walk_at false h w i) word ≡ behind_dashes h w i
unfolding walked
walk_ends name c h w i word sub e = rw (sub, e) refl

turn_plain : (name : Text) (c : List Rule) (h : Held) (i : ℕ) (word : Text) → Sees word plain
    → turn_fault (flat name c) [] (between h i) word ≡ option_map_or (λ a. positional_fault c false a h) (arg_by_index c i) (kind.UnknownArgument ∷ [])
turn_plain name c h i word e = rw (e.0, e.1, e.2) refl

walk_plain : (name : Text) (c : List Rule) (h : Held) (i : ℕ) (word : Text) → Sees word plain
    → walked c [] (between h i) word ≡ to_positional c (arg_by_index c i) word (between h i) h
unfolding walked
walk_plain name c h i word e = rw (e.0, e.1, e.2) refl

-- a word with an option's name
abbrev turn_of : Text → List Rule → Held → Waiting → ℕ → Text → Option Text → Option Rule → Kinds
turn_of name c h w i word v found = or_else (long_fault c false found v h)
    (step_fault (flat name c) i (after_flag c w word (long_met c found v h).0 (long_met c found v h).1).0 (after_flag c w word (long_met c found v h).0 (long_met c found v h).1).1)

abbrev walk_of : List Rule → Held → Waiting → ℕ → Text → Option Text → Option Rule → Walk
walk_of c h w i word v found =
    after_step c word (walk_at false h w i) (after_flag c w word (long_met c found v h).0 (long_met c found v h).1).0 (after_flag c w word (long_met c found v h).0 (long_met c found v h).1).1

turn_named : (name : Text) (c : List Rule) (h : Held) (w : Waiting) (i : ℕ) (word n : Text) (v : Option Text) → NoSub w word → Sees word (named n v)
    → turn_fault (flat name c) [] (walk_at false h w i) word ≡ turn_of name c h w i word v (arg_by_long c n)
turn_named name c h w i word n v sub e = rw (sub, e.0, e.1) refl

walk_named : (name : Text) (c : List Rule) (h : Held) (w : Waiting) (i : ℕ) (word n : Text) (v : Option Text) → NoSub w word → Sees word (named n v)
    → walked c [] (walk_at false h w i) word ≡ walk_of c h w i word v (arg_by_long c n)
unfolding walked
walk_named name c h w i word n v sub e = rw (sub, e.0, e.1) refl

-- a word with a dash that is no option
unknown_short : (c : List Rule) (options : Options) → IsFlat c options → (rows : List Row) (p : Option (Text × List Text)) (flags : Text) (x k : ℕ) → 0 < k → slice_get (chars flags) 0 ≡ Some x
    → flags_fault c false k flags 0 (held rows p) ≡ kind.UnknownArgument ∷ []
unfolding flags_fault
unknown_short c options is rows p flags x zero has e = absurd (omega arith)
unknown_short c options is rows p flags x (suc k) has e = rw (e, is.short x) refl

turn_dashed : (name : Text) (c : List Rule) (options : Options) → IsFlat c options → (rows : List Row) (p : Option (Text × List Text)) (w : Waiting) (i : ℕ) (word : Text) → NoSub w word → Sees word dashed
    → turn_fault (flat name c) [] (walk_at false (held rows p) w i) word ≡ kind.UnknownArgument ∷ []
turn_dashed name c options is rows p w i word sub e =
    rw (sub, e.0, e.1.long, e.1.short, unknown_short c options is rows p e.1.flags e.1.first (length e.1.flags) e.1.has e.1.char) refl

-- ---- one word at a time

and_then_after : (k : Kinds) (f : List Use → Option (List Row)) (o : Option (List Use)) → after k (option_and_then f o) ≡ option_and_then (λ us. after k (f us)) o
and_then_after k f None = after_none k
and_then_after k f (Some us) = refl

-- a use that is made at once
use_now : (s u : Kinds) (f g : List Use → Option (List Row)) (add : Use) (o : Option (List Use)) → ((us : List Use) → g (add ∷ us) ≡ after s (after u (f us)))
    → after (or_else (or_else s u) []) (option_and_then f o) ≡ option_and_then g (option_map (λ us. add ∷ us) o)
use_now s u f g add None same = after_none (or_else (or_else s u) [])
use_now s u f g add (Some us) same = after_three s u [] (f us) ∙ ap (λ x. after s x) (after_both u [] (f us)) ∙ sym (same us)

-- an option's word, where no option waits
on_option : (name : Text) (c : List Rule) (options : Options) (rows : List Row) (p : Option (Text × List Text)) (i : ℕ) (word n : Text) (v : Option Text) (rest : List Text) (found : Option Rule) (tv : Bool)
    → arg_by_long c n ≡ found
    → ((a : Rule) → found ≡ Some a → takes_values a ≡ tv)
    → ((r : List Row) (q : Option (Text × List Text)) → outcome name c (between (held r q) i) rest ≡ option_and_then (settles name c (held r q) i) (uses options None rest))
    → ((r : List Row) (a : Rule) → found ≡ Some a → takes_values a ≡ true → outcome name c (waits (held r (Some (a.id, []))) a.id i) rest ≡ option_and_then (apply name c r i) (uses options (Some n) rest))
    → after (turn_of name c (held rows p) idle i word v found) (outcome name c (walk_of c (held rows p) idle i word v found) rest)
    ≡ option_and_then (settles name c (held rows p) i) (option_uses n v (option_map (λ a. tv) found) (λ o. uses options o rest))
unfolding apply
on_option name c options rows p i word n None rest None tv e takes next owed = refl
on_option name c options rows p i word n (Some v) rest None tv e takes next owed = refl
on_option name c options rows p i word n (Some v) rest (Some a) true e takes next owed =
    let h = held rows p in
    let now = (settled c h).rows in
    rw (takes a refl) (ap (λ o. after (or_else (or_else (settle_fault c false h) (use_fault false a (v ∷ []) now)) []) o) (next (used a (v ∷ []) now) None)
    ∙ use_now (settle_fault c false h) (use_fault false a (v ∷ []) now) (apply name c (used a (v ∷ []) now) i) (settles name c h i) (valued n v) (uses options None rest)
    (λ us. ap (λ found. after (settle_fault c false h) (on_rule found (v ∷ []) now (λ a r. apply name c r i us))) e))
on_option name c options rows p i word n None rest (Some a) true e takes next owed =
    let h = held rows p in
    let now = (settled c h).rows in
    rw (takes a refl) (after_both (settle_fault c false h) [] _
    ∙ ap (λ o. after (settle_fault c false h) o) (owed now a refl (takes a refl))
    ∙ and_then_after (settle_fault c false h) (apply name c now i) (uses options (Some n) rest))
on_option name c options rows p i word n (Some v) rest (Some a) false e takes next owed = rw (takes a refl) refl
on_option name c options rows p i word n None rest (Some a) false e takes next owed =
    let h = held rows p in
    let now = (settled c h).rows in
    rw (takes a refl) (ap (λ o. after (or_else (or_else (settle_fault c false h) (use_fault false a [] now)) []) o) (next (used a [] now) None)
    ∙ use_now (settle_fault c false h) (use_fault false a [] now) (apply name c (used a [] now) i) (settles name c h i) (flag n) (uses options None rest)
    (λ us. ap (λ found. after (settle_fault c false h) (on_rule found [] now (λ a r. apply name c r i us))) e))

-- where what is pending fails, so does every option's word
option_fails : (name : Text) (c : List Rule) (h : Held) (w : Waiting) (i : ℕ) (word : Text) (v : Option Text) (found : Option Rule) (k : ErrorKind) (ks : Kinds) (tv : Bool) (o : Option (List Row))
    → ((a : Rule) → found ≡ Some a → takes_values a ≡ tv)
    → settle_fault c false h ≡ k ∷ ks → after (turn_of name c h w i word v found) o ≡ nothing
option_fails name c h w i word v None k ks tv o takes e = refl
option_fails name c h w i word (Some v) (Some a) k ks true o takes e = rw (takes a refl, e) refl
option_fails name c h w i word None (Some a) k ks true o takes e = rw (takes a refl, e) refl
option_fails name c h w i word (Some v) (Some a) k ks false o takes e = rw (takes a refl) refl
option_fails name c h w i word None (Some a) k ks false o takes e = rw (takes a refl, e) refl

-- the kind of an option that still waits for its value
unfilled_kinds : (c : List Rule) (a : Rule) (rows : List Row) → arg_by_id c a.id ≡ Some a → IsOne a
    → settle_fault c false (held rows (Some (a.id, []))) ≡ kind.InvalidValue ∷ []
unfilled_kinds c a rows e one =
    let step : settle_fault c false (held rows (Some (a.id, []))) ≡ use_fault false a [] rows = ap (λ found. option_map_or (λ x. use_fault false x [] rows) found []) e in
    rw (step, one.least) refl

-- a value for the option that waits
turn_value : (name : Text) (c : List Rule) (h : Held) (id : Text) (i : ℕ) (word : Text) → Sees word plain → turn_fault (flat name c) [] (waits h id i) word ≡ []
turn_value name c h id i word e = rw (e.0, e.1, e.2) refl

same_text : (text : Text) → bytes_eq text text ≡ true
same_text text = (bytes_eq-Decides text text).1 refl

walk_value : (name : Text) (c : List Rule) (rows : List Row) (a : Rule) (i : ℕ) (word : Text) → Sees word plain → arg_by_id c a.id ≡ Some a → IsOne a
    → walked c [] (waits (held rows (Some (a.id, []))) a.id i) word ≡ between (held rows (Some (a.id, word ∷ []))) i
unfolding walked
walk_value name c rows a i word e found one = rw (e.0, e.1, e.2, found, same_text a.id, one.most) refl

map_then : (f g : List Use → Option (List Row)) (add : Use) (o : Option (List Use)) → ((us : List Use) → f us ≡ g (add ∷ us)) → option_and_then f o ≡ option_and_then g (option_map (λ us. add ∷ us) o)
map_then f g add None same = refl
map_then f g add (Some us) same = same us

-- ---- the whole line

abbrev pub Reads : Text → List Rule → Options → List Text → Type 0
Reads name c options words = (
    (rows : List Row) (p : Option (Text × List Text)) (i : ℕ) → outcome name c (between (held rows p) i) words ≡ option_and_then (settles name c (held rows p) i) (uses options None words))
    × ((rows : List Row) (i : ℕ) (n : Text) (a : Rule) → arg_by_long c n ≡ Some a → takes_values a ≡ true
    → outcome name c (waits (held rows (Some (a.id, []))) a.id i) words ≡ option_and_then (apply name c rows i) (uses options (Some n) words))

module _ (name : Text) (c : List Rule) (options : Options) (is : IsFlat c options) where
  between_then : (word : Text) (rest : List Text) → Reads name c options rest → (rows : List Row) (p : Option (Text × List Text)) (i : ℕ) (l : Look) → Sees word l
      → after (turn_fault (flat name c) [] (between (held rows p) i) word) (outcome name c (walked c [] (between (held rows p) i) word) rest)
      ≡ option_and_then (settles name c (held rows p) i) (word_uses options None l word rest (λ o. uses options o rest))
  unfolding apply
  between_then word rest next rows p i ends e =
      ap (λ k. after k (outcome name c (walked c [] (between (held rows p) i) word) rest)) (turn_ends name c (held rows p) idle i word refl e)
      ∙ ap (λ w. outcome name c w rest) (walk_ends name c (held rows p) idle i word refl e)
      ∙ trails name c options is rest rows p idle i
  between_then word rest next rows p i (named n v) e =
      ap (λ k. after k (outcome name c (walked c [] (between (held rows p) i) word) rest)) (turn_named name c (held rows p) idle i word n v refl e)
      ∙ ap (λ w. after (turn_of name c (held rows p) idle i word v (arg_by_long c n)) (outcome name c w rest)) (walk_named name c (held rows p) idle i word n v refl e)
      ∙ go (arg_by_long c n) refl
      ∙ ap (λ tv. option_and_then (settles name c (held rows p) i) (option_uses n v tv (λ o. uses options o rest))) (is.values n)
    where
      go : (found : Option Rule) → arg_by_long c n ≡ found
          → after (turn_of name c (held rows p) idle i word v found) (outcome name c (walk_of c (held rows p) idle i word v found) rest)
          ≡ option_and_then (settles name c (held rows p) i) (option_uses n v (option_map takes_values found) (λ o. uses options o rest))
      go None e = on_option name c options rows p i word n v rest None true e (λ a bad. cc) (λ r q. next.0 r q i) (λ r a bad takes. cc)
      go (Some a) e = on_option name c options rows p i word n v rest (Some a) (takes_values a) e (λ b same. ap (λ o. takes_values (unwrap_or o a)) (sym same))
          (λ r q. next.0 r q i) (λ r b same takes. next.1 r i n b (e ∙ same) takes)
  between_then word rest next rows p i dashed e =
      ap (λ k. after k (outcome name c (walked c [] (between (held rows p) i) word) rest)) (turn_dashed name c options is rows p idle i word refl e)
  between_then word rest next rows p i plain e =
      ap (λ k. after k (outcome name c (walked c [] (between (held rows p) i) word) rest)) (turn_plain name c (held rows p) i word e)
      ∙ ap (λ w. after (option_map_or (λ a. positional_fault c false a (held rows p)) (arg_by_index c i) (kind.UnknownArgument ∷ [])) (outcome name c w rest)) (walk_plain name c (held rows p) i word e)
      ∙ on_operand name c false rows p idle i (arg_by_index c i) word rest (uses options None rest) (is.index i) next.0
      ∙ map_then _ (settles name c (held rows p) i) (operand word) (uses options None rest) (λ us. refl)

  owed_then : (word : Text) (rest : List Text) → Reads name c options rest → (rows : List Row) (i : ℕ) (n : Text) (a : Rule) → arg_by_long c n ≡ Some a → takes_values a ≡ true → (l : Look) → Sees word l
      → after (turn_fault (flat name c) [] (waits (held rows (Some (a.id, []))) a.id i) word) (outcome name c (walked c [] (waits (held rows (Some (a.id, []))) a.id i) word) rest)
      ≡ option_and_then (apply name c rows i) (word_uses options (Some n) l word rest (λ o. uses options o rest))
  unfolding apply
  owed_then word rest next rows i n a found takes ends e =
      let h = held rows (Some (a.id, [])) in
      ap (λ k. after k (outcome name c (walked c [] (waits h a.id i) word) rest)) (turn_ends name c h (option a.id) i word refl e)
      ∙ ap (λ w. outcome name c w rest) (walk_ends name c h (option a.id) i word refl e)
      ∙ trails name c options is rest rows (Some (a.id, [])) (option a.id) i
      ∙ unfilled c a rows (apply name c (settled c h).rows i (map operand rest)) (is.long n a found) (is.one n a found takes)
  owed_then word rest next rows i n a found takes (named m v) e =
      let h = held rows (Some (a.id, [])) in
      let o = outcome name c (walked c [] (waits h a.id i) word) rest in
      ap (λ k. after k o) (turn_named name c h (option a.id) i word m v refl e) ∙ go (arg_by_long c m) o
    where
      go : (f : Option Rule) (o : Option (List Row)) → after (turn_of name c (held rows (Some (a.id, []))) (option a.id) i word v f) o ≡ nothing
      go None o = option_fails name c (held rows (Some (a.id, []))) (option a.id) i word v None kind.InvalidValue [] true o (λ b bad. cc) (unfilled_kinds c a rows (is.long n a found) (is.one n a found takes))
      go (Some b) o = option_fails name c (held rows (Some (a.id, []))) (option a.id) i word v (Some b) kind.InvalidValue [] (takes_values b) o
          (λ x same. ap (λ f. takes_values (unwrap_or f b)) (sym same)) (unfilled_kinds c a rows (is.long n a found) (is.one n a found takes))
  owed_then word rest next rows i n a found takes dashed e =
      ap (λ k. after k (outcome name c (walked c [] (waits (held rows (Some (a.id, []))) a.id i) word) rest)) (turn_dashed name c options is rows (Some (a.id, [])) (option a.id) i word refl e)
  owed_then word rest next rows i n a found takes plain e =
      let h = held rows (Some (a.id, [])) in
      ap (λ k. after k (outcome name c (walked c [] (waits h a.id i) word) rest)) (turn_value name c h a.id i word e)
      ∙ ap (λ w. outcome name c w rest) (walk_value name c rows a i word e (is.long n a found) (is.one n a found takes))
      ∙ next.0 rows (Some (a.id, word ∷ [])) i
      ∙ map_then (settles name c (held rows (Some (a.id, word ∷ []))) i) (apply name c rows i) (valued n word) (uses options None rest) (λ us.
      pending_is name c a rows (word ∷ []) i us (is.long n a found) ∙ sym (ap (λ f. on_rule f (word ∷ []) rows (λ b r. apply name c r i us)) found))

  pub reads : (words : List Text) → All IsUtf8 words → Reads name c options words
  unfolding uses apply
  reads [] all = (
    λ rows p i. outcome_end name c (between (held rows p) i),
    λ rows i n a found takes. outcome_end name c (waits (held rows (Some (a.id, []))) a.id i) ∙ unfilled c a rows (finish name c (settled c (held rows (Some (a.id, [])))).rows) (is.long n a found) (is.one n a found takes),
  )
  reads (word ∷ rest) all = (
    λ rows p i. outcome_next name c (between (held rows p) i) word rest ∙ between_then word rest (reads rest (λ k d lt. all (suc k) d (omega arith))) rows p i (look word) (sees word (all 0 [] (omega arith))),
    λ rows i n a found takes. outcome_next name c (waits (held rows (Some (a.id, []))) a.id i) word rest ∙ owed_then word rest (reads rest (λ k d lt. all (suc k) d (omega arith))) rows i n a found takes (look word) (sees word (all 0 [] (omega arith))),
  )
