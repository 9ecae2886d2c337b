-- What a command of the program finds in its line, by the ids of its operands and options.
use Rattle.std.proofs.Common.{◌≡◌, ◌≢◌, ◌≤◌, ◌<◌, ◌∙◌, ℕ, Bool, cond, true, false, List, [], ◌∷◌, map, Some, suc, zero, length, refl, sym, ap, subst, unwrap_or, arith, if◌then◌else◌}
use Rattle.std.specs.Prelude.{string_bytes, String, find, option_map}
use Rattle.std.specs.List.{slice_index_or}
use Rattle.std.specs.Str.{IsUtf8, bytes_eq}
use Rattle.std.proofs.lemmas.Str.{IsUtf8-string_bytes}
use Rattle.clap.specs.Walk.{rows_of}
use Rattle.clap.specs.Matches.{first_value, one_text}
use Rattle.clap.specs.Simple.{App, matches_of}
use Rattle.clap.specs.Faults.{fault_of}
use Rattle.clap.specs.declared.parser.matches.Found.{Found}
use Rattle.clap.proofs.WalkLemmas.{first_value-rows, one_text-rows}
use Rattle.job_words.specs.Uses.{Text, Use, Options, Spells, operands, values_of, times, takes_value, listed, tally}
use Rattle.job_words.proofs.Pairs.{same_id}
use Rattle.job_words.proofs.Accepted.{Accepts, IsCommand, accepts, flag_text, refuses, well_named}
use Rattle.job_words.proofs.Spelt.{read_from}

-- the line spells uses that are shown as found: a word for each operand, the value of each option, and each flag
pub record Finds (ids : List Text) (options : Options) (line : List Text) (f : Found) : Type 0 where
  pub us : List Use
  pub spells : Spells options line us
  pub operands_are : map Some (operands us) ≡ map (first_value f) ids
  pub values_are : (name : Text) → takes_value options name ≡ Some true → values_of name us ≡ listed (first_value f name)
  pub flags_are : (name : Text) → takes_value options name ≡ Some false → (b : Bool) × (times name us ≡ tally b) × (one_text f name ≡ Some (flag_text b))

-- each option once at most, one after another
abbrev pub OnceEach : Options → List Use → Type 0
OnceEach [] us = Unit {0}
OnceEach (o ∷ options) us = (if o.1 then length (values_of o.0 us) else times o.0 us) ≤ 1 × OnceEach options us

-- the words of a program are text
words_text : {Z : Type 0} (words : List (String Z)) (k : ℕ) (d : Text) → k < length (map string_bytes words) → IsUtf8 (slice_index_or (map string_bytes words) k d)
words_text [] k d lt = absurd (omega arith)
words_text (w ∷ ws) zero d lt = IsUtf8-string_bytes w
words_text (w ∷ ws) (suc k) d lt = words_text ws k d (omega arith)

once_of : (b : Bool) (options : Options) (us : List Use) → OnceEach options us → (name : Text) → takes_value options name ≡ Some b → (if b then length (values_of name us) else times name us) ≤ 1
once_of b [] us each name is = cc
once_of b (o ∷ options) us each name is = go (bytes_eq o.0 name) refl is (once_of b options us each.1 name)
  where
    go : (t : Bool) → bytes_eq o.0 name ≡ t → option_map (λ (x : Text × Bool). x.1) (cond t (Some o) (find (λ x. bytes_eq x.0 name) options)) ≡ Some b
        → (takes_value options name ≡ Some b → (if b then length (values_of name us) else times name us) ≤ 1) → (if b then length (values_of name us) else times name us) ≤ 1
    go true same is next =
        let takes : o.1 ≡ b = ap (λ x. unwrap_or x b) is in
        subst (λ (x : Bool). (if x then length (values_of name us) else times name us) ≤ 1) takes
        (subst (λ n. (if o.1 then length (values_of n us) else times n us) ≤ 1) (same_id o.0 name same) each.0)
    go false same is next = next is

-- a line spells one list of uses
pub same_uses : (app : App) (name : Text) (ids : List Text) (options : Options) → IsCommand app name ids options → (line : List Text) (a b : List Use) → Spells options line a → Spells options line b → a ≡ b
same_uses app name ids options is line a b x y =
    ap (λ o. unwrap_or o []) (sym (read_from options (well_named options is.named) line a x) ∙ read_from options (well_named options is.named) line b y)

-- what is found where the command takes the words
pub finds : {Z : Type 0} (app : App) (name : Text) (ids : List Text) (options : Options) → IsCommand app name ids options → (a : App) → a ≡ app → (words : List (String Z)) (f : Found)
    → (fault_of a (map string_bytes words) ≡ []) × (rows_of f ≡ matches_of a (map string_bytes words)) → Finds ids options (map string_bytes words) f
finds app name ids options is a same words f passed = record {
  us = found.us;
  spells = found.spells;
  operands_are = found.operands_are ∙ (λ i. map (λ id. sym (first_value-rows f id) i) ids);
  values_are = λ n takes. found.values_are n takes ∙ ap listed (sym (first_value-rows f n));
  flags_are = λ n takes.
      let flag = found.flags_are n takes in (flag.0, flag.1, one_text-rows f n ∙ flag.2);
}
  where
    line : List Text
    line = map string_bytes words

    found : Accepts ids options line (rows_of f)
    found = subst (Accepts ids options line) (sym (passed.1 ∙ ap (λ x. matches_of x line) same))
        (accepts app name ids options is line (words_text words) (ap (λ x. fault_of x line) (sym same) ∙ passed.0))

-- where it refuses them, they spell no uses that have the command's form
pub refused : {Z : Type 0} (app : App) (name : Text) (ids : List Text) (options : Options) → IsCommand app name ids options → (a : App) → a ≡ app → (words : List (String Z))
    → fault_of a (map string_bytes words) ≢ [] → (us : List Use) → Spells options (map string_bytes words) us → length (operands us) ≡ length ids → OnceEach options us → ⊥
refused app name ids options is a same words fails us spells full each =
    refuses app name ids options is (map string_bytes words) (words_text words) (λ none. fails (ap (λ x. fault_of x (map string_bytes words)) same ∙ none)) us spells (record {
      full = full;
      once = λ n takes. once_of true options us each n takes;
      raised_once = λ n takes. once_of false options us each n takes;
    })
