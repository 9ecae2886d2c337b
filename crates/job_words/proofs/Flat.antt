-- A command with operands and options is one over which clap's walk is known.
use Rattle.std.proofs.Common.{◌≡◌, ◌≢◌, ◌∙◌, ◌==◌, ◌&&◌, ◌||◌, ℕ, Bool, cond, true, false, not, List, [], ◌∷◌, map, Option, Some, None, suc, refl, sym, ap, subst, unwrap_or}
use Rattle.std.specs.Prelude.{option_map, find, is_some}
use Rattle.std.specs.Option.{option_map_or}
use Rattle.std.specs.Str.{bytes_eq}
use Rattle.clap.specs.Walk.{Rule, arg_by_id, arg_by_long, arg_by_short, has_long, takes_values}
use Rattle.job_words.specs.Uses.{Text, Options, takes_value}
use Rattle.job_words.proofs.Pairs.{count, distinct, itself, and_both, none_counted, same_id}
use Rattle.job_words.proofs.Rules.{operand_arg, option_arg, rules_from}
use Rattle.job_words.proofs.Walks.{IsOne, IsFlat}

-- what an argument of such a command can be
pub data IsArg : Rule → Type 0 where
  an_operand : (i : ℕ) (id : Text) → IsArg (operand_arg i id)
  an_option : (name : Text) → IsArg (option_arg (name, true))
  a_flag : (name : Text) → IsArg (option_arg (name, false))

option_is : (o : Text × Bool) → IsArg (option_arg o)
option_is o = subst (λ (x : Text × Bool). IsArg (option_arg x)) refl (go o.1)
  where
    go : (b : Bool) → IsArg (option_arg (o.0, b))
    go true = an_option o.0
    go false = a_flag o.0

-- what is found is an argument, and passes the test
record Found (test : Rule → Bool) (a : Rule) : Type 0 where
  is : IsArg a
  passes : test a ≡ true

here_or : (test : Rule → Bool) (x a : Rule) (rest : Option Rule) (t : Bool) → test x ≡ t → IsArg x → (rest ≡ Some a → Found test a) → cond t (Some x) rest ≡ Some a → Found test a
here_or test x a rest true e is next same = subst (Found test) (ap (λ o. unwrap_or o x) same) (record { is = is; passes = e })
here_or test x a rest false e is next same = next same

found_option : (test : Rule → Bool) (options : Options) (a : Rule) → find test (map option_arg options) ≡ Some a → Found test a
found_option test [] a e = cc
found_option test (o ∷ options) a e = here_or test (option_arg o) a (find test (map option_arg options)) (test (option_arg o)) refl (option_is o) (found_option test options a) e

found_arg : (test : Rule → Bool) (i : ℕ) (ids : List Text) (options : Options) (a : Rule) → find test (rules_from i ids options) ≡ Some a → Found test a
found_arg test i [] options a e = found_option test options a e
found_arg test i (id ∷ ids) options a e =
    here_or test (operand_arg i id) a (find test (rules_from (suc i) ids options)) (test (operand_arg i id)) refl (an_operand i id) (found_arg test (suc i) ids options a) e

-- ---- an argument is found by its id

abbrev pub ids_of : List Rule → List Text
ids_of c = map (λ a. a.id) c

-- an argument that is there is counted
counted : (test : Rule → Bool) (c : List Rule) (a : Rule) → find test c ≡ Some a → count a.id (ids_of c) ≢ 0
counted test [] a e = λ z. cc
counted test (x ∷ c) a e = go (test x) (bytes_eq x.id a.id) refl e (counted test c a)
  where
    go : (t u : Bool) → bytes_eq x.id a.id ≡ u → cond t (Some x) (find test c) ≡ Some a → (find test c ≡ Some a → count a.id (ids_of c) ≢ 0)
        → (cond u (suc (count a.id (ids_of c))) (count a.id (ids_of c))) ≢ 0
    go t true e same next = λ z. cc
    go true false e same next = λ z.
        let is : x.id ≡ a.id = ap (λ o. (unwrap_or o x).id) same in
        let bad : true ≡ false = sym (itself a.id) ∙ ap (λ y. bytes_eq y a.id) (sym is) ∙ e in cc
    go false false e same next = next same

by_id : (test : Rule → Bool) (c : List Rule) (a : Rule) → distinct (ids_of c) ≡ true → find test c ≡ Some a → arg_by_id c a.id ≡ Some a
by_id test [] a is e = cc
by_id test (x ∷ c) a is e =
    let both = and_both (count x.id (ids_of c) == 0) (distinct (ids_of c)) is in
    go (test x) e (none_counted (count x.id (ids_of c)) both.0) (by_id test c a both.1)
  where
    rest : (u : Bool) → bytes_eq x.id a.id ≡ u → count x.id (ids_of c) ≡ 0 → find test c ≡ Some a → arg_by_id c a.id ≡ Some a → cond u (Some x) (arg_by_id c a.id) ≡ Some a
    rest true e none same next = absurd (counted test c a same (ap (λ y. count y (ids_of c)) (sym (same_id x.id a.id e)) ∙ none))
    rest false e none same next = next

    go : (t : Bool) → cond t (Some x) (find test c) ≡ Some a → count x.id (ids_of c) ≡ 0 → (find test c ≡ Some a → arg_by_id c a.id ≡ Some a) → arg_by_id (x ∷ c) a.id ≡ Some a
    go true same none next =
        let is : x ≡ a = ap (λ o. unwrap_or o x) same in subst (λ y. arg_by_id (x ∷ c) y.id ≡ Some y) is (rw (itself x.id) refl)
    go false same none next = rest (bytes_eq x.id a.id) refl none same (next same)

-- ---- the options by their names

-- whether each takes a value
values : (n : Text) (i : ℕ) (ids : List Text) (options : Options) → option_map takes_values (arg_by_long (rules_from i ids options) n) ≡ takes_value options n
values n i [] [] = refl
values n i [] (o ∷ options) = go o.0 o.1 (values n i [] options)
  where
    go : (m : Text) (b : Bool) → option_map takes_values (arg_by_long (map option_arg options) n) ≡ takes_value options n
        → option_map takes_values (arg_by_long (option_arg (m, b) ∷ map option_arg options) n) ≡ takes_value ((m, b) ∷ options) n
    go m true next = at (bytes_eq m n)
      where
        at : (t : Bool) → option_map takes_values (cond (t || false) (Some (option_arg (m, true))) (arg_by_long (map option_arg options) n)) ≡ option_map (λ (o : Text × Bool). o.1) (cond t (Some (m, true)) (find (λ o. bytes_eq o.0 n) options))
        at true = refl
        at false = next
    go m false next = at (bytes_eq m n)
      where
        at : (t : Bool) → option_map takes_values (cond (t || false) (Some (option_arg (m, false))) (arg_by_long (map option_arg options) n)) ≡ option_map (λ (o : Text × Bool). o.1) (cond t (Some (m, false)) (find (λ o. bytes_eq o.0 n) options))
        at true = refl
        at false = next
values n i (id ∷ ids) options = values n (suc i) ids options

pub by_name : (n : Text) (b : Bool) (i : ℕ) (ids : List Text) (options : Options) → takes_value options n ≡ Some b → arg_by_long (rules_from i ids options) n ≡ Some (option_arg (n, b))
by_name n b i [] [] e = cc
by_name n b i [] (o ∷ options) e = go (bytes_eq o.0 n) refl e (by_name n b i [] options)
  where
    go : (t : Bool) → bytes_eq o.0 n ≡ t → option_map (λ (x : Text × Bool). x.1) (cond t (Some o) (find (λ x. bytes_eq x.0 n) options)) ≡ Some b
        → (takes_value options n ≡ Some b → arg_by_long (map option_arg options) n ≡ Some (option_arg (n, b)))
        → cond (t || false) (Some (option_arg o)) (arg_by_long (map option_arg options) n) ≡ Some (option_arg (n, b))
    go true is e next =
        let name : o.0 ≡ n = same_id o.0 n is in
        let takes : o.1 ≡ b = ap (λ x. unwrap_or x b) e in λ i. Some (option_arg (name i, takes i))
    go false is e next = next e
by_name n b i (id ∷ ids) options e = by_name n b (suc i) ids options e

no_short : (x i : ℕ) (ids : List Text) (options : Options) → arg_by_short (rules_from i ids options) x ≡ None
no_short x i [] [] = refl
no_short x i [] (o ∷ options) = no_short x i [] options
no_short x i (id ∷ ids) options = no_short x (suc i) ids options

-- ---- one value each

pub operand_one : (i : ℕ) (id : Text) → IsOne (operand_arg i id)
operand_one i id = record { most = refl; least = refl; several = refl; multiple = refl; trailing = refl }

option_one : (name : Text) → IsOne (option_arg (name, true))
option_one name = record { most = refl; least = refl; several = refl; multiple = refl; trailing = refl }

index_one : (i : ℕ) (a : Rule) → IsArg a → option_map_or (λ k. k == i) a.index false ≡ true → IsOne a
index_one i a (an_operand k id) e = operand_one k id
index_one i a (an_option name) e = cc
index_one i a (a_flag name) e = cc

long_one : (n : Text) (a : Rule) → IsArg a → (not (is_some a.index) && has_long a n) ≡ true → takes_values a ≡ true → IsOne a
long_one n a (an_operand k id) e takes = cc
long_one n a (an_option name) e takes = option_one name
long_one n a (a_flag name) e takes = cc

pub is_flat : (ids : List Text) (options : Options) → distinct (ids_of (rules_from 1 ids options)) ≡ true → IsFlat (rules_from 1 ids options) options
is_flat ids options is = record {
  index = λ i a e.
      let f = found_arg (λ x. option_map_or (λ k. k == i) x.index false) 1 ids options a e in
      (index_one i a f.is f.passes, by_id (λ x. option_map_or (λ k. k == i) x.index false) (rules_from 1 ids options) a is e);
  long = λ n a e. by_id (λ x. not (is_some x.index) && has_long x n) (rules_from 1 ids options) a is e;
  one = λ n a e takes.
      let f = found_arg (λ x. not (is_some x.index) && has_long x n) 1 ids options a e in long_one n a f.is f.passes takes;
  values = λ n. values n 1 ids options;
  short = λ x. no_short x 1 ids options;
}
