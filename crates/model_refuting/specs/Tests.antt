-- Tests of what a counterexample has to be, but for the truth of its formula.
use Rattle.std.specs.Prelude.{ℕ, ℤ, pos, Bool, true, false, ◌&&◌, nat_eq, int_le, List, [], ◌∷◌, length, map}
use Rattle.std.specs.Cmp.Lexicographic.{slice_cmp}
use Rattle.std.specs.Ordering.{int_cmp, is_lt}
use Rattle.form_typed.specs.declared.typed.Sort.{Sort}
use Rattle.form_typed.specs.declared.typed.Sort.TheVariants.{Int, Nat, Range}
use Rattle.model_refuting.specs.Refuting.{function_places, predicate_places}
use Rattle.model_table.specs.declared.model.Model.{Model}
use Rattle.pri_typing.specs.declared.problem.Problem.{Problem}
use Rattle.pri_typing.specs.declared.problem.Symbol.{Symbol}

-- v is a value of the type
abbrev pub is_value : Sort → ℤ → Bool
is_value Int v = true
is_value Nat v = int_le (pos 0) v
is_value (Range a b) v = int_le a v && int_le v b

-- each integer is a value of the type at its place, and there are as many
abbrev pub are_values : List Sort → List ℤ → Bool
are_values [] [] = true
are_values (s ∷ ss) (v ∷ vs) = is_value s v && are_values ss vs
are_values _ _ = false

-- each list has n arguments
abbrev pub have_arguments : ℕ → List (List ℤ) → Bool
have_arguments n [] = true
have_arguments n (xs ∷ more) = nat_eq (length xs) n && have_arguments n more

-- each list is before the next one
abbrev pub are_rising : List (List ℤ) → Bool
are_rising [] = true
are_rising (xs ∷ []) = true
are_rising (xs ∷ ys ∷ more) = is_lt (slice_cmp int_cmp xs ys) && are_rising (ys ∷ more)

abbrev pub are_arguments : ℕ → List (List ℤ) → Bool
are_arguments n places = have_arguments n places && are_rising places

-- each has lists of arguments for the symbol at its place, and there are no more than symbols
abbrev pub all_fit : List Symbol → List (List (List ℤ)) → Bool
all_fit symbols [] = true
all_fit [] (places ∷ more) = false
all_fit (y ∷ symbols) (places ∷ more) = are_arguments y.arity places && all_fit symbols more

abbrev pub is_candidate : Problem → Model → List ℤ → Bool
is_candidate p m us =
    nat_eq (length p.existentials) 0 && (nat_eq (length us) (length p.universals) && (are_values p.universal_types us
    && (all_fit p.functions (map function_places m.functions) && all_fit p.predicates (map predicate_places m.predicates))))
