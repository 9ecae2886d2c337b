-- What the tests tell.
use Rattle.std.proofs.Common.{◌≡◌, ◌≤ℤ◌, ℕ, ℤ, pos, Bool, true, false, ◌&&◌, nat_eq, List, [], ◌∷◌, length, map, refl, ap, arith}
use Rattle.std.specs.Prelude.{int_le}
use Rattle.std.specs.Bool.{Decides}
use Rattle.std.specs.Cmp.{int_cmp_total}
use Rattle.std.specs.Cmp.Lexicographic.{slice_cmp, lists_total}
use Rattle.std.specs.List.{AllByRecursion}
use Rattle.std.specs.List.Sorted.{IsStrictlySortedBy}
use Rattle.std.specs.Ordering.{int_cmp, is_lt}
use Rattle.std.specs.declared.cmp.Ordering.{Ordering}
use Rattle.std.specs.declared.cmp.Ordering.TheVariants.{Less, Equal, Greater}
use Rattle.std.proofs.lemmas.Bool.Decides.{Decides-eqb}
use Rattle.std.proofs.lemmas.Int.{ints}
use Rattle.form_typed.specs.declared.typed.Sort.{Sort}
use Rattle.form_typed.specs.declared.typed.Sort.TheVariants.{Int, Nat, Range}
use Rattle.form_typed.specs.Sorts.{AreValuesOf, IsValueOf}
use Rattle.model_refuting.specs.Refuting.{AreArguments, AreArgumentsOf, FitsSymbols, function_places, predicate_places}
use Rattle.model_refuting.specs.Tests.{is_value, are_values, have_arguments, are_rising, are_arguments, all_fit, is_candidate}
use Rattle.model_table.specs.declared.model.Model.{Model}
use Rattle.pri_typing.specs.declared.problem.Problem.{Problem}
use Rattle.pri_typing.specs.declared.problem.Symbol.{Symbol}

never : (A : Type 0) → false ≡ true → A
never A e = absurd (let bad : false ≡ true = e in cc)

-- two tests, one after the other
pub both : (a b : Bool) (P Q : Type 0) → Decides a P → Decides b Q → Decides (a && b) (P × Q)
both true b P Q d e = (λ h. (d.0 refl, e.0 h), λ h. e.1 h.1)
both false b P Q d e = (λ h. never (P × Q) h, λ h. d.1 h.0)

le_test : (a b : ℤ) → int_le a b ≡ true → a ≤ℤ b
le_test a b h = grind (arith, ints)

le_back : (a b : ℤ) → a ≤ℤ b → int_le a b ≡ true
le_back a b h = grind (arith, ints)

int_decides : (a b : ℤ) → Decides (int_le a b) (a ≤ℤ b)
int_decides a b = (le_test a b, le_back a b)

nat_decides : (a b : ℕ) → Decides (nat_eq a b) (a ≡ b)
nat_decides a b = Decides-eqb a b

value_decides : (s : Sort) (v : ℤ) → Decides (is_value s v) (IsValueOf s v)
value_decides Int v = (λ h. tt, λ h. refl)
value_decides Nat v = int_decides (pos 0) v
value_decides (Range a b) v = both (int_le a v) (int_le v b) (a ≤ℤ v) (v ≤ℤ b) (int_decides a v) (int_decides v b)

pub values_decide : (ss : List Sort) (vs : List ℤ) → Decides (are_values ss vs) (AreValuesOf ss vs)
values_decide [] [] = (λ h. tt, λ h. refl)
values_decide [] (v ∷ vs) = (λ h. never ⊥ h, λ h. absurd h)
values_decide (s ∷ ss) [] = (λ h. never ⊥ h, λ h. absurd h)
values_decide (s ∷ ss) (v ∷ vs) = both (is_value s v) (are_values ss vs) (IsValueOf s v) (AreValuesOf ss vs) (value_decides s v) (values_decide ss vs)

-- ---- lists of arguments

have_decide : (n : ℕ) (places : List (List ℤ)) → Decides (have_arguments n places) (AllByRecursion (λ xs. length xs ≡ n) places)
have_decide n [] = (λ h. tt, λ h. refl)
have_decide n (xs ∷ more) = both (nat_eq (length xs) n) (have_arguments n more) (length xs ≡ n) (AllByRecursion (λ ys. length ys ≡ n) more) (nat_decides (length xs) n) (have_decide n more)

less_decides : (o : Ordering) → Decides (is_lt o) (o ≡ Less)
less_decides Less = (λ h. refl, λ h. refl)
less_decides Equal = (λ h. never (Equal ≡ Less) h, λ h. ap is_lt h)
less_decides Greater = (λ h. never (Greater ≡ Less) h, λ h. ap is_lt h)

abbrev cmp : List ℤ → List ℤ → Ordering
cmp = slice_cmp int_cmp

below_more : (xs ys : List ℤ) (rest : List (List ℤ)) → cmp xs ys ≡ Less → AllByRecursion (λ zs. cmp ys zs ≡ Less) rest → AllByRecursion (λ zs. cmp xs zs ≡ Less) rest
below_more xs ys [] less h = tt
below_more xs ys (zs ∷ rest) less h = ((lists_total int_cmp_total).trans xs ys zs less h.0, below_more xs ys rest less h.1)

rising_decide : (places : List (List ℤ)) → Decides (are_rising places) (IsStrictlySortedBy (slice_cmp int_cmp) places)
unfolding IsStrictlySortedBy
rising_decide [] = (λ h. tt, λ h. refl)
rising_decide (xs ∷ []) = (λ h. (tt, tt), λ h. refl)
rising_decide (xs ∷ ys ∷ rest) =
    let rest_so = rising_decide (ys ∷ rest) in
    let pair = both (is_lt (cmp xs ys)) (are_rising (ys ∷ rest)) (cmp xs ys ≡ Less) (IsStrictlySortedBy (slice_cmp int_cmp) (ys ∷ rest)) (less_decides (cmp xs ys)) rest_so in
    (λ h. let k = pair.0 h in ((k.0, below_more xs ys rest k.0 k.1.0), k.1), λ h. pair.1 (h.0.0, h.1))

arguments_decide : (n : ℕ) (places : List (List ℤ)) → Decides (are_arguments n places) (AreArguments n places)
arguments_decide n places =
    let pair = both (have_arguments n places) (are_rising places) (AllByRecursion (λ xs. length xs ≡ n) places) (IsStrictlySortedBy (slice_cmp int_cmp) places) (have_decide n places) (rising_decide places) in
    (λ h. let k = pair.0 h in record { many = k.0; sorted = k.1 }, λ h. pair.1 (h.many, h.sorted))

fit_decides : (symbols : List Symbol) (tables : List (List (List ℤ))) → Decides (all_fit symbols tables) (AreArgumentsOf symbols tables)
fit_decides [] [] = (λ h. tt, λ h. refl)
fit_decides (y ∷ symbols) [] = (λ h. tt, λ h. refl)
fit_decides [] (places ∷ more) = (λ h. never ⊥ h, λ h. absurd h)
fit_decides (y ∷ symbols) (places ∷ more) =
    both (are_arguments y.arity places) (all_fit symbols more) (AreArguments y.arity places) (AreArgumentsOf symbols more) (arguments_decide y.arity places) (fit_decides symbols more)

-- ---- the whole

-- a counterexample to a problem without existential constants, but for the truth of the formula
pub record IsCandidate (p : Problem) (m : Model) (us : List ℤ) : Type 0 where
  pub none : length p.existentials ≡ 0
  pub fit : length us ≡ length p.universals
  pub typed : AreValuesOf p.universal_types us
  pub symbols : FitsSymbols p m

pub candidate_decides : (p : Problem) (m : Model) (us : List ℤ) → Decides (is_candidate p m us) (IsCandidate p m us)
candidate_decides p m us =
    let fs = map function_places m.functions in let ps = map predicate_places m.predicates in
    let d : Decides (is_candidate p m us) _ = both _ _ _ _ (nat_decides (length p.existentials) 0) (both _ _ _ _ (nat_decides (length us) (length p.universals))
    (both _ _ _ _ (values_decide p.universal_types us) (both _ _ _ _ (fit_decides p.functions fs) (fit_decides p.predicates ps)))) in (
      λ h. let k = d.0 h in record { none = k.0; fit = k.1.0; typed = k.1.1.0; symbols = record { functions = k.1.1.1.0; predicates = k.1.1.1.1 } },
      λ h. d.1 (h.none, (h.fit, (h.typed, (h.symbols.functions, h.symbols.predicates)))),
    )
