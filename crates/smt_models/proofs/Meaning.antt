-- What the definitions of a response mean.
use Rattle.std.proofs.Common.{◌≡◌, ℕ, zero, suc, ◌+◌, ◌<◌, ◌^◌, ℤ, pos, Bool, true, false, List, [], ◌∷◌, ◌++◌, length, map, refl, sym, ap, subst, ◌∙◌, arith, cond, nat_eq}
use Rattle.std.proofs.lemmas.Bool.Decides.{nat_tests}
use Rattle.std.proofs.lemmas.List.{map-append}
use Rattle.std.specs.List.{AllByRecursion, slice_get}
use Rattle.std.specs.Bool.{MatchBool}
use Rattle.model_table.specs.Models.{truth_at, truth_in, value_at, value_in}
use Rattle.model_table.specs.declared.model.FunctionModel.{FunctionModel}
use Rattle.model_table.specs.declared.model.Model.{Model}
use Rattle.model_table.specs.declared.model.PredicateModel.{PredicateModel}
use Rattle.model_table.specs.declared.model.TruthEntry.{TruthEntry}
use Rattle.model_table.specs.declared.model.ValueEntry.{ValueEntry}
use Rattle.pri_typing.specs.declared.problem.Problem.{Problem}
use Rattle.pri_typing.specs.declared.problem.Symbol.{Symbol}
use Rattle.smt_terms.specs.Evaluation.{Symbols, Has, SymbolHas, with_names}
use Rattle.smt_terms.specs.Operators.{Value, integer, truth}
use Rattle.smt_models.specs.Defined.{Definition, HasAt, TakesTruths, TakesValues, parameters}
use Rattle.smt_models.specs.Models.{constant_definition, constant_definitions, definitions, function_definition, function_definitions, predicate_definition, predicate_definitions, truths_definition, values_definition}
use Rattle.smt_models.specs.Terms.{truth_term, truths_term}
use Rattle.smt_models.proofs.Evaluated.{Gives, integer_at, truth_at as truth_gives, truths_at, values_at}
use Rattle.smt_models.proofs.Parameters.{finds, shown}

same_number : (n k : ℕ) → n ≡ k → nat_eq n k ≡ true
same_number n k e = grind (arith, nat_tests)

parameters_many : (k n : ℕ) → length (parameters k n) ≡ n
parameters_many k zero = refl
parameters_many k (suc n) = ap suc (parameters_many (suc k) n)

integers_many : (xs : List ℤ) → length (map integer xs) ≡ length xs
integers_many [] = refl
integers_many (x ∷ xs) = ap suc (integers_many xs)

-- a definition whose body has a value where its parameters have theirs
defined_at : (d : Definition) (xs : List ℤ) (v : Value) → length xs ≡ d.arity → ((S : Symbols) → Gives S (with_names (parameters 0 (length xs)) (map integer xs) []) d.body v) → HasAt d (map integer xs) v
defined_at d xs v len g = λ w u gs.
    let S : Symbols = SymbolHas w u gs in
    let there : Has S (with_names (parameters 0 (length xs)) (map integer xs) []) d.body (λ x. x ≡ v) = subst (λ (X : Type 0). X) (sym ((g S).at (λ x. x ≡ v))) refl in
    let here : Has S (with_names (parameters 0 d.arity) (map integer xs) []) d.body (λ x. x ≡ v) = subst (λ n. Has S (with_names (parameters 0 n) (map integer xs) []) d.body (λ x. x ≡ v)) len there in
    subst (λ b. MatchBool b (Has S (with_names (parameters 0 d.arity) (map integer xs) []) d.body (λ x. x ≡ v)) (truth false ≡ v))
    (sym (same_number (length (map integer xs)) (length (parameters 0 d.arity)) (integers_many xs ∙ len ∙ sym (parameters_many 0 d.arity)))) here

pub constant_means : (x : List ℕ) (v : ℤ) → HasAt (constant_definition x v) [] (integer v)
constant_means x v = defined_at (constant_definition x v) [] (integer v) refl (λ S. integer_at S [] (shown 0 []) v)

rows_fit : {R : Type 0} (at : R → List ℤ) (rows : List R) (n k : ℕ) → n ≡ k → AllByRecursion (λ r. length (at r) ≡ n) rows → AllByRecursion (λ r. length (at r) ≡ k) rows
rows_fit at rows n k e h = subst (λ z. AllByRecursion (λ r. length (at r) ≡ z) rows) e h

values_mean : (y : Symbol) (rows : List ValueEntry) (d : ℤ) (xs : List ℤ) → AllByRecursion (λ r. length r.at ≡ y.arity) rows → length xs ≡ y.arity → y.arity < 2 ^ 32
    → HasAt (values_definition y rows d) (map integer xs) (integer (value_in rows d xs))
values_mean y rows d xs fit len small =
    let few : 0 + length xs < 2 ^ 64 = omega (arith, len, small) in
    defined_at (values_definition y rows d) xs (integer (value_in rows d xs)) len
    (λ S. values_at S (with_names (parameters 0 (length xs)) (map integer xs) []) (shown 0 xs) rows d xs (rows_fit (λ r. r.at) rows y.arity (length xs) (sym len) fit) (finds 0 xs [] few))

pub function_means : (y : Symbol) (ts : List FunctionModel) (f : ℕ) (xs : List ℤ) → TakesValues y (slice_get ts f) → length xs ≡ y.arity → y.arity < 2 ^ 32
    → HasAt (function_definition y (slice_get ts f)) (map integer xs) (integer (value_at ts f xs))
function_means y [] f xs fit len small = values_mean y [] (pos 0) xs tt len small
function_means y (t ∷ ts) zero xs fit len small = values_mean y t.rows t.default xs fit len small
function_means y (t ∷ ts) (suc f) xs fit len small = function_means y ts f xs fit len small

none_of : (xs : List ℤ) → length xs ≡ 0 → xs ≡ []
none_of [] e = refl
none_of (x ∷ xs) e = absurd (omega (arith, e))

truths_mean : (y : Symbol) (rows : List TruthEntry) (d : Bool) (xs : List ℤ) → AllByRecursion (λ r. length r.at ≡ y.arity) rows → length xs ≡ y.arity → y.arity < 2 ^ 32
    → HasAt (truths_definition y rows d) (map integer xs) (truth (truth_in rows d xs))
truths_mean y rows d xs fit len small =
    defined_at (truths_definition y rows d) xs (truth (truth_in rows d xs)) len (λ S. by S (nat_eq y.arity 0) refl)
  where
    by : (S : Symbols) (b : Bool) → nat_eq y.arity 0 ≡ b → Gives S (with_names (parameters 0 (length xs)) (map integer xs) []) (cond b (truth_term (truth_in rows d [])) (truths_term rows d)) (truth (truth_in rows d xs))
    by S true e =
        let none : xs ≡ [] = none_of xs (len ∙ (let z : y.arity ≡ 0 = grind (arith, nat_tests, e) in z)) in
        subst (λ z. Gives S (with_names (parameters 0 (length xs)) (map integer xs) []) (truth_term (truth_in rows d [])) (truth (truth_in rows d z))) (sym none)
        (truth_gives S (with_names (parameters 0 (length xs)) (map integer xs) []) (shown 0 xs) (truth_in rows d []))
    by S false e =
        let few : 0 + length xs < 2 ^ 64 = omega (arith, len, small) in
        truths_at S (with_names (parameters 0 (length xs)) (map integer xs) []) (shown 0 xs) rows d xs (rows_fit (λ r. r.at) rows y.arity (length xs) (sym len) fit) (finds 0 xs [] few)

pub predicate_means : (y : Symbol) (ts : List PredicateModel) (q : ℕ) (xs : List ℤ) → TakesTruths y (slice_get ts q) → length xs ≡ y.arity → y.arity < 2 ^ 32
    → HasAt (predicate_definition y (slice_get ts q)) (map integer xs) (truth (truth_at ts q xs))
predicate_means y [] q xs fit len small = truths_mean y [] false xs tt len small
predicate_means y (t ∷ ts) zero xs fit len small = truths_mean y t.rows t.default xs fit len small
predicate_means y (t ∷ ts) (suc q) xs fit len small = predicate_means y ts q xs fit len small

-- The names of the definitions.

constant_names : (xs : List (List ℕ)) (vs : List ℤ) → length vs ≡ length xs → map (λ (d : Definition). d.name) (constant_definitions xs vs) ≡ xs
constant_names [] [] len = refl
constant_names [] (v ∷ vs) len = refl
constant_names (x ∷ xs) [] len = absurd (omega (arith, len))
constant_names (x ∷ xs) (v ∷ vs) len = ap (λ z. x ∷ z) (constant_names xs vs (omega (arith, len)))

function_names : (ys : List Symbol) (ts : List FunctionModel) → map (λ (d : Definition). d.name) (function_definitions ys ts) ≡ map (λ y. y.name) ys
function_names [] ts = refl
function_names (y ∷ ys) [] = ap (λ z. y.name ∷ z) (function_names ys [])
function_names (y ∷ ys) (t ∷ ts) = ap (λ z. y.name ∷ z) (function_names ys ts)

predicate_names : (ys : List Symbol) (ts : List PredicateModel) → map (λ (d : Definition). d.name) (predicate_definitions ys ts) ≡ map (λ y. y.name) ys
predicate_names [] ts = refl
predicate_names (y ∷ ys) [] = ap (λ z. y.name ∷ z) (predicate_names ys [])
predicate_names (y ∷ ys) (t ∷ ts) = ap (λ z. y.name ∷ z) (predicate_names ys ts)

pub names_are : (p : Problem) (m : Model) (us : List ℤ) → length us ≡ length p.universals
    → map (λ (d : Definition). d.name) (definitions p m us) ≡ p.universals ++ (map (λ y. y.name) p.functions ++ map (λ y. y.name) p.predicates)
names_are p m us len =
    let name : Definition → List ℕ = λ d. d.name in
    let cs = constant_definitions p.universals us in
    let fs = function_definitions p.functions m.functions in
    let qs = predicate_definitions p.predicates m.predicates in
    map-append name cs (fs ++ qs) ∙ ap (λ z. z ++ map name (fs ++ qs)) (constant_names p.universals us len)
    ∙ ap (λ z. p.universals ++ z) (map-append name fs qs ∙ ap (λ z. z ++ map name qs) (function_names p.functions m.functions) ∙ ap (λ z. map (λ (y : Symbol). y.name) p.functions ++ z) (predicate_names p.predicates m.predicates))
