-- Definitions one after another.
use Rattle.std.proofs.Common.{◌≡◌, ℕ, zero, suc, ◌+◌, ◌-◌, ◌<◌, List, [], ◌∷◌, ◌++◌, length, drop, get_or, refl, sym, ap, ◌∙◌, append_assoc, arith}
use Rattle.std.specs.Prelude.{codes}
use Rattle.std.specs.List.{flat_map, slice_get}
use Rattle.std.proofs.lemmas.List.{drop_more}
use Rattle.model_table.specs.declared.model.FunctionModel.{FunctionModel}
use Rattle.model_table.specs.declared.model.PredicateModel.{PredicateModel}
use Rattle.pri_typing.specs.declared.problem.Symbol.{Symbol}
use Rattle.smt_models.specs.Defined.{Definition}
use Rattle.smt_models.specs.Printed.{text}
use Rattle.smt_models.specs.Models.{definition_text, head_text, function_definition, function_definitions, parameter_text, parameters_text, predicate_definition, predicate_definitions}

-- one piece of what is left
one_piece : (out mid piece rest left done : List ℕ) → mid ≡ out ++ piece → left ≡ piece ++ rest → out ++ left ≡ done → mid ++ rest ≡ done
one_piece out mid piece rest left done m l h = ap (λ z. z ++ rest) m ∙ append_assoc out piece rest ∙ ap (λ z. out ++ z) (sym l) ∙ h

pub parameters_step : (out mid done : List ℕ) (n k : ℕ) → k < n → mid ≡ out ++ parameter_text k → out ++ parameters_text k (n - k) ≡ done → mid ++ parameters_text (k + 1) (n - (k + 1)) ≡ done
parameters_step out mid done n k lt m h =
    let one : n - k ≡ suc (n - (k + 1)) = omega (arith, lt) in
    let next : suc k ≡ k + 1 = omega arith in
    one_piece out mid (parameter_text k) (parameters_text (k + 1) (n - (k + 1))) (parameters_text k (n - k)) done m
    (ap (parameters_text k) one ∙ ap (λ z. parameter_text k ++ parameters_text z (n - (k + 1))) next) h

-- the first symbol, with the table at its place
functions_split : (y : Symbol) (ys : List Symbol) (ts : List FunctionModel) (i : ℕ)
    → function_definitions (y ∷ ys) (drop i ts) ≡ function_definition y (slice_get ts i) ∷ function_definitions ys (drop (suc i) ts)
functions_split y ys [] zero = refl
functions_split y ys [] (suc i) = refl
functions_split y ys (t ∷ ts) zero = refl
functions_split y ys (t ∷ ts) (suc i) = functions_split y ys ts i

predicates_split : (y : Symbol) (ys : List Symbol) (ts : List PredicateModel) (i : ℕ)
    → predicate_definitions (y ∷ ys) (drop i ts) ≡ predicate_definition y (slice_get ts i) ∷ predicate_definitions ys (drop (suc i) ts)
predicates_split y ys [] zero = refl
predicates_split y ys [] (suc i) = refl
predicates_split y ys (t ∷ ts) zero = refl
predicates_split y ys (t ∷ ts) (suc i) = predicates_split y ys ts i

pub functions_step : (out mid done : List ℕ) (ys : List Symbol) (ts : List FunctionModel) (i : ℕ) (y : Symbol) → i < length ys → get_or ys i y ≡ y → mid ≡ out ++ definition_text (function_definition y (slice_get ts i))
    → out ++ flat_map definition_text (function_definitions (drop i ys) (drop i ts)) ≡ done → mid ++ flat_map definition_text (function_definitions (drop (i + 1) ys) (drop (i + 1) ts)) ≡ done
functions_step out mid done ys ts i y lt is m h =
    let next : suc i ≡ i + 1 = omega arith in
    one_piece out mid (definition_text (function_definition y (slice_get ts i))) _ _ done m
    (ap (λ z. flat_map definition_text (function_definitions z (drop i ts))) (drop_more ys i y lt ∙ ap (λ z. z ∷ drop (i + 1) ys) is)
    ∙ ap (flat_map definition_text) (functions_split y (drop (i + 1) ys) ts i)
    ∙ ap (λ z. definition_text (function_definition y (slice_get ts i)) ++ flat_map definition_text (function_definitions (drop (i + 1) ys) (drop z ts))) next) h

pub predicates_step : (out mid done : List ℕ) (ys : List Symbol) (ts : List PredicateModel) (i : ℕ) (y : Symbol) → i < length ys → get_or ys i y ≡ y → mid ≡ out ++ definition_text (predicate_definition y (slice_get ts i))
    → out ++ flat_map definition_text (predicate_definitions (drop i ys) (drop i ts)) ≡ done → mid ++ flat_map definition_text (predicate_definitions (drop (i + 1) ys) (drop (i + 1) ts)) ≡ done
predicates_step out mid done ys ts i y lt is m h =
    let next : suc i ≡ i + 1 = omega arith in
    one_piece out mid (definition_text (predicate_definition y (slice_get ts i))) _ _ done m
    (ap (λ z. flat_map definition_text (predicate_definitions z (drop i ts))) (drop_more ys i y lt ∙ ap (λ z. z ∷ drop (i + 1) ys) is)
    ∙ ap (flat_map definition_text) (predicates_split y (drop (i + 1) ys) ts i)
    ∙ ap (λ z. definition_text (predicate_definition y (slice_get ts i)) ++ flat_map definition_text (predicate_definitions (drop (i + 1) ys) (drop z ts))) next) h

-- a definition in three pieces: its head, its body, and its end
pub defined : (out a b end name : List ℕ) (d : Definition) → name ≡ d.name → a ≡ out ++ head_text name d.arity d.sort → b ≡ a ++ text d.body → end ≡ b ++ codes ")\n" → end ≡ out ++ definition_text d
unfolding definition_text
defined out a b end name d is head body last =
    last ∙ ap (λ z. z ++ codes ")\n") (body ∙ ap (λ z. z ++ text d.body) (head ∙ ap (λ z. out ++ head_text z d.arity d.sort) is))
    ∙ append_assoc (out ++ head_text d.name d.arity d.sort) (text d.body) (codes ")\n") ∙ append_assoc out (head_text d.name d.arity d.sort) (text d.body ++ codes ")\n")
