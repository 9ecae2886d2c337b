-- What is encoded of parts that have no application has none.
use Rattle.std.proofs.Common.{◌≡◌, ℕ, true, List, ◌∙◌, map}
use Rattle.std.specs.List.{filter}
use Rattle.std.proofs.lemmas.Bool.{and_from, and_parts}
use Rattle.base_budget.specs.Trace.{just, next}
use Rattle.form_typed.specs.Formula.{formulas}
use Rattle.pri_typing.specs.declared.problem.Problem.{Problem}
use Rattle.pri_typing.specs.Everywhere.{Property}
use Rattle.pri_typing.specs.Problems.{IsNoCall, IsNoPredicate, IsPure, IsWithoutApplication, assumed, assumed_by, is_part_in}
use Rattle.pri_typing.specs.WellFormed.{SignedFormula, components_of}
use Rattle.formula.specs.Form.{Form, Forms, are_pure, forms, is_pure, no_form, and_form}
use Rattle.form_encoding.specs.Encoding.{all_encoded}
use Rattle.form_encoding.specs.Occurrences.{occurs}
use Rattle.form_encoding.specs.Problems.{append, constants, parts_root, types}
use Rattle.form_encoding.specs.Root.{conditions, names_from}
use Rattle.form_encoding.proofs.Conditions.{conditions_true_pure}
use Rattle.form_encoding.proofs.Frees.{everywhere_free, free_is}
use Rattle.form_encoding.proofs.Parts.{assumed_everywhere}

append_pure : (gs : Forms) (hs : List Form) → are_pure gs ≡ true → are_pure (forms hs) ≡ true → are_pure (append gs hs) ≡ true
append_pure no_form hs p q = q
append_pure (and_form g gs) hs p q = let h = and_parts (is_pure g) (are_pure gs) p in and_from (is_pure g) (are_pure (append gs hs)) (h.0) (append_pure gs hs (h.1) q)

pub assumed_pure : (p : Problem) (set : List ℕ) → IsWithoutApplication (assumed_by p set) → is_pure (parts_root p set).value ≡ true
unfolding next just
assumed_pure p set h =
    let members = (all_encoded (names_from 0 (constants p)) (constants p) true (formulas (map assumed (filter (λ (c : SignedFormula). is_part_in set c.what) (components_of p))))).value in
    append_pure members (conditions (λ x. occurs x (assumed_by p set)) 0 (types p)).value
    (free_is (assumed_by p set) (names_from 0 (constants p)) (constants p) true ∙ everywhere_free 0 (assumed_by p set) h)
    (conditions_true_pure (λ x. occurs x (assumed_by p set)) 0 (types p))

-- no part of a problem without applications has one
pub pure_assumed : (p : Problem) (set : List ℕ) → IsPure p → IsWithoutApplication (assumed_by p set)
pure_assumed p set h =
    let none : Property = record { of_formula = IsNoPredicate; of_term = IsNoCall } in
    assumed_everywhere none (record { nots = λ f. tt; everies = λ fs. tt }) p set h
