use Rattle.std.specs.List.{filter}
use Rattle.std.proofs.Common.{◌≡◌, ℕ, List, ◌++◌, map}
use Rattle.base_budget.specs.Trace.{just, next}
use Rattle.formula.specs.Form.{conjunction, forms}
use Rattle.pri_typing.specs.declared.problem.Problem.{Problem}
use Rattle.pri_typing.specs.Problems.{assumed_by, is_part_in}
use Rattle.pri_typing.specs.WellFormed.{components_of}
use Rattle.form_encoding.specs.Occurrences.{occurs}
use Rattle.form_encoding.specs.Root.{names_from, conditions}
use Rattle.form_encoding.specs.Problems.{assumed_form, constants, parts_root, types}
use Rattle.form_encoding.proofs.PartsFlat.{extended_flat}
use Rattle.form_encoding.proofs.Parts.{parts_are}
use Rattle.form_encoding.proofs.laws.parts_law.Goals as goal

flat : (p : Problem) (set : List ℕ) → (parts_root p set).value
    ≡ conjunction (forms (map (assumed_form p) (filter (λ s. is_part_in set s.what) (components_of p)) ++ (conditions (λ x. occurs x (assumed_by p set)) 0 (types p)).value))
unfolding next just
flat p set =
    extended_flat (names_from 0 (constants p)) (constants p) (filter (λ s. is_part_in set s.what) (components_of p)) (conditions (λ x. occurs x (assumed_by p set)) 0 (types p)).value

pub returns-clause-flat : goal.returns-clause-flat
returns-clause-flat c = flat

pub returns-clause-truth : goal.returns-clause-truth
returns-clause-truth c = parts_are
