-- The encoding of a problem, and of what parts of it assume.
use Rattle.std.specs.Prelude.{ℕ, ◌+◌, Bool, true, not, ◌||◌, nat_lt, List, ◌++◌, length}
use Rattle.base_limits.specs.Limits.{most_levels, most_nodes}
use Rattle.base_budget.specs.Trace.{Traced, just, next}
use Rattle.form_typed.specs.declared.typed.Sort.{Sort}
use Rattle.form_typed.specs.Formula.{Formula, formula}
use Rattle.pri_typing.specs.declared.problem.Problem.{Problem}
use Rattle.pri_typing.specs.Problems.{assumed_by}
use Rattle.pri_typing.specs.WellFormed.{SignedFormula}
use Rattle.formula.specs.Form.{Form, Forms, conjunction, no_form, and_form, forms}
use Rattle.formula.specs.Sizes.{size, depth}
use Rattle.form_encoding.specs.Encoding.{encoded}
use Rattle.form_encoding.specs.Occurrences.{occurs}
use Rattle.form_encoding.specs.Root.{names_from, conditions, root}

-- how many constants the problem has
abbrev pub constants : Problem → ℕ
constants p = length p.existentials + length p.universals

-- a formula over the problem's constants, each under its own name
abbrev pub over_constants : Problem → Formula → Traced Form
over_constants p f = encoded (names_from 0 (constants p)) (constants p) true f

-- the encoded formula of the problem, below the quantifiers of its universal constants
abbrev pub body : Problem → Traced Form
body p = over_constants p (formula p.formula)

-- the encoded problem, over its existential constants
abbrev pub problem_root : Problem → Traced Form
problem_root p = root p.existential_types p.universal_types (body p)

-- the types of all constants, in order
abbrev pub types : Problem → List Sort
types p = p.existential_types ++ p.universal_types

-- formulas before others
abbrev pub append : Forms → List Form → Forms
append no_form hs = forms hs
append (and_form g gs) hs = and_form g (append gs hs)

-- a conjunction with further members
abbrev pub extended : Form → List Form → Form
extended (conjunction gs) hs = conjunction (append gs hs)
extended f hs = f

-- what these parts assume, over all constants, and that the constants that occur in it have values of their types
abbrev pub parts_root : Problem → List ℕ → Traced Form
parts_root p set =
    next (over_constants p (assumed_by p set)) (λ f. next (conditions (λ x. occurs x (assumed_by p set)) 0 (types p)) (λ hs. just (extended f hs)))

-- what one component assumes: the component with the other sign
abbrev pub assumed_form : Problem → SignedFormula → Form
assumed_form p c = (encoded (names_from 0 (constants p)) (constants p) (not c.plus) c.what).value

-- more than 1,000,000 nodes, or a depth above 2,000
abbrev pub is_large : Form → Bool
is_large f = nat_lt most_nodes (size f) || nat_lt most_levels (depth f)
