-- The states and additions that the code's are.
use Rattle.std.specs.Prelude.{ℕ, pos, negsuc, ◌++◌, Bool, false, List, [], ◌∷◌, map, Option, None, Some}
use Rattle.std.specs.Borrow.{Bor}
use Rattle.std.specs.List.{slice_get}
use Rattle.linear_term.specs.Linear.{Linear, name}
use Rattle.linear_term.specs.Combination.{combination}
use Rattle.formula.specs.Form.{Form, existential}
use Rattle.formula.specs.declared.calculus.Core.{Core}
use Rattle.formula.specs.Tree.{form}
use Rattle.clause_proof.specs.declared.line.Application.{Application}
use Rattle.clause_proof.specs.declared.line.Literal.{Literal}
use Rattle.clause_proof.specs.Clauses as clauses
use Rattle.clause_proof.specs.Atoms as atoms
use Rattle.clause_proof.specs.Lines as lines
use Rattle.clause_proof.specs.Lines.{Inner}
use Rattle.clause_checker.specs.declared.resolving.Left.{Left}
use Rattle.clause_checker.specs.declared.resolving.Left.TheVariants as left
use Rattle.clause_checker.specs.declared.state.Definition.{Definition}
use Rattle.clause_checker.specs.declared.state.Definition.TheVariants as d
use Rattle.clause_checker.specs.declared.state.Signed.{Signed}
use Rattle.clause_checker.specs.declared.state.State.{State}
use Rattle.clause_checker.specs.declared.state.Addition.{Addition}

abbrev pub definition_of : Definition → clauses.Definition
definition_of d.Always = clauses.always
definition_of (d.AtLeastZero t) = clauses.at_least_zero t
definition_of (d.IsZero t) = clauses.is_zero t
definition_of (d.Predicate p ts) = clauses.predicate p ts
definition_of (d.Closure f ts) = clauses.closure (form f.now) ts

abbrev pub definitions_of : List Definition → List clauses.Definition
definitions_of ds = map definition_of ds

abbrev pub signed_of : Signed → atoms.Signed
signed_of x = record { definition = definition_of x.definition; positive = x.positive }

abbrev pub state_of : State → clauses.State
state_of s = record { definitions = definitions_of s.definitions; clauses = s.clauses; applications = s.applications; count = s.count }

abbrev pub addition_of : Addition → lines.Addition
addition_of a = record { meant = map signed_of a.meant; literals = a.literals; clauses = a.clauses; applications = a.applications; count = a.count }

-- the variable that was found stands for the definition
abbrev pub known_so : Option clauses.Definition → clauses.Definition → Bool
known_so None d = false
known_so (Some c) d = atoms.same_definition c d

-- a formula and terms
abbrev pub pair_up : Form → List Linear → Option Inner
pair_up f ts = Some (f, ts)

abbrev pub inner_of : Bor Core × List Linear → Inner
inner_of x = (form x.0.now, x.1)

-- member number i, with literal number i for it
abbrev pub member_at : List Core → List Linear → List Literal → ℕ → List clauses.Definition → Option (List clauses.Definition)
member_at fs ts ms i ds = lines.found (slice_get fs i) (λ f. lines.found (slice_get ms i) (lines.stand ds (atoms.literal_of (form f) ts)))

-- the body of a for-some
abbrev pub body_at : Form → Option Form
body_at (existential f) = Some f
body_at f = None

-- what is left of a formula that reads application number b, with the terms for its names
abbrev pub read_at : List Application → ℕ → Form → List Linear → Option Inner
read_at apps b f ts = lines.found (slice_get apps b) (λ x. lines.found (lines.read_one x ts f) (λ g. pair_up g (ts ++ name x.constant ∷ [])))

-- none, one or more of these
abbrev pub left_view : List Literal → Left
left_view [] = left.Nothing
left_view (l ∷ []) = left.One l
left_view (l ∷ k ∷ ls) = left.More

-- what is left of a clause, more where there is none
abbrev pub left_at : Option (Option (List Literal)) → List Literal → Left
left_at None false_ones = left.More
left_at (Some None) false_ones = left.More
left_at (Some (Some c)) false_ones = left_view (lines.left_of false_ones c)

-- a new variable for the definition
abbrev pub new_variable : clauses.State → clauses.Definition → lines.Addition
new_variable s d = lines.adding (atoms.plain d ∷ []) (lines.positive (lines.next_number s) ∷ []) [] s.count

-- the term that is 0
abbrev pub zero_of : clauses.Definition → Option Linear
zero_of (clauses.is_zero t) = Some t
zero_of d = None

-- equation number i, with literal number i for it
abbrev pub equation_at : List Linear → List Linear → List Literal → ℕ → List clauses.Definition → Option (List clauses.Definition)
equation_at ss ts es i ds = lines.found (slice_get ss i) (λ s. lines.found (slice_get ts i) (λ t. lines.found (slice_get es i) (lines.stand ds (atoms.equation_literal (combination (pos 1) s (negsuc 0) t)))))

-- the predicate and the terms
abbrev pub predicate_of : clauses.Definition → Option (ℕ × List Linear)
predicate_of (clauses.predicate p ts) = Some (p, ts)
predicate_of d = None

-- the formulas that formulas of the code are
abbrev pub form_is : Bor Core → Form
form_is f = form f.now

abbrev pub pair_is : Bor Core × Bor Core → Form × Form
pair_is x = (form x.0.now, form x.1.now)

-- the formula and the terms of a closure of the code
abbrev pub parts_are : Bor Core × Bor (List Linear) → Form × List Linear
parts_are x = (form x.0.now, x.1.now)
