-- The rules of the sequent calculus: which member a rule takes, and what stands in its place in each premise.
use Rattle.std.specs.Prelude.{ℕ, suc, ◌-◌, nat_lt, cond, Bool, true, false, List, [], ◌∷◌, ◌++◌, map, Option, None, Some}
use Rattle.std.specs.List.{remove, slice_get}
use Rattle.sequent.specs.declared.member.Shape.{Shape}
use Rattle.sequent.specs.declared.member.Shape.TheVariants.{Trivial, Alpha, Delta, Beta, Gamma}
use Rattle.sequent.specs.declared.member.Pick.{Pick}
use Rattle.sequent.specs.declared.member.Pick.TheVariants as pick
use Rattle.formula.specs.Form.{Form, Forms, is_pure, conjunction, disjunction, universal, existential, no_form, and_form}
use Rattle.formula.specs.Shifts.{shifted}
use Rattle.sequent.specs.Sequent.{Member, Sequent, member, sequent}

-- the rule whose principal member has this form
abbrev pub shape : Form → Option Shape
shape (conjunction no_form) = Some Trivial
shape (conjunction (and_form f fs)) = Some Beta
shape (disjunction fs) = Some Alpha
shape (universal f) = Some Delta
shape (existential f) = Some Gamma
shape _ = None

-- f, over the first `over` constants and its own bound ones, among n constants
abbrev pub brought : ℕ → ℕ → Form → Form
brought over n f = shifted over (n - over) f

-- each formula as a new member of a sequent with n constants
abbrev pub new_members : ℕ → ℕ → Forms → List Member
new_members over n no_form = []
new_members over n (and_form f fs) = member (brought over n f) n 0 ∷ new_members over n fs

-- each member alone
abbrev pub one_each : List Member → List (List Member)
one_each [] = []
one_each (m ∷ ms) = (m ∷ []) ∷ one_each ms

-- what stands in the place of a principal member, among n constants: the new members, for each premise
abbrev pub branches : ℕ → ℕ → ℕ → Form → List (List Member)
branches n over used (conjunction fs) = one_each (new_members over n fs)
branches n over used (disjunction fs) = new_members over n fs ∷ []
branches n over used (universal f) = (member (brought over n f) (suc n) 0 ∷ []) ∷ []
branches n over used (existential f) = (member (brought over n f) (suc n) 0 ∷ member (existential f) over (suc used) ∷ []) ∷ []
branches n over used _ = []

-- the constants of a premise: a quantifier's variable becomes a new one
abbrev pub count_after : ℕ → Form → ℕ
count_after n (universal f) = suc n
count_after n (existential f) = suc n
count_after n _ = n

-- the premises of a rule with the principal m at place i
abbrev pub premises_at : Sequent → ℕ → Option Member → List Sequent
premises_at s i None = []
premises_at s i (Some m) = map (λ new. sequent (remove s.members i ++ new) (count_after s.count m.formula)) (branches s.count m.over m.used m.formula)

-- the place of the principal member
abbrev pub place : Pick → Option ℕ
place (pick.Trivial i) = Some i
place (pick.Alpha i) = Some i
place (pick.Delta i) = Some i
place (pick.Beta i) = Some i
place (pick.Gamma i) = Some i
place pick.Close = None

abbrev pub premises_by : Sequent → Option ℕ → List Sequent
premises_by s None = []
premises_by s (Some i) = premises_at s i (slice_get s.members i)

-- the premises of a rule
abbrev pub premises_of : Sequent → Pick → List Sequent
premises_of s p = premises_by s (place p)

abbrev pub is_shape : Shape → Option Shape → Bool
is_shape Trivial (Some Trivial) = true
is_shape Alpha (Some Alpha) = true
is_shape Delta (Some Delta) = true
is_shape Beta (Some Beta) = true
is_shape Gamma (Some Gamma) = true
is_shape k l = false

abbrev pub shape_of : Option Member → Option Shape
shape_of None = None
shape_of (Some m) = shape m.formula

abbrev pub has_shape : Sequent → Shape → ℕ → Bool
has_shape s k i = is_shape k (shape_of (slice_get s.members i))

-- whether the rule may be taken: its principal has the rule's shape
abbrev pub applies : Sequent → Pick → Bool
applies s (pick.Trivial i) = has_shape s Trivial i
applies s (pick.Alpha i) = has_shape s Alpha i
applies s (pick.Delta i) = has_shape s Delta i
applies s (pick.Beta i) = has_shape s Beta i
applies s (pick.Gamma i) = has_shape s Gamma i
applies s pick.Close = true

-- The canonical pick.

abbrev pub allowed : Bool → Bool → Option Shape → Option Shape
allowed pure more None = None
allowed pure more (Some Trivial) = Some Trivial
allowed pure more (Some Gamma) = cond pure None (cond more (Some Gamma) None)
allowed pure more (Some k) = cond pure None (Some k)

-- the rule whose canonical principal m may be: all but trivial want a formula that is not pure, gamma one that was used
-- less often than the limit
abbrev pub fits : ℕ → Member → Option Shape
fits limit m = allowed (is_pure m.formula) (nat_lt m.used limit) (shape m.formula)

abbrev pub suc_place : Option ℕ → Option ℕ
suc_place None = None
suc_place (Some i) = Some (suc i)

-- the place of the first member that fits the rule
abbrev pub first_fit : ℕ → Shape → List Member → Option ℕ
first_fit limit k [] = None
first_fit limit k (m ∷ ms) = cond (is_shape k (fits limit m)) (Some 0) (suc_place (first_fit limit k ms))

abbrev pub or_else : Option Pick → Pick → Pick
or_else None p = p
or_else (Some p) q = p

abbrev pub at_place : (ℕ → Pick) → Option ℕ → Option Pick
at_place rule None = None
at_place rule (Some i) = Some (rule i)

-- the first rule, in this order, that some member fits, at its first such member; close where there is none
abbrev pub picked : ℕ → List Member → Pick
picked limit ms =
    or_else (at_place pick.Trivial (first_fit limit Trivial ms))
    (or_else (at_place pick.Alpha (first_fit limit Alpha ms))
    (or_else (at_place pick.Delta (first_fit limit Delta ms))
    (or_else (at_place pick.Beta (first_fit limit Beta ms))
    (or_else (at_place pick.Gamma (first_fit limit Gamma ms)) pick.Close))))
