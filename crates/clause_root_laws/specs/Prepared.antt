-- A formula prepared for a proof: its pure quantified subformulas without their quantifiers, as far as the steps go.
use Rattle.std.specs.Prelude.{ℕ, zero, suc, ◌-◌, ◌/◌, ◌^◌, min, Bool, true, ◌&&◌, cond, List, [], Option, Some, None}
use Rattle.linear_term.specs.Linear.{Linear}
use Rattle.base_budget.specs.Trace.{at, End, done, refused, out_of_range, cut}
use Rattle.clause_set.specs.declared.literal.Literal.{Literal}
use Rattle.formula.specs.Form.{Form, Forms, equal, unequal, at_least, holds, fails, differs, conjunction, disjunction, universal, existential, no_form, and_form, is_pure}
use Rattle.elim_laws.specs.Whole.{eliminating}
use Rattle.form_naming.specs.Naming.{application, is_pure_but, reading, renamed}
use Rattle.clause_root_laws.specs.Clausal.{dnf_form}

-- the budget of an elimination, where this many steps are left
abbrev pub share : ℕ → ℕ
share left = min (left / 8) (2 ^ 32 - 1)

-- what f becomes where its elimination, with the value d, comes to this end, and the steps that are left then
abbrev pub by_end : ℕ → Form → List (List Literal) → ℕ → End → Form × ℕ
by_end n f d left (done a) = (dnf_form n d, left - a.funds.spent)
by_end n f d left (refused a) = (f, left - a.funds.spent)
by_end n f d left (out_of_range ps a) = (f, left - a.funds.spent)

-- the formula f over n without its quantifiers, where its elimination ends within its share; else f
unfoldable pub attempted : ℕ → Form → ℕ → Form × ℕ
attempted n f left = by_end n f (eliminating n f).value left (cut (eliminating n f).events (at (record { budget = share left; spent = 0 }) []))

-- the same where f is pure; else f
abbrev pub attempted_pure : ℕ → Form → ℕ → Form × ℕ
attempted_pure n f left = cond (is_pure f) (attempted n f left) (f, left)

-- a connective or a quantifier put on what was prepared
abbrev pub under : {A : Type 0} → (A → Form) → A × ℕ → Form × ℕ
under c r = (c r.0, r.1)

-- what an application that was found leads to; else what there is without one
abbrev pub by_application : Form × ℕ → (ℕ → List Linear → Form × ℕ) → Option (ℕ × List Linear) → Form × ℕ
by_application stop go None = stop
by_application stop go (Some a) = go a.0 a.1

-- the formula f over n with names for at most k of its applications at arguments over n, and then attempted
abbrev pub unquantified : ℕ → ℕ → Form → ℕ → Form × ℕ
unquantified zero n f left = attempted_pure n f left
unquantified (suc k) n f left = by_application (attempted_pure n f left) (λ g ss. under (reading n g ss) (unquantified k (suc n) (renamed n g ss f) left)) (application n f)

-- at most this many applications get a name before one quantified formula
abbrev pub most_names : ℕ
most_names = 64

-- a formula prepared, before the others, which begin with the steps that it leaves
abbrev pub before_rest : Form × ℕ → (ℕ → Forms × ℕ) → Forms × ℕ
before_rest r rest = (and_form r.0 (rest r.1).0, (rest r.1).1)

abbrev mutual
  -- the formula over n with each maximal quantified subformula attempted that is pure but for applications at arguments over
  -- its outer names, from left to right, and the steps that are left. A for-all that stands below no for-some stays, since a
  -- proof opens it for nothing
  pub prepared : Bool → ℕ → Form → ℕ → Form × ℕ
  prepared b n (equal t) left = (equal t, left)
  prepared b n (unequal t) left = (unequal t, left)
  prepared b n (at_least t) left = (at_least t, left)
  prepared b n (holds p ts) left = (holds p ts, left)
  prepared b n (fails p ts) left = (fails p ts, left)
  prepared b n (differs f ts u) left = (differs f ts u, left)
  prepared b n (conjunction fs) left = under conjunction (all_prepared b n fs left)
  prepared b n (disjunction fs) left = under disjunction (all_prepared b n fs left)
  prepared b n (universal f) left = cond (b && is_pure_but n f) (unquantified most_names n (universal f) left) (under universal (prepared b (suc n) f left))
  prepared b n (existential f) left = cond (is_pure_but n f) (unquantified most_names n (existential f) left) (under existential (prepared true (suc n) f left))

  pub all_prepared : Bool → ℕ → Forms → ℕ → Forms × ℕ
  all_prepared b n no_form left = (no_form, left)
  all_prepared b n (and_form f fs) left = before_rest (prepared b n f left) (all_prepared b n fs)
