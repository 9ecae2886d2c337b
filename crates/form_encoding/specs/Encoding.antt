-- The encoding of a formula: negation normal form, terms linear, conditions of terms as cases, and functions as
-- relations. A bound variable of a type other than `int` stands with the bounds of its type.
--
-- The terms of an atom are finished from the left, inner ones first; `rest` says what becomes of a finished term: it is
-- given the number of names that are bound by then, and the term. So a call `f(t)` binds a new name y for its value,
-- and the rest speaks of y; a condition makes two cases, and the rest stands in both.
use Rattle.std.specs.Prelude.{ℕ, zero, suc, ℤ, pos, negsuc, Bool, true, false, not, cond, List, [], ◌∷◌, ◌++◌}
use Rattle.std.specs.Bool.{beq}
use Rattle.linear_term.specs.Linear as linear
use Rattle.linear_term.specs.Linear.{Linear}
use Rattle.form_typed.specs.declared.typed.Relation.{Relation}
use Rattle.form_typed.specs.declared.typed.Relation.TheVariants.{Eq, Neq, Lt, Leq, Gt, Geq}
use Rattle.form_typed.specs.declared.typed.Sort.{Sort}
use Rattle.form_typed.specs.declared.typed.Sort.TheVariants.{Int, Nat, Range}
use Rattle.form_typed.specs.Formula.{Formula, Formulas, Expression, Expressions, constant, compares, applies, negation, every, some, implies, iff, for_all, for_some, part, no_formula, and_formula, number, name, call, minus, total, product, choice, absolute, lesser, greater, no_expression, and_expression}
use Rattle.form_typed.specs.Truth.{opposite_relation}
use Rattle.base_budget.specs.Trace.{Traced, just, next, combining}
use Rattle.pri_typing.specs.WellFormed.{is_numeric}
use Rattle.formula.specs.Form.{Form, Forms, equal, unequal, at_least, holds, fails, differs, conjunction, disjunction, universal, existential, no_form, and_form, forms}

-- the name that stands for the x-th name; a name that nothing binds is the number 0
abbrev pub named : List ℕ → ℕ → Linear
named [] x = linear.number (pos 0)
named (y ∷ ys) zero = linear.name y
named (y ∷ ys) (suc x) = named ys x

-- s - t
abbrev pub difference : Linear → Linear → Traced Linear
difference s t = combining (pos 1) s (negsuc 0) t

-- s - t - 1
abbrev pub less_one : Linear → Linear → Traced Linear
less_one s t = next (difference s t) (λ d. combining (pos 1) d (pos 1) (linear.number (negsuc 0)))

-- k·t
abbrev pub multiple : ℤ → Linear → Traced Linear
multiple k t = combining k t (pos 0) (linear.number (pos 0))

-- the atom that says that the relation holds between s and t
abbrev pub related : Relation → Linear → Linear → Traced Form
related Eq s t = next (difference s t) (λ d. just (equal d))
related Neq s t = next (difference s t) (λ d. just (unequal d))
related Geq s t = next (difference s t) (λ d. just (at_least d))
related Gt s t = next (less_one s t) (λ d. just (at_least d))
related Leq s t = next (difference t s) (λ d. just (at_least d))
related Lt s t = next (less_one t s) (λ d. just (at_least d))

-- the relation with plus, its opposite with minus
abbrev pub signed_relation : Bool → Relation → Relation
signed_relation plus r = cond plus r (opposite_relation r)

-- a conjunction with plus, a disjunction with minus
abbrev pub junction : Bool → Forms → Form
junction plus fs = cond plus (conjunction fs) (disjunction fs)

-- a for-all with plus, a for-some with minus
abbrev pub quantified : Bool → Form → Form
quantified plus f = cond plus (universal f) (existential f)

-- `when` and `first`, or `unless` and `second`
abbrev pub cases : Traced Form → Traced Form → Traced Form → Traced Form → Traced Form
cases when first unless second =
    next when (λ y. next first (λ a. next unless (λ n. next second (λ b.
    just (disjunction (forms (conjunction (forms (y ∷ a ∷ [])) ∷ conjunction (forms (n ∷ b ∷ [])) ∷ [])))))))

-- the product of s and t, of which s is a number, or else t
abbrev pub product_of : Bool → Linear → Linear → Traced Linear
product_of left s t = cond left (multiple s.constant t) (multiple t.constant s)

-- Types.

-- a bound of a type: its least value, or its greatest
pub data SortBound : Type 0 where
  least : ℤ → SortBound
  greatest : ℤ → SortBound

-- the bounds of a type
abbrev pub bounds : Sort → List SortBound
bounds Int = []
bounds Nat = least (pos 0) ∷ []
bounds (Range a b) = least a ∷ greatest b ∷ []

-- k·x + m·t is at least 0
abbrev pub inequality : ℤ → ℕ → ℤ → Linear → Traced Form
inequality k x m t = next (combining k (linear.name x) m t) (λ u. just (at_least u))

-- the name x is within the bound: x - n is at least 0, or -x + n is
abbrev pub within : ℕ → SortBound → Traced Form
within x (least n) = inequality (pos 1) x (negsuc 0) (linear.number n)
within x (greatest n) = inequality (negsuc 0) x (pos 1) (linear.number n)

-- it is not: -x + (n - 1) is at least 0, or x + (-n - 1) is
abbrev pub outside : ℕ → SortBound → Traced Form
outside x (least n) = next (combining (pos 1) (linear.number n) (negsuc 0) (linear.number (pos 1))) (λ c. inequality (negsuc 0) x (pos 1) c)
outside x (greatest n) = next (combining (negsuc 0) (linear.number n) (negsuc 0) (linear.number (pos 1))) (λ c. inequality (pos 1) x (pos 1) c)

-- for all, that the name x is outside the one bound or the other; for some, that it is within each
abbrev pub limits : Bool → ℕ → List SortBound → Traced (List Form)
limits all x [] = just []
limits all x (b ∷ bs) = next (cond all (outside x b) (within x b)) (λ h. next (limits all x bs) (λ hs. just (h ∷ hs)))

-- for all, one of these or the formula; for some, each of these and the formula
abbrev pub restricted : Bool → List Form → Form → Form
restricted all [] g = g
restricted all (h ∷ hs) g = junction (not all) (forms ((h ∷ hs) ++ g ∷ []))

-- the formula for all values of the type, or else for some, of the name x
abbrev pub bound_by : Bool → ℕ → Sort → Traced Form → Traced Form
bound_by all x s body = next body (λ g. next (limits all x (bounds s)) (λ hs. just (quantified all (restricted all hs g))))

abbrev mutual
  -- The formula with plus, its negation with minus: the names of the formula stand for the names in `at`, all below n.
  pub encoded : List ℕ → ℕ → Bool → Formula → Traced Form
  encoded at n plus (constant b) = just (junction (beq b plus) no_form)
  encoded at n plus (compares r s t) =
      with_value at s n (λ m a. with_value at t m (λ k b. related (signed_relation plus r) a b))
  encoded at n plus (applies p ts) = with_values at ts n (λ m ls. just (cond plus (holds p ls) (fails p ls)))
  encoded at n plus (negation f) = encoded at n (not plus) f
  encoded at n plus (every fs) = next (all_encoded at n plus fs) (λ gs. just (junction plus gs))
  encoded at n plus (some fs) = next (all_encoded at n plus fs) (λ gs. just (junction (not plus) gs))
  encoded at n plus (implies f g) =
      next (encoded at n (not plus) f) (λ a. next (encoded at n plus g) (λ b. just (junction (not plus) (forms (a ∷ b ∷ [])))))
  encoded at n plus (iff f g) =
      next (encoded at n (not plus) f) (λ a. next (encoded at n true g) (λ b.
      next (encoded at n plus f) (λ c. next (encoded at n false g) (λ d.
      just (conjunction (forms (disjunction (forms (a ∷ b ∷ [])) ∷ disjunction (forms (c ∷ d ∷ [])) ∷ [])))))))
  encoded at n plus (for_all s f) = bound_by plus n s (encoded (at ++ n ∷ []) (suc n) plus f)
  encoded at n plus (for_some s f) = bound_by (not plus) n s (encoded (at ++ n ∷ []) (suc n) plus f)
  encoded at n plus (part k f) = encoded at n plus f

  pub all_encoded : List ℕ → ℕ → Bool → Formulas → Traced Forms
  all_encoded at n plus no_formula = just no_form
  all_encoded at n plus (and_formula f fs) =
      next (encoded at n plus f) (λ g. next (all_encoded at n plus fs) (λ gs. just (and_form g gs)))

  -- the rest, with the finished term
  pub with_value : List ℕ → Expression → ℕ → (ℕ → Linear → Traced Form) → Traced Form
  with_value at (number v) n rest = rest n (linear.number v)
  with_value at (name x) n rest = rest n (named at x)
  with_value at (call f ts) n rest =
      with_values at ts n (λ m ls. next (rest (suc m) (linear.name m))
      (λ g. just (universal (disjunction (forms (differs f ls (linear.name m) ∷ g ∷ []))))))
  with_value at (minus t) n rest = with_value at t n (λ m a. next (multiple (negsuc 0) a) (rest m))
  with_value at (total ts) n rest = with_sum at ts n rest
  with_value at (product s t) n rest =
      with_value at s n (λ m a. with_value at t m (λ k b. next (product_of (is_numeric s) a b) (rest k)))
  with_value at (choice f s t) n rest =
      with_value at s n (λ m a. with_value at t m (λ k b. cases (encoded at k true f) (rest k a) (encoded at k false f) (rest k b)))
  with_value at (absolute t) n rest =
      with_value at t n (λ m a. cases (related Geq a (linear.number (pos 0))) (rest m a)
      (related Lt a (linear.number (pos 0))) (next (multiple (negsuc 0) a) (rest m)))
  with_value at (lesser s t) n rest =
      with_value at s n (λ m a. with_value at t m (λ k b. cases (related Leq a b) (rest k a) (related Gt a b) (rest k b)))
  with_value at (greater s t) n rest =
      with_value at s n (λ m a. with_value at t m (λ k b. cases (related Geq a b) (rest k a) (related Lt a b) (rest k b)))

  -- the rest, with the finished terms
  pub with_values : List ℕ → Expressions → ℕ → (ℕ → List Linear → Traced Form) → Traced Form
  with_values at no_expression n rest = rest n []
  with_values at (and_expression t ts) n rest = with_value at t n (λ m a. with_values at ts m (λ k ls. rest k (a ∷ ls)))

  -- the rest, with the finished sum
  pub with_sum : List ℕ → Expressions → ℕ → (ℕ → Linear → Traced Form) → Traced Form
  with_sum at no_expression n rest = rest n (linear.number (pos 0))
  with_sum at (and_expression t ts) n rest = with_value at t n (λ m a. with_more at ts m a rest)

  -- the rest, with the sum of what is finished and of further members; a minus before one subtracts it
  pub with_more : List ℕ → Expressions → ℕ → Linear → (ℕ → Linear → Traced Form) → Traced Form
  with_more at no_expression n so_far rest = rest n so_far
  with_more at (and_expression (minus t) ts) n so_far rest =
      with_value at t n (λ m a. next (combining (pos 1) so_far (negsuc 0) a) (λ s. with_more at ts m s rest))
  with_more at (and_expression t ts) n so_far rest =
      with_value at t n (λ m a. next (combining (pos 1) so_far (pos 1) a) (λ s. with_more at ts m s rest))
