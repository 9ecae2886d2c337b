-- An atom as a list of actions over a stack of finished terms, in postfix order (McCarthy and Painter, Correctness of a
-- compiler for arithmetic expressions, 1967): what the actions do, and those of a term. The last finished term is the
-- first of the stack; where there is none, the number 0 stands for it.
use Rattle.std.specs.Prelude.{ℕ, suc, ℤ, pos, negsuc, Bool, true, false, cond, List, [], ◌∷◌, reverse, take, drop}
use Rattle.linear_term.specs.Linear as linear
use Rattle.linear_term.specs.Linear.{Linear}
use Rattle.form_typed.specs.declared.typed.Relation.{Relation}
use Rattle.form_typed.specs.declared.typed.Relation.TheVariants.{Leq, Geq}
use Rattle.form_typed.specs.Formula.{Formula, Expression, Expressions, number, name, call, minus, total, product, choice, absolute, lesser, greater, no_expression, and_expression}
use Rattle.base_budget.specs.Trace.{Traced, just, next}
use Rattle.pri_typing.specs.WellFormed.{is_numeric, size}
use Rattle.formula.specs.Form.{Form, holds, fails, differs, conjunction, disjunction, universal, no_form, forms}
use Rattle.form_encoding.specs.Encoding.{named, multiple, product_of, related, signed_relation, cases, encoded}
use Rattle.function_encoding.specs.Members.{added}

-- A number, or the term of a name, comes onto the stack; the last term gives way to its negative; the last two give way
-- to their product, of which the first is a number or else the second, to their sum or difference; the last k give way to
-- the value of a function, after its graph; the last two to one of them, where a formula is true to the first; the last
-- to its absolute value; the last two to the first where it stands in a relation to the second, else to the second. At the
-- end the last two are related, or a predicate is applied to the last k.
pub data Action : Type 0 where
  put_number : ℤ → Action
  put_name : ℕ → Action
  negate : Action
  multiply : Bool → Action
  add : Bool → Action
  apply : ℕ → ℕ → Action
  choose : Formula → Action
  take_absolute : Action
  take_extreme : Relation → Action
  relate : Relation → Action
  predicate : Bool → ℕ → ℕ → Action

abbrev pub top : List Linear → Linear
top [] = linear.number (pos 0)
top (a ∷ vs) = a

abbrev pub under : List Linear → List Linear
under [] = []
under (a ∷ vs) = vs

-- the last two terms give way to one
abbrev pub joined : (Linear → Linear → Traced Linear) → List Linear → Traced (List Linear)
joined f vs = next (f (top (under vs)) (top vs)) (λ a. just (a ∷ under (under vs)))

-- the last term gives way to its negative
abbrev pub negated : List Linear → Traced (List Linear)
negated vs = next (multiple (negsuc 0) (top vs)) (λ a. just (a ∷ under vs))

-- the action neither binds a name nor makes two cases, nor is it the end
abbrev pub is_simple : Action → Bool
is_simple (put_number v) = true
is_simple (put_name x) = true
is_simple negate = true
is_simple (multiply left) = true
is_simple (add subtracted) = true
is_simple _ = false

-- the stack after a simple action
abbrev pub acted : List ℕ → Action → List Linear → Traced (List Linear)
acted at (put_number v) vs = just (linear.number v ∷ vs)
acted at (put_name x) vs = just (named at x ∷ vs)
acted at negate vs = negated vs
acted at (multiply left) vs = joined (product_of left) vs
acted at (add subtracted) vs = joined (added subtracted) vs
acted at _ vs = just vs

-- two cases of a test, each with its stack and the rest; the last term of the second one may be negated first
abbrev pub parted : (Bool → Traced Form) → List Linear → Bool → List Linear → (List Linear → Traced Form) → Traced Form
parted test first turned second rest = cases (test true) (rest first) (test false) (next (cond turned (negated second) (just second)) rest)

-- the graph of a function, and after it a formula
abbrev pub behind : ℕ → List Linear → ℕ → Form → Form
behind f ls n g = universal (disjunction (forms (differs f ls (linear.name n) ∷ g ∷ [])))

-- the formula that a list of actions makes
abbrev pub ran : List ℕ → List Action → ℕ → List Linear → Traced Form
ran at [] n vs = just (conjunction no_form)
ran at (apply f k ∷ c) n vs = next (ran at c (suc n) (linear.name n ∷ drop k vs)) (λ g. just (behind f (reverse (take k vs)) n g))
ran at (choose f ∷ c) n vs = parted (λ plus. encoded at n plus f) (under vs) false (top vs ∷ under (under vs)) (ran at c n)
ran at (take_absolute ∷ c) n vs = parted (λ plus. related (signed_relation plus Geq) (top vs) (linear.number (pos 0))) vs true vs (ran at c n)
ran at (take_extreme r ∷ c) n vs =
    parted (λ plus. related (signed_relation plus r) (top (under vs)) (top vs)) (under vs) false (top vs ∷ under (under vs)) (ran at c n)
ran at (relate r ∷ c) n vs = related r (top (under vs)) (top vs)
ran at (predicate plus p k ∷ c) n vs = just (cond plus (holds p (reverse (take k vs))) (fails p (reverse (take k vs))))
ran at (a ∷ c) n vs = next (acted at a vs) (ran at c n)

abbrev mutual
  -- the actions that finish a term, before others
  pub compiled : Expression → List Action → List Action
  compiled (number v) c = put_number v ∷ c
  compiled (name x) c = put_name x ∷ c
  compiled (call f ts) c = compiled_all ts (apply f (size ts) ∷ c)
  compiled (minus t) c = compiled t (negate ∷ c)
  compiled (total ts) c = compiled_sum ts c
  compiled (product s t) c = compiled s (compiled t (multiply (is_numeric s) ∷ c))
  compiled (choice f s t) c = compiled s (compiled t (choose f ∷ c))
  compiled (absolute t) c = compiled t (take_absolute ∷ c)
  compiled (lesser s t) c = compiled s (compiled t (take_extreme Leq ∷ c))
  compiled (greater s t) c = compiled s (compiled t (take_extreme Geq ∷ c))

  pub compiled_all : Expressions → List Action → List Action
  compiled_all no_expression c = c
  compiled_all (and_expression t ts) c = compiled t (compiled_all ts c)

  pub compiled_sum : Expressions → List Action → List Action
  compiled_sum no_expression c = put_number (pos 0) ∷ c
  compiled_sum (and_expression t ts) c = compiled t (compiled_more ts c)

  -- further members of a sum; a minus before one subtracts it
  pub compiled_more : Expressions → List Action → List Action
  compiled_more no_expression c = c
  compiled_more (and_expression (minus t) ts) c = compiled t (add true ∷ compiled_more ts c)
  compiled_more (and_expression t ts) c = compiled t (add false ∷ compiled_more ts c)
