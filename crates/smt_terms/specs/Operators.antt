-- The values of terms, and what the operators of the theories Core and Ints of SMT-LIB 2.6 answer at values.
use Rattle.std.specs.Prelude.{ℕ, ℤ, pos, ◌*ℤ◌, neg_ℤ, Bool, true, false, not, ◌&&◌, ◌||◌, List, [], ◌∷◌, ◌++◌, map, Option, Some, None, unsigned_abs, int_lt, int_le, if◌then◌else◌, codes}
use Rattle.std.specs.Bool.{beq}
use Rattle.std.specs.Ordering.{int_eq}
use Rattle.form_typed.specs.declared.typed.Relation.{Relation}
use Rattle.form_typed.specs.declared.typed.Relation.TheVariants as relation
use Rattle.form_typed.specs.Lists.{sum_of}
use Rattle.base_texts.specs.Texts.{is_text}
use Rattle.smt_terms.specs.declared.operator.Operator.{Operator}
use Rattle.smt_terms.specs.declared.operator.Operator.TheVariants as op

-- the value of a term: an integer, or true or false
pub data Value : Type 0 where
  integer : ℤ → Value
  truth : Bool → Value

-- the integer that a value is; a truth counts as 0
abbrev pub as_integer : Value → ℤ
as_integer (integer v) = v
as_integer (truth b) = pos 0

-- the truth that a value is; an integer counts as false
abbrev pub as_truth : Value → Bool
as_truth (integer v) = false
as_truth (truth b) = b

-- whether two values are the same
abbrev pub is_same : Value → Value → Bool
is_same (integer x) (integer y) = int_eq x y
is_same (truth a) (truth b) = beq a b
is_same _ _ = false

-- whether two values are different
abbrev pub is_other : Value → Value → Bool
is_other x y = not (is_same x y)

-- whether the relation holds between two integers
abbrev pub is_related : Relation → ℤ → ℤ → Bool
is_related relation.Eq x y = int_eq x y
is_related relation.Neq x y = not (int_eq x y)
is_related relation.Lt x y = int_lt x y
is_related relation.Leq x y = int_le x y
is_related relation.Gt x y = int_lt y x
is_related relation.Geq x y = int_le y x

-- whether it holds between two values
abbrev pub compares_values : Relation → Value → Value → Bool
compares_values r x y = is_related r (as_integer x) (as_integer y)

-- every one of them is true
abbrev pub all_of : List Bool → Bool
all_of [] = true
all_of (b ∷ bs) = b && all_of bs

-- some one of them is true
abbrev pub some_of : List Bool → Bool
some_of [] = false
some_of (b ∷ bs) = b || some_of bs

-- the one or the other is true, and not both
abbrev pub either : Bool → Bool → Bool
either a b = not (beq a b)

-- a, and either that or the next one, and so on to the right: ((a xor b) xor c)
abbrev pub either_of : Bool → List Bool → Bool
either_of a [] = a
either_of a (b ∷ bs) = either_of (either a b) bs

-- a => (b => c)
abbrev pub implied : List Bool → Bool
implied [] = true
implied (a ∷ []) = a
implied (a ∷ (b ∷ bs)) = not a || implied (b ∷ bs)

-- what a test says of each two neighbours
abbrev pub neighbours : {A B : Type 0} → (A → A → B) → List A → List B
neighbours f [] = []
neighbours f (x ∷ []) = []
neighbours f (x ∷ (y ∷ xs)) = f x y ∷ neighbours f (y ∷ xs)

-- what it says of each two, by the place of the first and then of the second
abbrev pub pairs : {A B : Type 0} → (A → A → B) → List A → List B
pairs f [] = []
pairs f (x ∷ xs) = map (f x) xs ++ pairs f xs

-- the product of x and of the integers of a list
abbrev pub product_of : ℤ → List ℤ → ℤ
product_of x [] = x
product_of x (y ∷ ys) = product_of (x *ℤ y) ys

-- the first without all the others; of one integer its negative
abbrev pub difference_of : List ℤ → ℤ
difference_of [] = pos 0
difference_of (x ∷ []) = neg_ℤ x
difference_of (x ∷ (y ∷ ys)) = sum_of (x ∷ map neg_ℤ (y ∷ ys))

-- of two values the first where b is true, else the second, which counts as one of the first one's sort
abbrev pub chosen : Bool → Value → Value → Value
chosen b (integer x) y = integer (if b then x else as_integer y)
chosen b (truth a) y = truth (if b then a else as_truth y)

-- The value of an operator at these arguments. At arguments of other sorts or of another number, which no term without
-- faults has, it is of no interest. An operator that joins several is, at one argument, that argument.
abbrev pub applied : Operator → List Value → Value
applied (op.Truth b) vs = truth b
applied op.Not (v ∷ vs) = truth (not (as_truth v))
applied op.And (v ∷ []) = v
applied op.And vs = truth (all_of (map as_truth vs))
applied op.Or (v ∷ []) = v
applied op.Or vs = truth (some_of (map as_truth vs))
applied op.Xor (v ∷ []) = v
applied op.Xor (v ∷ vs) = truth (either_of (as_truth v) (map as_truth vs))
applied op.Implies (v ∷ []) = v
applied op.Implies vs = truth (implied (map as_truth vs))
applied op.Equal vs = truth (all_of (neighbours is_same vs))
applied op.Distinct vs = truth (all_of (pairs is_other vs))
applied op.Choose (c ∷ (x ∷ (y ∷ vs))) = chosen (as_truth c) x y
applied (op.Compare r) vs = truth (all_of (neighbours (compares_values r) vs))
applied op.Plus (v ∷ []) = v
applied op.Plus vs = integer (sum_of (map as_integer vs))
applied op.Minus vs = integer (difference_of (map as_integer vs))
applied op.Times (v ∷ []) = v
applied op.Times (v ∷ vs) = integer (product_of (as_integer v) (map as_integer vs))
applied op.Abs (v ∷ vs) = integer (pos (unsigned_abs (as_integer v)))
applied _ _ = truth false

-- what stands first in a list under a name
abbrev pub found : {A : Type 0} → List ℕ → List (List ℕ × A) → Option A
found x [] = None
found x (y ∷ ys) = if is_text x y.0 then Some y.1 else found x ys

-- the operators by their names
abbrev pub operators : List (List ℕ × Operator)
operators =
    (codes "true", op.Truth true) ∷ (codes "false", op.Truth false) ∷ (codes "not", op.Not) ∷ (codes "and", op.And) ∷ (codes "or", op.Or)
    ∷ (codes "xor", op.Xor) ∷ (codes "=>", op.Implies) ∷ (codes "=", op.Equal) ∷ (codes "distinct", op.Distinct) ∷ (codes "ite", op.Choose)
    ∷ (codes "<", op.Compare relation.Lt) ∷ (codes "<=", op.Compare relation.Leq) ∷ (codes ">", op.Compare relation.Gt) ∷ (codes ">=", op.Compare relation.Geq)
    ∷ (codes "+", op.Plus) ∷ (codes "-", op.Minus) ∷ (codes "*", op.Times) ∷ (codes "abs", op.Abs) ∷ []

-- the operator of a name
abbrev pub operator_of : List ℕ → Option Operator
operator_of x = found x operators
