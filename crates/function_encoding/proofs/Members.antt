-- Members of sums, one at a time.
use Rattle.std.proofs.Common.{◌≡◌, ◌≤◌, List, ◌∷◌, refl, arith}
use Rattle.form_typed.specs.Formula.{Expression, Expressions, number, name, call, minus, total, product, choice, absolute, lesser, greater, and_expression}
use Rattle.function_encoding.specs.Members.{is_subtracted, without_minus}
use Rattle.function_encoding.specs.Actions.{Action, add, compiled, compiled_more}
use Rattle.function_encoding.specs.Weight.{weight_of}

-- one member of a sum, with its minus
pub more_is : (t : Expression) (ts : Expressions) (c : List Action) → compiled_more (and_expression t ts) c ≡ compiled (without_minus t) (add (is_subtracted t) ∷ compiled_more ts c)
more_is (number v) ts c = refl
more_is (name x) ts c = refl
more_is (call f us) ts c = refl
more_is (minus t) ts c = refl
more_is (total us) ts c = refl
more_is (product a b) ts c = refl
more_is (choice f a b) ts c = refl
more_is (absolute a) ts c = refl
more_is (lesser a b) ts c = refl
more_is (greater a b) ts c = refl

-- a minus weighs something
pub member_weight : (t : Expression) → weight_of (without_minus t) ≤ weight_of t
member_weight (number v) = omega arith
member_weight (name x) = omega arith
member_weight (call f us) = omega arith
member_weight (minus t) = omega arith
member_weight (total us) = omega arith
member_weight (product a b) = omega arith
member_weight (choice f a b) = omega arith
member_weight (absolute a) = omega arith
member_weight (lesser a b) = omega arith
member_weight (greater a b) = omega arith
