-- Whether an integer is a value of a type is decided.
use Rattle.std.proofs.Common.{ℤ, pos}
use Rattle.form_typed.specs.declared.typed.Relation.TheVariants.{Leq}
use Rattle.form_typed.specs.declared.typed.Sort.{Sort}
use Rattle.form_typed.specs.declared.typed.Sort.TheVariants.{Int, Nat, Range}
use Rattle.form_typed.specs.Sorts.{IsValueOf}
use Rattle.form_typed.proofs.Stability.{related_stable}

-- what is not no value of the type is one
pub value_typed : (s : Sort) (v : ℤ) → ¬ (¬ (IsValueOf s v)) → IsValueOf s v
value_typed Int v h = tt
value_typed Nat v h = related_stable Leq (pos 0) v h
value_typed (Range a b) v h = (related_stable Leq a v (λ n. h (λ k. n k.0)), related_stable Leq v b (λ n. h (λ k. n k.1)))
