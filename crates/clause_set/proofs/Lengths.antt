-- The length of two lists together, and squares that stop at the greatest u64.
use Rattle.std.proofs.Common.{◌≡◌, ◌+◌, ◌*◌, ℕ, List, ◌++◌, length, length-append, sym, ◌∙◌, ap}
use Rattle.std.proofs.Math.Nat.{mul_comm}
use Rattle.base_budget.specs.Trace.{capped}
use Rattle.clause_set.proofs.Weights.{capped_product}

-- a square of a capped number, capped again
pub capped_square : (w v : ℕ) → v ≡ capped w → capped (v * v) ≡ capped (w * w)
capped_square w v e = capped_product v w v e ∙ ap capped (mul_comm v w) ∙ capped_product w w v e

pub ruleset squares = (capped_square)

pub square_of_both : {X : Type 0} (xs ys : List X) (n : ℕ) → n ≡ capped ((length xs + length ys) * (length xs + length ys)) → n ≡ capped (length (xs ++ ys) * length (xs ++ ys))
square_of_both xs ys n e = e ∙ ap (λ z. capped (z * z)) (sym (length-append xs ys))

pub ruleset lengths = (square_of_both)
