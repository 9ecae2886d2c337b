-- Whether an item is among those that a walk has passed.
use Rattle.std.proofs.Common.{◌≡◌, ℕ, ◌==◌, true, false, cond, ◌||◌, List, [], ◌∷◌, ◌++◌, refl}
use Rattle.backlist.specs.declared.boxes.Pos.{Pos}
use Rattle.test_base.specs.Walked.{any_is}

pub any_is-push : (x : ℕ) (xs : List (Pos × ℕ)) (p : Pos) (v : ℕ) → any_is x (xs ++ (p, v) ∷ []) ≡ (any_is x xs || (v == x))
any_is-push x [] p v = elim (v == x) as (λ y. cond y true false ≡ y) [ true ↦ refl | false ↦ refl ]
any_is-push x (i ∷ xs) p v = elim (i.1 == x) as (λ y. cond y true (any_is x (xs ++ (p, v) ∷ [])) ≡ (cond y true (any_is x xs) || (v == x))) [ true ↦ refl | false ↦ any_is-push x xs p v ]
