-- How large bodies are, for calls that go from a body to its parts, and from a call to the body of the defined function.
use Rattle.std.proofs.Common.{ℕ, zero, suc, ◌+◌, ◌<◌, List, [], ◌∷◌, length, get_or, take, arith}
use Rattle.smt_names.specs.declared.body.Body.{Body}
use Rattle.smt_names.specs.Body.{Shape, Shapes, shape, shapes_of, leaf, operation, function, predicate, defined, let_in, quantified, no_shape, and_shape}

abbrev mutual
  pub parts : Shape → ℕ
  parts (leaf x) = 1
  parts (operation o ts) = 3 + all_parts ts
  parts (function k ts) = 3 + all_parts ts
  parts (predicate k ts) = 3 + all_parts ts
  parts (defined k ts) = 3 + all_parts ts
  parts (let_in bs t) = 3 + (all_parts bs + parts t)
  parts (quantified all k t) = 5 + (k + k + parts t)

  pub all_parts : Shapes → ℕ
  all_parts no_shape = 0
  all_parts (and_shape t ts) = 1 + (parts t + all_parts ts)

-- those of the bodies of defined functions
abbrev pub total_parts : List Body → ℕ
total_parts [] = 0
total_parts (b ∷ bs) = 1 + (parts (shape b) + total_parts bs)

pub member-parts : (bs : List Body) (i : ℕ) (d : Body) → i < length bs → parts (shape (get_or bs i d)) < all_parts (shapes_of bs)
member-parts [] i d h = absurd (omega arith)
member-parts (b ∷ bs) zero d h = omega arith
member-parts (b ∷ bs) (suc i) d h = omega (arith, member-parts bs i d (omega arith))

-- a body after those before it
pub before-parts : (bs : List Body) (i : ℕ) (d : Body) → i < length bs → total_parts (take i bs) + parts (shape (get_or bs i d)) < total_parts bs
before-parts [] i d h = absurd (omega arith)
before-parts (b ∷ bs) zero d h = omega arith
before-parts (b ∷ bs) (suc i) d h = omega (arith, before-parts bs i d (omega arith))
