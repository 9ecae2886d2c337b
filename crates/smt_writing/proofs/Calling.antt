-- Several bodies written out, and a call that there is no defined function for.
use Rattle.std.proofs.Common.{◌≡◌, ℕ, ◌+◌, ◌≤◌, false, List, [], ◌∷◌, map, length, nat_eq, refl, sym, ap, ◌∙◌, arith, if◌then◌else◌}
use Rattle.smt_terms.specs.Translation.{Standing, at_depth}
use Rattle.smt_names.specs.declared.body.Body.{Body}
use Rattle.smt_names.specs.Body.{Shape, shape, shapes_of}
use Rattle.smt_names.specs.Saying.{Calls, nothing, shape_said, shapes_said, calls, calls_of, shapes_onto}

pub all-at : (D : Calls) (e : List Standing) (n : ℕ) (bs : List Body) → at_depth n (shapes_said D e (shapes_of bs)) ≡ map (λ b. shape_said D e (shape b) n) bs
all-at D e n [] = refl
all-at D e n (b ∷ bs) = ap (λ z. shape_said D e (shape b) n ∷ z) (all-at D e n bs)

onto-count : (before : List Shape) (bs : List Body) → length (shapes_onto before bs) ≡ length before + length bs
onto-count before [] = omega arith
onto-count before (b ∷ bs) = omega (arith, onto-count (shape b ∷ before) bs)

past : (ts : List Shape) (k : ℕ) (ss : List Standing) (n : ℕ) → length ts ≤ k → calls ts k ss n ≡ nothing n
past [] k ss n h = refl
past (t ∷ ts) k ss n h =
    let other : nat_eq k (length ts) ≡ false = grind (arith, h) in
    ap (λ z. if z then shape_said (calls ts) ss t n else calls ts k ss n) other ∙ past ts k ss n (omega (arith, h))

pub no-call : (ds : List Body) (k : ℕ) (ss : List Standing) (n : ℕ) → length ds ≤ k → nothing n ≡ calls_of ds k ss n
no-call ds k ss n h = sym (past (shapes_onto [] ds) k ss n (omega (arith, h, onto-count [] ds)))
