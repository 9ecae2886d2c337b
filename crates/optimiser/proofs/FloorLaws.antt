-- Floors of conditions joined, and the floor of a residue class between two bounds.
use Rattle.std.proofs.Common.{◌≡◌, ℤ, pos, ◌+ℤ◌, ◌-ℤ◌, ◌≤ℤ◌, ◌<ℤ◌, Bool, true, false, ◌||◌, cond, int_le, List, [], ◌∷◌, Option, Some, None, refl, sym, ◌∙◌, ap, subst, arith}
use Rattle.std.specs.Prelude.{◌↔◌}
use Rattle.std.specs.List.{list_any, AllByRecursion}
use Rattle.std.specs.Int.{int_min}
use Rattle.std.proofs.lemmas.Int.{ints, by_lt_z, int_min_is}
use Rattle.base_integers.specs.Divides.{IsCongruent}
use Rattle.base_integers.specs.Residue.{least_from, greatest_to}
use Rattle.base_integers.proofs.Residues.{least_from-bound, least_from-congruent, least_from-least, greatest_to-bound, greatest_to-congruent}
use Rattle.clause_set.specs.declared.literal.Literal.{Literal}
use Rattle.clause_set.proofs.NormalTruth.{le_decides}
use Rattle.base_budget.specs.Trace.{Traced, just, next}
use Rattle.solve_laws.specs.Nearest.{is_at_most, is_at_least}
use Rattle.solve_laws.proofs.Ranks.{IsBetween, or_left, or_right, by_or}
use Rattle.optimiser.specs.declared.floor.Floor.{Floor}
use Rattle.optimiser.specs.declared.floor.Floor.TheVariants.{Nowhere, At, Unbounded}
use Rattle.optimiser.specs.Floors.{IsInfimum, lower_of, floor_when}
use Rattle.optimiser.specs.OneName.{floors}

-- ---- the same condition
pub floor-same : (p q : ℤ → Bool) (f : Floor) → ((v : ℤ) → p v ≡ q v) → IsInfimum p f → IsInfimum q f
floor-same p q Nowhere e h = λ v. sym (e v) ∙ h v
floor-same p q (At k) e h = (sym (e k) ∙ h.0, λ v t. h.1 v (e v ∙ t))
floor-same p q Unbounded e h = λ k. let w = h k in (w.0, (sym (e w.0) ∙ w.1.0, w.1.1))

-- ---- two conditions
or_false : (a b : Bool) → a ≡ false → b ≡ false → (a || b) ≡ false
or_false true b h k = h
or_false false b h k = k

never : (b : Bool) (P : Type 0) → b ≡ false → b ≡ true → P
never b P f t = absurd (let z : false ≡ true = sym f ∙ t in cc)

unbounded_left : (p q : ℤ → Bool) → IsInfimum p Unbounded → IsInfimum (λ v. p v || q v) Unbounded
unbounded_left p q h = λ k. let w = h k in (w.0, (or_left (p w.0) (q w.0) w.1.0, w.1.1))

unbounded_right : (p q : ℤ → Bool) → IsInfimum q Unbounded → IsInfimum (λ v. p v || q v) Unbounded
unbounded_right p q h = λ k. let w = h k in (w.0, (or_right (p w.0) (q w.0) w.1.0, w.1.1))

-- the lesser of two numbers satisfies one of the conditions
min_satisfies : (p q : ℤ → Bool) (k m : ℤ) → p k ≡ true → q m ≡ true → (p (int_min k m) || q (int_min k m)) ≡ true
min_satisfies p q k m h g =
    by_lt_z k m
    (λ less. let e : k ≡ int_min k m = (let i = int_min_is k m in omega (arith, ints, i, less)) in subst (λ z. (p z || q z) ≡ true) e (or_left (p k) (q k) h))
    (λ more. let e : m ≡ int_min k m = (let i = int_min_is k m in omega (arith, ints, i, more)) in subst (λ z. (p z || q z) ≡ true) e (or_right (p m) (q m) g))

min_left : (k m v : ℤ) → k ≤ℤ v → int_min k m ≤ℤ v
min_left k m v h = let i = int_min_is k m in omega (arith, ints, i, h)

min_right : (k m v : ℤ) → m ≤ℤ v → int_min k m ≤ℤ v
min_right k m v h = let i = int_min_is k m in omega (arith, ints, i, h)

pub floor-or : (p q : ℤ → Bool) (f g : Floor) → IsInfimum p f → IsInfimum q g → IsInfimum (λ v. p v || q v) (lower_of f g)
floor-or p q Nowhere Nowhere h k = λ v. or_false (p v) (q v) (h v) (k v)
floor-or p q Nowhere (At m) h k = (or_right (p m) (q m) k.0, λ v t. by_or (p v) (q v) (m ≤ℤ v) t (λ a. never (p v) (m ≤ℤ v) (h v) a) (k.1 v))
floor-or p q Nowhere Unbounded h k = unbounded_right p q k
floor-or p q (At n) Nowhere h k = (or_left (p n) (q n) h.0, λ v t. by_or (p v) (q v) (n ≤ℤ v) t (h.1 v) (λ b. never (q v) (n ≤ℤ v) (k v) b))
floor-or p q (At n) (At m) h k = (
  min_satisfies p q n m h.0 k.0,
  λ v t. by_or (p v) (q v) (int_min n m ≤ℤ v) t (λ a. min_left n m v (h.1 v a)) (λ b. min_right n m v (k.1 v b)),
)
floor-or p q (At n) Unbounded h k = unbounded_right p q k
floor-or p q Unbounded g h k = unbounded_left p q h

-- ---- several clauses
or_apart : (a b c : Bool) → ((a || b) || c) ≡ (a || (b || c))
or_apart true b c = refl
or_apart false b c = refl

or_nothing : (a : Bool) → (a || false) ≡ a
or_nothing true = refl
or_nothing false = refl

-- each clause begins where f says
pub Each : (List Literal → ℤ → Bool) → (List Literal → Traced Floor) → List (List Literal) → Type 0
Each t f cs = AllByRecursion (λ c. IsInfimum (t c) (f c).value) cs

pub floors-floor : (t : List Literal → ℤ → Bool) (f : List Literal → Traced Floor) (cs : List (List Literal)) (p : ℤ → Bool) (out : Floor) → IsInfimum p out
    → AllByRecursion (λ c. IsInfimum (t c) (f c).value) cs → IsInfimum (λ v. p v || list_any (λ c. t c v) cs) (floors f cs out).value
unfolding next just
floors-floor t f [] p out h k = floor-same p (λ v. p v || false) out (λ v. sym (or_nothing (p v))) h
floors-floor t f (c ∷ cs) p out h k =
    floor-same (λ v. (p v || t c v) || list_any (λ d. t d v) cs) (λ v. p v || (t c v || list_any (λ d. t d v) cs)) (floors f cs (lower_of out (f c).value)).value
    (λ v. or_apart (p v) (t c v) (list_any (λ d. t d v) cs))
    (floors-floor t f cs (λ v. p v || t c v) (lower_of out (f c).value) (floor-or p (t c) out (f c).value h k.0) k.1)

pub floors-all : (t : List Literal → ℤ → Bool) (f : List Literal → Traced Floor) (cs : List (List Literal)) → AllByRecursion (λ c. IsInfimum (t c) (f c).value) cs
    → IsInfimum (λ v. list_any (λ c. t c v) cs) (floors f cs Nowhere).value
floors-all t f cs k = floors-floor t f cs (λ v. false) Nowhere (λ v. refl) k

-- ---- a class between bounds
at_most-lower : (hi : Option ℤ) (u v : ℤ) → v ≤ℤ u → is_at_most u hi ≡ true → is_at_most v hi ≡ true
at_most-lower None u v le t = refl
at_most-lower (Some k) u v le t = (le_decides v k).1 (omega (arith, ints, le, (le_decides u k).0 t))

-- a number that is below k and at most hi
record IsBelow (k : ℤ) (hi : Option ℤ) : Type 0 where
  number : ℤ
  below : number <ℤ k
  high : is_at_most number hi ≡ true

below_both : (k : ℤ) (hi : Option ℤ) → IsBelow k hi
below_both k None = record { number = k -ℤ pos 1; below = omega (arith, ints); high = refl }
below_both k (Some h) =
    let e = int_min_is (k -ℤ pos 1) h in
    record { number = int_min (k -ℤ pos 1) h; below = omega (arith, ints, e); high = (le_decides (int_min (k -ℤ pos 1) h) h).1 (omega (arith, ints, e)) }

-- without a lower bound, a class has numbers below each integer
pub class-unbounded : (p : ℤ → Bool) (m r : ℤ) (hi : Option ℤ) → pos 0 <ℤ m → ((v : ℤ) → (p v ≡ true) ↔ IsBetween m r None hi v) → IsInfimum p Unbounded
class-unbounded p m r hi h is = λ k.
    let b : IsBelow k hi = below_both k hi in
    let v : ℤ = greatest_to m r b.number in
    let le : v ≤ℤ b.number = greatest_to-bound m r b.number h in
    (v, ((is v).1 (record { congruent = greatest_to-congruent m r b.number h; low = refl; high = at_most-lower hi b.number v le b.high }), omega (arith, ints, le, b.below)))

-- with one, it begins at its least number from there on, if that is at most the upper bound
pub class-floor : (p : ℤ → Bool) (m r lo : ℤ) (hi : Option ℤ) → pos 0 <ℤ m → ((v : ℤ) → (p v ≡ true) ↔ IsBetween m r (Some lo) hi v)
    → IsInfimum p (floor_when (is_at_most (least_from m r lo) hi) (least_from m r lo))
class-floor p m r lo hi h is = by (is_at_most (least_from m r lo) hi) refl
  where
    v : ℤ
    v = least_from m r lo

    first : (u : ℤ) → p u ≡ true → least_from m r lo ≤ℤ u
    first u t = let w : IsBetween m r (Some lo) hi u = (is u).0 t in least_from-least m r lo u h ((le_decides lo u).0 w.low) w.congruent

    none : (b : Bool) (u : ℤ) → is_at_most (least_from m r lo) hi ≡ false → p u ≡ b → b ≡ false
    none true u f t = never (is_at_most (least_from m r lo) hi) (true ≡ false) f (at_most-lower hi u (least_from m r lo) (first u t) ((is u).0 t).high)
    none false u f t = refl

    by : (b : Bool) → is_at_most (least_from m r lo) hi ≡ b → IsInfimum p (floor_when b (least_from m r lo))
    by true t = ((is (least_from m r lo)).1 (record { congruent = least_from-congruent m r lo h; low = (le_decides lo (least_from m r lo)).1 (least_from-bound m r lo h); high = t }), first)
    by false t = λ u. none (p u) u t refl
