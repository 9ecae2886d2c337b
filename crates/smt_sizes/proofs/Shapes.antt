-- What a body becomes weighs what its parts do.
use Rattle.std.proofs.Common.{◌≡◌, ℕ, zero, suc, ◌+◌, ◌<◌, ◌≤◌, Bool, true, false, List, [], ◌∷◌, ◌++◌, map, length, nat_eq, get_or, take, drop, refl, sym, ap, ap₂, ◌∙◌, arith, if◌then◌else◌}
use Rattle.form_typed.specs.Formula.{Formula}
use Rattle.smt_sizes.specs.Sizes.{size}
use Rattle.smt_terms.specs.Translation.{Standing, at_depth, formula_in, variable}
use Rattle.smt_names.specs.declared.body.Leaf.{Leaf}
use Rattle.smt_names.specs.declared.body.Leaf.TheVariants as l
use Rattle.smt_names.specs.declared.body.Body.{Body}
use Rattle.smt_names.specs.Body.{Shape, Shapes, shape, leaf, operation, function, predicate, defined, let_in, quantified, no_shape, and_shape}
use Rattle.smt_names.specs.Saying as said
use Rattle.smt_names.specs.Saying.{Calls, leaf_said, shape_said, shapes_said, bound_said, quantified_over, calls, calls_of, shapes_onto}
use Rattle.smt_sizes.specs.Weight.{node, over, fitted}
use Rattle.smt_sizes.specs.Weights.{Weighed, weighed, weight}
use Rattle.smt_sizes.specs.Linear.{as_kind, kinds, weights, value}
use Rattle.smt_sizes.specs.Shapes.{formula_of, term_of, leaf_weighed, operated, applied, raised, with_variables, Weighing, shape_weighed, shapes_weighed, bound_weighed, weighing, weighing_of}
use Rattle.smt_sizes.proofs.Sums.{formula-kind}
use Rattle.smt_sizes.proofs.Operating.{operator-law, over-terms}
use Rattle.smt_sizes.proofs.Fitting.{size-fitted}

-- what replaces names weighs so, wherever it stands
abbrev StandFor : List Standing → List Weighed → Type 0
StandFor [] [] = Unit {0}
StandFor (s ∷ e) (w ∷ ws) = ((n : ℕ) → weighed (s n) ≡ w) × StandFor e ws
StandFor _ _ = ⊥

stand-append : (e f : List Standing) (ws vs : List Weighed) → StandFor e ws → StandFor f vs → StandFor (e ++ f) (ws ++ vs)
stand-append [] f [] vs h k = k
stand-append [] f (w ∷ ws) vs h k = absurd h
stand-append (s ∷ e) f [] vs h k = absurd h
stand-append (s ∷ e) f (w ∷ ws) vs h k = (h.0, stand-append e f ws vs h.1 k)

stand-at : (e : List Standing) (ws : List Weighed) (k n : ℕ) → StandFor e ws → weighed (get_or e k said.nothing n) ≡ get_or ws k (formula_of node)
stand-at [] [] k n h = refl
stand-at [] (w ∷ ws) k n h = absurd h
stand-at (s ∷ e) [] k n h = absurd h
stand-at (s ∷ e) (w ∷ ws) zero n h = h.0 n
stand-at (s ∷ e) (w ∷ ws) (suc k) n h = stand-at e ws k n h.1

variables-stand : (k : ℕ) (e : List Standing) (ws : List Weighed) (n : ℕ) → StandFor e ws → StandFor (said.with_variables k e n) (with_variables k ws)
variables-stand zero e ws n h = h
variables-stand (suc k) e ws n h = variables-stand k (e ++ variable n ∷ []) (ws ++ term_of node ∷ []) (suc n) (stand-append e (variable n ∷ []) ws (term_of node ∷ []) h ((λ m. refl), tt))

quantified-weight : (all : Bool) (k : ℕ) (f : Formula) → weight (quantified_over all k f) ≡ raised k (weight f)
quantified-weight all zero f = refl
quantified-weight true (suc k) f = ap over (quantified-weight true k f)
quantified-weight false (suc k) f = ap over (quantified-weight false k f)

leaf-law : (x : Leaf) (e : List Standing) (ws : List Weighed) (n : ℕ) → StandFor e ws → weighed (leaf_said e x n) ≡ leaf_weighed ws x
leaf-law (l.Number v) e ws n h = refl
leaf-law (l.Truth b) e ws n h = refl
leaf-law (l.Constant k) e ws n h = refl
leaf-law (l.Slot k) e ws n h = stand-at e ws k n h

-- what the defined functions become weighs so
abbrev Weighs : Calls → Weighing → Type 0
Weighs D C = (k : ℕ) (ss : List Standing) (xs : List Weighed) (n : ℕ) → StandFor ss xs → weighed (D k ss n) ≡ C k xs

mutual
  shape-law : (D : Calls) (C : Weighing) (t : Shape) → Weighs D C → (e : List Standing) (ws : List Weighed) (n : ℕ) → StandFor e ws → weighed (shape_said D e t n) ≡ shape_weighed C ws t
  shape-law D C (leaf x) H e ws n h = leaf-law x e ws n h
  shape-law D C (operation o ts) H e ws n h = operator-law o (at_depth n (shapes_said D e ts)) ∙ ap (operated o) (shapes-law D C ts H e ws n h)
  shape-law D C (function k ts) H e ws n h =
      ap term_of (over-terms (at_depth n (shapes_said D e ts)) ∙ ap (λ xs. value (applied (kinds xs)) (weights xs)) (shapes-law D C ts H e ws n h))
  shape-law D C (predicate k ts) H e ws n h =
      ap formula_of (over-terms (at_depth n (shapes_said D e ts)) ∙ ap (λ xs. value (applied (kinds xs)) (weights xs)) (shapes-law D C ts H e ws n h))
  shape-law D C (defined k ts) H e ws n h = H k (shapes_said D e ts) (shapes_weighed C ws ts) n (shapes-stand D C ts H e ws h)
  shape-law D C (let_in bs t) H e ws n h = shape-law D C t H (bound_said D e bs) (bound_weighed C ws bs) n (bound-stand D C bs H e ws h)
  shape-law D C (quantified all k t) H e ws n h =
      ap formula_of (quantified-weight all k (formula_in (shape_said D (said.with_variables k e n) t (n + k)))
      ∙ ap (raised k) (formula-kind (shape_said D (said.with_variables k e n) t (n + k))
      ∙ ap (as_kind true) (shape-law D C t H (said.with_variables k e n) (with_variables k ws) (n + k) (variables-stand k e ws n h))))

  shapes-law : (D : Calls) (C : Weighing) (ts : Shapes) → Weighs D C → (e : List Standing) (ws : List Weighed) (n : ℕ) → StandFor e ws
      → map weighed (at_depth n (shapes_said D e ts)) ≡ shapes_weighed C ws ts
  shapes-law D C no_shape H e ws n h = refl
  shapes-law D C (and_shape t ts) H e ws n h = ap₂ (λ x xs. x ∷ xs) (shape-law D C t H e ws n h) (shapes-law D C ts H e ws n h)

  shapes-stand : (D : Calls) (C : Weighing) (ts : Shapes) → Weighs D C → (e : List Standing) (ws : List Weighed) → StandFor e ws → StandFor (shapes_said D e ts) (shapes_weighed C ws ts)
  shapes-stand D C no_shape H e ws h = tt
  shapes-stand D C (and_shape t ts) H e ws h = ((λ n. shape-law D C t H e ws n h), shapes-stand D C ts H e ws h)

  bound-stand : (D : Calls) (C : Weighing) (bs : Shapes) → Weighs D C → (e : List Standing) (ws : List Weighed) → StandFor e ws → StandFor (bound_said D e bs) (bound_weighed C ws bs)
  bound-stand D C no_shape H e ws h = h
  bound-stand D C (and_shape t ts) H e ws h =
      bound-stand D C ts H (e ++ shape_said D e t ∷ []) (ws ++ shape_weighed C ws t ∷ [])
      (stand-append e (shape_said D e t ∷ []) ws (shape_weighed C ws t ∷ []) h ((λ n. shape-law D C t H e ws n h), tt))

calls-law : (ts : List Shape) → Weighs (calls ts) (weighing ts)
calls-law [] k ss xs n h = refl
calls-law (t ∷ ts) k ss xs n h = by (shape-law (calls ts) (weighing ts) t (calls-law ts) ss xs n h) (calls-law ts k ss xs n h) (nat_eq k (length ts))
  where
    by : weighed (shape_said (calls ts) ss t n) ≡ shape_weighed (weighing ts) xs t → weighed (calls ts k ss n) ≡ weighing ts k xs → (b : Bool)
        → weighed (if b then shape_said (calls ts) ss t n else calls ts k ss n) ≡ (if b then shape_weighed (weighing ts) xs t else weighing ts k xs)
    by p q true = p
    by p q false = q

-- the size of what a body becomes that no name is bound around
pub body-size : (ds : List Body) (b : Body) (n : ℕ)
    → size (formula_in (shape_said (calls_of ds) [] (shape b) n)) ≡ fitted (as_kind true (shape_weighed (weighing_of ds) [] (shape b)))
body-size ds b n =
    let ts = shapes_onto [] ds in
    let f = shape_said (calls ts) [] (shape b) n in
    size-fitted (formula_in f) ∙ ap fitted (formula-kind f ∙ ap (as_kind true) (shape-law (calls ts) (weighing ts) (shape b) (calls-law ts) [] [] n tt))

-- Defined functions by number.

same_number : (k : ℕ) → nat_eq k k ≡ true
same_number k = grind arith

other_number : (j k : ℕ) → j < k → nat_eq j k ≡ false
other_number j k h = grind arith

later : (before : List Shape) (bs : List Body) (k : ℕ) (xs : List Weighed) → k < length before → weighing (shapes_onto before bs) k xs ≡ weighing before k xs
later before [] k xs h = refl
later before (b ∷ bs) k xs h =
    later (shape b ∷ before) bs k xs (omega arith)
    ∙ ap (λ z. if z then shape_weighed (weighing before) xs (shape b) else weighing before k xs) (other_number k (length before) h)

from : (before : List Shape) (bs : List Body) (i : ℕ) (d : Body) (xs : List Weighed) → i < length bs
    → weighing (shapes_onto before bs) (length before + i) xs ≡ shape_weighed (weighing (shapes_onto before (take i bs))) xs (shape (get_or bs i d))
from before [] i d xs h = absurd (omega arith)
from before (b ∷ bs) zero d xs h =
    let k : length before + 0 ≡ length before = omega arith in
    ap (λ z. weighing (shapes_onto (shape b ∷ before) bs) z xs) k
    ∙ later (shape b ∷ before) bs (length before) xs (omega arith)
    ∙ ap (λ z. if z then shape_weighed (weighing before) xs (shape b) else weighing before (length before) xs) (same_number (length before))
from before (b ∷ bs) (suc i) d xs h =
    let k : length before + suc i ≡ suc (length before) + i = omega arith in
    ap (λ z. weighing (shapes_onto (shape b ∷ before) bs) z xs) k ∙ from (shape b ∷ before) bs i d xs (omega arith)

-- the defined function of a number is its body over those before it
pub weighing-there : (bs : List Body) (k : ℕ) (d : Body) (xs : List Weighed) → k < length bs → weighing_of bs k xs ≡ shape_weighed (weighing_of (take k bs)) xs (shape (get_or bs k d))
weighing-there bs k d xs h =
    let is : 0 + k ≡ k = omega arith in
    ap (λ j. weighing_of bs j xs) (sym is) ∙ from [] bs k d xs h

onto-parts : (before : List Shape) (bs : List Body) (i : ℕ) → shapes_onto before bs ≡ shapes_onto (shapes_onto before (take i bs)) (drop i bs)
onto-parts before [] zero = refl
onto-parts before [] (suc i) = refl
onto-parts before (b ∷ bs) zero = refl
onto-parts before (b ∷ bs) (suc i) = onto-parts (shape b ∷ before) bs i

onto-count : (before : List Shape) (bs : List Body) → length (shapes_onto before bs) ≡ length before + length bs
onto-count before [] = omega arith
onto-count before (b ∷ bs) = omega (arith, onto-count (shape b ∷ before) bs)

-- those before a number are the same without those from it on
pub weighing-before : (bs : List Body) (j k : ℕ) (xs : List Weighed) → j < k → k ≤ length bs → weighing_of (take k bs) j xs ≡ weighing_of bs j xs
weighing-before bs j k xs h le =
    sym (ap (λ z. weighing z j xs) (onto-parts [] bs k) ∙ later (shapes_onto [] (take k bs)) (drop k bs) j xs (omega (arith, onto-count [] (take k bs), taken k bs le)))
  where
    taken : (i : ℕ) (ys : List Body) → i ≤ length ys → length (take i ys) ≡ i
    taken zero ys h = refl
    taken (suc i) [] h = omega arith
    taken (suc i) (y ∷ ys) h = ap suc (taken i ys (omega arith))

past : (ts : List Shape) (k : ℕ) (xs : List Weighed) → length ts ≤ k → weighing ts k xs ≡ formula_of node
past [] k xs h = refl
past (t ∷ ts) k xs h =
    let other : nat_eq k (length ts) ≡ false = grind (arith, h) in
    ap (λ z. if z then shape_weighed (weighing ts) xs t else weighing ts k xs) other ∙ past ts k xs (omega (arith, h))

pub weighing-past : (bs : List Body) (k : ℕ) (xs : List Weighed) → length bs ≤ k → weighing_of bs k xs ≡ formula_of node
weighing-past bs k xs h = past (shapes_onto [] bs) k xs (omega (arith, h, onto-count [] bs))
