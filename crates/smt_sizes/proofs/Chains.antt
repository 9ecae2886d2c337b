-- Chains: what is said of each two neighbours.
use Rattle.std.proofs.Common.{◌≡◌, ◌||◌, Bool, true, false, List, [], ◌∷◌, map, refl, sym, ap, ap₂, ◌∙◌, if◌then◌else◌}
use Rattle.std.specs.Bool.{beq}
use Rattle.form_typed.specs.declared.typed.Relation.{Relation}
use Rattle.form_typed.specs.Formula.{Formula}
use Rattle.smt_terms.specs.Operators.{neighbours}
use Rattle.smt_terms.specs.Translation.{Said, a_formula, a_term, joined, equal_said, compared_said}
use Rattle.smt_sizes.specs.declared.weight.Weight.{Weight}
use Rattle.smt_sizes.specs.Weight.{nothing, unit, node, plus, times, over}
use Rattle.smt_sizes.specs.Weights.{Weighed, weighed, weight}
use Rattle.smt_sizes.specs.Linear.{value, start, kinds, weights}
use Rattle.smt_sizes.specs.Operators.{next, chain, joint, inside}
use Rattle.smt_sizes.proofs.Algebra.{plus-regrouped, plus-turned, plus-settled, times-settled, settled-times, none-times, times-none, times-plus, times-sum, times-regrouped, unit-node, unit-over, none-none, node-none, swapped}
use Rattle.smt_sizes.proofs.Steps.{link, chain_weight, chain-value}
use Rattle.smt_sizes.proofs.Sums.{total, all-total, term-kind}

-- what is said of two neighbours: of terms, else of two of a kind
abbrev pub near : Bool → Weighed → Weighed → Weight
near t a b = if t || beq a.is_formula b.is_formula then over (plus (link t a) (link t b)) else node

pub equal-near : (s t : Said) → weight (equal_said s t) ≡ near false (weighed s) (weighed t)
equal-near (a_term s) (a_term t) = refl
equal-near (a_formula f) (a_formula g) = refl
equal-near (a_term s) (a_formula g) = refl
equal-near (a_formula f) (a_term t) = refl

pub compared-near : (r : Relation) (s t : Said) → weight (compared_said r s t) ≡ near true (weighed s) (weighed t)
compared-near r s t = ap₂ (λ x y. over (plus x y)) (term-kind s) (term-kind t)

pub neighbours-near : (F : Said → Said → Formula) (G : Weighed → Weighed → Weight) → ((s t : Said) → weight (F s t) ≡ G (weighed s) (weighed t)) → (ss : List Said)
    → map weight (neighbours F ss) ≡ neighbours G (map weighed ss)
neighbours-near F G l [] = refl
neighbours-near F G l (s ∷ []) = refl
neighbours-near F G l (s ∷ (t ∷ ss)) = ap₂ (λ x xs. x ∷ xs) (l s t) (neighbours-near F G l (t ∷ ss))

-- a place for two neighbours
near-at : (m : Weight) (t : Bool) (y z : Weighed) (ys : List Weighed)
    → times m (near t y z) ≡ plus (times m node) (plus (times (next t (times m node) y.is_formula (kinds (z ∷ ys))) (link t y)) (times (next t (times m node) y.is_formula (kinds (z ∷ ys))) (link t z)))
near-at m t y z ys = by (t || beq y.is_formula z.is_formula)
  where
    by : (b : Bool)
        → times m (if b then over (plus (link t y) (link t z)) else node)
        ≡ plus (times m node) (plus (times (if b then times m node else nothing) (link t y)) (times (if b then times m node else nothing) (link t z)))
    by true =
        times-plus m node (times node (plus (link t y) (link t z)))
        ∙ ap (plus (times m node)) (sym (times-regrouped m node (plus (link t y) (link t z))) ∙ times-plus (times m node) (link t y) (link t z))
    by false =
        sym (ap (plus (times m node)) (ap₂ plus (none-times (link t y)) (none-times (link t z)) ∙ none-none) ∙ settled-times m node)

gathered : (a c d e m : Weight) → plus a (plus (plus c (plus d e)) m) ≡ plus (plus c (plus a d)) (plus e m)
gathered a c d e m =
    sym (ap (λ z. plus z (plus e m)) (swapped c a d) ∙ plus-regrouped a (plus c d) (plus e m)
    ∙ ap (plus a) (sym (plus-regrouped (plus c d) e m) ∙ ap (λ z. plus z m) (plus-regrouped c d e)))

pub chain-near : (m before : Weight) (t : Bool) (y : Weighed) (ys : List Weighed)
    → plus (times before (link t y)) (times m (total (neighbours (near t) (y ∷ ys)))) ≡ chain_weight t (times m node) before (y ∷ ys)
chain-near m before t y [] =
    ap (plus (times before (link t y))) (times-none m) ∙ settled-times before (link t y)
    ∙ sym (plus-settled nothing (times (plus before nothing) (link t y)) ∙ times-settled (plus before nothing) (link t y)
    ∙ times-sum before nothing (link t y) ∙ ap (plus (times before (link t y))) (none-times (link t y)) ∙ settled-times before (link t y))
chain-near m before t y (z ∷ ys) =
    let c = times m node in
    let d = next t c y.is_formula (kinds (z ∷ ys)) in
    let rest = total (neighbours (near t) (z ∷ ys)) in
    ap (plus (times before (link t y))) (times-plus m (near t y z) rest ∙ ap (λ w. plus w (times m rest)) (near-at m t y z ys))
    ∙ gathered (times before (link t y)) c (times d (link t y)) (times d (link t z)) (times m rest)
    ∙ ap₂ (λ v w. plus (plus c v) w) (sym (times-sum before d (link t y))) (chain-near m d t z ys)

-- Joined.

abbrev pub joined_weight : List Weight → Weight
joined_weight [] = over nothing
joined_weight (x ∷ []) = x
joined_weight (x ∷ (y ∷ xs)) = over (total (x ∷ (y ∷ xs)))

pub joined-weight : (fs : List Formula) → weight (joined fs) ≡ joined_weight (map weight fs)
joined-weight [] = refl
joined-weight (f ∷ []) = refl
joined-weight (f ∷ (g ∷ fs)) = ap over (all-total (f ∷ (g ∷ fs)))

unit-near : (t : Bool) (y z : Weighed) → times unit (near t y z) ≡ near t y z
unit-near t y z = by (t || beq y.is_formula z.is_formula)
  where
    by : (b : Bool) → times unit (if b then over (plus (link t y) (link t z)) else node) ≡ (if b then over (plus (link t y) (link t z)) else node)
    by true = unit-over (plus (link t y) (link t z))
    by false = unit-node

empty : over nothing ≡ node
empty = ap (plus node) (times-none node) ∙ node-none

pub chain-joined : (t : Bool) (ys : List Weighed)
    → joined_weight (neighbours (near t) ys) ≡ plus (plus (joint (kinds ys)) nothing) (times (inside (kinds ys)) (total (neighbours (near t) ys)))
chain-joined t [] = empty ∙ sym (ap₂ plus node-none (times-none node) ∙ node-none)
chain-joined t (y ∷ []) = empty ∙ sym (ap₂ plus node-none (times-none node) ∙ node-none)
chain-joined t (y ∷ (z ∷ [])) =
    sym (ap₂ plus none-none (times-plus unit (near t y z) nothing ∙ ap₂ plus (unit-near t y z) (times-none unit)) ∙ ap (plus nothing) (settled (near t y z) (unit-near t y z))
    ∙ plus-turned nothing (near t y z) ∙ settled (near t y z) (unit-near t y z))
  where
    settled : (a : Weight) → times unit a ≡ a → plus a nothing ≡ a
    settled a h = ap (λ w. plus w nothing) (sym h) ∙ settled-times unit a ∙ h
chain-joined t (y ∷ (z ∷ (x ∷ ys))) = ap (λ w. plus w (times node (total (neighbours (near t) (y ∷ (z ∷ (x ∷ ys))))))) (sym node-none)

pub chained : (t : Bool) (ys : List Weighed)
    → joined_weight (neighbours (near t) ys) ≡ value (chain t (times (inside (kinds ys)) node) nothing (kinds ys) (start (joint (kinds ys)))) (weights ys)
chained t [] = chain-joined t [] ∙ ap (plus (plus node nothing)) (times-none node) ∙ sym (chain-value t (times node node) nothing [] (start node) [] refl)
chained t (y ∷ ys) =
    let m = inside (kinds (y ∷ ys)) in
    chain-joined t (y ∷ ys)
    ∙ ap (plus (plus (joint (kinds (y ∷ ys))) nothing))
    (sym (times-settled m (total (neighbours (near t) (y ∷ ys)))) ∙ ap (λ w. plus w (times m (total (neighbours (near t) (y ∷ ys))))) (sym (none-times (link t y))) ∙ chain-near m nothing t y ys)
    ∙ sym (chain-value t (times m node) nothing (y ∷ ys) (start (joint (kinds (y ∷ ys)))) [] refl)
