-- What joined, grouped and chained formulas and terms weigh, by the weights of their parts.
use Rattle.std.proofs.Common.{◌≡◌, ℕ, suc, ◌+◌, ◌*◌, Bool, true, false, List, [], ◌∷◌, ◌++◌, map, length, refl, sym, ap, ap₂, ◌∙◌, arith}
use Rattle.form_typed.specs.Formula as logic
use Rattle.form_typed.specs.Formula.{Formula, Expression, formulas, expressions}
use Rattle.smt_terms.specs.Translation.{Said, a_formula, a_term, formula_in, term_in, either_said, implied_said, multiplied}
use Rattle.smt_sizes.specs.declared.weight.Weight.{Weight}
use Rattle.smt_sizes.specs.Weight.{nothing, unit, node, plus, times, up, over}
use Rattle.smt_sizes.specs.Weights.{Weighed, weighed, weight, all_weights, term_weight, term_weights}
use Rattle.smt_sizes.specs.Linear.{as_kind, kinds}
use Rattle.smt_sizes.proofs.Algebra.{plus-regrouped, plus-settled, times-settled, settled-times, times-none, times-plus, times-turned, times-regrouped, unit-times, unit-node, unit-over, none-plus, none-none, swapped, up-once, up-up}
use Rattle.smt_sizes.proofs.Steps.{each_weight, falls_weight, rises_weight}

-- One alone is cut off already.

pub unit-formula : (f : Formula) → times unit (weight f) ≡ weight f
unit-formula (logic.constant b) = unit-node
unit-formula (logic.compares r s t) = unit-over (plus (term_weight s) (term_weight t))
unit-formula (logic.applies p ts) = unit-over (term_weights ts)
unit-formula (logic.negation f) = unit-over (weight f)
unit-formula (logic.every fs) = unit-over (all_weights fs)
unit-formula (logic.some fs) = unit-over (all_weights fs)
unit-formula (logic.implies f g) = unit-over (plus (weight f) (weight g))
unit-formula (logic.iff f g) = unit-over (plus (weight f) (weight g))
unit-formula (logic.for_all s f) = unit-over (weight f)
unit-formula (logic.for_some s f) = unit-over (weight f)
unit-formula (logic.part k f) = unit-over (weight f)

pub unit-term : (t : Expression) → times unit (term_weight t) ≡ term_weight t
unit-term (logic.number v) = unit-node
unit-term (logic.name x) = unit-node
unit-term (logic.call f ts) = unit-over (term_weights ts)
unit-term (logic.minus t) = unit-over (term_weight t)
unit-term (logic.total ts) = unit-over (term_weights ts)
unit-term (logic.product s t) = unit-over (plus (term_weight s) (term_weight t))
unit-term (logic.choice f s t) = unit-over (plus (weight f) (plus (term_weight s) (term_weight t)))
unit-term (logic.absolute t) = unit-over (term_weight t)
unit-term (logic.lesser s t) = unit-over (plus (term_weight s) (term_weight t))
unit-term (logic.greater s t) = unit-over (plus (term_weight s) (term_weight t))

pub unit-said : (s : Said) → times unit (weighed s).weight ≡ (weighed s).weight
unit-said (a_formula f) = unit-formula f
unit-said (a_term t) = unit-term t

-- As a formula, and as a term.

pub formula-kind : (s : Said) → weight (formula_in s) ≡ as_kind true (weighed s)
formula-kind (a_formula f) = refl
formula-kind (a_term t) = refl

pub term-kind : (s : Said) → term_weight (term_in s) ≡ as_kind false (weighed s)
term-kind (a_formula f) = refl
term-kind (a_term t) = refl

-- all together
abbrev pub total : List Weight → Weight
total [] = nothing
total (x ∷ xs) = plus x (total xs)

pub all-formulas : (ss : List Said) → all_weights (formulas (map formula_in ss)) ≡ total (map (as_kind true) (map weighed ss))
all-formulas [] = refl
all-formulas (s ∷ ss) = ap₂ plus (formula-kind s) (all-formulas ss)

pub all-terms : (ss : List Said) → term_weights (expressions (map term_in ss)) ≡ total (map (as_kind false) (map weighed ss))
all-terms [] = refl
all-terms (s ∷ ss) = ap₂ plus (term-kind s) (all-terms ss)

pub each-total : (want : Bool) (c : Weight) (ys : List Weighed) → times c (total (map (as_kind want) ys)) ≡ each_weight want nothing c ys
each-total want c [] = times-none c
each-total want c (y ∷ ys) =
    times-plus c (as_kind want y) (total (map (as_kind want) ys)) ∙ ap₂ plus (sym (times-settled c (as_kind want y))) (each-total want c ys)

-- the negatives of several terms below a node
pub each-minus : (ss : List Said) → times node (term_weights (expressions (map logic.minus (map term_in ss)))) ≡ each_weight false (up 2) (up 2) (map weighed ss)
each-minus [] = times-none node
each-minus (s ∷ ss) =
    let t = term_weight (term_in s) in
    times-plus node (over t) (term_weights (expressions (map logic.minus (map term_in ss))))
    ∙ ap₂ plus (times-plus node node (times node t) ∙ ap₂ plus (up-once 1) (sym (times-regrouped node node t) ∙ ap₂ times (up-once 1) (term-kind s))) (each-minus ss)

-- Grouped to the left.

abbrev step : Weight → Weight → Weight → Weight → Weight
step k y a b = plus k (times y (plus a b))

abbrev pub nested : Weight → Weight → Weight → List Weight → Weight
nested k y a [] = a
nested k y a (x ∷ xs) = nested k y (step k y a x) xs

pub multiplied-nested : (s : Expression) (ts : List Expression) → term_weight (multiplied s ts) ≡ nested node node (term_weight s) (map term_weight ts)
multiplied-nested s [] = refl
multiplied-nested s (t ∷ ts) = multiplied-nested (logic.product s t) ts

pub twice-over : (a : Weight) → over (over a) ≡ plus (plus node (up 2)) (times (up 2) a)
twice-over a =
    ap (plus node) (times-plus node node (times node a) ∙ ap₂ plus (up-once 1) (sym (times-regrouped node node a) ∙ ap (λ z. times z a) (up-once 1)))
    ∙ sym (plus-regrouped node (up 2) (times (up 2) a))

pub either-nested : (f : Formula) (gs : List Formula) → weight (either_said f gs) ≡ nested (plus node (up 2)) (up 2) (weight f) (map weight gs)
either-nested f [] = refl
either-nested f (g ∷ gs) =
    either-nested (logic.negation (logic.iff f g)) gs ∙ ap (λ z. nested (plus node (up 2)) (up 2) z (map weight gs)) (twice-over (plus (weight f) (weight g)))

pub nested-falls : (want : Bool) (s : ℕ) (k a : Weight) (ys : List Weighed) → times unit k ≡ k → times unit a ≡ a
    → nested k (up s) a (map (as_kind want) ys) ≡ plus (times (up (s * length (kinds ys))) a) (falls_weight want s k ys)
nested-falls want s k a [] hk ha =
    let none : s * 0 ≡ 0 = omega arith in
    sym (ap (λ j. plus (times (up j) a) nothing) none ∙ settled-times unit a ∙ ha)
nested-falls want s k a (y ∷ ys) hk ha =
    let n = s * length (kinds ys) in
    let x = as_kind want y in
    let m = suc (length (kinds ys)) in
    let more : n + s ≡ s * m = omega arith in
    let deeper = λ (z : Weight). sym (times-regrouped (up n) (up s) z) ∙ ap (λ w. times w z) (up-up n s ∙ ap up more) in
    nested-falls want s k (step k (up s) a x) ys hk (times-plus unit k (times (up s) (plus a x)) ∙ ap₂ plus hk (unit-times (up s) (plus a x)))
    ∙ ap (λ z. plus z (falls_weight want s k ys))
    (times-plus (up n) k (times (up s) (plus a x)) ∙ ap (plus (times (up n) k)) (deeper (plus a x) ∙ times-plus (up (s * m)) a x)
    ∙ swapped (times (up n) k) (times (up (s * m)) a) (times (up (s * m)) x))
    ∙ plus-regrouped (times (up (s * m)) a) (plus (times (up n) k) (times (up (s * m)) x)) (falls_weight want s k ys)

-- Grouped to the right.

abbrev pub implied_weight : List Weight → Weight
implied_weight [] = over nothing
implied_weight (x ∷ []) = x
implied_weight (x ∷ (y ∷ xs)) = over (plus x (implied_weight (y ∷ xs)))

pub implied-weight : (fs : List Formula) → weight (implied_said fs) ≡ implied_weight (map weight fs)
implied-weight [] = refl
implied-weight (f ∷ []) = refl
implied-weight (f ∷ (g ∷ fs)) = ap (λ z. over (plus (weight f) z)) (implied-weight (g ∷ fs))

pub implied-rises : (n : ℕ) (y : Weighed) (ys : List Weighed) → times (up n) (implied_weight (map (as_kind true) (y ∷ ys))) ≡ rises_weight n (y ∷ ys)
implied-rises n y [] = sym (plus-settled nothing (times (up n) (as_kind true y)) ∙ times-settled (up n) (as_kind true y))
implied-rises n y (z ∷ ys) =
    let x = as_kind true y in
    let r = implied_weight (map (as_kind true) (z ∷ ys)) in
    let down : times (up n) node ≡ up (suc n) = times-turned (up n) node ∙ up-once n in
    times-plus (up n) node (times node (plus x r))
    ∙ ap₂ plus down (sym (times-regrouped (up n) node (plus x r)) ∙ ap (λ w. times w (plus x r)) down ∙ times-plus (up (suc n)) x r ∙ ap (plus (times (up (suc n)) x)) (implied-rises (suc n) z ys))
    ∙ sym (plus-regrouped (up (suc n)) (times (up (suc n)) x) (rises_weight (suc n) (z ∷ ys)))

-- Joined.

pub all-total : (fs : List Formula) → all_weights (formulas fs) ≡ total (map weight fs)
all-total [] = refl
all-total (f ∷ fs) = ap (plus (weight f)) (all-total fs)

pub total-append : (xs ys : List Weight) → total (xs ++ ys) ≡ plus (total xs) (total ys)
total-append [] [] = sym none-none
total-append [] (y ∷ ys) = sym (none-plus y (total ys))
total-append (x ∷ xs) ys = ap (plus x) (total-append xs ys) ∙ sym (plus-regrouped x (total xs) (total ys))
