-- What an operator writes weighs what its arguments do, by the factors of each.
use Rattle.std.proofs.Common.{◌≡◌, ℕ, ◌*◌, Bool, true, false, List, [], ◌∷◌, map, length, refl, sym, ap, ap₂, ◌∙◌}
use Rattle.form_typed.specs.Formula as logic
use Rattle.form_typed.specs.Formula.{Formula, Expression, formulas, expressions}
use Rattle.smt_terms.specs.declared.operator.Operator.{Operator}
use Rattle.smt_terms.specs.declared.operator.Operator.TheVariants as op
use Rattle.smt_terms.specs.Operators.{neighbours, pairs}
use Rattle.smt_terms.specs.Translation.{Said, a_formula, a_term, formula_in, term_in, equal_said, unequal_said, compared_said, either_said, implied_said, multiplied, subtracted, chosen_said, operated}
use Rattle.smt_sizes.specs.declared.weight.Weight.{Weight}
use Rattle.smt_sizes.specs.Weight.{nothing, unit, node, plus, times, many, up, over}
use Rattle.smt_sizes.specs.Weights.{Weighed, weighed, weight, term_weight, all_weights, term_weights}
use Rattle.smt_sizes.specs.Linear.{value, start, kept, added, as_kind, kinds, weights}
use Rattle.smt_sizes.specs.Operators.{each, falls, rises, itself, choice}
use Rattle.smt_sizes.specs.Shapes as shapes
use Rattle.smt_sizes.specs.Shapes.{formula_of, term_of, applied}
use Rattle.smt_sizes.proofs.Algebra.{plus-regrouped, plus-settled, times-settled, settled-times, times-none, times-plus, times-sum, times-regrouped, unit-node, unit-over, unit-up, none-plus, none-none, node-none, crossed, up-once, many-more}
use Rattle.smt_sizes.proofs.Steps.{each_weight, each-value, falls_weight, falls-value, rises_weight, rises-value, added-value, kept-value}
use Rattle.smt_sizes.proofs.Sums.{total, unit-formula, unit-term, unit-said, formula-kind, term-kind, all-formulas, all-terms, each-total, each-minus, nested, multiplied-nested, either-nested, nested-falls, implied_weight, implied-weight, implied-rises}
use Rattle.smt_sizes.proofs.Chains.{joined_weight, joined-weight, near, equal-near, compared-near, neighbours-near, chained}
use Rattle.smt_sizes.proofs.Differences.{pairs-differ, paired}

-- An argument alone.

alone : (w : Weight) → times unit w ≡ w → w ≡ value itself (w ∷ [])
alone w h = sym (ap (λ z. plus z (plus (times unit w) nothing)) none-none ∙ ap (plus nothing) (settled-times unit w) ∙ times-settled unit w ∙ h)

-- A node over each of several.

over-each : (want : Bool) (ys : List Weighed) → over (total (map (as_kind want) ys)) ≡ value (each want nothing node (kinds ys) (start node)) (weights ys)
over-each want ys =
    ap (plus node) (each-total want node ys) ∙ ap (λ z. plus z (each_weight want nothing node ys)) (sym node-none) ∙ sym (each-value want nothing node ys (start node) [] refl)

over-formulas : (ss : List Said) → over (all_weights (formulas (map formula_in ss))) ≡ value (each true nothing node (kinds (map weighed ss)) (start node)) (weights (map weighed ss))
over-formulas ss = ap over (all-formulas ss) ∙ over-each true (map weighed ss)

pub over-terms : (ss : List Said) → over (term_weights (expressions (map term_in ss))) ≡ value (applied (kinds (map weighed ss))) (weights (map weighed ss))
over-terms ss = ap over (all-terms ss) ∙ over-each false (map weighed ss)

-- A node over the first.

over-one : (want : Bool) (y : Weighed) (ys : List Weighed) → over (as_kind want y) ≡ value (added want y.is_formula nothing node (start node)) (weights (y ∷ ys))
over-one want y ys =
    let one = added-value want (start node) [] nothing node y refl in
    ap₂ plus (sym node-none) (sym (times-settled node (as_kind want y))) ∙ sym one

-- The first of several that are grouped.

first : (want : Bool) (c : Weight) (y : Weighed) → value (added want y.is_formula nothing c (start nothing)) (y.weight ∷ []) ≡ times c (as_kind want y)
first want c y =
    added-value want (start nothing) [] nothing c y refl ∙ ap₂ plus none-none (times-settled c (as_kind want y)) ∙ times-settled c (as_kind want y)

grouped : (want : Bool) (s : ℕ) (k : Weight) (y : Weighed) (ys : List Weighed) → times unit k ≡ k → times unit (as_kind want y) ≡ as_kind want y
    → nested k (up s) (as_kind want y) (map (as_kind want) ys)
    ≡ value (falls want s k (kinds ys) (added want y.is_formula nothing (up (s * length (kinds ys))) (start nothing))) (weights (y ∷ ys))
grouped want s k y ys hk hy =
    let c = up (s * length (kinds ys)) in
    nested-falls want s k (as_kind want y) ys hk hy ∙ ap (λ z. plus z (falls_weight want s k ys)) (sym (first want c y))
    ∙ sym (falls-value want s k ys (added want y.is_formula nothing c (start nothing)) (y.weight ∷ []) refl)

each-formula : (ss : List Said) → map weight (map formula_in ss) ≡ map (as_kind true) (map weighed ss)
each-formula [] = refl
each-formula (s ∷ ss) = ap₂ (λ x xs. x ∷ xs) (formula-kind s) (each-formula ss)

each-term : (ss : List Said) → map term_weight (map term_in ss) ≡ map (as_kind false) (map weighed ss)
each-term [] = refl
each-term (s ∷ ss) = ap₂ (λ x xs. x ∷ xs) (term-kind s) (each-term ss)

unit-kind : (s : Said) → times unit (as_kind true (weighed s)) ≡ as_kind true (weighed s)
unit-kind s = ap (times unit) (sym (formula-kind s)) ∙ unit-formula (formula_in s) ∙ formula-kind s

unit-other : (s : Said) → times unit (as_kind false (weighed s)) ≡ as_kind false (weighed s)
unit-other s = ap (times unit) (sym (term-kind s)) ∙ unit-term (term_in s) ∙ term-kind s

either-law : (s : Said) (ss : List Said) → weight (either_said (formula_in s) (map formula_in ss))
    ≡ value (falls true 2 (plus node (up 2)) (kinds (map weighed ss)) (added true (weighed s).is_formula nothing (up (2 * length (kinds (map weighed ss)))) (start nothing))) (weights (weighed s ∷ map weighed ss))
either-law s ss =
    either-nested (formula_in s) (map formula_in ss) ∙ ap₂ (nested (plus node (up 2)) (up 2)) (formula-kind s) (each-formula ss)
    ∙ grouped true 2 (plus node (up 2)) (weighed s) (map weighed ss) (times-plus unit node (up 2) ∙ ap₂ plus unit-node (unit-up 2)) (unit-kind s)

product-law : (s : Said) (ss : List Said) → term_weight (multiplied (term_in s) (map term_in ss))
    ≡ value (falls false 1 node (kinds (map weighed ss)) (added false (weighed s).is_formula nothing (up (1 * length (kinds (map weighed ss)))) (start nothing))) (weights (weighed s ∷ map weighed ss))
product-law s ss =
    multiplied-nested (term_in s) (map term_in ss) ∙ ap₂ (nested node node) (term-kind s) (each-term ss) ∙ grouped false 1 node (weighed s) (map weighed ss) unit-node (unit-other s)

implied-law : (s : Said) (ss : List Said) → times unit (implied_weight (map (as_kind true) (map weighed (s ∷ ss)))) ≡ implied_weight (map (as_kind true) (map weighed (s ∷ ss)))
    → weight (implied_said (map formula_in (s ∷ ss))) ≡ value (rises 0 (kinds (map weighed (s ∷ ss))) (start nothing)) (weights (map weighed (s ∷ ss)))
implied-law s ss h =
    let ys = map weighed (s ∷ ss) in
    implied-weight (map formula_in (s ∷ ss)) ∙ ap implied_weight (each-formula (s ∷ ss)) ∙ sym h ∙ implied-rises 0 (weighed s) (map weighed ss)
    ∙ settle (weighed s) (map weighed ss) ∙ sym (rises-value 0 ys (start nothing) [] refl)
  where
    settle : (y : Weighed) (ys : List Weighed) → rises_weight 0 (y ∷ ys) ≡ plus (plus nothing nothing) (rises_weight 0 (y ∷ ys))
    settle y ys = sym (ap (λ z. plus z (rises_weight 0 (y ∷ ys))) none-none ∙ none-plus _ _)

subtracted-law : (s : Said) (ss : List Said) → term_weight (subtracted (map term_in (s ∷ ss)))
    ≡ value (each false (up 2) (up 2) (kinds (map weighed ss)) (added false (weighed s).is_formula nothing node (start node))) (weights (weighed s ∷ map weighed ss))
subtracted-law s [] = ap over (term-kind s) ∙ over-one false (weighed s) []
subtracted-law s (t ∷ ss) =
    let first = added false (weighed s).is_formula nothing node (start node) in
    let rest = term_weights (expressions (map logic.minus (map term_in (t ∷ ss)))) in
    ap (plus node) (times-plus node (term_weight (term_in s)) rest) ∙ sym (plus-regrouped node (times node (term_weight (term_in s))) (times node rest))
    ∙ ap₂ plus (ap over (term-kind s) ∙ over-one false (weighed s) []) (each-minus (t ∷ ss))
    ∙ sym (each-value false (up 2) (up 2) (map weighed (t ∷ ss)) first ((weighed s).weight ∷ []) refl)

-- `ite`

twice : (w : Weight) → times unit w ≡ w → plus w w ≡ times (many 2) w
twice w h = ap (λ z. plus z z) (sym h) ∙ sym (times-sum unit unit w) ∙ ap (λ z. times z w) (many-more 1)

-- the argument of a condition and of two sides, one after the other
choice-steps : (k a b d c x t : Weight) → plus (plus (plus k (plus nothing (times a c))) (plus nothing (times b x))) (plus nothing (times d t)) ≡ plus k (plus (times a c) (plus (times b x) (times d t)))
choice-steps k a b d c x t =
    ap₂ plus (ap₂ plus (ap (plus k) (times-settled a c)) (times-settled b x)) (times-settled d t) ∙ plus-regrouped (plus k (times a c)) (times b x) (times d t)
    ∙ plus-regrouped k (times a c) (plus (times b x) (times d t))

choice-value : (k a b d : Weight) (want : Bool) (c s t : Weighed) (ws : List Weight)
    → value (added want t.is_formula nothing d (kept nothing b (added true c.is_formula nothing a (start k)))) (c.weight ∷ (s.weight ∷ (t.weight ∷ ws)))
    ≡ plus (plus k nothing) (plus (times a (as_kind true c)) (plus (times b s.weight) (times d (as_kind want t))))
choice-value k a b d want c s t ws =
    let f = added true c.is_formula nothing a (start k) in
    let g = kept nothing b f in
    added-value want g (c.weight ∷ (s.weight ∷ [])) nothing d t refl
    ∙ ap (λ z. plus z (plus nothing (times d (as_kind want t)))) (kept-value f (c.weight ∷ []) nothing b s.weight refl
    ∙ ap (λ z. plus z (plus nothing (times b s.weight))) (added-value true (start k) [] nothing a c refl))
    ∙ choice-steps (plus k nothing) a b d (as_kind true c) s.weight (as_kind want t)

term-choice : (c x t : Weight) → over (plus c (plus x t)) ≡ plus (plus node nothing) (plus (times node c) (plus (times node x) (times node t)))
term-choice c x t = ap₂ plus (sym node-none) (times-plus node c (plus x t) ∙ ap (plus (times node c)) (times-plus node x t))

formula-choice : (c f g : Weight) → times unit g ≡ g → over (plus (over (plus c f)) (plus (over (plus c (plus g nothing))) nothing))
    ≡ plus (plus (plus node (times (many 2) (up 2))) nothing) (plus (times (times (many 2) (up 2)) c) (plus (times (up 2) f) (times (up 2) g)))
formula-choice c f g h =
    let u = up 2 in
    let m = times (many 2) u in
    let bare : plus g nothing ≡ g = ap (λ z. plus z nothing) (sym h) ∙ settled-times unit g ∙ h in
    let two : plus u u ≡ m = twice u (unit-up 2) in
    ap (λ z. over (plus (over (plus c f)) z)) (plus-settled node (times node (plus c (plus g nothing))) ∙ ap (λ z. over (plus c z)) bare)
    ∙ ap (plus node) (times-plus node (over (plus c f)) (over (plus c g)) ∙ ap₂ plus (deeper f) (deeper g)
    ∙ crossed u (plus (times u c) (times u f)) u (plus (times u c) (times u g))
    ∙ ap₂ plus two (crossed (times u c) (times u f) (times u c) (times u g) ∙ ap (λ z. plus z (plus (times u f) (times u g))) (sym (times-sum u u c) ∙ ap (λ z. times z c) two)))
    ∙ sym (ap (λ z. plus z (plus (times m c) (plus (times u f) (times u g)))) (plus-settled node m) ∙ plus-regrouped node m (plus (times m c) (plus (times u f) (times u g))))
  where
    deeper : (x : Weight) → times node (over (plus c x)) ≡ plus (up 2) (plus (times (up 2) c) (times (up 2) x))
    deeper x =
        times-plus node node (times node (plus c x))
        ∙ ap₂ plus (up-once 1) (sym (times-regrouped node node (plus c x)) ∙ ap (λ z. times z (plus c x)) (up-once 1) ∙ times-plus (up 2) c x)

choice-law : (c s t : Said) (ss : List Said) → weighed (chosen_said (formula_in c) s t)
    ≡ record { is_formula = (weighed s).is_formula; weight = value (choice (weighed c).is_formula (weighed s).is_formula (weighed t).is_formula) (weights (map weighed (c ∷ (s ∷ (t ∷ ss))))) }
choice-law c (a_term x) t ss =
    ap (λ w. let r : Weighed = record { is_formula = false; weight = w } in r)
    (ap₂ (λ y z. over (plus y (plus (term_weight x) z))) (formula-kind c) (term-kind t) ∙ term-choice (as_kind true (weighed c)) (term_weight x) (as_kind false (weighed t))
    ∙ sym (choice-value node node node node false (weighed c) (weighed (a_term x)) (weighed t) (weights (map weighed ss))))
choice-law c (a_formula f) t ss =
    ap (λ w. let r : Weighed = record { is_formula = true; weight = w } in r)
    (ap₂ (λ y z. over (plus (over (plus y (weight f))) (plus (over (plus y (plus z nothing))) nothing))) (formula-kind c) (formula-kind t)
    ∙ formula-choice (as_kind true (weighed c)) (weight f) (as_kind true (weighed t)) (unit-kind t)
    ∙ sym (choice-value (plus node (times (many 2) (up 2))) (times (many 2) (up 2)) (up 2) (up 2) true (weighed c) (weighed (a_formula f)) (weighed t) (weights (map weighed ss))))

-- All of them.

abbrev made : Bool → Weight → Weighed
made b w = record { is_formula = b; weight = w }

unit-implied : (y z : Weighed) (ys : List Weighed) → times unit (implied_weight (map (as_kind true) (y ∷ (z ∷ ys)))) ≡ implied_weight (map (as_kind true) (y ∷ (z ∷ ys)))
unit-implied y z ys = unit-over (plus (as_kind true y) (implied_weight (map (as_kind true) (z ∷ ys))))

pub operator-law : (o : Operator) (ss : List Said) → weighed (operated o ss) ≡ shapes.operated o (map weighed ss)
operator-law (op.Truth b) ss = ap (made true) (sym node-none)
operator-law op.Not [] = ap (made true) (sym node-none)
operator-law op.Not (s ∷ ss) = ap (made true) (ap over (formula-kind s) ∙ over-one true (weighed s) (map weighed ss))
operator-law op.And [] = ap (made true) (over-formulas [])
operator-law op.And (s ∷ []) = ap (made (weighed s).is_formula) (alone (weighed s).weight (unit-said s))
operator-law op.And (s ∷ (t ∷ ss)) = ap (made true) (over-formulas (s ∷ (t ∷ ss)))
operator-law op.Or [] = ap (made true) (over-formulas [])
operator-law op.Or (s ∷ []) = ap (made (weighed s).is_formula) (alone (weighed s).weight (unit-said s))
operator-law op.Or (s ∷ (t ∷ ss)) = ap (made true) (over-formulas (s ∷ (t ∷ ss)))
operator-law op.Xor [] = ap (made true) (sym node-none)
operator-law op.Xor (s ∷ []) = ap (made (weighed s).is_formula) (alone (weighed s).weight (unit-said s))
operator-law op.Xor (s ∷ (t ∷ ss)) = ap (made true) (either-law s (t ∷ ss))
operator-law op.Implies [] = ap (made true) (ap (plus node) (times-none node))
operator-law op.Implies (s ∷ []) = ap (made (weighed s).is_formula) (alone (weighed s).weight (unit-said s))
operator-law op.Implies (s ∷ (t ∷ ss)) = ap (made true) (implied-law s (t ∷ ss) (unit-implied (weighed s) (weighed t) (map weighed ss)))
operator-law op.Equal ss = ap (made true) (joined-weight (neighbours equal_said ss) ∙ ap joined_weight (neighbours-near equal_said (near false) equal-near ss) ∙ chained false (map weighed ss))
operator-law op.Distinct ss = ap (made true) (joined-weight (pairs unequal_said ss) ∙ ap joined_weight (pairs-differ ss) ∙ paired (map weighed ss))
operator-law op.Choose [] = ap (made true) (sym node-none)
operator-law op.Choose (c ∷ []) = ap (made true) (sym node-none)
operator-law op.Choose (c ∷ (s ∷ [])) = ap (made true) (sym node-none)
operator-law op.Choose (c ∷ (s ∷ (t ∷ ss))) = choice-law c s t ss
operator-law (op.Compare r) ss =
    ap (made true) (joined-weight (neighbours (compared_said r) ss) ∙ ap joined_weight (neighbours-near (compared_said r) (near true) (compared-near r) ss) ∙ chained true (map weighed ss))
operator-law op.Plus [] = ap (made false) (over-terms [])
operator-law op.Plus (s ∷ []) = ap (made (weighed s).is_formula) (alone (weighed s).weight (unit-said s))
operator-law op.Plus (s ∷ (t ∷ ss)) = ap (made false) (over-terms (s ∷ (t ∷ ss)))
operator-law op.Minus [] = ap (made false) (ap (plus node) (times-none node))
operator-law op.Minus (s ∷ ss) = ap (made false) (subtracted-law s ss)
operator-law op.Times [] = ap (made true) (sym node-none)
operator-law op.Times (s ∷ []) = ap (made (weighed s).is_formula) (alone (weighed s).weight (unit-said s))
operator-law op.Times (s ∷ (t ∷ ss)) = ap (made false) (product-law s (t ∷ ss))
operator-law op.Abs [] = ap (made true) (sym node-none)
operator-law op.Abs (s ∷ ss) = ap (made false) (ap over (term-kind s) ∙ over-one false (weighed s) (map weighed ss))
