-- Pairs: what is said of each two that are to be different.
use Rattle.std.proofs.Common.{◌≡◌, ℕ, zero, suc, ◌-◌, Bool, true, false, List, [], ◌∷◌, ◌++◌, map, length, refl, sym, ap, ap₂, ◌∙◌, arith, if◌then◌else◌}
use Rattle.std.specs.Bool.{beq}
use Rattle.smt_terms.specs.Operators.{pairs}
use Rattle.std.proofs.lemmas.List.{map-append}
use Rattle.smt_terms.specs.Translation.{Said, a_formula, a_term, unequal_said}
use Rattle.smt_sizes.specs.declared.weight.Weight.{Weight}
use Rattle.smt_sizes.specs.Weight.{nothing, unit, node, plus, times, many, up, over}
use Rattle.smt_sizes.specs.Weights.{Weighed, weighed, weight}
use Rattle.smt_sizes.specs.Linear.{value, start, kinds, weights}
use Rattle.smt_sizes.specs.Operators.{joint, inside, number_of, of_pairs, in_pairs, by_kind}
use Rattle.smt_sizes.proofs.Algebra.{plus-regrouped, plus-settled, times-settled, settled-times, none-times, times-none, times-plus, times-sum, times-regrouped, unit-times, unit-node, unit-over, none-plus, none-none, swapped, crossed, many-more}
use Rattle.smt_sizes.proofs.Steps.{kind_weight, kind-value}
use Rattle.smt_sizes.proofs.Sums.{total, total-append, twice-over}
use Rattle.smt_sizes.proofs.Chains.{joined_weight}

-- what is said of one of a kind and another one
abbrev pub differs : Bool → Weight → Weighed → Weight
differs b w z = if beq z.is_formula b then (if b then over (over (plus w z.weight)) else over (plus w z.weight)) else node

abbrev pub differ : Weighed → Weighed → Weight
differ y = differs y.is_formula y.weight

pub unequal-differ : (s t : Said) → weight (unequal_said s t) ≡ differ (weighed s) (weighed t)
unequal-differ (a_term s) (a_term t) = refl
unequal-differ (a_formula f) (a_formula g) = refl
unequal-differ (a_term s) (a_formula g) = refl
unequal-differ (a_formula f) (a_term t) = refl

each-differ : (s : Said) (ss : List Said) → map weight (map (unequal_said s) ss) ≡ map (differ (weighed s)) (map weighed ss)
each-differ s [] = refl
each-differ s (t ∷ ss) = ap₂ (λ x xs. x ∷ xs) (unequal-differ s t) (each-differ s ss)

pub pairs-differ : (ss : List Said) → map weight (pairs unequal_said ss) ≡ pairs differ (map weighed ss)
pairs-differ [] = refl
pairs-differ (s ∷ ss) = map-append weight (map (unequal_said s) ss) (pairs unequal_said ss) ∙ ap₂ (λ x y. x ++ y) (each-differ s ss) (pairs-differ ss)

-- where one of a kind stands in what is said of it and another
abbrev place : Weight → Bool → Weight
place m b = times m (if b then up 2 else node)

-- all of a kind
abbrev of_kind : Weight → Bool → List Weighed → Weight
of_kind m b [] = nothing
of_kind m b (y ∷ ys) = plus (if beq y.is_formula b then times (place m b) y.weight else nothing) (of_kind m b ys)

one-more : (n : ℕ) (w : Weight) → times unit w ≡ w → plus w (times (many n) w) ≡ times (many (suc n)) w
one-more n w h = ap (λ z. plus z (times (many n) w)) (sym h) ∙ sym (times-sum unit (many n) w) ∙ ap (λ z. times z w) (many-more n)

-- what a pair weighs below a place
same-true : (m w : Weight) (z : Weighed) → times m (over (over (plus w z.weight)))
    ≡ plus (plus (times m node) (times m (up 2))) (plus (times (place m true) w) (times (place m true) z.weight))
same-true m w z =
    ap (times m) (twice-over (plus w z.weight)) ∙ times-plus m (plus node (up 2)) (times (up 2) (plus w z.weight))
    ∙ ap₂ plus (times-plus m node (up 2)) (sym (times-regrouped m (up 2) (plus w z.weight)) ∙ times-plus (times m (up 2)) w z.weight)

same-false : (m w : Weight) (z : Weighed) → times m (over (plus w z.weight)) ≡ plus (times m node) (plus (times (place m false) w) (times (place m false) z.weight))
same-false m w z =
    times-plus m node (times node (plus w z.weight)) ∙ ap (plus (times m node)) (sym (times-regrouped m node (plus w z.weight)) ∙ times-plus (times m node) w z.weight)

of-kind-settled : (m : Weight) (b : Bool) (ys : List Weighed) → plus nothing (of_kind m b ys) ≡ of_kind m b ys
of-kind-settled m b [] = none-none
of-kind-settled m b (y ∷ ys) = none-plus (if beq y.is_formula b then times (place m b) y.weight else nothing) (of_kind m b ys)

of-kind-unit : (m : Weight) (b : Bool) (ys : List Weighed) → times unit (of_kind m b ys) ≡ of_kind m b ys
of-kind-unit m b [] = times-none unit
of-kind-unit m b (y ∷ ys) =
    times-plus unit (if beq y.is_formula b then times (place m b) y.weight else nothing) (of_kind m b ys) ∙ ap₂ plus (by (beq y.is_formula b)) (of-kind-unit m b ys)
  where
    by : (t : Bool) → times unit (if t then times (place m b) y.weight else nothing) ≡ (if t then times (place m b) y.weight else nothing)
    by true = unit-times (place m b) y.weight
    by false = times-none unit

-- One with each of the others.

abbrev ones : Weight → Bool → Weight → List Weighed → Weight
ones m b w ys = plus (times (many (number_of b (kinds ys))) (times (place m b) w)) (of_kind m b ys)

ones-more : (m : Weight) (b : Bool) (w : Weight) (z : Weighed) (ys : List Weighed) (t : Bool)
    → plus (if t then plus (times (place m b) w) (times (place m b) z.weight) else nothing) (ones m b w ys)
    ≡ plus (times (many (if t then suc (number_of b (kinds ys)) else number_of b (kinds ys))) (times (place m b) w)) (plus (if t then times (place m b) z.weight else nothing) (of_kind m b ys))
ones-more m b w z ys true =
    let u = times (place m b) w in
    crossed u (times (place m b) z.weight) (times (many (number_of b (kinds ys))) u) (of_kind m b ys)
    ∙ ap (λ x. plus x (plus (times (place m b) z.weight) (of_kind m b ys))) (one-more (number_of b (kinds ys)) u (unit-times (place m b) w))
ones-more m b w z ys false =
    let k = times (many (number_of b (kinds ys))) (times (place m b) w) in
    none-plus k (of_kind m b ys) ∙ ap (plus k) (sym (of-kind-settled m b ys))

none-many : (w : Weight) → nothing ≡ times (many 0) w
none-many w = sym (none-times w)

-- the second node of each pair of formulas
abbrev second : Weight → Bool → List Weighed → Weight
second m b ys = if b then times (many (number_of true (kinds ys))) (times m (up 2)) else nothing

second-more : (m : Weight) (b : Bool) (z : Weighed) (ys : List Weighed)
    → plus (if beq z.is_formula b then (if b then times m (up 2) else nothing) else nothing) (second m b ys) ≡ second m b (z ∷ ys)
second-more m true z ys = by (beq z.is_formula true)
  where
    by : (t : Bool) → plus (if t then times m (up 2) else nothing) (times (many (number_of true (kinds ys))) (times m (up 2)))
        ≡ times (many (if t then suc (number_of true (kinds ys)) else number_of true (kinds ys))) (times m (up 2))
    by true = one-more (number_of true (kinds ys)) (times m (up 2)) (unit-times m (up 2))
    by false = times-settled (many (number_of true (kinds ys))) (times m (up 2))
second-more m false z ys = by (beq z.is_formula false)
  where
    by : (t : Bool) → plus (if t then nothing else nothing) nothing ≡ nothing
    by true = none-none
    by false = none-none

differs-at : (m : Weight) (b : Bool) (w : Weight) (z : Weighed) (t : Bool)
    → times m (if t then (if b then over (over (plus w z.weight)) else over (plus w z.weight)) else node)
    ≡ plus (plus (times m node) (if t then (if b then times m (up 2) else nothing) else nothing)) (if t then plus (times (place m b) w) (times (place m b) z.weight) else nothing)
differs-at m true w z true = same-true m w z
differs-at m false w z true = same-false m w z ∙ ap (λ x. plus x (plus (times (place m false) w) (times (place m false) z.weight))) (sym (settled-times m node))
differs-at m b w z false = sym (ap (λ x. plus x nothing) (settled-times m node) ∙ settled-times m node)

with-each : (m : Weight) (b : Bool) (w : Weight) (ys : List Weighed)
    → times m (total (map (differs b w) ys)) ≡ plus (plus (times (many (length (kinds ys))) (times m node)) (second m b ys)) (ones m b w ys)
with-each m b w [] =
    times-none m ∙ sym none-none ∙ ap₂ plus (sym none-none ∙ ap₂ plus (none-many (times m node)) (none b)) (sym none-none ∙ ap (λ z. plus z nothing) (none-many (times (place m b) w)))
  where
    none : (b : Bool) → nothing ≡ second m b []
    none true = none-many (times m (up 2))
    none false = refl
with-each m b w (z ∷ ys) =
    let n = times m node in
    let t = beq z.is_formula b in
    let a = if t then (if b then times m (up 2) else nothing) else nothing in
    let u = if t then plus (times (place m b) w) (times (place m b) z.weight) else nothing in
    let ns = times (many (length (kinds ys))) n in
    times-plus m (differs b w z) (total (map (differs b w) ys)) ∙ ap₂ plus (differs-at m b w z t) (with-each m b w ys)
    ∙ crossed (plus n a) u (plus ns (second m b ys)) (ones m b w ys)
    ∙ ap₂ plus (crossed n a ns (second m b ys) ∙ ap₂ plus (one-more (length (kinds ys)) n (unit-times m node)) (second-more m b z ys)) (ones-more m b w z ys t)

-- Each with those after it.

of-kind-none : (m : Weight) (b : Bool) (ys : List Weighed) → number_of b (kinds ys) ≡ 0 → of_kind m b ys ≡ nothing
of-kind-none m b [] h = refl
of-kind-none m b (y ∷ ys) h = by (of-kind-none m b ys) (beq y.is_formula b) h
  where
    by : (number_of b (kinds ys) ≡ 0 → of_kind m b ys ≡ nothing) → (t : Bool) → (if t then suc (number_of b (kinds ys)) else number_of b (kinds ys)) ≡ 0
        → plus (if t then times (place m b) y.weight else nothing) (of_kind m b ys) ≡ nothing
    by l true k = absurd (omega (arith, k))
    by l false k = of-kind-settled m b ys ∙ l k

but-one : (m : Weight) (b : Bool) (ys : List Weighed) (n : ℕ) → number_of b (kinds ys) ≡ n → plus (of_kind m b ys) (times (many (n - 1)) (of_kind m b ys)) ≡ times (many n) (of_kind m b ys)
but-one m b ys zero h =
    let none = of-kind-none m b ys h in
    ap (λ x. plus x (times (many (0 - 1)) x)) none ∙ ap (plus nothing) (times-none (many (0 - 1))) ∙ none-none ∙ sym (times-none (many 0)) ∙ ap (times (many 0)) (sym none)
but-one m b ys (suc n) h =
    let is : suc n - 1 ≡ n = omega arith in
    ap (λ k. plus (of_kind m b ys) (times (many k) (of_kind m b ys))) is ∙ one-more n (of_kind m b ys) (of-kind-unit m b ys)

-- one of a kind before those after it
one-before : (m : Weight) (b : Bool) (w : Weight) (ys : List Weighed)
    → plus (ones m b w ys) (times (many (number_of b (kinds ys) - 1)) (of_kind m b ys)) ≡ times (many (suc (number_of b (kinds ys)) - 1)) (plus (times (place m b) w) (of_kind m b ys))
one-before m b w ys =
    let n = number_of b (kinds ys) in
    let u = times (place m b) w in
    let is : n ≡ suc n - 1 = omega arith in
    plus-regrouped (times (many n) u) (of_kind m b ys) (times (many (n - 1)) (of_kind m b ys)) ∙ ap (plus (times (many n) u)) (but-one m b ys n refl)
    ∙ sym (times-plus (many n) u (of_kind m b ys)) ∙ ap (λ k. times (many k) (plus u (of_kind m b ys))) is

abbrev both : Weight → List Weighed → Weight
both m ys = plus (times (many (number_of true (kinds ys) - 1)) (of_kind m true ys)) (times (many (number_of false (kinds ys) - 1)) (of_kind m false ys))

other : (m : Weight) (b : Bool) (ys : List Weighed) (k : Weight) → times k (of_kind m b ys) ≡ times k (plus nothing (of_kind m b ys))
other m b ys k = ap (times k) (sym (of-kind-settled m b ys))

both-more : (m : Weight) (b : Bool) (w : Weight) (ys : List Weighed) → plus (ones m b w ys) (both m ys) ≡ both m (record { is_formula = b; weight = w } ∷ ys)
both-more m true w ys =
    sym (plus-regrouped (ones m true w ys) (times (many (number_of true (kinds ys) - 1)) (of_kind m true ys)) (times (many (number_of false (kinds ys) - 1)) (of_kind m false ys)))
    ∙ ap₂ plus (one-before m true w ys) (other m false ys (many (number_of false (kinds ys) - 1)))
both-more m false w ys =
    swapped (ones m false w ys) (times (many (number_of true (kinds ys) - 1)) (of_kind m true ys)) (times (many (number_of false (kinds ys) - 1)) (of_kind m false ys))
    ∙ ap₂ plus (other m true ys (many (number_of true (kinds ys) - 1))) (one-before m false w ys)

pub pairs-weight : (m : Weight) (ys : List Weighed) → times m (total (pairs differ ys)) ≡ plus (of_pairs m (kinds ys)) (both m ys)
pairs-weight m [] = times-none m ∙ sym none-none ∙ ap (plus nothing) (sym none-none ∙ ap₂ plus (sym (times-none (many (0 - 1)))) (sym (times-none (many (0 - 1)))))
pairs-weight m (y ∷ ys) =
    let k = plus (times (many (length (kinds ys))) (times m node)) (second m y.is_formula ys) in
    ap (times m) (total-append (map (differ y) ys) (pairs differ ys)) ∙ times-plus m (total (map (differ y) ys)) (total (pairs differ ys))
    ∙ ap₂ plus (with-each m y.is_formula y.weight ys) (pairs-weight m ys) ∙ crossed k (ones m y.is_formula y.weight ys) (of_pairs m (kinds ys)) (both m ys)
    ∙ ap (plus (plus k (of_pairs m (kinds ys)))) (both-more m y.is_formula y.weight ys)

-- By kind.

split : (m s t : Weight) (ys : List Weighed) → kind_weight (λ b. times (if b then s else t) (place m b)) ys ≡ plus (times s (of_kind m true ys)) (times t (of_kind m false ys))
split m s t [] = sym (ap₂ plus (times-none s) (times-none t) ∙ none-none)
split m s t (y ∷ ys) = ap (plus (plus nothing (times (times (if y.is_formula then s else t) (place m y.is_formula)) y.weight))) (split m s t ys) ∙ by y.is_formula
  where
    by : (b : Bool)
        → plus (plus nothing (times (times (if b then s else t) (place m b)) y.weight)) (plus (times s (of_kind m true ys)) (times t (of_kind m false ys)))
        ≡ plus (times s (plus (if beq b true then times (place m true) y.weight else nothing) (of_kind m true ys))) (times t (plus (if beq b false then times (place m false) y.weight else nothing) (of_kind m false ys)))
    by true =
        ap (λ x. plus x (plus (times s (of_kind m true ys)) (times t (of_kind m false ys)))) (times-settled (times s (place m true)) y.weight ∙ times-regrouped s (place m true) y.weight)
        ∙ sym (plus-regrouped (times s (times (place m true) y.weight)) (times s (of_kind m true ys)) (times t (of_kind m false ys)))
        ∙ ap₂ plus (sym (times-plus s (times (place m true) y.weight) (of_kind m true ys))) (other m false ys t)
    by false =
        ap (λ x. plus x (plus (times s (of_kind m true ys)) (times t (of_kind m false ys)))) (times-settled (times t (place m false)) y.weight ∙ times-regrouped t (place m false) y.weight)
        ∙ swapped (times t (times (place m false) y.weight)) (times s (of_kind m true ys)) (times t (of_kind m false ys))
        ∙ ap₂ plus (other m true ys s) (sym (times-plus t (times (place m false) y.weight) (of_kind m false ys)))

by-number : (m : Weight) (bs : List Bool) (ys : List Weighed)
    → kind_weight (in_pairs m bs) ys ≡ kind_weight (λ b. times (if b then many (number_of true bs - 1) else many (number_of false bs - 1)) (place m b)) ys
by-number m bs [] = refl
by-number m bs (y ∷ ys) = ap₂ plus (by y.is_formula) (by-number m bs ys)
  where
    by : (b : Bool) → plus nothing (times (in_pairs m bs b) y.weight) ≡ plus nothing (times (times (if b then many (number_of true bs - 1) else many (number_of false bs - 1)) (place m b)) y.weight)
    by true = refl
    by false = refl

unit-differ : (y z : Weighed) → times unit (differ y z) ≡ differ y z
unit-differ y z = by (beq z.is_formula y.is_formula) y.is_formula
  where
    by : (t b : Bool) → times unit (if t then (if b then over (over (plus y.weight z.weight)) else over (plus y.weight z.weight)) else node)
        ≡ (if t then (if b then over (over (plus y.weight z.weight)) else over (plus y.weight z.weight)) else node)
    by true true = unit-over (over (plus y.weight z.weight))
    by true false = unit-over (plus y.weight z.weight)
    by false b = unit-node

pairs-joined : (ys : List Weighed) → joined_weight (pairs differ ys) ≡ plus (joint (kinds ys)) (times (inside (kinds ys)) (total (pairs differ ys)))
pairs-joined [] = refl
pairs-joined (y ∷ []) = refl
pairs-joined (y ∷ (z ∷ [])) =
    sym (ap (plus nothing) (times-plus unit (differ y z) nothing ∙ ap₂ plus (unit-differ y z) (times-none unit)) ∙ none-plus (differ y z) nothing
    ∙ ap (λ w. plus w nothing) (sym (unit-differ y z)) ∙ settled-times unit (differ y z) ∙ unit-differ y z)
pairs-joined (y ∷ (z ∷ (x ∷ ys))) = refl

pub paired : (ys : List Weighed)
    → joined_weight (pairs differ ys)
    ≡ value (by_kind (in_pairs (inside (kinds ys)) (kinds ys)) (kinds ys) (start (plus (joint (kinds ys)) (of_pairs (inside (kinds ys)) (kinds ys))))) (weights ys)
paired ys =
    let bs = kinds ys in
    let m = inside bs in
    let j = joint bs in
    pairs-joined ys ∙ ap (plus j) (pairs-weight m ys) ∙ sym (plus-regrouped j (of_pairs m bs) (both m ys))
    ∙ ap₂ plus (sym (plus-settled j (of_pairs m bs))) (sym (by-number m bs ys ∙ split m (many (number_of true bs - 1)) (many (number_of false bs - 1)) ys))
    ∙ sym (kind-value (in_pairs m bs) ys (start (plus j (of_pairs m bs))) [] refl)
