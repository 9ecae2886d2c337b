-- Sums and products of weights: they are a commutative semiring, but that a sum or a product is cut off above the limits, also of
-- one thing.
use Rattle.std.proofs.Common.{◌≡◌, ℕ, zero, suc, ◌+◌, ◌*◌, ◌-◌, ◌<◌, ◌≤◌, ◌&&◌, Bool, true, false, nat_le, nat_lt, min, max, refl, sym, ap, ap₂, ◌∙◌, arith, if◌then◌else◌}
use Rattle.smt_sizes.specs.declared.size.Size.{Size}
use Rattle.smt_sizes.specs.declared.size.Size.TheVariants.{Large, Fits}
use Rattle.smt_sizes.specs.declared.weight.Weight.{Weight}
use Rattle.smt_sizes.specs.Weight.{nothing, unit, node, onward, plus, times, many, up, over, fitted}

abbrev weight : ℕ → ℕ → Weight
weight n r = record { nodes = n; reach = r }

-- Products that are cut off.

cut : (a b c : ℕ) → min (a * min b (suc c)) (suc c) ≡ min (a * b) (suc c)
cut a b c = by (nat_le b (suc c)) refl
  where
    most : (a : ℕ) → suc c < b → min (a * suc c) (suc c) ≡ min (a * b) (suc c)
    most zero h = omega arith
    most (suc a) h =
        let left : suc c ≤ suc a * suc c = omega arith in
        let right : suc c ≤ suc a * b = omega (arith, h) in
        omega (arith, left, right)

    by : (t : Bool) → nat_le b (suc c) ≡ t → min (a * min b (suc c)) (suc c) ≡ min (a * b) (suc c)
    by true h =
        let less : b ≤ suc c = grind (arith, h) in
        let is : min b (suc c) ≡ b = omega (arith, less) in
        ap (λ z. min (a * z) (suc c)) is
    by false h =
        let more : suc c < b = grind (arith, h) in
        let is : min b (suc c) ≡ suc c = omega (arith, more) in
        ap (λ z. min (a * z) (suc c)) is ∙ most a more

cut-left : (a b c : ℕ) → min (min a (suc c) * b) (suc c) ≡ min (a * b) (suc c)
cut-left a b c =
    let turned : min a (suc c) * b ≡ b * min a (suc c) = omega arith in
    let back : b * a ≡ a * b = omega arith in
    ap (λ z. min z (suc c)) turned ∙ cut b a c ∙ ap (λ z. min z (suc c)) back

onward-none : (r : ℕ) → onward r 0 ≡ 0
onward-none zero = refl
onward-none (suc r) = refl

onward-turned : (r s : ℕ) → onward r s ≡ onward s r
onward-turned zero s = sym (onward-none s)
onward-turned (suc r) zero = refl
onward-turned (suc r) (suc s) = let is : suc (r + s) ≡ suc (s + r) = omega arith in is

onward-cut : (r s c : ℕ) → min (onward r (min s (suc c))) (suc c) ≡ min (onward r s) (suc c)
onward-cut zero s c = refl
onward-cut (suc r) zero c = let is : min 0 (suc c) ≡ 0 = omega arith in ap (λ z. min (onward (suc r) z) (suc c)) is
onward-cut (suc r) (suc s) c =
    let is : min (suc s) (suc c) ≡ suc (min s c) = omega arith in
    let after : min (suc (r + min s c)) (suc c) ≡ min (suc (r + s)) (suc c) = omega arith in
    ap (λ z. min (onward (suc r) z) (suc c)) is ∙ after

onward-max : (r s t : ℕ) → onward r (max s t) ≡ max (onward r s) (onward r t)
onward-max zero s t = refl
onward-max (suc r) zero zero = refl
onward-max (suc r) zero (suc t) =
    let is : max 0 (suc t) ≡ suc t = omega arith in
    let after : suc (r + t) ≡ max 0 (suc (r + t)) = omega arith in
    ap (onward (suc r)) is ∙ after
onward-max (suc r) (suc s) zero =
    let is : max (suc s) 0 ≡ suc s = omega arith in
    let after : suc (r + s) ≡ max (suc (r + s)) 0 = omega arith in
    ap (onward (suc r)) is ∙ after
onward-max (suc r) (suc s) (suc t) =
    let is : max (suc s) (suc t) ≡ suc (max s t) = omega arith in
    let after : suc (r + max s t) ≡ max (suc (r + s)) (suc (r + t)) = omega arith in
    ap (onward (suc r)) is ∙ after

onward-onward : (r s t : ℕ) → onward r (onward s t) ≡ onward (onward r s) t
onward-onward zero s t = refl
onward-onward (suc r) zero t = refl
onward-onward (suc r) (suc s) zero = refl
onward-onward (suc r) (suc s) (suc t) = let is : suc (r + (s + t)) ≡ suc (r + s + t) = omega arith in is

-- Sums.

pub plus-turned : (a b : Weight) → plus a b ≡ plus b a
unfolding plus
plus-turned a b =
    let n : min (a.nodes + b.nodes) 1000001 ≡ min (b.nodes + a.nodes) 1000001 = omega arith in
    let r : max a.reach b.reach ≡ max b.reach a.reach = omega arith in
    ap₂ weight n r

pub plus-regrouped : (a b c : Weight) → plus (plus a b) c ≡ plus a (plus b c)
unfolding plus
plus-regrouped a b c =
    let n : min (min (a.nodes + b.nodes) 1000001 + c.nodes) 1000001 ≡ min (a.nodes + min (b.nodes + c.nodes) 1000001) 1000001 = omega arith in
    let r : max (max a.reach b.reach) c.reach ≡ max a.reach (max b.reach c.reach) = omega arith in
    ap₂ weight n r

-- a sum is cut off already
pub plus-settled : (a b : Weight) → plus (plus a b) nothing ≡ plus a b
unfolding plus
plus-settled a b =
    let n : min (min (a.nodes + b.nodes) 1000001 + 0) 1000001 ≡ min (a.nodes + b.nodes) 1000001 = omega arith in
    let r : max (max a.reach b.reach) 0 ≡ max a.reach b.reach = omega arith in
    ap₂ weight n r

-- so is a product
pub times-settled : (a b : Weight) → plus nothing (times a b) ≡ times a b
unfolding plus times
times-settled a b =
    let n : min (0 + min (a.nodes * b.nodes) 1000001) 1000001 ≡ min (a.nodes * b.nodes) 1000001 = omega arith in
    let r : max 0 (min (onward a.reach b.reach) 2002) ≡ min (onward a.reach b.reach) 2002 = omega arith in
    ap₂ weight n r

-- Products.

pub times-turned : (a b : Weight) → times a b ≡ times b a
unfolding times
times-turned a b =
    let n : a.nodes * b.nodes ≡ b.nodes * a.nodes = omega arith in
    ap₂ (λ x y. weight (min x 1000001) (min y 2002)) n (onward-turned a.reach b.reach)

pub times-plus : (w a b : Weight) → times w (plus a b) ≡ plus (times w a) (times w b)
unfolding plus times
times-plus w a b =
    let spread : w.nodes * (a.nodes + b.nodes) ≡ w.nodes * a.nodes + w.nodes * b.nodes = omega arith in
    let after : min (w.nodes * a.nodes + w.nodes * b.nodes) 1000001 ≡ min (min (w.nodes * a.nodes) 1000001 + min (w.nodes * b.nodes) 1000001) 1000001 = omega arith in
    let r : min (max (onward w.reach a.reach) (onward w.reach b.reach)) 2002 ≡ max (min (onward w.reach a.reach) 2002) (min (onward w.reach b.reach) 2002) = omega arith in
    ap₂ weight (cut w.nodes (a.nodes + b.nodes) 1000000 ∙ ap (λ z. min z 1000001) spread ∙ after) (ap (λ z. min z 2002) (onward-max w.reach a.reach b.reach) ∙ r)

pub times-regrouped : (a b c : Weight) → times (times a b) c ≡ times a (times b c)
unfolding times
times-regrouped a b c =
    let n : a.nodes * b.nodes * c.nodes ≡ a.nodes * (b.nodes * c.nodes) = omega arith in
    ap₂ weight
    (cut-left (a.nodes * b.nodes) c.nodes 1000000 ∙ ap (λ z. min z 1000001) n ∙ sym (cut a.nodes (b.nodes * c.nodes) 1000000))
    (ap (λ z. min z 2002) (onward-turned (min (onward a.reach b.reach) 2002) c.reach) ∙ onward-cut c.reach (onward a.reach b.reach) 2001
    ∙ ap (λ z. min z 2002) (onward-turned c.reach (onward a.reach b.reach) ∙ sym (onward-onward a.reach b.reach c.reach)) ∙ sym (onward-cut a.reach (onward b.reach c.reach) 2001))

pub times-none : (w : Weight) → times w nothing ≡ nothing
unfolding times
times-none w =
    let n : min (w.nodes * 0) 1000001 ≡ 0 = omega arith in
    ap₂ weight n (ap (λ z. min z 2002) (onward-none w.reach))

pub none-times : (a : Weight) → times nothing a ≡ nothing
none-times a = times-turned nothing a ∙ times-none a

-- a factor is cut off already
pub times-unit : (w a : Weight) → times w (times unit a) ≡ times w a
unfolding times
times-unit w a =
    let n : 1 * a.nodes ≡ a.nodes = omega arith in
    ap₂ weight (ap (λ z. min (w.nodes * min z 1000001) 1000001) n ∙ cut w.nodes a.nodes 1000000) (onward-cut w.reach (onward 1 a.reach) 2001 ∙ ap (λ z. min (onward w.reach z) 2002) (one a.reach))
  where
    one : (r : ℕ) → onward 1 r ≡ r
    one zero = refl
    one (suc r) = let is : suc (0 + r) ≡ suc r = omega arith in is

pub unit-times : (a b : Weight) → times unit (times a b) ≡ times a b
unit-times a b = times-turned unit (times a b) ∙ times-regrouped a b unit ∙ ap (times a) (times-turned b unit) ∙ times-unit a b

-- Powers.

pub up-once : (k : ℕ) → times node (up k) ≡ up (suc k)
unfolding times
up-once k = let r : min (suc (1 + min k 2001)) 2002 ≡ suc (min (suc k) 2001) = omega arith in ap (weight 1) r

pub up-up : (j k : ℕ) → times (up j) (up k) ≡ up (j + k)
unfolding times
up-up j k = let r : min (suc (min j 2001 + min k 2001)) 2002 ≡ suc (min (j + k) 2001) = omega arith in ap (weight 1) r

pub many-more : (k : ℕ) → plus unit (many k) ≡ many (suc k)
unfolding plus
many-more k =
    let n : min (1 + min k 1000001) 1000001 ≡ min (suc k) 1000001 = omega arith in
    let r : max 1 (min k 1) ≡ min (suc k) 1 = omega arith in
    ap₂ weight n r

-- Sums of several.

pub times-sum : (a b w : Weight) → times (plus a b) w ≡ plus (times a w) (times b w)
times-sum a b w = times-turned (plus a b) w ∙ times-plus w a b ∙ ap₂ plus (times-turned w a) (times-turned w b)

pub settled-times : (a b : Weight) → plus (times a b) nothing ≡ times a b
settled-times a b = plus-turned (times a b) nothing ∙ times-settled a b

pub none-plus : (a b : Weight) → plus nothing (plus a b) ≡ plus a b
none-plus a b = plus-turned nothing (plus a b) ∙ plus-settled a b

-- the first two change places
pub swapped : (a b c : Weight) → plus a (plus b c) ≡ plus b (plus a c)
swapped a b c = sym (plus-regrouped a b c) ∙ ap (λ z. plus z c) (plus-turned a b) ∙ plus-regrouped b a c

-- the middle two change places
pub crossed : (a b c d : Weight) → plus (plus a b) (plus c d) ≡ plus (plus a c) (plus b d)
crossed a b c d = plus-regrouped a b (plus c d) ∙ ap (plus a) (swapped b c d) ∙ sym (plus-regrouped a c (plus b d))

pub none-none : plus nothing nothing ≡ nothing
unfolding plus
none-none = refl

pub node-none : plus node nothing ≡ node
unfolding plus
node-none = refl

pub unit-node : times unit node ≡ node
unfolding times
unit-node = refl

pub unit-up : (k : ℕ) → times unit (up k) ≡ up k
unit-up k = up-up 0 k ∙ ap up (let is : 0 + k ≡ k = omega arith in is)

pub unit-over : (a : Weight) → times unit (over a) ≡ over a
unit-over a = times-plus unit node (times node a) ∙ ap₂ plus unit-node (unit-times node a)

-- What fits.

abbrev fit : ℕ → ℕ → Size
fit n r = if nat_lt n 1000001 && nat_lt r 2002 then Fits n (r - 1) else Large

fit-cut : (n r : ℕ) → fit (min n 1000001) (min r 2002) ≡ fit n r
fit-cut n r = by (nat_lt n 1000001) refl (nat_lt r 2002) refl
  where
    wide : nat_lt n 1000001 ≡ false → fit (min n 1000001) (min r 2002) ≡ fit n r
    wide h =
        let g : nat_lt (min n 1000001) 1000001 ≡ false = grind (arith, h) in
        ap (λ z. if z && nat_lt (min r 2002) 2002 then Fits (min n 1000001) (min r 2002 - 1) else Large) g
        ∙ sym (ap (λ z. if z && nat_lt r 2002 then Fits n (r - 1) else Large) h)

    deep : min n 1000001 ≡ n → nat_lt r 2002 ≡ false → nat_lt n 1000001 ≡ true → fit (min n 1000001) (min r 2002) ≡ fit n r
    deep e h t =
        let g : nat_lt (min r 2002) 2002 ≡ false = grind (arith, h) in
        ap (λ z. fit z (min r 2002)) e ∙ ap₂ (λ x y. if x && y then Fits n (min r 2002 - 1) else Large) t g
        ∙ sym (ap₂ (λ x y. if x && y then Fits n (r - 1) else Large) t h)

    by : (a : Bool) → nat_lt n 1000001 ≡ a → (b : Bool) → nat_lt r 2002 ≡ b → fit (min n 1000001) (min r 2002) ≡ fit n r
    by false h b k = wide h
    by true h false k = let e : min n 1000001 ≡ n = grind (arith, h) in deep e k h
    by true h true k =
        let e : min n 1000001 ≡ n = grind (arith, h) in
        let f : min r 2002 ≡ r = grind (arith, k) in
        ap₂ fit e f

pub fitted-unit : (a : Weight) → fitted (times unit a) ≡ fitted a
unfolding times
fitted-unit a =
    let n : 1 * a.nodes ≡ a.nodes = omega arith in
    ap₂ (λ x y. fit (min x 1000001) (min y 2002)) n (one a.reach) ∙ fit-cut a.nodes a.reach
  where
    one : (r : ℕ) → onward 1 r ≡ r
    one zero = refl
    one (suc r) = let is : suc (0 + r) ≡ suc r = omega arith in is
