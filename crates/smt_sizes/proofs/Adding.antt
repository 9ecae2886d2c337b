-- What the walk down a body adds.
use Rattle.std.proofs.Common.{◌≡◌, ℕ, zero, suc, ◌+◌, ◌-◌, ◌<◌, ◌≤◌, Bool, true, false, List, [], ◌∷◌, ◌++◌, length, take, drop, get_or, replicate, refl, sym, ap, ap₂, ◌∙◌, arith, length-append, take_all, if◌then◌else◌, Result, Ok, Err, IfOk}
use Rattle.std.specs.Bool.{beq}
use Rattle.std.proofs.lemmas.List.{length-map, take-map, take-append-le}
use Rattle.smt_terms.specs.declared.operator.Operator.{Operator}
use Rattle.smt_names.specs.declared.body.Leaf.TheVariants as l
use Rattle.smt_names.specs.declared.body.Body.{Body}
use Rattle.smt_names.specs.declared.body.Body.TheVariants as b
use Rattle.smt_names.specs.Body.{shape, shapes_of}
use Rattle.smt_names.proofs.Folds.{shape-Leaf, shape-Operated}
use Rattle.smt_sizes.specs.declared.weight.Weight.{Weight}
use Rattle.smt_sizes.specs.declared.linear.Linear.{Linear}
use Rattle.smt_sizes.specs.Weight.{nothing, unit, node, plus, times, over}
use Rattle.smt_sizes.specs.Weights.{Weighed}
use Rattle.smt_sizes.specs.Linear.{Sum, sum, kinds, weights, combined, value, added_to, as_kind}
use Rattle.smt_sizes.specs.Operators.{operator_sum}
use Rattle.smt_sizes.specs.Shapes.{Weighing, term_of, shape_weighed, shapes_weighed, bound_weighed, with_variables}
use Rattle.smt_sizes.specs.Walking.{AddsWeight}
use Rattle.smt_sizes.proofs.Algebra.{plus-regrouped, times-settled, times-plus, times-none, times-unit, times-regrouped, none-times, none-none}
use Rattle.smt_sizes.proofs.Names.{and-value, node-value, last-value}
use Rattle.smt_sizes.proofs.Scopes.{bound-more}
use Rattle.smt_sizes.proofs.Parts.{parts, all_parts}

pub adds-made : (bs : List Bool) (f g : Linear) (W : List Weighed → Weight) → length g.uses.items ≡ length f.uses.items
    → ((ws : List Weighed) → bs ≡ kinds ws → length f.uses.items ≡ length ws → value (sum g) (weights ws) ≡ plus (value (sum f) (weights ws)) (W ws)) → AddsWeight bs f g W
unfolding AddsWeight
adds-made bs f g W h k = (h, k)

pub adds-count : (bs : List Bool) (f g : Linear) (W : List Weighed → Weight) → AddsWeight bs f g W → length g.uses.items ≡ length f.uses.items
unfolding AddsWeight
adds-count bs f g W h = h.0

pub adds-value : (bs : List Bool) (f g : Linear) (W : List Weighed → Weight) → AddsWeight bs f g W
    → (ws : List Weighed) → bs ≡ kinds ws → length f.uses.items ≡ length ws → value (sum g) (weights ws) ≡ plus (value (sum f) (weights ws)) (W ws)
unfolding AddsWeight
adds-value bs f g W h = h.1

pub adds-as : (bs ds : List Bool) (f g : Linear) (W V : List Weighed → Weight) → AddsWeight ds f g W → ds ≡ bs → ((ws : List Weighed) → bs ≡ kinds ws → W ws ≡ V ws) → AddsWeight bs f g V
unfolding AddsWeight
adds-as bs ds f g W V h is same = (h.0, λ ws k long. h.1 ws (is ∙ k) long ∙ ap (plus (value (sum f) (weights ws))) (same ws k))

-- A single node.
pub adds-node : (bs : List Bool) (f g : Linear) (k w : Weight) (W : List Weighed → Weighed) → sum g ≡ added_to k (sum f) → k ≡ times w node → ((ws : List Weighed) → (W ws).weight ≡ node)
    → AddsWeight bs f g (λ ws. times w (W ws).weight)
adds-node bs f g k w W ig ik iw =
    adds-made bs f g (λ ws. times w (W ws).weight) (ap (λ s. length s.uses) ig) (λ ws h long. node-value (sum f) (sum g) k w (weights ws) (W ws) ig ik (iw ws))

-- An operator.
pub operated-value : (C : Weighing) (ws : List Weighed) (o : Operator) (args bodies : List Body) (body : Body) (found : List Bool) (factors : Sum) → body ≡ b.Operated o args → bodies ≡ args
    → found ≡ kinds (shapes_weighed C ws (shapes_of bodies)) → factors ≡ operator_sum o found
    → value factors (weights (shapes_weighed C ws (shapes_of bodies))) ≡ (shape_weighed C ws (shape body)).weight
operated-value C ws o args bodies body found factors is same here made =
    ap (λ z. value z (weights (shapes_weighed C ws (shapes_of bodies)))) (made ∙ ap (operator_sum o) here)
    ∙ ap (λ z. value (operator_sum o (kinds (shapes_weighed C ws (shapes_of z)))) (weights (shapes_weighed C ws (shapes_of z)))) same
    ∙ sym (ap (λ z. (shape_weighed C ws z).weight) (ap shape is ∙ shape-Operated o args))

-- Each of several.

pub combined-none : (us : List Weight) → combined us [] ≡ nothing
combined-none [] = refl
combined-none (u ∷ us) = refl

pub each-done : (C : Weighing) (ws : List Weighed) (us : List Weight) (bs : List Body) (i j : ℕ) (w : Weight) → length bs ≤ i
    → times w (combined (drop j us) (weights (shapes_weighed C ws (shapes_of (drop i bs))))) ≡ nothing
each-done C ws us [] zero j w h = ap (times w) (combined-none (drop j us)) ∙ times-none w
each-done C ws us [] (suc i) j w h = ap (times w) (combined-none (drop j us)) ∙ times-none w
each-done C ws us (x ∷ bs) zero j w h = absurd (omega arith)
each-done C ws us (x ∷ bs) (suc i) j w h = each-done C ws us bs i j w (omega arith)

abbrev rest_of : Weighing → List Weighed → List Weight → List Body → ℕ → Weight
rest_of C ws us bs i = combined (drop i us) (weights (shapes_weighed C ws (shapes_of (drop i bs))))

pub each-step : (C : Weighing) (ws : List Weighed) (us : List Weight) (bs : List Body) (i : ℕ) (d : Body) (w : Weight) → i < length bs
    → times w (rest_of C ws us bs i) ≡ plus (times (times w (get_or us i nothing)) (shape_weighed C ws (shape (get_or bs i d))).weight) (times w (rest_of C ws us bs (i + 1)))
each-step C ws us [] i d w h = absurd (omega arith)
each-step C ws [] (x ∷ bs) zero d w h =
    let v = (shape_weighed C ws (shape x)).weight in
    times-none w ∙ sym (ap₂ plus (ap (λ z. times z v) (times-none w) ∙ none-times v) (times-none w) ∙ none-none)
each-step C ws (u ∷ us) (x ∷ bs) zero d w h =
    let v = (shape_weighed C ws (shape x)).weight in
    times-plus w (times u v) (combined us (weights (shapes_weighed C ws (shapes_of bs)))) ∙ ap (λ z. plus z (times w (combined us (weights (shapes_weighed C ws (shapes_of bs)))))) (sym (times-regrouped w u v))
each-step C ws [] (x ∷ bs) (suc i) d w h =
    let is : suc i + 1 ≡ suc (i + 1) = omega arith in
    let v = (shape_weighed C ws (shape (get_or bs i d))).weight in
    times-none w ∙ sym (ap₂ plus (ap (λ z. times z v) (times-none w) ∙ none-times v) (ap (λ k. times w (rest_of C ws [] (x ∷ bs) k)) is ∙ times-none w) ∙ none-none)
each-step C ws (u ∷ us) (x ∷ bs) (suc i) d w h =
    let is : suc (i + 1) ≡ suc i + 1 = omega arith in
    each-step C ws us bs i d w (omega arith)
    ∙ ap (λ k. plus (times (times w (get_or us i nothing)) (shape_weighed C ws (shape (get_or bs i d))).weight) (times w (rest_of C ws (u ∷ us) (x ∷ bs) k))) is

-- one of them written
pub each-more : (v v' t r r' total : Weight) → v' ≡ plus v t → r ≡ plus t r' → plus v r ≡ total → plus v' r' ≡ total
each-more v v' t r r' total is step before = ap (λ z. plus z r') is ∙ plus-regrouped v t r' ∙ ap (plus v) (sym step) ∙ before

-- one that is not written
pub each-none : (v h x r w c total : Weight) → h ≡ nothing → r ≡ plus (times h x) (times w c) → plus v r ≡ total → plus v (times w c) ≡ total
each-none v h x r w c total is step before =
    ap (plus v) (sym (step ∙ ap (λ z. plus z (times w c)) (ap (λ z. times z x) is ∙ none-times x) ∙ times-settled w c)) ∙ before

pub each-first : (f g : Sum) (k w : Weight) (xs ys : List Weight) (c : Weight) (us : List Weight) → g ≡ added_to k f → k ≡ times w c
    → plus (value g xs) (times w (combined us ys)) ≡ plus (value f xs) (times w (plus c (combined us ys)))
each-first f g k w xs ys c us ig ik =
    ap (λ z. plus (value z xs) (times w (combined us ys))) ig ∙ ap (λ z. plus z (times w (combined us ys))) (and-value k f xs ∙ ap (plus (value f xs)) ik)
    ∙ plus-regrouped (value f xs) (times w c) (times w (combined us ys)) ∙ ap (plus (value f xs)) (sym (times-plus w c (combined us ys)))

-- Nothing, with this many names.

combined-blank : (n : ℕ) (xs : List Weight) → combined (replicate n nothing) xs ≡ nothing
combined-blank zero xs = refl
combined-blank (suc n) [] = refl
combined-blank (suc n) (x ∷ xs) = ap₂ plus (none-times x) (combined-blank n xs) ∙ none-none

pub blank-value : (f : Linear) (n : ℕ) (xs : List Weight) → f.uses.items ≡ replicate n nothing → f.constant ≡ nothing → value (sum f) xs ≡ nothing
blank-value f n xs uses constant = ap₂ plus constant (ap (λ us. combined us xs) uses ∙ combined-blank n xs) ∙ none-none

pub blank-more : (n : ℕ) → replicate n nothing ++ nothing ∷ [] ≡ replicate (suc n) nothing
blank-more zero = refl
blank-more (suc n) = ap (λ z. nothing ∷ z) (blank-more n)

-- the form of a body
pub form-value : (w v s n : Weight) → n ≡ nothing → s ≡ plus n (times unit v) → times w s ≡ times w v
form-value w v s n none is = ap (times w) (is ∙ ap (λ z. plus z (times unit v)) none ∙ times-settled unit v) ∙ times-unit w v

-- Names that come and go.

pub counted : (i : ℕ) (xs : List Body) → i ≤ length xs → length (take i xs) ≡ i
counted zero xs h = refl
counted (suc i) [] h = omega arith
counted (suc i) (x ∷ xs) h = ap suc (counted i xs (omega arith))

pub bound-count : (C : Weighing) (ws : List Weighed) (bs : List Body) → length (bound_weighed C ws (shapes_of bs)) ≡ length ws + length bs
bound-count C ws [] = omega arith
bound-count C ws (x ∷ bs) = omega (arith, bound-count C (ws ++ shape_weighed C ws (shape x) ∷ []) bs, length-append ws (shape_weighed C ws (shape x) ∷ []))

take-twice : {A : Type 0} (j k : ℕ) (xs : List A) → j ≤ k → take j (take k xs) ≡ take j xs
take-twice zero k xs h = refl
take-twice (suc j) zero xs h = absurd (omega arith)
take-twice (suc j) (suc k) [] h = refl
take-twice (suc j) (suc k) (x ∷ xs) h = ap (λ z. x ∷ z) (take-twice j k xs (omega arith))

-- the bound names in front
bound-whole : (C : Weighing) (ws : List Weighed) (bs : List Body) → take (length ws) (bound_weighed C ws (shapes_of bs)) ≡ ws
bound-whole C ws [] = take_all (length ws) ws (omega arith)
bound-whole C ws (x ∷ bs) =
    let more = ws ++ shape_weighed C ws (shape x) ∷ [] in
    let long = length-append ws (shape_weighed C ws (shape x) ∷ []) in
    sym (take-twice (length ws) (length more) (bound_weighed C more (shapes_of bs)) (omega (arith, long))) ∙ ap (take (length ws)) (bound-whole C more bs)
    ∙ take-append-le (length ws) ws (shape_weighed C ws (shape x) ∷ []) (omega arith) ∙ take_all (length ws) ws (omega arith)

pub bound-front : (C : Weighing) (ws : List Weighed) (bs : List Body) (i : ℕ) → i ≤ length bs
    → take (length ws + i) (bound_weighed C ws (shapes_of bs)) ≡ bound_weighed C ws (shapes_of (take i bs))
bound-front C ws bs zero h = let is : length ws + 0 ≡ length ws = omega arith in ap (λ k. take k (bound_weighed C ws (shapes_of bs))) is ∙ bound-whole C ws bs
bound-front C ws [] (suc i) h = absurd (omega arith)
bound-front C ws (x ∷ bs) (suc i) h =
    let more = ws ++ shape_weighed C ws (shape x) ∷ [] in
    let is : length ws + suc i ≡ length more + i = omega (arith, length-append ws (shape_weighed C ws (shape x) ∷ [])) in
    ap (λ k. take k (bound_weighed C more (shapes_of bs))) is ∙ bound-front C more bs i (omega arith)

-- their kinds
pub kinds-front : (C : Weighing) (ws : List Weighed) (bs : List Body) (s : List Bool) (base i : ℕ) → i ≤ length bs → s ≡ kinds (bound_weighed C ws (shapes_of bs)) → base ≡ length s - length bs
    → take (base + i) s ≡ kinds (bound_weighed C ws (shapes_of (take i bs)))
kinds-front C ws bs s base i h is at =
    let G = bound_weighed C ws (shapes_of bs) in
    let long : base ≡ length ws = omega (arith, at, ap length is, length-map G (λ x. x.is_formula), bound-count C ws bs) in
    ap₂ (λ k z. take (k + i) z) long is ∙ take-map (λ x. x.is_formula) (length ws + i) G ∙ ap kinds (bound-front C ws bs i h)

pub take-less : {A : Type 0} (base i j : ℕ) (xs ys : List A) → j ≤ i → ys ≡ take (base + i) xs → take (base + j) ys ≡ take (base + j) xs
take-less base i j xs ys h is = ap (take (base + j)) is ∙ take-twice (base + j) (base + i) xs (omega arith)

pub last-apart : {A : Type 0} (xs : List A) → 0 < length xs → (us : List A) × ((u : A) × (xs ≡ us ++ u ∷ []))
last-apart [] h = absurd (omega arith)
last-apart (x ∷ []) h = ([], (x, refl))
last-apart (x ∷ (y ∷ xs)) h = let r = last-apart (y ∷ xs) (omega arith) in (x ∷ r.0, (r.1.0, ap (λ z. x ∷ z) r.1.1))

-- the last name gone
pub closed-value : (C : Weighing) (ws : List Weighed) (bs : List Body) (j : ℕ) (d : Body) (c : Weight) (us : List Weight) (u : Weight) → j < length bs → length us ≡ length ws + j
    → plus c (combined (us ++ u ∷ []) (weights (bound_weighed C ws (shapes_of (take (j + 1) bs)))))
    ≡ plus (plus c (combined us (weights (bound_weighed C ws (shapes_of (take j bs)))))) (times u (shape_weighed C (bound_weighed C ws (shapes_of (take j bs))) (shape (get_or bs j d))).weight)
closed-value C ws bs j d c us u h long =
    let G = bound_weighed C ws (shapes_of (take j bs)) in
    let x = shape_weighed C G (shape (get_or bs j d)) in
    ap (λ z. plus c (combined (us ++ u ∷ []) (weights z))) (bound-more C ws bs j d h)
    ∙ last-value c us G u x (omega (arith, long, bound-count C ws (take j bs), counted j bs (omega arith)))

-- Variables.

pub variable-names : (C : Weighing) (k : ℕ) (ws : List Weighed) → bound_weighed C ws (shapes_of (replicate k (b.Leaf (l.Constant 0)))) ≡ with_variables k ws
variable-names C zero ws = refl
variable-names C (suc k) ws =
    ap (λ x. bound_weighed C (ws ++ x ∷ []) (shapes_of (replicate k (b.Leaf (l.Constant 0))))) (ap (shape_weighed C ws) (shape-Leaf (l.Constant 0))) ∙ variable-names C k (ws ++ term_of node ∷ [])

pub variable-parts : (k : ℕ) → all_parts (shapes_of (replicate k (b.Leaf (l.Constant 0)))) ≡ k + k
variable-parts zero = refl
variable-parts (suc k) = omega (arith, variable-parts k, ap (λ z. parts z) (shape-Leaf (l.Constant 0)))

-- one node over something
pub raised-more : (w a : Weight) (v : Weight) → plus (plus v (times w node)) (times (times w node) a) ≡ plus v (times w (over a))
raised-more w a v =
    plus-regrouped v (times w node) (times (times w node) a)
    ∙ ap (plus v) (sym (times-plus w node (times node a) ∙ ap (plus (times w node)) (sym (times-regrouped w node a))))

-- a name and how often it was used apart from the others
abbrev pub IsClosed : Linear → Linear → Weight → Type 0
IsClosed f g h = (us : List Weight) (u : Weight) → f.uses.items ≡ us ++ u ∷ [] → (g.uses.items ≡ us) × (h ≡ u)

pub closed-count : (f g : Linear) (h : Weight) → IsClosed f g h → 0 < length f.uses.items → length g.uses.items + 1 ≡ length f.uses.items
closed-count f g h closed some =
    let r = last-apart f.uses.items some in
    let is = closed r.0 r.1.0 r.1.1 in
    omega (arith, ap length r.1.1, ap length is.0, length-append r.0 (r.1.0 ∷ []))

pub closing : (C : Weighing) (ws : List Weighed) (bs : List Body) (j i : ℕ) (d : Body) (f g : Linear) (h : Weight) → suc j ≡ i → i ≤ length bs → IsClosed f g h → g.constant ≡ f.constant
    → length f.uses.items ≡ length ws + i
    → value (sum f) (weights (bound_weighed C ws (shapes_of (take i bs))))
    ≡ plus (value (sum g) (weights (bound_weighed C ws (shapes_of (take j bs))))) (times h (shape_weighed C (bound_weighed C ws (shapes_of (take j bs))) (shape (get_or bs j d))).weight)
closing C ws bs j i d f g h next le closed constant long =
    let r = last-apart f.uses.items (omega (arith, long, next)) in
    let us = r.0 in
    let u = r.1.0 in
    let is = closed us u r.1.1 in
    let G = bound_weighed C ws (shapes_of (take j bs)) in
    let at : i ≡ j + 1 = omega (arith, next) in
    let count : length us ≡ length ws + j = omega (arith, long, next, ap length r.1.1, length-append us (u ∷ [])) in
    ap₂ (λ k z. plus k (combined z (weights (bound_weighed C ws (shapes_of (take i bs)))))) (sym constant) r.1.1
    ∙ ap (λ k. plus g.constant (combined (us ++ u ∷ []) (weights (bound_weighed C ws (shapes_of (take k bs)))))) at
    ∙ closed-value C ws bs j d g.constant us u (omega (arith, next, le)) count
    ∙ ap₂ (λ z x. plus (plus g.constant (combined z (weights G))) (times x (shape_weighed C G (shape (get_or bs j d))).weight)) (sym is.0) (sym is.1)

-- Quantifiers.

pub not-formula : (x : Weighed) → x.is_formula ≡ false → as_kind true x ≡ node
not-formula x h = ap (λ b. if beq b true then x.weight else node) h

pub is-formula : (x : Weighed) → x.is_formula ≡ true → as_kind true x ≡ x.weight
is-formula x h = ap (λ b. if beq b true then x.weight else node) h

pub two-clauses : {X Y : Type 0} (r : Result X Y) (P Q R : X → Type 0) → ((x : X) → P x → Q x → R x) → IfOk r P → IfOk r Q → IfOk r R
two-clauses (Ok x) P Q R f p q = f x p q
two-clauses (Err e) P Q R f p q = tt
