-- Kinds of bodies, of bindings, and of defined functions.
use Rattle.std.proofs.Common.{◌≡◌, ℕ, zero, suc, ◌+◌, ◌<◌, ◌≤◌, Bool, true, false, List, [], ◌∷◌, ◌++◌, map, length, take, drop, get_or, refl, sym, ap, subst, ◌∙◌, arith}
use Rattle.std.proofs.lemmas.List.{map-append, take_more, take-append-le}
use Rattle.smt_names.specs.declared.body.Body.{Body}
use Rattle.smt_names.specs.Body.{shape, shapes_of}
use Rattle.smt_sizes.specs.declared.forms.Form.{Form}
use Rattle.smt_sizes.specs.Weight.{unit, times}
use Rattle.smt_sizes.specs.Weights.{Weighed}
use Rattle.smt_sizes.specs.Linear.{kinds, weights, sum, value}
use Rattle.smt_sizes.specs.Shapes.{Weighing, shape_weighed, shapes_weighed, bound_weighed, weighing_of, no_formula, IsForm, AreForms}
use Rattle.smt_sizes.proofs.Rests.{opened}
use Rattle.smt_sizes.proofs.Shapes.{weighing-before}

-- Lists.

take-short : {A : Type 0} (j : ℕ) (xs : List A) → (length (take j xs) ≤ length xs) × (length (take j xs) ≤ j)
take-short zero xs = (omega arith, omega arith)
take-short (suc j) [] = (omega arith, omega arith)
take-short (suc j) (x ∷ xs) = let h = take-short j xs in (omega (arith, h.0), omega (arith, h.1))

-- No formula.

pub no-formula-next : (bs : List Bool) (i : ℕ) (d : Bool) → i < length bs → get_or bs i d ≡ false → no_formula (drop i bs) ≡ no_formula (drop (i + 1) bs)
no-formula-next bs i d h is = ap no_formula (opened bs i d h) ∙ ap (λ b. no_formula (b ∷ drop (i + 1) bs)) is

pub none-left : (bs : List Bool) (i : ℕ) → length bs ≤ i → no_formula (drop i bs) ≡ true
none-left [] zero h = refl
none-left [] (suc i) h = refl
none-left (b ∷ bs) zero h = absurd (omega arith)
none-left (b ∷ bs) (suc i) h = none-left bs i (omega arith)

-- what stands in front stays there
pub front-kept : {A : Type 0} (n : ℕ) (xs ys zs : List A) → n ≡ length ys → take n xs ≡ ys → take n (xs ++ zs) ≡ ys
front-kept n xs ys zs h is = take-append-le n xs zs (omega (arith, h, ap length is, (take-short n xs).0)) ∙ is

-- Several bodies.

pub each-kind : (C : Weighing) (ws : List Weighed) (bs : List Body) → kinds (shapes_weighed C ws (shapes_of bs)) ≡ map (λ b. (shape_weighed C ws (shape b)).is_formula) bs
each-kind C ws [] = refl
each-kind C ws (b ∷ bs) = ap (λ z. (shape_weighed C ws (shape b)).is_formula ∷ z) (each-kind C ws bs)

pub bound-append : (C : Weighing) (ws : List Weighed) (bs : List Body) (b : Body)
    → bound_weighed C ws (shapes_of (bs ++ b ∷ [])) ≡ bound_weighed C ws (shapes_of bs) ++ shape_weighed C (bound_weighed C ws (shapes_of bs)) (shape b) ∷ []
bound-append C ws [] b = refl
bound-append C ws (x ∷ bs) b = bound-append C (ws ++ shape_weighed C ws (shape x) ∷ []) bs b

-- the bound names with one more
pub bound-more : (C : Weighing) (ws : List Weighed) (bs : List Body) (i : ℕ) (d : Body) → i < length bs
    → bound_weighed C ws (shapes_of (take (i + 1) bs)) ≡ bound_weighed C ws (shapes_of (take i bs)) ++ shape_weighed C (bound_weighed C ws (shapes_of (take i bs))) (shape (get_or bs i d)) ∷ []
bound-more C ws bs i d h = ap (λ z. bound_weighed C ws (shapes_of z)) (take_more bs i d h) ∙ bound-append C ws (take i bs) (get_or bs i d)

pub kinds-more : (xs : List Weighed) (x : Weighed) → kinds (xs ++ x ∷ []) ≡ kinds xs ++ x.is_formula ∷ []
kinds-more xs x = map-append (λ y. y.is_formula) xs (x ∷ [])

-- Forms.

pub get-same : (fs : List Form) (k : ℕ) (f g : Form) → k < length fs → get_or fs k f ≡ get_or fs k g
get-same [] k f g h = absurd (omega arith)
get-same (x ∷ fs) zero f g h = refl
get-same (x ∷ fs) (suc k) f g h = get-same fs k f g (omega arith)

-- the form of a defined function, at the place that the code read
pub form-there : (fs : List Form) (ds : List Body) (k : ℕ) (f : Form) → AreForms fs ds → k < length fs → k < length ds → f ≡ get_or fs k f → IsForm f (weighing_of ds k)
unfolding AreForms
form-there fs ds k f forms h i is = subst (λ g. IsForm g (weighing_of ds k)) (sym is) (forms k f h i)

get-take : (fs : List Form) (j k : ℕ) (f : Form) → k < length (take j fs) → get_or (take j fs) k f ≡ get_or fs k f
get-take fs zero k f h = absurd (omega arith)
get-take [] (suc j) k f h = refl
get-take (x ∷ fs) (suc j) zero f h = refl
get-take (x ∷ fs) (suc j) (suc k) f h = get-take fs j k f (omega arith)

-- those of the first definitions
pub forms-before : (fs : List Form) (ds : List Body) (j i : ℕ) → AreForms fs ds → i ≤ length ds → AreForms (take j fs) (take i ds)
unfolding AreForms
forms-before fs ds j i forms le k f h m =
    let low : k < i = omega (arith, m, (take-short i ds).1) in
    let some : k < length fs = omega (arith, h, (take-short j fs).0) in
    subst (λ g. IsForm g (weighing_of (take i ds) k)) (sym (get-take fs j k f h))
    (λ xs terms long.
    let is = weighing-before ds k i xs low le in
    subst (λ w. (w.is_formula ≡ (get_or fs k f).is_formula) × (times unit w.weight ≡ value (sum (get_or fs k f).linear) (weights xs))) (sym is)
    (forms k f some (omega (arith, low, le)) xs terms long))
