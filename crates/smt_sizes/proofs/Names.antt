-- What has been written, with more of it, and with bound names that come and go.
use Rattle.std.proofs.Common.{◌≡◌, ℕ, zero, suc, ◌<◌, ◌≤◌, List, [], ◌∷◌, ◌++◌, length, get_or, set, refl, sym, ap, ◌∙◌, arith}
use Rattle.std.proofs.lemmas.List.{map-append, length-map}
use Rattle.smt_sizes.specs.declared.weight.Weight.{Weight}
use Rattle.smt_sizes.specs.Weight.{nothing, node, plus, times}
use Rattle.smt_sizes.specs.Weights.{Weighed}
use Rattle.smt_sizes.specs.Linear.{Sum, weights, combined, value, added_to}
use Rattle.smt_sizes.proofs.Algebra.{plus-regrouped, plus-turned, plus-settled, times-sum, none-times}
use Rattle.smt_sizes.proofs.Steps.{combined-more}

pub and-value : (k : Weight) (f : Sum) (xs : List Weight) → value (added_to k f) xs ≡ plus (value f xs) k
and-value k f xs = plus-regrouped f.constant k (combined f.uses xs) ∙ ap (plus f.constant) (plus-turned k (combined f.uses xs)) ∙ sym (plus-regrouped f.constant (combined f.uses xs) k)

-- one factor raised
combined-set : (us : List Weight) (ws : List Weighed) (k : ℕ) (w d : Weight) (x : Weighed) → length us ≡ length ws → k < length us
    → combined (set us k (plus (get_or us k d) w)) (weights ws) ≡ plus (combined us (weights ws)) (times w (get_or ws k x).weight)
combined-set [] ws k w d x h m = absurd (omega (arith, m))
combined-set (u ∷ us) [] k w d x h m = absurd (omega (arith, h))
combined-set (u ∷ us) (y ∷ ws) zero w d x h m =
    ap (λ z. plus z (combined us (weights ws))) (times-sum u w y.weight) ∙ plus-regrouped (times u y.weight) (times w y.weight) (combined us (weights ws))
    ∙ ap (plus (times u y.weight)) (plus-turned (times w y.weight) (combined us (weights ws))) ∙ sym (plus-regrouped (times u y.weight) (combined us (weights ws)) (times w y.weight))
combined-set (u ∷ us) (y ∷ ws) (suc k) w d x h m =
    ap (plus (times u y.weight)) (combined-set us ws k w d x (omega (arith, h)) (omega (arith, m)))
    ∙ sym (plus-regrouped (times u y.weight) (combined us (weights ws)) (times w (get_or ws k x).weight))

pub slot-value : (c : Weight) (us : List Weight) (ws : List Weighed) (k : ℕ) (w d : Weight) (x : Weighed) → length us ≡ length ws → k < length us
    → plus c (combined (set us k (plus (get_or us k d) w)) (weights ws)) ≡ plus (plus c (combined us (weights ws))) (times w (get_or ws k x).weight)
slot-value c us ws k w d x h m =
    ap (plus c) (combined-set us ws k w d x h m) ∙ sym (plus-regrouped c (combined us (weights ws)) (times w (get_or ws k x).weight))

pub past-end : (ws : List Weighed) (k : ℕ) (x : Weighed) → length ws ≤ k → get_or ws k x ≡ x
past-end [] k x h = refl
past-end (w ∷ ws) zero x h = absurd (omega arith)
past-end (w ∷ ws) (suc k) x h = past-end ws k x (omega arith)

-- one bound name more
pub weights-more : (ws : List Weighed) (x : Weighed) → weights (ws ++ x ∷ []) ≡ weights ws ++ x.weight ∷ []
weights-more ws x = map-append (λ y. y.weight) ws (x ∷ [])

-- the last bound name apart
pub last-value : (c : Weight) (us : List Weight) (ws : List Weighed) (u : Weight) (x : Weighed) → length us ≡ length ws
    → plus c (combined (us ++ u ∷ []) (weights (ws ++ x ∷ []))) ≡ plus (plus c (combined us (weights ws))) (times u x.weight)
last-value c us ws u x h =
    ap (λ z. plus c (combined (us ++ u ∷ []) z)) (weights-more ws x) ∙ ap (plus c) (combined-more us (weights ws) u x.weight (h ∙ sym (length-map ws (λ y. y.weight))))
    ∙ sym (plus-regrouped c (combined us (weights ws)) (times u x.weight))

-- one that is not used yet
pub open-value : (c : Weight) (us : List Weight) (ws : List Weighed) (x : Weighed) → length us ≡ length ws
    → plus c (combined (us ++ nothing ∷ []) (weights (ws ++ x ∷ []))) ≡ plus c (combined us (weights ws))
open-value c us ws x h = last-value c us ws nothing x h ∙ ap (plus (plus c (combined us (weights ws)))) (none-times x.weight) ∙ plus-settled c (combined us (weights ws))

-- a single node more
pub node-value : (f g : Sum) (k w : Weight) (xs : List Weight) (x : Weighed) → g ≡ added_to k f → k ≡ times w node → x.weight ≡ node → value g xs ≡ plus (value f xs) (times w x.weight)
node-value f g k w xs x ig ik ix = ap (λ z. value z xs) ig ∙ and-value k f xs ∙ ap (plus (value f xs)) (ik ∙ ap (times w) (sym ix))
