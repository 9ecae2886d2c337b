-- What the groups of arguments of an operator weigh.
use Rattle.std.proofs.Common.{◌≡◌, ℕ, suc, ◌+◌, ◌*◌, Bool, true, false, List, [], ◌∷◌, ◌++◌, length, append_assoc, sym, ap, ◌∙◌, arith, length-append, if◌then◌else◌}
use Rattle.std.specs.Bool.{beq}
use Rattle.std.proofs.lemmas.List.{append-nil}
use Rattle.smt_sizes.specs.declared.weight.Weight.{Weight}
use Rattle.smt_sizes.specs.Weight.{nothing, node, plus, times, up}
use Rattle.smt_sizes.specs.Weights.{Weighed}
use Rattle.smt_sizes.specs.Linear.{Sum, combined, value, kept, gain, lack, added, as_kind, kinds, weights}
use Rattle.smt_sizes.specs.Operators.{if_none, each, falls, rises, next, linked, chain, by_kind}
use Rattle.smt_sizes.proofs.Algebra.{plus-regrouped, plus-turned, plus-settled, times-settled, settled-times, none-times, crossed}

-- One factor more.

pub combined-more : (us xs : List Weight) (u x : Weight) → length us ≡ length xs → combined (us ++ u ∷ []) (xs ++ x ∷ []) ≡ plus (combined us xs) (times u x)
combined-more [] [] u x h = plus-turned (times u x) nothing
combined-more [] (y ∷ xs) u x h = absurd (omega (arith, h))
combined-more (v ∷ us) [] u x h = absurd (omega (arith, h))
combined-more (v ∷ us) (y ∷ xs) u x h = ap (plus (times v y)) (combined-more us xs u x (omega (arith, h))) ∙ sym (plus-regrouped (times v y) (combined us xs) (times u x))

pub kept-value : (f : Sum) (xs : List Weight) (k c x : Weight) → length f.uses ≡ length xs → value (kept k c f) (xs ++ x ∷ []) ≡ plus (value f xs) (plus k (times c x))
kept-value f xs k c x h = ap (plus (plus f.constant k)) (combined-more f.uses xs c x h) ∙ crossed f.constant k (combined f.uses xs) (times c x)

wanted : (k c w : Weight) (t : Bool) → plus (plus k (if t then nothing else times c node)) (times (if t then c else nothing) w) ≡ plus k (times c (if t then w else node))
wanted k c w true = plus-regrouped k nothing (times c w) ∙ ap (plus k) (times-settled c w)
wanted k c w false = ap (plus (plus k (times c node))) (none-times w) ∙ plus-regrouped k (times c node) nothing ∙ ap (plus k) (settled-times c node)

pub added-value : (want : Bool) (f : Sum) (xs : List Weight) (k c : Weight) (y : Weighed) → length f.uses ≡ length xs
    → value (added want y.is_formula k c f) (xs ++ y.weight ∷ []) ≡ plus (value f xs) (plus k (times c (as_kind want y)))
added-value want f xs k c y h =
    kept-value f xs (plus k (lack want y.is_formula c)) (gain want y.is_formula c) y.weight h ∙ ap (plus (value f xs)) (wanted k c y.weight (beq y.is_formula want))

-- Groups, one argument at a time.

uses-more : (f : Sum) (xs : List Weight) (k c x : Weight) → length f.uses ≡ length xs → length (kept k c f).uses ≡ length (xs ++ x ∷ [])
uses-more f xs k c x h = length-append f.uses (c ∷ []) ∙ ap (λ n. n + 1) h ∙ sym (length-append xs (x ∷ []))

at_end : (f g : Sum) (xs : List Weight) → value f (xs ++ []) ≡ plus (value f xs) nothing
at_end f g xs = ap (value f) (append-nil xs) ∙ sym (plus-settled f.constant (combined f.uses xs))

and_on : (V : List Weight → Weight) (f g : Sum) (xs ws : List Weight) (w t rest : Weight) → V ((xs ++ w ∷ []) ++ ws) ≡ plus (value g (xs ++ w ∷ [])) rest
    → value g (xs ++ w ∷ []) ≡ plus (value f xs) t → V (xs ++ (w ∷ ws)) ≡ plus (value f xs) (plus t rest)
and_on V f g xs ws w t rest later here =
    ap V (sym (append_assoc xs (w ∷ []) ws)) ∙ later ∙ ap (λ z. plus z rest) here ∙ plus-regrouped (value f xs) t rest

abbrev pub each_weight : Bool → Weight → Weight → List Weighed → Weight
each_weight want k c [] = nothing
each_weight want k c (y ∷ ys) = plus (plus k (times c (as_kind want y))) (each_weight want k c ys)

pub each-value : (want : Bool) (k c : Weight) (ys : List Weighed) (f : Sum) (xs : List Weight) → length f.uses ≡ length xs
    → value (each want k c (kinds ys) f) (xs ++ weights ys) ≡ plus (value f xs) (each_weight want k c ys)
each-value want k c [] f xs h = at_end f f xs
each-value want k c (y ∷ ys) f xs h =
    let g = added want y.is_formula k c f in
    and_on (value (each want k c (kinds ys) g)) f g xs (weights ys) y.weight (plus k (times c (as_kind want y))) (each_weight want k c ys)
    (each-value want k c ys g (xs ++ y.weight ∷ []) (uses-more f xs (plus k (lack want y.is_formula c)) (gain want y.is_formula c) y.weight h)) (added-value want f xs k c y h)

abbrev pub falls_weight : Bool → ℕ → Weight → List Weighed → Weight
falls_weight want s k [] = nothing
falls_weight want s k (y ∷ ys) = plus (plus (times (up (s * length (kinds ys))) k) (times (up (s * suc (length (kinds ys)))) (as_kind want y))) (falls_weight want s k ys)

pub falls-value : (want : Bool) (s : ℕ) (k : Weight) (ys : List Weighed) (f : Sum) (xs : List Weight) → length f.uses ≡ length xs
    → value (falls want s k (kinds ys) f) (xs ++ weights ys) ≡ plus (value f xs) (falls_weight want s k ys)
falls-value want s k [] f xs h = at_end f f xs
falls-value want s k (y ∷ ys) f xs h =
    let j = times (up (s * length (kinds ys))) k in
    let c = up (s * suc (length (kinds ys))) in
    let g = added want y.is_formula j c f in
    and_on (value (falls want s k (kinds ys) g)) f g xs (weights ys) y.weight (plus j (times c (as_kind want y))) (falls_weight want s k ys)
    (falls-value want s k ys g (xs ++ y.weight ∷ []) (uses-more f xs (plus j (lack want y.is_formula c)) (gain want y.is_formula c) y.weight h)) (added-value want f xs j c y h)

abbrev pub rises_weight : ℕ → List Weighed → Weight
rises_weight n [] = nothing
rises_weight n (y ∷ ys) =
    plus (plus (if_none (kinds ys) nothing (up (suc n))) (times (if_none (kinds ys) (up n) (up (suc n))) (as_kind true y))) (rises_weight (suc n) ys)

pub rises-value : (n : ℕ) (ys : List Weighed) (f : Sum) (xs : List Weight) → length f.uses ≡ length xs
    → value (rises n (kinds ys) f) (xs ++ weights ys) ≡ plus (value f xs) (rises_weight n ys)
rises-value n [] f xs h = at_end f f xs
rises-value n (y ∷ ys) f xs h =
    let k = if_none (kinds ys) nothing (up (suc n)) in
    let c = if_none (kinds ys) (up n) (up (suc n)) in
    let g = added true y.is_formula k c f in
    and_on (value (rises (suc n) (kinds ys) g)) f g xs (weights ys) y.weight (plus k (times c (as_kind true y))) (rises_weight (suc n) ys)
    (rises-value (suc n) ys g (xs ++ y.weight ∷ []) (uses-more f xs (plus k (lack true y.is_formula c)) (gain true y.is_formula c) y.weight h)) (added-value true f xs k c y h)

-- an argument of a chain
abbrev pub link : Bool → Weighed → Weight
link of_terms y = if of_terms then as_kind false y else y.weight

abbrev pub chain_weight : Bool → Weight → Weight → List Weighed → Weight
chain_weight t c before [] = nothing
chain_weight t c before (y ∷ ys) =
    plus (plus (if_none (kinds ys) nothing c) (times (plus before (next t c y.is_formula (kinds ys))) (link t y))) (chain_weight t c (next t c y.is_formula (kinds ys)) ys)

linked-value : (t : Bool) (f : Sum) (xs : List Weight) (k c : Weight) (y : Weighed) → length f.uses ≡ length xs
    → value (linked t y.is_formula k c f) (xs ++ y.weight ∷ []) ≡ plus (value f xs) (plus k (times c (link t y)))
linked-value true f xs k c y h = added-value false f xs k c y h
linked-value false f xs k c y h = kept-value f xs k c y.weight h

linked-more : (t b : Bool) (f : Sum) (xs : List Weight) (k c x : Weight) → length f.uses ≡ length xs → length (linked t b k c f).uses ≡ length (xs ++ x ∷ [])
linked-more true b f xs k c x h = uses-more f xs (plus k (lack false b c)) (gain false b c) x h
linked-more false b f xs k c x h = uses-more f xs k c x h

pub chain-value : (t : Bool) (c before : Weight) (ys : List Weighed) (f : Sum) (xs : List Weight) → length f.uses ≡ length xs
    → value (chain t c before (kinds ys) f) (xs ++ weights ys) ≡ plus (value f xs) (chain_weight t c before ys)
chain-value t c before [] f xs h = at_end f f xs
chain-value t c before (y ∷ ys) f xs h =
    let d = next t c y.is_formula (kinds ys) in
    let k = if_none (kinds ys) nothing c in
    let g = linked t y.is_formula k (plus before d) f in
    and_on (value (chain t c d (kinds ys) g)) f g xs (weights ys) y.weight (plus k (times (plus before d) (link t y))) (chain_weight t c d ys)
    (chain-value t c d ys g (xs ++ y.weight ∷ []) (linked-more t y.is_formula f xs k (plus before d) y.weight h)) (linked-value t f xs k (plus before d) y h)

abbrev pub kind_weight : (Bool → Weight) → List Weighed → Weight
kind_weight c [] = nothing
kind_weight c (y ∷ ys) = plus (plus nothing (times (c y.is_formula) y.weight)) (kind_weight c ys)

pub kind-value : (c : Bool → Weight) (ys : List Weighed) (f : Sum) (xs : List Weight) → length f.uses ≡ length xs
    → value (by_kind c (kinds ys) f) (xs ++ weights ys) ≡ plus (value f xs) (kind_weight c ys)
kind-value c [] f xs h = at_end f f xs
kind-value c (y ∷ ys) f xs h =
    let g = kept nothing (c y.is_formula) f in
    and_on (value (by_kind c (kinds ys) g)) f g xs (weights ys) y.weight (plus nothing (times (c y.is_formula) y.weight)) (kind_weight c ys)
    (kind-value c ys g (xs ++ y.weight ∷ []) (uses-more f xs nothing (c y.is_formula) y.weight h)) (kept-value f xs nothing (c y.is_formula) y.weight h)
