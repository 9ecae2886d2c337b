-- How lists of formulas and terms that grow at their ends are put together.
use Rattle.std.proofs.Common.{◌≡◌, ℕ, zero, suc, ◌+◌, ◌-◌, ◌<◌, ◌≤◌, List, [], ◌∷◌, ◌++◌, map, length, take, drop, get_or, refl, sym, ap, subst, ◌∙◌, arith, append_assoc, append-nil, take_all}
use Rattle.std.proofs.lemmas.List.{map-append, take_more}
use Rattle.form_typed.specs.Formula.{Formula, Expression, formula, implies, negation, iff, product}
use Rattle.form_typed.specs.declared.typed.Typed.{Typed}
use Rattle.smt_terms.specs.Operators.{neighbours, pairs}
use Rattle.smt_terms.specs.Translation.{either_said, implied_said, multiplied, formula_in, term_in}
use Rattle.smt_writing.specs.declared.written.Written.{Written}
use Rattle.smt_writing.specs.Written.{written}

-- formulas implied one after the other, and the last one by all
abbrev pub implied_onto : List Formula → Formula → Formula
implied_onto [] f = f
implied_onto (g ∷ gs) f = implies g (implied_onto gs f)

implied-last : (gs : List Formula) (f : Formula) → implied_said (gs ++ f ∷ []) ≡ implied_onto gs f
implied-last [] f = refl
implied-last (g ∷ []) f = refl
implied-last (g ∷ (h ∷ gs)) f = ap (implies g) (implied-last (h ∷ gs) f)

implied-more : (gs : List Formula) (g f : Formula) → implied_onto (gs ++ g ∷ []) f ≡ implied_onto gs (implies g f)
implied-more [] g f = refl
implied-more (h ∷ gs) g f = ap (implies h) (implied-more gs g f)

pub implied-last_typed : (fs : List Typed) (f : Typed) → implied_said (map formula (fs ++ f ∷ [])) ≡ implied_onto (map formula fs) (formula f)
implied-last_typed fs f = ap implied_said (map-append formula fs (f ∷ [])) ∙ implied-last (map formula fs) (formula f)

pub implied-more_typed : (fs : List Typed) (g : Typed) (f : Formula) → implied_onto (map formula (fs ++ g ∷ [])) f ≡ implied_onto (map formula fs) (implies (formula g) f)
implied-more_typed fs g f = ap (λ z. implied_onto z f) (map-append formula fs (g ∷ [])) ∙ implied-more (map formula fs) (formula g) f

either-more : (f : Formula) (gs : List Formula) (g : Formula) → either_said f (gs ++ g ∷ []) ≡ negation (iff (either_said f gs) g)
either-more f [] g = refl
either-more f (h ∷ gs) g = either-more (negation (iff f h)) gs g

multiplied-more : (s : Expression) (ts : List Expression) (t : Expression) → multiplied s (ts ++ t ∷ []) ≡ product (multiplied s ts) t
multiplied-more s [] t = refl
multiplied-more s (r ∷ ts) t = multiplied-more (product s r) ts t

formulas-more : (ws : List Written) (w : Written) → map formula_in (map written (ws ++ w ∷ [])) ≡ map formula_in (map written ws) ++ formula_in (written w) ∷ []
formulas-more ws w = ap (map formula_in) (map-append written ws (w ∷ [])) ∙ map-append formula_in (map written ws) (written w ∷ [])

terms-more : (ws : List Written) (w : Written) → map term_in (map written (ws ++ w ∷ [])) ≡ map term_in (map written ws) ++ term_in (written w) ∷ []
terms-more ws w = ap (map term_in) (map-append written ws (w ∷ [])) ∙ map-append term_in (map written ws) (written w ∷ [])

pub either-yielded : (f : Formula) (ws : List Written) (w : Written)
    → either_said f (map formula_in (map written (ws ++ w ∷ []))) ≡ negation (iff (either_said f (map formula_in (map written ws))) (formula_in (written w)))
either-yielded f ws w = ap (either_said f) (formulas-more ws w) ∙ either-more f (map formula_in (map written ws)) (formula_in (written w))

pub multiplied-yielded : (s : Expression) (ws : List Written) (w : Written)
    → multiplied s (map term_in (map written (ws ++ w ∷ []))) ≡ product (multiplied s (map term_in (map written ws))) (term_in (written w))
multiplied-yielded s ws w = ap (multiplied s) (terms-more ws w) ∙ multiplied-more s (map term_in (map written ws)) (term_in (written w))

-- Neighbours and pairs.

pub neighbours-one : {A B : Type 0} (f : A → A → B) (g : Written → A) (ws : List Written) → neighbours f (map g (take 1 ws)) ≡ []
neighbours-one f g [] = refl
neighbours-one f g (w ∷ ws) = refl

pub neighbours-step : {A B : Type 0} (f : A → A → B) (g : Written → A) (ws : List Written) (i : ℕ) (d e : Written) → suc i < length ws
    → neighbours f (map g (take (suc (suc i)) ws)) ≡ neighbours f (map g (take (suc i) ws)) ++ f (g (get_or ws i d)) (g (get_or ws (suc i) e)) ∷ []
neighbours-step f g [] i d e h = absurd (omega arith)
neighbours-step f g (v ∷ []) i d e h = absurd (omega arith)
neighbours-step f g (v ∷ (w ∷ ws)) zero d e h = refl
neighbours-step f g (v ∷ (w ∷ ws)) (suc i) d e h = ap (λ z. f (g v) (g w) ∷ z) (neighbours-step f g (w ∷ ws) i d e (omega arith))

-- the same as the code counts
pub neighbours-more : {A B : Type 0} (f : A → A → B) (g : Written → A) (ws : List Written) (i : ℕ) (d e : Written) → 1 ≤ i → i < length ws
    → neighbours f (map g (take (i + 1) ws)) ≡ neighbours f (map g (take i ws)) ++ f (g (get_or ws (i - 1) d)) (g (get_or ws i e)) ∷ []
neighbours-more f g ws zero d e h k = absurd (omega arith)
neighbours-more f g ws (suc i) d e h k =
    let more : suc i + 1 ≡ suc (suc i) = omega arith in
    let less : suc i - 1 ≡ i = omega arith in
    ap (λ n. neighbours f (map g (take n ws))) more ∙ neighbours-step f g ws i d e k
    ∙ ap (λ n. neighbours f (map g (take (suc i) ws)) ++ f (g (get_or ws n d)) (g (get_or ws (suc i) e)) ∷ []) (sym less)

pairs-step : {A B : Type 0} (f : A → A → B) (g : Written → A) (ws : List Written) (i : ℕ) (d : Written) → i < length ws
    → pairs f (map g (drop i ws)) ≡ map (f (g (get_or ws i d))) (map g (drop (suc i) ws)) ++ pairs f (map g (drop (suc i) ws))
pairs-step f g [] i d h = absurd (omega arith)
pairs-step f g (w ∷ ws) zero d h = refl
pairs-step f g (w ∷ ws) (suc i) d h = pairs-step f g ws i d (omega arith)

pub pairs-more : {A B : Type 0} (f : A → A → B) (g : Written → A) (ws : List Written) (i : ℕ) (d : Written) → i < length ws
    → pairs f (map g (drop i ws)) ≡ map (f (g (get_or ws i d))) (map g (drop (i + 1) ws)) ++ pairs f (map g (drop (i + 1) ws))
pairs-more f g ws i d h = let more : suc i ≡ i + 1 = omega arith in subst (λ n. pairs f (map g (drop i ws)) ≡ map (f (g (get_or ws i d))) (map g (drop n ws)) ++ pairs f (map g (drop n ws))) more (pairs-step f g ws i d h)

pub ruleset folding = (implied-last_typed, implied-more_typed, either-yielded, multiplied-yielded)

pub ruleset chaining = (neighbours-one, neighbours-more)

pub ruleset pairing = (pairs-more, append_assoc)
