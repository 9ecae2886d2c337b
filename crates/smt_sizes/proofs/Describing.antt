-- One form more.
use Rattle.std.proofs.Common.{◌≡◌, ℕ, zero, suc, ◌<◌, ◌≤◌, Bool, true, false, List, [], ◌∷◌, ◌++◌, length, take, get_or, replicate, refl, sym, ap, subst, ◌∙◌, arith}
use Rattle.smt_names.specs.declared.body.Body.{Body}
use Rattle.smt_names.specs.Body.{shape}
use Rattle.smt_sizes.specs.declared.weight.Weight.{Weight}
use Rattle.smt_sizes.specs.declared.forms.Form.{Form}
use Rattle.smt_sizes.specs.Weight.{nothing, unit, plus, times, fitted}
use Rattle.smt_sizes.specs.Weights.{Weighed}
use Rattle.smt_sizes.specs.Linear.{kinds, weights, sum, value, combined, as_kind}
use Rattle.smt_sizes.specs.Shapes.{no_formula, AreTerms, IsForm, AreForms, shape_weighed, weighing_of}
use Rattle.smt_sizes.proofs.Shapes.{weighing-there, weighing-before}
use Rattle.smt_sizes.proofs.Algebra.{times-settled, fitted-unit}
use Rattle.smt_sizes.proofs.Adding.{combined-none, is-formula}

-- the kinds of terms
pub terms-kinds : (xs : List Weighed) (n : ℕ) → AreTerms xs → length xs ≡ n → replicate n false ≡ kinds xs
terms-kinds [] zero h is = refl
terms-kinds [] (suc n) h is = absurd (omega (arith, is))
terms-kinds (x ∷ xs) zero h is = absurd (omega (arith, is))
terms-kinds (x ∷ xs) (suc n) h is = by x.is_formula (λ k. terms-kinds xs n k (omega (arith, is))) h
  where
    by : (b : Bool) → (AreTerms xs → replicate n false ≡ kinds xs) → no_formula (b ∷ kinds xs) ≡ true → replicate (suc n) false ≡ b ∷ kinds xs
    by true l k = cc
    by false l k = ap (λ z. false ∷ z) (l k)

get-left : (fs : List Form) (g : Form) (k : ℕ) (f : Form) → k < length fs → get_or (fs ++ g ∷ []) k f ≡ get_or fs k f
get-left [] g k f h = absurd (omega arith)
get-left (x ∷ fs) g zero f h = refl
get-left (x ∷ fs) g (suc k) f h = get-left fs g k f (omega arith)

get-last : (fs : List Form) (g : Form) (k : ℕ) (f : Form) → k ≡ length fs → get_or (fs ++ g ∷ []) k f ≡ g
get-last [] g zero f h = refl
get-last [] g (suc k) f h = absurd (omega (arith, h))
get-last (x ∷ fs) g zero f h = absurd (omega (arith, h))
get-last (x ∷ fs) g (suc k) f h = get-last fs g k f (omega (arith, h))

data Where (k n : ℕ) : Type 0 where
  before : k < n → Where k n
  last : k ≡ n → Where k n

place : (k n : ℕ) → k < suc n → Where k n
place zero zero h = last refl
place zero (suc n) h = before (omega arith)
place (suc k) zero h = absurd (omega arith)
place (suc k) (suc n) h = by (place k n (omega arith))
  where
    by : Where k n → Where (suc k) (suc n)
    by (before l) = before (omega (arith, l))
    by (last is) = last (ap suc is)

-- the form of one definition more
pub forms-more : (fs : List Form) (ds : List Body) (n : ℕ) (g : Form) (d b : Body) → suc n ≡ length ds → length fs ≡ n → AreForms fs (take n ds) → b ≡ get_or ds n d
    → IsForm g (λ xs. shape_weighed (weighing_of (take n ds)) xs (shape b)) → AreForms (fs ++ g ∷ []) ds
unfolding AreForms
forms-more fs ds n g d b long many forms is form k f h m = by (place k n (omega (arith, m, long)))
  where
    taken : (i : ℕ) (xs : List Body) → i ≤ length xs → length (take i xs) ≡ i
    taken zero xs h = refl
    taken (suc i) [] h = omega arith
    taken (suc i) (x ∷ xs) h = ap suc (taken i xs (omega arith))

    by : Where k n → IsForm (get_or (fs ++ g ∷ []) k f) (weighing_of ds k)
    by (before low) =
        subst (λ x. IsForm x (weighing_of ds k)) (sym (get-left fs g k f (omega (arith, low, many))))
        (λ xs terms count.
        subst (λ w. (w.is_formula ≡ (get_or fs k f).is_formula) × (times unit w.weight ≡ value (sum (get_or fs k f).linear) (weights xs)))
        (weighing-before ds k n xs low (omega (arith, long))) (forms k f (omega (arith, low, many)) (omega (arith, low, taken n ds (omega (arith, long)))) xs terms count))
    by (last at) =
        subst (λ x. IsForm x (weighing_of ds k)) (sym (get-last fs g k f (omega (arith, at, many))))
        (λ xs terms count.
        let there = ap (λ j. weighing_of ds j xs) at ∙ weighing-there ds n d xs (omega (arith, long)) ∙ ap (λ z. shape_weighed (weighing_of (take n ds)) xs (shape z)) (sym is) in
        subst (λ w. (w.is_formula ≡ g.is_formula) × (times unit w.weight ≡ value (sum g.linear) (weights xs))) (sym there) (form xs terms count))

pub no-forms : (fs : List Form) → AreForms fs []
unfolding AreForms
no-forms fs k f h m = absurd (omega (arith, m))

-- the size of what is written of a body without bound names
pub counted-size : (c : Weight) (us : List Weight) (v start : Weight) (x : Weighed) → start ≡ nothing → plus c (combined us []) ≡ plus start (times unit x.weight) → x.is_formula ≡ true → v ≡ plus c nothing
    → fitted v ≡ fitted (as_kind true x)
counted-size c us v start x none is formula made =
    ap fitted (made ∙ ap (plus c) (sym (combined-none us)) ∙ is ∙ ap (λ z. plus z (times unit x.weight)) none ∙ times-settled unit x.weight) ∙ fitted-unit x.weight
    ∙ ap fitted (sym (is-formula x formula))
