-- Sizes of several formulas together.
use Rattle.std.proofs.Common.{ℕ, ◌≡◌, ◌+◌, max, Bool, true, false, refl, sym, ap, ap₂, ◌∙◌, arith, nat_le, if◌then◌else◌, List, [], ◌∷◌, ◌++◌, append_assoc}
use Rattle.form_typed.specs.Formula.{Formula, formulas}
use Rattle.smt_sizes.specs.declared.size.Size.{Size}
use Rattle.smt_sizes.specs.declared.size.Size.TheVariants.{Large, Fits}
use Rattle.smt_sizes.specs.Size.{beside, nothing}
use Rattle.smt_sizes.specs.Sizes.{all_sizes, size}

-- this many nodes, unless those are too many
abbrev counted : ℕ → ℕ → Size
counted n l = if nat_le n 1000000 then Fits n l else Large

pub beside_large : (a : Size) → beside a Large ≡ Large
beside_large Large = refl
beside_large (Fits n l) = refl

pub beside_nothing : (a : Size) → beside a nothing ≡ beside nothing a
beside_nothing Large = refl
beside_nothing (Fits n l) =
    let nodes : n + 0 ≡ 0 + n = omega arith in
    let levels : max l 0 ≡ max 0 l = omega arith in ap₂ counted nodes levels

pub beside_assoc : (a b c : Size) → beside (beside a b) c ≡ beside a (beside b c)
beside_assoc Large b c = refl
beside_assoc (Fits n l) Large c = refl
beside_assoc (Fits n l) (Fits m k) Large = beside_large (beside (Fits n l) (Fits m k))
beside_assoc (Fits n l) (Fits m k) (Fits i j) = left (nat_le (n + m) 1000000) refl ∙ ap₂ counted nodes levels ∙ sym (right (nat_le (m + i) 1000000) refl)
  where
    nodes : n + m + i ≡ n + (m + i)
    nodes = omega arith

    levels : max (max l k) j ≡ max l (max k j)
    levels = omega arith

    left : (b : Bool) → nat_le (n + m) 1000000 ≡ b → beside (if b then Fits (n + m) (max l k) else Large) (Fits i j) ≡ counted (n + m + i) (max (max l k) j)
    left true e = refl
    left false e =
        let more : nat_le (n + m + i) 1000000 ≡ false = grind (arith, e) in
        sym (ap (λ z. if z then Fits (n + m + i) (max (max l k) j) else Large) more)

    right : (b : Bool) → nat_le (m + i) 1000000 ≡ b → beside (Fits n l) (if b then Fits (m + i) (max k j) else Large) ≡ counted (n + (m + i)) (max l (max k j))
    right true e = refl
    right false e =
        let more : nat_le (n + (m + i)) 1000000 ≡ false = grind (arith, e) in
        sym (ap (λ z. if z then Fits (n + (m + i)) (max l (max k j)) else Large) more)

-- one formula more
pub sizes_more : (fs : List Formula) (f : Formula) → all_sizes (formulas (fs ++ f ∷ [])) ≡ beside (all_sizes (formulas fs)) (size f)
sizes_more [] f = beside_nothing (size f)
sizes_more (g ∷ fs) f = ap (beside (size g)) (sizes_more fs f) ∙ sym (beside_assoc (size g) (all_sizes (formulas fs)) (size f))

append_none : (fs : List Formula) → fs ++ [] ≡ fs
append_none [] = refl
append_none (f ∷ fs) = ap (λ z. f ∷ z) (append_none fs)

-- formulas that are too large stay so with more
pub large_stays : (fs gs : List Formula) → all_sizes (formulas fs) ≡ Large → all_sizes (formulas (fs ++ gs)) ≡ Large
large_stays fs [] h = ap (λ z. all_sizes (formulas z)) (append_none fs) ∙ h
large_stays fs (g ∷ gs) h =
    ap (λ z. all_sizes (formulas z)) (sym (append_assoc fs (g ∷ []) gs)) ∙ large_stays (fs ++ g ∷ []) gs (sizes_more fs g ∙ ap (λ z. beside z (size g)) h)
