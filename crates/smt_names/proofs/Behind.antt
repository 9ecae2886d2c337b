-- Bound names after others.
use Rattle.std.proofs.Common.{◌≡◌, ℕ, zero, suc, ◌+◌, ◌<◌, true, false, List, [], ◌∷◌, ◌++◌, map, length, nat_eq, refl, sym, ap, ap₂, ◌∙◌, take, get_or, arith, append_assoc, append-nil, length-append}
use mathlib.Core.Path.{fun_ext}
use Rattle.std.proofs.lemmas.List.{map-append, take_more}
use Rattle.smt_terms.specs.Translation.{Standing}
use Rattle.smt_names.specs.declared.body.Leaf.{Leaf}
use Rattle.smt_names.specs.declared.body.Leaf.TheVariants as l
use Rattle.smt_names.specs.declared.body.Body.{Body}
use Rattle.smt_names.specs.declared.body.Body.TheVariants as b
use Rattle.smt_names.specs.Body.{shape, shapes_of}
use Rattle.smt_names.specs.Saying.{Calls, nothing, leaf_said, shape_said, shapes_said, bound_said}
use Rattle.smt_names.specs.Scopes.{IsLeafWithin}
use Rattle.smt_names.specs.Slots.{is_slot}
use Rattle.smt_names.proofs.Folds.{shape-Let}
use Rattle.smt_names.proofs.Saying.{said-each, leaf-said}

pub bound-append : (D : Calls) (e : List Standing) (xs ys : List Body) → bound_said D e (shapes_of (xs ++ ys)) ≡ bound_said D (bound_said D e (shapes_of xs)) (shapes_of ys)
bound-append D e [] ys = refl
bound-append D e (x ∷ xs) ys = bound-append D (e ++ shape_said D e (shape x) ∷ []) xs ys

pub bound-more : (D : Calls) (e : List Standing) (xs : List Body) (x : Body)
    → bound_said D e (shapes_of (xs ++ x ∷ [])) ≡ bound_said D e (shapes_of xs) ++ shape_said D (bound_said D e (shapes_of xs)) (shape x) ∷ []
bound-more D e xs x = bound-append D e xs (x ∷ [])

-- they stand after those around them
pub bound-behind : (D : Calls) (e : List Standing) (xs : List Body) → (more : List Standing) × (bound_said D e (shapes_of xs) ≡ e ++ more) × (length more ≡ length xs)
bound-behind D e [] = ([], sym (append-nil e), refl)
bound-behind D e (x ∷ xs) =
    let s = shape_said D e (shape x) in
    let rest = bound-behind D (e ++ s ∷ []) xs in
    (s ∷ rest.0, rest.1 ∙ append_assoc e (s ∷ []) rest.0, ap suc rest.2)

pub bound-count : (D : Calls) (e : List Standing) (xs : List Body) → length (bound_said D e (shapes_of xs)) ≡ length e + length xs
bound-count D e [] = omega arith
bound-count D e (x ∷ xs) = omega (arith, bound-count D (e ++ shape_said D e (shape x) ∷ []) xs, length-append e (shape_said D e (shape x) ∷ []))

-- Entries.

entry-left : {A : Type 0} (e more : List A) (k : ℕ) (d : A) → k < length e → get_or (e ++ more) k d ≡ get_or e k d
entry-left [] more k d h = absurd (omega arith)
entry-left (x ∷ e) more zero d h = refl
entry-left (x ∷ e) more (suc k) d h = entry-left e more k d (omega arith)

entry-here : {A : Type 0} (e : List A) (x : A) (d : A) → get_or (e ++ x ∷ []) (length e) d ≡ x
entry-here [] x d = refl
entry-here (y ∷ e) x d = entry-here e x d

entry-other : {A : Type 0} (e : List A) (x : A) (k : ℕ) (d : A) → ¬ (k ≡ length e) → get_or (e ++ x ∷ []) k d ≡ get_or e k d
entry-other [] x zero d h = absurd (h refl)
entry-other [] x (suc k) d h = refl
entry-other (y ∷ e) x zero d h = refl
entry-other (y ∷ e) x (suc k) d h = entry-other e x k d (λ is. h (ap suc is))

-- a leaf is the same with more names after
pub leaf-left : (e more : List Standing) (x : Leaf) → IsLeafWithin (length e) x → leaf_said (e ++ more) x ≡ leaf_said e x
leaf-left e more (l.Slot k) h = fun_ext (λ n. ap (λ z. z n) (entry-left e more k nothing h))
leaf-left e more (l.Number v) h = fun_ext (λ n. refl)
leaf-left e more (l.Truth v) h = fun_ext (λ n. refl)
leaf-left e more (l.Constant k) h = fun_ext (λ n. refl)

pub leaf-bound : (D : Calls) (e : List Standing) (xs : List Body) (x : Leaf) → IsLeafWithin (length e) x → leaf_said (bound_said D e (shapes_of xs)) x ≡ leaf_said e x
leaf-bound D e xs x h = let p = bound-behind D e xs in ap (λ z. leaf_said z x) p.1 ∙ leaf-left e p.0 x h

pub leaf-here : (e : List Standing) (s : Standing) → leaf_said (e ++ s ∷ []) (l.Slot (length e)) ≡ s
leaf-here e s = fun_ext (λ n. ap (λ z. z n) (entry-here e s nothing))

equal_numbers : (j k : ℕ) → nat_eq j k ≡ true → j ≡ k
equal_numbers j k h = grind arith

same_numbers : (j k : ℕ) → j ≡ k → nat_eq j k ≡ true
same_numbers j k h = grind arith

pub leaf-other : (e : List Standing) (s : Standing) (x : Leaf) → is_slot x (length e) ≡ false → leaf_said (e ++ s ∷ []) x ≡ leaf_said e x
leaf-other e s (l.Slot k) h = fun_ext (λ n. ap (λ z. z n) (entry-other e s k nothing (λ is. let same = same_numbers k (length e) is in cc)))
leaf-other e s (l.Number v) h = fun_ext (λ n. refl)
leaf-other e s (l.Truth v) h = fun_ext (λ n. refl)
leaf-other e s (l.Constant k) h = fun_ext (λ n. refl)

pub leaf-same : (e : List Standing) (s : Standing) (x : Leaf) → is_slot x (length e) ≡ true → leaf_said (e ++ s ∷ []) x ≡ s
leaf-same e s (l.Slot k) h = ap (λ z. leaf_said (e ++ s ∷ []) (l.Slot z)) (equal_numbers k (length e) h) ∙ leaf-here e s
leaf-same e s (l.Number v) h = absurd (let bad : false ≡ true = h in cc)
leaf-same e s (l.Truth v) h = absurd (let bad : false ≡ true = h in cc)
leaf-same e s (l.Constant k) h = absurd (let bad : false ≡ true = h in cc)

-- One binding less.

pub without-last : (D : Calls) (e : List Standing) (m : ℕ) (kept less : List Body) (last : Body) (x : Leaf) → kept ≡ less ++ last ∷ [] → m ≡ length e + length less → is_slot x m ≡ false
    → leaf_said (bound_said D e (shapes_of kept)) x ≡ leaf_said (bound_said D e (shapes_of less)) x
without-last D e m kept less last x parts is not_here =
    let B = bound_said D e (shapes_of less) in
    ap (λ z. leaf_said (bound_said D e (shapes_of z)) x) parts ∙ ap (λ z. leaf_said z x) (bound-more D e less last)
    ∙ leaf-other B (shape_said D B (shape last)) x (ap (is_slot x) (bound-count D e less ∙ sym is) ∙ not_here)

pub at-last : (D : Calls) (e : List Standing) (m : ℕ) (kept less : List Body) (last : Body) (x : Leaf) → kept ≡ less ++ last ∷ [] → m ≡ length e + length less → is_slot x m ≡ true
    → leaf_said (bound_said D e (shapes_of kept)) x ≡ shape_said D (bound_said D e (shapes_of less)) (shape last)
at-last D e m kept less last x parts is here =
    let B = bound_said D e (shapes_of less) in
    ap (λ z. leaf_said (bound_said D e (shapes_of z)) x) parts ∙ ap (λ z. leaf_said z x) (bound-more D e less last)
    ∙ leaf-same B (shape_said D B (shape last)) x (ap (is_slot x) (bound-count D e less ∙ sym is) ∙ here)

pub let-said : (D : Calls) (e : List Standing) (bs : List Body) (t : Body) (n : ℕ) → shape_said D e (shape (b.Let bs t)) n ≡ shape_said D (bound_said D e (shapes_of bs)) (shape t) n
let-said D e bs t n = ap (λ z. shape_said D e z n) (shape-Let bs t)

pub let-joined : (D : Calls) (e : List Standing) (kept more : List Body) (t : Body) (n : ℕ)
    → shape_said D e (shape (b.Let (kept ++ more) t)) n ≡ shape_said D (bound_said D e (shapes_of kept)) (shape (b.Let more t)) n
let-joined D e kept more t n =
    let-said D e (kept ++ more) t n ∙ ap (λ z. shape_said D z (shape t) n) (bound-append D e kept more) ∙ sym (let-said D (bound_said D e (shapes_of kept)) more t n)

-- one leaf more
pub within-more : (D : Calls) (e more : List Standing) (bs : List Body) (i : ℕ) (d : Body) (x : Leaf) → i < length bs → get_or bs i d ≡ b.Leaf x → IsLeafWithin (length e) x
    → shapes_said D (e ++ more) (shapes_of (take i bs)) ≡ shapes_said D e (shapes_of (take i bs))
    → shapes_said D (e ++ more) (shapes_of (take (i + 1) bs)) ≡ shapes_said D e (shapes_of (take (i + 1) bs))
within-more D e more bs i d x h is low so_far =
    each (e ++ more)
    ∙ ap₂ (λ v w. v ++ w ∷ []) (sym (said-each D (e ++ more) (take i bs)) ∙ so_far ∙ said-each D e (take i bs))
    (ap (λ z. shape_said D (e ++ more) (shape z)) is ∙ leaf-said D (e ++ more) x ∙ leaf-left e more x low ∙ sym (leaf-said D e x) ∙ ap (λ z. shape_said D e (shape z)) (sym is))
    ∙ sym (each e)
  where
    each : (f : List Standing) → shapes_said D f (shapes_of (take (i + 1) bs)) ≡ map (λ b. shape_said D f (shape b)) (take i bs) ++ shape_said D f (shape (get_or bs i d)) ∷ []
    each f = said-each D f (take (i + 1) bs) ∙ ap (map (λ b. shape_said D f (shape b))) (take_more bs i d h) ∙ map-append (λ b. shape_said D f (shape b)) (take i bs) (get_or bs i d ∷ [])
