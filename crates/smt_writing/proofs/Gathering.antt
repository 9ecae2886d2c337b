-- Bound names that are gathered one after the other: what replaces them, and their heights.
use Rattle.std.proofs.Common.{◌≡◌, ℕ, zero, suc, ◌+◌, ◌<◌, ◌≤◌, List, [], ◌∷◌, ◌++◌, length, refl, sym, ap, ◌∙◌, take, get_or, arith, length-append, if◌then◌else◌, nat_eq, true, false}
use Rattle.smt_terms.specs.Translation.{Standing, variable}
use Rattle.smt_names.specs.declared.body.Body.{Body}
use Rattle.smt_names.specs.Body.{Shape, shape, shapes_of}
use Rattle.smt_names.specs.Saying.{Calls, shape_said, bound_said, with_variables, shapes_onto}
use Rattle.smt_writing.specs.Heights.{Costs, height, heights, total_height, bound_heights, with_zeros, costs, costs_of}

abbrev pub gathered : {A : Type 0} → (List A → Shape → A) → List A → List Body → List A
gathered F e [] = e
gathered F e (b ∷ bs) = gathered F (e ++ F e (shape b) ∷ []) bs

pub bound-gathered : (D : Calls) (e : List Standing) (bs : List Body) → bound_said D e (shapes_of bs) ≡ gathered (shape_said D) e bs
bound-gathered D e [] = refl
bound-gathered D e (b ∷ bs) = bound-gathered D (e ++ shape_said D e (shape b) ∷ []) bs

pub heights-gathered : (C : Costs) (e : List ℕ) (bs : List Body) → bound_heights C e (shapes_of bs) ≡ gathered (height C) e bs
heights-gathered C e [] = refl
heights-gathered C e (b ∷ bs) = heights-gathered C (e ++ height C e (shape b) ∷ []) bs

pub entry-left : {A : Type 0} (e more : List A) (k : ℕ) (d : A) → k < length e → get_or (e ++ more) k d ≡ get_or e k d
entry-left [] more k d h = absurd (omega arith)
entry-left (x ∷ e) more zero d h = refl
entry-left (x ∷ e) more (suc k) d h = entry-left e more k d (omega arith)

pub entry-here : {A : Type 0} (e : List A) (x : A) (d : A) → get_or (e ++ x ∷ []) (length e) d ≡ x
entry-here [] x d = refl
entry-here (y ∷ e) x d = entry-here e x d

pub entry-past : {A : Type 0} (e : List A) (k : ℕ) (d : A) → length e ≤ k → get_or e k d ≡ d
entry-past [] k d h = refl
entry-past (x ∷ e) zero d h = absurd (omega arith)
entry-past (x ∷ e) (suc k) d h = entry-past e k d (omega arith)

pub gathered-count : {A : Type 0} (F : List A → Shape → A) (e : List A) (bs : List Body) → length (gathered F e bs) ≡ length e + length bs
gathered-count F e [] = omega arith
gathered-count F e (b ∷ bs) = omega (arith, gathered-count F (e ++ F e (shape b) ∷ []) bs, length-append e (F e (shape b) ∷ []))

pub gathered-before : {A : Type 0} (F : List A → Shape → A) (e : List A) (bs : List Body) (k : ℕ) (d : A) → k < length e → get_or (gathered F e bs) k d ≡ get_or e k d
gathered-before F e [] k d h = refl
gathered-before F e (b ∷ bs) k d h =
    gathered-before F (e ++ F e (shape b) ∷ []) bs k d (omega (arith, length-append e (F e (shape b) ∷ []))) ∙ entry-left e (F e (shape b) ∷ []) k d h

pub gathered-there : {A : Type 0} (F : List A → Shape → A) (e : List A) (bs : List Body) (i : ℕ) (b : Body) (d : A) → i < length bs
    → get_or (gathered F e bs) (length e + i) d ≡ F (gathered F e (take i bs)) (shape (get_or bs i b))
gathered-there F e [] i b d h = absurd (omega arith)
gathered-there F e (x ∷ bs) zero b d h =
    let is : length e + 0 ≡ length e = omega arith in
    ap (λ k. get_or (gathered F (e ++ F e (shape x) ∷ []) bs) k d) is
    ∙ gathered-before F (e ++ F e (shape x) ∷ []) bs (length e) d (omega (arith, length-append e (F e (shape x) ∷ []))) ∙ entry-here e (F e (shape x)) d
gathered-there F e (x ∷ bs) (suc i) b d h =
    let more = e ++ F e (shape x) ∷ [] in
    let is : length e + suc i ≡ length more + i = omega (arith, length-append e (F e (shape x) ∷ [])) in
    ap (λ k. get_or (gathered F more bs) k d) is ∙ gathered-there F more bs i b d (omega arith)

-- Variables.

pub variables-count : (k : ℕ) (e : List Standing) (n : ℕ) → length (with_variables k e n) ≡ length e + k
variables-count zero e n = omega arith
variables-count (suc k) e n = omega (arith, variables-count k (e ++ variable n ∷ []) (suc n), length-append e (variable n ∷ []))

pub variables-before : (k : ℕ) (e : List Standing) (n j : ℕ) (d : Standing) → j < length e → get_or (with_variables k e n) j d ≡ get_or e j d
variables-before zero e n j d h = refl
variables-before (suc k) e n j d h =
    variables-before k (e ++ variable n ∷ []) (suc n) j d (omega (arith, length-append e (variable n ∷ []))) ∙ entry-left e (variable n ∷ []) j d h

pub variables-there : (k : ℕ) (e : List Standing) (n i : ℕ) (d : Standing) → i < k → get_or (with_variables k e n) (length e + i) d ≡ variable (n + i)
variables-there zero e n i d h = absurd (omega arith)
variables-there (suc k) e n zero d h =
    let is : length e + 0 ≡ length e = omega arith in
    let same : n ≡ n + 0 = omega arith in
    ap (λ j. get_or (with_variables k (e ++ variable n ∷ []) (suc n)) j d) is
    ∙ variables-before k (e ++ variable n ∷ []) (suc n) (length e) d (omega (arith, length-append e (variable n ∷ []))) ∙ entry-here e (variable n) d ∙ ap variable same
variables-there (suc k) e n (suc i) d h =
    let more = e ++ variable n ∷ [] in
    let is : length e + suc i ≡ length more + i = omega (arith, length-append e (variable n ∷ [])) in
    let same : suc n + i ≡ n + suc i = omega arith in
    ap (λ j. get_or (with_variables k more (suc n)) j d) is ∙ variables-there k more (suc n) i d (omega arith) ∙ ap variable same

pub zeros-count : (k : ℕ) (e : List ℕ) → length (with_zeros k e) ≡ length e + k
zeros-count zero e = omega arith
zeros-count (suc k) e = omega (arith, zeros-count k (e ++ 0 ∷ []), length-append e (0 ∷ []))

pub zeros-before : (k : ℕ) (e : List ℕ) (j : ℕ) → j < length e → get_or (with_zeros k e) j 0 ≡ get_or e j 0
zeros-before zero e j h = refl
zeros-before (suc k) e j h = zeros-before k (e ++ 0 ∷ []) j (omega (arith, length-append e (0 ∷ []))) ∙ entry-left e (0 ∷ []) j 0 h

-- Arguments.

pub heights-count : (C : Costs) (e : List ℕ) (bs : List Body) → length (heights C e (shapes_of bs)) ≡ length bs
heights-count C e [] = refl
heights-count C e (b ∷ bs) = ap suc (heights-count C e bs)

pub heights-there : (C : Costs) (e : List ℕ) (bs : List Body) (i : ℕ) (d : Body) → i < length bs → get_or (heights C e (shapes_of bs)) i 0 ≡ height C e (shape (get_or bs i d))
heights-there C e [] i d h = absurd (omega arith)
heights-there C e (b ∷ bs) zero d h = refl
heights-there C e (b ∷ bs) (suc i) d h = heights-there C e bs i d (omega arith)

pub member-height : (C : Costs) (e : List ℕ) (bs : List Body) (i : ℕ) (d : Body) → i < length bs → height C e (shape (get_or bs i d)) < total_height (heights C e (shapes_of bs))
member-height C e [] i d h = absurd (omega arith)
member-height C e (b ∷ bs) zero d h = omega arith
member-height C e (b ∷ bs) (suc i) d h = omega (arith, member-height C e bs i d (omega arith))

-- Calls.

same_number : (k : ℕ) → nat_eq k k ≡ true
same_number k = grind arith

other_number : (j k : ℕ) → j < k → nat_eq j k ≡ false
other_number j k h = grind arith

costs-later : (before : List Shape) (bs : List Body) (k : ℕ) (hs : List ℕ) → k < length before → costs (shapes_onto before bs) k hs ≡ costs before k hs
costs-later before [] k hs h = refl
costs-later before (b ∷ bs) k hs h =
    costs-later (shape b ∷ before) bs k hs (omega arith)
    ∙ ap (λ z. if z then height (costs before) hs (shape b) else costs before k hs) (other_number k (length before) h)

costs-from : (before : List Shape) (bs : List Body) (i : ℕ) (d : Body) (hs : List ℕ) → i < length bs
    → costs (shapes_onto before bs) (length before + i) hs ≡ height (costs (shapes_onto before (take i bs))) hs (shape (get_or bs i d))
costs-from before [] i d hs h = absurd (omega arith)
costs-from before (b ∷ bs) zero d hs h =
    let k : length before + 0 ≡ length before = omega arith in
    ap (λ z. costs (shapes_onto (shape b ∷ before) bs) z hs) k
    ∙ costs-later (shape b ∷ before) bs (length before) hs (omega arith)
    ∙ ap (λ z. if z then height (costs before) hs (shape b) else costs before (length before) hs) (same_number (length before))
costs-from before (b ∷ bs) (suc i) d hs h =
    let k : length before + suc i ≡ suc (length before) + i = omega arith in
    ap (λ z. costs (shapes_onto (shape b ∷ before) bs) z hs) k ∙ costs-from (shape b ∷ before) bs i d hs (omega arith)

pub costs-there : (bs : List Body) (k : ℕ) (d : Body) (hs : List ℕ) → k < length bs → costs_of bs k hs ≡ height (costs_of (take k bs)) hs (shape (get_or bs k d))
costs-there bs k d hs h =
    let is : 0 + k ≡ k = omega arith in
    ap (λ j. costs_of bs j hs) (sym is) ∙ costs-from [] bs k d hs h
