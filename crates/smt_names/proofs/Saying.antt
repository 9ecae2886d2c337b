-- What bodies become: of lists, of leaves, and of calls.
use Rattle.std.proofs.Common.{◌≡◌, ℕ, slice_get, zero, suc, ◌+◌, ◌<◌, ◌≤◌, true, false, List, [], ◌∷◌, ◌++◌, map, length, nat_eq, Some, None, refl, sym, ap, ap₂, ◌∙◌, take, drop, get_or, if◌then◌else◌, arith}
use mathlib.Core.Path.{fun_ext}
use Rattle.std.proofs.lemmas.List.{length-map, map-append, take_more}
use Rattle.smt_terms.specs.declared.operator.Operator.{Operator}
use Rattle.smt_terms.specs.declared.operator.Operator.TheVariants as op
use Rattle.smt_terms.specs.Translation.{Said, Standing, at_depth, operated}
use Rattle.smt_names.specs.declared.body.Leaf.{Leaf}
use Rattle.smt_names.specs.declared.body.Leaf.TheVariants as l
use Rattle.smt_names.specs.declared.body.Body.{Body}
use Rattle.smt_names.specs.declared.body.Body.TheVariants as b
use Rattle.smt_names.specs.Body.{Shape, leaf, defined, shape, shapes_of}
use Rattle.smt_names.specs.Joining.{joins}
use Rattle.smt_names.specs.Saying.{Calls, nothing, leaf_said, shape_said, shapes_said, calls, calls_of, shapes_onto}
use Rattle.smt_names.proofs.Folds.{shape-Leaf, shape-Operated, shape-Defined}

-- Lists.

pub said-each : (D : Calls) (e : List Standing) (bs : List Body) → shapes_said D e (shapes_of bs) ≡ map (λ b. shape_said D e (shape b)) bs
said-each D e [] = refl
said-each D e (b ∷ bs) = ap (λ z. shape_said D e (shape b) ∷ z) (said-each D e bs)

pub said-count : (D : Calls) (e : List Standing) (bs : List Body) → length (shapes_said D e (shapes_of bs)) ≡ length bs
said-count D e bs = ap length (said-each D e bs) ∙ length-map bs (λ b. shape_said D e (shape b))

pub said-there : (D : Calls) (e : List Standing) (bs : List Body) (i : ℕ) (d : Body) (s : Standing) → i < length bs
    → get_or (shapes_said D e (shapes_of bs)) i s ≡ shape_said D e (shape (get_or bs i d))
said-there D e [] i d s h = absurd (omega arith)
said-there D e (b ∷ bs) zero d s h = refl
said-there D e (b ∷ bs) (suc i) d s h = said-there D e bs i d s (omega arith)

pub said-past : (D : Calls) (e : List Standing) (bs : List Body) (i : ℕ) (s : Standing) → length bs ≤ i → get_or (shapes_said D e (shapes_of bs)) i s ≡ s
said-past D e [] i s h = refl
said-past D e (b ∷ bs) zero s h = absurd (omega arith)
said-past D e (b ∷ bs) (suc i) s h = said-past D e bs i s (omega arith)

-- Leaves.

pub leaf-said : (D : Calls) (e : List Standing) (x : Leaf) → shape_said D e (shape (b.Leaf x)) ≡ leaf_said e x
leaf-said D e x = ap (shape_said D e) (shape-Leaf x) ∙ fun_ext (λ n. refl)

pub leaf_alone : (D : Calls) (e : List Standing) (x : Leaf) (n : ℕ) → shape_said D e (shape (b.Leaf x)) n ≡ leaf_said e x n
leaf_alone D e x n = ap (λ z. z n) (leaf-said D e x)

-- Operators.

joined-one : (o : Operator) (s : Said) → joins o ≡ true → operated o (s ∷ []) ≡ s
joined-one (op.Truth t) s h = cc
joined-one op.Not s h = cc
joined-one op.And s h = refl
joined-one op.Or s h = refl
joined-one op.Xor s h = refl
joined-one op.Implies s h = refl
joined-one op.Equal s h = cc
joined-one op.Distinct s h = cc
joined-one op.Choose s h = cc
joined-one (op.Compare r) s h = cc
joined-one op.Plus s h = refl
joined-one op.Minus s h = cc
joined-one op.Times s h = refl
joined-one op.Abs s h = cc

pub operation-one : (o : Operator) (only : Body) → joins o ≡ true → (D : Calls) (e : List Standing) (n : ℕ)
    → shape_said D e (shape only) n ≡ operated o (at_depth n (shapes_said D e (shapes_of (only ∷ []))))
operation-one o only h D e n = sym (joined-one o (shape_said D e (shape only) n) h)

pub operation-said : (o : Operator) (ts : List Body) (D : Calls) (e : List Standing) (n : ℕ)
    → shape_said D e (shape (b.Operated o ts)) n ≡ operated o (at_depth n (shapes_said D e (shapes_of ts)))
operation-said o ts D e n = ap (λ z. shape_said D e z n) (shape-Operated o ts)

-- Defined functions.

same_number : (k : ℕ) → nat_eq k k ≡ true
same_number k = grind arith

other_number : (j k : ℕ) → j < k → nat_eq j k ≡ false
other_number j k h = grind arith

-- those that come later do not count
pub calls-later : (before : List Shape) (bs : List Body) (k : ℕ) (ss : List Standing) (n : ℕ) → k < length before → calls (shapes_onto before bs) k ss n ≡ calls before k ss n
calls-later before [] k ss n h = refl
calls-later before (b ∷ bs) k ss n h =
    calls-later (shape b ∷ before) bs k ss n (omega arith)
    ∙ ap (λ z. if z then shape_said (calls before) ss (shape b) n else calls before k ss n) (other_number k (length before) h)

calls-from : (before : List Shape) (bs : List Body) (i : ℕ) (d : Body) (ss : List Standing) (n : ℕ) → i < length bs
    → calls (shapes_onto before bs) (length before + i) ss n ≡ shape_said (calls (shapes_onto before (take i bs))) ss (shape (get_or bs i d)) n
calls-from before [] i d ss n h = absurd (omega arith)
calls-from before (b ∷ bs) zero d ss n h =
    let k : length before + 0 ≡ length before = omega arith in
    ap (λ z. calls (shapes_onto (shape b ∷ before) bs) z ss n) k
    ∙ calls-later (shape b ∷ before) bs (length before) ss n (omega arith)
    ∙ ap (λ z. if z then shape_said (calls before) ss (shape b) n else calls before (length before) ss n) (same_number (length before))
calls-from before (b ∷ bs) (suc i) d ss n h =
    let k : length before + suc i ≡ suc (length before) + i = omega arith in
    ap (λ z. calls (shapes_onto (shape b ∷ before) bs) z ss n) k ∙ calls-from (shape b ∷ before) bs i d ss n (omega arith)

-- the defined function of a number is its body over those before it
pub calls-there : (bs : List Body) (k : ℕ) (d : Body) (ss : List Standing) (n : ℕ) → k < length bs
    → calls_of bs k ss n ≡ shape_said (calls_of (take k bs)) ss (shape (get_or bs k d)) n
calls-there bs k d ss n h =
    let is : 0 + k ≡ k = omega arith in
    ap (λ j. calls_of bs j ss n) (sym is) ∙ calls-from [] bs k d ss n h

onto-parts : (before : List Shape) (bs : List Body) (i : ℕ) → shapes_onto before bs ≡ shapes_onto (shapes_onto before (take i bs)) (drop i bs)
onto-parts before [] zero = refl
onto-parts before [] (suc i) = refl
onto-parts before (b ∷ bs) zero = refl
onto-parts before (b ∷ bs) (suc i) = onto-parts (shape b ∷ before) bs i

onto-count : (before : List Shape) (bs : List Body) → length (shapes_onto before bs) ≡ length before + length bs
onto-count before [] = omega arith
onto-count before (b ∷ bs) = omega (arith, onto-count (shape b ∷ before) bs)

-- those before a number are the same without those from it on
pub calls-before : (bs : List Body) (j k : ℕ) (ss : List Standing) (n : ℕ) → j < k → k ≤ length bs → calls_of (take k bs) j ss n ≡ calls_of bs j ss n
calls-before bs j k ss n h le =
    sym (ap (λ z. calls z j ss n) (onto-parts [] bs k)
    ∙ calls-later (shapes_onto [] (take k bs)) (drop k bs) j ss n (omega (arith, onto-count [] (take k bs), taken k bs le)))
  where
    taken : (i : ℕ) (xs : List Body) → i ≤ length xs → length (take i xs) ≡ i
    taken zero xs h = refl
    taken (suc i) [] h = omega arith
    taken (suc i) (x ∷ xs) h = ap suc (taken i xs (omega arith))

-- A leaf of a defined function's body at arguments.

pub placed-there : (D : Calls) (e : List Standing) (args : List Body) (i : ℕ) (d : Body) (x : Leaf) → i < length args → get_or args i d ≡ b.Leaf x
    → leaf_said e x ≡ leaf_said (shapes_said D e (shapes_of args)) (l.Slot i)
placed-there D e args i d x h is =
    fun_ext (λ n. ap (λ z. z n) (sym (leaf-said D e x) ∙ ap (λ z. shape_said D e (shape z)) (sym is) ∙ sym (said-there D e args i d nothing h)))

pub placed-past : (D : Calls) (e : List Standing) (args : List Body) (i : ℕ) → length args ≤ i → leaf_said e (l.Truth false) ≡ leaf_said (shapes_said D e (shapes_of args)) (l.Slot i)
placed-past D e args i h = fun_ext (λ n. ap (λ z. z n) (sym (said-past D e args i nothing h)))

-- one argument more
pub placed-more : (C D : Calls) (e ss : List Standing) (out inner : List Body) (i : ℕ) (d : Body) (x y : Leaf) → i < length inner → get_or inner i d ≡ b.Leaf x → leaf_said e y ≡ leaf_said ss x
    → shapes_said D e (shapes_of out) ≡ shapes_said C ss (shapes_of (take i inner))
    → shapes_said D e (shapes_of (out ++ b.Leaf y ∷ [])) ≡ shapes_said C ss (shapes_of (take (i + 1) inner))
placed-more C D e ss out inner i d x y h is same so_far =
    said-each D e (out ++ b.Leaf y ∷ []) ∙ map-append (λ b. shape_said D e (shape b)) out (b.Leaf y ∷ [])
    ∙ ap₂ (λ v w. v ++ w ∷ []) (sym (said-each D e out) ∙ so_far ∙ said-each C ss (take i inner))
    (leaf-said D e y ∙ same ∙ sym (leaf-said C ss x) ∙ ap (λ z. shape_said C ss (shape z)) (sym is))
    ∙ sym (map-append (λ b. shape_said C ss (shape b)) (take i inner) (get_or inner i d ∷ []))
    ∙ ap (map (λ b. shape_said C ss (shape b))) (sym (take_more inner i d h)) ∙ sym (said-each C ss (take (i + 1) inner))

pub picked-there : (D : Calls) (e : List Standing) (bs : List Body) (i : ℕ) (x : Body) (n : ℕ) → slice_get bs i ≡ Some x
    → shape_said D e (shape x) n ≡ get_or (shapes_said D e (shapes_of bs)) i nothing n
picked-there D e [] i x n is = let bad : None ≡ Some x = is in cc
picked-there D e (b ∷ bs) zero x n is = let same : b ≡ x = cc is in ap (λ z. shape_said D e (shape z) n) (sym same)
picked-there D e (b ∷ bs) (suc i) x n is = picked-there D e bs i x n is

pub picked-past : (D : Calls) (e : List Standing) (bs : List Body) (i n : ℕ) → length bs ≤ i
    → shape_said D e (shape (b.Leaf (l.Truth false))) n ≡ get_or (shapes_said D e (shapes_of bs)) i nothing n
picked-past D e bs i n h = ap (λ z. z n) (leaf-said D e (l.Truth false)) ∙ sym (ap (λ z. z n) (said-past D e bs i nothing h))

-- Calls.

-- where the body of a defined function is this one
pub call-there : (ds : List Body) (k : ℕ) (d body : Body) (s : Shape) (ss : List Standing) (n : ℕ) → k < length ds → get_or ds k d ≡ body → shape body ≡ s
    → calls_of ds k ss n ≡ shape_said (calls_of (take k ds)) ss s n
call-there ds k d body s ss n h is same = calls-there ds k d ss n h ∙ ap (λ z. shape_said (calls_of (take k ds)) ss (shape z) n) is ∙ ap (λ z. shape_said (calls_of (take k ds)) ss z n) same

pub call-leaf : (ds : List Body) (k : ℕ) (d : Body) (x : Leaf) (ss : List Standing) (n : ℕ) → k < length ds → get_or ds k d ≡ b.Leaf x → leaf_said ss x n ≡ calls_of ds k ss n
call-leaf ds k d x ss n h is = sym (call-there ds k d (b.Leaf x) (leaf x) ss n h is (shape-Leaf x))

pub call-call : (ds : List Body) (k : ℕ) (d : Body) (j : ℕ) (inner all : List Body) (e ss : List Standing) (n : ℕ) → k < length ds → get_or ds k d ≡ b.Defined j inner → j < k
    → shapes_said (calls_of ds) e (shapes_of all) ≡ shapes_said (calls_of (take k ds)) ss (shapes_of inner)
    → shape_said (calls_of ds) e (shape (b.Defined j all)) n ≡ calls_of ds k ss n
call-call ds k d j inner all e ss n h is less same =
    ap (λ z. shape_said (calls_of ds) e z n) (shape-Defined j all) ∙ ap (λ z. calls_of ds j z n) same
    ∙ sym (calls-before ds j k (shapes_said (calls_of (take k ds)) ss (shapes_of inner)) n less (omega (arith, h)))
    ∙ sym (call-there ds k d (b.Defined j inner) (defined j (shapes_of inner)) ss n h is (shape-Defined j inner))

pub call-kept : (D : Calls) (e : List Standing) (k : ℕ) (args : List Body) (n : ℕ) → shape_said D e (shape (b.Defined k args)) n ≡ D k (shapes_said D e (shapes_of args)) n
call-kept D e k args n = ap (λ z. shape_said D e z n) (shape-Defined k args)
