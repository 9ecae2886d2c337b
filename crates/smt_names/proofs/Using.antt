-- What a body becomes does not depend on the names that it does not use.
use Rattle.std.proofs.Common.{◌≡◌, ℕ, zero, suc, ◌+◌, ◌<◌, ◌≤◌, ◌||◌, Bool, true, false, List, [], ◌∷◌, ◌++◌, map, length, nat_eq, get_or, set, take, refl, sym, ap, ap₂, subst, ◌∙◌, arith, length-append, get_or-set_other}
use mathlib.Core.Path.{fun_ext}
use Rattle.std.proofs.lemmas.List.{set-append_left, take_more}
use Rattle.smt_terms.specs.Translation.{Standing, a_formula, a_term, formula_in, term_in, at_depth, operated, variable}
use Rattle.form_typed.specs.Formula as logic
use Rattle.form_typed.specs.Formula.{expressions}
use Rattle.smt_names.specs.declared.body.Leaf.{Leaf}
use Rattle.smt_names.specs.declared.body.Leaf.TheVariants as l
use Rattle.smt_names.specs.declared.body.Body.{Body}
use Rattle.smt_names.specs.Body.{Shape, Shapes, shape, shapes_of, leaf, operation, function, predicate, defined, let_in, quantified, no_shape, and_shape}
use Rattle.smt_names.specs.Saying.{Calls, nothing, leaf_said, shape_said, shapes_said, bound_said, with_variables, quantified_over, calls_of}
use Rattle.smt_names.specs.Uses.{is_name, occurs, occurs_in, AreMarked, AreUses}
use Rattle.smt_names.proofs.Saying.{calls-there}

neither : (a b : Bool) → (a || b) ≡ false → (a ≡ false) × (b ≡ false)
neither true b h = absurd (let bad : true ≡ false = h in cc)
neither false b h = (refl, h)

both-false : (a b : Bool) → a ≡ false → b ≡ false → (a || b) ≡ false
both-false true b h k = h
both-false false b h k = k

leaf-set : (e : List Standing) (i : ℕ) (s : Standing) (x : Leaf) (n : ℕ) → is_name i x ≡ false → leaf_said (set e i s) x n ≡ leaf_said e x n
leaf-set e i s (l.Number v) n h = refl
leaf-set e i s (l.Truth v) n h = refl
leaf-set e i s (l.Constant k) n h = refl
leaf-set e i s (l.Slot k) n h =
    let apart : ¬ (k ≡ i) = λ is. let same : nat_eq k i ≡ true = grind (arith, is) in cc in
    ap (λ z. z n) (get_or-set_other e i k s nothing apart)

variables-set : (k : ℕ) (e : List Standing) (i n : ℕ) (s : Standing) → i < length e → with_variables k (set e i s) n ≡ set (with_variables k e n) i s
variables-set zero e i n s h = refl
variables-set (suc k) e i n s h =
    ap (λ z. with_variables k z (suc n)) (sym (set-append_left e (variable n ∷ []) i s h))
    ∙ variables-set k (e ++ variable n ∷ []) i (suc n) s (omega (arith, length-append e (variable n ∷ [])))

variables-long : (k : ℕ) (e : List Standing) (n : ℕ) → length e ≤ length (with_variables k e n)
variables-long zero e n = omega arith
variables-long (suc k) e n = omega (arith, variables-long k (e ++ variable n ∷ []) (suc n), length-append e (variable n ∷ []))

bound-long : (D : Calls) (e : List Standing) (ts : Shapes) → length e ≤ length (bound_said D e ts)
bound-long D e no_shape = omega arith
bound-long D e (and_shape t ts) = omega (arith, bound-long D (e ++ shape_said D e t ∷ []) ts, length-append e (shape_said D e t ∷ []))

mutual
  -- another standing for a name that does not occur
  pub shape-set : (D : Calls) (t : Shape) (e : List Standing) (i : ℕ) (s : Standing) (n : ℕ) → occurs i t ≡ false → i < length e → shape_said D (set e i s) t n ≡ shape_said D e t n
  shape-set D (leaf x) e i s n h m = leaf-set e i s x n h
  shape-set D (operation o ts) e i s n h m = ap (λ z. operated o (at_depth n z)) (shapes-set D ts e i s h m)
  shape-set D (function k ts) e i s n h m = ap (λ z. a_term (logic.call k (expressions (map term_in (at_depth n z))))) (shapes-set D ts e i s h m)
  shape-set D (predicate k ts) e i s n h m = ap (λ z. a_formula (logic.applies k (expressions (map term_in (at_depth n z))))) (shapes-set D ts e i s h m)
  shape-set D (defined k ts) e i s n h m = ap (λ z. D k z n) (shapes-set D ts e i s h m)
  shape-set D (let_in bs t) e i s n h m =
      let apart = neither (occurs_in i bs) (occurs i t) h in
      let less : i < length (bound_said D e bs) = omega (arith, m, bound-long D e bs) in
      ap (λ z. shape_said D z t n) (bound-set D bs e i s apart.0 m) ∙ shape-set D t (bound_said D e bs) i s n apart.1 less
  shape-set D (quantified all k t) e i s n h m =
      let less : i < length (with_variables k e n) = omega (arith, m, variables-long k e n) in
      ap (λ z. a_formula (quantified_over all k (formula_in z)))
      (ap (λ z. shape_said D z t (n + k)) (variables-set k e i n s m) ∙ shape-set D t (with_variables k e n) i s (n + k) h less)

  shapes-set : (D : Calls) (ts : Shapes) (e : List Standing) (i : ℕ) (s : Standing) → occurs_in i ts ≡ false → i < length e → shapes_said D (set e i s) ts ≡ shapes_said D e ts
  shapes-set D no_shape e i s h m = refl
  shapes-set D (and_shape t ts) e i s h m =
      let apart = neither (occurs i t) (occurs_in i ts) h in
      ap₂ (λ x xs. x ∷ xs) (fun_ext (λ n. shape-set D t e i s n apart.0 m)) (shapes-set D ts e i s apart.1 m)

  bound-set : (D : Calls) (ts : Shapes) (e : List Standing) (i : ℕ) (s : Standing) → occurs_in i ts ≡ false → i < length e → bound_said D (set e i s) ts ≡ set (bound_said D e ts) i s
  bound-set D no_shape e i s h m = refl
  bound-set D (and_shape t ts) e i s h m =
      let apart = neither (occurs i t) (occurs_in i ts) h in
      ap (λ x. bound_said D (set e i s ++ x ∷ []) ts) (fun_ext (λ n. shape-set D t e i s n apart.0 m))
      ∙ ap (λ z. bound_said D z ts) (sym (set-append_left e (shape_said D e t ∷ []) i s m))
      ∙ bound-set D ts (e ++ shape_said D e t ∷ []) i s apart.1 (omega (arith, m, length-append e (shape_said D e t ∷ [])))

-- Arguments.

said-set : (D : Calls) (e : List Standing) (bs : List Body) (i : ℕ) (b : Body) → shapes_said D e (shapes_of (set bs i b)) ≡ set (shapes_said D e (shapes_of bs)) i (shape_said D e (shape b))
said-set D e [] i b = refl
said-set D e (x ∷ bs) zero b = refl
said-set D e (x ∷ bs) (suc i) b = ap (λ z. shape_said D e (shape x) ∷ z) (said-set D e bs i b)

said-long : (D : Calls) (e : List Standing) (bs : List Body) → length (shapes_said D e (shapes_of bs)) ≡ length bs
said-long D e [] = refl
said-long D e (x ∷ bs) = ap suc (said-long D e bs)

-- one argument that is not used
pub trim-one : (C D : Calls) (e : List Standing) (t : Shape) (us : List Bool) (bs : List Body) (i : ℕ) (b : Body) (n : ℕ) → AreMarked us t → get_or us i true ≡ false → i < length bs
    → shape_said C (shapes_said D e (shapes_of (set bs i b))) t n ≡ shape_said C (shapes_said D e (shapes_of bs)) t n
trim-one C D e t us bs i b n marked not_used less =
    ap (λ z. shape_said C z t n) (said-set D e bs i b)
    ∙ shape-set C t (shapes_said D e (shapes_of bs)) i (shape_said D e (shape b)) n (marked i not_used) (omega (arith, less, said-long D e bs))

pub mark-there : (us : List Bool) (i : ℕ) (d : Bool) → i < length us → get_or us i d ≡ false → get_or us i true ≡ false
mark-there [] i d h k = absurd (omega arith)
mark-there (u ∷ us) zero d h k = k
mark-there (u ∷ us) (suc i) d h k = mark-there us i d (omega arith) k

-- Marks.

occurs-append : (i : ℕ) (bs : List Body) (b : Body) → occurs_in i (shapes_of bs) ≡ false → occurs i (shape b) ≡ false → occurs_in i (shapes_of (bs ++ b ∷ [])) ≡ false
occurs-append i [] b h k = both-false (occurs i (shape b)) false k refl
occurs-append i (x ∷ bs) b h k =
    let apart = neither (occurs i (shape x)) (occurs_in i (shapes_of bs)) h in
    both-false (occurs i (shape x)) (occurs_in i (shapes_of (bs ++ b ∷ []))) apart.0 (occurs-append i bs b apart.1 k)

pub occurs-more : (i : ℕ) (bs : List Body) (j : ℕ) (d : Body) → j < length bs → occurs_in i (shapes_of (take j bs)) ≡ false → occurs i (shape (get_or bs j d)) ≡ false
    → occurs_in i (shapes_of (take (j + 1) bs)) ≡ false
occurs-more i bs j d h so_far here = ap (λ z. occurs_in i (shapes_of z)) (take_more bs j d h) ∙ occurs-append i (take j bs) (get_or bs j d) so_far here

-- Of all bodies.

pub no-uses : (uss : List (List Bool)) (ds : List Body) → uss ≡ [] → ds ≡ [] → AreUses uss ds
unfolding AreUses
no-uses uss ds is none = (ap length is ∙ sym (ap length none), λ k us d h. absurd (omega (arith, h, ap length none)))

get-before : {A : Type 0} (xs : List A) (x : A) (k : ℕ) (d : A) → k < length xs → get_or (xs ++ x ∷ []) k d ≡ get_or xs k d
get-before [] x k d h = absurd (omega arith)
get-before (y ∷ xs) x zero d h = refl
get-before (y ∷ xs) x (suc k) d h = get-before xs x k d (omega arith)

get-last : {A : Type 0} (xs : List A) (x : A) (k : ℕ) (d : A) → k ≡ length xs → get_or (xs ++ x ∷ []) k d ≡ x
get-last [] x zero d h = refl
get-last [] x (suc k) d h = absurd (omega (arith, h))
get-last (y ∷ xs) x zero d h = absurd (omega (arith, h))
get-last (y ∷ xs) x (suc k) d h = get-last xs x k d (omega (arith, h))

data Where (k n : ℕ) : Type 0 where
  before : k < n → Where k n
  last : k ≡ n → Where k n

place : (k n : ℕ) → k < suc n → Where k n
place zero zero h = last refl
place zero (suc n) h = before (omega arith)
place (suc k) zero h = absurd (omega arith)
place (suc k) (suc n) h = by (place k n (omega arith))
  where
    by : Where k n → Where (suc k) (suc n)
    by (before l) = before (omega (arith, l))
    by (last is) = last (ap suc is)

pub uses-more : (uss vss : List (List Bool)) (ds es : List Body) (us : List Bool) (b : Body) → vss ≡ uss ++ us ∷ [] → es ≡ ds ++ b ∷ [] → AreUses uss ds → AreMarked us (shape b) → AreUses vss es
unfolding AreUses
uses-more uss vss ds es us b is longer uses marked = (
  ap length is ∙ length-append uss (us ∷ []) ∙ ap (λ n. n + 1) uses.0 ∙ sym (ap length longer ∙ length-append ds (b ∷ [])),
  λ k vs d h.
      subst (λ z. AreMarked (get_or z k vs) (shape (get_or es k d))) (sym is)
      (subst (λ z. AreMarked (get_or (uss ++ us ∷ []) k vs) (shape (get_or z k d))) (sym longer)
      (by k vs d (place k (length ds) (omega (arith, h, ap length longer, length-append ds (b ∷ [])))))),
)
  where
    by : (k : ℕ) (vs : List Bool) (d : Body) → Where k (length ds) → AreMarked (get_or (uss ++ us ∷ []) k vs) (shape (get_or (ds ++ b ∷ []) k d))
    by k vs d (before h) =
        subst (λ z. AreMarked z (shape (get_or (ds ++ b ∷ []) k d))) (sym (get-before uss us k vs (omega (arith, h, uses.0))))
        (subst (λ z. AreMarked (get_or uss k vs) (shape z)) (sym (get-before ds b k d h)) (uses.1 k vs d h))
    by k vs d (last at) =
        subst (λ z. AreMarked z (shape (get_or (ds ++ b ∷ []) k d))) (sym (get-last uss us k vs (at ∙ sym uses.0)))
        (subst (λ z. AreMarked us (shape z)) (sym (get-last ds b k d at)) marked)

-- Calls.

-- a call without what is not used
pub call-trimmed : (uss : List (List Bool)) (ds : List Body) (k : ℕ) (us vs : List Bool) (d : Body) (e ss ts : List Standing) (n : ℕ) → AreUses uss ds → k < length ds → us ≡ get_or uss k vs
    → ((t : Shape) → AreMarked us t → (C : Calls) (n : ℕ) → shape_said C ss t n ≡ shape_said C ts t n) → calls_of ds k ss n ≡ calls_of ds k ts n
unfolding AreUses
call-trimmed uss ds k us vs d e ss ts n uses low is same =
    calls-there ds k d ss n low
    ∙ same (shape (get_or ds k d)) (subst (λ z. AreMarked z (shape (get_or ds k d))) (sym is) (uses.1 k vs d low)) (calls_of (take k ds)) n ∙ sym (calls-there ds k d ts n low)
