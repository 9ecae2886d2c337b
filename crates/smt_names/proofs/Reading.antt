-- What was resolved, list by list.
use Rattle.std.proofs.Common.{◌≡◌, ℕ, zero, suc, ◌+◌, ◌<◌, ◌≤◌, Bool, true, false, List, [], ◌∷◌, ◌++◌, map, length, Some, None, refl, sym, ap, ap₂, subst, ◌∙◌, take, get_or, if◌then◌else◌, arith, length-append}
use Rattle.std.proofs.lemmas.List.{length-map, length-take-le, map-append, take_more}
use Rattle.base_texts.specs.Texts.{is_text}
use Rattle.smt_terms.specs.Operators.{found}
use Rattle.form_typed.specs.Formula.{Formula}
use Rattle.smt_terms.specs.Term.{PlacedTerm}
use Rattle.smt_terms.specs.declared.term.Variable.{Variable}
use Rattle.smt_terms.specs.Evaluation.{texts_of, with_names}
use Rattle.smt_terms.specs.Translation.{Said, a_formula, formula_in, Standing, Replacements, Writer, variable, said}
use Rattle.smt_terms.specs.Translation as translation
use Rattle.smt_names.specs.declared.body.Leaf.{Leaf}
use Rattle.smt_names.specs.declared.body.Leaf.TheVariants as l
use Rattle.smt_names.specs.declared.scope.Named.{Named}
use Rattle.smt_names.specs.declared.body.Body.{Body}
use Rattle.smt_names.specs.declared.body.Body.TheVariants as b
use Rattle.smt_names.specs.Body.{Shape, shape, shapes_of}
use Rattle.smt_names.specs.Saying.{Calls, leaf_said, shape_said, bound_said, quantified_by, quantified_over, with_variables}
use Rattle.smt_names.specs.Scopes.{BoundNames, named_onto, names_in, IsLeafWithin, AreWithin, AreLeavesWithin}
use Rattle.smt_names.specs.Slots.{slots_onto}
use Rattle.smt_names.proofs.Behind.{leaf-left, leaf-here, bound-more, bound-count}
use Rattle.smt_names.proofs.Saying.{leaf-said}

leaf-up : (n m : ℕ) (x : Leaf) → n ≤ m → IsLeafWithin n x → IsLeafWithin m x
leaf-up n m (l.Slot k) le h = omega (arith, h, le)
leaf-up n m (l.Number v) le h = tt
leaf-up n m (l.Truth b) le h = tt
leaf-up n m (l.Constant k) le h = tt

pub low-up : (n m : ℕ) (xs : List Leaf) → n ≤ m → AreLeavesWithin n xs → AreLeavesWithin m xs
low-up n m [] le h = tt
low-up n m (x ∷ xs) le h = (leaf-up n m x le h.0, low-up n m xs le h.1)

pub low-more : (n : ℕ) (xs : List Leaf) (x : Leaf) → AreLeavesWithin n xs → IsLeafWithin n x → AreLeavesWithin n (xs ++ x ∷ [])
low-more n [] x h k = (k, tt)
low-more n (y ∷ xs) x h k = (h.0, low-more n xs x h.1 k)

pub within-up : (n m : ℕ) (ls : BoundNames) → n ≤ m → AreWithin n ls → AreWithin m ls
within-up n m [] le h = tt
within-up n m (x ∷ ls) le h = (leaf-up n m x.1 le h.0, within-up n m ls le h.1)

pub within-onto : (n : ℕ) (xs : List Named) (ls : BoundNames) → AreLeavesWithin n (map (λ x. x.leaf) xs) → AreWithin n ls → AreWithin n (named_onto xs ls)
within-onto n [] ls h k = k
within-onto n (x ∷ xs) ls h k = within-onto n xs ((x.text.now, x.leaf) ∷ ls) h.1 (h.0, k)

-- the same with more names after
pub names-left : (e more : List Standing) (ls : BoundNames) → AreWithin (length e) ls → names_in (e ++ more) ls ≡ names_in e ls
names-left e more [] h = refl
names-left e more (x ∷ ls) h = ap₂ (λ s z. (x.0, s) ∷ z) (leaf-left e more x.1 h.0) (names-left e more ls h.1)

pub leaves-left : (e more : List Standing) (xs : List Leaf) → AreLeavesWithin (length e) xs → map (leaf_said (e ++ more)) xs ≡ map (leaf_said e) xs
leaves-left e more [] h = refl
leaves-left e more (x ∷ xs) h = ap₂ (λ s z. s ∷ z) (leaf-left e more x h.0) (leaves-left e more xs h.1)

-- what a name stands for
pub found-leaf : (e : List Standing) (t : List ℕ) (ls : BoundNames) (x : Leaf) → found t ls ≡ Some x → found t (names_in e ls) ≡ Some (leaf_said e x)
found-leaf e t [] x h = absurd (let bad : None ≡ Some x = h in cc)
found-leaf e t (y ∷ ls) x h = by (is_text t y.0) h (λ k. found-leaf e t ls x k)
  where
    by : (b : Bool) → (if b then Some y.1 else found t ls) ≡ Some x → (found t ls ≡ Some x → found t (names_in e ls) ≡ Some (leaf_said e x))
        → (if b then Some (leaf_said e y.1) else found t (names_in e ls)) ≡ Some (leaf_said e x)
    by true k later = let same : y.1 ≡ x = cc in ap (λ z. Some (leaf_said e z)) same
    by false k later = later k

pub found-no_leaf : (e : List Standing) (t : List ℕ) (ls : BoundNames) → found t ls ≡ None → found t (names_in e ls) ≡ None
found-no_leaf e t [] h = refl
found-no_leaf e t (y ∷ ls) h = by (is_text t y.0) h (λ k. found-no_leaf e t ls k)
  where
    by : (b : Bool) → (if b then Some y.1 else found t ls) ≡ None → (found t ls ≡ None → found t (names_in e ls) ≡ None)
        → (if b then Some (leaf_said e y.1) else found t (names_in e ls)) ≡ None
    by true k later = absurd (let bad : Some y.1 ≡ None = k in cc)
    by false k later = later k

-- Names of a list put before others.

pub onto-names : (e : List Standing) (xs : List Named) (ls : BoundNames)
    → names_in e (named_onto xs ls) ≡ with_names (map (λ x. x.text.now) xs) (map (λ x. leaf_said e x.leaf) xs) (names_in e ls)
onto-names e [] ls = refl
onto-names e (x ∷ xs) ls = onto-names e xs ((x.text.now, x.leaf) ∷ ls)

pub onto-append : (xs : List Named) (x : Named) (ls : BoundNames) → named_onto (xs ++ x ∷ []) ls ≡ (x.text.now, x.leaf) ∷ named_onto xs ls
onto-append [] x ls = refl
onto-append (y ∷ xs) x ls = onto-append xs x ((y.text.now, y.leaf) ∷ ls)

pub slots-append : (k : ℕ) (xs : List (List ℕ)) (x : List ℕ) (ls : BoundNames) → slots_onto k (xs ++ x ∷ []) ls ≡ (x, l.Slot (k + length xs)) ∷ slots_onto k xs ls
slots-append k [] x ls = let is : k ≡ k + 0 = omega arith in ap (λ z. (x, l.Slot z) ∷ ls) is
slots-append k (y ∷ xs) x ls =
    let is : suc k + length xs ≡ k + suc (length xs) = omega arith in
    slots-append (suc k) xs x ((y, l.Slot k) ∷ ls) ∙ ap (λ z. (x, l.Slot z) ∷ slots_onto (suc k) xs ((y, l.Slot k) ∷ ls)) is

pub slots-within : (k : ℕ) (xs : List (List ℕ)) (ls : BoundNames) → AreWithin k ls → AreWithin (k + length xs) (slots_onto k xs ls)
slots-within k [] ls h = within-up k (k + 0) ls (omega arith) h
slots-within k (x ∷ xs) ls h =
    subst (λ n. AreWithin n (slots_onto (suc k) xs ((x, l.Slot k) ∷ ls))) (let is : suc k + length xs ≡ k + suc (length xs) = omega arith in is)
    (slots-within (suc k) xs ((x, l.Slot k) ∷ ls) (omega arith, within-up k (suc k) ls (omega arith) h))

-- Quantifiers.

with-names : (k : ℕ) (e : List Standing) (n : ℕ) → length (with_variables k e n) ≡ length e + k
with-names zero e n = omega arith
with-names (suc k) e n = omega (arith, with-names k (e ++ variable n ∷ []) (suc n), length-append e (variable n ∷ []))

one-quantifier : (all : Bool) (x : List ℕ) (xs : List (List ℕ)) (F : Replacements → ℕ → Formula) (c : Replacements) (n : ℕ)
    → quantified_by all (translation.bound_said all xs F ((x, variable n) ∷ c) (suc n)) ≡ translation.bound_said all (x ∷ xs) F c n
one-quantifier true x xs F c n = refl
one-quantifier false x xs F c n = refl

pub quantified-said : (D : Calls) (W : Writer) (all : Bool) (xs : List (List ℕ)) (t : PlacedTerm) (s : Shape) (ls : BoundNames) (e : List Standing) (n : ℕ) → AreWithin (length e) ls
    → ((f : List Standing) → length f ≡ length e + length xs → shape_said D f s ≡ said W (names_in f (slots_onto (length e) xs ls)) t)
    → quantified_over all (length xs) (formula_in (shape_said D (with_variables (length xs) e n) s (n + length xs)))
    ≡ translation.bound_said all xs (λ c m. formula_in (said W c t m)) (names_in e ls) n
quantified-said D W all [] t s ls e n low h =
    let is : n + 0 ≡ n = omega arith in
    ap (λ m. formula_in (shape_said D e s m)) is ∙ ap (λ z. formula_in (z n)) (h e (omega arith))
quantified-said D W all (x ∷ xs) t s ls e n low h =
    let e' = e ++ variable n ∷ [] in
    let ls' : BoundNames = (x, l.Slot (length e)) ∷ ls in
    let longer : length e' ≡ length e + 1 = length-append e (variable n ∷ []) in
    let is : n + suc (length xs) ≡ suc n + length xs = omega arith in
    let low' : AreWithin (length e') ls' = (omega (arith, longer), within-up (length e) (length e') ls (omega (arith, longer)) low) in
    let first : length e' ≡ suc (length e) = omega (arith, longer) in
    let names : names_in e' ls' ≡ (x, variable n) ∷ names_in e ls =
    ap₂ (λ v z. (x, v) ∷ z) (leaf-here e (variable n)) (names-left e (variable n ∷ []) ls low) in
    ap (λ m. quantified_by all (quantified_over all (length xs) (formula_in (shape_said D (with_variables (length xs) e' (suc n)) s m)))) is
    ∙ ap (quantified_by all) (quantified-said D W all xs t s ls' e' (suc n) low' (λ f long.
    h f (omega (arith, long, longer)) ∙ ap (λ k. said W (names_in f (slots_onto k xs ls')) t) (sym first)))
    ∙ ap (λ c. quantified_by all (translation.bound_said all xs (λ c m. formula_in (said W c t m)) c (suc n))) names
    ∙ one-quantifier all x xs (λ c m. formula_in (said W c t m)) (names_in e ls) n

-- one variable more
pub next-name : (names more : List Named) (x : Named) (k i : ℕ) (vs : List Variable) (d : Variable) (outer : BoundNames) → i < length vs → more ≡ names ++ x ∷ []
    → x.text.now ≡ (get_or vs i d).text → x.leaf ≡ l.Slot (k + i) → named_onto names outer ≡ slots_onto k (texts_of (take i vs)) outer
    → named_onto more outer ≡ slots_onto k (texts_of (take (i + 1) vs)) outer
next-name names more x k i vs d outer h is text leaf so_far =
    let many : length (texts_of (take i vs)) ≡ i = length-map (take i vs) (λ (v : Variable). v.text) ∙ length-take-le i vs (omega arith) in
    ap (λ z. named_onto z outer) is ∙ onto-append names x outer
    ∙ ap₂ (λ (t : List ℕ) z. (t, x.leaf) ∷ z) text so_far ∙ ap (λ z. ((get_or vs i d).text, z) ∷ slots_onto k (texts_of (take i vs)) outer) (leaf ∙ ap (λ j. l.Slot (k + j)) (sym many))
    ∙ sym (slots-append k (texts_of (take i vs)) (get_or vs i d).text outer)
    ∙ ap (λ z. slots_onto k z outer) (sym (ap texts_of (take_more vs i d h) ∙ map-append (λ (v : Variable). v.text) (take i vs) (get_or vs i d ∷ [])))

-- One name more.

pub leaf-kept : (D : Calls) (e : List Standing) (kept : List Body) (leaves more : List Leaf) (body : Body) (x : Leaf) → more ≡ leaves ++ x ∷ [] → body ≡ b.Leaf x
    → map (leaf_said (bound_said D e (shapes_of kept))) more
    ≡ map (leaf_said (bound_said D e (shapes_of kept))) leaves ++ shape_said D (bound_said D e (shapes_of kept)) (shape body) ∷ []
leaf-kept D e kept leaves more body x is same =
    let E = bound_said D e (shapes_of kept) in
    ap (map (leaf_said E)) is ∙ map-append (leaf_said E) leaves (x ∷ [])
    ∙ ap (λ z. map (leaf_said E) leaves ++ z ∷ []) (sym (ap (λ z. shape_said D E (shape z)) same ∙ leaf-said D E x))

pub slot-kept : (D : Calls) (e : List Standing) (kept kept' : List Body) (leaves more : List Leaf) (body : Body) (k : ℕ) → kept' ≡ kept ++ body ∷ [] → more ≡ leaves ++ l.Slot k ∷ []
    → k ≡ length e + length kept → AreLeavesWithin k leaves
    → map (leaf_said (bound_said D e (shapes_of kept'))) more
    ≡ map (leaf_said (bound_said D e (shapes_of kept))) leaves ++ shape_said D (bound_said D e (shapes_of kept)) (shape body) ∷ []
slot-kept D e kept kept' leaves more body k longer is count low =
    let E = bound_said D e (shapes_of kept) in
    let s = shape_said D E (shape body) in
    let wide : length E ≡ k = bound-count D e kept ∙ sym count in
    ap (λ z. map (leaf_said (bound_said D e (shapes_of z))) more) longer ∙ ap (λ z. map (leaf_said z) more) (bound-more D e kept body)
    ∙ ap (map (leaf_said (E ++ s ∷ []))) is ∙ map-append (leaf_said (E ++ s ∷ [])) leaves (l.Slot k ∷ [])
    ∙ ap₂ (λ v w. v ++ w ∷ []) (leaves-left E (s ∷ []) leaves (subst (λ j. AreLeavesWithin j leaves) (sym wide) low))
    (ap (λ j. leaf_said (E ++ s ∷ []) (l.Slot j)) (sym wide) ∙ leaf-here E s)
