-- What is known of a script, with one symbol more.
use Rattle.std.proofs.Common.{◌≡◌, ℕ, suc, ◌+◌, ◌<◌, ◌≤◌, Bool, true, false, List, [], ◌∷◌, ◌++◌, length, Some, refl, sym, ap, ap₂, subst, ◌∙◌, nat_eq, take, get_or, if◌then◌else◌, arith, append_assoc, length-append}
use Rattle.std.proofs.lemmas.List.{length-take-le, take_more}
use Rattle.base_texts.specs.Texts.{is_text, is_among}
use Rattle.smt_terms.specs.Term.{PlacedTerm}
use Rattle.smt_terms.specs.Operators.{found}
use Rattle.smt_terms.specs.Evaluation as evaluation
use Rattle.smt_terms.specs.Evaluation.{Globals, defined_by, with_names}
use Rattle.smt_terms.specs.Translation.{Standing, said, meant_said, symbol_said}
use Rattle.smt_names.specs.declared.body.Leaf.TheVariants as l
use Rattle.smt_names.specs.declared.body.Body.{Body}
use Rattle.smt_names.specs.declared.scope.Named.{Named}
use Rattle.smt_names.specs.declared.symbols.Meant.{Meant}
use Rattle.smt_names.specs.declared.symbols.Meant.TheVariants as m
use Rattle.smt_names.specs.declared.symbols.Symbols.{Symbols}
use Rattle.smt_names.specs.declared.known.Declared.{Declared}
use Rattle.smt_names.specs.declared.known.Declared.TheVariants as d
use Rattle.smt_names.specs.Known.{declared_as, kept_as}
use Rattle.smt_names.specs.Body.{shape}
use Rattle.smt_names.specs.Saying.{Calls, nothing, shape_said, leaf_said, calls_of}
use Rattle.smt_names.specs.Scopes.{BoundNames, named_onto, names_in}
use Rattle.smt_names.specs.Slots.{slots_onto}
use Rattle.smt_names.specs.Symbols.{paired, looked_up, meant_as, IsMeantWithin, AreMeantWithin, StandsFor}
use Rattle.smt_names.proofs.Saying.{calls-there, calls-before}
use Rattle.smt_names.proofs.Behind.{leaf-here, leaf-left}
use Rattle.smt_names.proofs.Reading.{onto-append, slots-append}
use Rattle.smt_names.proofs.Tables.{with-symbol}

-- one name more
pub next-text : (names more : List Named) (x : Named) (k i : ℕ) (ts : List (List ℕ)) (d : List ℕ) (outer : BoundNames) → i < length ts → more ≡ names ++ x ∷ []
    → x.text.now ≡ get_or ts i d → x.leaf ≡ l.Slot (k + i) → named_onto names outer ≡ slots_onto k (take i ts) outer → named_onto more outer ≡ slots_onto k (take (i + 1) ts) outer
next-text names more x k i ts d outer h is text leaf so_far =
    let many : length (take i ts) ≡ i = length-take-le i ts (omega arith) in
    ap (λ z. named_onto z outer) is ∙ onto-append names x outer
    ∙ ap₂ (λ (t : List ℕ) z. (t, x.leaf) ∷ z) text so_far ∙ ap (λ z. (get_or ts i d, z) ∷ slots_onto k (take i ts) outer) (leaf ∙ ap (λ j. l.Slot (k + j)) (sym many))
    ∙ sym (slots-append k (take i ts) (get_or ts i d) outer) ∙ ap (λ z. slots_onto k z outer) (sym (take_more ts i d h))

within-one : (n : ℕ) (ms : List Meant) (x : Meant) → AreMeantWithin n ms → IsMeantWithin n x → AreMeantWithin n (ms ++ x ∷ [])
within-one n [] x h k = (k, tt)
within-one n (y ∷ ms) x h k = (h.0, within-one n ms x h.1 k)

meant-up : (n k : ℕ) (x : Meant) → n ≤ k → IsMeantWithin n x → IsMeantWithin k x
meant-up n k (m.Defined j arity) le h = omega (arith, h, le)
meant-up n k (m.Constant j) le h = tt
meant-up n k (m.Function j) le h = tt
meant-up n k (m.Predicate j) le h = tt

all-up : (n k : ℕ) (ms : List Meant) → n ≤ k → AreMeantWithin n ms → AreMeantWithin k ms
all-up n k [] le h = tt
all-up n k (x ∷ ms) le h = (meant-up n k x le h.0, all-up n k ms le h.1)

-- One symbol more.

pub agrees-more : (gs : Globals) (s s' : Symbols) (ds : List Body) (x : List ℕ) (M : evaluation.Meant) (w : Meant) → StandsFor gs s ds → is_among x s.texts ≡ false
    → s'.texts ≡ s.texts ++ x ∷ [] → s'.meant.items ≡ s.meant.items ++ w ∷ [] → IsMeantWithin (length ds) w
    → ((ss : List Standing) (n : ℕ) → meant_said (symbol_said gs) M ss n ≡ meant_as (calls_of ds) (Some w) ss n)
    → StandsFor ((x, M) ∷ gs) s' ds
agrees-more gs s s' ds x M w agrees new texts all low same = (
  ap length texts ∙ length-append s.texts (x ∷ []) ∙ ap (λ z. z + 1) agrees.0 ∙ sym (ap length all ∙ length-append s.meant.items (w ∷ [])),
  subst (AreMeantWithin (length ds)) (sym all) (within-one (length ds) s.meant.items w agrees.1 low),
  λ y ss n. by y ss n (is_text y x) ∙ sym (ap (λ z. meant_as (calls_of ds) z ss n) (looked y)),
)
  where
    looked : (y : List ℕ) → looked_up s' y ≡ (if is_text y x then Some w else looked_up s y)
    looked y = ap₂ (λ ts ms. found y (paired ts ms)) texts all ∙ with-symbol y x w s.texts s.meant.items agrees.0 new

    by : (y : List ℕ) (ss : List Standing) (n : ℕ) (b : Bool)
        → (if b then meant_said (symbol_said gs) M ss n else symbol_said gs y ss n) ≡ meant_as (calls_of ds) (if b then Some w else looked_up s y) ss n
    by y ss n true = same ss n
    by y ss n false = agrees.2 y ss n

-- One definition more.

pub taken-all : {A : Type 0} (xs ys : List A) → take (length xs) (xs ++ ys) ≡ xs
taken-all [] ys = refl
taken-all (x ∷ xs) ys = ap (λ z. x ∷ z) (taken-all xs ys)

got-last : {A : Type 0} (xs : List A) (y d : A) → get_or (xs ++ y ∷ []) (length xs) d ≡ y
got-last [] y d = refl
got-last (x ∷ xs) y d = got-last xs y d

calls-more : (ds : List Body) (b : Body) (k : ℕ) (ss : List Standing) (n : ℕ) → k < length ds → calls_of (ds ++ b ∷ []) k ss n ≡ calls_of ds k ss n
calls-more ds b k ss n h =
    sym (calls-before (ds ++ b ∷ []) k (length ds) ss n h (omega (arith, length-append ds (b ∷ [])))) ∙ ap (λ z. calls_of z k ss n) (taken-all ds (b ∷ []))

meant-more : (ds : List Body) (b : Body) (x : Meant) (ss : List Standing) (n : ℕ) → IsMeantWithin (length ds) x → meant_as (calls_of (ds ++ b ∷ [])) (Some x) ss n ≡ meant_as (calls_of ds) (Some x) ss n
meant-more ds b (m.Constant k) ss n h = refl
meant-more ds b (m.Function k) ss n h = refl
meant-more ds b (m.Predicate k) ss n h = refl
meant-more ds b (m.Defined k arity) ss n h = ap (λ z. if nat_eq (length ss) arity then z else nothing n) (calls-more ds b k ss n h)

looked-more : (ds : List Body) (b : Body) (y : List ℕ) (ts : List (List ℕ)) (ms : List Meant) (ss : List Standing) (n : ℕ) → AreMeantWithin (length ds) ms
    → meant_as (calls_of (ds ++ b ∷ [])) (found y (paired ts ms)) ss n ≡ meant_as (calls_of ds) (found y (paired ts ms)) ss n
looked-more ds b y [] ms ss n h = refl
looked-more ds b y (t ∷ ts) [] ss n h = refl
looked-more ds b y (t ∷ ts) (x ∷ ms) ss n h = by (is_text y t) (looked-more ds b y ts ms ss n h.1)
  where
    by : (r : Bool) → meant_as (calls_of (ds ++ b ∷ [])) (found y (paired ts ms)) ss n ≡ meant_as (calls_of ds) (found y (paired ts ms)) ss n
        → meant_as (calls_of (ds ++ b ∷ [])) (if r then Some x else found y (paired ts ms)) ss n ≡ meant_as (calls_of ds) (if r then Some x else found y (paired ts ms)) ss n
    by true k = meant-more ds b x ss n h.0
    by false k = k

agrees-later : (gs : Globals) (s : Symbols) (ds : List Body) (b : Body) → StandsFor gs s ds → StandsFor gs s (ds ++ b ∷ [])
agrees-later gs s ds b agrees = (
  agrees.0,
  all-up (length ds) (length (ds ++ b ∷ [])) s.meant.items (omega (arith, length-append ds (b ∷ []))) agrees.1,
  λ y ss n. agrees.2 y ss n ∙ sym (looked-more ds b y s.texts s.meant.items ss n agrees.1),
)

slots-names : (front ss : List Standing) (xs : List (List ℕ)) (ls : BoundNames) → length ss ≡ length xs
    → names_in (front ++ ss) (slots_onto (length front) xs ls) ≡ with_names xs ss (names_in (front ++ ss) ls)
slots-names front [] [] ls h = refl
slots-names front [] (x ∷ xs) ls h = absurd (omega (arith, h))
slots-names front (s ∷ ss) [] ls h = absurd (omega (arith, h))
slots-names front (s ∷ ss) (x ∷ xs) ls h =
    let more = front ++ s ∷ [] in
    let slots : BoundNames = (x, l.Slot (length front)) ∷ ls in
    let parts : more ++ ss ≡ front ++ (s ∷ ss) = append_assoc front (s ∷ []) ss in
    let longer : length more ≡ suc (length front) = omega (arith, length-append front (s ∷ [])) in
    let here : leaf_said (more ++ ss) (l.Slot (length front)) ≡ s = leaf-left more ss (l.Slot (length front)) (omega (arith, longer)) ∙ leaf-here front s in
    ap (λ z. names_in z (slots_onto (suc (length front)) xs slots)) (sym parts) ∙ ap (λ k. names_in (more ++ ss) (slots_onto k xs slots)) (sym longer)
    ∙ slots-names more ss xs slots (omega (arith, h))
    ∙ ap (λ z. with_names xs ss ((x, z) ∷ names_in (more ++ ss) ls)) here ∙ ap (λ z. with_names xs ss ((x, s) ∷ names_in z ls)) parts

there : (ds : List Body) (b : Body) (ss : List Standing) (n : ℕ) → calls_of (ds ++ b ∷ []) (length ds) ss n ≡ shape_said (calls_of ds) ss (shape b) n
there ds b ss n =
    calls-there (ds ++ b ∷ []) (length ds) b ss n (omega (arith, length-append ds (b ∷ [])))
    ∙ ap (λ z. shape_said (calls_of z) ss (shape (get_or (ds ++ b ∷ []) (length ds) b)) n) (taken-all ds (b ∷ []))
    ∙ ap (λ z. shape_said (calls_of ds) ss (shape z) n) (got-last ds b b)

pub agrees-define : (gs : Globals) (s s' : Symbols) (ds ds' : List Body) (b : Body) (x : List ℕ) (xs : List (List ℕ)) (t : PlacedTerm) (k arity : ℕ) → StandsFor gs s ds → is_among x s.texts ≡ false
    → s'.texts ≡ s.texts ++ x ∷ [] → s'.meant.items ≡ s.meant.items ++ m.Defined k arity ∷ [] → ds' ≡ ds ++ b ∷ [] → k ≡ length ds → arity ≡ length xs
    → ((e : List Standing) → length e ≡ length xs → shape_said (calls_of ds) e (shape b) ≡ said (symbol_said gs) (names_in e (slots_onto 0 xs [])) t)
    → StandsFor ((x, defined_by xs t) ∷ gs) s' ds'
agrees-define gs s s' ds ds' b x xs t k arity agrees new texts all longer place many is =
    subst (StandsFor ((x, defined_by xs t) ∷ gs) s') (sym longer)
    (agrees-more gs s s' (ds ++ b ∷ []) x (defined_by xs t) (m.Defined k arity) (agrees-later gs s ds b agrees) new texts all
    (omega (arith, place, length-append ds (b ∷ []))) (λ ss n.
    by ss n (nat_eq (length ss) (length xs)) refl
    ∙ ap (λ a. if nat_eq (length ss) a then calls_of (ds ++ b ∷ []) k ss n else nothing n) (sym many)))
  where
    by : (ss : List Standing) (n : ℕ) (r : Bool) → nat_eq (length ss) (length xs) ≡ r
        → (if r then said (symbol_said gs) (with_names xs ss []) t n else nothing n) ≡ (if r then calls_of (ds ++ b ∷ []) k ss n else nothing n)
    by ss n true e =
        let same : length ss ≡ length xs = grind (arith, e) in
        ap (λ c. said (symbol_said gs) c t n) (sym (slots-names [] ss xs [] same)) ∙ ap (λ z. z n) (sym (is ss same))
        ∙ sym (ap (λ j. calls_of (ds ++ b ∷ []) j ss n) place ∙ there ds b ss n)
    by ss n false e = refl

-- A declaration.

pub declared-within : (n : ℕ) (x : Declared) → IsMeantWithin n (kept_as x)
declared-within n (d.Constant k) = tt
declared-within n (d.Function k) = tt
declared-within n (d.Predicate k) = tt

pub declared-same : (gs : Globals) (D : Calls) (x : Declared) (ss : List Standing) (n : ℕ) → meant_said (symbol_said gs) (declared_as x) ss n ≡ meant_as D (Some (kept_as x)) ss n
declared-same gs D (d.Constant k) ss n = refl
declared-same gs D (d.Function k) ss n = refl
declared-same gs D (d.Predicate k) ss n = refl

-- No symbol.

pub agrees-new : (s : Symbols) (ds : List Body) → s.texts ≡ [] → s.meant.items ≡ [] → StandsFor [] s ds
agrees-new s ds texts all = (
  ap length texts ∙ sym (ap length all),
  subst (AreMeantWithin (length ds)) (sym all) tt,
  λ x ss n. sym (ap₂ (λ ts ms. meant_as (calls_of ds) (found x (paired ts ms)) ss n) texts all),
)
