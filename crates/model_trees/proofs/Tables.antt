-- The table of a false leaf is the interpretation that its members ask for.
use Rattle.std.proofs.Common.{◌≡◌, ℕ, ℤ, pos, ◌+ℤ◌, ◌*ℤ◌, Bool, true, false, cond, ◌&&◌, ◌||◌, nat_eq, List, [], ◌∷◌, ◌++◌, length, take, refl, sym, ◌∙◌, ap, arith}
use Rattle.std.specs.List.{AllByRecursion, flat_map, list_any}
use Rattle.std.specs.Ordering.{int_eq, nat_cmp, int_cmp, ordering_then}
use Rattle.std.specs.Cmp.Lexicographic.{pointwise, slice_cmp}
use Rattle.std.specs.FinMap.{nat_cmp-IsAntisymmetric, int_cmp-IsAntisymmetric, slice_cmp-IsAntisymmetric}
use Rattle.std.specs.declared.cmp.Ordering.{Ordering}
use Rattle.std.specs.declared.cmp.Ordering.TheVariants.{Less, Equal, Greater}
use Rattle.std.proofs.lemmas.Int.{ints}
use Rattle.std.specs.Cmp.{IsTotalOrder}
use Rattle.std.specs.List.Sorted.{IsStrictlySortedBy}
use Rattle.std.proofs.lemmas.Cmp.{nat_cmp_total, int_cmp_total, on_total, then_total, lists_total}
use Rattle.clause_set.proofs.Sorted.{sorted_once-sorted}
use Rattle.std.specs.Cmp.Rules.{signed_items}
use Rattle.std.proofs.lemmas.Bool.Decides.{Decides-eqb}
use Rattle.base_integers.specs.Entry.{entry}
use Rattle.linear_term.specs.Linear.{Linear, total, value_at, value_of}
use Rattle.base_budget.specs.Trace.{just, step, next, each}
use Rattle.base_budget.proofs.Tracing.{each-value}
use Rattle.clause_set.specs.Order.{insert_at, insert_once, inserted, sorted_once}
use Rattle.clause_set.specs.Total.{then_equal}
use Rattle.form_typed.specs.Truth.{Meaning}
use Rattle.form_typed.specs.Table.{is_row_for, is_true_at_row, meaning_of, value_at_row}
use Rattle.form_typed.specs.declared.world.TruthRow.{TruthRow}
use Rattle.form_typed.specs.declared.world.ValueRow.{ValueRow}
use Rattle.form_typed.proofs.Stability.{equal_stable}
use Rattle.formula.specs.Form.{Form, FormTruth, equal, unequal, at_least, holds, fails, differs, conjunction, disjunction, universal, existential, values_of}
use Rattle.formula.proofs.Extending.{value_extends, values_extend}
use Rattle.sequent.specs.Sequent.{Member, AreFalse, IsMember}
use Rattle.pred_unify.specs.Leaf.{asks_truth, truth_in, value_at_first, value_in, table_of}
use Rattle.pred_unify.proofs.Clashes.{first_ones}
use Rattle.solve_laws.specs.Candidates.{computed}
use Rattle.model_trees.specs.Walk.{Stop}
use Rattle.model_trees.specs.Rows.{all_evaluated, evaluated, one_value, summed, table_at, truth_cmp, truth_row, value_cmp, value_row}

-- ---- values of terms
next_sum : (c e s t : ℤ) → t +ℤ ((c *ℤ e) +ℤ (pos 1 *ℤ s)) ≡ ((c *ℤ e) +ℤ t) +ℤ s
next_sum c e s t = omega (arith, ints)

summed-value : (e : List ℤ) (ps : List (ℕ × ℤ)) (s : ℤ) → (summed e ps s).value ≡ total (value_at e) ps +ℤ s
unfolding next just step computed
summed-value e [] s = omega (arith, ints)
summed-value e (p ∷ ps) s = summed-value e ps ((p.1 *ℤ entry e p.0) +ℤ (pos 1 *ℤ s)) ∙ next_sum (p.1) (entry e p.0) s (total (value_at e) ps)

pub evaluated-value : (e : List ℤ) (t : Linear) → (evaluated e t).value ≡ value_of t e
unfolding value_of
evaluated-value e t = summed-value e t.pairs t.constant

pub all_evaluated-value : (e : List ℤ) (ts : List Linear) → (all_evaluated e ts).value ≡ values_of ts e
unfolding next just
all_evaluated-value e ts = each-value (one_value e) ts [] ∙ by ts
  where
    by : (ts : List Linear) → flat_map (λ t. (one_value e t).value) ts ≡ values_of ts e
    by [] = refl
    by (t ∷ ts) = λ i. evaluated-value e t i ∷ by ts i

-- ---- rows, in the order of the members
pub truths_of : List ℤ → List Member → List TruthRow
truths_of e ms = flat_map (λ m. (truth_row e m.formula).value) ms

pub values_in : List ℤ → List Member → List ValueRow
values_in e ms = flat_map (λ m. (value_row e m.formula).value) ms

truth_first : (e : List ℤ) (g : Form) (rest : List TruthRow) (p : ℕ) (xs : List ℤ) → is_true_at_row ((truth_row e g).value ++ rest) p xs ≡ cond (asks_truth g e p xs) true (is_true_at_row rest p xs)
unfolding next just
truth_first e (fails q ts) rest p xs = ap (λ at. cond (is_row_for q at p xs) true (is_true_at_row rest p xs)) (all_evaluated-value e ts)
truth_first e (equal t) rest p xs = refl
truth_first e (unequal t) rest p xs = refl
truth_first e (at_least t) rest p xs = refl
truth_first e (holds q ts) rest p xs = refl
truth_first e (differs f ts u) rest p xs = refl
truth_first e (conjunction fs) rest p xs = refl
truth_first e (disjunction fs) rest p xs = refl
truth_first e (universal f) rest p xs = refl
truth_first e (existential f) rest p xs = refl

pub truths_are : (e : List ℤ) (ms : List Member) (p : ℕ) (xs : List ℤ) → is_true_at_row (truths_of e ms) p xs ≡ truth_in ms e p xs
unfolding truths_of
truths_are e [] p xs = refl
truths_are e (m ∷ ms) p xs =
    truth_first e m.formula (flat_map (λ m. (truth_row e m.formula).value) ms) p xs ∙ ap (cond (asks_truth m.formula e p xs) true) (truths_are e ms p xs)

value_first : (e : List ℤ) (g : Form) (rest : List ValueRow) (f : ℕ) (xs : List ℤ) → value_at_row ((value_row e g).value ++ rest) f xs ≡ value_at_first g e f xs (value_at_row rest f xs)
unfolding next just
value_first e (differs g ts u) rest f xs = λ i. cond (is_row_for g (all_evaluated-value e ts i) f xs) (evaluated-value e u i) (value_at_row rest f xs)
value_first e (equal t) rest f xs = refl
value_first e (unequal t) rest f xs = refl
value_first e (at_least t) rest f xs = refl
value_first e (holds q ts) rest f xs = refl
value_first e (fails q ts) rest f xs = refl
value_first e (conjunction fs) rest f xs = refl
value_first e (disjunction fs) rest f xs = refl
value_first e (universal g) rest f xs = refl
value_first e (existential g) rest f xs = refl

pub values_are : (e : List ℤ) (ms : List Member) (f : ℕ) (xs : List ℤ) → value_at_row (values_in e ms) f xs ≡ value_in ms e f xs
unfolding values_in
values_are e [] f xs = refl
values_are e (m ∷ ms) f xs =
    value_first e m.formula (flat_map (λ m. (value_row e m.formula).value) ms) f xs ∙ ap (value_at_first m.formula e f xs) (values_are e ms f xs)

-- ---- rows, sorted
first_any : (a b c : Bool) → (a || (b || c)) ≡ (b || (a || c))
first_any true true c = refl
first_any true false c = refl
first_any false true c = refl
first_any false false c = refl

twice_any : (a b : Bool) → (a || b) ≡ (a || (a || b))
twice_any true b = refl
twice_any false b = refl

insert_any_by : {X : Type 0} (R : X → X → Ordering) (t : X → Bool) → ((x y : X) → R x y ≡ Equal → t x ≡ t y) → (x y : X) (ys more : List X) → list_any t more ≡ (t x || list_any t ys) → (o : Ordering) → R x y ≡ o
    → list_any t (insert_at o x y ys more) ≡ (t x || (t y || list_any t ys))
insert_any_by R t same x y ys more h Less is = refl
insert_any_by R t same x y ys more h Equal is = twice_any (t y) (list_any t ys) ∙ ap (λ b. b || (t y || list_any t ys)) (sym (same x y is))
insert_any_by R t same x y ys more h Greater is = ap (λ b. t y || b) h ∙ first_any (t y) (t x) (list_any t ys)

-- a test finds an element put into a list, where elements that compare as equal pass it together
insert_any : {X : Type 0} (R : X → X → Ordering) (t : X → Bool) → ((x y : X) → R x y ≡ Equal → t x ≡ t y) → (x : X) (ys : List X) → list_any t (insert_once R x ys) ≡ (t x || list_any t ys)
insert_any R t same x [] = refl
insert_any R t same x (y ∷ ys) = insert_any_by R t same x y ys (insert_once R x ys) (insert_any R t same x ys) (R x y) refl

inserted_any : {X : Type 0} (R : X → X → Ordering) (t : X → Bool) → ((x y : X) → R x y ≡ Equal → t x ≡ t y) → (xs : List X) → list_any t (inserted R xs []) ≡ list_any t xs
inserted_any R t same [] = refl
inserted_any R t same (x ∷ xs) = insert_any R t same x (inserted R xs []) ∙ ap (λ b. t x || b) (inserted_any R t same xs)

sorted_any : {X : Type 0} (R : X → X → Ordering) (t : X → Bool) → ((x y : X) → R x y ≡ Equal → t x ≡ t y) → (xs : List X) → list_any t (sorted_once R xs) ≡ list_any t xs
unfolding sorted_once
sorted_any R t same xs = inserted_any R t same xs

-- what all elements have, those have that are left
insert_all_by : {X : Type 0} (P : X → Type 0) (x y : X) (ys more : List X) → P x → AllByRecursion P (y ∷ ys) → AllByRecursion P more → (o : Ordering) → AllByRecursion P (insert_at o x y ys more)
insert_all_by P x y ys more h k m Less = (h, k)
insert_all_by P x y ys more h k m Equal = k
insert_all_by P x y ys more h k m Greater = (k.0, m)

insert_all : {X : Type 0} (R : X → X → Ordering) (P : X → Type 0) (x : X) (ys : List X) → P x → AllByRecursion P ys → AllByRecursion P (insert_once R x ys)
insert_all R P x [] h k = (h, tt)
insert_all R P x (y ∷ ys) h k = insert_all_by P x y ys (insert_once R x ys) h k (insert_all R P x ys h k.1) (R x y)

inserted_all : {X : Type 0} (R : X → X → Ordering) (P : X → Type 0) (xs : List X) → AllByRecursion P xs → AllByRecursion P (inserted R xs [])
inserted_all R P [] h = tt
inserted_all R P (x ∷ xs) h = insert_all R P x (inserted R xs []) h.0 (inserted_all R P xs h.1)

sorted_all : {X : Type 0} (R : X → X → Ordering) (P : X → Type 0) (xs : List X) → AllByRecursion P xs → AllByRecursion P (sorted_once R xs)
unfolding sorted_once
sorted_all R P xs h = inserted_all R P xs h

same_place : (f g : ℕ) (xs ys : List ℤ) → ordering_then (nat_cmp f g) (slice_cmp int_cmp xs ys) ≡ Equal → (f ≡ g) × (xs ≡ ys)
same_place f g xs ys h =
    let two = then_equal (nat_cmp f g) (slice_cmp int_cmp xs ys) h in
    (nat_cmp-IsAntisymmetric f g two.0, slice_cmp-IsAntisymmetric int_cmp-IsAntisymmetric xs ys two.1)

-- ---- truths
abbrev truth_test : ℕ → List ℤ → TruthRow → Bool
truth_test p xs r = is_row_for r.id r.at p xs

true_any : (rows : List TruthRow) (p : ℕ) (xs : List ℤ) → is_true_at_row rows p xs ≡ list_any (truth_test p xs) rows
true_any [] p xs = refl
true_any (r ∷ rows) p xs = by (is_row_for r.id r.at p xs) (true_any rows p xs)
  where
    by : (b : Bool) {c d : Bool} → c ≡ d → cond b true c ≡ (b || d)
    by true h = refl
    by false h = h

truth_same : (p : ℕ) (xs : List ℤ) (r s : TruthRow) → truth_cmp r s ≡ Equal → truth_test p xs r ≡ truth_test p xs s
truth_same p xs r s h = let k = same_place r.id s.id r.at s.at h in (λ i. is_row_for (k.0 i) (k.1 i) p xs)

pub truths_sorted : (rows : List TruthRow) (p : ℕ) (xs : List ℤ) → is_true_at_row (sorted_once truth_cmp rows) p xs ≡ is_true_at_row rows p xs
truths_sorted rows p xs = true_any (sorted_once truth_cmp rows) p xs ∙ sorted_any truth_cmp (truth_test p xs) (truth_same p xs) rows ∙ sym (true_any rows p xs)

-- ---- values
abbrev value_test : ℕ → List ℤ → ValueRow → Bool
value_test f xs r = is_row_for r.id r.at f xs

value_same : (f : ℕ) (xs : List ℤ) (r s : ValueRow) → value_cmp r s ≡ Equal → value_test f xs r ≡ value_test f xs s
value_same f xs r s h = let k = same_place r.id s.id r.at s.at h in (λ i. is_row_for (k.0 i) (k.1 i) f xs)

-- the row says a value of V
abbrev Says : (ℕ → List ℤ → ℤ) → ValueRow → Type 0
Says V r = V r.id r.at ≡ r.value

both_true : (a b : Bool) → (a && b) ≡ true → (a ≡ true) × (b ≡ true)
both_true true b h = (refl, h)
both_true false b h = absurd (cc)

row_says : (id : ℕ) (at : List ℤ) (f : ℕ) (xs : List ℤ) → is_row_for id at f xs ≡ true → (id ≡ f) × (at ≡ xs)
row_says id at f xs h =
    let two = both_true (nat_eq id f) (pointwise int_eq at xs) h in
    ((Decides-eqb id f).0 two.0, (signed_items at xs).0 two.1)

-- where all rows say values of V, they have its value where there is a row, and else 0
said_by : (V : ℕ → List ℤ → ℤ) (r : ValueRow) (f : ℕ) (xs : List ℤ) (rest : ℤ) (c : Bool) → Says V r → rest ≡ cond c (V f xs) (pos 0) → (b : Bool) → is_row_for r.id r.at f xs ≡ b
    → cond b r.value rest ≡ cond (b || c) (V f xs) (pos 0)
said_by V r f xs rest c h k true is = let two = row_says r.id r.at f xs is in sym h ∙ (λ i. V (two.0 i) (two.1 i))
said_by V r f xs rest c h k false is = k

said : (V : ℕ → List ℤ → ℤ) (rows : List ValueRow) (f : ℕ) (xs : List ℤ) → AllByRecursion (Says V) rows → value_at_row rows f xs ≡ cond (list_any (value_test f xs) rows) (V f xs) (pos 0)
said V [] f xs h = refl
said V (r ∷ rows) f xs h = said_by V r f xs (value_at_row rows f xs) (list_any (value_test f xs) rows) h.0 (said V rows f xs h.1) (is_row_for r.id r.at f xs) refl

pub values_sorted : (V : ℕ → List ℤ → ℤ) (rows : List ValueRow) (f : ℕ) (xs : List ℤ) → AllByRecursion (Says V) rows → value_at_row (sorted_once value_cmp rows) f xs ≡ value_at_row rows f xs
values_sorted V rows f xs h =
    said V (sorted_once value_cmp rows) f xs (sorted_all value_cmp (Says V) rows h)
    ∙ ap (λ b. cond b (V f xs) (pos 0)) (sorted_any value_cmp (value_test f xs) (value_same f xs) rows)
    ∙ sym (said V rows f xs h)

-- ---- a false leaf
all_of_two : {X : Type 0} (P : X → Type 0) (xs ys : List X) → AllByRecursion P xs → AllByRecursion P ys → AllByRecursion P (xs ++ ys)
all_of_two P [] ys h k = k
all_of_two P (x ∷ xs) ys h k = (h.0, all_of_two P xs ys h.1 k)

-- the row of a false member says what the interpretation does
member_says : (w : Meaning) (n over : ℕ) (e : List ℤ) (g : Form) → length e ≡ n → IsMember n (record { formula = g; over = over; used = 0 }) → ¬ (FormTruth w g (take over e)) → AllByRecursion (Says w.value) (value_row e g).value
unfolding next just
member_says w n over e (differs f ts u) len m bad =
    let ts_is : values_of ts e ≡ values_of ts (take over e) = values_extend over n (take over e) e ts (first_ones n over e len m.within) (m.formed).0 in
    let u_is : value_of u e ≡ value_of u (take over e) = value_extends over n (take over e) e u (first_ones n over e len m.within) (m.formed).1 in
    let there : w.value f (values_of ts (take over e)) ≡ value_of u (take over e) = equal_stable (w.value f (values_of ts (take over e))) (value_of u (take over e)) bad in
    (ap (w.value f) (all_evaluated-value e ts ∙ ts_is) ∙ there ∙ sym u_is ∙ sym (evaluated-value e u), tt)
member_says w n over e (equal t) len m bad = tt
member_says w n over e (unequal t) len m bad = tt
member_says w n over e (at_least t) len m bad = tt
member_says w n over e (holds q ts) len m bad = tt
member_says w n over e (fails q ts) len m bad = tt
member_says w n over e (conjunction fs) len m bad = tt
member_says w n over e (disjunction fs) len m bad = tt
member_says w n over e (universal g) len m bad = tt
member_says w n over e (existential g) len m bad = tt

leaf_says : (w : Meaning) (n : ℕ) (e : List ℤ) (ms : List Member) → length e ≡ n → AllByRecursion (IsMember n) ms → AreFalse w e ms → AllByRecursion (Says w.value) (values_in e ms)
unfolding values_in
leaf_says w n e [] len formed bad = tt
leaf_says w n e (m ∷ ms) len formed bad =
    all_of_two (Says w.value) (value_row e m.formula).value (flat_map (λ m. (value_row e m.formula).value) ms)
    (member_says w n m.over e m.formula len (record { within = (formed.0).within; formed = (formed.0).formed }) bad.0) (leaf_says w n e ms len formed.1 bad.1)

-- the table of a leaf that its members make false is the interpretation that they ask for
pub table_is : (stop : Stop) → AllByRecursion (IsMember (length stop.values)) stop.members → AreFalse (table_of stop.members stop.values) stop.values stop.members
    → meaning_of (table_at stop).value ≡ table_of stop.members stop.values
unfolding next just truths_of values_in
table_is stop formed bad =
    let e = stop.values in
    let ms = stop.members in
    let truths : (each (λ m. truth_row e m.formula) ms []).value ≡ flat_map (λ m. (truth_row e m.formula).value) ms = each-value (λ m. truth_row e m.formula) ms [] in
    let values : (each (λ m. value_row e m.formula) ms []).value ≡ flat_map (λ m. (value_row e m.formula).value) ms = each-value (λ m. value_row e m.formula) ms [] in
    λ i. record {
      truth = λ p xs. (ap (λ rows. is_true_at_row (sorted_once truth_cmp rows) p xs) truths ∙ truths_sorted (truths_of e ms) p xs ∙ truths_are e ms p xs) i;
      value = λ f xs. (ap (λ rows. value_at_row (sorted_once value_cmp rows) f xs) values ∙ values_sorted (table_of ms e).value (values_in e ms) f xs (leaf_says (table_of ms e) (length e) e ms refl formed bad) ∙ values_are e ms f xs) i;
    }

-- ---- the rows are sorted, each once
truth_cmp-total : IsTotalOrder truth_cmp
truth_cmp-total = then_total (on_total (λ (r : TruthRow). r.id) nat_cmp_total) (on_total (λ (r : TruthRow). r.at) (lists_total int_cmp_total))

value_cmp-total : IsTotalOrder value_cmp
value_cmp-total = then_total (on_total (λ (r : ValueRow). r.id) nat_cmp_total) (on_total (λ (r : ValueRow). r.at) (lists_total int_cmp_total))

pub table_sorted : (stop : Stop) → IsStrictlySortedBy truth_cmp (table_at stop).value.truths × IsStrictlySortedBy value_cmp (table_at stop).value.values
unfolding next just
table_sorted stop = (sorted_once-sorted truth_cmp truth_cmp-total _, sorted_once-sorted value_cmp value_cmp-total _)
