-- A saturated leaf is tight: where its closing formula is false, its table makes every member false.
use Rattle.std.proofs.Common.{◌≡◌, ℕ, suc, ◌≤◌, ℤ, pos, negsuc, Bool, true, false, cond, ◌&&◌, nat_eq, List, [], ◌∷◌, ◌++◌, take, length, ◌⊎◌, inl, inr, refl, sym, ◌∙◌, ap, subst}
use Rattle.std.specs.List.{AllByRecursion}
use Rattle.std.specs.Ordering.{int_eq}
use Rattle.std.specs.Cmp.Lexicographic.{pointwise}
use Rattle.std.specs.Cmp.Rules.{signed_items}
use Rattle.std.proofs.lemmas.Bool.Decides.{Decides-eqb}
use Rattle.std.proofs.lemmas.List.{append-nil}
use Rattle.linear_term.specs.Linear.{Linear, value_of}
use Rattle.linear_term.specs.Combination.{combination}
use Rattle.form_typed.specs.Truth.{Meaning}
use Rattle.form_typed.proofs.Stability.{equal_stable}
use Rattle.base_budget.specs.Trace.{Traced, just, step, next, each}
use Rattle.formula.specs.Form.{Form, FormTruth, Forms, equal, unequal, holds, fails, differs, no_form, and_form, forms, values_of, AreFormsTrue, AreFormsFalse, IsFormOver}
use Rattle.sequent.specs.Sequent.{Member, Sequent, AreFalse, IsMember, IsFormedSequent}
use Rattle.formula.specs.Form.{is_pure}
use Rattle.sequent.specs.Rules.{brought}
use Rattle.pred_unify.specs.Pairs.{equations, alike, same_arguments, other_values, predicate_pair, function_pair, with_predicates, with_functions, function_pairs, pairs_of, pures, closing_of}
use Rattle.sequent.specs.Leaf.{is_leaf}
use Rattle.pred_unify.specs.Leaf.{is_row, asks_truth, truth_in, value_at_first, value_in, table_of}
use Rattle.formula.proofs.Extending.{value_extends, values_extend}
use Rattle.sequent.proofs.Members.{go, all_append, all_left, all_right, brought_is}
use Rattle.pred_unify.proofs.Clashes.{first_ones, zero_difference, difference_zero}

abbrev Fails : Meaning → List ℤ → Form → Type 0
Fails w e g = ¬ (FormTruth w g e)

-- f is the formula of some member
abbrev pub Has : Form → List Member → Type 0
Has f [] = ⊥
Has f (m ∷ ms) = (m.formula ≡ f) ⊎ Has f ms

all_has : (P : Form → Type 0) (ms : List Member) (f : Form) → AllByRecursion (λ m. P m.formula) ms → Has f ms → P f
all_has P [] f h i = absurd i
all_has P (m ∷ ms) f h (inl s) = subst P s h.0
all_has P (m ∷ ms) f h (inr j) = all_has P ms f h.1 j

each_back : {C D : Type 0} (P : D → Type 0) (f : C → Traced (List D)) (cs : List C) (out : List D) → AllByRecursion P (each f cs out).value
    → AllByRecursion P out × AllByRecursion (λ c. AllByRecursion P (f c).value) cs
unfolding next just
each_back P f [] out h = (h, tt)
each_back P f (c ∷ cs) out h =
    let r = each_back P f cs (out ++ (f c).value) h in
    (all_left P out (f c).value r.0, (all_right P out (f c).value r.0, r.1))

cond_back : {D : Type 0} (P : D → Type 0) (b : Bool) (x : Traced (List D)) → b ≡ true → AllByRecursion P (cond b x (just [])).value → AllByRecursion P x.value
cond_back P true x is h = h
cond_back P false x is h = absurd (cc)

abbrev Later : Meaning → List ℤ → List Member → Type 0
Later w e [] = Unit {0}
Later w e (m ∷ ms) = AllByRecursion (Fails w e) (with_functions ms m.formula).value × Later w e ms

functions_back : (w : Meaning) (e : List ℤ) (ms : List Member) (out : List Form) → AllByRecursion (Fails w e) (function_pairs ms out).value → AllByRecursion (Fails w e) out × Later w e ms
unfolding next just
functions_back w e [] out h = (h, tt)
functions_back w e (m ∷ ms) out h =
    let r = functions_back w e ms (out ++ (with_functions ms m.formula).value) h in
    (all_left (Fails w e) out (with_functions ms m.formula).value r.0, (all_right (Fails w e) out (with_functions ms m.formula).value r.0, r.1))

both : (a b : Bool) → a ≡ true → b ≡ true → (a && b) ≡ true
both true true h k = refl
both true false h k = absurd (cc)
both false b h k = absurd (cc)

left_true : (a b : Bool) → (a && b) ≡ true → a ≡ true
left_true true b h = refl
left_true false b h = absurd (cc)

right_true : (a b : Bool) → (a && b) ≡ true → b ≡ true
right_true true b h = h
right_true false b h = absurd (cc)

row_says : (id : ℕ) (at : List ℤ) (f : ℕ) (xs : List ℤ) → is_row id at f xs ≡ true → (id ≡ f) × (at ≡ xs)
row_says id at f xs h = ((Decides-eqb id f).0 (left_true (nat_eq id f) (pointwise int_eq at xs) h), (signed_items at xs).0 (right_true (nat_eq id f) (pointwise int_eq at xs) h))

row_found : (f : ℕ) (xs : List ℤ) → is_row f xs f xs ≡ true
row_found f xs = both (nat_eq f f) (pointwise int_eq xs xs) ((Decides-eqb f f).1 refl) ((signed_items xs xs).1 refl)

length_values : (ts : List Linear) (e : List ℤ) → length (values_of ts e) ≡ length ts
length_values [] e = refl
length_values (t ∷ ts) e = ap suc (length_values ts e)

alike_values : (p : ℕ) (ss ts : List Linear) (e : List ℤ) → values_of ss e ≡ values_of ts e → alike p ss p ts ≡ true
alike_values p ss ts e v =
    both (nat_eq p p) (nat_eq (length ss) (length ts)) ((Decides-eqb p p).1 refl) ((Decides-eqb (length ss) (length ts)).1 (sym (length_values ss e) ∙ ap length v ∙ length_values ts e))

equations_back : (w : Meaning) (e : List ℤ) (ss ts : List Linear) (out : List Form) → values_of ss e ≡ values_of ts e → AllByRecursion (λ f. FormTruth w f e) out
    → AllByRecursion (λ f. FormTruth w f e) (equations ss ts out).value
unfolding next just step
equations_back w e [] ts out v h = h
equations_back w e (s ∷ ss) [] out v h = h
equations_back w e (s ∷ ss) (t ∷ ts) out v h =
    let first : value_of s e ≡ value_of t e = cc in
    let later : values_of ss e ≡ values_of ts e = cc in
    let d = equal (combination (pos 1) s (negsuc 0) t) in
    equations_back w e ss ts (out ++ d ∷ []) later (all_append (λ f. FormTruth w f e) out (d ∷ []) h (zero_difference s t e first, tt))

all_true : (w : Meaning) (fs : List Form) (e : List ℤ) → AllByRecursion (λ f. FormTruth w f e) fs → AreFormsTrue w (forms fs) e
all_true w [] e h = tt
all_true w (f ∷ fs) e h = (h.0, all_true w fs e h.1)

-- a negated predicate and a predicate at the same values
clash : (w : Meaning) (e : List ℤ) (p : ℕ) (ss ts : List Linear) → values_of ss e ≡ values_of ts e → AllByRecursion (Fails w e) (predicate_pair p ss (holds p ts)).value → ⊥
unfolding next just
clash w e p ss ts v h =
    (cond_back (Fails w e) (alike p ss p ts) (same_arguments ss ts) (alike_values p ss ts e v) h).0 (all_true w (equations ss ts []).value e (equations_back w e ss ts [] v tt))

-- two values of a function at the same values
agree : (w : Meaning) (e : List ℤ) (f : ℕ) (ss ts : List Linear) (u v : Linear) → values_of ss e ≡ values_of ts e → AllByRecursion (Fails w e) (function_pair f ss u (differs f ts v)).value → value_of u e ≡ value_of v e
unfolding next just step
agree w e f ss ts u v same h =
    let none = (cond_back (Fails w e) (alike f ss f ts) (other_values ss u ts v) (alike_values f ss ts e same) h).0 in
    let d = unequal (combination (pos 1) u (negsuc 0) v) in
    difference_zero u v e (equal_stable (value_of (combination (pos 1) u (negsuc 0) v) e) (pos 0) (λ apart.
    none (all_true w ((equations ss ts []).value ++ d ∷ []) e (all_append (λ g. FormTruth w g e) (equations ss ts []).value (d ∷ []) (equations_back w e ss ts [] same tt) (apart, tt)))))

-- truths of the table
cond_true : (b c : Bool) → cond b true c ≡ true → (b ≡ true) ⊎ (c ≡ true)
cond_true true c h = inl refl
cond_true false c h = inr h

asked : (g : Form) (e : List ℤ) (p : ℕ) (xs : List ℤ) → asks_truth g e p xs ≡ true → (ss : List Linear) × (g ≡ fails p ss) × (values_of ss e ≡ xs)
asked (fails q ts) e p xs h = let s = row_says q (values_of ts e) p xs h in (ts, ap (λ n. fails n ts) s.0, s.1)
asked _ e p xs h = absurd (cc)

truth_from : (ms : List Member) (e : List ℤ) (p : ℕ) (xs : List ℤ) → truth_in ms e p xs ≡ true → (ss : List Linear) × Has (fails p ss) ms × (values_of ss e ≡ xs)
truth_from [] e p xs h = absurd (cc)
truth_from (m ∷ ms) e p xs h =
    elim (cond_true (asks_truth m.formula e p xs) (truth_in ms e p xs) h) [
      | inl r ↦ (let s = asked m.formula e p xs r in (s.0, inl s.1, s.2))
      | inr k ↦ (let r = truth_from ms e p xs k in (r.0, inr r.1, r.2))
    ]

cond_second : (b c : Bool) → c ≡ true → cond b true c ≡ true
cond_second true c h = refl
cond_second false c h = h

truth_there : (ms : List Member) (e : List ℤ) (p : ℕ) (ss : List Linear) → Has (fails p ss) ms → truth_in ms e p (values_of ss e) ≡ true
truth_there [] e p ss i = absurd i
truth_there (m ∷ ms) e p ss (inl s) = ap (λ b. cond b true (truth_in ms e p (values_of ss e))) (ap (λ g. asks_truth g e p (values_of ss e)) s ∙ row_found p (values_of ss e))
truth_there (m ∷ ms) e p ss (inr j) = cond_second (asks_truth m.formula e p (values_of ss e)) (truth_in ms e p (values_of ss e)) (truth_there ms e p ss j)

-- values of the table
by_row : (g f : ℕ) (ts ss : List Linear) (v u : Linear) (e : List ℤ) (rest : ℤ) (b : Bool) → is_row g (values_of ts e) f (values_of ss e) ≡ b → (is_row g (values_of ts e) f (values_of ss e) ≡ true → value_of v e ≡ value_of u e)
    → rest ≡ value_of u e → cond b (value_of v e) rest ≡ value_of u e
by_row g f ts ss v u e rest true is same k = same is
by_row g f ts ss v u e rest false is same k = k

value_next : (w : Meaning) (e : List ℤ) (ms : List Member) (g : Form) (f : ℕ) (ss : List Linear) (u : Linear) → AllByRecursion (Fails w e) (with_functions ms g).value → Has (differs f ss u) ms
    → value_in ms e f (values_of ss e) ≡ value_of u e → value_at_first g e f (values_of ss e) (value_in ms e f (values_of ss e)) ≡ value_of u e
value_next w e ms (differs g ts v) f ss u h j k =
    by_row g f ts ss v u e (value_in ms e f (values_of ss e)) (is_row g (values_of ts e) f (values_of ss e)) refl (λ r.
    let s = row_says g (values_of ts e) f (values_of ss e) r in
    agree w e g ts ss v u s.1 (all_has (λ x. AllByRecursion (Fails w e) (function_pair g ts v x).value) ms (differs g ss u) (each_back (Fails w e) (λ m. function_pair g ts v m.formula) ms [] h).1
    (subst (λ (n : ℕ). Has (differs n ss u) ms) (sym s.0) j))) k
value_next w e ms _ f ss u h j k = k

value_there : (w : Meaning) (e : List ℤ) (ms : List Member) → Later w e ms → (f : ℕ) (ss : List Linear) (u : Linear) → Has (differs f ss u) ms → value_in ms e f (values_of ss e) ≡ value_of u e
value_there w e [] h f ss u i = absurd i
value_there w e (m ∷ ms) h f ss u (inl s) =
    ap (λ g. value_at_first g e f (values_of ss e) (value_in ms e f (values_of ss e))) s ∙ ap (λ b. cond b (value_of u e) (value_in ms e f (values_of ss e))) (row_found f (values_of ss e))
value_there w e (m ∷ ms) h f ss u (inr j) = value_next w e ms m.formula f ss u h.0 j (value_there w e ms h.1 f ss u j)

abbrev PureFails : Meaning → List ℤ → ℕ → Member → Type 0
PureFails w e n m = is_pure m.formula ≡ true → ¬ (FormTruth w (brought m.over n m.formula) e)

pure_first : (w : Meaning) (e : List ℤ) (n : ℕ) (m : Member) (gs : List Form) (b : Bool) → is_pure m.formula ≡ b → AllByRecursion (Fails w e) (cond b (brought m.over n m.formula ∷ gs) gs)
    → PureFails w e n m × AllByRecursion (Fails w e) gs
pure_first w e n m gs true is h = (λ t. h.0, h.1)
pure_first w e n m gs false is h = (λ t. absurd (cc), h)

pures_back : (w : Meaning) (e : List ℤ) (n : ℕ) (ms : List Member) → AllByRecursion (Fails w e) (pures n ms) → AllByRecursion (PureFails w e n) ms
pures_back w e n [] h = tt
pures_back w e n (m ∷ ms) h =
    let r = pure_first w e n m (pures n ms) (is_pure m.formula) refl h in
    (r.0, pures_back w e n ms r.1)

there_is : (w : Meaning) (n : ℕ) (e : List ℤ) (over : ℕ) (g : Form) → length e ≡ n → over ≤ n → FormTruth w (brought over n g) e ≡ FormTruth w g (take over e)
there_is w n e over g len le =
    ap (FormTruth w (brought over n g)) (sym (append-nil e)) ∙ brought_is w over n e [] g len le ∙ ap (FormTruth w g) (append-nil (take over e))

-- what the falsity of the closing formula says in the table
pub record Facts (n : ℕ) (all : List Member) (e : List ℤ) : Type 0 where
  pub apart : (p : ℕ) (ss ts : List Linear) → Has (fails p ss) all → Has (holds p ts) all → values_of ss e ≡ values_of ts e → ⊥
  pub agreed : (f : ℕ) (ss : List Linear) (u : Linear) → Has (differs f ss u) all → value_in all e f (values_of ss e) ≡ value_of u e

member_false : (n : ℕ) (all : List Member) (e : List ℤ) (over : ℕ) (g : Form) → length e ≡ n → Facts n all e → over ≤ n → IsFormOver over g → is_leaf g ≡ true → Has g all
    → (is_pure g ≡ true → ¬ (FormTruth (table_of all e) (brought over n g) e)) → ¬ (FormTruth (table_of all e) g (take over e))
member_false n all e over (holds p ts) len h le formed l i pure t =
    let is : values_of ts e ≡ values_of ts (take over e) = values_extend over n (take over e) e ts (first_ones n over e len le) formed in
    let r = truth_from all e p (values_of ts e) (subst (λ xs. truth_in all e p xs ≡ true) (sym is) t) in
    h.apart p r.0 ts r.1 i r.2
member_false n all e over (fails p ss) len h le formed l i pure t =
    let is : values_of ss e ≡ values_of ss (take over e) = values_extend over n (take over e) e ss (first_ones n over e len le) formed in
    t (subst (λ xs. truth_in all e p xs ≡ true) is (truth_there all e p ss i))
member_false n all e over (differs f ss u) len h le formed l i pure t =
    let s_is : values_of ss e ≡ values_of ss (take over e) = values_extend over n (take over e) e ss (first_ones n over e len le) formed.0 in
    let u_is : value_of u e ≡ value_of u (take over e) = value_extends over n (take over e) e u (first_ones n over e len le) formed.1 in
    t (ap (value_in all e f) (sym s_is) ∙ h.agreed f ss u i ∙ u_is)
member_false n all e over g len h le formed l i pure t = pure l (go (sym (there_is (table_of all e) n e over g len le)) t)

all_false : (n : ℕ) (all : List Member) (e : List ℤ) (ms : List Member) → length e ≡ n → Facts n all e → AllByRecursion (IsMember n) ms → AllByRecursion (λ m. is_leaf m.formula ≡ true) ms
    → AllByRecursion (PureFails (table_of all e) e n) ms → ((f : Form) → Has f ms → Has f all) → AreFalse (table_of all e) e ms
all_false n all e [] len h formed leaf pure i = tt
all_false n all e (m ∷ ms) len h formed leaf pure i =
    (member_false n all e m.over m.formula len h formed.0.within formed.0.formed leaf.0 (i m.formula (inl refl)) pure.0, all_false n all e ms len h formed.1 leaf.1 pure.1 (λ f j. i f (inr j)))

false_forms : (w : Meaning) (fs : List Form) (e : List ℤ) → AreFormsFalse w (forms fs) e → AllByRecursion (Fails w e) fs
false_forms w [] e h = tt
false_forms w (f ∷ fs) e h = (h.0, false_forms w fs e h.1)

none_stable : (w : Meaning) (fs : Forms) (e : List ℤ) → ¬ (¬ (AreFormsFalse w fs e)) → AreFormsFalse w fs e
none_stable w no_form e h = tt
none_stable w (and_form f fs) e h = (λ a. h (λ k. k.0 a), none_stable w fs e (λ n. h (λ k. n k.1)))

facts : (n : ℕ) (ms : List Member) (e : List ℤ) → AllByRecursion (Fails (table_of ms e) e) (pairs_of ms).value → Facts n ms e
unfolding next
facts n ms e h =
    let w = table_of ms e in
    let r = functions_back w e ms (each (λ m. with_predicates ms m.formula) ms []).value h in
    record {
      apart = λ p ss ts i j v.
          let all = all_has (λ g. AllByRecursion (Fails w e) (with_predicates ms g).value) ms (fails p ss) (each_back (Fails w e) (λ m. with_predicates ms m.formula) ms [] r.0).1 i in
          clash w e p ss ts v (all_has (λ g. AllByRecursion (Fails w e) (predicate_pair p ss g).value) ms (holds p ts) (each_back (Fails w e) (λ m. predicate_pair p ss m.formula) ms [] all).1 j);
      agreed = value_there w e ms r.1;
    }

-- a saturated leaf is tight
pub leaf_tight : (s : Sequent) (e : List ℤ) → IsFormedSequent s → length e ≡ s.count → AllByRecursion (λ m. is_leaf m.formula ≡ true) s.members
    → ¬ (FormTruth (table_of s.members e) (closing_of s).value e) → AreFalse (table_of s.members e) e s.members
unfolding next just
leaf_tight s e formed len leaf h =
    let w = table_of s.members e in
    let none = false_forms w (pures s.count s.members ++ (pairs_of s.members).value) e (none_stable w (forms (pures s.count s.members ++ (pairs_of s.members).value)) e h) in
    all_false s.count s.members e s.members len (facts s.count s.members e (all_right (Fails w e) (pures s.count s.members) (pairs_of s.members).value none)) formed leaf
    (pures_back w e s.count s.members (all_left (Fails w e) (pures s.count s.members) (pairs_of s.members).value none)) (λ f i. i)
