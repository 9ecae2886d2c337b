-- A pair that is true makes the sequent true: where all members are false, so is each pair.
use Rattle.std.proofs.Common.{◌≡◌, ℕ, ◌≤◌, ℤ, pos, negsuc, Bool, true, false, nat_eq, cond, ◌&&◌, List, [], ◌∷◌, ◌++◌, take, drop, length, All, refl, sym, ap, ◌∙◌, subst, arith}
use Rattle.std.specs.List.{AllByRecursion}
use Rattle.std.proofs.lemmas.Int.{ints}
use Rattle.std.proofs.lemmas.List.{take-append-drop, append-nil, length-take-le}
use Rattle.base_integers.specs.Entry.{entry}
use Rattle.base_integers.proofs.Entries.{entry-append_left}
use Rattle.linear_term.specs.Linear.{Linear, value_of, IsOver}
use Rattle.linear_term.specs.Combination.{combination}
use Rattle.linear_term.proofs.Totals.{value_of-combination}
use Rattle.form_typed.specs.Truth.{Meaning}
use Rattle.base_budget.specs.Trace.{Traced, just, step, next, each}
use Rattle.formula.specs.Form.{Form, FormTruth, equal, unequal, at_least, holds, fails, differs, conjunction, disjunction, universal, existential, forms, values_of, AreFormsTrue, AreFormsFalse, IsFormOver}
use Rattle.sequent.specs.Sequent.{Member, Sequent, IsMemberTrue, SequentTruth, IsMember, IsFormedSequent}
use Rattle.formula.specs.Form.{is_pure}
use Rattle.sequent.specs.Rules.{brought}
use Rattle.pred_unify.specs.Pairs.{equations, alike, same_arguments, other_values, predicate_pair, function_pair, with_predicates, with_functions, function_pairs, pairs_of, pures, closing_of}
use Rattle.formula.proofs.Extending.{Extends, value_extends, values_extend}
use Rattle.sequent.proofs.Members.{go, all_append, all_left, all_right, all_both, brought_is}

pub each_all : {C D : Type 0} (P : D → Type 0) (Q : C → Type 0) (f : C → Traced (List D)) (cs : List C) (out : List D)
    → ((c : C) → Q c → AllByRecursion P (f c).value) → AllByRecursion Q cs → AllByRecursion P out → AllByRecursion P (each f cs out).value
unfolding next just
each_all P Q f [] out h qs ps = ps
each_all P Q f (c ∷ cs) out h qs ps = each_all P Q f cs (out ++ (f c).value) h qs.1 (all_append P out (f c).value ps (h c qs.0))

pub cond_all : {D : Type 0} (P : D → Type 0) (b : Bool) (x : Traced (List D)) → (b ≡ true → AllByRecursion P x.value) → AllByRecursion P (cond b x (just [])).value
unfolding just
cond_all P true x h = h refl
cond_all P false x h = tt

both_true : (a b : Bool) → (a && b) ≡ true → (a ≡ true) × (b ≡ true)
both_true true b h = (refl, h)
both_true false b h = absurd (cc)

pub same_number : (m n : ℕ) → nat_eq m n ≡ true → m ≡ n
same_number m n h = grind arith

pub forms_true : (w : Meaning) (fs : List Form) (e : List ℤ) → AreFormsTrue w (forms fs) e → AllByRecursion (λ f. FormTruth w f e) fs
forms_true w [] e h = tt
forms_true w (f ∷ fs) e h = (h.0, forms_true w fs e h.1)

pub forms_false : (w : Meaning) (fs : List Form) (e : List ℤ) → AllByRecursion (λ f. ¬ (FormTruth w f e)) fs → AreFormsFalse w (forms fs) e
forms_false w [] e h = tt
forms_false w (f ∷ fs) e h = (h.0, forms_false w fs e h.1)

-- where s - t is 0, s and t have one value
pub difference_zero : (s t : Linear) (e : List ℤ) → value_of (combination (pos 1) s (negsuc 0) t) e ≡ pos 0 → value_of s e ≡ value_of t e
difference_zero s t e h = omega (arith, ints, value_of-combination (pos 1) (negsuc 0) s t e, h)

pub zero_difference : (s t : Linear) (e : List ℤ) → value_of s e ≡ value_of t e → value_of (combination (pos 1) s (negsuc 0) t) e ≡ pos 0
zero_difference s t e h = omega (arith, ints, value_of-combination (pos 1) (negsuc 0) s t e, h)

equations_true : (w : Meaning) (e : List ℤ) (ss ts : List Linear) (out : List Form) → length ss ≡ length ts
    → AllByRecursion (λ f. FormTruth w f e) (equations ss ts out).value → AllByRecursion (λ f. FormTruth w f e) out × (values_of ss e ≡ values_of ts e)
unfolding next just step
equations_true w e [] [] out len h = (h, refl)
equations_true w e (s ∷ ss) [] out len h = absurd (omega (arith, len))
equations_true w e [] (t ∷ ts) out len h = absurd (omega (arith, len))
equations_true w e (s ∷ ss) (t ∷ ts) out len h =
    let T : Form → Type 0 = λ f. FormTruth w f e in
    let d = equal (combination (pos 1) s (negsuc 0) t) in
    let r = equations_true w e ss ts (out ++ d ∷ []) (omega (arith, len)) h in
    let first : value_of s e ≡ value_of t e = difference_zero s t e (all_right T out (d ∷ []) r.0).0 in
    (all_left T out (d ∷ []) r.0, λ i. first i ∷ r.1 i)

-- the terms of a member, at all the constants
abbrev pub IsFalseAt : Meaning → List ℤ → ℕ → Member → Type 0
IsFalseAt w e n m = IsMember n m × (¬ (IsMemberTrue w e m))

pub first_ones : (n over : ℕ) (e : List ℤ) → length e ≡ n → over ≤ n → Extends over (take over e) n e
first_ones n over e len le =
    let short : over ≤ length e = omega (arith, len) in
    record {
      longer = le;
      long = len;
      same = λ x lt.
          ap (λ l. entry l x) (sym (take-append-drop over e)) ∙ entry-append_left (take over e) (drop over e) x (omega (arith, lt, length-take-le over e short));
    }

abbrev Fails : Meaning → List ℤ → Form → Type 0
Fails w e g = ¬ (FormTruth w g e)

same_false : (w : Meaning) (e : List ℤ) (p : ℕ) (ss ts : List Linear) → length ss ≡ length ts → ¬ (¬ (w.truth p (values_of ss e) ≡ true)) → ¬ (w.truth p (values_of ts e) ≡ true)
    → AllByRecursion (Fails w e) (same_arguments ss ts).value
unfolding next just
same_false w e p ss ts len hit miss = (
  (λ h. let is = (equations_true w e ss ts [] len (forms_true w (equations ss ts []).value e h)).1 in
      hit (λ k. miss (subst (λ vs. w.truth p vs ≡ true) is k))),
  tt,
)

pub predicate_false : (w : Meaning) (n : ℕ) (e : List ℤ) (p a b : ℕ) (ss : List Linear) (g : Form) → length e ≡ n → a ≤ n → b ≤ n → All (IsOver a) ss → IsFormOver b g
    → ¬ (¬ (w.truth p (values_of ss (take a e)) ≡ true)) → ¬ (FormTruth w g (take b e)) → AllByRecursion (Fails w e) (predicate_pair p ss g).value
unfolding just
predicate_false w n e p a b ss (holds q ts) len ale ble over_s over_t hit miss =
    let s_is : values_of ss e ≡ values_of ss (take a e) = values_extend a n (take a e) e ss (first_ones n a e len ale) over_s in
    let t_is : values_of ts e ≡ values_of ts (take b e) = values_extend b n (take b e) e ts (first_ones n b e len ble) over_t in
    cond_all (Fails w e) (alike p ss q ts) (same_arguments ss ts) (λ same.
    let two = both_true (nat_eq p q) (nat_eq (length ss) (length ts)) same in
    let one : p ≡ q = same_number p q two.0 in
    same_false w e p ss ts (same_number (length ss) (length ts) two.1) (λ k. hit (λ t. k (subst (λ vs. w.truth p vs ≡ true) (sym s_is) t)))
    (λ t. miss (subst (λ vs. w.truth q vs ≡ true) t_is (subst (λ r. w.truth r (values_of ts e) ≡ true) one t))))
predicate_false w n e p a b ss (equal t) len ale ble over_s over_t hit miss = tt
predicate_false w n e p a b ss (unequal t) len ale ble over_s over_t hit miss = tt
predicate_false w n e p a b ss (at_least t) len ale ble over_s over_t hit miss = tt
predicate_false w n e p a b ss (fails q ts) len ale ble over_s over_t hit miss = tt
predicate_false w n e p a b ss (differs q ts u) len ale ble over_s over_t hit miss = tt
predicate_false w n e p a b ss (conjunction fs) len ale ble over_s over_t hit miss = tt
predicate_false w n e p a b ss (disjunction fs) len ale ble over_s over_t hit miss = tt
predicate_false w n e p a b ss (universal f) len ale ble over_s over_t hit miss = tt
predicate_false w n e p a b ss (existential f) len ale ble over_s over_t hit miss = tt

with_predicates_false : (w : Meaning) (n : ℕ) (e : List ℤ) (a : ℕ) (ms : List Member) (g : Form) → length e ≡ n → a ≤ n → IsFormOver a g → ¬ (FormTruth w g (take a e))
    → AllByRecursion (IsFalseAt w e n) ms → AllByRecursion (Fails w e) (with_predicates ms g).value
unfolding just
with_predicates_false w n e a ms (fails p ss) len le formed miss h =
    each_all (Fails w e) (IsFalseAt w e n) (λ m. predicate_pair p ss m.formula) ms []
    (λ m q. predicate_false w n e p a m.over ss m.formula len le q.0.within formed q.0.formed miss q.1) h tt
with_predicates_false w n e a ms (equal t) len le formed miss h = tt
with_predicates_false w n e a ms (unequal t) len le formed miss h = tt
with_predicates_false w n e a ms (at_least t) len le formed miss h = tt
with_predicates_false w n e a ms (holds q ts) len le formed miss h = tt
with_predicates_false w n e a ms (differs q ts u) len le formed miss h = tt
with_predicates_false w n e a ms (conjunction fs) len le formed miss h = tt
with_predicates_false w n e a ms (disjunction fs) len le formed miss h = tt
with_predicates_false w n e a ms (universal f) len le formed miss h = tt
with_predicates_false w n e a ms (existential f) len le formed miss h = tt

other_false : (w : Meaning) (e : List ℤ) (f : ℕ) (ss ts : List Linear) (u v : Linear) → length ss ≡ length ts
    → ¬ (¬ (w.value f (values_of ss e) ≡ value_of u e)) → ¬ (¬ (w.value f (values_of ts e) ≡ value_of v e)) → AllByRecursion (Fails w e) (other_values ss u ts v).value
unfolding next just step
other_false w e f ss ts u v len one two =
    let T : Form → Type 0 = λ g. FormTruth w g e in
    let d = unequal (combination (pos 1) u (negsuc 0) v) in (
      (λ h. let all = forms_true w ((equations ss ts []).value ++ d ∷ []) e h in
          let is = (equations_true w e ss ts [] len (all_left T (equations ss ts []).value (d ∷ []) all)).1 in
          one (λ a. two (λ b. (all_right T (equations ss ts []).value (d ∷ []) all).0 (zero_difference u v e (sym a ∙ ap (w.value f) is ∙ b))))),
      tt,
    )

pub function_false : (w : Meaning) (n : ℕ) (e : List ℤ) (f a b : ℕ) (ss : List Linear) (u : Linear) (g : Form) → length e ≡ n → a ≤ n → b ≤ n → All (IsOver a) ss → IsOver a u → IsFormOver b g
    → ¬ (¬ (w.value f (values_of ss (take a e)) ≡ value_of u (take a e))) → ¬ (FormTruth w g (take b e)) → AllByRecursion (Fails w e) (function_pair f ss u g).value
unfolding just
function_false w n e f a b ss u (differs g ts v) len ale ble over_s over_u over_t hit miss =
    let first = first_ones n a e len ale in
    let second = first_ones n b e len ble in
    let s_is : values_of ss e ≡ values_of ss (take a e) = values_extend a n (take a e) e ss first over_s in
    let u_is : value_of u e ≡ value_of u (take a e) = value_extends a n (take a e) e u first over_u in
    let t_is : values_of ts e ≡ values_of ts (take b e) = values_extend b n (take b e) e ts second over_t.0 in
    let v_is : value_of v e ≡ value_of v (take b e) = value_extends b n (take b e) e v second over_t.1 in
    cond_all (Fails w e) (alike f ss g ts) (other_values ss u ts v) (λ same.
    let two = both_true (nat_eq f g) (nat_eq (length ss) (length ts)) same in
    let one : f ≡ g = same_number f g two.0 in
    other_false w e f ss ts u v (same_number (length ss) (length ts) two.1)
    (λ k. hit (λ t. k (ap (w.value f) s_is ∙ t ∙ sym u_is)))
    (λ k. miss (λ t. k ((λ i. w.value (one i) (t_is i)) ∙ t ∙ sym v_is))))
function_false w n e f a b ss u (equal t) len ale ble over_s over_u over_t hit miss = tt
function_false w n e f a b ss u (unequal t) len ale ble over_s over_u over_t hit miss = tt
function_false w n e f a b ss u (at_least t) len ale ble over_s over_u over_t hit miss = tt
function_false w n e f a b ss u (fails q ts) len ale ble over_s over_u over_t hit miss = tt
function_false w n e f a b ss u (holds q ts) len ale ble over_s over_u over_t hit miss = tt
function_false w n e f a b ss u (conjunction fs) len ale ble over_s over_u over_t hit miss = tt
function_false w n e f a b ss u (disjunction fs) len ale ble over_s over_u over_t hit miss = tt
function_false w n e f a b ss u (universal g) len ale ble over_s over_u over_t hit miss = tt
function_false w n e f a b ss u (existential g) len ale ble over_s over_u over_t hit miss = tt

with_functions_false : (w : Meaning) (n : ℕ) (e : List ℤ) (a : ℕ) (ms : List Member) (g : Form) → length e ≡ n → a ≤ n → IsFormOver a g → ¬ (FormTruth w g (take a e))
    → AllByRecursion (IsFalseAt w e n) ms → AllByRecursion (Fails w e) (with_functions ms g).value
unfolding just
with_functions_false w n e a ms (differs f ss u) len le formed miss h =
    each_all (Fails w e) (IsFalseAt w e n) (λ m. function_pair f ss u m.formula) ms []
    (λ m q. function_false w n e f a m.over ss u m.formula len le q.0.within formed.0 formed.1 q.0.formed miss q.1) h tt
with_functions_false w n e a ms (equal t) len le formed miss h = tt
with_functions_false w n e a ms (unequal t) len le formed miss h = tt
with_functions_false w n e a ms (at_least t) len le formed miss h = tt
with_functions_false w n e a ms (holds q ts) len le formed miss h = tt
with_functions_false w n e a ms (fails q ts) len le formed miss h = tt
with_functions_false w n e a ms (conjunction fs) len le formed miss h = tt
with_functions_false w n e a ms (disjunction fs) len le formed miss h = tt
with_functions_false w n e a ms (universal f) len le formed miss h = tt
with_functions_false w n e a ms (existential f) len le formed miss h = tt

function_pairs_false : (w : Meaning) (n : ℕ) (e : List ℤ) (ms : List Member) (out : List Form) → length e ≡ n → AllByRecursion (IsFalseAt w e n) ms
    → AllByRecursion (Fails w e) out → AllByRecursion (Fails w e) (function_pairs ms out).value
unfolding next just
function_pairs_false w n e [] out len h ps = ps
function_pairs_false w n e (m ∷ ms) out len h ps =
    function_pairs_false w n e ms (out ++ (with_functions ms m.formula).value) len h.1
    (all_append (Fails w e) out (with_functions ms m.formula).value ps (with_functions_false w n e m.over ms m.formula len h.0.0.within h.0.0.formed h.0.1 h.1))

pairs_are_false : (w : Meaning) (n : ℕ) (e : List ℤ) (ms : List Member) → length e ≡ n → AllByRecursion (IsFalseAt w e n) ms → AllByRecursion (Fails w e) (pairs_of ms).value
unfolding next
pairs_are_false w n e ms len h =
    function_pairs_false w n e ms (each (λ m. with_predicates ms m.formula) ms []).value len h
    (each_all (Fails w e) (IsFalseAt w e n) (λ m. with_predicates ms m.formula) ms []
    (λ m q. with_predicates_false w n e m.over ms m.formula len q.0.within q.0.formed q.1 h) h tt)

pure_false : (w : Meaning) (n : ℕ) (e : List ℤ) (m : Member) (fs : List Form) (b : Bool) → length e ≡ n → IsFalseAt w e n m → AllByRecursion (Fails w e) fs
    → AllByRecursion (Fails w e) (cond b (brought m.over n m.formula ∷ fs) fs)
pure_false w n e m fs false len q h = h
pure_false w n e m fs true len q h =
    let is : FormTruth w (brought m.over n m.formula) e ≡ FormTruth w m.formula (take m.over e) =
    ap (FormTruth w (brought m.over n m.formula)) (sym (append-nil e)) ∙ brought_is w m.over n e [] m.formula len q.0.within ∙ ap (FormTruth w m.formula) (append-nil (take m.over e)) in
    ((λ t. q.1 (go is t)), h)

pures_false : (w : Meaning) (n : ℕ) (e : List ℤ) (ms : List Member) → length e ≡ n → AllByRecursion (IsFalseAt w e n) ms → AllByRecursion (Fails w e) (pures n ms)
pures_false w n e [] len h = tt
pures_false w n e (m ∷ ms) len h = pure_false w n e m (pures n ms) (is_pure m.formula) len h.0 (pures_false w n e ms len h.1)

-- wherever a pair is true, the sequent is
pub pairs_true : (w : Meaning) (s : Sequent) (e : List ℤ) → IsFormedSequent s → length e ≡ s.count → ¬ (AllByRecursion (Fails w e) (pairs_of s.members).value) → SequentTruth w s e
pairs_true w s e formed len some h = some (pairs_are_false w s.count e s.members len (all_both (IsMember s.count) (λ m. ¬ (IsMemberTrue w e m)) s.members formed h))

-- wherever the closing formula is true, the sequent is
pub closing_true : (w : Meaning) (s : Sequent) (e : List ℤ) → IsFormedSequent s → length e ≡ s.count → FormTruth w (closing_of s).value e → SequentTruth w s e
unfolding next just
closing_true w s e formed len t h =
    let false_ones = all_both (IsMember s.count) (λ m. ¬ (IsMemberTrue w e m)) s.members formed h in
    t (forms_false w (pures s.count s.members ++ (pairs_of s.members).value) e
    (all_append (Fails w e) (pures s.count s.members) (pairs_of s.members).value (pures_false w s.count e s.members len false_ones) (pairs_are_false w s.count e s.members len false_ones)))
