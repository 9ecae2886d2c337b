-- Each rule: where its premises' constraints cover them, the rule's constraint covers the sequent; and the same for tight.
use Rattle.std.proofs.Common.{◌≡◌, ℕ, zero, suc, ◌≤◌, ℤ, pos, Bool, true, false, List, [], ◌∷◌, ◌++◌, take, length, map, Some, ◌⊎◌, inl, inr, sym, ap, arith}
use Rattle.std.specs.List.{AllByRecursion, remove, slice_get}
use Rattle.form_typed.specs.Truth.{Meaning}
use Rattle.formula.specs.Form.{Form, FormTruth, Forms, equal, unequal, at_least, holds, fails, differs, conjunction, disjunction, universal, existential, no_form, and_form, AreFormsTrue, AreFormsFalse}
use Rattle.sequent.specs.Sequent.{Member, Sequent, member, sequent, IsMemberTrue, AreFalse, SequentTruth, IsMember, IsFormedSequent}
use Rattle.sequent.specs.Rules.{brought, new_members, one_each, premises_at}
use Rattle.sequent.specs.Covers.{Covers, IsTight, AreCovered, AreTight, AreTrue, IsOneFalse, RuleTruth, RuleFalsity}
use Rattle.formula.proofs.Stability.{form_stable}
use Rattle.sequent.proofs.Members.{go, all_append, all_left, all_right, all_remove, all_at, all_back, new_is, body_is, older_is, still_false, was_false, new_false, forms_false}

beta_true : (w : Meaning) (rest : List Member) (n over : ℕ) (e : List ℤ) (fs : Forms) (ds : List (List ℤ → Bool)) → length e ≡ n → over ≤ n → AreFalse w e rest
    → AreCovered w (map (λ new. sequent (rest ++ new) n) (one_each (new_members over n fs))) ds → AreTrue ds e → AreFormsTrue w fs (take over e)
beta_true w rest n over e no_form ds len le h c t = tt
beta_true w rest n over e (and_form f fs) [] len le h c t = absurd c
beta_true w rest n over e (and_form f fs) (d ∷ ds) len le h c t = (
  form_stable w f (take over e) (λ k. c.0 e len t.0 (all_append (λ m. ¬ (IsMemberTrue w e m)) rest (member (brought over n f) n 0 ∷ []) h ((λ u. k (go (new_is w over n e f len le) u)), tt))),
  beta_true w rest n over e fs ds len le h c.1 t.1,
)

alpha_true : (w : Meaning) (rest : List Member) (n over : ℕ) (e : List ℤ) (fs : Forms) (d : List ℤ → Bool) → length e ≡ n → over ≤ n → AreFalse w e rest
    → Covers w d (sequent (rest ++ new_members over n fs) n) → d e ≡ true → ¬ (AreFormsFalse w fs (take over e))
alpha_true w rest n over e fs d len le h c t k = c e len t (all_append (λ m. ¬ (IsMemberTrue w e m)) rest (new_members over n fs) h (new_false w over n e fs len le k))

one_more : (n : ℕ) (e : List ℤ) (v : ℤ) → length e ≡ n → length (e ++ v ∷ []) ≡ suc n
one_more n [] v len = ap suc len
one_more zero (x ∷ e) v len = absurd (omega (arith, len))
one_more (suc n) (x ∷ e) v len = ap suc (one_more n e v (omega (arith, len)))

delta_true : (w : Meaning) (rest : List Member) (n over : ℕ) (e : List ℤ) (v : ℤ) (f : Form) (d : List ℤ → Bool) → length e ≡ n → over ≤ n → AllByRecursion (IsMember n) rest → AreFalse w e rest
    → Covers w d (sequent (rest ++ member (brought over n f) (suc n) 0 ∷ []) (suc n)) → d (e ++ v ∷ []) ≡ true → FormTruth w f (take over e ++ v ∷ [])
delta_true w rest n over e v f d len le formed h c t = form_stable w f (take over e ++ v ∷ []) (λ k.
    c (e ++ v ∷ []) (one_more n e v len) t (all_append (λ m. ¬ (IsMemberTrue w (e ++ v ∷ []) m)) rest (member (brought over n f) (suc n) 0 ∷ []) (still_false w n e v rest len formed h)
    ((λ u. k (go (body_is w over n e v f len le) u)), tt)))

gamma_true : (w : Meaning) (rest : List Member) (n over used : ℕ) (e : List ℤ) (v : ℤ) (f : Form) (d : List ℤ → Bool) → length e ≡ n → over ≤ n → AllByRecursion (IsMember n) rest → AreFalse w e rest
    → Covers w d (sequent (rest ++ member (brought over n f) (suc n) 0 ∷ member (existential f) over (suc used) ∷ []) (suc n)) → d (e ++ v ∷ []) ≡ true
    → ((u : ℤ) → ¬ (FormTruth w f (take over e ++ u ∷ []))) → ⊥
gamma_true w rest n over used e v f d len le formed h c t none =
    c (e ++ v ∷ []) (one_more n e v len) t (all_append (λ m. ¬ (IsMemberTrue w (e ++ v ∷ []) m)) rest (member (brought over n f) (suc n) 0 ∷ member (existential f) over (suc used) ∷ []) (still_false w n e v rest len formed h)
    ((λ u. none v (go (body_is w over n e v f len le) u)), ((λ u. go (older_is w n e v (member (existential f) over used) len le) u none), tt)))

row_true : (w : Meaning) (s : Sequent) (i : ℕ) (over used : ℕ) (f : Form) (ds : List (List ℤ → Bool)) (e : List ℤ) → length e ≡ s.count → over ≤ s.count
    → AllByRecursion (IsMember s.count) (remove s.members i) → AreFalse w e (remove s.members i)
    → AreCovered w (premises_at s i (Some (member f over used))) ds → RuleTruth f ds e → FormTruth w f (take over e)
row_true w s i over used (conjunction fs) ds e len le formed h c t = beta_true w (remove s.members i) s.count over e fs ds len le h c t
row_true w s i over used (disjunction fs) (d ∷ []) e len le formed h c t = alpha_true w (remove s.members i) s.count over e fs d len le h c.0 t.0
row_true w s i over used (universal f) (d ∷ []) e len le formed h c t = λ v. delta_true w (remove s.members i) s.count over e v f d len le formed h c.0 (t v).0
row_true w s i over used (existential f) (d ∷ []) e len le formed h c t = λ none. t (λ v a. gamma_true w (remove s.members i) s.count over used e v f d len le formed h c.0 a.0 none)
row_true w s i over used (disjunction fs) [] e len le formed h c t = absurd c
row_true w s i over used (universal f) [] e len le formed h c t = absurd c
row_true w s i over used (existential f) [] e len le formed h c t = absurd c
row_true w s i over used (disjunction fs) (d ∷ d' ∷ ds) e len le formed h c t = absurd c.1
row_true w s i over used (universal f) (d ∷ d' ∷ ds) e len le formed h c t = absurd c.1
row_true w s i over used (existential f) (d ∷ d' ∷ ds) e len le formed h c t = absurd c.1
row_true w s i over used (equal x) ds e len le formed h c t = absurd t
row_true w s i over used (unequal x) ds e len le formed h c t = absurd t
row_true w s i over used (at_least x) ds e len le formed h c t = absurd t
row_true w s i over used (holds p ts) ds e len le formed h c t = absurd t
row_true w s i over used (fails p ts) ds e len le formed h c t = absurd t
row_true w s i over used (differs p ts u) ds e len le formed h c t = absurd t

-- premises that are covered give a covered sequent
pub row_covers : (w : Meaning) (s : Sequent) (i : ℕ) (m : Member) (ds : List (List ℤ → Bool)) → IsFormedSequent s → slice_get s.members i ≡ Some m
    → AreCovered w (premises_at s i (Some m)) ds → (e : List ℤ) → length e ≡ s.count → RuleTruth m.formula ds e → SequentTruth w s e
row_covers w s i m ds formed is c e len t h =
    let P : Member → Type 0 = λ x. ¬ (IsMemberTrue w e x) in
    all_at P s.members i m is h (row_true w s i m.over m.used m.formula ds e len (all_at (IsMember s.count) s.members i m is formed).within
    (all_remove (IsMember s.count) s.members i formed) (all_remove P s.members i h) c t)

-- Tight.

-- an interpretation that makes the others and the principal false
abbrev pub Refutes : List ℤ → List Member → ℕ → Form → Type 0
Refutes e rest over f = (w : Meaning) × AreFalse w e rest × (¬ (FormTruth w f (take over e)))

beta_tight : (rest : List Member) (n over : ℕ) (e : List ℤ) (fs : Forms) (ds : List (List ℤ → Bool)) → length e ≡ n → over ≤ n
    → AreTight (map (λ new. sequent (rest ++ new) n) (one_each (new_members over n fs))) ds → IsOneFalse ds e → Refutes e rest over (conjunction fs)
beta_tight rest n over e no_form [] len le c t = absurd t
beta_tight rest n over e no_form (d ∷ ds) len le c t = absurd c
beta_tight rest n over e (and_form f fs) [] len le c t = absurd t
beta_tight rest n over e (and_form f fs) (d ∷ ds) len le c (inl k) =
    let r = c.0 e len k in
    let P : Member → Type 0 = λ m. ¬ (IsMemberTrue r.0 e m) in
    (r.0, all_left P rest (member (brought over n f) n 0 ∷ []) r.1, λ a. (all_right P rest (member (brought over n f) n 0 ∷ []) r.1).0 (go (sym (new_is r.0 over n e f len le)) a.0))
beta_tight rest n over e (and_form f fs) (d ∷ ds) len le c (inr k) =
    let r = beta_tight rest n over e fs ds len le c.1 k in
    (r.0, r.1, λ a. r.2 a.1)

alpha_tight : (rest : List Member) (n over : ℕ) (e : List ℤ) (fs : Forms) (d : List ℤ → Bool) → length e ≡ n → over ≤ n
    → IsTight d (sequent (rest ++ new_members over n fs) n) → d e ≡ false → Refutes e rest over (disjunction fs)
alpha_tight rest n over e fs d len le c k =
    let r = c e len k in
    let P : Member → Type 0 = λ m. ¬ (IsMemberTrue r.0 e m) in
    (r.0, all_left P rest (new_members over n fs) r.1, λ a. a (forms_false r.0 over n e fs len le (all_right P rest (new_members over n fs) r.1)))

delta_tight : (rest : List Member) (n over : ℕ) (e : List ℤ) (v : ℤ) (f : Form) (d : List ℤ → Bool) → length e ≡ n → over ≤ n → AllByRecursion (IsMember n) rest
    → IsTight d (sequent (rest ++ member (brought over n f) (suc n) 0 ∷ []) (suc n)) → d (e ++ v ∷ []) ≡ false → Refutes e rest over (universal f)
delta_tight rest n over e v f d len le formed c k =
    let r = c (e ++ v ∷ []) (one_more n e v len) k in
    let P : Member → Type 0 = λ m. ¬ (IsMemberTrue r.0 (e ++ v ∷ []) m) in
    let new = member (brought over n f) (suc n) 0 ∷ [] in
    (r.0, was_false r.0 n e v rest len formed (all_left P rest new r.1), λ a. (all_right P rest new r.1).0 (go (sym (body_is r.0 over n e v f len le)) (a v)))

gamma_tight : (rest : List Member) (n over used : ℕ) (e : List ℤ) (v : ℤ) (f : Form) (d : List ℤ → Bool) → length e ≡ n → over ≤ n → AllByRecursion (IsMember n) rest
    → IsTight d (sequent (rest ++ member (brought over n f) (suc n) 0 ∷ member (existential f) over (suc used) ∷ []) (suc n)) → d (e ++ v ∷ []) ≡ false → Refutes e rest over (existential f)
gamma_tight rest n over used e v f d len le formed c k =
    let r = c (e ++ v ∷ []) (one_more n e v len) k in
    let P : Member → Type 0 = λ m. ¬ (IsMemberTrue r.0 (e ++ v ∷ []) m) in
    let new = member (brought over n f) (suc n) 0 ∷ member (existential f) over (suc used) ∷ [] in
    (r.0, was_false r.0 n e v rest len formed (all_left P rest new r.1), λ a. (all_right P rest new r.1).1.0 (go (sym (older_is r.0 n e v (member (existential f) over used) len le)) a))

alone : {A : Type 0} → A ⊎ ⊥ → A
alone {A} (inl a) = a
alone {A} (inr b) = absurd b

row_tight_at : (s : Sequent) (i : ℕ) (over used : ℕ) (f : Form) (ds : List (List ℤ → Bool)) (e : List ℤ) → length e ≡ s.count → over ≤ s.count
    → AllByRecursion (IsMember s.count) (remove s.members i)
    → AreTight (premises_at s i (Some (member f over used))) ds → RuleFalsity f ds e → Refutes e (remove s.members i) over f
row_tight_at s i over used (conjunction fs) ds e len le formed c t = beta_tight (remove s.members i) s.count over e fs ds len le c t
row_tight_at s i over used (disjunction fs) (d ∷ []) e len le formed c (inl k) = alpha_tight (remove s.members i) s.count over e fs d len le c.0 k
row_tight_at s i over used (disjunction fs) (d ∷ []) e len le formed c (inr k) = absurd k
row_tight_at s i over used (universal f) (d ∷ []) e len le formed c (v, inl k) = delta_tight (remove s.members i) s.count over e v f d len le formed c.0 k
row_tight_at s i over used (universal f) (d ∷ []) e len le formed c (v, inr k) = absurd k
row_tight_at s i over used (existential f) (d ∷ []) e len le formed c t = gamma_tight (remove s.members i) s.count over used e (pos 0) f d len le formed c.0 (alone (t (pos 0)))
row_tight_at s i over used (disjunction fs) [] e len le formed c t = absurd c
row_tight_at s i over used (universal f) [] e len le formed c t = absurd c
row_tight_at s i over used (existential f) [] e len le formed c t = absurd c
row_tight_at s i over used (disjunction fs) (d ∷ d' ∷ ds) e len le formed c t = absurd c.1
row_tight_at s i over used (universal f) (d ∷ d' ∷ ds) e len le formed c t = absurd c.1
row_tight_at s i over used (existential f) (d ∷ d' ∷ ds) e len le formed c t = absurd c.1
row_tight_at s i over used (equal x) ds e len le formed c t = absurd t
row_tight_at s i over used (unequal x) ds e len le formed c t = absurd t
row_tight_at s i over used (at_least x) ds e len le formed c t = absurd t
row_tight_at s i over used (holds p ts) ds e len le formed c t = absurd t
row_tight_at s i over used (fails p ts) ds e len le formed c t = absurd t
row_tight_at s i over used (differs p ts u) ds e len le formed c t = absurd t

-- wherever the rule's constraint is false, some interpretation makes the sequent false
pub row_tight : (s : Sequent) (i : ℕ) (m : Member) (ds : List (List ℤ → Bool)) → IsFormedSequent s → slice_get s.members i ≡ Some m
    → AreTight (premises_at s i (Some m)) ds → (e : List ℤ) → length e ≡ s.count → RuleFalsity m.formula ds e → (w : Meaning) × AreFalse w e s.members
row_tight s i m ds formed is c e len t =
    let r = row_tight_at s i m.over m.used m.formula ds e len (all_at (IsMember s.count) s.members i m is formed).within (all_remove (IsMember s.count) s.members i formed) c t in
    (r.0, all_back (λ x. ¬ (IsMemberTrue r.0 e x)) s.members i m is r.2 r.1)
