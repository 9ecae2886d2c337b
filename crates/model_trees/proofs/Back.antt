-- Where a premise of a rule is false at values of all its constants, the sequent is false at the values of its own.
use Rattle.std.proofs.Common.{◌≡◌, ℕ, zero, suc, ◌≤◌, ℤ, List, [], ◌∷◌, ◌++◌, take, length, map, Some, refl, sym, ◌∙◌, subst, append-nil, length-append, arith}
use Rattle.std.specs.List.{AllByRecursion, remove, slice_get}
use Rattle.form_typed.specs.Truth.{Meaning}
use Rattle.formula.specs.Form.{Form, FormTruth, Forms, equal, unequal, at_least, holds, fails, differs, conjunction, disjunction, universal, existential, no_form, and_form}
use Rattle.sequent.specs.Sequent.{Member, Sequent, member, sequent, IsMemberTrue, AreFalse, IsMember, IsFormedSequent}
use Rattle.sequent.specs.Rules.{branches, brought, count_after, new_members, one_each, premises_at}
use Rattle.sequent.proofs.Members.{go, all_left, all_right, all_remove, all_at, all_back, new_is, body_is, older_is, was_false, forms_false}

-- ---- lists
-- an element of a mapped list of which all have P
pub all_get : {X : Type 0} (P : X → Type 0) (xs : List X) (i : ℕ) (x : X) → slice_get xs i ≡ Some x → AllByRecursion P xs → P x
all_get P xs i x is h = all_at P xs i x is h

nothing_there : {X : Type 0} (i : ℕ) (x : X) → slice_get [] i ≡ Some x → ⊥
nothing_there i x h = absurd (cc)

pub no_longer : (e r : List ℤ) → length (e ++ r) ≡ length e → e ++ r ≡ e
no_longer e [] h = append-nil e
no_longer e (x ∷ r) h = absurd (omega (arith, h, length-append e (x ∷ r)))

-- ---- counts
counts : (rest : List Member) (k : ℕ) (bs : List (List Member)) → AllByRecursion (λ (t : Sequent). t.count ≡ k) (map (λ new. sequent (rest ++ new) k) bs)
counts rest k [] = tt
counts rest k (b ∷ bs) = (refl, counts rest k bs)

-- the premises of a rule have the constants that its principal says
pub premises_count : (s : Sequent) (i : ℕ) (m : Member) → AllByRecursion (λ (t : Sequent). t.count ≡ count_after s.count m.formula) (premises_at s i (Some m))
premises_count s i m = counts (remove s.members i) (count_after s.count m.formula) (branches s.count m.over m.used m.formula)

-- ---- rules
-- the others and the principal are false
abbrev pub Both : Meaning → List ℤ → List Member → ℕ → Form → Type 0
Both w e rest over f = AreFalse w e rest × (¬ (FormTruth w f (take over e)))

beta_back : (w : Meaning) (rest : List Member) (n over : ℕ) (e : List ℤ) (fs : Forms) (j : ℕ) (t : Sequent) → length e ≡ n → over ≤ n
    → slice_get (map (λ new. sequent (rest ++ new) n) (one_each (new_members over n fs))) j ≡ Some t → AreFalse w e t.members → Both w e rest over (conjunction fs)
beta_back w rest n over e no_form j t len le is h = absurd (nothing_there j t is)
beta_back w rest n over e (and_form f fs) zero t len le is h =
    let new = member (brought over n f) n 0 ∷ [] in
    let same : t ≡ sequent (rest ++ new) n = cc in
    let P : Member → Type 0 = λ m. ¬ (IsMemberTrue w e m) in
    let all : AreFalse w e (rest ++ new) = subst (λ (q : Sequent). AreFalse w e q.members) same h in
    (all_left P rest new all, λ a. (all_right P rest new all).0 (go (sym (new_is w over n e f len le)) a.0))
beta_back w rest n over e (and_form f fs) (suc j) t len le is h =
    let r = beta_back w rest n over e fs j t len le is h in
    (r.0, λ a. r.1 a.1)

alpha_back : (w : Meaning) (rest : List Member) (n over : ℕ) (e : List ℤ) (fs : Forms) (j : ℕ) (t : Sequent) → length e ≡ n → over ≤ n
    → slice_get (sequent (rest ++ new_members over n fs) n ∷ []) j ≡ Some t → AreFalse w e t.members → Both w e rest over (disjunction fs)
alpha_back w rest n over e fs zero t len le is h =
    let same : t ≡ sequent (rest ++ new_members over n fs) n = cc in
    let P : Member → Type 0 = λ m. ¬ (IsMemberTrue w e m) in
    let all : AreFalse w e (rest ++ new_members over n fs) = subst (λ (q : Sequent). AreFalse w e q.members) same h in
    (all_left P rest (new_members over n fs) all, λ a. a (forms_false w over n e fs len le (all_right P rest (new_members over n fs) all)))
alpha_back w rest n over e fs (suc j) t len le is h = absurd (nothing_there j t is)

delta_back : (w : Meaning) (rest : List Member) (n over : ℕ) (e : List ℤ) (v : ℤ) (f : Form) (j : ℕ) (t : Sequent) → length e ≡ n → over ≤ n → AllByRecursion (IsMember n) rest
    → slice_get (sequent (rest ++ member (brought over n f) (suc n) 0 ∷ []) (suc n) ∷ []) j ≡ Some t → AreFalse w (e ++ v ∷ []) t.members → Both w e rest over (universal f)
delta_back w rest n over e v f zero t len le formed is h =
    let new = member (brought over n f) (suc n) 0 ∷ [] in
    let same : t ≡ sequent (rest ++ new) (suc n) = cc in
    let P : Member → Type 0 = λ m. ¬ (IsMemberTrue w (e ++ v ∷ []) m) in
    let all : AreFalse w (e ++ v ∷ []) (rest ++ new) = subst (λ (q : Sequent). AreFalse w (e ++ v ∷ []) q.members) same h in
    (was_false w n e v rest len formed (all_left P rest new all), λ a. (all_right P rest new all).0 (go (sym (body_is w over n e v f len le)) (a v)))
delta_back w rest n over e v f (suc j) t len le formed is h = absurd (nothing_there j t is)

gamma_back : (w : Meaning) (rest : List Member) (n over used : ℕ) (e : List ℤ) (v : ℤ) (f : Form) (j : ℕ) (t : Sequent) → length e ≡ n → over ≤ n → AllByRecursion (IsMember n) rest
    → slice_get (sequent (rest ++ member (brought over n f) (suc n) 0 ∷ member (existential f) over (suc used) ∷ []) (suc n) ∷ []) j ≡ Some t → AreFalse w (e ++ v ∷ []) t.members
    → Both w e rest over (existential f)
gamma_back w rest n over used e v f zero t len le formed is h =
    let new = member (brought over n f) (suc n) 0 ∷ member (existential f) over (suc used) ∷ [] in
    let same : t ≡ sequent (rest ++ new) (suc n) = cc in
    let P : Member → Type 0 = λ m. ¬ (IsMemberTrue w (e ++ v ∷ []) m) in
    let all : AreFalse w (e ++ v ∷ []) (rest ++ new) = subst (λ (q : Sequent). AreFalse w (e ++ v ∷ []) q.members) same h in
    (was_false w n e v rest len formed (all_left P rest new all), λ a. (all_right P rest new all).1.0 (go (sym (older_is w n e v (member (existential f) over used) len le)) a))
gamma_back w rest n over used e v f (suc j) t len le formed is h = absurd (nothing_there j t is)

-- a list that is one longer ends in one more integer
pub one_only : (e r : List ℤ) (n : ℕ) → length e ≡ n → length (e ++ r) ≡ suc n → (v : ℤ) × (r ≡ v ∷ [])
one_only e [] n len more = absurd (omega (arith, len, more, length-append e []))
one_only e (v ∷ []) n len more = (v, refl)
one_only e (v ∷ u ∷ r) n len more = absurd (omega (arith, len, more, length-append e (v ∷ u ∷ r)))

rule_back : (w : Meaning) (s : Sequent) (i over used : ℕ) (f : Form) (j : ℕ) (t : Sequent) (e r : List ℤ) → length e ≡ s.count → over ≤ s.count → AllByRecursion (IsMember s.count) (remove s.members i)
    → slice_get (premises_at s i (Some (member f over used))) j ≡ Some t → length (e ++ r) ≡ count_after s.count f → AreFalse w (e ++ r) t.members → Both w e (remove s.members i) over f
rule_back w s i over used (conjunction fs) j t e r len le formed is more h =
    beta_back w (remove s.members i) s.count over e fs j t len le is (subst (λ (d : List ℤ). AreFalse w d t.members) (no_longer e r (more ∙ sym len)) h)
rule_back w s i over used (disjunction fs) j t e r len le formed is more h =
    alpha_back w (remove s.members i) s.count over e fs j t len le is (subst (λ (d : List ℤ). AreFalse w d t.members) (no_longer e r (more ∙ sym len)) h)
rule_back w s i over used (universal f) j t e r len le formed is more h =
    let one = one_only e r s.count len more in
    delta_back w (remove s.members i) s.count over e (one.0) f j t len le formed is (subst (λ (d : List ℤ). AreFalse w (e ++ d) t.members) (one.1) h)
rule_back w s i over used (existential f) j t e r len le formed is more h =
    let one = one_only e r s.count len more in
    gamma_back w (remove s.members i) s.count over used e (one.0) f j t len le formed is (subst (λ (d : List ℤ). AreFalse w (e ++ d) t.members) (one.1) h)
rule_back w s i over used (equal x) j t e r len le formed is more h = absurd (nothing_there j t is)
rule_back w s i over used (unequal x) j t e r len le formed is more h = absurd (nothing_there j t is)
rule_back w s i over used (at_least x) j t e r len le formed is more h = absurd (nothing_there j t is)
rule_back w s i over used (holds p ts) j t e r len le formed is more h = absurd (nothing_there j t is)
rule_back w s i over used (fails p ts) j t e r len le formed is more h = absurd (nothing_there j t is)
rule_back w s i over used (differs p ts u) j t e r len le formed is more h = absurd (nothing_there j t is)

-- a premise that is false at e and values r of its further constants makes the sequent false at e
pub premise_back : (w : Meaning) (s : Sequent) (i : ℕ) (m : Member) (j : ℕ) (t : Sequent) (e r : List ℤ) → IsFormedSequent s → slice_get s.members i ≡ Some m
    → slice_get (premises_at s i (Some m)) j ≡ Some t → length e ≡ s.count → length (e ++ r) ≡ t.count → AreFalse w (e ++ r) t.members → AreFalse w e s.members
premise_back w s i m j t e r formed at is len more h =
    let count : t.count ≡ count_after s.count m.formula = all_at (λ (q : Sequent). q.count ≡ count_after s.count m.formula) (premises_at s i (Some m)) j t is (premises_count s i m) in
    let b = rule_back w s i m.over m.used m.formula j t e r len (all_at (IsMember s.count) s.members i m at formed).within (all_remove (IsMember s.count) s.members i formed) is (more ∙ count) h in
    all_back (λ x. ¬ (IsMemberTrue w e x)) s.members i m at b.1 b.0
