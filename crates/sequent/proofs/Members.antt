-- Lists of members: what holds of each, without one, and at a longer list of integers.
use Rattle.std.proofs.Common.{◌≡◌, ℕ, zero, suc, ◌-◌, ◌≤◌, ℤ, List, [], ◌∷◌, ◌++◌, take, drop, length, Some, refl, sym, ap, ◌∙◌, subst, append_assoc, arith}
use Rattle.std.specs.List.{AllByRecursion, remove, slice_get}
use Rattle.std.proofs.lemmas.List.{take-append-drop, take-append-le, take_all, length-take-le, length-drop, append-nil}
use Rattle.form_typed.specs.Truth.{Meaning}
use Rattle.formula.specs.Form.{Form, FormTruth, Forms, no_form, and_form, AreFormsFalse}
use Rattle.formula.specs.Shifts.{shifted}
use Rattle.sequent.specs.Sequent.{Member, IsMemberTrue, AreFalse, IsMember}
use Rattle.sequent.specs.Rules.{brought, new_members}
use Rattle.formula.proofs.Shifts.{shifted_is}

pub go : {A B : Type 0} → A ≡ B → A → B
go {A} {B} p x = subst (λ (P : Type 0). P) p x

pub all_append : {X : Type 0} (P : X → Type 0) (xs ys : List X) → AllByRecursion P xs → AllByRecursion P ys → AllByRecursion P (xs ++ ys)
all_append P [] ys h k = k
all_append P (x ∷ xs) ys h k = (h.0, all_append P xs ys h.1 k)

pub all_left : {X : Type 0} (P : X → Type 0) (xs ys : List X) → AllByRecursion P (xs ++ ys) → AllByRecursion P xs
all_left P [] ys h = tt
all_left P (x ∷ xs) ys h = (h.0, all_left P xs ys h.1)

pub all_right : {X : Type 0} (P : X → Type 0) (xs ys : List X) → AllByRecursion P (xs ++ ys) → AllByRecursion P ys
all_right P [] ys h = h
all_right P (x ∷ xs) ys h = all_right P xs ys h.1

pub all_remove : {X : Type 0} (P : X → Type 0) (xs : List X) (i : ℕ) → AllByRecursion P xs → AllByRecursion P (remove xs i)
all_remove P [] zero h = tt
all_remove P [] (suc i) h = tt
all_remove P (x ∷ xs) zero h = h.1
all_remove P (x ∷ xs) (suc i) h = (h.0, all_remove P xs i h.1)

pub all_at : {X : Type 0} (P : X → Type 0) (xs : List X) (i : ℕ) (x : X) → slice_get xs i ≡ Some x → AllByRecursion P xs → P x
all_at P [] i x is h = absurd (cc)
all_at P (y ∷ xs) zero x is h = let same : y ≡ x = cc in subst P same h.0
all_at P (y ∷ xs) (suc i) x is h = all_at P xs i x is h.1

pub all_back : {X : Type 0} (P : X → Type 0) (xs : List X) (i : ℕ) (x : X) → slice_get xs i ≡ Some x → P x → AllByRecursion P (remove xs i) → AllByRecursion P xs
all_back P [] i x is p h = tt
all_back P (y ∷ xs) zero x is p h = let same : x ≡ y = cc in (subst P same p, h)
all_back P (y ∷ xs) (suc i) x is p h = (h.0, all_back P xs i x is p h.1)

pub all_same : {X : Type 0} (P Q : X → Type 0) (xs : List X) → ((x : X) → P x → Q x) → AllByRecursion P xs → AllByRecursion Q xs
all_same P Q [] f h = tt
all_same P Q (x ∷ xs) f h = (f x h.0, all_same P Q xs f h.1)

pub all_both : {X : Type 0} (P Q : X → Type 0) (xs : List X) → AllByRecursion P xs → AllByRecursion Q xs → AllByRecursion (λ x. P x × Q x) xs
all_both P Q [] h k = tt
all_both P Q (x ∷ xs) h k = ((h.0, k.0), all_both P Q xs h.1 k.1)

-- a formula brought among n constants is true where the formula is at the first of them
pub brought_is : (w : Meaning) (over n : ℕ) (e b : List ℤ) (f : Form) → length e ≡ n → over ≤ n → FormTruth w (brought over n f) (e ++ b) ≡ FormTruth w f (take over e ++ b)
brought_is w over n e b f len le =
    let short : over ≤ length e = omega (arith, len) in
    let first : over ≡ length (take over e) = sym (length-take-le over e short) in
    let others : n - over ≡ length (drop over e) = sym (length-drop over e ∙ ap (λ k. k - over) len) in
    let whole : e ++ b ≡ take over e ++ (drop over e ++ b) = ap (λ l. l ++ b) (sym (take-append-drop over e)) ∙ append_assoc (take over e) (drop over e) b in
    (λ i. FormTruth w (shifted (first i) (others i) f) (whole i)) ∙ shifted_is w (take over e) (drop over e) b f

-- a new member is true where its formula is
pub new_is : (w : Meaning) (over n : ℕ) (e : List ℤ) (f : Form) → length e ≡ n → over ≤ n → FormTruth w (brought over n f) (take n e) ≡ FormTruth w f (take over e)
new_is w over n e f len le =
    let all : take n e ≡ e ++ [] = take_all n e (omega (arith, len)) ∙ sym (append-nil e) in
    ap (FormTruth w (brought over n f)) all ∙ brought_is w over n e [] f len le ∙ ap (FormTruth w f) (append-nil (take over e))

-- and so is the body of a quantifier, whose variable is the last constant
pub body_is : (w : Meaning) (over n : ℕ) (e : List ℤ) (v : ℤ) (f : Form) → length e ≡ n → over ≤ n
    → FormTruth w (brought over n f) (take (suc n) (e ++ v ∷ [])) ≡ FormTruth w f (take over e ++ v ∷ [])
body_is w over n e v f len le =
    let all : take (suc n) (e ++ v ∷ []) ≡ e ++ v ∷ [] = take_all (suc n) (e ++ v ∷ []) (omega (arith, len, length_one e v)) in
    ap (FormTruth w (brought over n f)) all ∙ brought_is w over n e (v ∷ []) f len le
  where
    length_one : (e : List ℤ) (v : ℤ) → length (e ++ v ∷ []) ≡ suc (length e)
    length_one [] v = refl
    length_one (x ∷ e) v = ap suc (length_one e v)

-- a member does not see a further integer
pub older_is : (w : Meaning) (n : ℕ) (e : List ℤ) (v : ℤ) (m : Member) → length e ≡ n → m.over ≤ n → IsMemberTrue w (e ++ v ∷ []) m ≡ IsMemberTrue w e m
older_is w n e v m len le = ap (FormTruth w m.formula) (take-append-le m.over e (v ∷ []) (omega (arith, len, le)))

pub still_false : (w : Meaning) (n : ℕ) (e : List ℤ) (v : ℤ) (ms : List Member) → length e ≡ n → AllByRecursion (IsMember n) ms → AreFalse w e ms → AreFalse w (e ++ v ∷ []) ms
still_false w n e v [] len formed h = tt
still_false w n e v (m ∷ ms) len formed h = (λ t. h.0 (go (older_is w n e v m len formed.0.within) t), still_false w n e v ms len formed.1 h.1)

pub was_false : (w : Meaning) (n : ℕ) (e : List ℤ) (v : ℤ) (ms : List Member) → length e ≡ n → AllByRecursion (IsMember n) ms → AreFalse w (e ++ v ∷ []) ms → AreFalse w e ms
was_false w n e v [] len formed h = tt
was_false w n e v (m ∷ ms) len formed h = (λ t. h.0 (go (sym (older_is w n e v m len formed.0.within)) t), was_false w n e v ms len formed.1 h.1)

pub new_false : (w : Meaning) (over n : ℕ) (e : List ℤ) (fs : Forms) → length e ≡ n → over ≤ n → AreFormsFalse w fs (take over e) → AreFalse w e (new_members over n fs)
new_false w over n e no_form len le h = tt
new_false w over n e (and_form f fs) len le h = (λ t. h.0 (go (new_is w over n e f len le) t), new_false w over n e fs len le h.1)

pub forms_false : (w : Meaning) (over n : ℕ) (e : List ℤ) (fs : Forms) → length e ≡ n → over ≤ n → AreFalse w e (new_members over n fs) → AreFormsFalse w fs (take over e)
forms_false w over n e no_form len le h = tt
forms_false w over n e (and_form f fs) len le h = (λ t. h.0 (go (sym (new_is w over n e f len le)) t), forms_false w over n e fs len le h.1)
