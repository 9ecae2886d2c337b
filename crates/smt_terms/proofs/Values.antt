-- What a term becomes has one value, and a property of the value is one that the value has.
use Rattle.std.proofs.Common.{◌≡◌, ◌↔◌, ℤ, Bool, true, false, List, refl, sym, ap, subst}
use Rattle.form_typed.specs.Truth.{Meaning, Truth}
use Rattle.form_typed.proofs.Values.{value_more, value_clash, value_stable}
use Rattle.form_typed.proofs.Stability.{truth_stable, equal_stable, test_stable}
use Rattle.form_typed.proofs.Connectives.{some_value}
use Rattle.smt_terms.specs.Operators.{Value, integer, truth, as_truth}
use Rattle.smt_terms.specs.Evaluation.{IsTruth}
use Rattle.smt_terms.specs.Translation.{Said, a_formula, a_term, formula_in}
use Rattle.smt_terms.specs.Meaning.{IsValue, SaidHas}

-- a property that a value has where it cannot fail to have it
pub record Stable (P : Value → Type 0) : Type 0 where
  pub at : (v : Value) → ¬ (¬ (P v)) → P v

bool_stable : (a b : Bool) → ¬ (¬ (a ≡ b)) → a ≡ b
bool_stable true true h = refl
bool_stable true false h = absurd (h (λ e. cc))
bool_stable false true h = absurd (h (λ e. cc))
bool_stable false false h = refl

same_value : (x v : Value) → ¬ (¬ (x ≡ v)) → x ≡ v
same_value (integer x) (integer v) h = ap integer (equal_stable x v (λ n. h (λ e. n (let is : x ≡ v = cc in is))))
same_value (integer x) (truth b) h = absurd (h (λ e. cc))
same_value (truth a) (integer v) h = absurd (h (λ e. cc))
same_value (truth a) (truth b) h = ap truth (bool_stable a b (λ n. h (λ e. n (let is : a ≡ b = cc in is))))

pub is_stable : (v : Value) → Stable (λ x. x ≡ v)
is_stable v = record { at = λ x. same_value x v }

pub truth_is_stable : Stable IsTruth
truth_is_stable = record { at = λ v. test_stable (as_truth v) }

-- what has a value has each property of that value
pub has_property : (w : Meaning) (s : Said) (e : List ℤ) (v : Value) (P : Value → Type 0) → IsValue w s e v → P v → SaidHas w s e P
has_property w (a_formula f) e (truth true) P h p = (λ _. p, λ n. absurd (n h))
has_property w (a_formula f) e (truth false) P h p = (λ a. absurd (h a), λ _. p)
has_property w (a_formula f) e (integer v) P h p = absurd h
has_property w (a_term t) e (integer v) P h p = value_more w t e (λ x. x ≡ v) (λ x. P (integer x)) (λ x is. subst P (ap integer (sym is)) p) h
has_property w (a_term t) e (truth b) P h p = absurd h

pub property_of : (w : Meaning) (s : Said) (e : List ℤ) (v : Value) (P : Value → Type 0) → Stable P → IsValue w s e v → SaidHas w s e P → P v
property_of w (a_formula f) e (truth true) P st h k = k.0 h
property_of w (a_formula f) e (truth false) P st h k = k.1 h
property_of w (a_formula f) e (integer v) P st h k = absurd h
property_of w (a_term t) e (integer v) P st h k =
    st.at (integer v) (λ n. value_clash w t e (λ x. x ≡ v) (λ x. P (integer x)) (λ x is p. n (subst P (ap integer is) p)) h k)
property_of w (a_term t) e (truth b) P st h k = absurd h

-- what has the property of being a value has that value
pub value_from : (w : Meaning) (s : Said) (e : List ℤ) (v : Value) → SaidHas w s e (λ x. x ≡ v) → IsValue w s e v
value_from w (a_formula f) e (truth true) h = truth_stable w f e (λ n. let bad : truth false ≡ truth true = h.1 n in cc)
value_from w (a_formula f) e (truth false) h = λ a. let bad : truth true ≡ truth false = h.0 a in cc
value_from w (a_formula f) e (integer v) h =
    let n : ¬ (Truth w f e) = λ a. let bad : truth true ≡ integer v = h.0 a in cc in
    let bad : truth false ≡ integer v = h.1 n in cc
value_from w (a_term t) e (integer v) h = value_more w t e (λ x. integer x ≡ integer v) (λ x. x ≡ v) (λ x is. cc) h
value_from w (a_term t) e (truth b) h = value_clash w t e (λ x. integer x ≡ truth b) (λ x. integer x ≡ truth b) (λ x is also. cc) h h

-- it cannot fail to have a value
pub some_said : (w : Meaning) (s : Said) (e : List ℤ) → ¬ ((v : Value) → ¬ (IsValue w s e v))
some_said w (a_formula f) e h = h (truth false) (λ a. h (truth true) a)
some_said w (a_term t) e h = some_value w t e (λ v k. h (integer v) k)

pub said_stable : (w : Meaning) (s : Said) (e : List ℤ) (P : Value → Type 0) → Stable P → ¬ (¬ (SaidHas w s e P)) → SaidHas w s e P
said_stable w (a_formula f) e P st h = (λ a. st.at (truth true) (λ n. h (λ k. n (k.0 a))), λ a. st.at (truth false) (λ n. h (λ k. n (k.1 a))))
said_stable w (a_term t) e P st h = value_stable w t e (λ v. P (integer v)) (λ v. st.at (integer v)) h

pub truth_said : (w : Meaning) (s : Said) (e : List ℤ) → SaidHas w s e IsTruth ↔ Truth w (formula_in s) e
truth_said w (a_formula f) e = (λ h. truth_stable w f e (λ n. let bad : false ≡ true = h.1 n in cc), λ a. (λ _. refl, λ n. absurd (n a)))
truth_said w (a_term t) e =
    (λ h. absurd (value_clash w t e (λ v. false ≡ true) (λ v. false ≡ true) (λ v p q. cc) h h), λ p. absurd (let bad : false ≡ true = p in cc))

-- it has one value at most
pub one_said : (w : Meaning) (s : Said) (e : List ℤ) (u v : Value) → IsValue w s e u → IsValue w s e v → u ≡ v
one_said w s e u v h k = (is_stable v).at u (λ n. n (property_of w s e u (λ x. x ≡ v) (is_stable v) h (has_property w s e v (λ x. x ≡ v) k refl)))
