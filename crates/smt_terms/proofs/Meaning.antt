-- A term of SMT-LIB has a property exactly where what it becomes has it.
use Rattle.std.proofs.Common.{◌≡◌, ◌↔◌, ℕ, suc, ℤ, Bool, true, false, List, [], ◌∷◌, ◌++◌, length, Option, Some, None, refl, sym, ap, subst}
use Rattle.form_typed.specs.Formula.{Formula}
use Rattle.form_typed.specs.Truth.{Meaning, Truth}
use Rattle.smt_terms.specs.declared.operator.Operator.{Operator}
use Rattle.smt_terms.specs.Term.{PlacedTerm, PlacedTerms, Bindings, number, large, used, let_in, quantified, annotated, ill, no_phrase, and_phrase, no_binding, and_binding}
use Rattle.smt_terms.specs.Operators.{Value, integer, truth, applied, found, operator_of}
use Rattle.smt_terms.specs.Evaluation.{Values, Symbols, HasTruth, UseHas, Ranges, IsTruth, Has, HaveAll, HaveBound, names_of, terms_of, texts_of, with_names}
use Rattle.smt_terms.specs.Translation.{Said, formula_in, operated, Standing, Replacements, Writer, at_depth, use_said, variable, bound_said, said, all_said, bindings_said}
use Rattle.smt_terms.specs.Meaning.{IsValue, SaidHas}
use Rattle.smt_terms.proofs.Values.{Stable, is_stable, truth_is_stable, has_property, property_of, value_from, some_said, said_stable, truth_said}
use Rattle.smt_terms.proofs.Stability.{ListStable, SymbolsStable, use_stable, has_stable, all_stable}
use Rattle.smt_terms.proofs.Rules.{operated_is}
use Rattle.smt_terms.proofs.Agreement.{Extends, extends_itself, extends_further, extends_by, Keeps, AllKeep, no_keep, and_keep, kept_values, Agree, and_name, agree_on, agree_with, AreAlike, neither, alike, found_alike, variable_keeps, one_longer}

-- what has a value has exactly the properties of that value
pub exactly : (w : Meaning) (s : Said) (e : List ℤ) (v : Value) (P : Value → Type 0) → Stable P → IsValue w s e v → P v ↔ SaidHas w s e P
exactly w s e v P st h = (has_property w s e v P h, property_of w s e v P st h)

-- the symbols of a script mean what they become
pub record SymbolsAgree (w : Meaning) (e : List ℤ) (S : Symbols) (W : Writer) : Type 1 where
  pub at : (e' : List ℤ) → Extends e e' → (x : List ℕ) (ss : List Standing) (vs : List Value) → AllKeep w e' ss vs → (P : Value → Type 0) → Stable P
      → S x vs P ↔ SaidHas w (W x ss (length e')) e' P

pub symbols_on : (w : Meaning) (e d : List ℤ) (S : Symbols) (W : Writer) → Extends e d → SymbolsAgree w e S W → SymbolsAgree w d S W
symbols_on w e d S W x a = record { at = λ e' y. a.at e' (extends_further e d e' x y) }

-- a term has a property exactly where what it becomes has it
pub record Law (w : Meaning) (S : Symbols) (W : Writer) (t : PlacedTerm) : Type 1 where
  pub at : (e : List ℤ) (b : Values) (c : Replacements) → SymbolsAgree w e S W → Agree w e b c → (P : Value → Type 0) → Stable P → Has S b t P ↔ SaidHas w (said W c t (length e)) e P

data Laws (w : Meaning) (S : Symbols) (W : Writer) : PlacedTerms → Type 1 where
  no_law : Laws w S W no_phrase
  and_law : {t : PlacedTerm} {ts : PlacedTerms} → Law w S W t → Laws w S W ts → Laws w S W (and_phrase t ts)

-- the terms have these values
record Evaluate (S : Symbols) (b : Values) (ts : PlacedTerms) (vs : List Value) : Type 1 where
  at : (Q : List Value → Type 0) → ListStable Q → HaveAll S b ts Q ↔ Q vs

-- A fact that holds where it cannot fail may be shown with values of some terms at hand.
with_values : (w : Meaning) (S : Symbols) → SymbolsStable S → (W : Writer) (ts : PlacedTerms) → Laws w S W ts → (e : List ℤ) (b : Values) (c : Replacements) → SymbolsAgree w e S W → Agree w e b c
    → (X : Type 0) → (¬ (¬ X) → X) → ((vs : List Value) → Evaluate S b ts vs → AllKeep w e (all_said W c ts) vs → X) → X
with_values w S ss W no_phrase no_law e b c a g X st k = k [] (record { at = λ Q s. (λ h. h, λ h. h) }) no_keep
with_values w S ss W (and_phrase t ts) (and_law l ls) e b c a g X st k =
    with_values w S ss W ts ls e b c a g X st (λ vs ev keep.
    st (λ nx. some_said w (said W c t (length e)) e (λ v is. nx (k (v ∷ vs) (evaluate v is vs ev) (and_keep (keeps v is) keep)))))
  where
    has_it : (v : Value) → IsValue w (said W c t (length e)) e v → Has S b t (λ x. x ≡ v)
    has_it v is = (l.at e b c a g (λ x. x ≡ v) (is_stable v)).1 (has_property w (said W c t (length e)) e v (λ x. x ≡ v) is refl)

    keeps : (v : Value) → IsValue w (said W c t (length e)) e v → Keeps w e (said W c t) v
    keeps v is = record {
      at = λ e' x. value_from w (said W c t (length e')) e' v
          ((l.at e' b c (symbols_on w e e' S W x a) (agree_on x g) (λ z. z ≡ v) (is_stable v)).0 (has_it v is));
    }

    evaluate : (v : Value) → IsValue w (said W c t (length e)) e v → (vs : List Value) → Evaluate S b ts vs → Evaluate S b (and_phrase t ts) (v ∷ vs)
    evaluate v is vs ev = record {
      at = λ Q st'.
          let P : Value → Type 0 = λ x. HaveAll S b ts (λ xs. Q (x ∷ xs)) in
          let sp : Stable P = record { at = λ x. all_stable S ss b ts (λ xs. Q (x ∷ xs)) (record { at = λ xs. st'.at (x ∷ xs) }) } in
          let law = l.at e b c a g P sp in
          let here = exactly w (said W c t (length e)) e v P sp is in
          let rest = ev.at (λ xs. Q (v ∷ xs)) (record { at = λ xs. st'.at (v ∷ xs) }) in
          (λ h. rest.0 (here.1 (law.0 h)), λ q. law.1 (here.0 (rest.1 q)));
    }

-- Quantifiers.

-- what the body of a quantifier is, wherever it stands
record BodyLaw (w : Meaning) (e : List ℤ) (Body : Values → Type 0) (body : Replacements → ℕ → Formula) : Type 0 where
  at : (e' : List ℤ) → Extends e e' → (b : Values) (c : Replacements) → Agree w e' b c → Body b ↔ Truth w (body c (length e')) e'

body_on : (w : Meaning) (e d : List ℤ) (Body : Values → Type 0) (body : Replacements → ℕ → Formula) → Extends e d → BodyLaw w e Body body → BodyLaw w d Body body
body_on w e d Body body x l = record { at = λ e' y. l.at e' (extends_further e d e' x y) }

-- the body after one more variable
one_more : (w : Meaning) (all : Bool) (x : List ℕ) (xs : List (List ℕ)) (e : List ℤ) (b : Values) (c : Replacements) (Body : Values → Type 0) (body : Replacements → ℕ → Formula)
    → ((v : ℤ) → Ranges all xs Body ((x, integer v) ∷ b) ↔ Truth w (bound_said all xs body ((x, variable (length e)) ∷ c) (length (e ++ v ∷ []))) (e ++ v ∷ []))
    → (v : ℤ) → Ranges all xs Body ((x, integer v) ∷ b) ↔ Truth w (bound_said all xs body ((x, variable (length e)) ∷ c) (suc (length e))) (e ++ v ∷ [])
one_more w all x xs e b c Body body h v =
    subst (λ n. Ranges all xs Body ((x, integer v) ∷ b) ↔ Truth w (bound_said all xs body ((x, variable (length e)) ∷ c) n) (e ++ v ∷ [])) (one_longer e v) (h v)

ranges_are : (w : Meaning) (all : Bool) (xs : List (List ℕ)) (e : List ℤ) (b : Values) (c : Replacements) (Body : Values → Type 0) (body : Replacements → ℕ → Formula) → BodyLaw w e Body body → Agree w e b c
    → Ranges all xs Body b ↔ Truth w (bound_said all xs body c (length e)) e
ranges_are w all [] e b c Body body l g = l.at e (extends_itself e) b c g
ranges_are w true (x ∷ xs) e b c Body body l g =
    let at = one_more w true x xs e b c Body body (λ v. ranges_are w true xs (e ++ v ∷ []) ((x, integer v) ∷ b) ((x, variable (length e)) ∷ c) Body body
    (body_on w e (e ++ v ∷ []) Body body (extends_by e v) l) (and_name (variable_keeps w e v) (agree_on (extends_by e v) g))) in
    (λ h v _. (at v).0 (h v), λ h v. (at v).1 (h v tt))
ranges_are w false (x ∷ xs) e b c Body body l g =
    let at = one_more w false x xs e b c Body body (λ v. ranges_are w false xs (e ++ v ∷ []) ((x, integer v) ∷ b) ((x, variable (length e)) ∷ c) Body body
    (body_on w e (e ++ v ∷ []) Body body (extends_by e v) l) (and_name (variable_keeps w e v) (agree_on (extends_by e v) g))) in
    (λ h k. h (λ v n. k v tt ((at v).0 n)), λ h k. h (λ v _ n. k v ((at v).1 n)))

truths_alike : (A B : Type 0) (P : Value → Type 0) → A ↔ B → HasTruth A P ↔ HasTruth B P
truths_alike A B P h = (λ k. (λ b. k.0 (h.1 b), λ n. k.1 (λ a. n (h.0 a))), λ k. (λ a. k.0 (h.0 a), λ n. k.1 (λ b. n (h.1 b))))

-- Names.

use_is : (w : Meaning) (e : List ℤ) (S : Symbols) (W : Writer) → SymbolsAgree w e S W → (f : Option Value) (g : Option Standing) → AreAlike w e f g → (o : Option Operator) (x : List ℕ)
    (ss : List Standing) (vs : List Value) → AllKeep w e ss vs → (P : Value → Type 0) → Stable P → UseHas S f o x vs P ↔ SaidHas w (use_said W g o x ss (length e)) e P
use_is w e S W a None (Some s) k o x ss vs keep P st = elim k [ ]
use_is w e S W a (Some v) None k o x ss vs keep P st = elim k [ ]
use_is w e S W a (Some v) (Some s) (alike h) o x ss vs keep P st = exactly w (s (length e)) e v P st (h.at e (extends_itself e))
use_is w e S W a None None neither (Some o) x ss vs keep P st =
    exactly w (operated o (at_depth (length e) ss)) e (applied o vs) P st (operated_is o (kept_values keep))
use_is w e S W a None None neither None x ss vs keep P st = a.at e (extends_itself e) x ss vs keep P st

-- Terms.

pub junk_law : (w : Meaning) (e : List ℤ) (P : Value → Type 0) → P (truth false) ↔ HasTruth (false ≡ true) P
junk_law w e P = (λ h. (λ p. absurd (let bad : false ≡ true = p in cc), λ _. h), λ h. h.1 (λ p. let bad : false ≡ true = p in cc))

-- a list of terms at a property of their values: both ways by values at hand
at_values : (w : Meaning) (S : Symbols) → SymbolsStable S → (W : Writer) (ts : PlacedTerms) → Laws w S W ts → (e : List ℤ) (b : Values) (c : Replacements) → SymbolsAgree w e S W → Agree w e b c
    → (Q : List Value → Type 0) → ListStable Q → (Y : Type 0) → (¬ (¬ Y) → Y) → ((vs : List Value) → AllKeep w e (all_said W c ts) vs → Q vs ↔ Y) → HaveAll S b ts Q ↔ Y
at_values w S ss W ts ls e b c a g Q sq Y sy is = (
  λ h. with_values w S ss W ts ls e b c a g Y sy (λ vs ev keep. (is vs keep).0 ((ev.at Q sq).0 h)),
  λ y. with_values w S ss W ts ls e b c a g (HaveAll S b ts Q) (all_stable S ss b ts Q sq) (λ vs ev keep. (ev.at Q sq).1 ((is vs keep).1 y)),
)

-- the bindings of a `let` are a list of terms
bound_all : (S : Symbols) (b : Values) (bs : Bindings) (Q : List Value → Type 0) → HaveBound S b bs Q ≡ HaveAll S b (terms_of bs) Q
bound_all S b no_binding Q = refl
bound_all S b (and_binding x t bs) Q = λ i. Has S b t (λ v. bound_all S b bs (λ vs. Q (v ∷ vs)) i)

bindings_all : (W : Writer) (c : Replacements) (bs : Bindings) → bindings_said W c bs ≡ all_said W c (terms_of bs)
bindings_all W c no_binding = refl
bindings_all W c (and_binding x t bs) = ap (λ z. said W c t ∷ z) (bindings_all W c bs)

used_law : (w : Meaning) (S : Symbols) → SymbolsStable S → (W : Writer) (at : ℕ) (x : List ℕ) (o : Option Operator) (ts : PlacedTerms) → Laws w S W ts
    → (e : List ℤ) (b : Values) (c : Replacements) → SymbolsAgree w e S W → Agree w e b c → (P : Value → Type 0) → Stable P
    → HaveAll S b ts (λ vs. UseHas S (found x b) o x vs P) ↔ SaidHas w (use_said W (found x c) o x (all_said W c ts) (length e)) e P
used_law w S ss W at x o ts ls e b c a g P st =
    at_values w S ss W ts ls e b c a g (λ vs. UseHas S (found x b) o x vs P) (use_stable S ss (found x b) o x P st)
    (SaidHas w (use_said W (found x c) o x (all_said W c ts) (length e)) e P)
    (said_stable w (use_said W (found x c) o x (all_said W c ts) (length e)) e P st)
    (λ vs keep. use_is w e S W a (found x b) (found x c) (found_alike x g) o x (all_said W c ts) vs keep P st)

let_law : (w : Meaning) (S : Symbols) → SymbolsStable S → (W : Writer) (bs : Bindings) (t : PlacedTerm) → Laws w S W (terms_of bs) → Law w S W t
    → (e : List ℤ) (b : Values) (c : Replacements) → SymbolsAgree w e S W → Agree w e b c → (P : Value → Type 0) → Stable P
    → HaveBound S b bs (λ vs. Has S (with_names (names_of bs) vs b) t P) ↔ SaidHas w (said W (with_names (names_of bs) (bindings_said W c bs) c) t (length e)) e P
let_law w S ss W bs t ls l e b c a g P st =
    let Q : List Value → Type 0 = λ vs. Has S (with_names (names_of bs) vs b) t P in
    let all = at_values w S ss W (terms_of bs) ls e b c a g Q (record { at = λ vs. has_stable S ss (with_names (names_of bs) vs b) t P st })
    (SaidHas w (said W (with_names (names_of bs) (all_said W c (terms_of bs)) c) t (length e)) e P)
    (said_stable w (said W (with_names (names_of bs) (all_said W c (terms_of bs)) c) t (length e)) e P st)
    (λ vs keep. l.at e (with_names (names_of bs) vs b) (with_names (names_of bs) (all_said W c (terms_of bs)) c) a (agree_with (names_of bs) keep g) P st) in
    let there : HaveBound S b bs Q ↔ SaidHas w (said W (with_names (names_of bs) (all_said W c (terms_of bs)) c) t (length e)) e P =
    subst (λ (X : Type 0). X ↔ SaidHas w (said W (with_names (names_of bs) (all_said W c (terms_of bs)) c) t (length e)) e P) (sym (bound_all S b bs Q)) all in
    subst (λ ss'. HaveBound S b bs Q ↔ SaidHas w (said W (with_names (names_of bs) ss' c) t (length e)) e P) (sym (bindings_all W c bs)) there

quantified_law : (w : Meaning) (S : Symbols) (W : Writer) (all : Bool) (xs : List (List ℕ)) (t : PlacedTerm) → Law w S W t
    → (e : List ℤ) (b : Values) (c : Replacements) → SymbolsAgree w e S W → Agree w e b c → (P : Value → Type 0)
    → HasTruth (Ranges all xs (λ d. Has S d t IsTruth) b) P ↔ HasTruth (Truth w (bound_said all xs (λ d m. formula_in (said W d t m)) c (length e)) e) P
quantified_law w S W all xs t l e b c a g P =
    truths_alike _ _ P (ranges_are w all xs e b c (λ d. Has S d t IsTruth) (λ d m. formula_in (said W d t m)) (record {
      at = λ e' x b' c' g'.
          let has = l.at e' b' c' (symbols_on w e e' S W x a) g' IsTruth truth_is_stable in
          let is = truth_said w (said W c' t (length e')) e' in
          (λ h. is.0 (has.0 h), λ h. has.1 (is.1 h));
    }) g)

mutual
  pub law : (w : Meaning) (S : Symbols) → SymbolsStable S → (W : Writer) (t : PlacedTerm) → Law w S W t
  law w S ss W (number _ n) = record { at = λ e b c a g P st. (λ h. h, λ h. h) }
  law w S ss W (large _) = record { at = λ e b c a g P st. junk_law w e P }
  law w S ss W (used at x ts) = record { at = used_law w S ss W at x.text (operator_of x.text) ts (laws w S ss W ts) }
  law w S ss W (let_in _ bs t) = record { at = let_law w S ss W bs t (bound_laws w S ss W bs) (law w S ss W t) }
  law w S ss W (quantified _ all xs t) = record { at = λ e b c a g P st. quantified_law w S W all (texts_of xs) t (law w S ss W t) e b c a g P }
  law w S ss W (annotated _ t) = record { at = (law w S ss W t).at }
  law w S ss W (ill _) = record { at = λ e b c a g P st. junk_law w e P }

  laws : (w : Meaning) (S : Symbols) → SymbolsStable S → (W : Writer) (ts : PlacedTerms) → Laws w S W ts
  laws w S ss W no_phrase = no_law
  laws w S ss W (and_phrase t ts) = and_law (law w S ss W t) (laws w S ss W ts)

  bound_laws : (w : Meaning) (S : Symbols) → SymbolsStable S → (W : Writer) (bs : Bindings) → Laws w S W (terms_of bs)
  bound_laws w S ss W no_binding = no_law
  bound_laws w S ss W (and_binding x t bs) = and_law (law w S ss W t) (bound_laws w S ss W bs)
