-- What the value of a term cannot fail to have, it has.
use Rattle.std.proofs.Common.{ℕ, ℤ, Bool, true, false, List, length, nat_eq, [], ◌∷◌, Option, Some, None}
use Rattle.std.specs.Bool.{MatchBool}
use Rattle.form_typed.specs.Truth.{Meaning}
use Rattle.base_texts.specs.Texts.{is_text}
use Rattle.smt_terms.specs.declared.operator.Operator.{Operator}
use Rattle.smt_terms.specs.Term.{PlacedTerm, PlacedTerms, Bindings, number, large, used, let_in, quantified, annotated, ill, no_phrase, and_phrase, no_binding, and_binding}
use Rattle.smt_terms.specs.Operators.{Value, integer, truth, applied, found, operator_of}
use Rattle.smt_terms.specs.Evaluation.{Values, Symbols, UseHas, Has, HaveAll, HaveBound, names_of, with_names, Meant, constant_of, function_of, predicate_of, defined_by, Globals, MeantHas, SymbolHas}
use Rattle.smt_terms.proofs.Values.{Stable}

-- a property of lists that they have where they cannot fail to have it
pub record ListStable (Q : List Value → Type 0) : Type 0 where
  pub at : (vs : List Value) → ¬ (¬ (Q vs)) → Q vs

-- what the value of a symbol cannot fail to have, it has
pub record SymbolsStable (S : Symbols) : Type 1 where
  pub at : (x : List ℕ) (P : Value → Type 0) → Stable P → (vs : List Value) → ¬ (¬ (S x vs P)) → S x vs P

pub use_stable : (S : Symbols) → SymbolsStable S → (f : Option Value) (o : Option Operator) (x : List ℕ) (P : Value → Type 0) → Stable P → ListStable (λ vs. UseHas S f o x vs P)
use_stable S s (Some v) o x P st = record { at = λ vs. st.at v }
use_stable S s None (Some o) x P st = record { at = λ vs. st.at (applied o vs) }
use_stable S s None None x P st = record { at = λ vs. s.at x P st vs }

mutual
  pub has_stable : (S : Symbols) → SymbolsStable S → (b : Values) (t : PlacedTerm) (P : Value → Type 0) → Stable P → ¬ (¬ (Has S b t P)) → Has S b t P
  has_stable S s b (number _ n) P st h = st.at (integer n) h
  has_stable S s b (large _) P st h = st.at (truth false) h
  has_stable S s b (used _ x ts) P st h = all_stable S s b ts _ (use_stable S s (found x.text b) (operator_of x.text) x.text P st) h
  has_stable S s b (let_in _ bs t) P st h =
      bound_stable S s b bs _ (record { at = λ vs. has_stable S s (with_names (names_of bs) vs b) t P st }) h
  has_stable S s b (quantified _ all xs t) P st h = (λ a. st.at (truth true) (λ n. h (λ k. n (k.0 a))), λ a. st.at (truth false) (λ n. h (λ k. n (k.1 a))))
  has_stable S s b (annotated _ t) P st h = has_stable S s b t P st h
  has_stable S s b (ill _) P st h = st.at (truth false) h

  pub all_stable : (S : Symbols) → SymbolsStable S → (b : Values) (ts : PlacedTerms) (Q : List Value → Type 0) → ListStable Q → ¬ (¬ (HaveAll S b ts Q)) → HaveAll S b ts Q
  all_stable S s b no_phrase Q st h = st.at [] h
  all_stable S s b (and_phrase t ts) Q st h =
      has_stable S s b t (λ v. HaveAll S b ts (λ vs. Q (v ∷ vs))) (record { at = λ v. all_stable S s b ts (λ vs. Q (v ∷ vs)) (record { at = λ vs. st.at (v ∷ vs) }) }) h

  bound_stable : (S : Symbols) → SymbolsStable S → (b : Values) (bs : Bindings) (Q : List Value → Type 0) → ListStable Q → ¬ (¬ (HaveBound S b bs Q)) → HaveBound S b bs Q
  bound_stable S s b no_binding Q st h = st.at [] h
  bound_stable S s b (and_binding x t bs) Q st h =
      has_stable S s b t (λ v. HaveBound S b bs (λ vs. Q (v ∷ vs))) (record { at = λ v. bound_stable S s b bs (λ vs. Q (v ∷ vs)) (record { at = λ vs. st.at (v ∷ vs) }) }) h

-- the symbols of a script
meant_stable : (w : Meaning) (u : List ℤ) (S : Symbols) → SymbolsStable S → (m : Meant) (P : Value → Type 0) → Stable P → (vs : List Value) → ¬ (¬ (MeantHas w u S m vs P)) → MeantHas w u S m vs P
meant_stable w u S s (constant_of k) P st vs h = st.at _ h
meant_stable w u S s (function_of k) P st vs h = st.at _ h
meant_stable w u S s (predicate_of k) P st vs h = st.at _ h
meant_stable w u S s (defined_by xs t) P st vs h = by (nat_eq (length vs) (length xs)) h
  where
    by : (b : Bool) → ¬ (¬ (MatchBool b (Has S (with_names xs vs []) t P) (P (truth false)))) → MatchBool b (Has S (with_names xs vs []) t P) (P (truth false))
    by true k = has_stable S s (with_names xs vs []) t P st k
    by false k = st.at (truth false) k

pub symbols_stable : (w : Meaning) (u : List ℤ) (gs : Globals) → SymbolsStable (SymbolHas w u gs)
symbols_stable w u [] = record { at = λ x P st vs h. st.at (truth false) h }
symbols_stable w u (g ∷ gs) = record { at = λ x. by x (is_text x g.0) (symbols_stable w u gs) }
  where
    by : (x : List ℕ) (t : Bool) → SymbolsStable (SymbolHas w u gs) → (P : Value → Type 0) → Stable P → (vs : List Value)
        → ¬ (¬ (MatchBool t (MeantHas w u (SymbolHas w u gs) g.1 vs P) (SymbolHas w u gs x vs P))) → MatchBool t (MeantHas w u (SymbolHas w u gs) g.1 vs P) (SymbolHas w u gs x vs P)
    by x true s P st vs h = meant_stable w u (SymbolHas w u gs) s g.1 P st vs h
    by x false s P st vs h = s.at x P st vs h
