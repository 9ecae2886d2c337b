-- The symbols of a script mean what they become, and so do its terms.
use Rattle.std.proofs.Common.{nat_eq, ◌≡◌, ◌↔◌, ℕ, ℤ, Bool, true, false, List, [], ◌∷◌, length, map, refl, sym, ap, subst, if◌then◌else◌}
use Rattle.std.specs.Bool.{MatchBool}
use Rattle.base_integers.specs.Entry.{entry}
use Rattle.form_typed.specs.Formula as logic
use Rattle.form_typed.specs.Formula.{Expression, expressions}
use Rattle.form_typed.specs.Truth.{Meaning, Truth, HasValue, HaveValues}
use Rattle.form_typed.proofs.Values.{values_more, values_clash}
use Rattle.base_texts.specs.Texts.{is_text}
use Rattle.smt_terms.specs.Term.{PlacedTerm}
use Rattle.smt_terms.specs.Operators.{Value, integer, truth, as_integer}
use Rattle.smt_terms.specs.Evaluation.{Symbols, IsTruth, Has, with_names, Meant, constant_of, function_of, predicate_of, defined_by, Globals, MeantHas, SymbolHas, IsTrue}
use Rattle.smt_terms.specs.Translation.{a_formula, a_term, term_in, Standing, Writer, at_depth, said, meant_said, symbol_said, asserted}
use Rattle.smt_terms.specs.Meaning.{SignedFact, IsValue, SaidHas, IsConstantBelow, AreConstantsBelow}
use Rattle.smt_terms.proofs.Values.{Stable, is_stable, truth_is_stable, has_property, value_from, truth_said, one_said, some_said}
use Rattle.smt_terms.proofs.Stability.{SymbolsStable, symbols_stable}
use Rattle.smt_terms.proofs.Rules.{AreNumbers, numbers_in, values_are}
use Rattle.smt_terms.proofs.Agreement.{Extends, AllKeep, kept_lengths, kept_values, no_name, agree_with, entry_kept}
use Rattle.smt_terms.proofs.Meaning.{exactly, SymbolsAgree, symbols_on, law, junk_law}

call_is : (w : Meaning) (e : List ℤ) (k : ℕ) (ts : List Expression) (vs : List ℤ) → AreNumbers w e ts vs → HasValue w (logic.call k (expressions ts)) e (λ x. x ≡ w.value k vs)
call_is w e k ts vs h = values_more w (expressions ts) e (λ xs. xs ≡ vs) (λ xs. w.value k xs ≡ w.value k vs) (λ xs p. ap (w.value k) p) (values_are h)

signed_list : (w : Meaning) (e : List ℤ) (ts : List Expression) (vs : List ℤ) (R : List ℤ → Type 0) (c : Bool) → SignedFact c (R vs) → AreNumbers w e ts vs → SignedFact c (HaveValues w (expressions ts) e R)
signed_list w e ts vs R true r h = values_more w (expressions ts) e (λ xs. xs ≡ vs) R (λ xs p. subst R (sym p) r) (values_are h)
signed_list w e ts vs R false r h = λ k. values_clash w (expressions ts) e (λ xs. xs ≡ vs) R (λ xs p z. r (subst R p z)) (values_are h) k

test_signed : (b : Bool) → SignedFact b (b ≡ true)
test_signed true = refl
test_signed false = λ p. cc

predicate_is : (w : Meaning) (e : List ℤ) (k : ℕ) (ts : List Expression) (vs : List ℤ) → AreNumbers w e ts vs → SignedFact (w.truth k vs) (Truth w (logic.applies k (expressions ts)) e)
predicate_is w e k ts vs h = signed_list w e ts vs (λ xs. w.truth k xs ≡ true) (w.truth k vs) (test_signed (w.truth k vs)) h

-- a symbol that is declared or defined so
meant_is : (w : Meaning) (u : List ℤ) (S : Symbols) (W : Writer) → SymbolsStable S → SymbolsAgree w u S W → (m : Meant) → IsConstantBelow (length u) m
    → (e : List ℤ) → Extends u e → (ss : List Standing) (vs : List Value) → AllKeep w e ss vs → (P : Value → Type 0) → Stable P
    → MeantHas w u S m vs P ↔ SaidHas w (meant_said W m ss (length e)) e P
meant_is w u S W s a (constant_of k) lt e x ss vs keep P st = exactly w (a_term (logic.name k)) e (integer (entry u k)) P st (entry_kept u e k x lt)
meant_is w u S W s a (function_of k) lt e x ss vs keep P st =
    exactly w (a_term (logic.call k (expressions (map term_in (at_depth (length e) ss))))) e (integer (w.value k (map as_integer vs))) P st
    (call_is w e k (map term_in (at_depth (length e) ss)) (map as_integer vs) (numbers_in (kept_values keep)))
meant_is w u S W s a (predicate_of k) lt e x ss vs keep P st =
    exactly w (a_formula (logic.applies k (expressions (map term_in (at_depth (length e) ss))))) e (truth (w.truth k (map as_integer vs))) P st
    (predicate_is w e k (map term_in (at_depth (length e) ss)) (map as_integer vs) (numbers_in (kept_values keep)))
meant_is w u S W s a (defined_by xs t) lt e x ss vs keep P st =
    subst (λ k. MatchBool (nat_eq k (length xs)) (Has S (with_names xs vs []) t P) (P (truth false)) ↔ SaidHas w (meant_said W (defined_by xs t) ss (length e)) e P)
    (sym (kept_lengths keep)) (by (nat_eq (length ss) (length xs)))
  where
    by : (b : Bool) → MatchBool b (Has S (with_names xs vs []) t P) (P (truth false))
        ↔ SaidHas w (if b then said W (with_names xs ss []) t (length e) else a_formula (logic.constant false)) e P
    by true = (law w S s W t).at e (with_names xs vs []) (with_names xs ss []) (symbols_on w u e S W x a) (agree_with xs keep no_name) P st
    by false = junk_law w e P

pub symbols_agree : (w : Meaning) (u : List ℤ) (gs : Globals) → AreConstantsBelow (length u) gs → SymbolsAgree w u (SymbolHas w u gs) (symbol_said gs)
symbols_agree w u [] lt = record { at = λ e x name ss vs keep P st. junk_law w e P }
symbols_agree w u (g ∷ gs) lt = record { at = λ e x name ss vs keep P st. by e x name ss vs keep P st (is_text name g.0) (symbols_agree w u gs lt.1) }
  where
    by : (e : List ℤ) → Extends u e → (name : List ℕ) (ss : List Standing) (vs : List Value) → AllKeep w e ss vs → (P : Value → Type 0) → Stable P → (t : Bool)
        → SymbolsAgree w u (SymbolHas w u gs) (symbol_said gs)
        → MatchBool t (MeantHas w u (SymbolHas w u gs) g.1 vs P) (SymbolHas w u gs name vs P)
        ↔ SaidHas w (if t then meant_said (symbol_said gs) g.1 ss (length e) else symbol_said gs name ss (length e)) e P
    by e x name ss vs keep P st true a = meant_is w u (SymbolHas w u gs) (symbol_said gs) (symbols_stable w u gs) a g.1 lt.0 e x ss vs keep P st
    by e x name ss vs keep P st false a = a.at e x name ss vs keep P st

-- the law of the terms of a script
script_law : (w : Meaning) (u : List ℤ) (gs : Globals) (t : PlacedTerm) → AreConstantsBelow (length u) gs → (P : Value → Type 0) → Stable P
    → Has (SymbolHas w u gs) [] t P ↔ SaidHas w (said (symbol_said gs) [] t (length u)) u P
script_law w u gs t lt P st = (law w (SymbolHas w u gs) (symbols_stable w u gs) (symbol_said gs) t).at u [] [] (symbols_agree w u gs lt) no_name P st

pub value_law : (w : Meaning) (u : List ℤ) (gs : Globals) (t : PlacedTerm) (v : Value) → AreConstantsBelow (length u) gs
    → Has (SymbolHas w u gs) [] t (λ x. x ≡ v) ↔ IsValue w (said (symbol_said gs) [] t (length u)) u v
value_law w u gs t v lt =
    let is = script_law w u gs t lt (λ x. x ≡ v) (is_stable v) in
    (λ h. value_from w (said (symbol_said gs) [] t (length u)) u v (is.0 h), λ h. is.1 (has_property w (said (symbol_said gs) [] t (length u)) u v (λ x. x ≡ v) h refl))

pub truth_law : (w : Meaning) (u : List ℤ) (gs : Globals) (t : PlacedTerm) → AreConstantsBelow (length u) gs → Truth w (asserted gs (length u) t) u ↔ IsTrue w u gs t
truth_law w u gs t lt =
    let is = script_law w u gs t lt IsTruth truth_is_stable in
    let said_is = truth_said w (said (symbol_said gs) [] t (length u)) u in
    (λ h. is.1 (said_is.1 h), λ h. said_is.0 (is.0 h))

-- A term has one value.

pub one_value : (w : Meaning) (u : List ℤ) (gs : Globals) (t : PlacedTerm) (v x : Value) → AreConstantsBelow (length u) gs
    → Has (SymbolHas w u gs) [] t (λ y. y ≡ v) → Has (SymbolHas w u gs) [] t (λ y. y ≡ x) → v ≡ x
one_value w u gs t v x lt h k =
    one_said w (said (symbol_said gs) [] t (length u)) u v x ((value_law w u gs t v lt).0 h) ((value_law w u gs t x lt).0 k)

pub some_value : (w : Meaning) (u : List ℤ) (gs : Globals) (t : PlacedTerm) → AreConstantsBelow (length u) gs → ¬ ((v : Value) → ¬ (Has (SymbolHas w u gs) [] t (λ x. x ≡ v)))
some_value w u gs t lt h = some_said w (said (symbol_said gs) [] t (length u)) u (λ v is. h v ((value_law w u gs t v lt).1 is))
