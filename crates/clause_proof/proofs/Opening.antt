-- Opened closures: the clauses of a formula and its members.
use Rattle.std.proofs.Common.{◌≡◌, ℕ, zero, suc, ◌≤◌, ℤ, pos, true, false, List, [], ◌∷◌, ◌++◌, length, map, Some, refl, sym, ap, ◌∙◌, subst, arith}
use Rattle.std.specs.List.{AllByRecursion, slice_get}
use Rattle.std.proofs.lemmas.List.{map-append}
use Rattle.linear_term.specs.Linear.{Linear, value_of, name, IsOver}
use Rattle.linear_term.proofs.Totals.{value_of-name}
use Rattle.form_typed.specs.Truth.{Meaning}
use Rattle.formula.specs.Form.{Form, FormTruth, Forms, equal, unequal, at_least, holds, fails, differs, conjunction, disjunction, universal, existential, no_form, and_form, AreFormsTrue, AreFormsFalse, values_of}
use Rattle.formula.proofs.Stability.{form_stable}
use Rattle.formula.proofs.Extending.{Extends, extends_more, entry_last, over_name, over_more}
use Rattle.sequent.proofs.Members.{all_append, all_same}
use Rattle.clause_proof.specs.declared.line.Literal.{Literal}
use Rattle.clause_proof.specs.Clauses.{Definition, closure, DefinitionTruth, State, LiteralTruth, AreLiteralsFalse, ClauseTruth, IsDefinitionOver, IsFormedState}
use Rattle.clause_proof.specs.Atoms.{Signed, literal_of}
use Rattle.clause_proof.specs.Lines.{positive, negative, opposite, some_false, each_false, members, opened, adding}
use Rattle.clause_proof.proofs.Canonical.{Same, same_all, IsSigned, IsSignedOver, literal_means, literal_over}
use Rattle.clause_proof.proofs.Keeping.{all_of, all_kept, Grows, Stands, AreStanding, definition_same, found_so, opposite_is, Keeps, Adds, adds_all, adds_plain}

-- what the falsity of an older variable's literal says
pub old_false : (w : Meaning) (e : List ℤ) (cs ds : List Definition) (i : ℕ) (d : Definition) → Grows cs ds → slice_get cs i ≡ Some d → ¬ (LiteralTruth w e ds (positive i)) → ¬ (DefinitionTruth w e d)
old_false w e cs ds i d g is h t = h (found_so w e true ds i d (g.still i d is) t)

pub old_true : (w : Meaning) (e : List ℤ) (cs ds : List Definition) (i : ℕ) (d : Definition) → Grows cs ds → slice_get cs i ≡ Some d → ¬ (LiteralTruth w e ds (negative i)) → ¬ (¬ (DefinitionTruth w e d))
old_true w e cs ds i d g is h t = h (found_so w e false ds i d (g.still i d is) t)

-- variable i is true, or each of these is false, where none is true if i is false
pub each_clause : (w : Meaning) (e : List ℤ) (ds : List Definition) (i : ℕ) (xs : List Signed) (ms : List Literal) → AreStanding ds xs ms
    → (¬ (LiteralTruth w e ds (positive i)) → AllByRecursion (λ x. ¬ (IsSigned w e x)) xs) → AllByRecursion (ClauseTruth w e ds) (each_false i ms)
each_clause w e ds i [] [] st h = tt
each_clause w e ds i [] (m ∷ ms) st h = absurd st
each_clause w e ds i (x ∷ xs) [] st h = absurd st
each_clause w e ds i (x ∷ xs) (m ∷ ms) st h = (
  λ none. none.1.0 ((opposite_is w e ds x m st.0 same_all).back ((h none.0).0)),
  each_clause w e ds i xs ms st.1 (λ n. (h n).1),
)

members_true : (w : Meaning) (e : List ℤ) (ds : List Definition) (fs : Forms) (ts : List Linear) (ms : List Literal) → AreStanding ds (members fs ts) ms → AreLiteralsFalse w e ds (map opposite ms)
    → AreFormsTrue w fs (values_of ts e)
members_true w e ds no_form ts ms st none = tt
members_true w e ds (and_form f fs) ts [] st none = absurd st
members_true w e ds (and_form f fs) ts (m ∷ ms) st none = (
  form_stable w f (values_of ts e) (λ k. none.0 ((opposite_is w e ds (literal_of f ts) m st.0 (literal_means w f ts e)).back k)),
  members_true w e ds fs ts ms st.1 none.1,
)

members_false : (w : Meaning) (e : List ℤ) (fs : Forms) (ts : List Linear) → ¬ (¬ (AreFormsFalse w fs (values_of ts e))) → AllByRecursion (λ x. ¬ (IsSigned w e x)) (members fs ts)
members_false w e no_form ts h = tt
members_false w e (and_form f fs) ts h = (
  λ t. h (λ all. all.0 ((literal_means w f ts e).there t)),
  members_false w e fs ts (λ k. h (λ all. k all.1)),
)

members_over : (n : ℕ) (fs : Forms) (ts : List Linear) → AllByRecursion (IsOver n) ts → AllByRecursion (IsSignedOver n) (members fs ts)
members_over n no_form ts h = tt
members_over n (and_form f fs) ts h = (literal_over n f ts h, members_over n fs ts h)

pub values_more : (ts : List Linear) (t : Linear) (e : List ℤ) → values_of (ts ++ t ∷ []) e ≡ values_of ts e ++ value_of t e ∷ []
values_more ts t e = map-append (λ u. value_of u e) ts (t ∷ [])

pub terms_with : (n : ℕ) (ts : List Linear) (t : Linear) → AllByRecursion (IsOver n) ts → IsOver n t → AllByRecursion (IsOver n) (ts ++ t ∷ [])
terms_with n ts t h k = all_append (IsOver n) ts (t ∷ []) h (k, tt)

-- a for-all: where its body is false at no value of the new constant, it is true
universal_keeps : (w : Meaning) (s : State) (i : ℕ) (ms : List Literal) (f : Form) (ts : List Linear) → IsFormedState s → AllByRecursion (IsOver s.count) ts → slice_get s.definitions i ≡ Some (closure (universal f) ts)
    → Keeps w s (adding (literal_of f (ts ++ name s.count ∷ []) ∷ []) ms (each_false i ms) (suc s.count))
universal_keeps w s i ms f ts formed over is ds g st e len t absent =
    let new = ts ++ name s.count ∷ [] in
    let at : (v : ℤ) → Extends s.count e (suc s.count) (e ++ v ∷ []) = λ v. extends_more s.count e v len in
    let with : (v : ℤ) → (¬ (LiteralTruth w (e ++ v ∷ []) ds (positive i)) → ¬ (IsSigned w (e ++ v ∷ []) (literal_of f new))) → ⊥
    = λ v h. absent (e ++ v ∷ []) (at v) (all_kept w (e ++ v ∷ []) ds (each_false i ms) (each_clause w (e ++ v ∷ []) ds i (literal_of f new ∷ []) ms st (λ n. (h n, tt)))) tt in
    let old : (v : ℤ) → values_of ts (e ++ v ∷ []) ≡ values_of ts e = λ v. values_stay s.count (suc s.count) e (e ++ v ∷ []) ts (at v) over in
    let values : (v : ℤ) → values_of new (e ++ v ∷ []) ≡ values_of ts e ++ v ∷ []
    = λ v. values_more ts (name s.count) (e ++ v ∷ []) ∙ ap (λ vs. vs ++ value_of (name s.count) (e ++ v ∷ []) ∷ []) (old v)
    ∙ ap (λ z. values_of ts e ++ z ∷ []) (value_of-name s.count (e ++ v ∷ []) ∙ entry_last s.count e v len) in
    let always_so : FormTruth w (universal f) (values_of ts e)
    = λ v. form_stable w f (values_of ts e ++ v ∷ []) (λ k. with v (λ n x. k (subst (FormTruth w f) (values v) ((literal_means w f new (e ++ v ∷ [])).there x)))) in
    with (pos 0) (λ n x. old_false w (e ++ pos 0 ∷ []) s.definitions ds i (closure (universal f) ts) g is n
    (subst (FormTruth w (universal f)) (sym (old (pos 0))) always_so))
  where
    values_stay : (n m : ℕ) (e e' : List ℤ) (ts : List Linear) → Extends n e m e' → AllByRecursion (IsOver n) ts → values_of ts e' ≡ values_of ts e
    values_stay n m e e' ts x h = sym (all_of n ts h m e e' x)

pub open_gives : (w : Meaning) (s : State) (i : ℕ) (ms : List Literal) (f : Form) (ts : List Linear) → IsFormedState s → AllByRecursion (IsOver s.count) ts → slice_get s.definitions i ≡ Some (closure f ts)
    → Adds w s (opened s i ms f ts)
open_gives w s i ms (conjunction fs) ts formed over is =
    adds_plain w s (members fs ts) ms (some_false i ms ∷ []) formed (members_over s.count fs ts over)
    (λ ds g st e len t. (λ none. old_false w e s.definitions ds i (closure (conjunction fs) ts) g is none.0 (members_true w e ds fs ts ms st none.1), tt))
open_gives w s i ms (disjunction fs) ts formed over is =
    adds_plain w s (members fs ts) ms (each_false i ms) formed (members_over s.count fs ts over)
    (λ ds g st e len t. each_clause w e ds i (members fs ts) ms st
    (λ n. members_false w e fs ts (old_false w e s.definitions ds i (closure (disjunction fs) ts) g is n)))
open_gives w s i ms (universal f) ts formed over is =
    adds_all w s (adding (literal_of f (ts ++ name s.count ∷ []) ∷ []) ms (each_false i ms) (suc s.count)) formed (omega arith) (
      literal_over (suc s.count) f (ts ++ name s.count ∷ [])
          (terms_with (suc s.count) ts (name s.count) (all_same (IsOver s.count) (IsOver (suc s.count)) ts (λ t k. over_more s.count (suc s.count) t (omega arith) k) over) (over_name (suc s.count) s.count (omega arith))),
      tt,
    )
    tt (universal_keeps w s i ms f ts formed over is)
open_gives w s i ms (existential f) ts formed over is = tt
open_gives w s i ms (equal t) ts formed over is = tt
open_gives w s i ms (unequal t) ts formed over is = tt
open_gives w s i ms (at_least t) ts formed over is = tt
open_gives w s i ms (holds p us) ts formed over is = tt
open_gives w s i ms (fails p us) ts formed over is = tt
open_gives w s i ms (differs p us u) ts formed over is = tt
