-- A formula with a name for an application is true where the formula is, if the name has the value of the application.
use Rattle.std.proofs.Common.{ℕ, suc, ◌≡◌, ◌<◌, ◌↔◌, ◌&&◌, Bool, true, false, cond, nat_eq, nat_lt, List, [], ◌∷◌, ◌++◌, length, append-nil, All, Option, Some, None, refl, sym, ap, subst, ◌∙◌, arith, ℤ, pos, negsuc, ◌+ℤ◌, ◌*ℤ◌}
use Rattle.std.specs.List.{list_all}
use Rattle.std.specs.Ordering.{is_eq}
use Rattle.std.specs.declared.cmp.Ordering.{Ordering}
use Rattle.std.specs.declared.cmp.Ordering.TheVariants.{Less, Equal, Greater}
use Rattle.std.proofs.lemmas.Bool.{and_parts}
use Rattle.std.proofs.lemmas.Bool.Decides.{nat_tests}
use Rattle.std.proofs.lemmas.Int.{ints}
use Rattle.std.proofs.lemmas.List.Elements.{All-nil, All-cons}
use Rattle.base_integers.specs.Entry.{entry}
use Rattle.linear_term.specs.Linear.{Linear, value_of, name, IsOver}
use Rattle.linear_term.specs.Order.{linear_cmp}
use Rattle.linear_term.proofs.Orders.{linear_cmp-equal}
use Rattle.linear_term.proofs.Totals.{value_of-name, by_test}
use Rattle.form_typed.specs.Truth.{Meaning}
use Rattle.formula.specs.Form.{Form, Forms, equal, unequal, at_least, holds, fails, differs, conjunction, disjunction, universal, existential, no_form, and_form, FormTruth, AreFormsTrue, AreFormsFalse, values_of}
use Rattle.formula.specs.Shifts.{shifted}
use Rattle.formula.proofs.Extending.{Extends, extends_more, entry_last, values_extend}
use Rattle.formula.proofs.Shifts.{shifted_is}
use Rattle.formula.proofs.Stability.{form_stable}
use Rattle.form_naming.specs.Naming.{are_over, is_above, same_terms, less_name, either, application, application_in, named, all_named, renamed, reading}

-- ---- what the tests say

over_pairs : (n : ℕ) (ps : List (ℕ × ℤ)) → list_all (λ (p : ℕ × ℤ). nat_lt p.0 n) ps ≡ true → All (λ (p : ℕ × ℤ). p.0 < n) ps
over_pairs n [] h = All-nil (λ (p : ℕ × ℤ). p.0 < n)
over_pairs n (p ∷ ps) h =
    let two = and_parts (nat_lt p.0 n) (list_all (λ (q : ℕ × ℤ). nat_lt q.0 n) ps) h in
    All-cons (λ (q : ℕ × ℤ). q.0 < n) p ps (below p.0 n two.0) (over_pairs n ps two.1)
  where
    below : (x n : ℕ) → nat_lt x n ≡ true → x < n
    below x n h = grind (arith, nat_tests)

pub terms_over : (n : ℕ) (ts : List Linear) → are_over n ts ≡ true → All (IsOver n) ts
terms_over n [] h = All-nil (IsOver n)
terms_over n (t ∷ ts) h =
    let two = and_parts (list_all (λ (p : ℕ × ℤ). nat_lt p.0 n) t.pairs) (are_over n ts) h in
    All-cons (IsOver n) t ts (over_pairs n t.pairs two.0) (terms_over n ts two.1)

equal_is : (o : Ordering) → is_eq o ≡ true → o ≡ Equal
equal_is Less h = absurd (cc)
equal_is Equal h = refl
equal_is Greater h = absurd (cc)

same_are : (ss ts : List Linear) → same_terms ss ts ≡ true → ss ≡ ts
same_are [] [] h = refl
same_are [] (t ∷ ts) h = absurd (cc)
same_are (s ∷ ss) [] h = absurd (cc)
same_are (s ∷ ss) (t ∷ ts) h =
    let two = and_parts (is_eq (linear_cmp s t)) (same_terms ss ts) h in
    λ i. linear_cmp-equal s t (equal_is (linear_cmp s t) two.0) i ∷ same_are ss ts two.1 i

same_number : (p q : ℕ) → nat_eq p q ≡ true → p ≡ q
same_number p q h = grind (arith, nat_tests)

inside : (x y : ℕ × List Linear) → Some x ≡ Some y → x ≡ y
inside x y h = cc

tested : (n f g : ℕ) (ss ts : List Linear) (b : Bool) → are_over n ts ≡ b → cond {A = Option (ℕ × List Linear)} b (Some (g, ts)) None ≡ Some (f, ss) → are_over n ss ≡ true
tested n f g ss ts true is e = subst (λ us. are_over n us ≡ true) (ap (λ (z : ℕ × List Linear). z.1) (inside (g, ts) (f, ss) e)) is
tested n f g ss ts false is e = absurd (cc)

one_of : (n f : ℕ) (ss : List Linear) (o p : Option (ℕ × List Linear)) → either o p ≡ Some (f, ss) → (o ≡ Some (f, ss) → are_over n ss ≡ true) → (p ≡ Some (f, ss) → are_over n ss ≡ true) → are_over n ss ≡ true
one_of n f ss None p e first later = later e
one_of n f ss (Some x) p e first later = first e

mutual
  -- an application that was found has arguments over n
  pub found_over : (n f : ℕ) (ss : List Linear) (g : Form) → application n g ≡ Some (f, ss) → are_over n ss ≡ true
  found_over n f ss (equal t) h = absurd (cc)
  found_over n f ss (unequal t) h = absurd (cc)
  found_over n f ss (at_least t) h = absurd (cc)
  found_over n f ss (holds p ts) h = absurd (cc)
  found_over n f ss (fails p ts) h = absurd (cc)
  found_over n f ss (differs g ts u) h = tested n f g ss ts (are_over n ts) refl h
  found_over n f ss (conjunction fs) h = found_in n f ss fs h
  found_over n f ss (disjunction fs) h = found_in n f ss fs h
  found_over n f ss (universal g) h = found_over n f ss g h
  found_over n f ss (existential g) h = found_over n f ss g h

  found_in : (n f : ℕ) (ss : List Linear) (gs : Forms) → application_in n gs ≡ Some (f, ss) → are_over n ss ≡ true
  found_in n f ss no_form h = absurd (cc)
  found_in n f ss (and_form g gs) h = one_of n f ss (application n g) (application_in n gs) h (found_over n f ss g) (found_in n f ss gs)

-- ---- the name has the value of the application

-- at e, which is longer than n, the name n has the value of f at ss
record Holds (w : Meaning) (n f : ℕ) (ss : List Linear) (e : List ℤ) : Type 0 where
  pub longer : n < length e
  pub value : w.value f (values_of ss e) ≡ entry e n

holds_on : (w : Meaning) (n f : ℕ) (ss : List Linear) (e : List ℤ) (v : ℤ) → All (IsOver n) ss → Holds w n f ss e → Holds w n f ss (e ++ v ∷ [])
holds_on w n f ss e v over h =
    let more = extends_more (length e) e v refl in
    let start : Extends n e (suc (length e)) (e ++ v ∷ []) = record { longer = omega (arith, h.longer); long = more.long; same = λ x lt. more.same x (omega (arith, h.longer)) } in
    record {
      longer = omega (arith, h.longer, more.long);
      value = ap (w.value f) (values_extend n (suc (length e)) e (e ++ v ∷ []) ss start over) ∙ h.value ∙ sym (more.same n h.longer);
    }

less_name_value : (n : ℕ) (t : Linear) (e : List ℤ) → value_of (less_name n t) e ≡ (negsuc 0 *ℤ entry e n) +ℤ value_of t e
unfolding value_of
less_name_value n t e = omega (arith, ints)

differ : (x z a r : ℤ) → r ≡ (negsuc 0 *ℤ z) +ℤ a → x ≡ z → (r ≡ pos 0) ↔ (x ≡ a)
differ x z a r is same = (λ h. omega (arith, ints, is, same, h), λ h. omega (arith, ints, is, same, h))

atom_is : (w : Meaning) (n f : ℕ) (ss : List Linear) (g : ℕ) (ts : List Linear) (u : Linear) (e : List ℤ) → Holds w n f ss e → f ≡ g → ss ≡ ts
    → FormTruth w (unequal (less_name n u)) e ↔ FormTruth w (differs g ts u) e
atom_is w n f ss g ts u e h same_function same =
    let here : w.value g (values_of ts e) ≡ entry e n = sym (λ i. w.value (same_function i) (values_of (same i) e)) ∙ h.value in
    let both = differ (w.value g (values_of ts e)) (entry e n) (value_of u e) _ (less_name_value n u e) here in
    (λ no is. no (both.1 is), λ no is. no (both.0 is))

mutual
  named_is : (w : Meaning) (n f : ℕ) (ss : List Linear) (g : Form) (e : List ℤ) → All (IsOver n) ss → Holds w n f ss e → FormTruth w (named n f ss g) e ↔ FormTruth w g e
  named_is w n f ss (equal t) e o h = (λ x. x, λ x. x)
  named_is w n f ss (unequal t) e o h = (λ x. x, λ x. x)
  named_is w n f ss (at_least t) e o h = (λ x. x, λ x. x)
  named_is w n f ss (holds p ts) e o h = (λ x. x, λ x. x)
  named_is w n f ss (fails p ts) e o h = (λ x. x, λ x. x)
  named_is w n f ss (differs g ts u) e o h =
      by_test (λ z. FormTruth w z e ↔ FormTruth w (differs g ts u) e) (nat_eq f g && (same_terms ss ts && is_above n u)) _ _
      (λ t. let a = and_parts (nat_eq f g) (same_terms ss ts && is_above n u) t in
      let b = and_parts (same_terms ss ts) (is_above n u) a.1 in
      atom_is w n f ss g ts u e h (same_number f g a.0) (same_are ss ts b.0))
      (λ t. (λ x. x, λ x. x))
  named_is w n f ss (conjunction gs) e o h = (all_named_are w n f ss gs e o h).0
  named_is w n f ss (disjunction gs) e o h = let i = (all_named_are w n f ss gs e o h).1 in (λ x k. x (i.1 k), λ x k. x (i.0 k))
  named_is w n f ss (universal g) e o h =
      (λ x v. (named_is w n f ss g (e ++ v ∷ []) o (holds_on w n f ss e v o h)).0 (x v), λ x v. (named_is w n f ss g (e ++ v ∷ []) o (holds_on w n f ss e v o h)).1 (x v))
  named_is w n f ss (existential g) e o h = (
    λ x k. x (λ v t. k v ((named_is w n f ss g (e ++ v ∷ []) o (holds_on w n f ss e v o h)).0 t)),
    λ x k. x (λ v t. k v ((named_is w n f ss g (e ++ v ∷ []) o (holds_on w n f ss e v o h)).1 t)),
  )

  all_named_are : (w : Meaning) (n f : ℕ) (ss : List Linear) (gs : Forms) (e : List ℤ) → All (IsOver n) ss → Holds w n f ss e
      → (AreFormsTrue w (all_named n f ss gs) e ↔ AreFormsTrue w gs e) × (AreFormsFalse w (all_named n f ss gs) e ↔ AreFormsFalse w gs e)
  all_named_are w n f ss no_form e o h = ((λ x. x, λ x. x), (λ x. x, λ x. x))
  all_named_are w n f ss (and_form g gs) e o h =
      let i = named_is w n f ss g e o h in
      let j = all_named_are w n f ss gs e o h in (
        (λ x. (i.0 x.0, j.0.0 x.1), λ x. (i.1 x.0, j.0.1 x.1)),
        (λ x. (λ t. x.0 (i.1 t), j.1.0 x.1), λ x. (λ t. x.0 (i.0 t), j.1.1 x.1)),
      )

-- ---- the reading

by_path : {A B : Type 0} → A ≡ B → A ↔ B
by_path p = (subst (λ X. X) p, subst (λ X. X) (sym p))

-- the formula under the new name, at any value of it
under_name : (w : Meaning) (n : ℕ) (g : Form) (e : List ℤ) (v : ℤ) → length e ≡ n → FormTruth w (shifted n 1 g) (e ++ v ∷ []) ↔ FormTruth w g e
under_name w n g e v len =
    by_path ((λ i. FormTruth w (shifted (sym len i) 1 g) (e ++ v ∷ [])) ∙ shifted_is w e (v ∷ []) [] g ∙ ap (FormTruth w g) (append-nil e))

-- at the value of the application the renamed formula is true where the formula is
renamed_is : (w : Meaning) (n f : ℕ) (ss : List Linear) (g : Form) (e : List ℤ) (v : ℤ) → length e ≡ n → All (IsOver n) ss → w.value f (values_of ss e) ≡ v
    → FormTruth w (renamed n f ss g) (e ++ v ∷ []) ↔ FormTruth w g e
renamed_is w n f ss g e v len over is =
    let more = extends_more n e v len in
    let h : Holds w n f ss (e ++ v ∷ []) = record {
      longer = omega (arith, more.long);
      value = ap (w.value f) (values_extend n (suc n) e (e ++ v ∷ []) ss more over) ∙ is ∙ sym (entry_last n e v len);
    } in
    let a = named_is w n f ss (shifted n 1 g) (e ++ v ∷ []) over h in
    let b = under_name w n g e v len in
    (λ x. b.0 (a.0 x), λ x. a.1 (b.1 x))

pub reading_is : (w : Meaning) (n f : ℕ) (ss : List Linear) (g body : Form) (e : List ℤ) → length e ≡ n → are_over n ss ≡ true
    → ((v : ℤ) → FormTruth w body (e ++ v ∷ []) ↔ FormTruth w (renamed n f ss g) (e ++ v ∷ []))
    → FormTruth w (reading n f ss body) e ↔ FormTruth w g e
reading_is w n f ss g body e len test same =
    let over = terms_over n ss test in (
      λ h.
          let v = w.value f (values_of ss e) in
          let at_v : w.value f (values_of ss (e ++ v ∷ [])) ≡ value_of (name n) (e ++ v ∷ []) = read v len over refl in
          form_stable w g e (λ no. h v ((λ k. k at_v), ((λ b. no ((renamed_is w n f ss g e v len over refl).0 ((same v).0 b))), tt))),
      λ h v none.
          none.0 (λ at_v. none.1.0 ((same v).1 ((renamed_is w n f ss g e v len over (back v len over at_v)).1 h))),
    )
  where
    ahead : (v : ℤ) → length e ≡ n → All (IsOver n) ss → values_of ss (e ++ v ∷ []) ≡ values_of ss e
    ahead v len over = values_extend n (suc n) e (e ++ v ∷ []) ss (extends_more n e v len) over

    last : (v : ℤ) → length e ≡ n → value_of (name n) (e ++ v ∷ []) ≡ v
    last v len = value_of-name n (e ++ v ∷ []) ∙ entry_last n e v len

    read : (v : ℤ) → length e ≡ n → All (IsOver n) ss → w.value f (values_of ss e) ≡ v → w.value f (values_of ss (e ++ v ∷ [])) ≡ value_of (name n) (e ++ v ∷ [])
    read v len over is = ap (w.value f) (ahead v len over) ∙ is ∙ sym (last v len)

    back : (v : ℤ) → length e ≡ n → All (IsOver n) ss → w.value f (values_of ss (e ++ v ∷ [])) ≡ value_of (name n) (e ++ v ∷ []) → w.value f (values_of ss e) ≡ v
    back v len over is = ap (w.value f) (sym (ahead v len over)) ∙ is ∙ last v len
