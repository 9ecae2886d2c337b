-- Where a predicate is true: the rows in turn.
use Rattle.std.proofs.Common.{◌≡◌, ℕ, zero, suc, ◌+◌, ◌-◌, ◌<◌, ◌≤◌, ℤ, pos, Bool, true, false, ◌&&◌, cond, List, [], ◌∷◌, ◌++◌, length, drop, get_or, Option, Some, None, Result, Ok, refl, sym, ap, ◌∙◌, subst, arith}
use Rattle.std.specs.Borrow.{Bor}
use Rattle.std.specs.List.{slice_get}
use Rattle.std.specs.Option.{option_copied}
use Rattle.linear_term.specs.Linear.{Linear}
use Rattle.base_budget.proofs.Charging.{drop-item, drop_all}
use Rattle.form_typed.specs.Truth.{Meaning}
use Rattle.formula.specs.Form.{Form, FormTruth, conjunction, disjunction, no_form, and_form, is_pure, values_of}
use Rattle.formula.specs.Duals.{dual}
use Rattle.formula.specs.Made.{Made}
use Rattle.formula.specs.Tree.{form}
use Rattle.formula.specs.declared.calculus.Core.{Core}
use Rattle.formula.proofs.Duals.{dual_is}
use Rattle.formula.proofs.Sameness.{pure_dual}
use Rattle.formula.proofs.Stability.{form_stable}
use Rattle.model_table.specs.declared.model.TruthEntry.{TruthEntry}
use Rattle.model_table.specs.declared.model.PredicateModel.{PredicateModel}
use Rattle.model_table.specs.Models.{is_at, truth_in, truth_at}
use Rattle.model_table.proofs.Rows.{at_decided}
use Rattle.model_formulas.specs.Expansions.{Tells, Same}
use Rattle.model_formulas.specs.Rows.{FirstTruth, IsFirst}
use Rattle.model_formulas.proofs.Told.{tells_iff}
use Rattle.model_formulas.proofs.Members.{pure_two}
use Rattle.model_formulas.proofs.Chosen.{made_value}

-- the negation
pub negated : (w : Meaning) (g h : Core) (e : List ℤ) → Made form (dual (form g)) (Ok h) → is_pure (form g) ≡ true → (FormTruth w (form h) e → ¬ (FormTruth w (form g) e)) × ((¬ (FormTruth w (form g) e)) → FormTruth w (form h) e)
negated w g h e made pure =
    let is : form h ≡ (dual (form g)).value = made_value form (dual (form g)) h made in
    let d = dual_is w (form g) e pure in
    ((λ t. d.0 (subst (λ f. FormTruth w f e) is t)), (λ t. subst (λ f. FormTruth w f e) (sym is) (d.1 t)))

pub first_true : (when g h : Core) (row : Bool) → row ≡ true → ((n : ℕ) → Same n (disjunction (and_form (form when) (and_form (form g) no_form))) (form h)) → IsFirst (form when) row (form g) (form h)
first_true when g h row is same = subst (λ b. IsFirst (form when) b (form g) (form h)) (sym is) (record {
  pure = λ p q. (same 0).pure (pure_two (is_pure (form when)) (is_pure (form g)) p q);
  there = λ w e p t n. form_stable w (form g) e (λ m. (same (length e)).there w e refl t (n, (m, tt)));
  back = λ w e p t. (same (length e)).back w e refl (λ none. none.1.0 (t none.0));
})

pub first_false : (when other g h : Core) (row : Bool) → row ≡ false → Made form (dual (form when)) (Ok other) → ((n : ℕ) → Same n (conjunction (and_form (form other) (and_form (form g) no_form))) (form h))
    → IsFirst (form when) row (form g) (form h)
first_false when other g h row is made same = subst (λ b. IsFirst (form when) b (form g) (form h)) (sym is) (record {
  pure = λ p q. (same 0).pure (pure_two (is_pure (form other)) (is_pure (form g)) (ap is_pure (made_value form (dual (form when)) other made) ∙ pure_dual (form when) ∙ p) q);
  there = λ w e p t. let k = (same (length e)).there w e refl t in ((negated w when other e made p).0 k.0, k.1.0);
  back = λ w e p t. (same (length e)).back w e refl ((negated w when other e made p).1 t.0, (t.1, tt));
})

pub ruleset first = (first_true, first_false)

-- ---- rows, from the last one on
test_true : (b : Bool) → ¬ (b ≡ false) → b ≡ true
test_true b h = grind arith

test_false : (b : Bool) → ¬ (b ≡ true) → b ≡ false
test_false b h = grind arith

truth_first : (row : TruthEntry) (rows : List TruthEntry) (d : Bool) (xs : List ℤ) → FirstTruth row.truth (xs ≡ row.at) (truth_in rows d xs ≡ true) → truth_in (row ∷ rows) d xs ≡ true
truth_first row rows d xs h = by (is_at row.at xs) refl row.truth refl h
  where
    by : (b : Bool) → is_at row.at xs ≡ b → (c : Bool) → row.truth ≡ c → FirstTruth c (xs ≡ row.at) (truth_in rows d xs ≡ true) → cond b row.truth (truth_in rows d xs) ≡ true
    by true is true row_is h = row_is
    by true is false row_is h = absurd (h.0 (sym ((at_decided row.at xs).0 is)))
    by false is true row_is h = h (λ same. let z : true ≡ false = sym ((at_decided row.at xs).1 (sym same)) ∙ is in cc)
    by false is false row_is h = h.1

first_truth : (row : TruthEntry) (rows : List TruthEntry) (d : Bool) (xs : List ℤ) → truth_in (row ∷ rows) d xs ≡ true → FirstTruth row.truth (xs ≡ row.at) (truth_in rows d xs ≡ true)
first_truth row rows d xs h = by (is_at row.at xs) refl row.truth refl h
  where
    by : (b : Bool) → is_at row.at xs ≡ b → (c : Bool) → row.truth ≡ c → cond b row.truth (truth_in rows d xs) ≡ true → FirstTruth c (xs ≡ row.at) (truth_in rows d xs ≡ true)
    by true is true row_is h = λ other. absurd (other (sym ((at_decided row.at xs).0 is)))
    by true is false row_is h = absurd (let z : false ≡ true = sym row_is ∙ h in cc)
    by false is true row_is h = λ other. h
    by false is false row_is h = ((λ same. let z : true ≡ false = sym ((at_decided row.at xs).1 (sym same)) ∙ is in cc), h)

by_parts : (b : Bool) {P Q R S : Type 0} → (R → P) → (Q → S) → (P → R) → FirstTruth b P Q → FirstTruth b R S
by_parts true to on back h = λ n. on (h (λ p. n (back p)))
by_parts false to on back h = ((λ r. h.0 (to r)), on h.1)

-- g says where the rows from i on, and the default, are true
pub record TruthSo (arguments : List Linear) (rows : List TruthEntry) (d : Bool) (i : ℕ) (g : Form) : Type 0 where
  pub tells : Tells g (λ e. truth_in (drop i rows) d (values_of arguments e) ≡ true)

pub rows_begin : (arguments : List Linear) (rows : List TruthEntry) (d : Bool) (i : ℕ) (g : Form) → length rows ≤ i → Tells g (λ e. d ≡ true) → TruthSo arguments rows d i g
rows_begin arguments rows d i g le h = record {
  tells = tells_iff g (λ e. d ≡ true) (λ e. truth_in (drop i rows) d (values_of arguments e) ≡ true)
      (λ e k. ap (λ l. truth_in l d (values_of arguments e)) (drop_all rows i le) ∙ k) (λ e k. sym (ap (λ l. truth_in l d (values_of arguments e)) (drop_all rows i le)) ∙ k) h;
}

pub rows_go : (arguments : List Linear) (rows : List TruthEntry) (d : Bool) (i k : ℕ) (row : TruthEntry) (ys : List ℤ) (when g h : Form) → i < length rows → k ≡ i + 1 → row ≡ get_or rows i row → ys ≡ row.at → Tells when (λ e. values_of arguments e ≡ ys)
    → IsFirst when row.truth g h → TruthSo arguments rows d k g → TruthSo arguments rows d i h
rows_go arguments rows d i k row ys when g h lt next is at told_ys first_is so_k =
    let told : Tells when (λ e. values_of arguments e ≡ row.at) = subst (λ l. Tells when (λ e. values_of arguments e ≡ l)) at told_ys in
    let so : TruthSo arguments rows d (i + 1) g = subst (λ j. TruthSo arguments rows d j g) next so_k in
    let here = drop-item rows i row lt is in
    record {
      tells = record {
        pure = first_is.pure told.pure so.tells.pure;
        there = λ w e t.
            ap (λ l. truth_in l d (values_of arguments e)) here ∙ truth_first row (drop (i + 1) rows) d (values_of arguments e)
            (by_parts row.truth (told.back w e) (so.tells.there w e) (told.there w e) (first_is.there w e told.pure t));
        back = λ w e t.
            first_is.back w e told.pure
            (by_parts row.truth (told.there w e) (so.tells.back w e) (told.back w e)
            (first_truth row (drop (i + 1) rows) d (values_of arguments e) (sym (ap (λ l. truth_in l d (values_of arguments e)) here) ∙ t)));
      };
    }

pub rows_end : (arguments : List Linear) (rows : List TruthEntry) (d : Bool) (g : Form) → TruthSo arguments rows d 0 g → Tells g (λ e. truth_in rows d (values_of arguments e) ≡ true)
rows_end arguments rows d g so = so.tells

pub ruleset turning = (rows_begin, rows_end)

-- ---- a predicate by its number
truth_found : (ts : List PredicateModel) (p : ℕ) (t : PredicateModel) (xs : List ℤ) → slice_get ts p ≡ Some t → truth_at ts p xs ≡ truth_in t.rows t.default xs
truth_found [] p t xs h = absurd (cc)
truth_found (u ∷ ts) zero t xs h = let same : u ≡ t = cc in ap (λ z. truth_in z.rows z.default xs) same
truth_found (u ∷ ts) (suc p) t xs h = truth_found ts p t xs h

truth_missing : (ts : List PredicateModel) (p : ℕ) (xs : List ℤ) → slice_get ts p ≡ None → truth_at ts p xs ≡ false
truth_missing [] p xs h = refl
truth_missing (u ∷ ts) zero xs h = absurd (cc)
truth_missing (u ∷ ts) (suc p) xs h = truth_missing ts p xs h

told_truth : (g : Form) (a : Bool) (V : List ℤ → Bool) → ((e : List ℤ) → V e ≡ a) → Tells g (λ e. a ≡ true) → Tells g (λ e. V e ≡ true)
told_truth g a V same h = tells_iff g (λ e. a ≡ true) (λ e. V e ≡ true) (λ e k. same e ∙ k) (λ e k. sym (same e) ∙ k) h

pub holds_missing : (g : Form) (ts ms : List PredicateModel) (p : ℕ) (o : Option (Bor PredicateModel)) (arguments : List Linear) → ms ≡ ts → option_copied o ≡ slice_get ms p → o ≡ None → Tells g (λ e. false ≡ true)
    → Tells g (λ e. truth_at ts p (values_of arguments e) ≡ true)
holds_missing g ts ms p o arguments same is at h = told_truth g false (λ e. truth_at ts p (values_of arguments e)) (λ e. truth_missing ts p (values_of arguments e) (ap (λ l. slice_get l p) (sym same) ∙ sym is ∙ ap option_copied at)) h

pub holds_known : (g : Form) (ts ms : List PredicateModel) (p : ℕ) (o : Option (Bor PredicateModel)) (t : Bor PredicateModel) (arguments : List Linear) (xs zs : List ℤ) (b : Bool) → ms ≡ ts → option_copied o ≡ slice_get ms p → o ≡ Some t
    → ((e : List ℤ) → values_of arguments e ≡ xs) → zs ≡ xs → b ≡ truth_in t.now.rows t.now.default zs → Tells g (λ e. b ≡ true) → Tells g (λ e. truth_at ts p (values_of arguments e) ≡ true)
holds_known g ts ms p o t arguments xs zs b same is at values same_xs value h =
    told_truth g b (λ e. truth_at ts p (values_of arguments e))
    (λ e. truth_found ts p t.now (values_of arguments e) (ap (λ l. slice_get l p) (sym same) ∙ sym is ∙ ap option_copied at) ∙ ap (truth_in t.now.rows t.now.default) (values e ∙ sym same_xs) ∙ sym value) h

pub holds_rows : (g : Form) (ts ms : List PredicateModel) (p : ℕ) (o : Option (Bor PredicateModel)) (t : Bor PredicateModel) (arguments : List Linear) → ms ≡ ts → option_copied o ≡ slice_get ms p → o ≡ Some t
    → Tells g (λ e. truth_in t.now.rows t.now.default (values_of arguments e) ≡ true) → Tells g (λ e. truth_at ts p (values_of arguments e) ≡ true)
holds_rows g ts ms p o t arguments same is at h =
    tells_iff g (λ e. truth_in t.now.rows t.now.default (values_of arguments e) ≡ true) (λ e. truth_at ts p (values_of arguments e) ≡ true)
    (λ e k. truth_found ts p t.now (values_of arguments e) (ap (λ l. slice_get l p) (sym same) ∙ sym is ∙ ap option_copied at) ∙ k) (λ e k. sym (truth_found ts p t.now (values_of arguments e) (ap (λ l. slice_get l p) (sym same) ∙ sym is ∙ ap option_copied at)) ∙ k) h

pub ruleset holding = (holds_missing, holds_known, holds_rows)
