-- The values of a function at terms.
use Rattle.std.proofs.Common.{◌≡◌, ℕ, zero, suc, ◌+◌, ◌<◌, ◌≤◌, ℤ, pos, Bool, true, false, cond, List, [], ◌∷◌, ◌++◌, length, drop, take, get_or, Option, Some, None, Result, Ok, Err, IfOk, refl, sym, ap, ◌∙◌, subst, arith, to_z-of_z}
use Rattle.std.specs.Borrow.{Bor}
use Rattle.std.specs.List.{AllByRecursion, slice_get}
use Rattle.std.specs.Option.{option_copied}
use Rattle.linear_term.specs.Linear.{Linear, value_of}
use Rattle.linear_term.specs.declared.range.TermFault.{TermFault}
use Rattle.base_budget.proofs.Charging.{drop-item, drop_all, worked_value}
use Rattle.base_budget.specs.Trace.{Traced}
use Rattle.form_typed.specs.Truth.{Meaning}
use Rattle.formula.specs.Form.{Form, FormTruth, AreFormsTrue, AreFormsFalse, conjunction, disjunction, no_form, and_form, is_pure, are_pure, values_of}
use Rattle.formula.specs.Duals.{dual}
use Rattle.formula.specs.Made.{Made}
use Rattle.formula.specs.Tree.{form, forms_of}
use Rattle.formula.specs.declared.calculus.Core.{Core}
use Rattle.formula.proofs.Duals.{dual_is}
use Rattle.formula.proofs.Sameness.{pure_dual}
use Rattle.formula.proofs.Stability.{form_stable}
use Rattle.model_table.specs.declared.model.ValueEntry.{ValueEntry}
use Rattle.model_table.specs.declared.model.FunctionModel.{FunctionModel}
use Rattle.model_table.specs.Models.{is_at, value_in, value_at}
use Rattle.model_table.proofs.Rows.{at_decided}
use Rattle.model_formulas.specs.declared.choosing.Guard.{Guard}
use Rattle.model_formulas.specs.Expansions.{Tells, Same}
use Rattle.model_formulas.specs.Choices.{AreChoices, is_met, IsGuard}
use Rattle.model_formulas.proofs.Members.{true_append, true_parts, false_append, false_parts, falses_stable, pure_append, pure_one, pure_two}

-- ---- one value
pub single_is : (g : Guard) (out : List Guard) (v : ℤ) → Tells (form g.when) (λ e. true ≡ true) → g.value ≡ v → out ≡ g ∷ [] → AreChoices out (λ e. v)
single_is g out v told value is = subst (λ l. AreChoices l (λ e. v)) (sym is) (record {
  pure = (told.pure, tt);
  only = λ w e. ((λ h. value), tt);
  some = λ w e none. none.0 (told.back w e refl);
})

pub ruleset singles = (single_is)

-- ---- one row
test_false : (b : Bool) → ¬ (b ≡ true) → b ≡ false
test_false b h = grind arith

pub guard_never : (arguments : List Linear) (before : List ValueEntry) (xs : List ℤ) (g : Form) → Tells g (λ e. values_of arguments e ≡ xs) → g ≡ disjunction no_form → IsGuard arguments before xs None
guard_never arguments before xs g told bad = λ e h. absurd (subst (λ f. FormTruth any f e) bad (told.back any e h) tt)
  where
    any : Meaning
    any = record { truth = λ p ys. false; value = λ f ys. pos 0 }

pub guard_met : (arguments : List Linear) (before : List ValueEntry) (xs : List ℤ) (b : Bool) → b ≡ is_met before xs → b ≡ true → IsGuard arguments before xs None
guard_met arguments before xs b is met = λ e h. sym is ∙ met

pub guard_some : (arguments : List Linear) (before : List ValueEntry) (xs : List ℤ) (when : Core) (b : Bool) → Tells (form when) (λ e. values_of arguments e ≡ xs) → b ≡ is_met before xs → b ≡ false → IsGuard arguments before xs (Some when)
guard_some arguments before xs when b told is met = (told, sym is ∙ met)

pub ruleset guarding = (guard_never, guard_met, guard_some)

-- ---- rows, one more each time
at_true : (xs ys : List ℤ) → is_at xs ys ≡ true → xs ≡ ys
at_true xs ys h = (at_decided xs ys).0 h

met_before : (rows : List ValueEntry) (row : ValueEntry) (xs : List ℤ) → is_met (rows ++ row ∷ []) xs ≡ false → (is_met rows xs ≡ false) × (is_at row.at xs ≡ false)
met_before [] row xs h = (refl, by (is_at row.at xs) h)
  where
    by : (b : Bool) → cond b true false ≡ false → b ≡ false
    by true h = absurd (let z : true ≡ false = h in cc)
    by false h = refl
met_before (r ∷ rows) row xs h = by (is_at r.at xs) h (met_before rows row xs)
  where
    by : (b : Bool) → cond b true (is_met (rows ++ row ∷ []) xs) ≡ false → (is_met (rows ++ row ∷ []) xs ≡ false → (is_met rows xs ≡ false) × (is_at row.at xs ≡ false)) → (cond b true (is_met rows xs) ≡ false) × (is_at row.at xs ≡ false)
    by true h later = absurd (let z : true ≡ false = h in cc)
    by false h later = later h

met_after : (rows : List ValueEntry) (row : ValueEntry) (xs : List ℤ) → is_met rows xs ≡ false → is_at row.at xs ≡ false → is_met (rows ++ row ∷ []) xs ≡ false
met_after [] row xs h k = ap (λ b. cond b true false) k
met_after (r ∷ rows) row xs h k = by (is_at r.at xs) h (λ m. met_after rows row xs m k)
  where
    by : (b : Bool) → cond b true (is_met rows xs) ≡ false → (is_met rows xs ≡ false → is_met (rows ++ row ∷ []) xs ≡ false) → cond b true (is_met (rows ++ row ∷ []) xs) ≡ false
    by true h later = h
    by false h later = later h

-- with the rows before done: the guards so far, the formulas apart from them, and what the rows left say
pub record GuardsSo (arguments : List Linear) (all done rest : List ValueEntry) (d : ℤ) (out : List Guard) (apart : List Core) : Type 0 where
  pub pure : AllByRecursion (λ g. is_pure (form g.when) ≡ true) out
  pub apart_pure : are_pure (forms_of apart) ≡ true
  pub there : (w : Meaning) (e : List ℤ) → AreFormsTrue w (forms_of apart) e → is_met done (values_of arguments e) ≡ false
  pub back : (w : Meaning) (e : List ℤ) → is_met done (values_of arguments e) ≡ false → AreFormsTrue w (forms_of apart) e
  pub only : (w : Meaning) (e : List ℤ) → AllByRecursion (λ g. FormTruth w (form g.when) e → g.value ≡ value_in all d (values_of arguments e)) out
  pub some : (w : Meaning) (e : List ℤ) → is_met done (values_of arguments e) ≡ true → ¬ (AllByRecursion (λ g. ¬ (FormTruth w (form g.when) e)) out)
  pub left : (e : List ℤ) → is_met done (values_of arguments e) ≡ false → value_in all d (values_of arguments e) ≡ value_in rest d (values_of arguments e)

pub guards_begin : (arguments : List Linear) (rows : List ValueEntry) (d : ℤ) (out : List Guard) (apart : List Core) → out ≡ [] → apart ≡ [] → GuardsSo arguments rows (take 0 rows) (drop 0 rows) d out apart
guards_begin arguments rows d out apart none no_one =
    subst (λ l. GuardsSo arguments rows [] rows d l apart) (sym none) (subst (λ l. GuardsSo arguments rows [] rows d [] l) (sym no_one) (record {
      pure = tt;
      apart_pure = refl;
      there = λ w e h. refl;
      back = λ w e h. tt;
      only = λ w e. tt;
      some = λ w e h. absurd (let z : false ≡ true = h in cc);
      left = λ e h. refl;
    }))

passed : (row : ValueEntry) (rows : List ValueEntry) (d : ℤ) (xs : List ℤ) → is_at row.at xs ≡ false → value_in (row ∷ rows) d xs ≡ value_in rows d xs
passed row rows d xs h = ap (λ b. cond b row.value (value_in rows d xs)) h

taken : (row : ValueEntry) (rows : List ValueEntry) (d : ℤ) (xs : List ℤ) → is_at row.at xs ≡ true → value_in (row ∷ rows) d xs ≡ row.value
taken row rows d xs h = ap (λ b. cond b row.value (value_in rows d xs)) h

by_test : {A : Type 0} (b : Bool) → (b ≡ true → A) → (b ≡ false → A) → A
by_test true h k = h refl
by_test false h k = k refl

-- a row that no place asks for is passed
pass_row : (arguments : List Linear) (all done rest : List ValueEntry) (row : ValueEntry) (d : ℤ) (out : List Guard) (apart : List Core) → IsGuard arguments done row.at None → GuardsSo arguments all done (row ∷ rest) d out apart
    → GuardsSo arguments all (done ++ row ∷ []) rest d out apart
pass_row arguments all done rest row d out apart never h = record {
  pure = h.pure;
  apart_pure = h.apart_pure;
  there = λ w e t. let no_one = h.there w e t in met_after done row (values_of arguments e) no_one (other e no_one);
  back = λ w e m. h.back w e (met_before done row (values_of arguments e) m).0;
  only = h.only;
  some = λ w e m. by_test (is_met done (values_of arguments e)) (λ yes_met. h.some w e yes_met)
      (λ no_met. absurd (let z : true ≡ false = sym m ∙ met_after done row (values_of arguments e) no_met (other e no_met) in cc));
  left = λ e m. let p = met_before done row (values_of arguments e) m in h.left e p.0 ∙ passed row rest d (values_of arguments e) p.1;
}
  where
    other : (e : List ℤ) → is_met done (values_of arguments e) ≡ false → is_at row.at (values_of arguments e) ≡ false
    other e no_one = test_false (is_at row.at (values_of arguments e))
        (λ t. let same : row.at ≡ values_of arguments e = at_true row.at (values_of arguments e) t in
        let z : true ≡ false = sym (never e (sym same)) ∙ ap (is_met done) same ∙ no_one in cc)

all_more : (P : Guard → Type 0) (gs : List Guard) (g : Guard) → AllByRecursion P gs → P g → AllByRecursion P (gs ++ g ∷ [])
all_more P [] g h k = (k, tt)
all_more P (x ∷ gs) g h k = (h.0, all_more P gs g h.1 k)

all_fewer : (P : Guard → Type 0) (gs : List Guard) (g : Guard) → AllByRecursion P (gs ++ g ∷ []) → AllByRecursion P gs × P g
all_fewer P [] g h = (tt, h.0)
all_fewer P (x ∷ gs) g h = let r = all_fewer P gs g h.1 in ((h.0, r.0), r.1)

-- a row for places of its own
add_row : (arguments : List Linear) (all done rest : List ValueEntry) (row : ValueEntry) (d : ℤ) (out : List Guard) (apart more : List Core) (g : Guard) (other : Core) → IsGuard arguments done row.at (Some g.when) → g.value ≡ row.value
    → form other ≡ (dual (form g.when)).value → ((n : ℕ) → Same n (conjunction (forms_of (apart ++ other ∷ []))) (conjunction (forms_of more)))
    → GuardsSo arguments all done (row ∷ rest) d out apart → GuardsSo arguments all (done ++ row ∷ []) rest d (out ++ g ∷ []) more
add_row arguments all done rest row d out apart more g other here value turned same h = record {
  pure = all_more (λ x. is_pure (form x.when) ≡ true) out g h.pure here.0.pure;
  apart_pure = (same 0).pure (pure_append apart (other ∷ []) h.apart_pure (pure_one other (ap is_pure turned ∙ pure_dual (form g.when) ∙ here.0.pure)));
  there = λ w e t.
      let p = true_parts w apart (other ∷ []) e ((same (length e)).there w e refl t) in
      met_after done row (at e) (h.there w e p.0) (test_false (is_at row.at (at e)) (λ k. (unlike w e).0 p.1.0 (here.0.back w e (sym (at_true row.at (at e) k)))));
  back = λ w e m.
      let p = met_before done row (at e) m in
      (same (length e)).back w e refl (true_append w apart (other ∷ []) e (h.back w e p.0)
      ((unlike w e).1 (λ t. let z : true ≡ false = sym ((at_decided row.at (at e)).1 (sym (here.0.there w e t))) ∙ p.1 in cc), tt));
  only = λ w e. all_more (λ x. FormTruth w (form x.when) e → x.value ≡ value_in all d (at e)) out g (h.only w e)
      (λ t. let same_at : at e ≡ row.at = here.0.there w e t in
      value ∙ sym (h.left e (ap (is_met done) same_at ∙ here.1) ∙ taken row rest d (at e) ((at_decided row.at (at e)).1 (sym same_at))));
  some = λ w e m none.
      let p = all_fewer (λ x. ¬ (FormTruth w (form x.when) e)) out g none in
      by_test (is_met done (at e)) (λ yes_met. h.some w e yes_met p.0)
      (λ no_met. by_test (is_at row.at (at e)) (λ k. p.1 (here.0.back w e (sym (at_true row.at (at e) k))))
      (λ k. let z : true ≡ false = sym m ∙ met_after done row (at e) no_met k in cc));
  left = λ e m. let p = met_before done row (at e) m in h.left e p.0 ∙ passed row rest d (at e) p.1;
}
  where
    at : List ℤ → List ℤ
    at e = values_of arguments e

    unlike : (w : Meaning) (e : List ℤ) → (FormTruth w (form other) e → ¬ (FormTruth w (form g.when) e)) × ((¬ (FormTruth w (form g.when) e)) → FormTruth w (form other) e)
    unlike w e =
        let d = dual_is w (form g.when) e here.0.pure in
        ((λ t. d.0 (subst (λ f. FormTruth w f e) turned t)), (λ t. subst (λ f. FormTruth w f e) (sym turned) (d.1 t)))

-- what is made of a formula without faults
pub made_value : {A B : Type 0} (v : A → B) (m : Traced B) (x : A) → Made v m (Ok x) → v x ≡ m.value
made_value v m x h = worked_value h.works

take-item : (xs : List ValueEntry) (i : ℕ) (x : ValueEntry) → i < length xs → x ≡ get_or xs i x → take (i + 1) xs ≡ take i xs ++ x ∷ []
take-item xs i x lt is = subst (λ j. take j xs ≡ take i xs ++ x ∷ []) one (go xs i lt is)
  where
    one : suc i ≡ i + 1
    one = omega arith

    go : (xs : List ValueEntry) (i : ℕ) → i < length xs → x ≡ get_or xs i x → take (suc i) xs ≡ take i xs ++ x ∷ []
    go [] i lt is = absurd (omega (arith, lt))
    go (y ∷ xs) zero lt is = ap (λ z. z ∷ []) (sym is)
    go (y ∷ xs) (suc i) lt is = ap (λ l. y ∷ l) (go xs i (omega (arith, lt)) is)

pub guards_pass : (arguments : List Linear) (rows : List ValueEntry) (i : ℕ) (row : ValueEntry) (xs : List ℤ) (o : Option Core) (d : ℤ) (out : List Guard) (apart : List Core) → i < length rows → row ≡ get_or rows i row → xs ≡ row.at
    → IsGuard arguments (take i rows) xs o → o ≡ None → GuardsSo arguments rows (take i rows) (drop i rows) d out apart → GuardsSo arguments rows (take (i + 1) rows) (drop (i + 1) rows) d out apart
guards_pass arguments rows i row xs o d out apart lt is at never none h =
    subst (λ l. GuardsSo arguments rows l (drop (i + 1) rows) d out apart) (sym (take-item rows i row lt is))
    (pass_row arguments rows (take i rows) (drop (i + 1) rows) row d out apart (subst (λ l. IsGuard arguments (take i rows) l None) at (subst (IsGuard arguments (take i rows) xs) none never))
    (subst (λ l. GuardsSo arguments rows (take i rows) l d out apart) (drop-item rows i row lt is) h))

pub guards_add : (arguments : List Linear) (rows : List ValueEntry) (i : ℕ) (row : ValueEntry) (xs : List ℤ) (o : Option Core) (d : ℤ) (out longer : List Guard) (apart more : List Core) (g : Guard) (other : Core) → i < length rows → row ≡ get_or rows i row → xs ≡ row.at
    → IsGuard arguments (take i rows) xs o → o ≡ Some g.when → g.value ≡ row.value → Made form (dual (form g.when)) (Ok other) → ((n : ℕ) → Same n (conjunction (forms_of (apart ++ other ∷ []))) (conjunction (forms_of more)))
    → longer ≡ out ++ g ∷ [] → GuardsSo arguments rows (take i rows) (drop i rows) d out apart → GuardsSo arguments rows (take (i + 1) rows) (drop (i + 1) rows) d longer more
guards_add arguments rows i row xs o d out longer apart more g other lt is at here some_is value made grown more_is h =
    subst (λ l. GuardsSo arguments rows (take (i + 1) rows) (drop (i + 1) rows) d l more) (sym more_is)
    (subst (λ l. GuardsSo arguments rows l (drop (i + 1) rows) d (out ++ g ∷ []) more) (sym (take-item rows i row lt is))
    (add_row arguments rows (take i rows) (drop (i + 1) rows) row d out apart more g other (subst (λ l. IsGuard arguments (take i rows) l (Some g.when)) at (subst (IsGuard arguments (take i rows) xs) some_is here)) value (made_value form (dual (form g.when)) other made) grown
    (subst (λ l. GuardsSo arguments rows (take i rows) l d out apart) (drop-item rows i row lt is) h)))

-- at the end: the default, apart from all rows
pub guards_end : (arguments : List Linear) (rows : List ValueEntry) (i : ℕ) (d : ℤ) (out longer : List Guard) (apart : List Core) (g : Guard) → length rows ≤ i → ((n : ℕ) → Same n (conjunction (forms_of apart)) (form g.when)) → g.value ≡ d
    → longer ≡ out ++ g ∷ [] → GuardsSo arguments rows (take i rows) (drop i rows) d out apart → AreChoices longer (λ e. value_in rows d (values_of arguments e))
guards_end arguments rows i d out longer apart g le same value is h = subst (λ l. AreChoices l (λ e. value_in rows d (values_of arguments e))) (sym is) (record {
  pure = all_more (λ x. is_pure (form x.when) ≡ true) out g h.pure ((same 0).pure h.apart_pure);
  only = λ w e. all_more (λ x. FormTruth w (form x.when) e → x.value ≡ value_in rows d (values_of arguments e)) out g (h.only w e)
      (λ t. value ∙ sym (h.left e (h.there w e ((same (length e)).there w e refl t)) ∙ ap (λ l. value_in l d (values_of arguments e)) (drop_all rows i le)));
  some = λ w e none.
      let p = all_fewer (λ x. ¬ (FormTruth w (form x.when) e)) out g none in
      by_test (is_met (take i rows) (values_of arguments e)) (λ met. h.some w e met p.0) (λ met. p.1 ((same (length e)).back w e refl (h.back w e met)));
})

pub ruleset listing = (guards_begin)

-- ---- a function by its number
value_found : (ts : List FunctionModel) (f : ℕ) (t : FunctionModel) (xs : List ℤ) → slice_get ts f ≡ Some t → value_at ts f xs ≡ value_in t.rows t.default xs
value_found [] f t xs h = absurd (cc)
value_found (u ∷ ts) zero t xs h = let same : u ≡ t = cc in ap (λ z. value_in z.rows z.default xs) same
value_found (u ∷ ts) (suc f) t xs h = value_found ts f t xs h

value_missing : (ts : List FunctionModel) (f : ℕ) (xs : List ℤ) → slice_get ts f ≡ None → value_at ts f xs ≡ pos 0
value_missing [] f xs h = refl
value_missing (u ∷ ts) zero xs h = absurd (cc)
value_missing (u ∷ ts) (suc f) xs h = value_missing ts f xs h

pub choices_as : (gs : List Guard) (V W : List ℤ → ℤ) → ((e : List ℤ) → V e ≡ W e) → AreChoices gs V → AreChoices gs W
choices_as gs V W same h = record {
  pure = h.pure;
  only = λ w e. each gs w e (h.only w e);
  some = h.some;
}
  where
    each : (gs : List Guard) (w : Meaning) (e : List ℤ) → AllByRecursion (λ g. FormTruth w (form g.when) e → g.value ≡ V e) gs → AllByRecursion (λ g. FormTruth w (form g.when) e → g.value ≡ W e) gs
    each [] w e k = tt
    each (g ∷ gs) w e k = ((λ t. k.0 t ∙ same e), each gs w e k.1)

pub choices_missing : (gs : List Guard) (ts ms : List FunctionModel) (f : ℕ) (o : Option (Bor FunctionModel)) (arguments : List Linear) → ms ≡ ts → option_copied o ≡ slice_get ms f → o ≡ None → AreChoices gs (λ e. pos 0)
    → AreChoices gs (λ e. value_at ts f (values_of arguments e))
choices_missing gs ts ms f o arguments same is at h =
    choices_as gs (λ e. pos 0) (λ e. value_at ts f (values_of arguments e)) (λ e. sym (value_missing ts f (values_of arguments e) (ap (λ l. slice_get l f) (sym same) ∙ sym is ∙ ap option_copied at))) h

pub choices_known : (gs : List Guard) (ts ms : List FunctionModel) (f : ℕ) (o : Option (Bor FunctionModel)) (t : Bor FunctionModel) (arguments : List Linear) (xs zs : List ℤ) (v : ℤ) → ms ≡ ts → option_copied o ≡ slice_get ms f → o ≡ Some t
    → ((e : List ℤ) → values_of arguments e ≡ xs) → zs ≡ xs → v ≡ value_in t.now.rows t.now.default zs → AreChoices gs (λ e. v) → AreChoices gs (λ e. value_at ts f (values_of arguments e))
choices_known gs ts ms f o t arguments xs zs v same is at values same_xs value h =
    choices_as gs (λ e. v) (λ e. value_at ts f (values_of arguments e))
    (λ e. sym (value_found ts f t.now (values_of arguments e) (ap (λ l. slice_get l f) (sym same) ∙ sym is ∙ ap option_copied at) ∙ ap (value_in t.now.rows t.now.default) (values e ∙ sym same_xs) ∙ sym value)) h

pub choices_rows : (gs : List Guard) (ts ms : List FunctionModel) (f : ℕ) (o : Option (Bor FunctionModel)) (t : Bor FunctionModel) (arguments : List Linear) → ms ≡ ts → option_copied o ≡ slice_get ms f → o ≡ Some t
    → AreChoices gs (λ e. value_in t.now.rows t.now.default (values_of arguments e)) → AreChoices gs (λ e. value_at ts f (values_of arguments e))
choices_rows gs ts ms f o t arguments same is at h =
    choices_as gs (λ e. value_in t.now.rows t.now.default (values_of arguments e)) (λ e. value_at ts f (values_of arguments e))
    (λ e. sym (value_found ts f t.now (values_of arguments e) (ap (λ l. slice_get l f) (sym same) ∙ sym is ∙ ap option_copied at))) h

pub ruleset choosing = (choices_missing, choices_known, choices_rows, to_z-of_z)

-- ---- cases
-- some guard is true, and T holds of its value (the stable form)
pub record CasesSo (w : Meaning) (n : ℕ) (T : List ℤ → ℤ → Type 0) (all rest : List Guard) (out : List Core) : Type 0 where
  pub pure : are_pure (forms_of out) ≡ true
  pub there : (e : List ℤ) → length e ≡ n → AllByRecursion (λ g. ¬ (FormTruth w (form g.when) e × T e g.value)) all → AreFormsFalse w (forms_of out) e × AllByRecursion (λ g. ¬ (FormTruth w (form g.when) e × T e g.value)) rest
  pub back : (e : List ℤ) → length e ≡ n → AreFormsFalse w (forms_of out) e → AllByRecursion (λ g. ¬ (FormTruth w (form g.when) e × T e g.value)) rest → AllByRecursion (λ g. ¬ (FormTruth w (form g.when) e × T e g.value)) all

pub cases_begin : (w : Meaning) (n : ℕ) (T : List ℤ → ℤ → Type 0) (gs : List Guard) (out : List Core) → out ≡ [] → CasesSo w n T gs (drop 0 gs) out
cases_begin w n T gs out none = subst (CasesSo w n T gs gs) (sym none) (record { pure = refl; there = λ e l h. (tt, h); back = λ e l h k. k })

-- r says T of the value v
pub record SaysCase (w : Meaning) (n : ℕ) (T : List ℤ → ℤ → Type 0) (v : ℤ) (r : Form) : Type 0 where
  pub pure : is_pure r ≡ true
  pub there : (e : List ℤ) → length e ≡ n → FormTruth w r e → T e v
  pub back : (e : List ℤ) → length e ≡ n → T e v → FormTruth w r e

case_goes : (w : Meaning) (n : ℕ) (T : List ℤ → ℤ → Type 0) (all rest : List Guard) (g : Guard) (out more : List Core) (r h : Core) → is_pure (form g.when) ≡ true → SaysCase w n T g.value (form r)
    → Same n (conjunction (and_form (form g.when) (and_form (form r) no_form))) (form h) → Same n (disjunction (forms_of (out ++ h ∷ []))) (disjunction (forms_of more))
    → CasesSo w n T all (g ∷ rest) out → CasesSo w n T all rest more
case_goes w n T all rest g out more r h pure_g said both_is grown so = record {
  pure = grown.pure (pure_append out (h ∷ []) so.pure (pure_one h (both_is.pure (pure_two (is_pure (form g.when)) (is_pure (form r)) pure_g said.pure))));
  there = λ e l none.
      let p = so.there e l none in
      (falses_stable w (forms_of more) e (λ k. grown_there e l k (false_append w out (h ∷ []) e p.0 ((λ t. let b = both_is.there w e l t in p.1.0 (b.0, said.there e l b.1.0)), tt))), p.1.1);
  back = λ e l none later.
      let q = false_parts w out (h ∷ []) e (falses_stable w (forms_of (out ++ h ∷ [])) e (λ k. grown.back w e l k none)) in
      so.back e l q.0 ((λ t. q.1.0 (both_is.back w e l (t.0, (said.back e l t.1, tt)))), later);
}
  where
    grown_there : (e : List ℤ) → length e ≡ n → ¬ (AreFormsFalse w (forms_of more) e) → ¬ (AreFormsFalse w (forms_of (out ++ h ∷ [])) e)
    grown_there e l k = grown.there w e l k

pub cases_go : (w : Meaning) (n : ℕ) (T : List ℤ → ℤ → Type 0) (gs : List Guard) (i : ℕ) (g : Guard) (out more : List Core) (r h : Core) → i < length gs → g ≡ get_or gs i g → AllByRecursion (λ x. is_pure (form x.when) ≡ true) gs
    → SaysCase w n T g.value (form r) → Same n (conjunction (and_form (form g.when) (and_form (form r) no_form))) (form h) → Same n (disjunction (forms_of (out ++ h ∷ []))) (disjunction (forms_of more))
    → CasesSo w n T gs (drop i gs) out → CasesSo w n T gs (drop (i + 1) gs) more
cases_go w n T gs i g out more r h lt is pure_all said both_is grown so =
    case_goes w n T gs (drop (i + 1) gs) g out more r h (pure_at gs i lt is pure_all) said both_is grown (subst (λ l. CasesSo w n T gs l out) (drop-item gs i g lt is) so)
  where
    pure_at : (xs : List Guard) (i : ℕ) → i < length xs → g ≡ get_or xs i g → AllByRecursion (λ x. is_pure (form x.when) ≡ true) xs → is_pure (form g.when) ≡ true
    pure_at [] i lt is h = absurd (omega (arith, lt))
    pure_at (x ∷ xs) zero lt is h = ap (λ z. is_pure (form z.when)) is ∙ h.0
    pure_at (x ∷ xs) (suc i) lt is h = pure_at xs i (omega (arith, lt)) is h.1

-- at the end: T holds of the value
pub cases_end : (w : Meaning) (n : ℕ) (T : List ℤ → ℤ → Type 0) (V : List ℤ → ℤ) (gs : List Guard) (i : ℕ) (out : List Core) (g : Form) → length gs ≤ i → AreChoices gs V → ((e : List ℤ) → ¬ (¬ (T e (V e))) → T e (V e))
    → Same n (disjunction (forms_of out)) g → CasesSo w n T gs (drop i gs) out → SaysCase w n (λ e v. T e (V e)) (pos 0) g
cases_end w n T V gs i out g le chosen stable same so = record {
  pure = same.pure so.pure;
  there = λ e l t. stable e (λ bad. same.there w e l t (so.there e l (no_case gs e bad (chosen.only w e))).0);
  back = λ e l t. form_stable w g e (λ bad. chosen.some w e (unchosen gs e t (chosen.only w e) (so.back e l (falses_stable w (forms_of out) e (λ k. bad (same.back w e l k))) (subst (AllByRecursion (λ x. ¬ (FormTruth w (form x.when) e × T e x.value))) (sym (drop_all gs i le)) tt))));
}
  where
    no_case : (gs : List Guard) (e : List ℤ) → ¬ (T e (V e)) → AllByRecursion (λ x. FormTruth w (form x.when) e → x.value ≡ V e) gs → AllByRecursion (λ x. ¬ (FormTruth w (form x.when) e × T e x.value)) gs
    no_case [] e bad h = tt
    no_case (x ∷ gs) e bad h = ((λ t. bad (subst (T e) (h.0 t.0) t.1)), no_case gs e bad h.1)

    unchosen : (gs : List Guard) (e : List ℤ) → T e (V e) → AllByRecursion (λ x. FormTruth w (form x.when) e → x.value ≡ V e) gs → AllByRecursion (λ x. ¬ (FormTruth w (form x.when) e × T e x.value)) gs → AllByRecursion (λ x. ¬ (FormTruth w (form x.when) e)) gs
    unchosen [] e t h k = tt
    unchosen (x ∷ gs) e t h k = ((λ on. k.0 (on, subst (T e) (sym (h.0 on)) t)), unchosen gs e t h.1 k.1)

-- ---- another value than that of a term
pub differs_said : (w : Meaning) (n : ℕ) (same other : Core) (u : Linear) (v : ℤ) → Made form (dual (form same)) (Ok other) → Tells (form same) (λ e. value_of u e ≡ v) → SaysCase w n (λ e x. ¬ (x ≡ value_of u e)) v (form other)
differs_said w n same other u v made told =
    let is : form other ≡ (dual (form same)).value = made_value form (dual (form same)) other made in
    record {
      pure = ap is_pure is ∙ pure_dual (form same) ∙ told.pure;
      there = λ e l t eq. (dual_is w (form same) e told.pure).0 (subst (λ f. FormTruth w f e) is t) (told.back w e (sym eq));
      back = λ e l k. subst (λ f. FormTruth w f e) (sym is) ((dual_is w (form same) e told.pure).1 (λ t. k (sym (told.there w e t))));
    }

pub differing_ends : (V : List ℤ → ℤ) (gs : List Guard) (i : ℕ) (out : List Core) (g : Form) (u : Linear) → length gs ≤ i → AreChoices gs V → ((n : ℕ) → Same n (disjunction (forms_of out)) g)
    → ((w : Meaning) (n : ℕ) → CasesSo w n (λ e v. ¬ (v ≡ value_of u e)) gs (drop i gs) out) → Tells g (λ e. ¬ (V e ≡ value_of u e))
differing_ends V gs i out g u le chosen same so = record {
  pure = (same 0).pure (so any 0).pure;
  there = λ w e t. (ended w (length e)).there e refl t;
  back = λ w e k. (ended w (length e)).back e refl k;
}
  where
    any : Meaning
    any = record { truth = λ p xs. false; value = λ f xs. pos 0 }

    ended : (w : Meaning) (n : ℕ) → SaysCase w n (λ e v. ¬ (V e ≡ value_of u e)) (pos 0) g
    ended w n = cases_end w n (λ e v. ¬ (v ≡ value_of u e)) V gs i out g le chosen (λ e bad k. bad (λ z. z k)) (same n) (so w n)

-- a result that has P has what follows
pub if_ok : {A E : Type 0} (r : Result A E) (P Q : A → Type 0) → ((x : A) → P x → Q x) → IfOk r P → IfOk r Q
if_ok (Ok x) P Q f h = f x h
if_ok (Err e) P Q f h = tt
