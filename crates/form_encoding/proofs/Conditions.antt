-- Conditions of several names, and formulas for all values of further ones.
use Rattle.std.proofs.Common.{◌≡◌, ◌↔◌, ℕ, zero, suc, ◌+◌, ◌≤◌, ◌<◌, ℤ, Bool, true, false, cond, ◌&&◌, List, [], ◌∷◌, ◌++◌, length, refl, sym, ap, ◌∙◌, subst, append_assoc, append-nil, arith, length-append}
use Rattle.base_integers.specs.Entry.{entry}
use Rattle.base_integers.proofs.Entries.{entry-append_right}
use Rattle.form_typed.specs.declared.typed.Sort.{Sort}
use Rattle.form_typed.specs.Sorts.{IsValueOf, AreValuesOf}
use Rattle.form_typed.specs.Truth.{Meaning}
use Rattle.base_budget.specs.Trace.{Traced, just, next}
use Rattle.formula.specs.Form.{Form, Forms, FormTruth, AreFormsTrue, IsFormOver, AreFormsOver, is_pure, are_pure, forms}
use Rattle.form_encoding.specs.Encoding.{bounds, limits, restricted, bound_by}
use Rattle.form_encoding.specs.Meaning.{type_at}
use Rattle.form_encoding.specs.Root.{conditions, for_last}
use Rattle.form_encoding.proofs.Arithmetic.{never}
use Rattle.form_encoding.proofs.Cases.{iff_trans}
use Rattle.form_encoding.proofs.Types.{bound_all, bound_over, conditions_before, limits_over, pure-limits, pure-bound}

-- Values of types.

pub values_length : (ss : List Sort) (u : List ℤ) → AreValuesOf ss u → length u ≡ length ss
values_length [] [] h = refl
values_length [] (v ∷ u) h = absurd h
values_length (s ∷ ss) [] h = absurd h
values_length (s ∷ ss) (v ∷ u) h = ap suc (values_length ss u h.1)

-- those of the names from x on that are kept have values of these types
abbrev pub AreKept : (ℕ → Bool) → ℕ → List Sort → List ℤ → Type 0
AreKept kept x [] e = Unit {0}
AreKept kept x (s ∷ ss) e = (kept x ≡ true → IsValueOf s (entry e x)) × AreKept kept (suc x) ss e

-- where all are kept, the integers are values of the types
pub all_kept : (a e : List ℤ) (m : ℕ) (ss : List Sort) → length a ≡ m → length e ≡ length ss → AreKept (λ x. true) m ss (a ++ e) ↔ AreValuesOf ss e
all_kept a [] m [] la le = (λ _. tt, λ _. tt)
all_kept a [] m (s ∷ ss) la le = absurd (omega (arith, le))
all_kept a (v ∷ e) m [] la le = absurd (omega (arith, le))
all_kept a (v ∷ e) m (s ∷ ss) la le =
    let own : entry (a ++ v ∷ e) m ≡ v = subst (λ x. entry (a ++ v ∷ e) x ≡ v) (at_end la) (entry-append_right a (v ∷ e) 0) in
    let rest : AreKept (λ x. true) (suc m) ss (a ++ v ∷ e) ↔ AreValuesOf ss e =
    subst (λ l. AreKept (λ x. true) (suc m) ss l ↔ AreValuesOf ss e) (append_assoc a (v ∷ []) e) (all_kept (a ++ v ∷ []) e (suc m) ss (omega (arith, la, length-append a (v ∷ []))) (omega (arith, le))) in
    (λ h. (subst (IsValueOf s) own (h.0 refl), rest.0 (h.1)), λ h. (λ _. subst (IsValueOf s) (sym own) (h.0), rest.1 (h.1)))
  where
    at_end : length a ≡ m → length a + 0 ≡ m
    at_end h = omega (arith, h)

moved_name : (kept : ℕ → Bool) (s : Sort) (e : List ℤ) (y z : ℕ) → y ≡ z → (kept y ≡ true → IsValueOf s (entry e y)) → kept z ≡ true → IsValueOf s (entry e z)
moved_name kept s e y z is h = subst (λ x. kept x ≡ true → IsValueOf s (entry e x)) is h

pub kept_all : (kept : ℕ → Bool) (m : ℕ) (ss : List Sort) (e : List ℤ)
    → AreKept kept m ss e ↔ ((x : ℕ) → kept (m + x) ≡ true → IsValueOf (type_at ss x) (entry e (m + x)))
kept_all kept m [] e = (λ _ x _. tt, λ _. tt)
kept_all kept m (s ∷ ss) e =
    let rest = kept_all kept (suc m) ss e in
    (λ h. each (h.0) (rest.0 (h.1)), λ h. (moved_name kept s e (m + 0) m (omega arith) (h 0), rest.1 (λ x. moved_name kept (type_at ss x) e (m + suc x) (suc m + x) (omega arith) (h (suc x)))))
  where
    each : (kept m ≡ true → IsValueOf s (entry e m)) → ((x : ℕ) → kept (suc m + x) ≡ true → IsValueOf (type_at ss x) (entry e (suc m + x)))
        → (x : ℕ) → kept (m + x) ≡ true → IsValueOf (type_at (s ∷ ss) x) (entry e (m + x))
    each own others zero = moved_name kept s e m (m + 0) (omega arith) own
    each own others (suc x) = moved_name kept (type_at ss x) e (suc m + x) (m + suc x) (omega arith) (others x)

pub kept_each : (kept : ℕ → Bool) (ss : List Sort) (e : List ℤ) → AreKept kept 0 ss e ↔ ((x : ℕ) → kept x ≡ true → IsValueOf (type_at ss x) (entry e x))
kept_each kept ss e =
    let all = kept_all kept 0 ss e in (
      λ h x. moved_name kept (type_at ss x) e (0 + x) x (omega arith) (all.0 h x),
      λ h. all.1 (λ x. moved_name kept (type_at ss x) e x (0 + x) (omega arith) (h x)),
    )

-- the integers are values of the types exactly where each entry is one of its own type
pub pointwise : (ss : List Sort) (e : List ℤ) → length e ≡ length ss → AreValuesOf ss e ↔ ((x : ℕ) → IsValueOf (type_at ss x) (entry e x))
pointwise ss e l =
    let typed = all_kept [] e 0 ss refl l in
    let each = kept_each (λ x. true) ss e in
    (λ h x. each.0 (typed.1 h) x refl, λ h. typed.0 (each.1 (λ x _. h x)))

-- Truth.

one_condition : (w : Meaning) (b : Bool) (x : ℕ) (s : Sort) (gs : List Form) (e : List ℤ)
    → AreFormsTrue w (forms ((cond b (limits false x (bounds s)) (just [])).value ++ gs)) e ↔ ((b ≡ true → IsValueOf s (entry e x)) × AreFormsTrue w (forms gs) e)
unfolding just
one_condition w true x s gs e =
    let at = conditions_before w x s gs e in
    (λ h. let k = at.0 h in (λ _. k.0, k.1), λ h. at.1 (h.0 refl, h.1))
one_condition w false x s gs e = (λ h. (λ q. never _ q, h), λ h. h.1)

-- the conditions are true exactly where the names have values of the types
pub conditions_are : (w : Meaning) (kept : ℕ → Bool) (x : ℕ) (ss : List Sort) (gs : List Form) (e : List ℤ)
    → AreFormsTrue w (forms ((conditions kept x ss).value ++ gs)) e ↔ (AreKept kept x ss e × AreFormsTrue w (forms gs) e)
unfolding next just
conditions_are w kept x [] gs e = (λ h. (tt, h), λ h. h.1)
conditions_are w kept x (s ∷ ss) gs e =
    let front : List Form = (cond (kept x) (limits false x (bounds s)) (just [])).value in
    let back : List Form = (conditions kept (suc x) ss).value in
    let one = one_condition w (kept x) x s (back ++ gs) e in
    let rest = conditions_are w kept (suc x) ss gs e in
    subst (λ l. AreFormsTrue w (forms l) e ↔ (AreKept kept x (s ∷ ss) e × AreFormsTrue w (forms gs) e)) (sym (append_assoc front back gs)) (
      λ h. let k = one.0 h in let m = rest.0 (k.1) in ((k.0, m.0), m.1),
      λ h. one.1 (h.0.0, rest.1 (h.0.1, h.1)),
    )

pub conditions_true : (w : Meaning) (kept : ℕ → Bool) (x : ℕ) (ss : List Sort) (e : List ℤ) → AreFormsTrue w (forms (conditions kept x ss).value) e ↔ AreKept kept x ss e
conditions_true w kept x ss e =
    let all = subst (λ l. AreFormsTrue w (forms l) e ↔ (AreKept kept x ss e × Unit {0})) (append-nil (conditions kept x ss).value) (conditions_are w kept x ss [] e) in
    (λ h. (all.0 h).0, λ h. all.1 (h, tt))

-- conditions and a formula
pub restricted_is : (w : Meaning) (hs : List Form) (g : Form) (e : List ℤ) → FormTruth w (restricted false hs g) e ↔ AreFormsTrue w (forms (hs ++ g ∷ [])) e
restricted_is w [] g e = (λ h. (h, tt), λ h. h.0)
restricted_is w (h ∷ hs) g e = (λ k. k, λ k. k)

nowhere : (w : Meaning) (g : Form) (e u : List ℤ) → AreValuesOf [] u → FormTruth w g e → FormTruth w g (e ++ u)
nowhere w g e [] t h = subst (FormTruth w g) (sym (append-nil e)) h
nowhere w g e (v ∷ u) t h = absurd t

one_more : (w : Meaning) (s : Sort) (ss : List Sort) (f g : Form) (e : List ℤ) → ((v : ℤ) → FormTruth w g (e ++ v ∷ []) ↔ ((u : List ℤ) → AreValuesOf ss u → FormTruth w f ((e ++ v ∷ []) ++ u)))
    → ((v : ℤ) → IsValueOf s v → FormTruth w g (e ++ v ∷ [])) → (u : List ℤ) → AreValuesOf (s ∷ ss) u → FormTruth w f (e ++ u)
one_more w s ss f g e h all [] t = absurd t
one_more w s ss f g e h all (v ∷ u) t = subst (FormTruth w f) (append_assoc e (v ∷ []) u) ((h v).0 (all v (t.0)) u (t.1))

-- the formula for all values of the last names
pub for_last_is : (w : Meaning) (m : ℕ) (ss : List Sort) (body : Traced Form) (e : List ℤ) → length e ≡ m
    → FormTruth w (for_last m ss body).value e ↔ ((u : List ℤ) → AreValuesOf ss u → FormTruth w body.value (e ++ u))
unfolding next just
for_last_is w m [] body e long = (λ h u t. nowhere w body.value e u t h, λ h. subst (FormTruth w body.value) (append-nil e) (h [] tt))
for_last_is w m (s ∷ ss) body e long =
    let rest = λ (v : ℤ). for_last_is w (suc m) ss body (e ++ v ∷ []) (omega (arith, long, length-append e (v ∷ []))) in
    iff_trans _ _ _ (bound_all w m s (for_last (suc m) ss body).value e long) (
      one_more w s ss body.value (for_last (suc m) ss body).value e rest,
      λ h v t. (rest v).1 (λ u k. subst (FormTruth w body.value) (sym (append_assoc e (v ∷ []) u)) (h (v ∷ u) (t, k))),
    )

-- Names.

one_over : (n : ℕ) (b : Bool) (x : ℕ) (s : Sort) (gs : List Form) → x < n → AreFormsOver n (forms gs) → AreFormsOver n (forms ((cond b (limits false x (bounds s)) (just [])).value ++ gs))
unfolding just
one_over n true x s gs lt h = limits_over n false x (bounds s) gs lt h
one_over n false x s gs lt h = h

pub conditions_over : (n : ℕ) (kept : ℕ → Bool) (x : ℕ) (ss : List Sort) (gs : List Form) → x + length ss ≤ n → AreFormsOver n (forms gs)
    → AreFormsOver n (forms ((conditions kept x ss).value ++ gs))
unfolding next just
conditions_over n kept x [] gs le h = h
conditions_over n kept x (s ∷ ss) gs le h =
    let front : List Form = (cond (kept x) (limits false x (bounds s)) (just [])).value in
    let back : List Form = (conditions kept (suc x) ss).value in
    subst (λ l. AreFormsOver n (forms l)) (sym (append_assoc front back gs)) (one_over n (kept x) x s (back ++ gs) (omega (arith, le)) (conditions_over n kept (suc x) ss gs (omega (arith, le)) h))

pub conditions_alone_over : (n : ℕ) (kept : ℕ → Bool) (x : ℕ) (ss : List Sort) → x + length ss ≤ n → AreFormsOver n (forms (conditions kept x ss).value)
conditions_alone_over n kept x ss le = subst (λ l. AreFormsOver n (forms l)) (append-nil (conditions kept x ss).value) (conditions_over n kept x ss [] le tt)

pub restricted_over : (n : ℕ) (hs : List Form) (g : Form) → AreFormsOver n (forms (hs ++ g ∷ [])) → IsFormOver n (restricted false hs g)
restricted_over n [] g h = h.0
restricted_over n (f ∷ hs) g h = h

pub for_last_over : (m : ℕ) (ss : List Sort) (body : Traced Form) → IsFormOver (m + length ss) body.value → IsFormOver m (for_last m ss body).value
for_last_over m [] body h = subst (λ n. IsFormOver n body.value) (no_more m) h
  where
    no_more : (n : ℕ) → n + 0 ≡ n
    no_more n = omega arith
for_last_over m (s ∷ ss) body h = bound_over m true s (for_last (suc m) ss body) (for_last_over (suc m) ss body (subst (λ n. IsFormOver n body.value) (one_up m (length ss)) h))
  where
    one_up : (n k : ℕ) → n + suc k ≡ suc n + k
    one_up n k = omega arith

-- Applications.

one_pure : (b : Bool) (x : ℕ) (s : Sort) (gs : List Form) → are_pure (forms ((cond b (limits false x (bounds s)) (just [])).value ++ gs)) ≡ are_pure (forms gs)
unfolding just
one_pure true x s gs = pure-limits false x (bounds s) gs
one_pure false x s gs = refl

pub conditions_pure : (kept : ℕ → Bool) (x : ℕ) (ss : List Sort) (gs : List Form) → are_pure (forms ((conditions kept x ss).value ++ gs)) ≡ are_pure (forms gs)
unfolding next just
conditions_pure kept x [] gs = refl
conditions_pure kept x (s ∷ ss) gs =
    let front : List Form = (cond (kept x) (limits false x (bounds s)) (just [])).value in
    let back : List Form = (conditions kept (suc x) ss).value in
    ap (λ l. are_pure (forms l)) (append_assoc front back gs) ∙ one_pure (kept x) x s (back ++ gs) ∙ conditions_pure kept (suc x) ss gs

pub conditions_true_pure : (kept : ℕ → Bool) (x : ℕ) (ss : List Sort) → are_pure (forms (conditions kept x ss).value) ≡ true
conditions_true_pure kept x ss = ap (λ l. are_pure (forms l)) (sym (append-nil (conditions kept x ss).value)) ∙ conditions_pure kept x ss []

pub restricted_pure : (hs : List Form) (g : Form) → is_pure (restricted false hs g) ≡ are_pure (forms (hs ++ g ∷ []))
restricted_pure [] g = by (is_pure g)
  where
    by : (b : Bool) → b ≡ (b && true)
    by true = refl
    by false = refl
restricted_pure (h ∷ hs) g = refl

pub for_last_pure : (m : ℕ) (ss : List Sort) (body : Traced Form) → is_pure (for_last m ss body).value ≡ is_pure body.value
for_last_pure m [] body = refl
for_last_pure m (s ∷ ss) body = pure-bound true m s (for_last (suc m) ss body) ∙ for_last_pure (suc m) ss body
