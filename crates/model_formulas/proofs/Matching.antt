-- Terms and the values that they are to have.
use Rattle.std.proofs.Common.{◌≡◌, ◌≢◌, ℕ, zero, suc, ◌+◌, ◌<◌, ◌≤◌, ℤ, pos, negsuc, ◌+ℤ◌, ◌*ℤ◌, Bool, true, false, List, [], ◌∷◌, ◌++◌, length, drop, get_or, refl, sym, ap, ◌∙◌, subst, arith, add-one, drop-cons}
use Rattle.std.proofs.lemmas.Int.{ints}
use Rattle.std.proofs.lemmas.List.{append-nil, append_assoc}
use Rattle.linear_term.specs.Linear.{Linear, value_of, number}
use Rattle.linear_term.specs.Combination.{combination}
use Rattle.linear_term.proofs.Totals.{value_of-combination, value_of-number}
use Rattle.base_budget.proofs.Charging.{drop-item, drop_all}
use Rattle.form_typed.specs.Truth.{Meaning}
use Rattle.formula.specs.Form.{Form, FormTruth, AreFormsTrue, conjunction, disjunction, no_form, is_pure, are_pure, values_of}
use Rattle.formula.specs.declared.calculus.Core.{Core}
use Rattle.formula.specs.Tree.{form, forms_of}
use Rattle.model_formulas.specs.Expansions.{Tells, Same}
use Rattle.model_formulas.proofs.Told.{tells_iff}
use Rattle.model_formulas.proofs.Members.{true_append, true_parts, pure_append, pure_one}

-- ---- terms that are numbers
pub record KnownSo (all : List Linear) (out : List ℤ) (rest : List Linear) : Type 0 where
  pub is : (e : List ℤ) → values_of all e ≡ out ++ values_of rest e

pub known_begins : (ts : List Linear) (out : List ℤ) → out ≡ [] → KnownSo ts out (drop 0 ts)
known_begins ts out none = record { is = λ e. ap (λ l. l ++ values_of ts e) (sym none) }

pub known_goes : (ts : List Linear) (i : ℕ) (t : Linear) (k : ℤ) (out more : List ℤ) → i < length ts → t ≡ get_or ts i t → ((e : List ℤ) → value_of t e ≡ k) → more ≡ out ++ k ∷ []
    → KnownSo ts out (drop i ts) → KnownSo ts more (drop (i + 1) ts)
known_goes ts i t k out more lt at is same h = record {
  is = λ e. h.is e ∙ ap (λ l. out ++ values_of l e) (drop-item ts i t lt at) ∙ ap (λ z. out ++ (z ∷ values_of (drop (i + 1) ts) e)) (is e)
      ∙ sym (append_assoc out (k ∷ []) (values_of (drop (i + 1) ts) e)) ∙ ap (λ l. l ++ values_of (drop (i + 1) ts) e) (sym same);
}

pub known_ends : (ts : List Linear) (i : ℕ) (out : List ℤ) → length ts ≤ i → KnownSo ts out (drop i ts) → (e : List ℤ) → values_of ts e ≡ out
known_ends ts i out le h e = h.is e ∙ ap (λ l. out ++ values_of l e) (drop_all ts i le) ∙ append-nil out

pub ruleset knowing = (known_begins, known_goes, known_ends)

-- ---- one term
difference_zero : (t : Linear) (n : ℤ) (e : List ℤ) → value_of (combination (pos 1) t (negsuc 0) (number n)) e ≡ value_of t e +ℤ (negsuc 0 *ℤ n)
difference_zero t n e = omega (arith, ints, value_of-combination (pos 1) (negsuc 0) t (number n) e, ap (λ z. negsuc 0 *ℤ z) (value_of-number n e))

zero_then : (a b n : ℤ) → a ≡ b +ℤ (negsuc 0 *ℤ n) → a ≡ pos 0 → b ≡ n
zero_then a b n h k = omega (arith, ints)

then_zero : (a b n : ℤ) → a ≡ b +ℤ (negsuc 0 *ℤ n) → b ≡ n → a ≡ pos 0
then_zero a b n h k = omega (arith, ints)

pub equals_told : (g : Form) (t d : Linear) (n : ℤ) → d ≡ combination (pos 1) t (negsuc 0) (number n) → Tells g (λ e. value_of d e ≡ pos 0) → Tells g (λ e. value_of t e ≡ n)
equals_told g t d n is =
    let one : (e : List ℤ) → value_of d e ≡ value_of t e +ℤ (negsuc 0 *ℤ n) = λ e. ap (λ z. value_of z e) is ∙ difference_zero t n e in
    tells_iff g (λ e. value_of d e ≡ pos 0) (λ e. value_of t e ≡ n) (λ e h. zero_then (value_of d e) (value_of t e) n (one e) h) (λ e h. then_zero (value_of d e) (value_of t e) n (one e) h)

pub ruleset equals = (equals_told)

-- ---- lists of both
drop_number : (xs : List ℤ) (i : ℕ) (x : ℤ) → i < length xs → x ≡ get_or xs i (pos 0) → drop i xs ≡ x ∷ drop (i + 1) xs
drop_number xs i x lt is = subst (λ z. drop i xs ≡ z ∷ drop (i + 1) xs) (sym is) (rw (add-one, drop-cons xs i (pos 0)))

-- the members so far say that the first terms have the first values
pub record MatchLeft (ts : List Linear) (xs : List ℤ) (out : List Core) (us : List Linear) (ys : List ℤ) : Type 0 where
  pub pure : are_pure (forms_of out) ≡ true
  pub there : (w : Meaning) (e : List ℤ) → AreFormsTrue w (forms_of out) e → values_of us e ≡ ys → values_of ts e ≡ xs
  pub back : (w : Meaning) (e : List ℤ) → values_of ts e ≡ xs → AreFormsTrue w (forms_of out) e × (values_of us e ≡ ys)

pub match_begins : (ts : List Linear) (xs : List ℤ) (out : List Core) → out ≡ [] → MatchLeft ts xs out (drop 0 ts) (drop 0 xs)
match_begins ts xs out none = subst (λ l. MatchLeft ts xs l ts xs) (sym none) (record { pure = refl; there = λ w e h k. k; back = λ w e h. (tt, h) })

match_one : (ts us : List Linear) (xs ys : List ℤ) (t : Linear) (x : ℤ) (out more : List Core) (g : Core) → Tells (form g) (λ e. value_of t e ≡ x)
    → ((n : ℕ) → Same n (conjunction (forms_of (out ++ g ∷ []))) (conjunction (forms_of more))) → MatchLeft ts xs out (t ∷ us) (x ∷ ys) → MatchLeft ts xs more us ys
match_one ts us xs ys t x out more g told same h = record {
  pure = (same 0).pure (pure_append out (g ∷ []) h.pure (pure_one g told.pure));
  there = λ w e m k.
      let p = true_parts w out (g ∷ []) e ((same (length e)).there w e refl m) in
      h.there w e p.0 (λ i. told.there w e p.1.0 i ∷ k i);
  back = λ w e k.
      let p = h.back w e k in
      let first : value_of t e ≡ x = let q : (value_of t e ∷ values_of us e) ≡ x ∷ ys = p.1 in cc in
      let later : values_of us e ≡ ys = let q : (value_of t e ∷ values_of us e) ≡ x ∷ ys = p.1 in cc in
      ((same (length e)).back w e refl (true_append w out (g ∷ []) e p.0 (told.back w e first, tt)), later);
}

pub match_goes : (ts : List Linear) (xs : List ℤ) (i : ℕ) (t : Linear) (x : ℤ) (out more : List Core) (g : Core) → i < length ts → i < length xs → t ≡ get_or ts i t → x ≡ get_or xs i (pos 0)
    → Tells (form g) (λ e. value_of t e ≡ x) → ((n : ℕ) → Same n (conjunction (forms_of (out ++ g ∷ []))) (conjunction (forms_of more)))
    → MatchLeft ts xs out (drop i ts) (drop i xs) → MatchLeft ts xs more (drop (i + 1) ts) (drop (i + 1) xs)
match_goes ts xs i t x out more g lt less at here told same h =
    match_one ts (drop (i + 1) ts) xs (drop (i + 1) xs) t x out more g told same
    (subst (λ us. MatchLeft ts xs out us (x ∷ drop (i + 1) xs)) (drop-item ts i t lt at) (subst (λ ys. MatchLeft ts xs out (drop i ts) ys) (drop_number xs i x less here) h))

pub match_stops : (ts : List Linear) (xs : List ℤ) (i : ℕ) (t : Linear) (x : ℤ) (out : List Core) (g : Core) → i < length ts → i < length xs → t ≡ get_or ts i t → x ≡ get_or xs i (pos 0)
    → Tells (form g) (λ e. value_of t e ≡ x) → form g ≡ disjunction no_form → MatchLeft ts xs out (drop i ts) (drop i xs) → Tells (form g) (λ e. values_of ts e ≡ xs)
match_stops ts xs i t x out g lt less at here told bad h = record {
  pure = told.pure;
  there = λ w e k. absurd (subst (λ f. FormTruth w f e) bad k tt);
  back = λ w e k.
      let p = h.back w e k in
      let q : (value_of t e ∷ values_of (drop (i + 1) ts) e) ≡ x ∷ drop (i + 1) xs
      = ap (λ l. values_of l e) (sym (drop-item ts i t lt at)) ∙ p.1 ∙ drop_number xs i x less here in
      let first : value_of t e ≡ x = cc in
      told.back w e first;
}

pub match_ends : (ts : List Linear) (xs : List ℤ) (i : ℕ) (out : List Core) (g : Core) → length ts ≡ length xs → length ts ≤ i → ((n : ℕ) → Same n (conjunction (forms_of out)) (form g))
    → MatchLeft ts xs out (drop i ts) (drop i xs) → Tells (form g) (λ e. values_of ts e ≡ xs)
match_ends ts xs i out g len le same h = record {
  pure = (same 0).pure h.pure;
  there = λ w e k. h.there w e ((same (length e)).there w e refl k) (ap (λ l. values_of l e) (drop_all ts i le) ∙ sym (drop_all xs i (omega (arith, len, le))));
  back = λ w e k. (same (length e)).back w e refl (h.back w e k).0;
}

values_length : (ts : List Linear) (e : List ℤ) → length (values_of ts e) ≡ length ts
values_length [] e = refl
values_length (t ∷ ts) e = ap suc (values_length ts e)

pub match_never : (ts : List Linear) (xs : List ℤ) (g : Form) → length ts ≢ length xs → Tells g (λ e. false ≡ true) → Tells g (λ e. values_of ts e ≡ xs)
match_never ts xs g other =
    tells_iff g (λ e. false ≡ true) (λ e. values_of ts e ≡ xs) (λ e h. absurd (let z : false ≡ true = h in cc)) (λ e h. absurd (other (sym (values_length ts e) ∙ ap length h)))

pub ruleset matching = (match_begins, match_goes, match_stops, match_ends, match_never)
