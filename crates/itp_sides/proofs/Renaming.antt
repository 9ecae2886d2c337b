-- The truth of a formula whose names are sent through a map.
use Rattle.std.proofs.Common.{◌≡◌, ◌↔◌, ◌+◌, ◌-◌, ◌<◌, ◌≤◌, ℕ, ℤ, pos, ◌*ℤ◌, neg_ℤ, true, List, [], ◌∷◌, ◌++◌, length, length-append, unsigned_abs, refl, sym, ◌∙◌, ap, subst, arith, inl, inr}
use Rattle.std.specs.Int.{int_min, int_max}
use Rattle.std.proofs.lemmas.Bool.{cases_lt}
use Rattle.base_integers.specs.Entry.{entry}
use Rattle.base_integers.proofs.Entries.{entry-append_left, entry-append_right, entry-past}
use Rattle.form_typed.specs.Formula.{Formula, Formulas, Expression, Expressions, constant, compares, applies, negation, every, some, implies, iff, for_all, for_some, part, no_formula, and_formula, number, name, call, minus, total, product, choice, absolute, lesser, greater, no_expression, and_expression}
use Rattle.form_typed.specs.Lists.{sum_of}
use Rattle.form_typed.specs.Truth.{Meaning, Truth, AreAllTrue, AreAllFalse, HasValue, HaveValues, IsRelated}
use Rattle.form_typed.proofs.Values.{value_more}
use Rattle.form_encoding.specs.Occurrences.{names_in, names_in_all, names_in_term, names_in_terms}
use Rattle.itp_sides.specs.Closing.{renamed, renamed_all, renamed_term, renamed_terms}

-- the names after those of e go after those of d
abbrev pub GoesBehind : (ℕ → ℕ) → List ℤ → List ℤ → Type 0
GoesBehind r e d = (x : ℕ) → length e ≤ x → r x ≡ (x - length e) + length d

-- a name of e goes to a name of d that has its value
abbrev pub IsMet : (ℕ → ℕ) → List ℤ → List ℤ → ℕ → Type 0
IsMet r e d x = x < length e → (r x < length d) × (entry d (r x) ≡ entry e x)

abbrev pub AreMet : (ℕ → ℕ) → List ℤ → List ℤ → List ℕ → Type 0
AreMet r e d [] = Unit {0}
AreMet r e d (x ∷ xs) = IsMet r e d x × AreMet r e d xs

met_left : (r : ℕ → ℕ) (e d : List ℤ) (xs ys : List ℕ) → AreMet r e d (xs ++ ys) → AreMet r e d xs
met_left r e d [] ys h = tt
met_left r e d (x ∷ xs) ys h = (h.0, met_left r e d xs ys h.1)

met_right : (r : ℕ → ℕ) (e d : List ℤ) (xs ys : List ℕ) → AreMet r e d (xs ++ ys) → AreMet r e d ys
met_right r e d [] ys h = h
met_right r e d (x ∷ xs) ys h = met_right r e d xs ys h.1

behind_more : (r : ℕ → ℕ) (e d : List ℤ) (v : ℤ) → GoesBehind r e d → GoesBehind r (e ++ v ∷ []) (d ++ v ∷ [])
behind_more r e d v g = λ x l. let a = length-append e (v ∷ []) in let b = length-append d (v ∷ []) in let q = g x (omega (arith, a, l)) in omega (arith, a, b, q, l)

last_entry : (e : List ℤ) (v : ℤ) (x : ℕ) → x ≡ length e → entry (e ++ v ∷ []) x ≡ v
last_entry e v x q =
    let z : x ≡ length e + 0 = omega (arith, q) in
    ap (entry (e ++ v ∷ [])) z ∙ entry-append_right e (v ∷ []) 0

one_more : (r : ℕ → ℕ) (e d : List ℤ) (v : ℤ) (x : ℕ) → GoesBehind r e d → IsMet r e d x → IsMet r (e ++ v ∷ []) (d ++ v ∷ []) x
one_more r e d v x g h = λ l.
    let a = length-append e (v ∷ []) in
    let b = length-append d (v ∷ []) in
    elim (cases_lt x (length e)) [
      | inl s ↦ let k = h s in (omega (arith, b, k.0), entry-append_left d (v ∷ []) (r x) k.0 ∙ k.1 ∙ sym (entry-append_left e (v ∷ []) x s))
      | inr m ↦
          let q : x ≡ length e = omega (arith, a, l, m) in
          let to : r x ≡ length d = omega (arith, g x m, q) in
          (omega (arith, b, to), last_entry d v (r x) to ∙ sym (last_entry e v x q))
    ]

met_more : (r : ℕ → ℕ) (e d : List ℤ) (v : ℤ) (xs : List ℕ) → GoesBehind r e d → AreMet r e d xs → AreMet r (e ++ v ∷ []) (d ++ v ∷ []) xs
met_more r e d v [] g h = tt
met_more r e d v (x ∷ xs) g h = (one_more r e d v x g h.0, met_more r e d v xs g h.1)

value_met : (r : ℕ → ℕ) (e d : List ℤ) (x : ℕ) → GoesBehind r e d → IsMet r e d x → entry d (r x) ≡ entry e x
value_met r e d x g h = elim (cases_lt x (length e)) [ inl s ↦ (h s).1 | inr m ↦ entry-past d (r x) (omega (arith, g x m, m)) ∙ sym (entry-past e x m) ]

-- the value of one term at one list has the properties of that of another term at another list
abbrev pub SameValue : Meaning → Expression → List ℤ → Expression → List ℤ → Type 1
SameValue w s d t e = (P : ℤ → Type 0) → HasValue w s d P ↔ HasValue w t e P

same_pair : (w : Meaning) (s t u v : Expression) (d e : List ℤ) (R : ℤ → ℤ → Type 0) → SameValue w s d t e → SameValue w u d v e
    → HasValue w s d (λ x. HasValue w u d (λ y. R x y)) ↔ HasValue w t e (λ x. HasValue w v e (λ y. R x y))
same_pair w s t u v d e R f g = (
  λ h. (f (λ x. HasValue w v e (λ y. R x y))).0 (value_more w s d (λ x. HasValue w u d (λ y. R x y)) (λ x. HasValue w v e (λ y. R x y)) (λ x k. (g (λ y. R x y)).0 k) h),
  λ h. (f (λ x. HasValue w u d (λ y. R x y))).1 (value_more w t e (λ x. HasValue w v e (λ y. R x y)) (λ x. HasValue w u d (λ y. R x y)) (λ x k. (g (λ y. R x y)).1 k) h),
)

mutual
  pub renamed_true : Unit {1} → (w : Meaning) (r : ℕ → ℕ) (f : Formula) (e d : List ℤ) → GoesBehind r e d → AreMet r e d (names_in f) → Truth w (renamed r f) d ↔ Truth w f e
  renamed_true o w r (constant b) e d g m = (λ h. h, λ h. h)
  renamed_true o w r (compares c s t) e d g m =
      let a = met_left r e d (names_in_term s) (names_in_term t) m in
      let b = met_right r e d (names_in_term s) (names_in_term t) m in
      same_pair w (renamed_term r s) s (renamed_term r t) t d e (λ x y. IsRelated c x y) (λ P. renamed_value o w r s e d g a P) (λ P. renamed_value o w r t e d g b P)
  renamed_true o w r (applies p ts) e d g m = renamed_values o w r ts e d g m (λ xs. w.truth p xs ≡ true)
  renamed_true o w r (negation f) e d g m = let k = renamed_true o w r f e d g m in (λ h a. h (k.1 a), λ h a. h (k.0 a))
  renamed_true o w r (every fs) e d g m = renamed_all_true o w r fs e d g m
  renamed_true o w r (some fs) e d g m = let k = renamed_all_false o w r fs e d g m in (λ h a. h (k.1 a), λ h a. h (k.0 a))
  renamed_true o w r (implies f h) e d g m =
      let k = renamed_true o w r f e d g (met_left r e d (names_in f) (names_in h) m) in
      let l = renamed_true o w r h e d g (met_right r e d (names_in f) (names_in h) m) in
      (λ i a. l.0 (i (k.1 a)), λ i a. l.1 (i (k.0 a)))
  renamed_true o w r (iff f h) e d g m =
      let k = renamed_true o w r f e d g (met_left r e d (names_in f) (names_in h) m) in
      let l = renamed_true o w r h e d g (met_right r e d (names_in f) (names_in h) m) in
      (λ i. (λ a. l.0 (i.0 (k.1 a)), λ b. k.0 (i.1 (l.1 b))), λ i. (λ a. l.1 (i.0 (k.0 a)), λ b. k.1 (i.1 (l.0 b))))
  renamed_true o w r (for_all s f) e d g m = (
    λ h v i. (renamed_true o w r f (e ++ v ∷ []) (d ++ v ∷ []) (behind_more r e d v g) (met_more r e d v (names_in f) g m)).0 (h v i),
    λ h v i. (renamed_true o w r f (e ++ v ∷ []) (d ++ v ∷ []) (behind_more r e d v g) (met_more r e d v (names_in f) g m)).1 (h v i),
  )
  renamed_true o w r (for_some s f) e d g m = (
    λ h k. h (λ v i a. k v i ((renamed_true o w r f (e ++ v ∷ []) (d ++ v ∷ []) (behind_more r e d v g) (met_more r e d v (names_in f) g m)).0 a)),
    λ h k. h (λ v i a. k v i ((renamed_true o w r f (e ++ v ∷ []) (d ++ v ∷ []) (behind_more r e d v g) (met_more r e d v (names_in f) g m)).1 a)),
  )
  renamed_true o w r (part k f) e d g m = renamed_true o w r f e d g m

  renamed_all_true : Unit {1} → (w : Meaning) (r : ℕ → ℕ) (fs : Formulas) (e d : List ℤ) → GoesBehind r e d → AreMet r e d (names_in_all fs) → AreAllTrue w (renamed_all r fs) d ↔ AreAllTrue w fs e
  renamed_all_true o w r no_formula e d g m = (λ h. tt, λ h. tt)
  renamed_all_true o w r (and_formula f fs) e d g m =
      let k = renamed_true o w r f e d g (met_left r e d (names_in f) (names_in_all fs) m) in
      let l = renamed_all_true o w r fs e d g (met_right r e d (names_in f) (names_in_all fs) m) in
      (λ h. (k.0 h.0, l.0 h.1), λ h. (k.1 h.0, l.1 h.1))

  renamed_all_false : Unit {1} → (w : Meaning) (r : ℕ → ℕ) (fs : Formulas) (e d : List ℤ) → GoesBehind r e d → AreMet r e d (names_in_all fs) → AreAllFalse w (renamed_all r fs) d ↔ AreAllFalse w fs e
  renamed_all_false o w r no_formula e d g m = (λ h. tt, λ h. tt)
  renamed_all_false o w r (and_formula f fs) e d g m =
      let k = renamed_true o w r f e d g (met_left r e d (names_in f) (names_in_all fs) m) in
      let l = renamed_all_false o w r fs e d g (met_right r e d (names_in f) (names_in_all fs) m) in
      (λ h. (λ a. h.0 (k.1 a), l.0 h.1), λ h. (λ a. h.0 (k.0 a), l.1 h.1))

  renamed_value : Unit {1} → (w : Meaning) (r : ℕ → ℕ) (t : Expression) (e d : List ℤ) → GoesBehind r e d → AreMet r e d (names_in_term t) → (P : ℤ → Type 0)
      → HasValue w (renamed_term r t) d P ↔ HasValue w t e P
  renamed_value o w r (number v) e d g m P = (λ h. h, λ h. h)
  renamed_value o w r (name x) e d g m P = (λ h. subst P (value_met r e d x g m.0) h, λ h. subst P (sym (value_met r e d x g m.0)) h)
  renamed_value o w r (call f ts) e d g m P = renamed_values o w r ts e d g m (λ xs. P (w.value f xs))
  renamed_value o w r (minus t) e d g m P = renamed_value o w r t e d g m (λ x. P (neg_ℤ x))
  renamed_value o w r (total ts) e d g m P = renamed_values o w r ts e d g m (λ xs. P (sum_of xs))
  renamed_value o w r (product s t) e d g m P =
      let a = met_left r e d (names_in_term s) (names_in_term t) m in
      let b = met_right r e d (names_in_term s) (names_in_term t) m in
      same_pair w (renamed_term r s) s (renamed_term r t) t d e (λ x y. P (x *ℤ y)) (λ Q. renamed_value o w r s e d g a Q) (λ Q. renamed_value o w r t e d g b Q)
  renamed_value o w r (choice f s t) e d g m P =
      let i = met_right r e d (names_in f) (names_in_term s ++ names_in_term t) m in
      let k = renamed_true o w r f e d g (met_left r e d (names_in f) (names_in_term s ++ names_in_term t) m) in
      let a = renamed_value o w r s e d g (met_left r e d (names_in_term s) (names_in_term t) i) P in
      let b = renamed_value o w r t e d g (met_right r e d (names_in_term s) (names_in_term t) i) P in
      (λ h. (λ c. a.0 (h.0 (k.1 c)), λ c. b.0 (h.1 (λ j. c (k.0 j)))), λ h. (λ c. a.1 (h.0 (k.0 c)), λ c. b.1 (h.1 (λ j. c (k.1 j)))))
  renamed_value o w r (absolute t) e d g m P = renamed_value o w r t e d g m (λ x. P (pos (unsigned_abs x)))
  renamed_value o w r (lesser s t) e d g m P =
      let a = met_left r e d (names_in_term s) (names_in_term t) m in
      let b = met_right r e d (names_in_term s) (names_in_term t) m in
      same_pair w (renamed_term r s) s (renamed_term r t) t d e (λ x y. P (int_min x y)) (λ Q. renamed_value o w r s e d g a Q) (λ Q. renamed_value o w r t e d g b Q)
  renamed_value o w r (greater s t) e d g m P =
      let a = met_left r e d (names_in_term s) (names_in_term t) m in
      let b = met_right r e d (names_in_term s) (names_in_term t) m in
      same_pair w (renamed_term r s) s (renamed_term r t) t d e (λ x y. P (int_max x y)) (λ Q. renamed_value o w r s e d g a Q) (λ Q. renamed_value o w r t e d g b Q)

  renamed_values : Unit {1} → (w : Meaning) (r : ℕ → ℕ) (ts : Expressions) (e d : List ℤ) → GoesBehind r e d → AreMet r e d (names_in_terms ts) → (P : List ℤ → Type 0)
      → HaveValues w (renamed_terms r ts) d P ↔ HaveValues w ts e P
  renamed_values o w r no_expression e d g m P = (λ h. h, λ h. h)
  renamed_values o w r (and_expression t ts) e d g m P =
      let a = met_left r e d (names_in_term t) (names_in_terms ts) m in
      let b = met_right r e d (names_in_term t) (names_in_terms ts) m in (
        λ h. (renamed_value o w r t e d g a (λ x. HaveValues w ts e (λ xs. P (x ∷ xs)))).0
            (value_more w (renamed_term r t) d (λ x. HaveValues w (renamed_terms r ts) d (λ xs. P (x ∷ xs))) (λ x. HaveValues w ts e (λ xs. P (x ∷ xs)))
            (λ x k. (renamed_values o w r ts e d g b (λ xs. P (x ∷ xs))).0 k) h),
        λ h. (renamed_value o w r t e d g a (λ x. HaveValues w (renamed_terms r ts) d (λ xs. P (x ∷ xs)))).1
            (value_more w t e (λ x. HaveValues w ts e (λ xs. P (x ∷ xs))) (λ x. HaveValues w (renamed_terms r ts) d (λ xs. P (x ∷ xs)))
            (λ x k. (renamed_values o w r ts e d g b (λ xs. P (x ∷ xs))).1 k) h),
      )

-- names that stay
mutual
  pub renamed-same : (f : Formula) → renamed (λ x. x) f ≡ f
  renamed-same (constant b) = refl
  renamed-same (compares c s t) = rw (renamed_term-same s, renamed_term-same t) refl
  renamed-same (applies p ts) = ap (applies p) (renamed_terms-same ts)
  renamed-same (negation f) = ap negation (renamed-same f)
  renamed-same (every fs) = ap every (renamed_all-same fs)
  renamed-same (some fs) = ap some (renamed_all-same fs)
  renamed-same (implies f g) = rw (renamed-same f, renamed-same g) refl
  renamed-same (iff f g) = rw (renamed-same f, renamed-same g) refl
  renamed-same (for_all s f) = ap (for_all s) (renamed-same f)
  renamed-same (for_some s f) = ap (for_some s) (renamed-same f)
  renamed-same (part k f) = ap (part k) (renamed-same f)

  renamed_all-same : (fs : Formulas) → renamed_all (λ x. x) fs ≡ fs
  renamed_all-same no_formula = refl
  renamed_all-same (and_formula f fs) = rw (renamed-same f, renamed_all-same fs) refl

  renamed_term-same : (t : Expression) → renamed_term (λ x. x) t ≡ t
  renamed_term-same (number v) = refl
  renamed_term-same (name x) = refl
  renamed_term-same (call f ts) = ap (call f) (renamed_terms-same ts)
  renamed_term-same (minus t) = ap minus (renamed_term-same t)
  renamed_term-same (total ts) = ap total (renamed_terms-same ts)
  renamed_term-same (product s t) = rw (renamed_term-same s, renamed_term-same t) refl
  renamed_term-same (choice f s t) = rw (renamed-same f, renamed_term-same s, renamed_term-same t) refl
  renamed_term-same (absolute t) = ap absolute (renamed_term-same t)
  renamed_term-same (lesser s t) = rw (renamed_term-same s, renamed_term-same t) refl
  renamed_term-same (greater s t) = rw (renamed_term-same s, renamed_term-same t) refl

  renamed_terms-same : (ts : Expressions) → renamed_terms (λ x. x) ts ≡ ts
  renamed_terms-same no_expression = refl
  renamed_terms-same (and_expression t ts) = rw (renamed_term-same t, renamed_terms-same ts) refl
