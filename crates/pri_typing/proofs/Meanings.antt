-- What a problem means: where there are no constants, and where there is no application.
use Rattle.std.proofs.Common.{◌≡◌, ◌↔◌, ℕ, zero, suc, ◌+◌, ◌<◌, ◌≤◌, ◌⊎◌, inl, inr, length-append, ℤ, pos, ◌*ℤ◌, neg_ℤ, List, [], ◌∷◌, ◌++◌, length, unsigned_abs, refl, sym, ap, subst, ◌∙◌, arith, append-nil}
use Rattle.std.specs.Int.{int_min, int_max}
use Rattle.form_typed.specs.Formula.{Formula, Formulas, Expression, Expressions, formula, constant, compares, applies, negation, every, some, implies, iff, for_all, for_some, part, no_formula, and_formula, number, name, call, minus, total, product, choice, absolute, lesser, greater, no_expression, and_expression}
use Rattle.form_typed.specs.Truth.{Meaning, Truth, AreAllTrue, AreAllFalse, HasValue, HaveValues, IsRelated}
use Rattle.form_typed.specs.Lists.{sum_of}
use Rattle.base_integers.specs.Entry.{entry}
use Rattle.pri_typing.specs.declared.problem.Problem.{Problem}
use Rattle.form_typed.specs.declared.typed.Sort.{Sort}
use Rattle.form_typed.specs.Sorts.{AreValuesOf}
use Rattle.pri_typing.specs.Files.{all_int}
use Rattle.pri_typing.specs.WellFormed.{IsWellFormed}
use Rattle.pri_typing.specs.Everywhere.{Property, Everywhere, AllEverywhere, TermEverywhere, TermsEverywhere}
use Rattle.form_typed.specs.Table.{meaning_of}
use Rattle.pri_typing.specs.Problems.{Holds, IsTrueAt, IsRefuted, finite_meaning, IsPure, IsNoPredicate, IsNoCall, IsNameIn, SpeaksOfExistentials}
use Rattle.pri_typing.proofs.Everywhere.{Follows, everywhere_more}

no_values : (u : List ℤ) → length u ≡ 0 → u ≡ []
no_values [] e = refl
no_values (v ∷ u) e = absurd (omega (arith, e))

-- no types have no values
none_typed : (ss : List Sort) → length ss ≡ 0 → AreValuesOf ss []
none_typed [] l = tt {0}
none_typed (s ∷ ss) l = absurd (omega (arith, l))

-- Without universal constants a well-formed problem holds where its formula is true, at values of the types.
pub holds_alone : (w : Meaning) (p : Problem) (e : List ℤ) → IsWellFormed p → p.universals ≡ [] → length e ≡ length p.existentials → AreValuesOf p.existential_types e
    → Holds w p e ↔ Truth w (formula p.formula) e
holds_alone w p e formed none many typed =
    let len = ap length none in (
      λ h. subst (Truth w (formula p.formula)) (append-nil e) (h.is [] (sym len) (none_typed p.universal_types (formed.universal_types.many ∙ len))),
      λ h. record { many = many; typed = typed; is = λ u k _. subst (Truth w (formula p.formula)) (sym (ap (λ z. e ++ z) (no_values u (k ∙ len)) ∙ append-nil e)) h },
    )

-- A problem that is refuted does not hold in every interpretation, whatever the existential constants are.
pub refuted_fails : (p : Problem) (e : List ℤ) → IsRefuted p → length e ≡ length p.existentials → AreValuesOf p.existential_types e → ((w : Meaning) → Holds w p e) → ⊥
refuted_fails p e r l typed h = let at = r e l typed in at.fails ((h (finite_meaning at.interpretation)).is at.universals at.fit at.typed)

-- A formula without applications is true alike wherever its names have the same values.

-- without applications, and with names below i or from j on alone
abbrev spoken : ℕ → ℕ → Property
spoken i j = record { of_formula = IsNoPredicate; of_term = λ depth. IsNameIn i j }

-- such names have the same values in both lists
record Agree (i j : ℕ) (e d : List ℤ) : Type 0 where
  long : length e ≡ length d
  same : (x : ℕ) → (x < i) ⊎ (j ≤ x) → entry e x ≡ entry d x

agree_back : {i j : ℕ} {e d : List ℤ} → Agree i j e d → Agree i j d e
agree_back a = record { long = sym a.long; same = λ x h. sym (a.same x h) }

-- the entries of two lists with one more value after them
entries_more : (e d : List ℤ) (v : ℤ) (x : ℕ) → length e ≡ length d → entry e x ≡ entry d x → entry (e ++ v ∷ []) x ≡ entry (d ++ v ∷ []) x
entries_more [] [] v x l h = refl
entries_more [] (b ∷ d) v x l h = absurd (omega (arith, l))
entries_more (a ∷ e) [] v x l h = absurd (omega (arith, l))
entries_more (a ∷ e) (b ∷ d) v zero l h = h
entries_more (a ∷ e) (b ∷ d) v (suc x) l h = entries_more e d v x (omega (arith, l)) h

agree_more : (i j : ℕ) (e d : List ℤ) → Agree i j e d → (v : ℤ) → Agree i j (e ++ v ∷ []) (d ++ v ∷ [])
agree_more i j e d a v = record {
  long = length-append e (v ∷ []) ∙ ap (λ n. n + 1) a.long ∙ sym (length-append d (v ∷ []));
  same = λ x h. entries_more e d v x a.long (a.same x h);
}

mutual
  spoken_truth : Unit {1} → (i j : ℕ) (v w : Meaning) (n : ℕ) (f : Formula) (e d : List ℤ) → Agree i j e d → Everywhere (spoken i j) n f → Truth v f e → Truth w f d
  spoken_truth u i j v w n (constant b) e d a h t = t
  spoken_truth u i j v w n (compares r s t) e d a h k =
      spoken_value u i j v w n s e d a h.1 (λ x. HasValue v t e (λ y. IsRelated r x y)) (λ x. HasValue w t d (λ y. IsRelated r x y))
      (λ x. spoken_value u i j v w n t e d a h.2 (λ y. IsRelated r x y) (λ y. IsRelated r x y) (λ y z. z)) k
  spoken_truth u i j v w n (applies p ts) e d a h k = absurd h.0
  spoken_truth u i j v w n (negation f) e d a h k = λ t. k (spoken_truth u i j w v n f d e (agree_back a) h.1 t)
  spoken_truth u i j v w n (every fs) e d a h k = spoken_all u i j v w n fs e d a h.1 k
  spoken_truth u i j v w n (some fs) e d a h k = λ t. k (spoken_none u i j w v n fs d e (agree_back a) h.1 t)
  spoken_truth u i j v w n (implies f g) e d a h k = λ t. spoken_truth u i j v w n g e d a h.2 (k (spoken_truth u i j w v n f d e (agree_back a) h.1 t))
  spoken_truth u i j v w n (iff f g) e d a h k =
      (λ t. spoken_truth u i j v w n g e d a h.2 (k.0 (spoken_truth u i j w v n f d e (agree_back a) h.1 t)), λ t. spoken_truth u i j v w n f e d a h.1 (k.1 (spoken_truth u i j w v n g d e (agree_back a) h.2 t)))
  spoken_truth u i j v w n (for_all s f) e d a h k = λ x t. spoken_truth u i j v w (suc n) f (e ++ x ∷ []) (d ++ x ∷ []) (agree_more i j e d a x) h.1 (k x t)
  spoken_truth u i j v w n (for_some s f) e d a h k = λ t. k (λ x b y. t x b (spoken_truth u i j v w (suc n) f (e ++ x ∷ []) (d ++ x ∷ []) (agree_more i j e d a x) h.1 y))
  spoken_truth u i j v w n (part k f) e d a h t = spoken_truth u i j v w n f e d a h.1 t

  spoken_all : Unit {1} → (i j : ℕ) (v w : Meaning) (n : ℕ) (fs : Formulas) (e d : List ℤ) → Agree i j e d → AllEverywhere (spoken i j) n fs → AreAllTrue v fs e → AreAllTrue w fs d
  spoken_all u i j v w n no_formula e d a h k = tt {0}
  spoken_all u i j v w n (and_formula f fs) e d a h k = (spoken_truth u i j v w n f e d a h.0 k.0, spoken_all u i j v w n fs e d a h.1 k.1)

  spoken_none : Unit {1} → (i j : ℕ) (v w : Meaning) (n : ℕ) (fs : Formulas) (e d : List ℤ) → Agree i j e d → AllEverywhere (spoken i j) n fs → AreAllFalse v fs e → AreAllFalse w fs d
  spoken_none u i j v w n no_formula e d a h k = tt {0}
  spoken_none u i j v w n (and_formula f fs) e d a h k = (λ t. k.0 (spoken_truth u i j w v n f d e (agree_back a) h.0 t), spoken_none u i j v w n fs e d a h.1 k.1)

  spoken_value : Unit {1} → (i j : ℕ) (v w : Meaning) (n : ℕ) (t : Expression) (e d : List ℤ) → Agree i j e d → TermEverywhere (spoken i j) n t → (P Q : ℤ → Type 0) → ((x : ℤ) → P x → Q x)
      → HasValue v t e P → HasValue w t d Q
  spoken_value u i j v w n (number x) e d a h P Q m k = m x k
  spoken_value u i j v w n (name x) e d a h P Q m k = m (entry d x) (subst P (a.same x h) k)
  spoken_value u i j v w n (call f ts) e d a h P Q m k = absurd h.0
  spoken_value u i j v w n (minus t) e d a h P Q m k = spoken_value u i j v w n t e d a h.1 (λ x. P (neg_ℤ x)) (λ x. Q (neg_ℤ x)) (λ x. m (neg_ℤ x)) k
  spoken_value u i j v w n (total ts) e d a h P Q m k = spoken_values u i j v w n ts e d a h.1 (λ xs. P (sum_of xs)) (λ xs. Q (sum_of xs)) (λ xs. m (sum_of xs)) k
  spoken_value u i j v w n (product s t) e d a h P Q m k =
      spoken_value u i j v w n s e d a h.1 (λ x. HasValue v t e (λ y. P (x *ℤ y))) (λ x. HasValue w t d (λ y. Q (x *ℤ y)))
      (λ x. spoken_value u i j v w n t e d a h.2 (λ y. P (x *ℤ y)) (λ y. Q (x *ℤ y)) (λ y. m (x *ℤ y))) k
  spoken_value u i j v w n (choice f s t) e d a h P Q m k = (
    λ g. spoken_value u i j v w n s e d a h.2 P Q m (k.0 (spoken_truth u i j w v n f d e (agree_back a) h.1 g)),
    λ g. spoken_value u i j v w n t e d a h.3 P Q m (k.1 (λ z. g (spoken_truth u i j v w n f e d a h.1 z))),
  )
  spoken_value u i j v w n (absolute t) e d a h P Q m k = spoken_value u i j v w n t e d a h.1 (λ x. P (pos (unsigned_abs x))) (λ x. Q (pos (unsigned_abs x))) (λ x. m (pos (unsigned_abs x))) k
  spoken_value u i j v w n (lesser s t) e d a h P Q m k =
      spoken_value u i j v w n s e d a h.1 (λ x. HasValue v t e (λ y. P (int_min x y))) (λ x. HasValue w t d (λ y. Q (int_min x y)))
      (λ x. spoken_value u i j v w n t e d a h.2 (λ y. P (int_min x y)) (λ y. Q (int_min x y)) (λ y. m (int_min x y))) k
  spoken_value u i j v w n (greater s t) e d a h P Q m k =
      spoken_value u i j v w n s e d a h.1 (λ x. HasValue v t e (λ y. P (int_max x y))) (λ x. HasValue w t d (λ y. Q (int_max x y)))
      (λ x. spoken_value u i j v w n t e d a h.2 (λ y. P (int_max x y)) (λ y. Q (int_max x y)) (λ y. m (int_max x y))) k

  spoken_values : Unit {1} → (i j : ℕ) (v w : Meaning) (n : ℕ) (ts : Expressions) (e d : List ℤ) → Agree i j e d → TermsEverywhere (spoken i j) n ts → (P Q : List ℤ → Type 0) → ((xs : List ℤ) → P xs → Q xs)
      → HaveValues v ts e P → HaveValues w ts d Q
  spoken_values u i j v w n no_expression e d a h P Q m k = m [] k
  spoken_values u i j v w n (and_expression t ts) e d a h P Q m k =
      spoken_value u i j v w n t e d a h.0 (λ x. HaveValues v ts e (λ xs. P (x ∷ xs))) (λ x. HaveValues w ts d (λ xs. Q (x ∷ xs)))
      (λ x. spoken_values u i j v w n ts e d a h.1 (λ xs. P (x ∷ xs)) (λ xs. Q (x ∷ xs)) (λ xs. m (x ∷ xs))) k

without_names : Follows (record { of_formula = IsNoPredicate; of_term = IsNoCall }) (spoken 0 0)
without_names = record { of_formula = λ n f h. h; of_term = at }
  where
    at : (n : ℕ) (t : Expression) → IsNoCall n t → IsNameIn 0 0 t
    at n (number v) h = tt {0}
    at n (name x) h = inr (omega arith)
    at n (call f ts) h = h
    at n (minus t) h = tt {0}
    at n (total ts) h = tt {0}
    at n (product s t) h = tt {0}
    at n (choice f s t) h = tt {0}
    at n (absolute t) h = tt {0}
    at n (lesser s t) h = tt {0}
    at n (greater s t) h = tt {0}

-- Without applications the interpretation does not matter.
pub pure_holds : (v w : Meaning) (p : Problem) (e : List ℤ) → IsPure p → Holds v p e → Holds w p e
pure_holds v w p e h k = record {
  many = k.many;
  typed = k.typed;
  is = λ u l t. spoken_truth (tt {1}) 0 0 v w 0 (formula p.formula) (e ++ u) (e ++ u) (record { long = refl; same = λ x i. refl })
      (everywhere_more _ (spoken 0 0) without_names 0 (formula p.formula) h) (k.is u l t);
}

-- each integer is a value of the type `int`
pub all_typed : (names : List (List ℕ)) (e : List ℤ) → length e ≡ length names → AreValuesOf (all_int names) e
all_typed [] [] l = tt {0}
all_typed [] (v ∷ e) l = absurd (omega (arith, l))
all_typed (x ∷ names) [] l = absurd (omega (arith, l))
all_typed (x ∷ names) (v ∷ e) l = (tt {0}, all_typed names e (omega (arith, l)))

-- a problem all of whose constants are of the type `int` holds where its formula is true at the values of the existential constants
pub holds_true : (w : Meaning) (p : Problem) (e : List ℤ) → p.existential_types ≡ all_int p.existentials → p.universal_types ≡ all_int p.universals
    → Holds w p e ↔ IsTrueAt w p (formula p.formula) e
holds_true w p e k l = (
  λ h. record { many = h.many; is = λ u m. h.is u m (subst (λ ss. AreValuesOf ss u) (sym l) (all_typed p.universals u m)) },
  λ h. record { many = h.many; typed = subst (λ ss. AreValuesOf ss e) (sym k) (all_typed p.existentials e h.many); is = λ u m _. h.is u m },
)

entries_apart : (e u d : List ℤ) (x : ℕ) → length u ≡ length d → (x < length e) ⊎ (length e + length u ≤ x) → entry (e ++ u) x ≡ entry (e ++ d) x
entries_apart [] u d x l (inl h) = absurd (omega arith)
entries_apart [] u d x l (inr h) = past u x (omega (arith, h)) ∙ sym (past d x (omega (arith, h, l)))
  where
    past : (xs : List ℤ) (x : ℕ) → length xs ≤ x → entry xs x ≡ pos 0
    past [] x h = refl
    past (a ∷ xs) zero h = absurd (omega arith)
    past (a ∷ xs) (suc x) h = past xs x (omega arith)
entries_apart (a ∷ e) u d zero l h = refl
entries_apart (a ∷ e) u d (suc x) l (inl h) = entries_apart e u d x l (inl (omega arith))
entries_apart (a ∷ e) u d (suc x) l (inr h) = entries_apart e u d x l (inr (omega (arith, h)))

-- what speaks of existential constants alone is true alike, whatever the universal constants and the interpretation are
pub spoken_alike : (v w : Meaning) (p : Problem) (f : Formula) (e u d : List ℤ) → SpeaksOfExistentials p f → length e ≡ length p.existentials
    → length u ≡ length p.universals → length d ≡ length p.universals → Truth v f (e ++ u) → Truth w f (e ++ d)
spoken_alike v w p f e u d h k l m t =
    spoken_truth (tt {1}) (length p.existentials) (length p.existentials + length p.universals) v w 0 f (e ++ u) (e ++ d) (record {
      long = length-append e u ∙ ap (λ n. length e + n) (l ∙ sym m) ∙ sym (length-append e d);
      same = λ x i. entries_apart e u d x (l ∙ sym m) (elim i [ inl a ↦ inl (omega (arith, a, k)) | inr b ↦ inr (omega (arith, b, k, l)) ]);
    }) h t
