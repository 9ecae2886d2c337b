-- Conjunctions and disjunctions.
use Rattle.std.proofs.Common.{◌≡◌, ℕ, zero, suc, ◌≤◌, ℤ, Bool, true, false, ◌&&◌, List, [], ◌∷◌, ◌++◌, length, map, refl, sym, ap, ◌∙◌, subst, arith}
use Rattle.std.proofs.lemmas.Bool.{and_parts}
use Rattle.form_typed.specs.Truth.{Meaning}
use Rattle.formula.specs.Form.{Form, Forms, FormTruth, AreFormsTrue, AreFormsFalse, conjunction, disjunction, no_form, and_form, forms, is_pure, are_pure}
use Rattle.formula.specs.declared.calculus.Core.{Core}
use Rattle.formula.specs.declared.calculus.Core.TheVariants as c
use Rattle.formula.specs.Tree.{form, forms_of}
use Rattle.formula.proofs.Stability.{form_stable}
use Rattle.formula.proofs.Building.{form-And, form-Or}
use Rattle.model_formulas.specs.Expansions.{Same}

-- ---- members
both_pure : (a b : Bool) → a ≡ true → b ≡ true → (a && b) ≡ true
both_pure a b h k = grind arith

pub pure_append : (fs gs : List Core) → are_pure (forms_of fs) ≡ true → are_pure (forms_of gs) ≡ true → are_pure (forms_of (fs ++ gs)) ≡ true
pure_append [] gs h k = k
pure_append (f ∷ fs) gs h k = let p = and_parts (is_pure (form f)) (are_pure (forms_of fs)) h in both_pure (is_pure (form f)) (are_pure (forms_of (fs ++ gs))) p.0 (pure_append fs gs p.1 k)

pub pure_parts : (fs gs : List Core) → are_pure (forms_of (fs ++ gs)) ≡ true → (are_pure (forms_of fs) ≡ true) × (are_pure (forms_of gs) ≡ true)
pure_parts [] gs h = (refl, h)
pure_parts (f ∷ fs) gs h =
    let p = and_parts (is_pure (form f)) (are_pure (forms_of (fs ++ gs))) h in
    let q = pure_parts fs gs p.1 in (both_pure (is_pure (form f)) (are_pure (forms_of fs)) p.0 q.0, q.1)

pub pure_one : (f : Core) → is_pure (form f) ≡ true → are_pure (forms_of (f ∷ [])) ≡ true
pure_one f h = both_pure (is_pure (form f)) true h refl

pub pure_two : (a b : Bool) → a ≡ true → b ≡ true → (a && (b && true)) ≡ true
pure_two a b h k = grind arith

pub one_pure : (f : Core) → are_pure (forms_of (f ∷ [])) ≡ true → is_pure (form f) ≡ true
one_pure f h = (and_parts (is_pure (form f)) true h).0

pub true_append : (w : Meaning) (fs gs : List Core) (e : List ℤ) → AreFormsTrue w (forms_of fs) e → AreFormsTrue w (forms_of gs) e → AreFormsTrue w (forms_of (fs ++ gs)) e
true_append w [] gs e h k = k
true_append w (f ∷ fs) gs e h k = (h.0, true_append w fs gs e h.1 k)

pub true_parts : (w : Meaning) (fs gs : List Core) (e : List ℤ) → AreFormsTrue w (forms_of (fs ++ gs)) e → AreFormsTrue w (forms_of fs) e × AreFormsTrue w (forms_of gs) e
true_parts w [] gs e h = (tt, h)
true_parts w (f ∷ fs) gs e h = let q = true_parts w fs gs e h.1 in ((h.0, q.0), q.1)

pub false_append : (w : Meaning) (fs gs : List Core) (e : List ℤ) → AreFormsFalse w (forms_of fs) e → AreFormsFalse w (forms_of gs) e → AreFormsFalse w (forms_of (fs ++ gs)) e
false_append w [] gs e h k = k
false_append w (f ∷ fs) gs e h k = (h.0, false_append w fs gs e h.1 k)

pub false_parts : (w : Meaning) (fs gs : List Core) (e : List ℤ) → AreFormsFalse w (forms_of (fs ++ gs)) e → AreFormsFalse w (forms_of fs) e × AreFormsFalse w (forms_of gs) e
false_parts w [] gs e h = (tt, h)
false_parts w (f ∷ fs) gs e h = let q = false_parts w fs gs e h.1 in ((h.0, q.0), q.1)

-- ---- the same formulas
pub same_refl : (n : ℕ) (f : Form) → Same n f f
same_refl n f = record { pure = λ h. h; there = λ w e l h. h; back = λ w e l h. h }

pub same_as : (n : ℕ) (f g : Form) → f ≡ g → Same n f g
same_as n f g is = subst (Same n f) is (same_refl n f)

pub same_trans : (n : ℕ) (f g h : Form) → Same n f g → Same n g h → Same n f h
same_trans n f g h a b = record {
  pure = λ p. b.pure (a.pure p);
  there = λ w e l k. a.there w e l (b.there w e l k);
  back = λ w e l k. b.back w e l (a.back w e l k);
}

-- ---- one member more
pub all_skipped : (old new : List Core) (g : Core) (b : Bool) → new ≡ old → b ≡ true → (b ≡ true → form g ≡ conjunction no_form) → (n : ℕ) → Same n (conjunction (forms_of (old ++ g ∷ []))) (conjunction (forms_of new))
all_skipped old new g b same is known n =
    subst (λ l. Same n (conjunction (forms_of (old ++ g ∷ []))) (conjunction (forms_of l))) (sym same) (record {
      pure = λ h. (pure_parts old (g ∷ []) h).0;
      there = λ w e l h. true_append w old (g ∷ []) e h (subst (λ f. FormTruth w f e) (sym (known is)) tt, tt);
      back = λ w e l h. (true_parts w old (g ∷ []) e h).0;
    })

pub any_skipped : (old new : List Core) (g : Core) (b : Bool) → new ≡ old → b ≡ true → (b ≡ true → form g ≡ disjunction no_form) → (n : ℕ) → Same n (disjunction (forms_of (old ++ g ∷ []))) (disjunction (forms_of new))
any_skipped old new g b same is known n =
    subst (λ l. Same n (disjunction (forms_of (old ++ g ∷ []))) (disjunction (forms_of l))) (sym same) (record {
      pure = λ h. (pure_parts old (g ∷ []) h).0;
      there = λ w e l h none. h (false_parts w old (g ∷ []) e none).0;
      back = λ w e l h none. h (false_append w old (g ∷ []) e none ((λ t. subst (λ f. FormTruth w f e) (known is) t tt), tt));
    })

pub all_pushed : (old new : List Core) (g : Core) → new ≡ old ++ g ∷ [] → (n : ℕ) → Same n (conjunction (forms_of (old ++ g ∷ []))) (conjunction (forms_of new))
all_pushed old new g is n = same_as n (conjunction (forms_of (old ++ g ∷ []))) (conjunction (forms_of new)) (ap (λ l. conjunction (forms_of l)) (sym is))

pub any_pushed : (old new : List Core) (g : Core) → new ≡ old ++ g ∷ [] → (n : ℕ) → Same n (disjunction (forms_of (old ++ g ∷ []))) (disjunction (forms_of new))
any_pushed old new g is n = same_as n (disjunction (forms_of (old ++ g ∷ []))) (disjunction (forms_of new)) (ap (λ l. disjunction (forms_of l)) (sym is))

pub ruleset pushed = (all_skipped, any_skipped, all_pushed, any_pushed)

-- ---- wholes
pub all_is : (fs : List Core) (n : ℕ) → Same n (conjunction (forms_of fs)) (form (c.And fs))
all_is fs n = same_as n (conjunction (forms_of fs)) (form (c.And fs)) (sym (form-And fs))

pub any_is : (fs : List Core) (n : ℕ) → Same n (disjunction (forms_of fs)) (form (c.Or fs))
any_is fs n = same_as n (disjunction (forms_of fs)) (form (c.Or fs)) (sym (form-Or fs))

single : (fs : List Core) (f : Core) (rest : List Core) → length fs ≡ 1 → fs ≡ rest ++ f ∷ [] → fs ≡ f ∷ []
single fs f [] len is = is
single fs f (g ∷ rest) len is = absurd (omega (arith, ap length is, len, more rest))
  where
    more : (rest : List Core) → 1 ≤ length (rest ++ f ∷ [])
    more [] = omega arith
    more (x ∷ xs) = omega arith

pub all_one : (fs rest : List Core) (f : Core) → length fs ≡ 1 → fs ≡ rest ++ f ∷ [] → (n : ℕ) → Same n (conjunction (forms_of fs)) (form f)
all_one fs rest f len is n =
    subst (λ l. Same n (conjunction (forms_of l)) (form f)) (sym (single fs f rest len is)) (record {
      pure = λ h. one_pure f h;
      there = λ w e l h. (h, tt);
      back = λ w e l h. h.0;
    })

pub any_one : (fs rest : List Core) (f : Core) → length fs ≡ 1 → fs ≡ rest ++ f ∷ [] → (n : ℕ) → Same n (disjunction (forms_of fs)) (form f)
any_one fs rest f len is n =
    subst (λ l. Same n (disjunction (forms_of l)) (form f)) (sym (single fs f rest len is)) (record {
      pure = λ h. one_pure f h;
      there = λ w e l h none. none.0 h;
      back = λ w e l h. form_stable w (form f) e (λ k. h (k, tt));
    })

pub ruleset wholes = (all_is, any_is, all_one, any_one)

-- ---- two formulas
pub boths_left : (f g h : Core) → form f ≡ disjunction no_form → form h ≡ form f → (n : ℕ) → Same n (conjunction (and_form (form f) (and_form (form g) no_form))) (form h)
boths_left f g h bad is n = record {
  pure = λ p. subst (λ z. is_pure z ≡ true) (sym is) (and_parts (is_pure (form f)) (is_pure (form g) && true) p).0;
  there = λ w e l k. absurd (subst (λ z. FormTruth w z e) (is ∙ bad) k tt);
  back = λ w e l k. subst (λ z. FormTruth w z e) (sym is) k.0;
}

pub boths_right : (f g h : Core) → form g ≡ disjunction no_form → form h ≡ form g → (n : ℕ) → Same n (conjunction (and_form (form f) (and_form (form g) no_form))) (form h)
boths_right f g h bad is n = record {
  pure = λ p. subst (λ z. is_pure z ≡ true) (sym is) (and_parts (is_pure (form g)) true (and_parts (is_pure (form f)) (is_pure (form g) && true) p).1).0;
  there = λ w e l k. absurd (subst (λ z. FormTruth w z e) (is ∙ bad) k tt);
  back = λ w e l k. subst (λ z. FormTruth w z e) (sym is) k.1.0;
}

pub eithers_left : (f g h : Core) → form f ≡ conjunction no_form → form h ≡ form f → (n : ℕ) → Same n (disjunction (and_form (form f) (and_form (form g) no_form))) (form h)
eithers_left f g h good is n = record {
  pure = λ p. subst (λ z. is_pure z ≡ true) (sym is) (and_parts (is_pure (form f)) (is_pure (form g) && true) p).0;
  there = λ w e l k none. none.0 (subst (λ z. FormTruth w z e) is k);
  back = λ w e l k. subst (λ z. FormTruth w z e) (sym (is ∙ good)) tt;
}

pub eithers_right : (f g h : Core) → form g ≡ conjunction no_form → form h ≡ form g → (n : ℕ) → Same n (disjunction (and_form (form f) (and_form (form g) no_form))) (form h)
eithers_right f g h good is n = record {
  pure = λ p. subst (λ z. is_pure z ≡ true) (sym is) (and_parts (is_pure (form g)) true (and_parts (is_pure (form f)) (is_pure (form g) && true) p).1).0;
  there = λ w e l k none. none.1.0 (subst (λ z. FormTruth w z e) is k);
  back = λ w e l k. subst (λ z. FormTruth w z e) (sym (is ∙ good)) tt;
}

pub falses_stable : (w : Meaning) (fs : Forms) (e : List ℤ) → ¬ (¬ (AreFormsFalse w fs e)) → AreFormsFalse w fs e
falses_stable w no_form e h = tt
falses_stable w (and_form f fs) e h = ((λ t. h (λ k. k.0 t)), falses_stable w fs e (λ m. h (λ k. m k.1)))

-- the members so far with one more
pub same_more_all : (n : ℕ) (fs gs : List Core) (g : Core) → Same n (conjunction (forms_of fs)) (conjunction (forms_of gs)) → Same n (conjunction (forms_of (fs ++ g ∷ []))) (conjunction (forms_of (gs ++ g ∷ [])))
same_more_all n fs gs g h = record {
  pure = λ p. let q = pure_parts fs (g ∷ []) p in pure_append gs (g ∷ []) (h.pure q.0) q.1;
  there = λ w e l k. let q = true_parts w gs (g ∷ []) e k in true_append w fs (g ∷ []) e (h.there w e l q.0) q.1;
  back = λ w e l k. let q = true_parts w fs (g ∷ []) e k in true_append w gs (g ∷ []) e (h.back w e l q.0) q.1;
}

pub same_more_any : (n : ℕ) (fs gs : List Core) (g : Core) → Same n (disjunction (forms_of fs)) (disjunction (forms_of gs)) → Same n (disjunction (forms_of (fs ++ g ∷ []))) (disjunction (forms_of (gs ++ g ∷ [])))
same_more_any n fs gs g h = record {
  pure = λ p. let q = pure_parts fs (g ∷ []) p in pure_append gs (g ∷ []) (h.pure q.0) q.1;
  there = λ w e l k none. let q = false_parts w fs (g ∷ []) e none in k (false_append w gs (g ∷ []) e (flip w e l (h.there w e l) q.0) q.1);
  back = λ w e l k none. let q = false_parts w gs (g ∷ []) e none in k (false_append w fs (g ∷ []) e (flop w e l (h.back w e l) q.0) q.1);
}
  where
    flip : (w : Meaning) (e : List ℤ) → length e ≡ n → (FormTruth w (disjunction (forms_of gs)) e → FormTruth w (disjunction (forms_of fs)) e) → AreFormsFalse w (forms_of fs) e → AreFormsFalse w (forms_of gs) e
    flip w e l k none = falses_stable w (forms_of gs) e (λ m. k m none)

    flop : (w : Meaning) (e : List ℤ) → length e ≡ n → (FormTruth w (disjunction (forms_of fs)) e → FormTruth w (disjunction (forms_of gs)) e) → AreFormsFalse w (forms_of gs) e → AreFormsFalse w (forms_of fs) e
    flop w e l k none = falses_stable w (forms_of fs) e (λ m. k m none)

two_all : (n : ℕ) (f g : Core) (a b out : List Core) → a ≡ [] → Same n (conjunction (forms_of (a ++ f ∷ []))) (conjunction (forms_of b)) → Same n (conjunction (forms_of (b ++ g ∷ []))) (conjunction (forms_of out))
    → Same n (conjunction (and_form (form f) (and_form (form g) no_form))) (conjunction (forms_of out))
two_all n f g a b out none h k =
    let one : Same n (conjunction (forms_of (f ∷ []))) (conjunction (forms_of b)) = subst (λ l. Same n (conjunction (forms_of (l ++ f ∷ []))) (conjunction (forms_of b))) none h in
    same_trans n _ (conjunction (forms_of (b ++ g ∷ []))) _ (same_more_all n (f ∷ []) b g one) k

two_any : (n : ℕ) (f g : Core) (a b out : List Core) → a ≡ [] → Same n (disjunction (forms_of (a ++ f ∷ []))) (disjunction (forms_of b)) → Same n (disjunction (forms_of (b ++ g ∷ []))) (disjunction (forms_of out))
    → Same n (disjunction (and_form (form f) (and_form (form g) no_form))) (disjunction (forms_of out))
two_any n f g a b out none h k =
    let one : Same n (disjunction (forms_of (f ∷ []))) (disjunction (forms_of b)) = subst (λ l. Same n (disjunction (forms_of (l ++ f ∷ []))) (disjunction (forms_of b))) none h in
    same_trans n _ (disjunction (forms_of (b ++ g ∷ []))) _ (same_more_any n (f ∷ []) b g one) k

pub boths_all : (f g h : Core) (a b out : List Core) → a ≡ [] → ((n : ℕ) → Same n (conjunction (forms_of (a ++ f ∷ []))) (conjunction (forms_of b)))
    → ((n : ℕ) → Same n (conjunction (forms_of (b ++ g ∷ []))) (conjunction (forms_of out))) → ((n : ℕ) → Same n (conjunction (forms_of out)) (form h))
    → (n : ℕ) → Same n (conjunction (and_form (form f) (and_form (form g) no_form))) (form h)
boths_all f g h a b out none x y z n = same_trans n _ (conjunction (forms_of out)) _ (two_all n f g a b out none (x n) (y n)) (z n)

pub boths_any : (f g h : Core) (a b out : List Core) → a ≡ [] → ((n : ℕ) → Same n (disjunction (forms_of (a ++ f ∷ []))) (disjunction (forms_of b)))
    → ((n : ℕ) → Same n (disjunction (forms_of (b ++ g ∷ []))) (disjunction (forms_of out))) → ((n : ℕ) → Same n (disjunction (forms_of out)) (form h))
    → (n : ℕ) → Same n (disjunction (and_form (form f) (and_form (form g) no_form))) (form h)
boths_any f g h a b out none x y z n = same_trans n _ (disjunction (forms_of out)) _ (two_any n f g a b out none (x n) (y n)) (z n)

pub ruleset boths = (boths_left, boths_right, eithers_left, eithers_right, boths_all, boths_any)
