-- Operators at sound arguments of the sorts that they need are sound.
use Rattle.std.proofs.Common.{ℕ, suc, ◌≡◌, ◌≤◌, ◌&&◌, ◌||◌, Bool, true, false, List, [], ◌∷◌, ◌++◌, length, map, refl, ap, ◌∙◌, arith}
use Rattle.form_typed.specs.declared.typed.Relation.{Relation}
use Rattle.form_typed.specs.Formula as logic
use Rattle.form_typed.specs.Formula.{Formula, Formulas, Expression, Expressions, formulas, expressions}
use Rattle.pri_typing.specs.declared.problem.Symbol.{Symbol}
use Rattle.pri_typing.specs.Everywhere.{Property, Everywhere, AllEverywhere, TermEverywhere, TermsEverywhere}
use Rattle.pri_typing.specs.WellFormed.{is_numeric, size}
use Rattle.smt_terms.specs.declared.operator.Sort.{Sort}
use Rattle.smt_terms.specs.declared.operator.Sort.TheVariants as sort
use Rattle.smt_terms.specs.declared.operator.Operator.TheVariants as op
use Rattle.smt_terms.specs.Operators.{neighbours, pairs}
use Rattle.smt_terms.specs.Translation.{Said, a_formula, a_term, formula_in, term_in, joined, either_said, implied_said, multiplied, subtracted, equal_said, unequal_said, compared_said, chosen_said, operated}
use Rattle.smt_reader.specs.Formed.{Sound}

-- what a term becomes, with m binders around it, is of this sort and sound
abbrev pub IsSaid : Property → ℕ → Sort → Said → Type 0
IsSaid Q m sort.Int (a_term t) = TermEverywhere Q m t
IsSaid Q m sort.Bool (a_formula f) = Everywhere Q m f
IsSaid Q m sort.Int (a_formula f) = ⊥
IsSaid Q m sort.Bool (a_term t) = ⊥

-- all are of this sort
abbrev pub AreSaid : Property → ℕ → Sort → List Said → Type 0
AreSaid Q m k [] = Unit {0}
AreSaid Q m k (s ∷ ss) = IsSaid Q m k s × AreSaid Q m k ss

-- all formulas of a list are sound, and all terms
abbrev pub AllSound : Property → ℕ → List Formula → Type 0
AllSound Q m [] = Unit {0}
AllSound Q m (f ∷ fs) = Everywhere Q m f × AllSound Q m fs

abbrev pub TermsSound : Property → ℕ → List Expression → Type 0
TermsSound Q m [] = Unit {0}
TermsSound Q m (t ∷ ts) = TermEverywhere Q m t × TermsSound Q m ts

pub all_everywhere : (Q : Property) (m : ℕ) (fs : List Formula) → AllSound Q m fs → AllEverywhere Q m (formulas fs)
all_everywhere Q m [] h = tt
all_everywhere Q m (f ∷ fs) h = (h.0, all_everywhere Q m fs h.1)

pub terms_everywhere : (Q : Property) (m : ℕ) (ts : List Expression) → TermsSound Q m ts → TermsEverywhere Q m (expressions ts)
terms_everywhere Q m [] h = tt
terms_everywhere Q m (t ∷ ts) h = (h.0, terms_everywhere Q m ts h.1)

pub formula_of : (Q : Property) (m : ℕ) (s : Said) → IsSaid Q m sort.Bool s → Everywhere Q m (formula_in s)
formula_of Q m (a_formula f) h = h
formula_of Q m (a_term t) h = elim h [ ]

pub term_of : (Q : Property) (m : ℕ) (s : Said) → IsSaid Q m sort.Int s → TermEverywhere Q m (term_in s)
term_of Q m (a_term t) h = h
term_of Q m (a_formula f) h = elim h [ ]

pub formulas_of : (Q : Property) (m : ℕ) (ss : List Said) → AreSaid Q m sort.Bool ss → AllSound Q m (map formula_in ss)
formulas_of Q m [] h = tt
formulas_of Q m (s ∷ ss) h = (formula_of Q m s h.0, formulas_of Q m ss h.1)

pub terms_of : (Q : Property) (m : ℕ) (ss : List Said) → AreSaid Q m sort.Int ss → TermsSound Q m (map term_in ss)
terms_of Q m [] h = tt
terms_of Q m (s ∷ ss) h = (term_of Q m s h.0, terms_of Q m ss h.1)

pub all_append : (Q : Property) (m : ℕ) (fs gs : List Formula) → AllSound Q m fs → AllSound Q m gs → AllSound Q m (fs ++ gs)
all_append Q m [] gs h k = k
all_append Q m (f ∷ fs) gs h k = (h.0, all_append Q m fs gs h.1 k)

-- those of a list that are not built of numerals
abbrev pub plain_by : Bool → ℕ → ℕ
plain_by true n = n
plain_by false n = suc n

abbrev pub plain : List Expression → ℕ
plain [] = 0
plain (t ∷ ts) = plain_by (is_numeric t) (plain ts)

module _ (c : ℕ) (functions predicates : List Symbol) where
  abbrev Q : Property
  Q = Sound c functions predicates

  pub joined_sound : (m : ℕ) (fs : List Formula) → AllSound Q m fs → Everywhere Q m (joined fs)
  joined_sound m [] h = ((tt, tt, tt), tt)
  joined_sound m (f ∷ []) h = h.0
  joined_sound m (f ∷ (g ∷ fs)) h = ((tt, tt, tt), all_everywhere Q m (f ∷ (g ∷ fs)) h)

  pub either_sound : (m : ℕ) (f : Formula) (fs : List Formula) → Everywhere Q m f → AllSound Q m fs → Everywhere Q m (either_said f fs)
  either_sound m f [] h k = h
  either_sound m f (g ∷ gs) h k = either_sound m (logic.negation (logic.iff f g)) gs ((tt, tt, tt), ((tt, tt, tt), h, k.0)) k.1

  pub implied_sound : (m : ℕ) (fs : List Formula) → AllSound Q m fs → Everywhere Q m (implied_said fs)
  implied_sound m [] h = ((tt, tt, tt), tt)
  implied_sound m (f ∷ []) h = h.0
  implied_sound m (f ∷ (g ∷ fs)) h = ((tt, tt, tt), h.0, implied_sound m (g ∷ fs) h.1)

  -- two of one sort
  pub equal_sound : (m : ℕ) (k : Sort) (s t : Said) → IsSaid Q m k s → IsSaid Q m k t → Everywhere Q m (equal_said s t)
  equal_sound m sort.Int (a_term s) (a_term t) h l = ((tt, tt, tt), h, l)
  equal_sound m sort.Bool (a_formula f) (a_formula g) h l = ((tt, tt, tt), h, l)
  equal_sound m sort.Int (a_formula f) t h l = elim h [ ]
  equal_sound m sort.Int (a_term s) (a_formula g) h l = elim l [ ]
  equal_sound m sort.Bool (a_term s) t h l = elim h [ ]
  equal_sound m sort.Bool (a_formula f) (a_term t) h l = elim l [ ]

  pub unequal_sound : (m : ℕ) (k : Sort) (s t : Said) → IsSaid Q m k s → IsSaid Q m k t → Everywhere Q m (unequal_said s t)
  unequal_sound m sort.Int (a_term s) (a_term t) h l = ((tt, tt, tt), h, l)
  unequal_sound m sort.Bool (a_formula f) (a_formula g) h l = ((tt, tt, tt), ((tt, tt, tt), h, l))
  unequal_sound m sort.Int (a_formula f) t h l = elim h [ ]
  unequal_sound m sort.Int (a_term s) (a_formula g) h l = elim l [ ]
  unequal_sound m sort.Bool (a_term s) t h l = elim h [ ]
  unequal_sound m sort.Bool (a_formula f) (a_term t) h l = elim l [ ]

  pub compared_sound : (m : ℕ) (r : Relation) (s t : Said) → IsSaid Q m sort.Int s → IsSaid Q m sort.Int t → Everywhere Q m (compared_said r s t)
  compared_sound m r s t h l = ((tt, tt, tt), term_of Q m s h, term_of Q m t l)

  -- neighbours and pairs, by what is so of two
  pub neighbours_sound : (m : ℕ) (k : Sort) (f : Said → Said → Formula) → ((s t : Said) → IsSaid Q m k s → IsSaid Q m k t → Everywhere Q m (f s t))
      → (ss : List Said) → AreSaid Q m k ss → AllSound Q m (neighbours f ss)
  neighbours_sound m k f two [] h = tt
  neighbours_sound m k f two (s ∷ []) h = tt
  neighbours_sound m k f two (s ∷ (t ∷ ss)) h = (two s t h.0 h.1.0, neighbours_sound m k f two (t ∷ ss) h.1)

  each_sound : (m : ℕ) (k : Sort) (f : Said → Said → Formula) → ((s t : Said) → IsSaid Q m k s → IsSaid Q m k t → Everywhere Q m (f s t))
      → (s : Said) → IsSaid Q m k s → (ss : List Said) → AreSaid Q m k ss → AllSound Q m (map (f s) ss)
  each_sound m k f two s l [] h = tt
  each_sound m k f two s l (t ∷ ss) h = (two s t l h.0, each_sound m k f two s l ss h.1)

  pub pairs_sound : (m : ℕ) (k : Sort) (f : Said → Said → Formula) → ((s t : Said) → IsSaid Q m k s → IsSaid Q m k t → Everywhere Q m (f s t))
      → (ss : List Said) → AreSaid Q m k ss → AllSound Q m (pairs f ss)
  pairs_sound m k f two [] h = tt
  pairs_sound m k f two (s ∷ ss) h = all_append Q m (map (f s) ss) (pairs f ss) (each_sound m k f two s h.0 ss h.1) (pairs_sound m k f two ss h.1)

  pub chosen_sound : (m : ℕ) (k : Sort) (f : Formula) (s t : Said) → Everywhere Q m f → IsSaid Q m k s → IsSaid Q m k t → IsSaid Q m k (chosen_said f s t)
  chosen_sound m sort.Int f (a_term s) t h l r = ((tt, tt, tt, tt, tt), h, l, term_of Q m t r)
  chosen_sound m sort.Bool f (a_formula g) t h l r = ((tt, tt, tt), (((tt, tt, tt), h, l), (((tt, tt, tt), (h, (formula_of Q m t r, tt))), tt)))
  chosen_sound m sort.Int f (a_formula g) t h l r = elim l [ ]
  chosen_sound m sort.Bool f (a_term s) t h l r = elim l [ ]

  minus_all : (m : ℕ) (ts : List Expression) → TermsSound Q m ts → TermsSound Q m (map logic.minus ts)
  minus_all m [] h = tt
  minus_all m (t ∷ ts) h = (((tt, tt, tt, tt, tt), h.0), minus_all m ts h.1)

  some : (t : Expression) (ts : List Expression) → 1 ≤ size (expressions (t ∷ ts))
  some t ts = omega arith

  pub total_sound : (m : ℕ) (t : Expression) (ts : List Expression) → TermsSound Q m (t ∷ ts) → TermEverywhere Q m (logic.total (expressions (t ∷ ts)))
  total_sound m t ts h = ((tt, tt, tt, some t ts, tt), terms_everywhere Q m (t ∷ ts) h)

  pub subtracted_sound : (m : ℕ) (t : Expression) (ts : List Expression) → TermsSound Q m (t ∷ ts) → TermEverywhere Q m (subtracted (t ∷ ts))
  subtracted_sound m t [] h = ((tt, tt, tt, tt, tt), h.0)
  subtracted_sound m t (s ∷ ts) h = total_sound m t (map logic.minus (s ∷ ts)) (h.0, minus_all m (s ∷ ts) h.1)

  -- Products: the first is built of numerals, or all others are but for one, which is not if the first is not.

  either_one : (a b : Bool) → b ≡ true → (a || b) ≡ true
  either_one true b e = refl
  either_one false b e = e

  first_one : (a b : Bool) → a ≡ true → (a || b) ≡ true
  first_one a b e = ap (λ z. z || b) e

  both_one : (a b : Bool) → a ≡ true → b ≡ true → (a && b) ≡ true
  both_one a b e f = ap (λ z. z && b) e ∙ f

  -- where the first is not numeric all others are
  after_by : (m : ℕ) (s t : Expression) (ts : List Expression) (b : Bool) → is_numeric t ≡ b → plain_by b (plain ts) ≡ 0 → TermEverywhere Q m s → TermEverywhere Q m t
      → (TermEverywhere Q m (logic.product s t) → plain ts ≡ 0 → TermEverywhere Q m (multiplied (logic.product s t) ts)) → TermEverywhere Q m (multiplied s (t ∷ ts))
  after_by m s t ts true n p h k next = next ((tt, tt, tt, tt, either_one (is_numeric s) (is_numeric t) n), h, k) p
  after_by m s t ts false n p h k next = absurd (omega arith)

  pub multiplied_after : (m : ℕ) (s : Expression) (ts : List Expression) → TermEverywhere Q m s → TermsSound Q m ts → plain ts ≡ 0 → TermEverywhere Q m (multiplied s ts)
  multiplied_after m s [] h k e = h
  multiplied_after m s (t ∷ ts) h k e = after_by m s t ts (is_numeric t) refl e h k.0 (λ p q. multiplied_after m (logic.product s t) ts p k.1 q)

  numeric_by : (m : ℕ) (s t : Expression) (ts : List Expression) (b : Bool) → is_numeric t ≡ b → plain_by b (plain ts) ≤ 1 → is_numeric s ≡ true → TermEverywhere Q m (logic.product s t) → TermsSound Q m ts
      → (is_numeric (logic.product s t) ≡ true → plain ts ≤ 1 → TermEverywhere Q m (multiplied (logic.product s t) ts)) → TermEverywhere Q m (multiplied s (t ∷ ts))
  numeric_by m s t ts true l p n h k next = next (both_one (is_numeric s) (is_numeric t) n l) p
  numeric_by m s t ts false l p n h k next = multiplied_after m (logic.product s t) ts h k (omega arith)

  pub multiplied_sound : (m : ℕ) (s : Expression) (ts : List Expression) → is_numeric s ≡ true → TermEverywhere Q m s → TermsSound Q m ts → plain ts ≤ 1 → TermEverywhere Q m (multiplied s ts)
  multiplied_sound m s [] n h k e = h
  multiplied_sound m s (t ∷ ts) n h k e =
      let product : TermEverywhere Q m (logic.product s t) = ((tt, tt, tt, tt, first_one (is_numeric s) (is_numeric t) n), h, k.0) in
      numeric_by m s t ts (is_numeric t) refl e n product k.1 (λ l q. multiplied_sound m (logic.product s t) ts l product k.1 q)

  product_by : (m : ℕ) (s : Expression) (ts : List Expression) (b : Bool) → is_numeric s ≡ b → plain_by b (plain ts) ≤ 1 → TermsSound Q m (s ∷ ts) → TermEverywhere Q m (multiplied s ts)
  product_by m s ts true n p h = multiplied_sound m s ts n h.0 h.1 p
  product_by m s ts false n p h = multiplied_after m s ts h.0 h.1 (omega arith)

  pub product_sound : (m : ℕ) (s : Expression) (ts : List Expression) → TermsSound Q m (s ∷ ts) → plain (s ∷ ts) ≤ 1 → TermEverywhere Q m (multiplied s ts)
  product_sound m s ts h e = product_by m s ts (is_numeric s) refl e h

  -- Operators.

  pub truth_said : (m : ℕ) (b : Bool) (ss : List Said) → IsSaid Q m sort.Bool (operated (op.Truth b) ss)
  truth_said m b ss = (tt, tt, tt)

  pub not_said : (m : ℕ) (ss : List Said) → length ss ≡ 1 → AreSaid Q m sort.Bool ss → IsSaid Q m sort.Bool (operated op.Not ss)
  not_said m [] e h = absurd (omega arith)
  not_said m (s ∷ ss) e h = ((tt, tt, tt), formula_of Q m s h.0)

  pub and_said : (m : ℕ) (ss : List Said) → 1 ≤ length ss → AreSaid Q m sort.Bool ss → IsSaid Q m sort.Bool (operated op.And ss)
  and_said m [] e h = absurd (omega arith)
  and_said m (s ∷ []) e h = h.0
  and_said m (s ∷ (t ∷ ss)) e h = ((tt, tt, tt), all_everywhere Q m (map formula_in (s ∷ (t ∷ ss))) (formulas_of Q m (s ∷ (t ∷ ss)) h))

  pub or_said : (m : ℕ) (ss : List Said) → 1 ≤ length ss → AreSaid Q m sort.Bool ss → IsSaid Q m sort.Bool (operated op.Or ss)
  or_said m [] e h = absurd (omega arith)
  or_said m (s ∷ []) e h = h.0
  or_said m (s ∷ (t ∷ ss)) e h = ((tt, tt, tt), all_everywhere Q m (map formula_in (s ∷ (t ∷ ss))) (formulas_of Q m (s ∷ (t ∷ ss)) h))

  pub xor_said : (m : ℕ) (ss : List Said) → 2 ≤ length ss → AreSaid Q m sort.Bool ss → IsSaid Q m sort.Bool (operated op.Xor ss)
  xor_said m [] e h = absurd (omega arith)
  xor_said m (s ∷ []) e h = h.0
  xor_said m (s ∷ (t ∷ ss)) e h = either_sound m (formula_in s) (map formula_in (t ∷ ss)) (formula_of Q m s h.0) (formulas_of Q m (t ∷ ss) h.1)

  pub implies_said : (m : ℕ) (ss : List Said) → 2 ≤ length ss → AreSaid Q m sort.Bool ss → IsSaid Q m sort.Bool (operated op.Implies ss)
  implies_said m [] e h = absurd (omega arith)
  implies_said m (s ∷ []) e h = h.0
  implies_said m (s ∷ (t ∷ ss)) e h = implied_sound m (map formula_in (s ∷ (t ∷ ss))) (formulas_of Q m (s ∷ (t ∷ ss)) h)

  pub equals_said : (m : ℕ) (k : Sort) (ss : List Said) → AreSaid Q m k ss → IsSaid Q m sort.Bool (operated op.Equal ss)
  equals_said m k ss h = joined_sound m (neighbours equal_said ss) (neighbours_sound m k equal_said (equal_sound m k) ss h)

  pub distinct_said : (m : ℕ) (k : Sort) (ss : List Said) → AreSaid Q m k ss → IsSaid Q m sort.Bool (operated op.Distinct ss)
  distinct_said m k ss h = joined_sound m (pairs unequal_said ss) (pairs_sound m k unequal_said (unequal_sound m k) ss h)

  pub compare_said : (m : ℕ) (r : Relation) (ss : List Said) → AreSaid Q m sort.Int ss → IsSaid Q m sort.Bool (operated (op.Compare r) ss)
  compare_said m r ss h = joined_sound m (neighbours (compared_said r) ss) (neighbours_sound m sort.Int (compared_said r) (compared_sound m r) ss h)

  pub choose_said : (m : ℕ) (k : Sort) (b s t : Said) → IsSaid Q m sort.Bool b → IsSaid Q m k s → IsSaid Q m k t → IsSaid Q m k (operated op.Choose (b ∷ (s ∷ (t ∷ []))))
  choose_said m k b s t h l r = chosen_sound m k (formula_in b) s t (formula_of Q m b h) l r

  pub plus_said : (m : ℕ) (ss : List Said) → 1 ≤ length ss → AreSaid Q m sort.Int ss → IsSaid Q m sort.Int (operated op.Plus ss)
  plus_said m [] e h = absurd (omega arith)
  plus_said m (s ∷ []) e h = h.0
  plus_said m (s ∷ (t ∷ ss)) e h = total_sound m (term_in s) (map term_in (t ∷ ss)) (terms_of Q m (s ∷ (t ∷ ss)) h)

  pub minus_said : (m : ℕ) (ss : List Said) → 1 ≤ length ss → AreSaid Q m sort.Int ss → IsSaid Q m sort.Int (operated op.Minus ss)
  minus_said m [] e h = absurd (omega arith)
  minus_said m (s ∷ ss) e h = subtracted_sound m (term_in s) (map term_in ss) (terms_of Q m (s ∷ ss) h)

  pub times_said : (m : ℕ) (ss : List Said) → 2 ≤ length ss → AreSaid Q m sort.Int ss → plain (map term_in ss) ≤ 1 → IsSaid Q m sort.Int (operated op.Times ss)
  times_said m [] e h p = absurd (omega arith)
  times_said m (s ∷ []) e h p = h.0
  times_said m (s ∷ (t ∷ ss)) e h p = product_sound m (term_in s) (map term_in (t ∷ ss)) (terms_of Q m (s ∷ (t ∷ ss)) h) p

  pub abs_said : (m : ℕ) (ss : List Said) → length ss ≡ 1 → AreSaid Q m sort.Int ss → IsSaid Q m sort.Int (operated op.Abs ss)
  abs_said m [] e h = absurd (omega arith)
  abs_said m (s ∷ ss) e h = ((tt, tt, tt, tt, tt), term_of Q m s h.0)
