-- The values of the terms of a model.
use Rattle.std.proofs.Common.{◌≡◌, ℕ, suc, ◌&&◌, ℤ, pos, negsuc, Bool, true, false, List, [], ◌∷◌, length, map, Some, None, refl, sym, ap, subst, ◌∙◌, arith}
use Rattle.std.specs.Prelude.{codes}
use Rattle.std.specs.Bool.{Decides}
use Rattle.std.specs.List.{AllByRecursion}
use Rattle.std.specs.Ordering.{int_eq}
use Rattle.std.proofs.lemmas.Bool.Decides.{Decides-int_eq}
use Rattle.model_table.specs.Models.{is_at, truth_in, value_in}
use Rattle.model_table.specs.declared.model.TruthEntry.{TruthEntry}
use Rattle.model_table.specs.declared.model.ValueEntry.{ValueEntry}
use Rattle.smt_terms.specs.declared.operator.Operator.{Operator}
use Rattle.smt_terms.specs.declared.operator.Operator.TheVariants as op
use Rattle.smt_terms.specs.Evaluation.{Symbols, Values, UseHas, Has, HaveAll}
use Rattle.smt_terms.specs.Operators.{Value, integer, truth, applied, found, operator_of, all_of, as_truth}
use Rattle.smt_terms.specs.Term.{PlacedTerm, phrases}
use Rattle.smt_models.specs.Terms.{all_terms, argument, equation, equations, integer_term, truth_term, truths_term, use_of, values_term}
use Rattle.smt_models.proofs.Parameters.{Finds, ShowsOperators}

module _ (S : Symbols) (b : Values) where
  -- the value of the term is v
  pub record Gives (t : PlacedTerm) (v : Value) : Type 1 where
    pub at : (P : Value → Type 0) → Has S b t P ≡ P v

  -- the values of the terms are these
  pub record GiveAll (ts : List PlacedTerm) (vs : List Value) : Type 1 where
    pub at : (P : List Value → Type 0) → HaveAll S b (phrases ts) P ≡ P vs

  none : GiveAll [] []
  none = record { at = λ P. refl }

  more : (t : PlacedTerm) (v : Value) (ts : List PlacedTerm) (vs : List Value) → Gives t v → GiveAll ts vs → GiveAll (t ∷ ts) (v ∷ vs)
  more t v ts vs g h = record { at = λ P. g.at (λ x. HaveAll S b (phrases ts) (λ xs. P (x ∷ xs))) ∙ h.at (λ xs. P (v ∷ xs)) }

  operator_at : (x : List ℕ) (o : Operator) (ts : List PlacedTerm) (vs : List Value) → found x b ≡ None → operator_of x ≡ Some o → GiveAll ts vs → Gives (use_of x ts) (applied o vs)
  operator_at x o ts vs free is h = record {
    at = λ P. h.at (λ xs. UseHas S (found x b) (operator_of x) x xs P) ∙ ap (λ z. UseHas S z (operator_of x) x vs P) free ∙ ap (λ z. UseHas S None z x vs P) is;
  }

  parameter_at : (k : ℕ) (v : Value) → found (argument k) b ≡ Some v → Gives (use_of (argument k) []) v
  parameter_at k v is = record { at = λ P. ap (λ z. UseHas S z (operator_of (argument k)) (argument k) [] P) is }

  numeral_at : (n : ℕ) → Gives (integer_term (pos n)) (integer (pos n))
  numeral_at n = record { at = λ P. refl }

  module _ (shown : ShowsOperators b) where
    pub integer_at : (v : ℤ) → Gives (integer_term v) (integer v)
    integer_at (pos n) = numeral_at n
    integer_at (negsuc n) = operator_at (codes "-") op.Minus (integer_term (pos (suc n)) ∷ []) (integer (pos (suc n)) ∷ []) shown.minus refl (more _ _ [] [] (numeral_at (suc n)) none)

    pub truth_at : (t : Bool) → Gives (truth_term t) (truth t)
    truth_at true = operator_at (codes "true") (op.Truth true) [] [] shown.yes refl none
    truth_at false = operator_at (codes "false") (op.Truth false) [] [] shown.no refl none

    equation_at : (k : ℕ) (x v : ℤ) → found (argument k) b ≡ Some (integer x) → Gives (equation k v) (truth (int_eq x v && true))
    equation_at k x v is =
        operator_at (codes "=") op.Equal (use_of (argument k) [] ∷ (integer_term v ∷ [])) (integer x ∷ (integer v ∷ [])) shown.equal refl
        (more _ _ _ _ (parameter_at k (integer x) is) (more _ _ [] [] (integer_at v) none))

    -- whether each parameter is the integer at its place
    abbrev pub same : List ℤ → List ℤ → List Bool
    same [] vs = []
    same (x ∷ xs) [] = []
    same (x ∷ xs) (v ∷ vs) = (int_eq x v && true) ∷ same xs vs

    equations_at : (k : ℕ) (xs vs : List ℤ) → length vs ≡ length xs → Finds b k xs → GiveAll (equations k vs) (map truth (same xs vs))
    equations_at k [] [] len h = none
    equations_at k [] (v ∷ vs) len h = absurd (omega (arith, len))
    equations_at k (x ∷ xs) [] len h = absurd (omega (arith, len))
    equations_at k (x ∷ xs) (v ∷ vs) len h = more (equation k v) (truth (int_eq x v && true)) (equations (suc k) vs) (map truth (same xs vs)) (equation_at k x v h.0) (equations_at (suc k) xs vs (omega (arith, len)) h.1)

    truths_are : (bs : List Bool) → map as_truth (map truth bs) ≡ bs
    truths_are [] = refl
    truths_are (t ∷ bs) = ap (λ z. t ∷ z) (truths_are bs)

    is_true : (t : Bool) → t && true ≡ t
    is_true true = refl
    is_true false = refl

    flipped : (x v : ℤ) → int_eq x v ≡ int_eq v x
    flipped x v = by (int_eq x v) (int_eq v x) (Decides-int_eq x v) (Decides-int_eq v x)
      where
        by : (s t : Bool) → Decides s (x ≡ v) → Decides t (v ≡ x) → s ≡ t
        by true t h k = sym (k.1 (sym (h.0 refl)))
        by false true h k = h.1 (sym (k.0 refl))
        by false false h k = refl

    all_same : (xs vs : List ℤ) → length vs ≡ length xs → all_of (same xs vs) ≡ is_at vs xs
    all_same [] [] len = refl
    all_same [] (v ∷ vs) len = absurd (omega (arith, len))
    all_same (x ∷ xs) [] len = absurd (omega (arith, len))
    all_same (x ∷ xs) (v ∷ vs) len = ap (λ z. (int_eq x v && true) && z) (all_same xs vs (omega (arith, len))) ∙ ap (λ z. z && is_at vs xs) (is_true (int_eq x v) ∙ flipped x v)

    place_by : (xs vs : List ℤ) → length vs ≡ length xs → GiveAll (equations 0 vs) (map truth (same xs vs)) → Finds b 0 xs → Gives (all_terms (equations 0 vs)) (truth (all_of (same xs vs)))
    place_by [] [] len h f = truth_at true
    place_by [] (v ∷ vs) len h f = absurd (omega (arith, len))
    place_by (x ∷ xs) [] len h f = absurd (omega (arith, len))
    place_by (x ∷ []) (v ∷ []) len h f = subst (λ z. Gives (equation 0 v) (truth z)) (sym (is_true (int_eq x v && true))) (equation_at 0 x v f.0)
    place_by (x ∷ []) (v ∷ (s ∷ vs)) len h f = absurd (omega (arith, len))
    place_by (x ∷ (y ∷ xs)) (v ∷ []) len h f = absurd (omega (arith, len))
    place_by (x ∷ (y ∷ xs)) (v ∷ (s ∷ vs)) len h f =
        subst (λ z. Gives (use_of (codes "and") (equations 0 (v ∷ (s ∷ vs)))) (truth (all_of z))) (truths_are (same (x ∷ (y ∷ xs)) (v ∷ (s ∷ vs))))
        (operator_at (codes "and") op.And (equations 0 (v ∷ (s ∷ vs))) (map truth (same (x ∷ (y ∷ xs)) (v ∷ (s ∷ vs)))) shown.both refl h)

    place_at : (xs vs : List ℤ) → length vs ≡ length xs → Finds b 0 xs → Gives (all_terms (equations 0 vs)) (truth (is_at vs xs))
    place_at xs vs len f = subst (λ z. Gives (all_terms (equations 0 vs)) (truth z)) (all_same xs vs len) (place_by xs vs len (equations_at 0 xs vs len f) f)

    choice_at : (c x y : PlacedTerm) (t : Bool) (v w : Value) → Gives c (truth t) → Gives x v → Gives y w → Gives (use_of (codes "ite") (c ∷ (x ∷ (y ∷ [])))) (applied op.Choose (truth t ∷ (v ∷ (w ∷ []))))
    choice_at c x y t v w h i j = operator_at (codes "ite") op.Choose _ _ shown.choice refl (more _ _ _ _ h (more _ _ _ _ i (more _ _ _ _ j none)))

    -- a table has the value that its rows say
    pub values_at : (rows : List ValueEntry) (d : ℤ) (xs : List ℤ) → AllByRecursion (λ r. length r.at ≡ length xs) rows → Finds b 0 xs → Gives (values_term rows d) (integer (value_in rows d xs))
    values_at [] d xs fit f = integer_at d
    values_at (row ∷ rows) d xs fit f =
        choice_at (all_terms (equations 0 row.at)) (integer_term row.value) (values_term rows d) (is_at row.at xs) (integer row.value) (integer (value_in rows d xs))
        (place_at xs row.at fit.0 f) (integer_at row.value) (values_at rows d xs fit.1 f)

    pub truths_at : (rows : List TruthEntry) (d : Bool) (xs : List ℤ) → AllByRecursion (λ r. length r.at ≡ length xs) rows → Finds b 0 xs → Gives (truths_term rows d) (truth (truth_in rows d xs))
    truths_at [] d xs fit f = truth_at d
    truths_at (row ∷ rows) d xs fit f =
        choice_at (all_terms (equations 0 row.at)) (truth_term row.truth) (truths_term rows d) (is_at row.at xs) (truth row.truth) (truth (truth_in rows d xs))
        (place_at xs row.at fit.0 f) (truth_at row.truth) (truths_at rows d xs fit.1 f)
