-- What solving finds at a node: values at which its constraint is false, or that the constraint is false at the values.
use Rattle.std.proofs.Common.{◌≡◌, ℕ, suc, ℤ, Bool, true, false, not, ◌&&◌, List, [], ◌∷◌, ◌++◌, length, Option, Some, None, refl, sym, ◌∙◌, ap, subst, append-nil, arith}
use Rattle.base_budget.specs.Trace.{next}
use Rattle.clause_set.specs.declared.literal.Literal.{Literal}
use Rattle.clause_set.specs.Dnfs.{conjunction, negation}
use Rattle.clause_set.specs.Literals.{dnf_truth}
use Rattle.solve_laws.specs.Solutions.{IsGiven, solving}
use Rattle.solve_laws.proofs.Solving.{solving-best, solving-none}
use Rattle.model_trees.specs.Walk.{affirmed, denied, point, read}
use Rattle.model_trees.proofs.Back.{no_longer, one_only}
use Rattle.proof_tree.proofs.Clauses.{given_and, given_not}
use Rattle.model_trees.proofs.Clauses.{both_truth, given_literals, given_read, not_truth, read_truth}
use Rattle.model_trees.proofs.Points.{point_given, point_true, true_point}

not_false : (b : Bool) → not b ≡ true → b ≡ false
not_false false h = refl
not_false true h = absurd (cc)

both_true : (a b : Bool) → (a && b) ≡ true → (a ≡ true) × (b ≡ true)
both_true true true h = (refl, refl)
both_true true false h = absurd (cc)
both_true false b h = absurd (cc)

clash : (b : Bool) → b ≡ true → b ≡ false → ⊥
clash b h k = absurd (let z : true ≡ false = sym h ∙ k in cc)

-- ---- values at which d is false
-- d is false, and the values begin with v
module _ (n : ℕ) (d : List (List Literal)) (v : List ℤ) (given : IsGiven (suc n) d) (len : length v ≡ n) where
  wrong : List (List Literal)
  wrong = (conjunction (negation (read d)).value (point v)).value

  not_given : IsGiven (suc n) (negation (read d)).value
  not_given = given_not (suc n) (read d) (given_read (suc n) d given)

  at_point : IsGiven (suc n) (point v)
  at_point = point_given (suc n) v (omega (arith, len))

  pub wrong_given : IsGiven (suc n) (conjunction (negation (read d)).value (point v)).value
  wrong_given = given_and (suc n) (negation (read d)).value (point v) not_given at_point

  not_is : (e : List ℤ) → dnf_truth (negation (read d)).value e ≡ not (dnf_truth d e)
  not_is e = not_truth (suc n) (read d) e (given_read (suc n) d given) ∙ ap not (read_truth d e (given_literals (suc n) d given))

  wrong_is : (e : List ℤ) → dnf_truth (conjunction (negation (read d)).value (point v)).value e ≡ (not (dnf_truth d e) && dnf_truth (point v) e)
  wrong_is e = both_truth (suc n) (negation (read d)).value (point v) e not_given at_point ∙ ap (λ b. b && dnf_truth (point v) e) (not_is e)

  found : (x : ℤ) → dnf_truth d (v ++ x ∷ []) ≡ false → (o : Option (List ℤ)) → (solving (suc n) (conjunction (negation (read d)).value (point v)).value).value ≡ o
      → (y : ℤ) × (o ≡ Some (v ++ y ∷ [])) × (dnf_truth d (v ++ y ∷ []) ≡ false)
  found x bad None is =
      let long : length (v ++ x ∷ []) ≡ suc n = one_more v x n len in
      let none = (solving-none (suc n) (conjunction (negation (read d)).value (point v)).value wrong_given).0 is (v ++ x ∷ []) long in
      let there : dnf_truth (conjunction (negation (read d)).value (point v)).value (v ++ x ∷ []) ≡ true =
      wrong_is (v ++ x ∷ []) ∙ (λ i. not (bad i) && point_true v (x ∷ []) i) in
      absurd (clash _ there none)
    where
      one_more : (v : List ℤ) (x : ℤ) (n : ℕ) → length v ≡ n → length (v ++ x ∷ []) ≡ suc n
      one_more [] x n h = ap suc h
      one_more (u ∷ v) x n h = ap suc (one_more v x (length v) refl) ∙ ap suc h
  found x bad (Some u) is =
      let best = solving-best (suc n) (conjunction (negation (read d)).value (point v)).value u wrong_given is in
      let two = both_true (not (dnf_truth d u)) (dnf_truth (point v) u) (sym (wrong_is u) ∙ best.satisfies) in
      let at = true_point v u (omega (arith, len, best.names)) two.1 in
      let last = one_only v (at.0) n len (sym (ap length (at.1)) ∙ best.names) in
      let whole : u ≡ v ++ (last.0) ∷ [] = at.1 ∙ ap (λ r. v ++ r) (last.1) in
      ((last.0), ap (λ z. Some z) whole, subst (λ z. dnf_truth d z ≡ false) whole (not_false (dnf_truth d u) two.0))

-- where d is false at v and some further value, a further value is found at which it is
pub denied_finds : (n : ℕ) (d : List (List Literal)) (v : List ℤ) (x : ℤ) → IsGiven (suc n) d → length v ≡ n → dnf_truth d (v ++ x ∷ []) ≡ false
    → (y : ℤ) × ((denied (suc n) d v).value ≡ Some (v ++ y ∷ [])) × (dnf_truth d (v ++ y ∷ []) ≡ false)
unfolding next
denied_finds n d v x given len bad = found n d v given len x bad (solving (suc n) (conjunction (negation (read d)).value (point v)).value).value refl

-- ---- whether d is true at v
module _ (n : ℕ) (d : List (List Literal)) (v : List ℤ) (given : IsGiven n d) (len : length v ≡ n) where
  there_given : IsGiven n (conjunction (read d) (point v)).value
  there_given = given_and n (read d) (point v) (given_read n d given) (point_given n v (omega (arith, len)))

  there_is : (e : List ℤ) → dnf_truth (conjunction (read d) (point v)).value e ≡ (dnf_truth d e && dnf_truth (point v) e)
  there_is e =
      both_truth n (read d) (point v) e (given_read n d given) (point_given n v (omega (arith, len)))
      ∙ ap (λ b. b && dnf_truth (point v) e) (read_truth d e (given_literals n d given))

  nowhere : dnf_truth d v ≡ false → (e : List ℤ) → length e ≡ n → dnf_truth (conjunction (read d) (point v)).value e ≡ false
  nowhere bad e long = there_is e ∙ by (dnf_truth (point v) e) refl
    where
      by : (b : Bool) → dnf_truth (point v) e ≡ b → (dnf_truth d e && b) ≡ false
      by true is =
          let at = true_point v e (omega (arith, len, long)) is in
          let whole : e ≡ v = at.1 ∙ no_longer v (at.0) (sym (ap length (at.1)) ∙ long ∙ sym len) in
          ap (λ z. dnf_truth d z && true) whole ∙ ap (λ b. b && true) bad
      by false is = second (dnf_truth d e)
        where
          second : (a : Bool) → (a && false) ≡ false
          second true = refl
          second false = refl

  here : dnf_truth d v ≡ true → dnf_truth (conjunction (read d) (point v)).value v ≡ true
  here good = there_is v ∙ (λ i. good i && (ap (dnf_truth (point v)) (sym (append-nil v)) ∙ point_true v []) i)

pub affirmed_none : (n : ℕ) (d : List (List Literal)) (v : List ℤ) → IsGiven n d → length v ≡ n → dnf_truth d v ≡ false → (affirmed n d v).value ≡ None
unfolding next
affirmed_none n d v given len bad = (solving-none n (conjunction (read d) (point v)).value (there_given n d v given len)).1 (nowhere n d v given len bad)

pub affirmed_some : (n : ℕ) (d : List (List Literal)) (v : List ℤ) → IsGiven n d → length v ≡ n → dnf_truth d v ≡ true → (a : List ℤ) × ((affirmed n d v).value ≡ Some a)
unfolding next
affirmed_some n d v given len good = by (solving n (conjunction (read d) (point v)).value).value refl
  where
    by : (o : Option (List ℤ)) → (solving n (conjunction (read d) (point v)).value).value ≡ o → (a : List ℤ) × (o ≡ Some a)
    by None is = absurd (clash _ (here n d v given len good) ((solving-none n (conjunction (read d) (point v)).value (there_given n d v given len)).0 is v len))
    by (Some a) is = (a, refl)
