-- An encoding speaks of no constant that the formula lacks.
use Rattle.std.proofs.Common.{◌≡◌, ◌≢◌, ℕ, zero, suc, ◌+◌, ◌<◌, ◌≤◌, pos, negsuc, Bool, true, false, not, cond, nat_eq, List, [], ◌∷◌, ◌++◌, refl, sym, ◌∙◌, ap, subst, append_assoc, append-nil, arith}
use Rattle.std.specs.Bool.{beq}
use Rattle.std.proofs.lemmas.Bool.Decides.{nat_tests}
use Rattle.linear_term.specs.Linear as linear
use Rattle.linear_term.specs.Linear.{Linear, mentions}
use Rattle.linear_term.proofs.Names.{combination-unmentioned}
use Rattle.form_typed.specs.declared.typed.Relation.{Relation}
use Rattle.form_typed.specs.declared.typed.Relation.TheVariants.{Eq, Neq, Lt, Leq, Gt, Geq}
use Rattle.form_typed.specs.Formula.{Formula, Formulas, Expression, Expressions, constant, compares, applies, negation, every, some, implies, iff, for_all, for_some, part, no_formula, and_formula, number, name, call, minus, total, product, choice, absolute, lesser, greater, no_expression, and_expression}
use Rattle.base_budget.specs.Trace.{Traced, just, step, next, combining}
use Rattle.pri_typing.specs.Everywhere.{Property, Everywhere, AllEverywhere, TermEverywhere, TermsEverywhere}
use Rattle.pri_typing.specs.WellFormed.{is_numeric, of_terms}
use Rattle.formula.specs.Form as tree
use Rattle.formula.specs.Form.{Form, Forms, forms}
use Rattle.elim_laws.proofs.Names.{number-lacks}
use Rattle.form_encoding.specs.Encoding.{named, multiple, related, signed_relation, product_of, junction, quantified, SortBound, least, greatest, bounds, within, outside, limits, restricted, bound_by, cases, encoded, all_encoded, with_value, with_values, with_sum, with_more}
use Rattle.form_typed.specs.declared.typed.Sort.{Sort}
use Rattle.form_encoding.specs.Occurrences.{occurs}
use Rattle.form_encoding.specs.Problems.{append, constants, parts_root, types}
use Rattle.form_encoding.specs.Root.{conditions, names_from}
use Rattle.form_encoding.proofs.Arithmetic.{no_test}
use Rattle.pri_typing.specs.declared.problem.Problem.{Problem}
use Rattle.pri_typing.specs.Problems.{assumed_by}
use Rattle.interpolant.specs.Sides.{IsOtherName, LacksName}

abbrev other : ℕ → Property
other x = of_terms (IsOtherName x)

abbrev mutual
  -- no equation, inequation and bound of the formula has x; of predicates and functions nothing is said
  pub AtomsLack : ℕ → Form → Type 0
  AtomsLack x (tree.equal t) = mentions t x ≡ false
  AtomsLack x (tree.unequal t) = mentions t x ≡ false
  AtomsLack x (tree.at_least t) = mentions t x ≡ false
  AtomsLack x (tree.holds p ts) = Unit {0}
  AtomsLack x (tree.fails p ts) = Unit {0}
  AtomsLack x (tree.differs f ts u) = Unit {0}
  AtomsLack x (tree.conjunction fs) = AllAtomsLack x fs
  AtomsLack x (tree.disjunction fs) = AllAtomsLack x fs
  AtomsLack x (tree.universal f) = AtomsLack x f
  AtomsLack x (tree.existential f) = AtomsLack x f

  pub AllAtomsLack : ℕ → Forms → Type 0
  AllAtomsLack x tree.no_form = Unit {0}
  AllAtomsLack x (tree.and_form f fs) = AtomsLack x f × AllAtomsLack x fs

-- ---- terms and names
name-lacks : (x y : ℕ) → x ≢ y → mentions (linear.name y) x ≡ false
unfolding mentions
name-lacks x y n = let e : nat_eq y x ≡ false = grind (arith, nat_tests) in ap (λ b. cond b true false) e

-- the names other than x of a formula stand for terms without x, and new names come after it
record Sends (x : ℕ) (at : List ℕ) (n : ℕ) : Type 0 where
  behind : x < n
  lack : (y : ℕ) → x ≢ y → mentions (named at y) x ≡ false

named_more : (x : ℕ) (at : List ℕ) (n y : ℕ) → x ≢ n → mentions (named at y) x ≡ false → mentions (named (at ++ n ∷ []) y) x ≡ false
named_more x [] n zero d h = name-lacks x n d
named_more x [] n (suc y) d h = number-lacks (pos 0) x
named_more x (z ∷ at) n zero d h = h
named_more x (z ∷ at) n (suc y) d h = named_more x at n y d h

sends_bound : (x : ℕ) (at : List ℕ) (n : ℕ) → Sends x at n → Sends x (at ++ n ∷ []) (suc n)
sends_bound x at n h = record { behind = let lt = h.behind in omega (arith, lt); lack = λ y d. named_more x at n y (let lt = h.behind in λ e. omega (arith, lt, e)) (h.lack y d) }

sends_more : (x : ℕ) (at : List ℕ) (n m : ℕ) → n ≤ m → Sends x at n → Sends x at m
sends_more x at n m le h = record { behind = let lt = h.behind in omega (arith, le, lt); lack = h.lack }

named_from : (x m k y : ℕ) → x ≢ m + y → mentions (named (names_from m k) y) x ≡ false
named_from x m zero y d = number-lacks (pos 0) x
named_from x m (suc k) zero d = name-lacks x m (λ e. d (omega (arith, e)))
named_from x m (suc k) (suc y) d = named_from x (suc m) k y (λ e. d (omega (arith, e)))

own_sends : (x n : ℕ) → x < n → Sends x (names_from 0 n) n
own_sends x n lt = record { behind = lt; lack = λ y d. named_from x 0 n y (λ e. d (omega (arith, e))) }

-- ---- forms
module _ (x : ℕ) where
  abbrev Free : Linear → Type 0
  Free t = mentions t x ≡ false

  related_free : (r : Relation) (a b : Linear) → Free a → Free b → AtomsLack x (related r a b).value
  unfolding next just step
  related_free Eq a b h k = combination-unmentioned _ _ _ _ x h k
  related_free Neq a b h k = combination-unmentioned _ _ _ _ x h k
  related_free Geq a b h k = combination-unmentioned _ _ _ _ x h k
  related_free Gt a b h k = combination-unmentioned _ _ _ _ x (combination-unmentioned _ _ _ _ x h k) (number-lacks _ x)
  related_free Leq a b h k = combination-unmentioned _ _ _ _ x k h
  related_free Lt a b h k = combination-unmentioned _ _ _ _ x (combination-unmentioned _ _ _ _ x k h) (number-lacks _ x)

  product_free : (left : Bool) (a b : Linear) → Free a → Free b → Free (product_of left a b).value
  unfolding step
  product_free true a b h k = combination-unmentioned _ _ _ _ x k (number-lacks _ x)
  product_free false a b h k = combination-unmentioned _ _ _ _ x h (number-lacks _ x)

  junction_free : (plus : Bool) (gs : Forms) → AllAtomsLack x gs → AtomsLack x (junction plus gs)
  junction_free true gs h = h
  junction_free false gs h = h

  quantified_free : (plus : Bool) (g : Form) → AtomsLack x g → AtomsLack x (quantified plus g)
  quantified_free true g h = h
  quantified_free false g h = h

  limit_free : (all : Bool) (y : ℕ) (b : SortBound) → x ≢ y → AtomsLack x (cond all (outside y b) (within y b)).value
  unfolding next just step
  limit_free true y (least n) d = combination-unmentioned _ _ _ _ x (name-lacks x y d) (combination-unmentioned _ _ _ _ x (number-lacks n x) (number-lacks _ x))
  limit_free true y (greatest n) d = combination-unmentioned _ _ _ _ x (name-lacks x y d) (combination-unmentioned _ _ _ _ x (number-lacks n x) (number-lacks _ x))
  limit_free false y (least n) d = combination-unmentioned _ _ _ _ x (name-lacks x y d) (number-lacks n x)
  limit_free false y (greatest n) d = combination-unmentioned _ _ _ _ x (name-lacks x y d) (number-lacks n x)

  limits_free : (all : Bool) (y : ℕ) (bs : List SortBound) (gs : List Form) → x ≢ y → AllAtomsLack x (forms gs) → AllAtomsLack x (forms ((limits all y bs).value ++ gs))
  unfolding next just
  limits_free all y [] gs d h = h
  limits_free all y (b ∷ bs) gs d h = (limit_free all y b d, limits_free all y bs gs d h)

  restricted_free : (all : Bool) (y : ℕ) (bs : List SortBound) (g : Form) → x ≢ y → AtomsLack x g → AtomsLack x (restricted all (limits all y bs).value g)
  unfolding next just
  restricted_free all y [] g d h = h
  restricted_free true y (b ∷ bs) g d h = limits_free true y (b ∷ bs) (g ∷ []) d (h, tt)
  restricted_free false y (b ∷ bs) g d h = limits_free false y (b ∷ bs) (g ∷ []) d (h, tt)

  bound_free : (all : Bool) (y : ℕ) (s : Sort) (work : Traced Form) → x ≢ y → AtomsLack x work.value → AtomsLack x (bound_by all y s work).value
  unfolding next just
  bound_free all y s work d h = quantified_free all _ (restricted_free all y (bounds s) work.value d h)

  one_free : (kept : ℕ → Bool) (y : ℕ) (s : Sort) (gs : List Form) → kept x ≡ false → AllAtomsLack x (forms gs)
      → AllAtomsLack x (forms ((cond (kept y) (limits false y (bounds s)) (just [])).value ++ gs))
  unfolding just
  one_free kept y s gs out h = by (kept y) refl
    where
      by : (b : Bool) → kept y ≡ b → AllAtomsLack x (forms ((cond b (limits false y (bounds s)) (just [])).value ++ gs))
      by true e = limits_free false y (bounds s) gs (λ d. no_test (sym out ∙ ap kept d ∙ e)) h
      by false e = h

  pub conditions_free : (kept : ℕ → Bool) (y : ℕ) (ss : List Sort) (gs : List Form) → kept x ≡ false → AllAtomsLack x (forms gs) → AllAtomsLack x (forms ((conditions kept y ss).value ++ gs))
  unfolding next just
  conditions_free kept y [] gs out h = h
  conditions_free kept y (s ∷ ss) gs out h =
      let front : List Form = (cond (kept y) (limits false y (bounds s)) (just [])).value in
      let back : List Form = (conditions kept (suc y) ss).value in
      subst (λ l. AllAtomsLack x (forms l)) (sym (append_assoc front back gs)) (one_free kept y s (back ++ gs) out (conditions_free kept (suc y) ss gs out h))

  pub append_free : (gs : Forms) (hs : List Form) → AllAtomsLack x gs → AllAtomsLack x (forms hs) → AllAtomsLack x (append gs hs)
  append_free tree.no_form hs p q = q
  append_free (tree.and_form g gs) hs p q = (p.0, append_free gs hs (p.1) q)

  predicate_free : (plus : Bool) (p : ℕ) (ls : List Linear) → AtomsLack x (cond plus (tree.holds p ls) (tree.fails p ls))
  predicate_free true p ls = tt
  predicate_free false p ls = tt

  -- what becomes of a finished term without x
  abbrev Rest : ℕ → (ℕ → Linear → Traced Form) → Type 0
  Rest n rest = (m : ℕ) (a : Linear) → n ≤ m → Free a → AtomsLack x (rest m a).value

  abbrev Rests : ℕ → (ℕ → List Linear → Traced Form) → Type 0
  Rests n rest = (m : ℕ) (ls : List Linear) → n ≤ m → AtomsLack x (rest m ls).value

  mutual
    unfolding next just step

    encoded_free : (k : ℕ) (f : Formula) (at : List ℕ) (n : ℕ) (plus : Bool) → Sends x at n → Everywhere (other x) k f → AtomsLack x (encoded at n plus f).value
    encoded_free k (constant b) at n plus s h = junction_free (beq b plus) tree.no_form tt
    encoded_free k (compares r t u) at n plus s h =
        value_free k t at n (λ m a. with_value at u m (λ i b. related (signed_relation plus r) a b)) s h.1
        (λ m a le fa. value_free k u at m (λ i b. related (signed_relation plus r) a b) (sends_more x at n m le s) h.2 (λ i b li fb. related_free (signed_relation plus r) a b fa fb))
    encoded_free k (applies p ts) at n plus s h = values_free k ts at n (λ m ls. just (cond plus (tree.holds p ls) (tree.fails p ls))) s h.1 (λ m ls le. predicate_free plus p ls)
    encoded_free k (negation f) at n plus s h = encoded_free k f at n (not plus) s h.1
    encoded_free k (every fs) at n plus s h = junction_free plus (all_encoded at n plus fs).value (all_free k fs at n plus s h.1)
    encoded_free k (some fs) at n plus s h = junction_free (not plus) (all_encoded at n plus fs).value (all_free k fs at n plus s h.1)
    encoded_free k (implies f g) at n plus s h = junction_free (not plus) _ (encoded_free k f at n (not plus) s h.1, (encoded_free k g at n plus s h.2, tt))
    encoded_free k (iff f g) at n plus s h =
        ((encoded_free k f at n (not plus) s h.1, (encoded_free k g at n true s h.2, tt)), ((encoded_free k f at n plus s h.1, (encoded_free k g at n false s h.2, tt)), tt))
    encoded_free k (for_all sort f) at n plus s h =
        bound_free plus n sort (encoded (at ++ n ∷ []) (suc n) plus f) (let lt = s.behind in λ e. omega (arith, lt, e)) (encoded_free (suc k) f (at ++ n ∷ []) (suc n) plus (sends_bound x at n s) h.1)
    encoded_free k (for_some sort f) at n plus s h =
        bound_free (not plus) n sort (encoded (at ++ n ∷ []) (suc n) plus f) (let lt = s.behind in λ e. omega (arith, lt, e)) (encoded_free (suc k) f (at ++ n ∷ []) (suc n) plus (sends_bound x at n s) h.1)
    encoded_free k (part i f) at n plus s h = encoded_free k f at n plus s h.1

    all_free : (k : ℕ) (fs : Formulas) (at : List ℕ) (n : ℕ) (plus : Bool) → Sends x at n → AllEverywhere (other x) k fs → AllAtomsLack x (all_encoded at n plus fs).value
    all_free k no_formula at n plus s h = tt
    all_free k (and_formula f fs) at n plus s h = (encoded_free k f at n plus s h.0, all_free k fs at n plus s h.1)

    value_free : (k : ℕ) (t : Expression) (at : List ℕ) (n : ℕ) (rest : ℕ → Linear → Traced Form) → Sends x at n → TermEverywhere (other x) k t → Rest n rest → AtomsLack x (with_value at t n rest).value
    value_free k (number v) at n rest s h r = r n (linear.number v) (omega arith) (number-lacks v x)
    value_free k (name y) at n rest s h r = r n (named at y) (omega arith) (s.lack y h)
    value_free k (call f ts) at n rest s h r =
        values_free k ts at n (λ m ls. next (rest (suc m) (linear.name m)) (λ g. just (tree.universal (tree.disjunction (forms (tree.differs f ls (linear.name m) ∷ g ∷ [])))))) s h.1
        (λ m ls le. (tt, (r (suc m) (linear.name m) (omega (arith, le)) (name-lacks x m (let lt = s.behind in λ e. omega (arith, lt, le, e))), tt)))
    value_free k (minus t) at n rest s h r = value_free k t at n (λ m a. next (multiple (negsuc 0) a) (rest m)) s h.1 (λ m a le fa. r m _ le (combination-unmentioned _ _ _ _ x fa (number-lacks _ x)))
    value_free k (total ts) at n rest s h r = sum_free_of k ts at n rest s h.1 r
    value_free k (product t u) at n rest s h r =
        value_free k t at n (λ m a. with_value at u m (λ i b. next (product_of (is_numeric t) a b) (rest i))) s h.1
        (λ m a le fa. value_free k u at m (λ i b. next (product_of (is_numeric t) a b) (rest i)) (sends_more x at n m le s) h.2
        (λ i b li fb. r i _ (omega (arith, le, li)) (product_free (is_numeric t) a b fa fb)))
    value_free k (choice f t u) at n rest s h r =
        value_free k t at n (λ m a. with_value at u m (λ i b. cases (encoded at i true f) (rest i a) (encoded at i false f) (rest i b))) s h.2
        (λ m a le fa. value_free k u at m (λ i b. cases (encoded at i true f) (rest i a) (encoded at i false f) (rest i b)) (sends_more x at n m le s) h.3
        (λ i b li fb.
        let g : Sends x at i = sends_more x at n i (omega (arith, le, li)) s in
        ((encoded_free k f at i true g h.1, (r i a (omega (arith, le, li)) fa, tt)), ((encoded_free k f at i false g h.1, (r i b (omega (arith, le, li)) fb, tt)), tt))))
    value_free k (absolute t) at n rest s h r =
        value_free k t at n (λ m a. cases (related Geq a (linear.number (pos 0))) (rest m a) (related Lt a (linear.number (pos 0))) (next (multiple (negsuc 0) a) (rest m))) s h.1
        (λ m a le fa. (
          (related_free Geq a (linear.number (pos 0)) fa (number-lacks (pos 0) x), (r m a le fa, tt)),
          ((related_free Lt a (linear.number (pos 0)) fa (number-lacks (pos 0) x), (r m _ le (combination-unmentioned _ _ _ _ x fa (number-lacks _ x)), tt)), tt),
        ))
    value_free k (lesser t u) at n rest s h r =
        value_free k t at n (λ m a. with_value at u m (λ i b. cases (related Leq a b) (rest i a) (related Gt a b) (rest i b))) s h.1
        (λ m a le fa. value_free k u at m (λ i b. cases (related Leq a b) (rest i a) (related Gt a b) (rest i b)) (sends_more x at n m le s) h.2
        (λ i b li fb. ((related_free Leq a b fa fb, (r i a (omega (arith, le, li)) fa, tt)), ((related_free Gt a b fa fb, (r i b (omega (arith, le, li)) fb, tt)), tt))))
    value_free k (greater t u) at n rest s h r =
        value_free k t at n (λ m a. with_value at u m (λ i b. cases (related Geq a b) (rest i a) (related Lt a b) (rest i b))) s h.1
        (λ m a le fa. value_free k u at m (λ i b. cases (related Geq a b) (rest i a) (related Lt a b) (rest i b)) (sends_more x at n m le s) h.2
        (λ i b li fb. ((related_free Geq a b fa fb, (r i a (omega (arith, le, li)) fa, tt)), ((related_free Lt a b fa fb, (r i b (omega (arith, le, li)) fb, tt)), tt))))

    values_free : (k : ℕ) (ts : Expressions) (at : List ℕ) (n : ℕ) (rest : ℕ → List Linear → Traced Form) → Sends x at n → TermsEverywhere (other x) k ts → Rests n rest → AtomsLack x (with_values at ts n rest).value
    values_free k no_expression at n rest s h r = r n [] (omega arith)
    values_free k (and_expression t ts) at n rest s h r =
        value_free k t at n (λ m a. with_values at ts m (λ i ls. rest i (a ∷ ls))) s h.0
        (λ m a le fa. values_free k ts at m (λ i ls. rest i (a ∷ ls)) (sends_more x at n m le s) h.1 (λ i ls li. r i (a ∷ ls) (omega (arith, le, li))))

    sum_free_of : (k : ℕ) (ts : Expressions) (at : List ℕ) (n : ℕ) (rest : ℕ → Linear → Traced Form) → Sends x at n → TermsEverywhere (other x) k ts → Rest n rest → AtomsLack x (with_sum at ts n rest).value
    sum_free_of k no_expression at n rest s h r = r n (linear.number (pos 0)) (omega arith) (number-lacks (pos 0) x)
    sum_free_of k (and_expression t ts) at n rest s h r =
        value_free k t at n (λ m a. with_more at ts m a rest) s h.0
        (λ m a le fa. more_free k ts at m a rest (sends_more x at n m le s) h.1 fa (λ i b li fb. r i b (omega (arith, le, li)) fb))

    more_free : (k : ℕ) (ts : Expressions) (at : List ℕ) (n : ℕ) (z : Linear) (rest : ℕ → Linear → Traced Form) → Sends x at n → TermsEverywhere (other x) k ts → Free z → Rest n rest
        → AtomsLack x (with_more at ts n z rest).value
    more_free k no_expression at n z rest s h fz r = r n z (omega arith) fz
    more_free k (and_expression (minus t) ts) at n z rest s h fz r =
        value_free k t at n (λ m a. next (combining (pos 1) z (negsuc 0) a) (λ y. with_more at ts m y rest)) s (h.0).1
        (λ m a le fa. more_free k ts at m _ rest (sends_more x at n m le s) h.1 (combination-unmentioned _ _ _ _ x fz fa) (λ i b li fb. r i b (omega (arith, le, li)) fb))
    more_free k (and_expression t ts) at n z rest s h fz r =
        value_free k t at n (λ m a. next (combining (pos 1) z (pos 1) a) (λ y. with_more at ts m y rest)) s h.0
        (λ m a le fa. more_free k ts at m _ rest (sends_more x at n m le s) h.1 (combination-unmentioned _ _ _ _ x fz fa) (λ i b li fb. r i b (omega (arith, le, li)) fb))

-- of a formula over n names that lacks one of them
pub encoding_lacks : (x n : ℕ) (f : Formula) → x < n → LacksName x f → AtomsLack x (encoded (names_from 0 n) n true f).value
encoding_lacks x n f lt h = encoded_free x 0 f (names_from 0 n) n true (own_sends x n lt) h

-- what parts assume, with the conditions of the constants that occur in it, lacks each constant that does not
pub parts_lack : (x : ℕ) (p : Problem) (set : List ℕ) → x < constants p → LacksName x (assumed_by p set) → occurs x (assumed_by p set) ≡ false → AtomsLack x (parts_root p set).value
unfolding next just
parts_lack x p set lt h out =
    let own : List Form = (conditions (λ y. occurs y (assumed_by p set)) 0 (types p)).value in
    append_free x _ own (encoding_lacks x (constants p) (assumed_by p set) lt h)
    (subst (λ l. AllAtomsLack x (forms l)) (append-nil own) (conditions_free x (λ y. occurs y (assumed_by p set)) 0 (types p) [] out tt))
