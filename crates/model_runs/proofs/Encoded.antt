-- The encoding of a universal problem has no `some` with an application.
use Rattle.std.proofs.Common.{◌≡◌, ◌⊎◌, inl, inr, ℕ, suc, pos, negsuc, Bool, true, false, not, ◌&&◌, cond, List, [], ◌∷◌, ◌++◌, length, refl, sym, ◌∙◌, subst, append_assoc}
use Rattle.std.specs.Bool.{beq}
use Rattle.linear_term.specs.Linear as linear
use Rattle.linear_term.specs.Linear.{Linear}
use Rattle.form_typed.specs.declared.typed.Relation.{Relation}
use Rattle.form_typed.specs.declared.typed.Sort.{Sort}
use Rattle.form_typed.specs.declared.typed.Relation.TheVariants.{Eq, Neq, Lt, Leq, Gt, Geq}
use Rattle.form_typed.specs.Formula.{Formula, Formulas, Expression, Expressions, formula, constant, compares, applies, negation, every, some, implies, iff, for_all, for_some, part, no_formula, and_formula, number, name, call, minus, total, product, choice, absolute, lesser, greater, no_expression, and_expression}
use Rattle.base_budget.specs.Trace.{Traced, just, step, next, combining}
use Rattle.pri_typing.specs.declared.problem.Problem.{Problem}
use Rattle.pri_typing.specs.Problems.{IsUniversal, IsUniversalAt, AreUniversalAt, IsTermUniversal, AreTermsUniversal, IsWithoutApplication, Sign, plus, minus_sign, both, turned}
use Rattle.pri_typing.specs.WellFormed.{is_numeric}
use Rattle.formula.specs.Form.{Form, Forms, is_pure, holds, fails, no_form, forms}
use Rattle.form_encoding.specs.Encoding.{SortBound, least, greatest, bounds, limits, restricted, named, multiple, related, signed_relation, product_of, junction, quantified, cases, encoded, all_encoded, with_value, with_values, with_sum, with_more}
use Rattle.form_encoding.specs.Root.{conditions, for_last, names_from}
use Rattle.form_encoding.specs.Problems.{body, constants, problem_root}
use Rattle.form_encoding.proofs.Frees.{free_is, everywhere_free}
use Rattle.form_encoding.proofs.Types.{pure-limits}
use Rattle.model_runs.specs.Somes.{HasPureSomes, HavePureSomes}

-- the sign is that of the encoding
abbrev Fits : Sign → Bool → Type 0
Fits plus true = Unit {0}
Fits plus false = ⊥
Fits minus_sign true = ⊥
Fits minus_sign false = Unit {0}
Fits both b = Unit {0}

fits_turned : (s : Sign) (b : Bool) → Fits s b → Fits (turned s) (not b)
fits_turned plus true h = tt
fits_turned plus false h = absurd h
fits_turned minus_sign true h = absurd h
fits_turned minus_sign false h = tt
fits_turned both b h = tt

junction_somes : (b : Bool) (gs : Forms) → HavePureSomes gs → HasPureSomes (junction b gs)
junction_somes true gs h = h
junction_somes false gs h = h

related_somes : (r : Relation) (a b : Linear) → HasPureSomes (related r a b).value
unfolding next just
related_somes Eq a b = tt
related_somes Neq a b = tt
related_somes Geq a b = tt
related_somes Gt a b = tt
related_somes Leq a b = tt
related_somes Lt a b = tt

predicate_somes : (b : Bool) (p : ℕ) (ls : List Linear) → HasPureSomes (cond b (holds p ls) (fails p ls))
predicate_somes true p ls = tt
predicate_somes false p ls = tt

cases_somes : (when first unless second : Traced Form) → HasPureSomes when.value → HasPureSomes first.value → HasPureSomes unless.value → HasPureSomes second.value → HasPureSomes (cases when first unless second).value
unfolding next just
cases_somes when first unless second p q r s = ((p, (q, tt)), ((r, (s, tt)), tt))

free_pure : (f : Formula) (at : List ℕ) (n : ℕ) (b : Bool) → IsWithoutApplication f → is_pure (encoded at n b f).value ≡ true
free_pure f at n b h = free_is f at n b ∙ everywhere_free 0 f h

-- a for-all, and a for-some
all_somes : (s : Sign) (b : Bool) (f : Formula) (g : Form) → Fits s b → (s ≡ plus) ⊎ IsWithoutApplication f → (IsWithoutApplication f → is_pure g ≡ true) → HasPureSomes g → HasPureSomes (quantified b g)
all_somes s true f g fit h pure k = k
all_somes s false f g fit (inl p) pure k = absurd (subst (λ z. Fits z false) p fit)
all_somes s false f g fit (inr w) pure k = pure w

some_somes : (s : Sign) (b : Bool) (f : Formula) (g : Form) → Fits s b → (s ≡ minus_sign) ⊎ IsWithoutApplication f → (IsWithoutApplication f → is_pure g ≡ true) → HasPureSomes g → HasPureSomes (quantified (not b) g)
some_somes s false f g fit h pure k = k
some_somes s true f g fit (inl p) pure k = absurd (subst (λ z. Fits z true) p fit)
some_somes s true f g fit (inr w) pure k = pure w

-- ---- the bounds of a type
limits_somes : (all : Bool) (x : ℕ) (bs : List SortBound) (gs : List Form) → HavePureSomes (forms gs) → HavePureSomes (forms ((limits all x bs).value ++ gs))
unfolding next step just
limits_somes all x [] gs h = h
limits_somes true x (least n ∷ bs) gs h = (tt, limits_somes true x bs gs h)
limits_somes true x (greatest n ∷ bs) gs h = (tt, limits_somes true x bs gs h)
limits_somes false x (least n ∷ bs) gs h = (tt, limits_somes false x bs gs h)
limits_somes false x (greatest n ∷ bs) gs h = (tt, limits_somes false x bs gs h)

restricted_somes : (all : Bool) (hs : List Form) (g : Form) → HavePureSomes (forms (hs ++ g ∷ [])) → HasPureSomes (restricted all hs g)
restricted_somes all [] g h = h.0
restricted_somes true (f ∷ hs) g h = h
restricted_somes false (f ∷ hs) g h = h

bound_somes : (all : Bool) (n : ℕ) (bs : List SortBound) (g : Form) → HasPureSomes g → HasPureSomes (restricted all (limits all n bs).value g)
bound_somes all n bs g h = restricted_somes all (limits all n bs).value g (limits_somes all n bs (g ∷ []) (h, tt))

only_pure : (b : Bool) → (b && true) ≡ b
only_pure true = refl
only_pure false = refl

bound_pure : (all : Bool) (n : ℕ) (bs : List SortBound) (g : Form) → is_pure (restricted all (limits all n bs).value g) ≡ is_pure g
unfolding next just
bound_pure all n [] g = refl
bound_pure true n (b ∷ bs) g = pure-limits true n (b ∷ bs) (g ∷ []) ∙ only_pure (is_pure g)
bound_pure false n (b ∷ bs) g = pure-limits false n (b ∷ bs) (g ∷ []) ∙ only_pure (is_pure g)

one_somes : (b : Bool) (x : ℕ) (s : Sort) (gs : List Form) → HavePureSomes (forms gs) → HavePureSomes (forms ((cond b (limits false x (bounds s)) (just [])).value ++ gs))
unfolding just
one_somes true x s gs h = limits_somes false x (bounds s) gs h
one_somes false x s gs h = h

conditions_somes : (kept : ℕ → Bool) (x : ℕ) (ss : List Sort) (gs : List Form) → HavePureSomes (forms gs) → HavePureSomes (forms ((conditions kept x ss).value ++ gs))
unfolding next just
conditions_somes kept x [] gs h = h
conditions_somes kept x (s ∷ ss) gs h =
    let front : List Form = (cond (kept x) (limits false x (bounds s)) (just [])).value in
    let back : List Form = (conditions kept (suc x) ss).value in
    subst (λ l. HavePureSomes (forms l)) (sym (append_assoc front back gs)) (one_somes (kept x) x s (back ++ gs) (conditions_somes kept (suc x) ss gs h))

mutual
  unfolding next just step

  pub encoded_somes : (f : Formula) (at : List ℕ) (n : ℕ) (b : Bool) (s : Sign) → Fits s b → IsUniversalAt s f → HasPureSomes (encoded at n b f).value
  encoded_somes (constant c) at n b s fit h = junction_somes (beq c b) no_form tt
  encoded_somes (compares r x y) at n b s fit h =
      value_somes x at n (λ m a. with_value at y m (λ k c. related (signed_relation b r) a c)) h.0 (λ m a. value_somes y at m (λ k c. related (signed_relation b r) a c) h.1 (λ k c. related_somes (signed_relation b r) a c))
  encoded_somes (applies p ts) at n b s fit h = values_somes ts at n (λ m ls. just (cond b (holds p ls) (fails p ls))) h (λ m ls. predicate_somes b p ls)
  encoded_somes (negation f) at n b s fit h = encoded_somes f at n (not b) (turned s) (fits_turned s b fit) h
  encoded_somes (every fs) at n b s fit h = junction_somes b (all_encoded at n b fs).value (all_somes_of fs at n b s fit h)
  encoded_somes (some fs) at n b s fit h = junction_somes (not b) (all_encoded at n b fs).value (all_somes_of fs at n b s fit h)
  encoded_somes (implies f g) at n b s fit h =
      junction_somes (not b) (forms ((encoded at n (not b) f).value ∷ (encoded at n b g).value ∷ [])) (encoded_somes f at n (not b) (turned s) (fits_turned s b fit) h.0, (encoded_somes g at n b s fit h.1, tt))
  encoded_somes (iff f g) at n b s fit h = (
    (encoded_somes f at n (not b) both tt h.0, (encoded_somes g at n true both tt h.1, tt)),
    ((encoded_somes f at n b both tt h.0, (encoded_somes g at n false both tt h.1, tt)), tt),
  )
  encoded_somes (for_all sort f) at n b s fit h =
      let g = (encoded (at ++ n ∷ []) (suc n) b f).value in
      all_somes s b f (restricted b (limits b n (bounds sort)).value g) fit h.0 (λ w. bound_pure b n (bounds sort) g ∙ free_pure f (at ++ n ∷ []) (suc n) b w)
      (bound_somes b n (bounds sort) g (encoded_somes f (at ++ n ∷ []) (suc n) b s fit h.1))
  encoded_somes (for_some sort f) at n b s fit h =
      let g = (encoded (at ++ n ∷ []) (suc n) b f).value in
      some_somes s b f (restricted (not b) (limits (not b) n (bounds sort)).value g) fit h.0 (λ w. bound_pure (not b) n (bounds sort) g ∙ free_pure f (at ++ n ∷ []) (suc n) b w)
      (bound_somes (not b) n (bounds sort) g (encoded_somes f (at ++ n ∷ []) (suc n) b s fit h.1))
  encoded_somes (part k f) at n b s fit h = encoded_somes f at n b s fit h

  all_somes_of : (fs : Formulas) (at : List ℕ) (n : ℕ) (b : Bool) (s : Sign) → Fits s b → AreUniversalAt s fs → HavePureSomes (all_encoded at n b fs).value
  all_somes_of no_formula at n b s fit h = tt
  all_somes_of (and_formula f fs) at n b s fit h = (encoded_somes f at n b s fit h.0, all_somes_of fs at n b s fit h.1)

  value_somes : (t : Expression) (at : List ℕ) (n : ℕ) (rest : ℕ → Linear → Traced Form) → IsTermUniversal t → ((m : ℕ) (a : Linear) → HasPureSomes (rest m a).value) → HasPureSomes (with_value at t n rest).value
  value_somes (number v) at n rest u h = h n (linear.number v)
  value_somes (name x) at n rest u h = h n (named at x)
  value_somes (call f ts) at n rest u h = values_somes ts at n _ u (λ m ls. (tt, (h (suc m) (linear.name m), tt)))
  value_somes (minus t) at n rest u h = value_somes t at n (λ m a. next (multiple (negsuc 0) a) (rest m)) u (λ m a. h m _)
  value_somes (total ts) at n rest u h = sum_somes ts at n rest u h
  value_somes (product x y) at n rest u h =
      value_somes x at n (λ m a. with_value at y m (λ k c. next (product_of (is_numeric x) a c) (rest k))) u.0
      (λ m a. value_somes y at m (λ k c. next (product_of (is_numeric x) a c) (rest k)) u.1 (λ k c. h k _))
  value_somes (choice f x y) at n rest u h =
      value_somes x at n _ u.1 (λ m a. value_somes y at m (λ k c. cases (encoded at k true f) (rest k a) (encoded at k false f) (rest k c)) u.2
      (λ k c. cases_somes (encoded at k true f) (rest k a) (encoded at k false f) (rest k c) (encoded_somes f at k true both tt u.0) (h k a) (encoded_somes f at k false both tt u.0) (h k c)))
  value_somes (absolute t) at n rest u h =
      value_somes t at n _ u (λ m a.
      cases_somes (related Geq a (linear.number (pos 0))) (rest m a) (related Lt a (linear.number (pos 0))) (next (multiple (negsuc 0) a) (rest m)) (related_somes Geq a (linear.number (pos 0))) (h m a)
      (related_somes Lt a (linear.number (pos 0))) (h m _))
  value_somes (lesser x y) at n rest u h =
      value_somes x at n _ u.0 (λ m a. value_somes y at m (λ k c. cases (related Leq a c) (rest k a) (related Gt a c) (rest k c)) u.1
      (λ k c. cases_somes (related Leq a c) (rest k a) (related Gt a c) (rest k c) (related_somes Leq a c) (h k a) (related_somes Gt a c) (h k c)))
  value_somes (greater x y) at n rest u h =
      value_somes x at n _ u.0 (λ m a. value_somes y at m (λ k c. cases (related Geq a c) (rest k a) (related Lt a c) (rest k c)) u.1
      (λ k c. cases_somes (related Geq a c) (rest k a) (related Lt a c) (rest k c) (related_somes Geq a c) (h k a) (related_somes Lt a c) (h k c)))

  values_somes : (ts : Expressions) (at : List ℕ) (n : ℕ) (rest : ℕ → List Linear → Traced Form) → AreTermsUniversal ts → ((m : ℕ) (ls : List Linear) → HasPureSomes (rest m ls).value) → HasPureSomes (with_values at ts n rest).value
  values_somes no_expression at n rest u h = h n []
  values_somes (and_expression t ts) at n rest u h = value_somes t at n _ u.0 (λ m a. values_somes ts at m (λ k ls. rest k (a ∷ ls)) u.1 (λ k ls. h k (a ∷ ls)))

  sum_somes : (ts : Expressions) (at : List ℕ) (n : ℕ) (rest : ℕ → Linear → Traced Form) → AreTermsUniversal ts → ((m : ℕ) (a : Linear) → HasPureSomes (rest m a).value) → HasPureSomes (with_sum at ts n rest).value
  sum_somes no_expression at n rest u h = h n (linear.number (pos 0))
  sum_somes (and_expression t ts) at n rest u h = value_somes t at n _ u.0 (λ m a. more_somes ts at m a rest u.1 h)

  more_somes : (ts : Expressions) (at : List ℕ) (n : ℕ) (z : Linear) (rest : ℕ → Linear → Traced Form) → AreTermsUniversal ts → ((m : ℕ) (a : Linear) → HasPureSomes (rest m a).value) → HasPureSomes (with_more at ts n z rest).value
  more_somes no_expression at n z rest u h = h n z
  more_somes (and_expression (minus t) ts) at n z rest u h =
      value_somes t at n (λ m a. next (combining (pos 1) z (negsuc 0) a) (λ y. with_more at ts m y rest)) u.0 (λ m a. more_somes ts at m _ rest u.1 h)
  more_somes (and_expression t ts) at n z rest u h =
      value_somes t at n (λ m a. next (combining (pos 1) z (pos 1) a) (λ y. with_more at ts m y rest)) u.0 (λ m a. more_somes ts at m _ rest u.1 h)

last_somes : (m : ℕ) (ss : List Sort) (body : Traced Form) → HasPureSomes body.value → HasPureSomes (for_last m ss body).value
unfolding next just
last_somes m [] body h = h
last_somes m (s ∷ ss) body h = bound_somes true m (bounds s) (for_last (suc m) ss body).value (last_somes (suc m) ss body h)

-- the encoding of a universal problem
pub root_somes : (p : Problem) → IsUniversal p → HasPureSomes (problem_root p).value
unfolding next just
root_somes p u =
    let m = length p.existential_types in
    let g : Form = (for_last m p.universal_types (body p)).value in
    restricted_somes false (conditions (λ x. true) 0 p.existential_types).value g
    (conditions_somes (λ x. true) 0 p.existential_types (g ∷ [])
    (last_somes m p.universal_types (body p) (encoded_somes (formula p.formula) (names_from 0 (constants p)) (constants p) true plus tt u), tt))
