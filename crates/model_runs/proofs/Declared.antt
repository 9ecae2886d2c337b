-- An encoding speaks of the declared predicates and functions, with as many arguments.
use Rattle.std.proofs.Common.{◌≡◌, ℕ, suc, pos, negsuc, Bool, true, false, not, cond, List, [], ◌∷◌, ◌++◌, length, refl, sym, ap, subst, append_assoc}
use Rattle.std.specs.Bool.{beq}
use Rattle.linear_term.specs.Linear as linear
use Rattle.linear_term.specs.Linear.{Linear}
use Rattle.form_typed.specs.declared.typed.Relation.{Relation}
use Rattle.form_typed.specs.declared.typed.Sort.{Sort}
use Rattle.form_typed.specs.declared.typed.Relation.TheVariants.{Eq, Neq, Lt, Leq, Gt, Geq}
use Rattle.form_typed.specs.Formula.{Formula, Formulas, Expression, Expressions, formula, constant, compares, applies, negation, every, some, implies, iff, for_all, for_some, part, no_formula, and_formula, number, name, call, minus, total, product, choice, absolute, lesser, greater, no_expression, and_expression}
use Rattle.base_budget.specs.Trace.{Traced, just, step, next, combining}
use Rattle.pri_typing.specs.declared.problem.Problem.{Problem}
use Rattle.pri_typing.specs.declared.problem.Symbol.{Symbol}
use Rattle.pri_typing.specs.Everywhere.{Everywhere, AllEverywhere, TermEverywhere, TermsEverywhere}
use Rattle.pri_typing.specs.WellFormed.{IsFunctionDeclared, IsPredicateDeclared, IsWellFormed, HasArity, is_numeric, of_formulas, of_terms, size}
use Rattle.formula.specs.Form.{Form, Forms, holds, fails, no_form, forms}
use Rattle.form_encoding.specs.Encoding.{SortBound, least, greatest, bounds, limits, restricted, named, multiple, related, signed_relation, product_of, junction, quantified, cases, encoded, all_encoded, with_value, with_values, with_sum, with_more}
use Rattle.form_encoding.specs.Root.{conditions, for_last, names_from}
use Rattle.form_encoding.specs.Problems.{body, constants, problem_root}
use Rattle.model_trees.specs.Symbols.{AllSpeakIn, SpeaksIn, Vocabulary}
use Rattle.model_runs.specs.Vocabulary.{vocabulary}

junction_speaks : (y : Vocabulary) (b : Bool) (gs : Forms) → AllSpeakIn y gs → SpeaksIn y (junction b gs)
junction_speaks y true gs h = h
junction_speaks y false gs h = h

quantified_speaks : (y : Vocabulary) (b : Bool) (g : Form) → SpeaksIn y g → SpeaksIn y (quantified b g)
quantified_speaks y true g h = h
quantified_speaks y false g h = h

limits_speak : (y : Vocabulary) (all : Bool) (x : ℕ) (bs : List SortBound) (gs : List Form) → AllSpeakIn y (forms gs) → AllSpeakIn y (forms ((limits all x bs).value ++ gs))
unfolding next step just
limits_speak y all x [] gs h = h
limits_speak y true x (least n ∷ bs) gs h = (tt, limits_speak y true x bs gs h)
limits_speak y true x (greatest n ∷ bs) gs h = (tt, limits_speak y true x bs gs h)
limits_speak y false x (least n ∷ bs) gs h = (tt, limits_speak y false x bs gs h)
limits_speak y false x (greatest n ∷ bs) gs h = (tt, limits_speak y false x bs gs h)

restricted_speaks : (y : Vocabulary) (all : Bool) (hs : List Form) (g : Form) → AllSpeakIn y (forms (hs ++ g ∷ [])) → SpeaksIn y (restricted all hs g)
restricted_speaks y all [] g h = h.0
restricted_speaks y true (f ∷ hs) g h = h
restricted_speaks y false (f ∷ hs) g h = h

bound_speaks : (y : Vocabulary) (all : Bool) (n : ℕ) (s : Sort) (g : Form) → SpeaksIn y g → SpeaksIn y (quantified all (restricted all (limits all n (bounds s)).value g))
bound_speaks y all n s g h = quantified_speaks y all _ (restricted_speaks y all (limits all n (bounds s)).value g (limits_speak y all n (bounds s) (g ∷ []) (h, tt)))

one_speaks : (y : Vocabulary) (b : Bool) (x : ℕ) (s : Sort) (gs : List Form) → AllSpeakIn y (forms gs) → AllSpeakIn y (forms ((cond b (limits false x (bounds s)) (just [])).value ++ gs))
unfolding just
one_speaks y true x s gs h = limits_speak y false x (bounds s) gs h
one_speaks y false x s gs h = h

conditions_speak : (y : Vocabulary) (kept : ℕ → Bool) (x : ℕ) (ss : List Sort) (gs : List Form) → AllSpeakIn y (forms gs) → AllSpeakIn y (forms ((conditions kept x ss).value ++ gs))
unfolding next just
conditions_speak y kept x [] gs h = h
conditions_speak y kept x (s ∷ ss) gs h =
    let front : List Form = (cond (kept x) (limits false x (bounds s)) (just [])).value in
    let back : List Form = (conditions kept (suc x) ss).value in
    subst (λ l. AllSpeakIn y (forms l)) (sym (append_assoc front back gs)) (one_speaks y (kept x) x s (back ++ gs) (conditions_speak y kept (suc x) ss gs h))

related_speaks : (y : Vocabulary) (r : Relation) (a b : Linear) → SpeaksIn y (related r a b).value
unfolding next just
related_speaks y Eq a b = tt
related_speaks y Neq a b = tt
related_speaks y Geq a b = tt
related_speaks y Gt a b = tt
related_speaks y Leq a b = tt
related_speaks y Lt a b = tt

predicate_speaks : (y : Vocabulary) (b : Bool) (p : ℕ) (ls : List Linear) → y.predicate p (length ls) → SpeaksIn y (cond b (holds p ls) (fails p ls))
predicate_speaks y true p ls h = h
predicate_speaks y false p ls h = h

cases_speak : (y : Vocabulary) (when first unless second : Traced Form) → SpeaksIn y when.value → SpeaksIn y first.value → SpeaksIn y unless.value → SpeaksIn y second.value → SpeaksIn y (cases when first unless second).value
unfolding next just
cases_speak y when first unless second p q r s = ((p, (q, tt)), ((r, (s, tt)), tt))

module _ (ps fs : List Symbol) where
  mutual
    unfolding next just step

    encoded_speaks : (f : Formula) (at : List ℕ) (n : ℕ) (b : Bool) (k : ℕ) → Everywhere (of_formulas (IsPredicateDeclared ps)) k f → Everywhere (of_terms (IsFunctionDeclared fs)) k f → SpeaksIn (vocabulary ps fs) (encoded at n b f).value
    encoded_speaks (constant c) at n b k h g = junction_speaks (vocabulary ps fs) (beq c b) no_form tt
    encoded_speaks (compares r s t) at n b k h g =
        value_speaks s at n (λ m a. with_value at t m (λ j c. related (signed_relation b r) a c)) k h.1 g.1
        (λ m a. value_speaks t at m (λ j c. related (signed_relation b r) a c) k h.2 g.2 (λ j c. related_speaks (vocabulary ps fs) (signed_relation b r) a c))
    encoded_speaks (applies p ts) at n b k h g =
        values_speak ts at n (λ m ls. just (cond b (holds p ls) (fails p ls))) k h.1 g.1 (λ m ls many. predicate_speaks (vocabulary ps fs) b p ls (subst (HasArity ps p) (sym many) h.0))
    encoded_speaks (negation f) at n b k h g = encoded_speaks f at n (not b) k h.1 g.1
    encoded_speaks (every gs) at n b k h g = junction_speaks (vocabulary ps fs) b (all_encoded at n b gs).value (all_speak gs at n b k h.1 g.1)
    encoded_speaks (some gs) at n b k h g = junction_speaks (vocabulary ps fs) (not b) (all_encoded at n b gs).value (all_speak gs at n b k h.1 g.1)
    encoded_speaks (implies f e) at n b k h g =
        junction_speaks (vocabulary ps fs) (not b) (forms ((encoded at n (not b) f).value ∷ (encoded at n b e).value ∷ [])) (encoded_speaks f at n (not b) k h.1 g.1, (encoded_speaks e at n b k h.2 g.2, tt))
    encoded_speaks (iff f e) at n b k h g = (
      (encoded_speaks f at n (not b) k h.1 g.1, (encoded_speaks e at n true k h.2 g.2, tt)),
      ((encoded_speaks f at n b k h.1 g.1, (encoded_speaks e at n false k h.2 g.2, tt)), tt),
    )
    encoded_speaks (for_all s f) at n b k h g = bound_speaks (vocabulary ps fs) b n s (encoded (at ++ n ∷ []) (suc n) b f).value (encoded_speaks f (at ++ n ∷ []) (suc n) b (suc k) h.1 g.1)
    encoded_speaks (for_some s f) at n b k h g = bound_speaks (vocabulary ps fs) (not b) n s (encoded (at ++ n ∷ []) (suc n) b f).value (encoded_speaks f (at ++ n ∷ []) (suc n) b (suc k) h.1 g.1)
    encoded_speaks (part j f) at n b k h g = encoded_speaks f at n b k h.1 g.1

    all_speak : (gs : Formulas) (at : List ℕ) (n : ℕ) (b : Bool) (k : ℕ) → AllEverywhere (of_formulas (IsPredicateDeclared ps)) k gs → AllEverywhere (of_terms (IsFunctionDeclared fs)) k gs → AllSpeakIn (vocabulary ps fs) (all_encoded at n b gs).value
    all_speak no_formula at n b k h g = tt
    all_speak (and_formula f gs) at n b k h g = (encoded_speaks f at n b k h.0 g.0, all_speak gs at n b k h.1 g.1)

    value_speaks : (t : Expression) (at : List ℕ) (n : ℕ) (rest : ℕ → Linear → Traced Form) (k : ℕ) → TermEverywhere (of_formulas (IsPredicateDeclared ps)) k t → TermEverywhere (of_terms (IsFunctionDeclared fs)) k t
        → ((m : ℕ) (a : Linear) → SpeaksIn (vocabulary ps fs) (rest m a).value) → SpeaksIn (vocabulary ps fs) (with_value at t n rest).value
    value_speaks (number v) at n rest k h g r = r n (linear.number v)
    value_speaks (name x) at n rest k h g r = r n (named at x)
    value_speaks (call f ts) at n rest k h g r = values_speak ts at n _ k h.1 g.1 (λ m ls many. (subst (HasArity fs f) (sym many) (g.0).0, (r (suc m) (linear.name m), tt)))
    value_speaks (minus t) at n rest k h g r = value_speaks t at n (λ m a. next (multiple (negsuc 0) a) (rest m)) k h.1 g.1 (λ m a. r m _)
    value_speaks (total ts) at n rest k h g r = sum_speaks ts at n rest k h.1 g.1 r
    value_speaks (product s t) at n rest k h g r =
        value_speaks s at n (λ m a. with_value at t m (λ j c. next (product_of (is_numeric s) a c) (rest j))) k h.1 g.1
        (λ m a. value_speaks t at m (λ j c. next (product_of (is_numeric s) a c) (rest j)) k h.2 g.2 (λ j c. r j _))
    value_speaks (choice f s t) at n rest k h g r =
        value_speaks s at n _ k h.2 g.2 (λ m a. value_speaks t at m (λ j c. cases (encoded at j true f) (rest j a) (encoded at j false f) (rest j c)) k h.3 g.3
        (λ j c. cases_speak (vocabulary ps fs) (encoded at j true f) (rest j a) (encoded at j false f) (rest j c) (encoded_speaks f at j true k h.1 g.1) (r j a) (encoded_speaks f at j false k h.1 g.1) (r j c)))
    value_speaks (absolute t) at n rest k h g r =
        value_speaks t at n _ k h.1 g.1 (λ m a.
        cases_speak (vocabulary ps fs) (related Geq a (linear.number (pos 0))) (rest m a) (related Lt a (linear.number (pos 0))) (next (multiple (negsuc 0) a) (rest m)) (related_speaks (vocabulary ps fs) Geq a (linear.number (pos 0)))
        (r m a) (related_speaks (vocabulary ps fs) Lt a (linear.number (pos 0))) (r m _))
    value_speaks (lesser s t) at n rest k h g r =
        value_speaks s at n _ k h.1 g.1 (λ m a. value_speaks t at m (λ j c. cases (related Leq a c) (rest j a) (related Gt a c) (rest j c)) k h.2 g.2
        (λ j c. cases_speak (vocabulary ps fs) (related Leq a c) (rest j a) (related Gt a c) (rest j c) (related_speaks (vocabulary ps fs) Leq a c) (r j a) (related_speaks (vocabulary ps fs) Gt a c) (r j c)))
    value_speaks (greater s t) at n rest k h g r =
        value_speaks s at n _ k h.1 g.1 (λ m a. value_speaks t at m (λ j c. cases (related Geq a c) (rest j a) (related Lt a c) (rest j c)) k h.2 g.2
        (λ j c. cases_speak (vocabulary ps fs) (related Geq a c) (rest j a) (related Lt a c) (rest j c) (related_speaks (vocabulary ps fs) Geq a c) (r j a) (related_speaks (vocabulary ps fs) Lt a c) (r j c)))

    values_speak : (ts : Expressions) (at : List ℕ) (n : ℕ) (rest : ℕ → List Linear → Traced Form) (k : ℕ) → TermsEverywhere (of_formulas (IsPredicateDeclared ps)) k ts → TermsEverywhere (of_terms (IsFunctionDeclared fs)) k ts
        → ((m : ℕ) (ls : List Linear) → length ls ≡ size ts → SpeaksIn (vocabulary ps fs) (rest m ls).value) → SpeaksIn (vocabulary ps fs) (with_values at ts n rest).value
    values_speak no_expression at n rest k h g r = r n [] refl
    values_speak (and_expression t ts) at n rest k h g r = value_speaks t at n _ k h.0 g.0 (λ m a. values_speak ts at m (λ j ls. rest j (a ∷ ls)) k h.1 g.1 (λ j ls many. r j (a ∷ ls) (ap suc many)))

    sum_speaks : (ts : Expressions) (at : List ℕ) (n : ℕ) (rest : ℕ → Linear → Traced Form) (k : ℕ) → TermsEverywhere (of_formulas (IsPredicateDeclared ps)) k ts → TermsEverywhere (of_terms (IsFunctionDeclared fs)) k ts
        → ((m : ℕ) (a : Linear) → SpeaksIn (vocabulary ps fs) (rest m a).value) → SpeaksIn (vocabulary ps fs) (with_sum at ts n rest).value
    sum_speaks no_expression at n rest k h g r = r n (linear.number (pos 0))
    sum_speaks (and_expression t ts) at n rest k h g r = value_speaks t at n _ k h.0 g.0 (λ m a. more_speaks ts at m a rest k h.1 g.1 r)

    more_speaks : (ts : Expressions) (at : List ℕ) (n : ℕ) (z : Linear) (rest : ℕ → Linear → Traced Form) (k : ℕ) → TermsEverywhere (of_formulas (IsPredicateDeclared ps)) k ts → TermsEverywhere (of_terms (IsFunctionDeclared fs)) k ts
        → ((m : ℕ) (a : Linear) → SpeaksIn (vocabulary ps fs) (rest m a).value) → SpeaksIn (vocabulary ps fs) (with_more at ts n z rest).value
    more_speaks no_expression at n z rest k h g r = r n z
    more_speaks (and_expression (minus t) ts) at n z rest k h g r =
        value_speaks t at n (λ m a. next (combining (pos 1) z (negsuc 0) a) (λ y. with_more at ts m y rest)) k (h.0).1 (g.0).1 (λ m a. more_speaks ts at m _ rest k h.1 g.1 r)
    more_speaks (and_expression t ts) at n z rest k h g r =
        value_speaks t at n (λ m a. next (combining (pos 1) z (pos 1) a) (λ y. with_more at ts m y rest)) k h.0 g.0 (λ m a. more_speaks ts at m _ rest k h.1 g.1 r)

last_speaks : (y : Vocabulary) (m : ℕ) (ss : List Sort) (body : Traced Form) → SpeaksIn y body.value → SpeaksIn y (for_last m ss body).value
unfolding next just
last_speaks y m [] body h = h
last_speaks y m (s ∷ ss) body h = bound_speaks y true m s (for_last (suc m) ss body).value (last_speaks y (suc m) ss body h)

-- the encoding of a problem
pub root_speaks : (p : Problem) → IsWellFormed p → SpeaksIn (vocabulary p.predicates p.functions) (problem_root p).value
unfolding next just
root_speaks p formed =
    let y = vocabulary p.predicates p.functions in
    let m = length p.existential_types in
    let g : Form = (for_last m p.universal_types (body p)).value in
    restricted_speaks y false (conditions (λ x. true) 0 p.existential_types).value g
    (conditions_speak y (λ x. true) 0 p.existential_types (g ∷ [])
    (last_speaks y m p.universal_types (body p) (encoded_speaks p.predicates p.functions (formula p.formula) (names_from 0 (constants p)) (constants p) true 0 formed.predicates formed.functions), tt))
