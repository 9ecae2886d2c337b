-- Solving a disjunction of clauses gives the best of the lists that satisfy it.
use Rattle.std.proofs.Common.{◌≡◌, ◌≢◌, ◌+◌, ◌≤◌, ℕ, zero, suc, ℤ, pos, ◌+ℤ◌, ◌*ℤ◌, unsigned_abs, int_le, Bool, true, false, not, ◌||◌, cond, List, [], ◌∷◌, ◌++◌, map, length, Some, None, refl, sym, ◌∙◌, ap, subst, arith, append_assoc}
use Rattle.std.specs.Prelude.{◌↔◌, All}
use Rattle.std.specs.List.{flat_map, AllByRecursion}
use Rattle.std.specs.Ordering.{int_eq}
use Rattle.std.proofs.lemmas.Int.{ints}
use Rattle.std.proofs.lemmas.List.{append-nil}
use Rattle.std.proofs.lemmas.List.Elements.{All-from_recursion}
use Rattle.base_integers.specs.Divides.{divides}
use Rattle.base_integers.specs.Entry.{entry, put}
use Rattle.linear_term.specs.Linear.{Linear, IsReduced, value_of, coef_of, number, without}
use Rattle.linear_term.specs.Combination.{combination}
use Rattle.linear_term.proofs.Names.{value_of-put, reduced-combination, reduced-without}
use Rattle.linear_term.proofs.Totals.{value_of-combination, value_of-number}
use Rattle.clause_set.specs.declared.literal.Literal.{Literal}
use Rattle.clause_set.specs.declared.literal.Literal.TheVariants.{Eq, Geq, Div, NDiv}
use Rattle.clause_set.specs.Literals.{IsLiteral, literal_truth, clause_truth, dnf_truth, term_of}
use Rattle.clause_set.specs.Clauses.{found, clause_of, clauses_of}
use Rattle.clause_set.specs.Dnfs.{tidied}
use Rattle.clause_set.proofs.Operations.{clauses_of-truth}
use Rattle.clause_set.proofs.Covers.{tidied-truth}
use Rattle.base_integers.specs.Gcd.{gcd}
use Rattle.base_budget.specs.Trace.{just, step, next, each}
use Rattle.base_budget.proofs.Tracing.{each-value}
use Rattle.elim_rule_laws.proofs.EquationLists.{each-map, all-mapped, kept-mapped, kept-weaker}
use Rattle.solve_laws.specs.Best.{rank, IsBest}
use Rattle.solve_laws.proofs.Method.{Method, Laws, out_from, values_from, solved}
use Rattle.solve_laws.proofs.Bests.{IsFirst, solved-best, solved-none}
use Rattle.solve_laws.specs.Nearest.{AreCandidates}
use Rattle.clause_set.specs.Primitive.{IsSingleWith, IsUnit}
use Rattle.clause_set.specs.Formed.{IsFormed}
use Rattle.clause_set.specs.Kept.{AreFormed}
use Rattle.clause_set.proofs.Shapes.{IsOn, clauses_of-formed}
use Rattle.clause_set.proofs.Kept.{tidied-kept}
use Rattle.solve_laws.proofs.Spans.{IsIn, IsName, IsFrom, Spans}
use Rattle.solve_laws.proofs.Outs.{exists_name-met, exists_name-spans}
use Rattle.solve_laws.specs.Candidates.{charged_candidates}
use Rattle.elim_laws.specs.Elimination.{exists_name}
use Rattle.elim_laws.specs.Whole.{names_out}
use Rattle.solve_laws.specs.Solutions.{IsGiven, valued, valued_clause, with_value, chosen, names_from, values_at, answered, solving}
use Rattle.solve_laws.proofs.Ranks.{nearest-best, candidates-flat, nearer-rank}
use Rattle.solve_laws.proofs.Spans.{given-spans}
use Rattle.solve_laws.proofs.Splits.{clauses-in, combination-on, without-on, candidates-exact}

-- ---- disjunctions in form whose names are from j on and below n
on-weaker : (M N : ℕ → Type 0) → ((y : ℕ) → M y → N y) → (l : Literal) → IsIn M l → IsIn N l
on-weaker M N f l h = record { formed = h.formed; shaped = h.shaped; on = kept-weaker (λ p. M p.0) (λ p. N p.0) (λ p k. f p.0 k) (term_of l).pairs h.on }

clause-weaker : (M N : ℕ → Type 0) → ((y : ℕ) → M y → N y) → (c : List Literal) → AllByRecursion (IsIn M) c → AllByRecursion (IsIn N) c
clause-weaker M N f c h = kept-weaker (IsIn M) (IsIn N) (on-weaker M N f) c h

-- ---- the chosen value
the_name : (j y : ℕ) → IsFrom j (suc j) y → IsName j y
the_name j y h = omega (arith, h.0, h.1)

all_candidates : (j : ℕ) (e : List ℤ) (d : List (List Literal)) → Spans j (suc j) d
    → AllByRecursion (λ c. AreCandidates (λ v. clause_truth c (put e j v)) (charged_candidates j c).value) d
unfolding next
all_candidates j e [] s = tt
all_candidates j e (c ∷ cs) s = (candidates-exact j c e (clause-weaker (IsFrom j (suc j)) (IsName j) (the_name j) c s.0), all_candidates j e cs s.1)

pub chosen-best : (j : ℕ) (d : List (List Literal)) (e : List ℤ) (u : ℤ) → Spans j (suc j) d → dnf_truth d (put e j u) ≡ true
    → (dnf_truth d (put e j (chosen j d).value) ≡ true) × (rank (chosen j d).value ≤ rank u)
unfolding chosen next just
chosen-best j d e u s t =
    nearest-best (λ v. dnf_truth d (put e j v)) (each (charged_candidates j) d []).value u
    (subst (AreCandidates (λ v. dnf_truth d (put e j v))) (sym (each-value (charged_candidates j) d []))
    (candidates-flat (λ c v. clause_truth c (put e j v)) (λ c. (charged_candidates j c).value) d (all_candidates j e d s))) t

-- ---- a value put in
valued_literal : ℕ → ℤ → Literal → Literal
valued_literal j v (Eq t) = Eq (combination (pos 1) (without t j) (coef_of t j) (number v))
valued_literal j v (Geq t) = Geq (combination (pos 1) (without t j) (coef_of t j) (number v))
valued_literal j v (Div d t) = Div d (combination (pos 1) (without t j) (coef_of t j) (number v))
valued_literal j v (NDiv d t) = NDiv d (combination (pos 1) (without t j) (coef_of t j) (number v))

valued-is : (j : ℕ) (v : ℤ) (l : Literal) → (valued j v l).value ≡ valued_literal j v l ∷ []
unfolding valued_literal next just step
valued-is j v (Eq t) = refl
valued-is j v (Geq t) = refl
valued-is j v (Div d t) = refl
valued-is j v (NDiv d t) = refl

term-value : (t : Linear) (j : ℕ) (v : ℤ) (e : List ℤ) → value_of (combination (pos 1) (without t j) (coef_of t j) (number v)) e ≡ value_of t (put e j v)
term-value t j v e =
    value_of-combination (pos 1) (coef_of t j) (without t j) (number v) e ∙ ap (λ z. (pos 1 *ℤ value_of (without t j) e) +ℤ (coef_of t j *ℤ z)) (value_of-number v e)
    ∙ omega (arith, ints, value_of-put t j e v)

valued-truth : (j : ℕ) (v : ℤ) (e : List ℤ) (l : Literal) → literal_truth (valued_literal j v l) e ≡ literal_truth l (put e j v)
unfolding valued_literal
valued-truth j v e (Eq t) = ap (λ z. int_eq z (pos 0)) (term-value t j v e)
valued-truth j v e (Geq t) = ap (λ z. int_le (pos 0) z) (term-value t j v e)
valued-truth j v e (Div d t) = ap (λ z. divides (unsigned_abs d) z) (term-value t j v e)
valued-truth j v e (NDiv d t) = ap (λ z. not (divides (unsigned_abs d) z)) (term-value t j v e)

value-reduced : (j : ℕ) (v : ℤ) (t : Linear) → IsReduced t → IsReduced (combination (pos 1) (without t j) (coef_of t j) (number v))
value-reduced j v t h =
    reduced-combination (pos 1) (coef_of t j) (without t j) (number v) (reduced-without t j h) (record { rising = tt; not_zero = All-from_recursion (λ p. p.1 ≢ pos 0) [] tt })

value-on : (j n : ℕ) (v : ℤ) (t : Linear) → AllByRecursion (λ p. IsFrom j n p.0) t.pairs → AllByRecursion (λ p. IsFrom (suc j) n p.0) (combination (pos 1) (without t j) (coef_of t j) (number v)).pairs
value-on j n v t h =
    combination-on (IsFrom (suc j) n) (pos 1) (coef_of t j) (without t j) (number v)
    (kept-weaker (λ p. IsFrom j n p.0 × (p.0 ≢ j)) (λ p. IsFrom (suc j) n p.0) (λ p k. later p.0 k) (without t j).pairs (without-on (IsFrom j n) j t h)) tt
  where
    later : (y : ℕ) → IsFrom j n y × (y ≢ j) → IsFrom (suc j) n y
    later y k = (omega (arith, k.0.0, k.1), k.0.1)

-- clauses with the value put into each literal
valued_clauses : ℕ → ℤ → List (List Literal) → List (List Literal)
valued_clauses j v [] = []
valued_clauses j v (c ∷ cs) = map (valued_literal j v) c ∷ valued_clauses j v cs

clauses-are : (j : ℕ) (v : ℤ) (d : List (List Literal)) → flat_map (λ c. (valued_clause j v c).value) d ≡ clauses_of (valued_clauses j v d)
unfolding next just valued_clauses
clauses-are j v [] = refl
clauses-are j v (c ∷ cs) =
    ap (λ ls. clauses_of (ls ∷ []) ++ flat_map (λ b. (valued_clause j v b).value) cs) (each-map (valued j v) (valued_literal j v) (valued-is j v) c)
    ∙ ap (λ r. r ++ flat_map (λ b. (valued_clause j v b).value) cs) (append-nil (found (clause_of (map (valued_literal j v) c))))
    ∙ ap (λ r. found (clause_of (map (valued_literal j v) c)) ++ r) (clauses-are j v cs)

with_value-is : (j : ℕ) (v : ℤ) (d : List (List Literal)) → (with_value j v d).value ≡ tidied (clauses_of (valued_clauses j v d))
unfolding with_value next just
with_value-is j v d = ap tidied (each-value (valued_clause j v) d [] ∙ clauses-are j v d)

valued-literals : (j : ℕ) (v : ℤ) (l : Literal) → IsLiteral l → IsLiteral (valued_literal j v l)
unfolding valued_literal
valued-literals j v (Eq t) h = record { term = value-reduced j v t h.term; divisor = tt }
valued-literals j v (Geq t) h = record { term = value-reduced j v t h.term; divisor = tt }
valued-literals j v (Div d t) h = record { term = value-reduced j v t h.term; divisor = h.divisor }
valued-literals j v (NDiv d t) h = record { term = value-reduced j v t h.term; divisor = h.divisor }

valued-on : (j n : ℕ) (v : ℤ) (l : Literal) → IsOn (IsFrom j n) l → IsOn (IsFrom (suc j) n) (valued_literal j v l)
unfolding valued_literal
valued-on j n v (Eq t) h = value-on j n v t h
valued-on j n v (Geq t) h = value-on j n v t h
valued-on j n v (Div d t) h = value-on j n v t h
valued-on j n v (NDiv d t) h = value-on j n v t h

clause-literals : (j : ℕ) (v : ℤ) (c : List Literal) → AllByRecursion IsLiteral c → AllByRecursion IsLiteral (map (valued_literal j v) c)
clause-literals j v c h = kept-mapped IsLiteral IsLiteral (valued_literal j v) (λ l k. valued-literals j v l k) c h

clause-on : (j n : ℕ) (v : ℤ) (c : List Literal) → AllByRecursion (IsIn (IsFrom j n)) c → AllByRecursion (IsOn (IsFrom (suc j) n)) (map (valued_literal j v) c)
clause-on j n v c h = kept-mapped (IsIn (IsFrom j n)) (IsOn (IsFrom (suc j) n)) (valued_literal j v) (λ l k. valued-on j n v l k.on) c h

all-literals : (j : ℕ) (v : ℤ) (d : List (List Literal)) → AllByRecursion (AllByRecursion IsLiteral) d → AllByRecursion (AllByRecursion IsLiteral) (valued_clauses j v d)
unfolding valued_clauses
all-literals j v [] h = tt
all-literals j v (c ∷ cs) h = (clause-literals j v c h.0, all-literals j v cs h.1)

all-on : (j n : ℕ) (v : ℤ) (d : List (List Literal)) → Spans j n d → AllByRecursion (AllByRecursion (IsOn (IsFrom (suc j) n))) (valued_clauses j v d)
unfolding valued_clauses
all-on j n v [] s = tt
all-on j n v (c ∷ cs) s = (clause-on j n v c s.0, all-on j n v cs s.1)

all-truth : (j : ℕ) (v : ℤ) (e : List ℤ) (d : List (List Literal)) → AllByRecursion (AllByRecursion IsLiteral) d → dnf_truth (valued_clauses j v d) e ≡ dnf_truth d (put e j v)
unfolding valued_clauses
all-truth j v e [] h = refl
all-truth j v e (c ∷ cs) h =
    ap (λ b. b || dnf_truth (valued_clauses j v cs) e)
    (all-mapped IsLiteral (λ l. literal_truth l (put e j v)) (λ l. literal_truth l e) (valued_literal j v) (λ l _. valued-truth j v e l) c h.0)
    ∙ ap (λ b. clause_truth c (put e j v) || b) (all-truth j v e cs h.1)

spans-literals : (j n : ℕ) (d : List (List Literal)) → Spans j n d → AllByRecursion (AllByRecursion IsLiteral) d
spans-literals j n d s = kept-weaker (AllByRecursion (IsIn (IsFrom j n))) (AllByRecursion IsLiteral) (λ c h. kept-weaker (IsIn (IsFrom j n)) IsLiteral (λ l k. k.formed.literal) c h) d s

-- the value put into clauses, and their tidy form
pub put-truth : (j : ℕ) (v : ℤ) (d : List (List Literal)) (e : List ℤ) → AllByRecursion (AllByRecursion IsLiteral) d → dnf_truth (tidied (each (valued_clause j v) d []).value) e ≡ dnf_truth d (put e j v)
put-truth j v d e h =
    ap (λ r. dnf_truth (tidied r) e) (each-value (valued_clause j v) d [] ∙ clauses-are j v d) ∙ tidied-truth (clauses_of (valued_clauses j v d)) e
    ∙ clauses_of-truth (valued_clauses j v d) e (kept-weaker (AllByRecursion IsLiteral) (All IsLiteral) (λ r f. All-from_recursion IsLiteral r f) (valued_clauses j v d) (all-literals j v d h))
    ∙ all-truth j v e d h

pub put-formed : (j : ℕ) (v : ℤ) (d : List (List Literal)) → AllByRecursion (AllByRecursion IsLiteral) d → AreFormed (tidied (each (valued_clause j v) d []).value)
put-formed j v d h =
    subst (λ r. AreFormed (tidied r)) (sym (each-value (valued_clause j v) d [] ∙ clauses-are j v d))
    (tidied-kept (All IsFormed) (clauses_of (valued_clauses j v d))
    (clauses_of-formed (valued_clauses j v d) (kept-weaker (AllByRecursion IsLiteral) (All IsLiteral) (λ r f. All-from_recursion IsLiteral r f) (valued_clauses j v d) (all-literals j v d h))))

pub with_value-truth : (j n : ℕ) (v : ℤ) (d : List (List Literal)) (e : List ℤ) → Spans j n d → dnf_truth (with_value j v d).value e ≡ dnf_truth d (put e j v)
unfolding with_value next just
with_value-truth j n v d e s = put-truth j v d e (spans-literals j n d s)

pub with_value-spans : (j n : ℕ) (v : ℤ) (d : List (List Literal)) → Spans j n d → Spans (suc j) n (with_value j v d).value
with_value-spans j n v d s =
    subst (Spans (suc j) n) (sym (with_value-is j v d))
    (tidied-kept (AllByRecursion (IsIn (IsFrom (suc j) n))) (clauses_of (valued_clauses j v d)) (clauses-in (IsFrom (suc j) n) (valued_clauses j v d) (all-literals j v d (spans-literals j n d s)) (all-on j n v d s)))

-- ---- without names
no_names : (U : ℤ → Type 0) (j : ℕ) (ps : List (ℕ × ℤ)) → IsSingleWith U ps → AllByRecursion (λ p. IsFrom j j p.0) ps → ⊥
no_names U j [] s o = s
no_names U j (p ∷ ps) s o = omega (arith, o.0.0, o.0.1)

no_literal : (j : ℕ) (l : Literal) → IsIn (IsFrom j j) l → ⊥
no_literal j (Eq t) h = no_names (λ a. a ≡ pos 1) j t.pairs h.shaped h.on
no_literal j (Geq t) h = no_names IsUnit j t.pairs h.shaped h.on
no_literal j (Div d t) h = no_names (λ a. gcd a d ≡ pos 1) j t.pairs h.shaped h.on
no_literal j (NDiv d t) h = no_names (λ a. gcd a d ≡ pos 1) j t.pairs h.shaped h.on

is_empty : List (List Literal) → Bool
is_empty [] = true
is_empty (c ∷ cs) = false

closed-truth : (j : ℕ) (d : List (List Literal)) (e : List ℤ) → Spans j j d → dnf_truth d e ≡ not (is_empty d)
unfolding is_empty
closed-truth j [] e s = refl
closed-truth j ([] ∷ cs) e s = refl
closed-truth j ((l ∷ ls) ∷ cs) e s = absurd (no_literal j l s.0.0)

-- ---- the method
method : Method (List (List Literal))
method = record {
  truth = dnf_truth;
  without = λ x d. (exists_name x d).value;
  chosen = λ j d. (chosen j d).value;
  with_value = λ j v d. (with_value j v d).value;
  is_false = is_empty;
}

method-laws : Laws method Spans
unfolding method
method-laws = record {
  out_met = λ j x d e le s. exists_name-met j x d e s;
  out_spans = exists_name-spans;
  chosen_best = chosen-best;
  value_truth = λ j n v d e s. with_value-truth j n v d e s;
  value_spans = with_value-spans;
  closed = closed-truth;
}

-- ---- the work's value
out-value : (k j : ℕ) (d : List (List Literal)) → (names_from k j d).value ≡ out_from method k j d
unfolding next just method
out-value zero j d = refl
out-value (suc k) j d = out-value k j (exists_name (j + k) d).value

values-value : (k j : ℕ) (d : List (List Literal)) (vs : List ℤ) → (values_at k j d vs).value ≡ vs ++ values_from method k j d
unfolding next just step method
values-value zero j d vs = sym (append-nil vs)
values-value (suc k) j d vs =
    let left : List (List Literal) = (names_from k (suc j) d).value in
    let v : ℤ = (chosen j left).value in
    values-value k (suc j) (with_value j v d).value (vs ++ v ∷ []) ∙ append_assoc vs (v ∷ []) (values_from method k (suc j) (with_value j v d).value)
    ∙ ap (λ m. vs ++ ((chosen j m).value ∷ values_from method k (suc j) (with_value j (chosen j m).value d).value)) (out-value k (suc j) d)

all-value : (n : ℕ) (d : List (List Literal)) → (names_out n d).value ≡ out_from method n 0 d
unfolding next just method
all-value zero d = refl
all-value (suc n) d = all-value n (exists_name n d).value ∙ ap (λ (x : ℕ). out_from method n 0 (exists_name x d).value) (let e : n ≡ 0 + n = omega arith in e)

solving-value : (n : ℕ) (d : List (List Literal)) → (solving n d).value ≡ solved method n d
unfolding solving next just method is_empty
solving-value n d = by (names_out n d).value (all-value n d)
  where
    by : (left : List (List Literal)) → left ≡ out_from method n 0 d → (answered n d left).value ≡ solved method n d
    by [] e = ap (λ m. cond (is_empty m) None (Some (values_from method n 0 d))) e
    by (c ∷ cs) e = ap (λ vs. Some vs) (values-value n 0 d []) ∙ ap (λ m. cond (is_empty m) None (Some (values_from method n 0 d))) e

first-best : (p : List ℤ → Bool) (n : ℕ) (v : List ℤ) → IsFirst p n v → IsBest p n v
first-best p n v h = record {
  names = h.names;
  satisfies = h.satisfies;
  best = λ w l t j lt e k. let r = nearer-rank (entry w j) (entry v j) k in let s = h.best w l t j lt e in omega (arith, r, s);
}

-- the values are the best of the lists that satisfy d, and none come exactly where no list satisfies d
pub solving-best : (n : ℕ) (d : List (List Literal)) (v : List ℤ) → IsGiven n d → (solving n d).value ≡ Some v → IsBest (dnf_truth d) n v
unfolding method
solving-best n d v s e = first-best (dnf_truth d) n v (solved-best method Spans method-laws n d v (given-spans n d s) (sym (solving-value n d) ∙ e))

pub solving-none : (n : ℕ) (d : List (List Literal)) → IsGiven n d → ((solving n d).value ≡ None) ↔ ((w : List ℤ) → length w ≡ n → dnf_truth d w ≡ false)
unfolding method
solving-none n d s =
    let k = solved-none method Spans method-laws n d (given-spans n d s) in
    (λ e. k.0 (sym (solving-value n d) ∙ e), λ f. solving-value n d ∙ k.1 f)
