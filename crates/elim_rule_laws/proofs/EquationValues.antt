-- The rules' results are the clauses of what they leave.
use Rattle.std.proofs.Common.{◌≡◌, ◌-◌, ℕ, ℤ, unsigned_abs, Bool, true, false, cond, List, [], ◌∷◌, ◌++◌, map, Option, Some, None, refl, ◌∙◌, ap}
use Rattle.std.specs.List.{flat_map}
use Rattle.std.specs.Prelude.{remove, slice_get, slice_set}
use Rattle.std.proofs.lemmas.List.{append-nil}
use Rattle.linear_term.specs.Linear.{Linear, coef_of, without}
use Rattle.base_budget.specs.Trace.{just, next, step}
use Rattle.base_budget.specs.declared.log.Entry.TheVariants.{Equation, Apart, Merge, Shift}
use Rattle.clause_set.specs.declared.literal.Literal.{Literal}
use Rattle.clause_set.specs.declared.literal.Literal.TheVariants.{Eq, Geq, Div, NDiv}
use Rattle.clause_set.specs.Names.{has, coefficient, remainder}
use Rattle.clause_set.specs.Clauses.{clause_of, found, clauses_of}
use Rattle.clause_set.specs.Bezout.{Bezout, bezout}
use Rattle.clause_set.specs.Equations.{size_of, solved, solved_or_kept, equation_at, equation}
use Rattle.clause_set.specs.Divisibilities.{numbers_from, with_remainder, apart_at, apart, merge_with, merge_at, merge, shifted_bound, shifted, shift_at, shift}
use Rattle.clause_set.specs.Rules.{rule}
use Rattle.elim_rule_laws.specs.EquationResults.{scaled_literal, solved_literal, solved_by, equation_results, raised, split_at, apart_results, joined_second, joined_first, merge_results, shifted_term, shifted_literal, shifted_by, shift_results}
use Rattle.base_budget.proofs.Tracing.{each-value}
use Rattle.elim_rule_laws.proofs.EquationLists.{each-map}

-- ---- equation
solved-value : (x : ℕ) (a : ℤ) (s : Linear) (l : Literal) → (solved x a s l).value ≡ scaled_literal x a s l ∷ []
unfolding next just step
solved-value x a s (Eq u) = refl
solved-value x a s (Geq u) = refl
solved-value x a s (Div d u) = refl
solved-value x a s (NDiv d u) = refl

solved_or_kept-value : (x : ℕ) (a : ℤ) (s : Linear) (l : Literal) → (solved_or_kept x a s l).value ≡ solved_literal x a s l ∷ []
unfolding just
solved_or_kept-value x a s l = by (has x l)
  where
    by : (b : Bool) → (cond b (solved x a s l) (just (l ∷ []))).value ≡ cond b (scaled_literal x a s l) l ∷ []
    by true = solved-value x a s l
    by false = refl

equation_at-value : (x i : ℕ) (c : List Literal) (o : Option Literal) → (equation_at x i c o).value ≡ clauses_of (solved_by x (remove c i) o)
unfolding next just step
equation_at-value x i c None = refl
equation_at-value x i c (Some l) =
    ap (λ ls. clauses_of ((Div (size_of (coefficient x l)) (remainder x l) ∷ ls) ∷ []))
    (each-map (solved_or_kept x (coefficient x l) (remainder x l)) (solved_literal x (coefficient x l) (remainder x l))
    (solved_or_kept-value x (coefficient x l) (remainder x l)) (remove c i))

pub equation-value : (x i : ℕ) (c : List Literal) → (rule x c (Equation i)).value ≡ clauses_of (equation_results x i c)
unfolding rule equation
equation-value x i c = equation_at-value x i c (slice_get c i)

-- ---- apart
clauses-each : {X : Type 0} (f : X → List Literal) (xs : List X) → flat_map (λ x. clauses_of (f x ∷ [])) xs ≡ clauses_of (map f xs)
clauses-each f [] = refl
clauses-each f (x ∷ xs) = ap (λ cs. cs ++ flat_map (λ y. clauses_of (f y ∷ [])) xs) (append-nil (found (clause_of (f x)))) ∙ ap (λ cs. found (clause_of (f x)) ++ cs) (clauses-each f xs)

with_remainder-value : (i : ℕ) (c : List Literal) (d : ℤ) (t : Linear) (r : ℕ) → (with_remainder i c d t r).value ≡ clauses_of (slice_set c i (Div d (raised t r)) ∷ [])
unfolding next just step
with_remainder-value i c d t r = refl

flat_map_same : {X Y : Type 0} (f g : X → List Y) → ((x : X) → f x ≡ g x) → (xs : List X) → flat_map f xs ≡ flat_map g xs
flat_map_same f g h [] = refl
flat_map_same f g h (x ∷ xs) = ap (λ ys. ys ++ flat_map f xs) (h x) ∙ ap (λ ys. g x ++ ys) (flat_map_same f g h xs)

apart_at-value : (i : ℕ) (c : List Literal) (o : Option Literal) → (apart_at i c o).value ≡ clauses_of (split_at i c o)
unfolding next just step
apart_at-value i c None = refl
apart_at-value i c (Some (Eq t)) = refl
apart_at-value i c (Some (Geq t)) = refl
apart_at-value i c (Some (Div d t)) = refl
apart_at-value i c (Some (NDiv d t)) =
    let ns : List ℕ = numbers_from 1 (unsigned_abs d - 1) in
    each-value (with_remainder i c d t) ns []
    ∙ flat_map_same (λ r. (with_remainder i c d t r).value) (λ r. clauses_of (slice_set c i (Div d (raised t r)) ∷ [])) (with_remainder-value i c d t) ns
    ∙ clauses-each (λ r. slice_set c i (Div d (raised t r))) ns

pub apart-value : (x i : ℕ) (c : List Literal) → (rule x c (Apart i)).value ≡ clauses_of (apart_results i c)
unfolding rule apart
apart-value x i c = apart_at-value i c (slice_get c i)

-- ---- merge
merge_with-value : (x : ℕ) (c rest : List Literal) (d : ℤ) (t : Linear) (o : Option Literal) → (merge_with x c rest d t o).value ≡ clauses_of (joined_second x rest d t o)
unfolding next just step
merge_with-value x c rest d t None = refl
merge_with-value x c rest d t (Some (Eq u)) = refl
merge_with-value x c rest d t (Some (Geq u)) = refl
merge_with-value x c rest d t (Some (Div k u)) = refl
merge_with-value x c rest d t (Some (NDiv k u)) = refl

merge_at-value : (x : ℕ) (c rest : List Literal) (o p : Option Literal) → (merge_at x c rest o p).value ≡ clauses_of (joined_first x rest o p)
unfolding just
merge_at-value x c rest None p = refl
merge_at-value x c rest (Some (Eq t)) p = refl
merge_at-value x c rest (Some (Geq t)) p = refl
merge_at-value x c rest (Some (Div d t)) p = merge_with-value x c rest d t p
merge_at-value x c rest (Some (NDiv d t)) p = refl

pub merge-value : (x i j : ℕ) (c : List Literal) → (rule x c (Merge i j)).value ≡ clauses_of (merge_results x i j c)
unfolding rule merge
merge-value x i j c = merge_at-value x c (remove (remove c j) i) (slice_get c i) (slice_get c j)

-- ---- shift
shifted_bound-value : (x : ℕ) (d : ℤ) (z : Bezout) (t r : Linear) → (shifted_bound x d z t r).value ≡ Geq (shifted_term x d z t r) ∷ []
unfolding next just step
shifted_bound-value x d z t r = refl

shifted-value : (x : ℕ) (d : ℤ) (z : Bezout) (t : Linear) (l : Literal) → (shifted x d z t l).value ≡ shifted_literal x d z t l ∷ []
unfolding just
shifted-value x d z t (Geq r) = by (has x (Geq r))
  where
    by : (b : Bool) → (cond b (shifted_bound x d z t r) (just (Geq r ∷ []))).value ≡ cond b (Geq (shifted_term x d z t r)) (Geq r) ∷ []
    by true = shifted_bound-value x d z t r
    by false = refl
shifted-value x d z t (Eq r) = refl
shifted-value x d z t (Div k r) = refl
shifted-value x d z t (NDiv k r) = refl

shift_at-value : (x : ℕ) (c rest : List Literal) (o : Option Literal) → (shift_at x c rest o).value ≡ clauses_of (shifted_by x rest o)
unfolding next just step
shift_at-value x c rest None = refl
shift_at-value x c rest (Some (Eq t)) = refl
shift_at-value x c rest (Some (Geq t)) = refl
shift_at-value x c rest (Some (NDiv d t)) = refl
shift_at-value x c rest (Some (Div d t)) =
    ap (λ ls. clauses_of ((Div (bezout (coef_of t x) d).g (without t x) ∷ ls) ∷ []))
    (each-map (shifted x d (bezout (coef_of t x) d) t) (shifted_literal x d (bezout (coef_of t x) d) t) (shifted-value x d (bezout (coef_of t x) d) t) rest)

pub shift-value : (x i : ℕ) (c : List Literal) → (rule x c (Shift i)).value ≡ clauses_of (shift_results x i c)
unfolding rule shift
shift-value x i c = shift_at-value x c (remove c i) (slice_get c i)
