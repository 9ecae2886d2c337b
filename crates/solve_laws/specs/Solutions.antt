-- Solving a disjunction of clauses for its names, one by one, with the charges.
use Rattle.std.specs.Prelude.{ℕ, zero, suc, ◌+◌, ℤ, pos, List, [], ◌∷◌, ◌++◌, Option, Some, None, All}
use Rattle.std.specs.List.{AllByRecursion}
use Rattle.linear_term.specs.Linear.{Linear, number, coef_of, without}
use Rattle.base_budget.specs.Trace.{Traced, just, next, pay, note, new_log, combining, each}
use Rattle.clause_set.specs.declared.literal.Literal.{Literal}
use Rattle.clause_set.specs.declared.literal.Literal.TheVariants.{Eq, Geq, Div, NDiv}
use Rattle.clause_set.specs.Clauses.{clauses_of}
use Rattle.clause_set.specs.Dnfs.{tidying}
use Rattle.clause_set.specs.Kept.{AreFormed}
use Rattle.clause_set.specs.Primitive.{IsShaped}
use Rattle.clause_set.specs.Weight.{weight}
use Rattle.elim_laws.specs.Elimination.{exists_name}
use Rattle.elim_laws.specs.Whole.{AreOver, names_out}
use Rattle.solve_laws.specs.Nearest.{nearest}
use Rattle.solve_laws.specs.Candidates.{charged_candidates}

-- what clauses over n names have: their literals are in form, and their names below n
pub record IsGiven (n : ℕ) (d : List (List Literal)) : Type 0 where
  pub formed : AreFormed d
  pub shaped : AllByRecursion (All IsShaped) d
  pub over : AreOver n d

-- b·j + t where j is v
abbrev pub valued_term : ℕ → ℤ → Linear → Traced Linear
valued_term j v t = combining (pos 1) (without t j) (coef_of t j) (number v)

abbrev pub valued : ℕ → ℤ → Literal → Traced (List Literal)
valued j v (Eq t) = next (valued_term j v t) (λ s. just (Eq s ∷ []))
valued j v (Geq t) = next (valued_term j v t) (λ s. just (Geq s ∷ []))
valued j v (Div d t) = next (valued_term j v t) (λ s. just (Div d s ∷ []))
valued j v (NDiv d t) = next (valued_term j v t) (λ s. just (NDiv d s ∷ []))

abbrev pub valued_clause : ℕ → ℤ → List Literal → Traced (List (List Literal))
valued_clause j v c = next (each (valued j v) c []) (λ ls. just (clauses_of (ls ∷ [])))

-- d where j is v
unfoldable pub with_value : ℕ → ℤ → List (List Literal) → Traced (List (List Literal))
with_value j v d = next (pay (1 + weight d)) (λ _. next (each (valued_clause j v) d []) (λ cs. tidying cs))

-- the value of j that is nearest to 0, where d speaks of j alone
unfoldable pub chosen : ℕ → List (List Literal) → Traced ℤ
chosen j d = next (each (charged_candidates j) d []) (λ vs. just (nearest vs))

-- the k names from j on out of d, the last of them first
abbrev pub names_from : ℕ → ℕ → List (List Literal) → Traced (List (List Literal))
names_from zero j d = just d
names_from (suc k) j d = next (exists_name (j + k) d) (λ r. names_from k j r)

-- values for the k names from j on, after those in vs; the elimination for each value begins a log
abbrev pub values_at : ℕ → ℕ → List (List Literal) → List ℤ → Traced (List ℤ)
values_at zero j d vs = just vs
values_at (suc k) j d vs =
    next (note new_log) (λ _. next (names_from k (suc j) d) (λ left. next (chosen j left) (λ v. next (with_value j v d) (λ r. values_at k (suc j) r (vs ++ v ∷ [])))))

-- the values for n names, where the disjunction that is left without names is not false
abbrev pub answered : ℕ → List (List Literal) → List (List Literal) → Traced (Option (List ℤ))
answered n d [] = just None
answered n d (c ∷ cs) = next (values_at n 0 d []) (λ vs. just (Some vs))

-- all names go out; then the values are found one by one
unfoldable pub solving : ℕ → List (List Literal) → Traced (Option (List ℤ))
solving n d = next (names_out n d) (answered n d)
