-- The least value of a term over the integers that satisfy a disjunction of clauses.
use Rattle.std.specs.Prelude.{◌≡◌, ◌≤ℤ◌, ◌<ℤ◌, ◌&&◌, ℕ, ℤ, pos, negsuc, Bool, true, false, List, [], ◌∷◌, length, Option, Some, None}
use Rattle.std.specs.Ordering.{int_eq}
use Rattle.linear_term.specs.Linear.{Linear, IsOver, IsReduced, number, name, value_of}
use Rattle.linear_term.specs.Combination.{combination}
use Rattle.base_budget.specs.Trace.{Traced, just, next, note, new_log, combining}
use Rattle.clause_set.specs.declared.literal.Literal.{Literal}
use Rattle.clause_set.specs.declared.literal.Literal.TheVariants.{Eq}
use Rattle.clause_set.specs.Clauses.{clauses_of}
use Rattle.clause_set.specs.Dnfs.{conjunction}
use Rattle.clause_set.specs.Literals.{dnf_truth}
use Rattle.elim_laws.specs.Whole.{names_out}
use Rattle.solve_laws.specs.Best.{IsBest}
use Rattle.solve_laws.specs.Solutions.{IsGiven, solving}
use Rattle.optimiser.specs.declared.floor.Floor.{Floor}
use Rattle.optimiser.specs.declared.floor.Floor.TheVariants.{Nowhere, At, Unbounded}
use Rattle.optimiser.specs.OneName.{dnf_floor}

-- k is the least value of t over the lists of n integers that satisfy p; t has it at v, which is the best of the lists that
-- satisfy p where t has it
pub record IsLeast (p : List ℤ → Bool) (n : ℕ) (t : List ℤ → ℤ) (k : ℤ) (v : List ℤ) : Type 0 where
  pub satisfies : p v ≡ true
  pub value : t v ≡ k
  pub least : (w : List ℤ) → length w ≡ n → p w ≡ true → k ≤ℤ t w
  pub best : IsBest (λ w. p w && int_eq (t w) k) n v

-- for every integer k some list of n integers satisfies p and gives t a value below k
abbrev pub IsUnbounded : (List ℤ → Bool) → ℕ → (List ℤ → ℤ) → Type 0
IsUnbounded p n t = (k : ℤ) → (w : List ℤ) × (length w ≡ n) × (p w ≡ true) × (t w <ℤ k)

-- what is said of the least value
pub data Minimum : Type 0 where
  nothing : Minimum
  no_least : Minimum
  least_at : ℤ → List ℤ → Minimum

-- m says the least value of t over the lists of n integers that satisfy p
abbrev pub IsMinimum : (List ℤ → Bool) → ℕ → (List ℤ → ℤ) → Minimum → Type 0
IsMinimum p n t nothing = (w : List ℤ) → length w ≡ n → p w ≡ false
IsMinimum p n t no_least = IsUnbounded p n t
IsMinimum p n t (least_at k v) = IsLeast p n t k v

-- some list of n integers that satisfies d gives t the value k
pub record IsAttained (n : ℕ) (d : List (List Literal)) (t : Linear) (k : ℤ) : Type 0 where
  pub values : List ℤ
  pub as_many : length values ≡ n
  pub holds : dnf_truth d values ≡ true
  pub value : value_of t values ≡ k

-- d and t speak of the names below n, and are in form
pub record IsTask (n : ℕ) (d : List (List Literal)) (t : Linear) : Type 0 where
  pub given : IsGiven n d
  pub reduced : IsReduced t
  pub over : IsOver n t

-- d, and the term s is 0
abbrev pub with_zero : List (List Literal) → Linear → Traced (List (List Literal))
with_zero d s = conjunction d (clauses_of ((Eq s ∷ []) ∷ []))

-- d, and the name n is the value of t
abbrev pub with_objective : ℕ → List (List Literal) → Linear → Traced (List (List Literal))
with_objective n d t = next (combining (pos 1) (name n) (negsuc 0) t) (with_zero d)

-- d, and the value of t is k
abbrev pub with_level : List (List Literal) → Linear → ℤ → Traced (List (List Literal))
with_level d t k = next (combining (pos 1) t (negsuc 0) (number k)) (with_zero d)

abbrev pub at_values : ℤ → Option (List ℤ) → Minimum
at_values k None = nothing
at_values k (Some vs) = least_at k vs

-- where the values of t begin, and the best values of the names where t has the least one; that search begins a log
abbrev pub by_floor : ℕ → List (List Literal) → Linear → Floor → Traced Minimum
by_floor n d t Nowhere = just nothing
by_floor n d t Unbounded = just no_least
by_floor n d t (At k) = next (with_level d t k) (λ b. next (note new_log) (λ _. next (solving n b) (λ o. just (at_values k o))))

-- where the values of t begin, over the n names of d: the name n is the value of t, the others go out
unfoldable pub values_floor : ℕ → List (List Literal) → Linear → Traced Floor
values_floor n d t = next (with_objective n d t) (λ b. next (names_out n b) (dnf_floor n))

-- the least value of t over the n names of d
unfoldable pub minimising : ℕ → List (List Literal) → Linear → Traced Minimum
minimising n d t = next (values_floor n d t) (by_floor n d t)
