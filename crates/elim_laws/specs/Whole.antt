-- Elimination of all quantifiers of a formula.
use Rattle.std.specs.List.{AllByRecursion}
use Rattle.clause_set.specs.Names.{has}
use Rattle.std.specs.Prelude.{◌≡◌, ◌≤◌, ℕ, zero, suc, ◌+◌, ℤ, true, false, List, [], ◌∷◌, length}
use Rattle.base_budget.specs.Trace.{Traced, just, next, pay}
use Rattle.linear_term.specs.Linear.{Linear}
use Rattle.clause_set.specs.declared.literal.Literal.{Literal}
use Rattle.clause_set.specs.declared.literal.Literal.TheVariants.{Eq, Geq}
use Rattle.clause_set.specs.Clauses.{clauses_of}
use Rattle.clause_set.specs.Dnfs.{negated_literal, conjunction, disjunction, negation, tidied, top}
use Rattle.clause_set.specs.Literals.{dnf_truth}
use Rattle.clause_set.specs.Kept.{AreFormed}
use Rattle.elim_laws.specs.Elimination.{exists_name, Reflects}
use Rattle.formula.specs.Form as tree
use Rattle.formula.specs.Form.{Form, Forms}
use Rattle.formula.specs.Sizes.{size, depth}
use Rattle.elim_laws.specs.Presburger.{IsPresburgerTrue}
use Rattle.formula.specs.Duals.{dual}

-- the charge of an atom: 1 and its monomials
abbrev pub paid : Linear → Traced (List (List Literal)) → Traced (List (List Literal))
paid t work = next (pay (1 + length t.pairs)) (λ _. work)

-- the two sides of t ≠ 0, in form
abbrev pub two_sides : Linear → Traced (List (List Literal))
two_sides t = next (negated_literal (Eq t)) (λ cs. just (tidied cs))

-- "and" of the members, after d
abbrev pub all_of : (Form → Traced (List (List Literal))) → Forms → List (List Literal) → Traced (List (List Literal))
all_of f tree.no_form d = just d
all_of f (tree.and_form g gs) d = next (f g) (λ c. next (conjunction d c) (λ both. all_of f gs both))

-- "or" of the members, after d
abbrev pub any_of : (Form → Traced (List (List Literal))) → Forms → List (List Literal) → Traced (List (List Literal))
any_of f tree.no_form d = just d
any_of f (tree.and_form g gs) d = next (f g) (λ c. next (disjunction d c) (λ both. any_of f gs both))

-- the disjunction of clauses that is true where f is, a formula over n that is less than m levels deep; nothing is said of
-- a formula with predicates and functions
abbrev pub eliminated : ℕ → ℕ → Form → Traced (List (List Literal))
eliminated zero n f = just []
eliminated (suc m) n (tree.equal t) = paid t (just (clauses_of ((Eq t ∷ []) ∷ [])))
eliminated (suc m) n (tree.at_least t) = paid t (just (clauses_of ((Geq t ∷ []) ∷ [])))
eliminated (suc m) n (tree.unequal t) = paid t (two_sides t)
eliminated (suc m) n (tree.holds p ts) = just []
eliminated (suc m) n (tree.fails p ts) = just []
eliminated (suc m) n (tree.differs f ts u) = just []
eliminated (suc m) n (tree.conjunction fs) = all_of (eliminated m n) fs top
eliminated (suc m) n (tree.disjunction fs) = any_of (eliminated m n) fs []
eliminated (suc m) n (tree.existential f) = next (eliminated m (suc n) f) (exists_name n)
eliminated (suc m) n (tree.universal f) =
    next (pay (size f)) (λ _. next (dual f) (λ g. next (eliminated m (suc n) g) (λ d. next (exists_name n d) negation)))

-- the same of any formula
unfoldable pub eliminating : ℕ → Form → Traced (List (List Literal))
eliminating n f = eliminated (suc (depth f)) n f

-- d is true exactly where P is, at every list of n integers
pub record Expresses (d : List (List Literal)) (n : ℕ) (P : List ℤ → Type 0) : Type 0 where
  pub formed : AreFormed d
  pub tells : (e : List ℤ) → length e ≡ n → Reflects (dnf_truth d e) (P e)

-- d is an exact normal form of f over n
abbrev pub IsExact : List (List Literal) → Form → ℕ → Type 0
IsExact d f n = Expresses d n (IsPresburgerTrue f)

-- the names n − 1 down to 0 out of d
abbrev pub names_out : ℕ → List (List Literal) → Traced (List (List Literal))
names_out zero d = just d
names_out (suc n) d = next (exists_name n d) (names_out n)

-- some n integers make d true
pub record HasSolution (d : List (List Literal)) (n : ℕ) : Type 0 where
  pub values : List ℤ
  pub as_many : length values ≡ n
  pub holds : dnf_truth d values ≡ true

-- no literal of c has y
abbrev pub Lacks : ℕ → List Literal → Type 0
Lacks y c = AllByRecursion (λ l. has y l ≡ false) c

-- each name of d is below n
abbrev pub AreOver : ℕ → List (List Literal) → Type 0
AreOver n d = (y : ℕ) → n ≤ y → AllByRecursion (Lacks y) d
