-- What the normal form of each literal and tightening keep, a clause keeps, and so do the operations on clauses.
use Rattle.std.proofs.Common.{◌≡◌, ℤ, Bool, not, List, [], ◌∷◌, ◌++◌, map, filter, Option, Some, None, refl, sym, subst}
use Rattle.std.specs.Prelude.{All}
use Rattle.std.specs.List.{AllByRecursion, list_any, flat_map}
use Rattle.std.proofs.lemmas.List.Elements.{recursion_from_All, All-from_recursion}
use Rattle.linear_term.specs.Linear.{Linear}
use Rattle.linear_term.proofs.Totals.{by_test}
use Rattle.base_budget.specs.Trace.{just, step, next}
use Rattle.base_budget.proofs.Tracing.{each-value}
use Rattle.clause_set.specs.declared.literal.Literal.{Literal}
use Rattle.clause_set.specs.declared.literal.Literal.TheVariants.{Eq, Geq, Div, NDiv}
use Rattle.clause_set.specs.Normal.{normal_of}
use Rattle.clause_set.specs.Order.{literal_cmp, clause_cmp, sorted_once}
use Rattle.clause_set.specs.Clauses.{is_void, tightened, compact, is_false, literals_of, clause_of, found, clauses_of}
use Rattle.clause_set.specs.Dnfs.{is_covered, tidied, joined_with, joined, conjunction, disjunction, negated_literal, negated_clause, negated_clauses, negation, top}
use Rattle.clause_set.proofs.Divisors.{sorted_once-kept, kept-append}
use Rattle.clause_set.proofs.Negations.{less, more}

-- each literal of each clause has P
abbrev pub Each : (Literal → Type 0) → List (List Literal) → Type 0
Each P d = AllByRecursion (AllByRecursion P) d

-- the normal form of a literal that has P has Q, and tightening keeps Q
pub record Keeps (P Q : Literal → Type 0) : Type 0 where
  pub normal : (l : Literal) → P l → AllByRecursion Q (literals_of (normal_of l))
  pub tight : (ls : List Literal) (l : Literal) → Q l → Q (tightened ls l)

all_tightened : (P Q : Literal → Type 0) → Keeps P Q → (ls ms : List Literal) → AllByRecursion Q ms → AllByRecursion Q (map (tightened ls) ms)
all_tightened P Q k ls [] h = tt
all_tightened P Q k ls (m ∷ ms) h = (k.tight ls m h.0, all_tightened P Q k ls ms h.1)

compact-kept : (P Q : Literal → Type 0) → Keeps P Q → (ls c : List Literal) → AllByRecursion Q ls → compact ls ≡ Some c → AllByRecursion Q c
unfolding compact
compact-kept P Q k ls c h =
    by_test (λ a. a ≡ Some c → AllByRecursion Q c) (list_any (is_void ls) ls) None (Some (sorted_once literal_cmp (map (tightened ls) ls)))
    (λ _ e. absurd cc)
    (λ _ e. let same : sorted_once literal_cmp (map (tightened ls) ls) ≡ c = cc in
    subst (AllByRecursion Q) same (sorted_once-kept Q literal_cmp (map (tightened ls) ls) (all_tightened P Q k ls ls h)))

pub normals-kept : (P Q : Literal → Type 0) → Keeps P Q → (ls : List Literal) → AllByRecursion P ls → AllByRecursion Q (flat_map (λ l. literals_of (normal_of l)) ls)
normals-kept P Q k [] h = tt
normals-kept P Q k (l ∷ ls) h = kept-append Q (literals_of (normal_of l)) (flat_map (λ m. literals_of (normal_of m)) ls) (k.normal l h.0) (normals-kept P Q k ls h.1)

pub clause-kept : (P Q : Literal → Type 0) → Keeps P Q → (ls c : List Literal) → AllByRecursion P ls → clause_of ls ≡ Some c → AllByRecursion Q c
unfolding clause_of
clause-kept P Q k ls c h =
    by_test (λ a. a ≡ Some c → AllByRecursion Q c) (list_any (λ l. is_false (normal_of l)) ls) None (compact (flat_map (λ l. literals_of (normal_of l)) ls))
    (λ _ e. absurd cc)
    (λ _ e. compact-kept P Q k (flat_map (λ l. literals_of (normal_of l)) ls) c (normals-kept P Q k ls h) e)

found-kept : (Q : Literal → Type 0) (a : Option (List Literal)) → ((c : List Literal) → a ≡ Some c → AllByRecursion Q c) → Each Q (found a)
found-kept Q None h = tt
found-kept Q (Some c) h = (h c refl, tt)

found_clause-kept : (P Q : Literal → Type 0) → Keeps P Q → (c : List Literal) → AllByRecursion P c → Each Q (found (clause_of c))
found_clause-kept P Q k c h = found-kept Q (clause_of c) (λ d e. clause-kept P Q k c d h e)

pub clauses-kept : (P Q : Literal → Type 0) → Keeps P Q → (cs : List (List Literal)) → Each P cs → Each Q (clauses_of cs)
clauses-kept P Q k [] h = tt
clauses-kept P Q k (c ∷ cs) h = kept-append (AllByRecursion Q) (found (clause_of c)) (clauses_of cs) (found_clause-kept P Q k c h.0) (clauses-kept P Q k cs h.1)

-- ---- operations
joined_with-kept : (P Q : Literal → Type 0) → Keeps P Q → (c : List Literal) (d : List (List Literal)) → AllByRecursion P c → Each P d → Each Q (joined_with c d)
joined_with-kept P Q k c [] h g = tt
joined_with-kept P Q k c (x ∷ d) h g =
    kept-append (AllByRecursion Q) (found (clause_of (c ++ x))) (joined_with c d) (found_clause-kept P Q k (c ++ x) (kept-append P c x h g.0)) (joined_with-kept P Q k c d h g.1)

joined-kept : (P Q : Literal → Type 0) → Keeps P Q → (a b : List (List Literal)) → Each P a → Each P b → Each Q (joined a b)
joined-kept P Q k [] b h g = tt
joined-kept P Q k (c ∷ a) b h g = kept-append (AllByRecursion Q) (joined_with c b) (joined a b) (joined_with-kept P Q k c b h.0 g) (joined-kept P Q k a b h.1 g)

filter-kept : (P : List Literal → Type 0) (test : List Literal → Bool) (cs : List (List Literal)) → AllByRecursion P cs → AllByRecursion P (filter test cs)
filter-kept P test [] h = tt
filter-kept P test (c ∷ cs) h = by_test (AllByRecursion P) (test c) (c ∷ filter test cs) (filter test cs) (λ _. (h.0, filter-kept P test cs h.1)) (λ _. filter-kept P test cs h.1)

-- what each clause has, each one of the tidy form has
pub tidied-kept : (P : List Literal → Type 0) (cs : List (List Literal)) → AllByRecursion P cs → AllByRecursion P (tidied cs)
unfolding tidied
tidied-kept P cs h = filter-kept P (λ c. not (is_covered (sorted_once clause_cmp cs) c)) (sorted_once clause_cmp cs) (sorted_once-kept P clause_cmp cs h)

pub conjunction-kept : (P Q : Literal → Type 0) → Keeps P Q → (a b : List (List Literal)) → Each P a → Each P b → Each Q (conjunction a b).value
unfolding next just step
conjunction-kept P Q k a b h g = tidied-kept (AllByRecursion Q) (joined a b) (joined-kept P Q k a b h g)

pub disjunction-kept : (P : List Literal → Type 0) (a b : List (List Literal)) → AllByRecursion P a → AllByRecursion P b → AllByRecursion P (disjunction a b).value
unfolding next just step
disjunction-kept P a b h g = tidied-kept P (a ++ b) (kept-append P a b h g)

-- what has Q has P, and so have the literals of negations
pub record Denies (P Q : Literal → Type 0) : Type 0 where
  pub keeps : Keeps P Q
  pub back : (l : Literal) → Q l → P l
  pub below : (t : Linear) → P (Eq t) → P (Geq (less t))
  pub above : (t : Linear) → P (Eq t) → P (Geq (more t))
  pub bound : (t : Linear) → P (Geq t) → P (Geq (less t))
  pub divided : (d : ℤ) (t : Linear) → P (Div d t) → P (NDiv d t)
  pub undivided : (d : ℤ) (t : Linear) → P (NDiv d t) → P (Div d t)

negated_literal-kept : (P Q : Literal → Type 0) → Denies P Q → (l : Literal) → P l → Each Q (negated_literal l).value
unfolding next just step
negated_literal-kept P Q k (Geq t) h = clauses-kept P Q k.keeps ((Geq (less t) ∷ []) ∷ []) ((k.bound t h, tt), tt)
negated_literal-kept P Q k (Eq t) h = clauses-kept P Q k.keeps ((Geq (less t) ∷ []) ∷ (Geq (more t) ∷ []) ∷ []) ((k.below t h, tt), ((k.above t h, tt), tt))
negated_literal-kept P Q k (Div d t) h = clauses-kept P Q k.keeps ((NDiv d t ∷ []) ∷ []) ((k.divided d t h, tt), tt)
negated_literal-kept P Q k (NDiv d t) h = clauses-kept P Q k.keeps ((Div d t ∷ []) ∷ []) ((k.undivided d t h, tt), tt)

negated_all-kept : (P Q : Literal → Type 0) → Denies P Q → (c : List Literal) → AllByRecursion P c → Each Q (flat_map (λ l. (negated_literal l).value) c)
negated_all-kept P Q k [] h = tt
negated_all-kept P Q k (l ∷ c) h = kept-append (AllByRecursion Q) (negated_literal l).value _ (negated_literal-kept P Q k l h.0) (negated_all-kept P Q k c h.1)

pub negated_clause-kept : (P Q : Literal → Type 0) → Denies P Q → (c : List Literal) → AllByRecursion P c → Each Q (negated_clause c).value
unfolding next just step
negated_clause-kept P Q k c h = subst (Each Q) (sym (each-value negated_literal c [])) (negated_all-kept P Q k c h)

all-back : (P Q : Literal → Type 0) → ((l : Literal) → Q l → P l) → (c : List Literal) → AllByRecursion Q c → AllByRecursion P c
all-back P Q f [] h = tt
all-back P Q f (l ∷ c) h = (f l h.0, all-back P Q f c h.1)

pub each-back : (P Q : Literal → Type 0) → ((l : Literal) → Q l → P l) → (d : List (List Literal)) → Each Q d → Each P d
each-back P Q f [] h = tt
each-back P Q f (c ∷ d) h = (all-back P Q f c h.0, each-back P Q f d h.1)

negated_clauses-kept : (P Q : Literal → Type 0) → Denies P Q → (cs out : List (List Literal)) → Each P cs → Each Q out → Each Q (negated_clauses cs out).value
unfolding next just
negated_clauses-kept P Q k [] out h g = g
negated_clauses-kept P Q k (c ∷ cs) out h g =
    negated_clauses-kept P Q k cs (conjunction out (negated_clause c).value).value h.1
    (conjunction-kept P Q k.keeps out (negated_clause c).value (each-back P Q k.back out g) (each-back P Q k.back (negated_clause c).value (negated_clause-kept P Q k c h.0)))

pub negation-kept : (P Q : Literal → Type 0) → Denies P Q → (d : List (List Literal)) → Each P d → Each Q (negation d).value
negation-kept P Q k d h = negated_clauses-kept P Q k d top h (tt, tt)

-- ---- the two ways of saying it of all literals of a clause
pub each_from : (P : Literal → Type 0) (d : List (List Literal)) → AllByRecursion (All P) d → Each P d
each_from P [] h = tt
each_from P (c ∷ d) h = (recursion_from_All P c h.0, each_from P d h.1)

pub each_to : (P : Literal → Type 0) (d : List (List Literal)) → Each P d → AllByRecursion (All P) d
each_to P [] h = tt
each_to P (c ∷ d) h = (All-from_recursion P c h.0, each_to P d h.1)
