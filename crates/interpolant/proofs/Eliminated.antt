-- Elimination brings no name in that no atom of the formula has.
use Rattle.std.proofs.Common.{◌≡◌, ◌<◌, ℕ, zero, suc, false, List, [], ◌∷◌, ◌++◌, arith}
use Rattle.std.specs.List.{AllByRecursion}
use Rattle.linear_term.proofs.Names.{combination-unmentioned}
use Rattle.base_budget.specs.Trace.{Traced, just, step, next}
use Rattle.clause_set.specs.declared.literal.Literal.{Literal}
use Rattle.clause_set.specs.declared.literal.Literal.TheVariants.{Eq, Geq}
use Rattle.clause_set.specs.Clauses.{clause_of, clauses_of, found}
use Rattle.clause_set.specs.Dnfs.{joined_with, joined, conjunction, disjunction, top}
use Rattle.clause_set.specs.Names.{has}
use Rattle.clause_set.proofs.Divisors.{kept-append}
use Rattle.clause_set.proofs.Kept.{tidied-kept}
use Rattle.clause_set.proofs.Negations.{less, more}
use Rattle.formula.specs.Form as tree
use Rattle.formula.specs.Form.{Form, Forms}
use Rattle.formula.specs.Duals.{dual, duals}
use Rattle.formula.specs.Sizes.{depth}
use Rattle.elim_laws.specs.Elimination.{exists_name}
use Rattle.elim_laws.specs.Whole.{Lacks, all_of, any_of, eliminated, eliminating}
use Rattle.elim_laws.proofs.Names.{clauses-lack, exists_name-lacks, found-lacks, number-lacks}
use Rattle.elim_laws.proofs.Over.{negation-lacks}
use Rattle.interpolant.proofs.Encoded.{AtomsLack, AllAtomsLack}

-- ---- operations
joined_with-lacks : (y : ℕ) (c : List Literal) (d : List (List Literal)) → Lacks y c → AllByRecursion (Lacks y) d → AllByRecursion (Lacks y) (joined_with c d)
joined_with-lacks y c [] h k = tt
joined_with-lacks y c (x ∷ d) h k = kept-append (Lacks y) (found (clause_of (c ++ x))) _ (found-lacks y (c ++ x) (kept-append (λ l. has y l ≡ false) c x h k.0)) (joined_with-lacks y c d h k.1)

joined-lacks : (y : ℕ) (a b : List (List Literal)) → AllByRecursion (Lacks y) a → AllByRecursion (Lacks y) b → AllByRecursion (Lacks y) (joined a b)
joined-lacks y [] b h k = tt
joined-lacks y (c ∷ a) b h k = kept-append (Lacks y) (joined_with c b) _ (joined_with-lacks y c b h.0 k) (joined-lacks y a b h.1 k)

conjunction-lacks : (y : ℕ) (a b : List (List Literal)) → AllByRecursion (Lacks y) a → AllByRecursion (Lacks y) b → AllByRecursion (Lacks y) (conjunction a b).value
unfolding next just step
conjunction-lacks y a b h k = tidied-kept (Lacks y) (joined a b) (joined-lacks y a b h k)

disjunction-lacks : (y : ℕ) (a b : List (List Literal)) → AllByRecursion (Lacks y) a → AllByRecursion (Lacks y) b → AllByRecursion (Lacks y) (disjunction a b).value
unfolding next just step
disjunction-lacks y a b h k = tidied-kept (Lacks y) (a ++ b) (kept-append (Lacks y) a b h k)

-- ---- the dual
mutual
  unfolding next just step

  dual_lacks : (y : ℕ) (f : Form) → AtomsLack y f → AtomsLack y (dual f).value
  dual_lacks y (tree.equal t) h = h
  dual_lacks y (tree.unequal t) h = h
  dual_lacks y (tree.at_least t) h = combination-unmentioned _ _ _ _ y h (number-lacks _ y)
  dual_lacks y (tree.holds p ts) h = tt
  dual_lacks y (tree.fails p ts) h = tt
  dual_lacks y (tree.differs f ts u) h = tt
  dual_lacks y (tree.conjunction fs) h = duals_lack y fs h
  dual_lacks y (tree.disjunction fs) h = duals_lack y fs h
  dual_lacks y (tree.universal f) h = dual_lacks y f h
  dual_lacks y (tree.existential f) h = dual_lacks y f h

  duals_lack : (y : ℕ) (fs : Forms) → AllAtomsLack y fs → AllAtomsLack y (duals fs).value
  duals_lack y tree.no_form h = tt
  duals_lack y (tree.and_form f fs) h = (dual_lacks y f h.0, duals_lack y fs h.1)

-- ---- formulas
abbrev EachLacks : (Form → Traced (List (List Literal))) → ℕ → Forms → Type 0
EachLacks f y tree.no_form = Unit {0}
EachLacks f y (tree.and_form g gs) = AllByRecursion (Lacks y) (f g).value × EachLacks f y gs

each_lacks : (f : Form → Traced (List (List Literal))) (y : ℕ) → ((g : Form) → AtomsLack y g → AllByRecursion (Lacks y) (f g).value) → (gs : Forms) → AllAtomsLack y gs → EachLacks f y gs
each_lacks f y h tree.no_form o = tt
each_lacks f y h (tree.and_form g gs) o = (h g o.0, each_lacks f y h gs o.1)

all-lacks : (f : Form → Traced (List (List Literal))) (y : ℕ) (gs : Forms) (d : List (List Literal)) → EachLacks f y gs → AllByRecursion (Lacks y) d → AllByRecursion (Lacks y) (all_of f gs d).value
unfolding next just
all-lacks f y tree.no_form d h k = k
all-lacks f y (tree.and_form g gs) d h k = all-lacks f y gs (conjunction d (f g).value).value h.1 (conjunction-lacks y d (f g).value k h.0)

any-lacks : (f : Form → Traced (List (List Literal))) (y : ℕ) (gs : Forms) (d : List (List Literal)) → EachLacks f y gs → AllByRecursion (Lacks y) d → AllByRecursion (Lacks y) (any_of f gs d).value
unfolding next just
any-lacks f y tree.no_form d h k = k
any-lacks f y (tree.and_form g gs) d h k = any-lacks f y gs (disjunction d (f g).value).value h.1 (disjunction-lacks y d (f g).value k h.0)

last_lacks : (n y : ℕ) (d : List (List Literal)) → y < n → AllByRecursion (Lacks y) d → AllByRecursion (Lacks y) (exists_name n d).value
last_lacks n y d lt h = exists_name-lacks n y d (λ e. omega (arith, lt, e)) h

eliminated-lacks : (m n y : ℕ) (f : Form) → y < n → AtomsLack y f → AllByRecursion (Lacks y) (eliminated m n f).value
unfolding next just step
eliminated-lacks zero n y f lt h = tt
eliminated-lacks (suc m) n y (tree.equal t) lt h = clauses-lack y ((Eq t ∷ []) ∷ []) ((h, tt), tt)
eliminated-lacks (suc m) n y (tree.at_least t) lt h = clauses-lack y ((Geq t ∷ []) ∷ []) ((h, tt), tt)
eliminated-lacks (suc m) n y (tree.unequal t) lt h =
    tidied-kept (Lacks y) (clauses_of ((Geq (less t) ∷ []) ∷ (Geq (more t) ∷ []) ∷ []))
    (clauses-lack y ((Geq (less t) ∷ []) ∷ (Geq (more t) ∷ []) ∷ []) ((combination-unmentioned _ _ _ _ y h (number-lacks _ y), tt), ((combination-unmentioned _ _ _ _ y h (number-lacks _ y), tt), tt)))
eliminated-lacks (suc m) n y (tree.holds p ts) lt h = tt
eliminated-lacks (suc m) n y (tree.fails p ts) lt h = tt
eliminated-lacks (suc m) n y (tree.differs f ts u) lt h = tt
eliminated-lacks (suc m) n y (tree.conjunction fs) lt h = all-lacks (eliminated m n) y fs top (each_lacks (eliminated m n) y (λ g. eliminated-lacks m n y g lt) fs h) (tt, tt)
eliminated-lacks (suc m) n y (tree.disjunction fs) lt h = any-lacks (eliminated m n) y fs [] (each_lacks (eliminated m n) y (λ g. eliminated-lacks m n y g lt) fs h) tt
eliminated-lacks (suc m) n y (tree.existential f) lt h = last_lacks n y (eliminated m (suc n) f).value lt (eliminated-lacks m (suc n) y f (omega (arith, lt)) h)
eliminated-lacks (suc m) n y (tree.universal f) lt h =
    let d = (eliminated m (suc n) (dual f).value).value in
    negation-lacks y (exists_name n d).value (last_lacks n y d lt (eliminated-lacks m (suc n) y (dual f).value (omega (arith, lt)) (dual_lacks y f h)))

pub eliminating-lacks : (n y : ℕ) (f : Form) → y < n → AtomsLack y f → AllByRecursion (Lacks y) (eliminating n f).value
unfolding eliminating
eliminating-lacks n y f lt h = eliminated-lacks (suc (depth f)) n y f lt h
