-- What is left of a formula over n is over n.
use Rattle.std.proofs.Common.{◌≡◌, ◌<◌, ◌≤◌, ℕ, zero, suc, pos, negsuc, Bool, true, false, nat_eq, List, [], ◌∷◌, ◌++◌, refl, sym, subst, arith}
use Rattle.std.specs.List.{AllByRecursion, list_any}
use Rattle.std.proofs.lemmas.Bool.Decides.{nat_tests}
use Rattle.linear_term.specs.Linear.{Linear, number}
use Rattle.linear_term.specs.Combination.{combination}
use Rattle.linear_term.proofs.Names.{combination-unmentioned, over-unmentioned}
use Rattle.base_budget.specs.Trace.{Traced, just, step, next}
use Rattle.base_budget.proofs.Tracing.{each-value}
use Rattle.clause_set.specs.declared.literal.Literal.{Literal}
use Rattle.clause_set.specs.declared.literal.Literal.TheVariants.{Eq, Geq, Div, NDiv}
use Rattle.clause_set.specs.Names.{has}
use Rattle.clause_set.specs.Clauses.{clause_of, found}
use Rattle.clause_set.specs.Dnfs.{joined_with, joined, conjunction, disjunction, negated_literal, negated_clause, negated_clauses, negation, top}
use Rattle.clause_set.proofs.Divisors.{kept-append}
use Rattle.elim_rule_laws.proofs.EquationLists.{any-none, kept-weaker}
use Rattle.clause_set.specs.Kept.{AreFormed}
use Rattle.elim_laws.specs.Elimination.{exists_name}
use Rattle.formula.specs.Form as tree
use Rattle.formula.specs.Form.{Form, Forms, IsFormOver, AreFormsOver}
use Rattle.formula.proofs.Duals.{dual_over}
use Rattle.formula.specs.Sizes.{depth, depths}
use Rattle.elim_laws.specs.Presburger.{IsPresburger, ArePresburger}
use Rattle.formula.specs.Duals.{dual}
use Rattle.elim_laws.proofs.Duals.{less}
use Rattle.elim_laws.specs.Whole.{Lacks, AreOver, all_of, any_of, eliminated}
use Rattle.elim_laws.proofs.Duals.{dual-proper, dual-depth}
use Rattle.clause_set.proofs.Kept.{tidied-kept}
use Rattle.elim_laws.proofs.Names.{found-lacks, clauses-lack, number-lacks, all_flat, exists_name-lacks}
use Rattle.elim_laws.proofs.Taking.{exists_name-out}
use Rattle.elim_laws.proofs.Whole.{eliminated-exact}

-- ---- operations
joined_with-lacks : (y : ℕ) (c : List Literal) (d : List (List Literal)) → Lacks y c → AllByRecursion (Lacks y) d → AllByRecursion (Lacks y) (joined_with c d)
joined_with-lacks y c [] h k = tt
joined_with-lacks y c (x ∷ d) h k = kept-append (Lacks y) (found (clause_of (c ++ x))) _ (found-lacks y (c ++ x) (kept-append (λ l. has y l ≡ false) c x h k.0)) (joined_with-lacks y c d h k.1)

joined-lacks : (y : ℕ) (a b : List (List Literal)) → AllByRecursion (Lacks y) a → AllByRecursion (Lacks y) b → AllByRecursion (Lacks y) (joined a b)
joined-lacks y [] b h k = tt
joined-lacks y (c ∷ a) b h k = kept-append (Lacks y) (joined_with c b) _ (joined_with-lacks y c b h.0 k) (joined-lacks y a b h.1 k)

pub conjunction-lacks : (y : ℕ) (a b : List (List Literal)) → AllByRecursion (Lacks y) a → AllByRecursion (Lacks y) b → AllByRecursion (Lacks y) (conjunction a b).value
unfolding next just step
conjunction-lacks y a b h k = tidied-kept (Lacks y) (joined a b) (joined-lacks y a b h k)

pub disjunction-lacks : (y : ℕ) (a b : List (List Literal)) → AllByRecursion (Lacks y) a → AllByRecursion (Lacks y) b → AllByRecursion (Lacks y) (disjunction a b).value
unfolding next just step
disjunction-lacks y a b h k = tidied-kept (Lacks y) (a ++ b) (kept-append (Lacks y) a b h k)

-- t − 1
abbrev more : Linear → Linear
more t = combination (pos 1) t (pos 1) (number (negsuc 0))

pub negated_literal-lacks : (y : ℕ) (l : Literal) → has y l ≡ false → AllByRecursion (Lacks y) (negated_literal l).value
unfolding next just step
negated_literal-lacks y (Eq t) h = clauses-lack y ((Geq (less t) ∷ []) ∷ (Geq (more t) ∷ []) ∷ []) ((combination-unmentioned _ _ _ _ y h (number-lacks _ y), tt), ((combination-unmentioned _ _ _ _ y h (number-lacks _ y), tt), tt))
negated_literal-lacks y (Geq t) h = clauses-lack y ((Geq (less t) ∷ []) ∷ []) ((combination-unmentioned _ _ _ _ y h (number-lacks _ y), tt), tt)
negated_literal-lacks y (Div d t) h = clauses-lack y ((NDiv d t ∷ []) ∷ []) ((h, tt), tt)
negated_literal-lacks y (NDiv d t) h = clauses-lack y ((Div d t ∷ []) ∷ []) ((h, tt), tt)

negated_clause-lacks : (y : ℕ) (c : List Literal) → Lacks y c → AllByRecursion (Lacks y) (negated_clause c).value
unfolding next just step
negated_clause-lacks y c h =
    subst (AllByRecursion (Lacks y)) (sym (each-value negated_literal c []))
    (all_flat (λ l. has y l ≡ false) (Lacks y) (λ l. (negated_literal l).value) c (negated_literal-lacks y) h)

negated_clauses-lack : (y : ℕ) (cs out : List (List Literal)) → AllByRecursion (Lacks y) cs → AllByRecursion (Lacks y) out → AllByRecursion (Lacks y) (negated_clauses cs out).value
unfolding next just
negated_clauses-lack y [] out h k = k
negated_clauses-lack y (c ∷ cs) out h k = negated_clauses-lack y cs (conjunction out (negated_clause c).value).value h.1 (conjunction-lacks y out (negated_clause c).value k (negated_clause-lacks y c h.0))

pub negation-lacks : (y : ℕ) (d : List (List Literal)) → AllByRecursion (Lacks y) d → AllByRecursion (Lacks y) (negation d).value
negation-lacks y d h = negated_clauses-lack y d top h (tt, tt)

-- ---- formulas
abbrev EachOver : (Form → Traced (List (List Literal))) → ℕ → Forms → Type 0
EachOver f n tree.no_form = Unit {0}
EachOver f n (tree.and_form g gs) = AreOver n (f g).value × EachOver f n gs

each_over : (m n : ℕ) (f : Form → Traced (List (List Literal))) → ((g : Form) → depth g < m → IsPresburger g → IsFormOver n g → AreOver n (f g).value) → (gs : Forms) → depths gs < m → ArePresburger gs → AreFormsOver n gs → EachOver f n gs
each_over m n f h tree.no_form lt p o = tt
each_over m n f h (tree.and_form g gs) lt p o = (h g (omega (arith, lt)) p.0 o.0, each_over m n f h gs (omega (arith, lt)) p.1 o.1)

all-over : (f : Form → Traced (List (List Literal))) (n : ℕ) (gs : Forms) (d : List (List Literal)) → EachOver f n gs → AreOver n d → AreOver n (all_of f gs d).value
unfolding next just
all-over f n tree.no_form d h k = k
all-over f n (tree.and_form g gs) d h k = all-over f n gs (conjunction d (f g).value).value h.1 (λ y le. conjunction-lacks y d (f g).value (k y le) (h.0 y le))

any-over : (f : Form → Traced (List (List Literal))) (n : ℕ) (gs : Forms) (d : List (List Literal)) → EachOver f n gs → AreOver n d → AreOver n (any_of f gs d).value
unfolding next just
any-over f n tree.no_form d h k = k
any-over f n (tree.and_form g gs) d h k = any-over f n gs (disjunction d (f g).value).value h.1 (λ y le. disjunction-lacks y d (f g).value (k y le) (h.0 y le))

-- the last name goes out
last-over : (n : ℕ) (d : List (List Literal)) → AreFormed d → AreOver (suc n) d → AreOver n (exists_name n d).value
last-over n d f h = λ y le. by y le (nat_eq y n) refl
  where
    by : (y : ℕ) → n ≤ y → (b : Bool) → nat_eq y n ≡ b → AllByRecursion (Lacks y) (exists_name n d).value
    by y le true e =
        let same : n ≡ y = grind (arith, nat_tests) in
        subst (λ z. AllByRecursion (Lacks z) (exists_name n d).value) same (kept-weaker (λ c. list_any (has n) c ≡ false) (Lacks n) (λ c k. any-none (has n) c k) (exists_name n d).value (exists_name-out n d f).free)
    by y le false e = exists_name-lacks n y d (λ s. grind (arith, nat_tests)) (h y (grind (arith, nat_tests)))

pub eliminated-over : (m n : ℕ) (f : Form) → depth f < m → IsPresburger f → IsFormOver n f → AreOver n (eliminated m n f).value
unfolding next just step
eliminated-over zero n f lt p o = absurd (omega (arith, lt))
eliminated-over (suc m) n (tree.equal t) lt p o = λ y le. clauses-lack y ((Eq t ∷ []) ∷ []) ((over-unmentioned n y t o le, tt), tt)
eliminated-over (suc m) n (tree.at_least t) lt p o = λ y le. clauses-lack y ((Geq t ∷ []) ∷ []) ((over-unmentioned n y t o le, tt), tt)
eliminated-over (suc m) n (tree.unequal t) lt p o = λ y le. tidied-kept (Lacks y) (negated_literal (Eq t)).value (negated_literal-lacks y (Eq t) (over-unmentioned n y t o le))
eliminated-over (suc m) n (tree.holds q ts) lt p o = absurd p
eliminated-over (suc m) n (tree.fails q ts) lt p o = absurd p
eliminated-over (suc m) n (tree.differs q ts u) lt p o = absurd p
eliminated-over (suc m) n (tree.conjunction fs) lt p o = all-over (eliminated m n) n fs top (each_over m n (eliminated m n) (eliminated-over m n) fs (omega (arith, lt)) p o) (λ y le. (tt, tt))
eliminated-over (suc m) n (tree.disjunction fs) lt p o = any-over (eliminated m n) n fs [] (each_over m n (eliminated m n) (eliminated-over m n) fs (omega (arith, lt)) p o) (λ y le. tt)
eliminated-over (suc m) n (tree.existential f) lt p o =
    last-over n (eliminated m (suc n) f).value (eliminated-exact m (suc n) f (omega (arith, lt)) p).formed (eliminated-over m (suc n) f (omega (arith, lt)) p o)
eliminated-over (suc m) n (tree.universal f) lt p o =
    let same = dual-depth f in
    let deeper : depth (dual f).value < m = omega (arith, lt, same) in
    let d = (eliminated m (suc n) (dual f).value).value in
    λ y le. negation-lacks y (exists_name n d).value (last-over n d (eliminated-exact m (suc n) (dual f).value deeper (dual-proper f p)).formed (eliminated-over m (suc n) (dual f).value deeper (dual-proper f p) (dual_over (suc n) f o)) y le)
