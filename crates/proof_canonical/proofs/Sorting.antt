-- The clauses of canonical constraints stand in their order, each once.
use Rattle.std.proofs.Common.{◌≡◌, ℕ, suc, zero, ◌+◌, List, [], ◌∷◌, ◌++◌, map, sym, ◌∙◌, subst, Option, Some, None}
use Rattle.std.specs.List.{AllByRecursion}
use Rattle.std.specs.List.Sorted.{IsStrictlySortedBy}
use Rattle.base_budget.specs.Trace.{Traced, just, next, step}
use Rattle.clause_set.specs.declared.literal.Literal.{Literal}
use Rattle.clause_set.specs.declared.literal.Literal.TheVariants.{Eq, Geq}
use Rattle.clause_set.specs.Clauses.{clause_of, found}
use Rattle.clause_set.specs.Dnfs.{conjunction, disjunction, joined, negated_clause, negated_clauses, negation, top}
use Rattle.clause_set.specs.Order.{clause_cmp}
use Rattle.clause_set.proofs.Canonical.{tidied-sorted}
use Rattle.elim_laws.specs.Elimination.{exists_name}
use Rattle.elim_laws.specs.Logs.{entries_of}
use Rattle.elim_laws.specs.Whole.{all_of, any_of, eliminated, eliminating}
use Rattle.formula.specs.Form as tree
use Rattle.formula.specs.Form.{Form, Forms}
use Rattle.formula.specs.Duals.{dual}
use Rattle.formula.specs.Sizes.{depth}
use Rattle.sequent.specs.declared.member.Pick.{Pick}
use Rattle.sequent.specs.declared.member.Pick.TheVariants as pick
use Rattle.sequent.specs.Rules.{picked, premises_of}
use Rattle.sequent.specs.Sequent.{Sequent}
use Rattle.pred_unify.specs.Pairs.{closing_of}
use Rattle.proof_tree.specs.Proof.{Proof, node, given, proofs}
use Rattle.proof_tree.specs.Rules.{conjoined, first_given}
use Rattle.proof_tree.specs.Walk.{nodes_in}
use Rattle.proof_tree.proofs.Walking.{some_then, value-on_some}
use Rattle.search.specs.Building.{all_built, built, canonical_constraint}
use Rattle.search.proofs.Retracing.{value-built}

-- the clauses stand in their order, each once
abbrev pub AreSorted : List (List Literal) → Type 0
AreSorted d = IsStrictlySortedBy clause_cmp d

top_sorted : AreSorted top
unfolding IsStrictlySortedBy
top_sorted = (tt, tt)

none_sorted : AreSorted []
unfolding IsStrictlySortedBy
none_sorted = tt

one_sorted : (o : Option (List Literal)) → AreSorted (found o ++ [])
unfolding IsStrictlySortedBy
one_sorted None = tt
one_sorted (Some c) = (tt, tt)

-- ---- operations
and_sorted : (a b : List (List Literal)) → AreSorted (conjunction a b).value
unfolding next just
and_sorted a b = tidied-sorted (joined a b)

or_sorted : (a b : List (List Literal)) → AreSorted (disjunction a b).value
unfolding next just
or_sorted a b = tidied-sorted (a ++ b)

not_sorted : (d out : List (List Literal)) → AreSorted out → AreSorted (negated_clauses d out).value
unfolding next just
not_sorted [] out h = h
not_sorted (c ∷ d) out h = let n = (negated_clause c).value in not_sorted d (conjunction out n).value (and_sorted out n)

exists_sorted : (x : ℕ) (d : List (List Literal)) → AreSorted (exists_name x d).value
unfolding next just
exists_sorted x d = tidied-sorted _

all_sorted : (f : Form → Traced (List (List Literal))) (fs : Forms) (d : List (List Literal)) → AreSorted d → AreSorted (all_of f fs d).value
unfolding next just
all_sorted f tree.no_form d h = h
all_sorted f (tree.and_form g gs) d h = all_sorted f gs (conjunction d (f g).value).value (and_sorted d (f g).value)

any_sorted : (f : Form → Traced (List (List Literal))) (fs : Forms) (d : List (List Literal)) → AreSorted d → AreSorted (any_of f fs d).value
unfolding next just
any_sorted f tree.no_form d h = h
any_sorted f (tree.and_form g gs) d h = any_sorted f gs (disjunction d (f g).value).value (or_sorted d (f g).value)

eliminated_sorted : (m n : ℕ) (f : Form) → AreSorted (eliminated m n f).value
unfolding next just step
eliminated_sorted zero n f = none_sorted
eliminated_sorted (suc m) n (tree.equal t) = one_sorted (clause_of (Eq t ∷ []))
eliminated_sorted (suc m) n (tree.at_least t) = one_sorted (clause_of (Geq t ∷ []))
eliminated_sorted (suc m) n (tree.unequal t) = tidied-sorted _
eliminated_sorted (suc m) n (tree.holds p ts) = none_sorted
eliminated_sorted (suc m) n (tree.fails p ts) = none_sorted
eliminated_sorted (suc m) n (tree.differs p ts u) = none_sorted
eliminated_sorted (suc m) n (tree.conjunction fs) = all_sorted (eliminated m n) fs top top_sorted
eliminated_sorted (suc m) n (tree.disjunction fs) = any_sorted (eliminated m n) fs [] none_sorted
eliminated_sorted (suc m) n (tree.existential f) = exists_sorted n (eliminated m (suc n) f).value
eliminated_sorted (suc m) n (tree.universal f) = not_sorted (exists_name n (eliminated m (suc n) (dual f).value).value).value top top_sorted

-- ---- rules
first_sorted : (ds : List (List (List Literal))) → AllByRecursion AreSorted ds → AreSorted (first_given ds)
first_sorted [] h = none_sorted
first_sorted (d ∷ ds) h = h.0

conjoined_sorted : (ds : List (List (List Literal))) (d : List (List Literal)) → AreSorted d → AreSorted (conjoined ds d).value
unfolding next just
conjoined_sorted [] d h = h
conjoined_sorted (c ∷ cs) d h = conjoined_sorted cs (conjunction d c).value (and_sorted d c)

constraint_sorted : (s : Sequent) (p : Pick) (ds : List (List (List Literal))) → AllByRecursion AreSorted ds → AreSorted (canonical_constraint s p ds).value
unfolding next just eliminating
constraint_sorted s (pick.Trivial i) ds h = top_sorted
constraint_sorted s (pick.Alpha i) ds h = first_sorted ds h
constraint_sorted s (pick.Delta i) ds h = not_sorted (exists_name s.count (negation (first_given ds)).value).value top top_sorted
constraint_sorted s (pick.Beta i) ds h = conjoined_sorted ds top top_sorted
constraint_sorted s (pick.Gamma i) ds h = exists_sorted s.count (first_given ds)
constraint_sorted s pick.Close ds h = let f = (closing_of s).value in eliminated_sorted (suc (depth f)) s.count f

-- ---- trees
one_more : (xs : List Proof) (x : Proof) → AllByRecursion AreSorted (map given xs) → AreSorted (given x) → AllByRecursion AreSorted (map given (xs ++ x ∷ []))
one_more [] x a h = (h, tt)
one_more (y ∷ xs) x a h = (a.0, one_more xs x a.1 h)

built_all : (f : ℕ → Sequent → Traced (Option Proof)) → ((n : ℕ) (s : Sequent) (x : Proof) → (f n s).value ≡ Some x → AreSorted (given x))
    → (ss : List Sequent) (n : ℕ) (out all : List Proof) → AllByRecursion AreSorted (map given out) → (all_built f n ss out).value ≡ Some all → AllByRecursion AreSorted (map given all)
unfolding next just
built_all f law [] n out all a e = let y : out ≡ all = (let z : Some out ≡ Some all = e in cc) in subst (λ (xs : List Proof). AllByRecursion AreSorted (map given xs)) y a
built_all f law (s ∷ ss) n out all a e =
    let g = some_then (f n s).value _ all (sym (value-on_some _ (f n s).value) ∙ e) in
    built_all f law ss (n + nodes_in g.0) (out ++ g.0 ∷ []) all (one_more out g.0 a (law n s g.0 g.1)) g.2

pub built_sorted : (limit left n : ℕ) (s : Sequent) (x : Proof) → (built limit left n s).value ≡ Some x → AreSorted (given x)
unfolding built just
built_sorted limit zero n s x e = absurd (let z : None ≡ Some x = e in cc)
built_sorted limit (suc left) n s x e =
    let p = picked limit s.members in
    let f = built limit left in
    let g = some_then (all_built f (n + 1) (premises_of s p) []).value _ x (sym (value-built f n s p) ∙ e) in
    let a = built_all f (built_sorted limit left) (premises_of s p) (n + 1) [] g.0 tt g.1 in
    let ds = map given g.0 in
    let is : node p (proofs g.0) (entries_of (canonical_constraint s p ds).events) (canonical_constraint s p ds).value ≡ x =
    (let z : Some (node p (proofs g.0) (entries_of (canonical_constraint s p ds).events) (canonical_constraint s p ds).value) ≡ Some x = g.2 in cc) in
    subst (λ (y : Proof). AreSorted (given y)) is (constraint_sorted s p ds a)
