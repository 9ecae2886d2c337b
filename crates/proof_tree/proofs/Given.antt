-- The constraint of a tree is in form, and speaks of the constants of its sequent alone.
use Rattle.std.proofs.Common.{◌≡◌, ◌<◌, ◌≤◌, ◌⊎◌, inl, inr, ℕ, zero, suc, true, false, List, [], ◌∷◌, ◌++◌, map, Option, Some, None, refl, sym, subst, arith}
use Rattle.std.specs.List.{AllByRecursion, list_any, remove, slice_get}
use Rattle.std.proofs.lemmas.Bool.{cases_lt}
use Rattle.linear_term.specs.Linear.{Linear, IsOver, IsReduced}
use Rattle.base_budget.specs.Trace.{Traced, just, step, next, pay}
use Rattle.clause_set.specs.declared.literal.Literal.{Literal}
use Rattle.clause_set.specs.declared.literal.Literal.TheVariants.{Eq, Geq}
use Rattle.clause_set.specs.Clauses.{clauses_of}
use Rattle.clause_set.specs.Dnfs.{conjunction, disjunction, negation, tidied, top}
use Rattle.clause_set.proofs.Kept.{clauses-kept, tidied-kept}
use Rattle.clause_set.proofs.Negations.{less, more, less_is, more_is}
use Rattle.elim_rule_laws.proofs.EquationLists.{any-none, kept-weaker}
use Rattle.clause_set.specs.Names.{has}
use Rattle.formula.specs.Form as tree
use Rattle.formula.specs.Form.{Form, Forms, IsFormOver, AreFormsOver}
use Rattle.formula.specs.Duals.{dual}
use Rattle.formula.specs.Sizes.{depth, depths, size}
use Rattle.formula.proofs.Duals.{dual_over}
use Rattle.elim_laws.specs.Logs.{Reader, Yields, all_by_log, any_by_log, by_log, name_by_log, read_next, reads_none, every_by_log}
use Rattle.elim_laws.specs.Presburger.{IsPresburger, ArePresburger}
use Rattle.elim_laws.specs.Whole.{AreOver, Lacks, paid, two_sides}
use Rattle.elim_laws.specs.Elimination.{IsOut}
use Rattle.elim_laws.proofs.Accepted.{name_yields, yields_map}
use Rattle.elim_laws.proofs.Replays.{yields_next, yields_none}
use Rattle.elim_laws.proofs.Wholes.{whole_yields}
use Rattle.elim_laws.proofs.Duals.{dual-proper, dual-depth}
use Rattle.sequent.specs.declared.member.Pick.{Pick}
use Rattle.sequent.specs.declared.member.Pick.TheVariants as pick
use Rattle.sequent.specs.declared.member.Shape.TheVariants.{Alpha, Delta, Beta, Gamma}
use Rattle.sequent.specs.Rules.{applies, brought, is_shape, new_members, one_each, place, premises_at, premises_of, shape_of}
use Rattle.sequent.specs.Sequent.{Member, Sequent, IsFormedSequent, member, sequent}
use Rattle.solve_laws.specs.Solutions.{IsGiven}
use Rattle.pred_unify.specs.Pairs.{closing_of}
use Rattle.proof_tree.specs.Gives.{AreGiven, Gives}
use Rattle.proof_tree.specs.Proof.{Proof, Proofs, node, no_proof, and_proof, given, all_given}
use Rattle.proof_tree.specs.Reduced.{IsReducedSequent}
use Rattle.proof_tree.specs.Rules.{conjoined, constraint_by, first_given}
use Rattle.proof_tree.proofs.Closing.{closing_presburger}
use Rattle.proof_tree.proofs.Giving.{formed_by}
use Rattle.proof_tree.proofs.Premises.{reduced_by}
use Rattle.proof_tree.proofs.Clauses.{IsRaw, IsKept, raw-keeps, less_over, more_over, kept_given, given_top, given_none, given_clauses, given_and, given_or, given_not}
use Rattle.proof_tree.proofs.Overs.{closing_over}
use Rattle.proof_tree.proofs.Outs.{IsFit, fit, fit_kept, lacks_kept, shaped_fit}

-- ---- a name out, by a log
both : {A : Type 0} (m : Reader A) (P Q : A → Type 0) → Yields m P → Yields m Q → Yields m (λ a. P a × Q a)
both m P Q h k = record { yields = λ ls r is. (h.yields ls r is, k.yields ls r is) }

free_lacks : (x : ℕ) (d : List (List Literal)) → AllByRecursion (λ c. list_any (has x) c ≡ false) d → AllByRecursion (Lacks x) d
free_lacks x d h = kept-weaker (λ c. list_any (has x) c ≡ false) (Lacks x) (λ c k. any-none (has x) c k) d h

-- the other names stay away
others_over : (n : ℕ) (d r : List (List Literal)) → IsOut n d r → ((y : ℕ) → n < y → AllByRecursion (Lacks y) r) → AreOver n r
others_over n d r o h = λ y le. by y (cases_lt n y) le
  where
    by : (y : ℕ) → (n < y) ⊎ (y ≤ n) → n ≤ y → AllByRecursion (Lacks y) r
    by y (inl more) le = h y more
    by y (inr less) le = subst (λ (z : ℕ). AllByRecursion (Lacks z) r) (let e : n ≡ y = omega (arith, le, less) in e) (free_lacks n r o.free)

given_name : (n : ℕ) (d : List (List Literal)) → IsGiven (suc n) d → Yields (name_by_log n d) (IsGiven n)
given_name n d h =
    yields_map (name_by_log n d) (λ r. IsOut n d r × (AllByRecursion IsFit r × ((y : ℕ) → n < y → AllByRecursion (Lacks y) r))) (IsGiven n)
    (λ r k. record { formed = (k.0).formed; shaped = shaped_fit r k.1.0; over = others_over n d r k.0 k.1.1 })
    (both (name_by_log n d) (IsOut n d) _ (name_yields n d h.formed)
    (both (name_by_log n d) (AllByRecursion IsFit) _ (fit_kept n d (fit d h.formed h.shaped))
    (record { yields = λ ls r is y more. (lacks_kept n y d (λ e. absurd (omega (arith, e, more))) (h.over y (omega (arith, more)))).yields ls r is })))

given_every : (n : ℕ) (d : List (List Literal)) → IsGiven (suc n) d → Yields (every_by_log n d) (IsGiven n)
given_every n d h =
    yields_next (reads_none (negation d)) _ (IsGiven (suc n)) (IsGiven n) (yields_none (negation d) (IsGiven (suc n)) (given_not (suc n) d h))
    (λ c k. yields_next (name_by_log n c) _ (IsGiven n) (IsGiven n) (given_name n c k) (λ r g. yields_none (negation r) (IsGiven n) (given_not n r g)))

-- ---- formulas, by a log
abbrev EachGiven : (Form → Reader (List (List Literal))) → ℕ → Forms → Type 0
EachGiven m n tree.no_form = Unit {0}
EachGiven m n (tree.and_form g gs) = Yields (m g) (IsGiven n) × EachGiven m n gs

each_given : (k n : ℕ) (m : Form → Reader (List (List Literal))) → ((g : Form) → depth g < k → IsPresburger g → IsFormOver n g → Yields (m g) (IsGiven n)) → (gs : Forms) → depths gs < k → ArePresburger gs → AreFormsOver n gs
    → EachGiven m n gs
each_given k n m h tree.no_form lt p o = tt
each_given k n m h (tree.and_form g gs) lt p o = (h g (omega (arith, lt)) p.0 o.0, each_given k n m h gs (omega (arith, lt)) p.1 o.1)

all-given : (m : Form → Reader (List (List Literal))) (n : ℕ) (gs : Forms) (d : List (List Literal)) → EachGiven m n gs → IsGiven n d → Yields (all_by_log m gs d) (IsGiven n)
unfolding just
all-given m n tree.no_form d h k = yields_none (just d) (IsGiven n) k
all-given m n (tree.and_form g gs) d h k =
    yields_next (m g) _ (IsGiven n) (IsGiven n) h.0
    (λ c t. yields_next (reads_none (conjunction d c)) _ (IsGiven n) (IsGiven n) (yields_none (conjunction d c) (IsGiven n) (given_and n d c k t)) (λ b u. all-given m n gs b h.1 u))

any-given : (m : Form → Reader (List (List Literal))) (n : ℕ) (gs : Forms) (d : List (List Literal)) → EachGiven m n gs → IsGiven n d → Yields (any_by_log m gs d) (IsGiven n)
unfolding just
any-given m n tree.no_form d h k = yields_none (just d) (IsGiven n) k
any-given m n (tree.and_form g gs) d h k =
    yields_next (m g) _ (IsGiven n) (IsGiven n) h.0
    (λ c t. yields_next (reads_none (disjunction d c)) _ (IsGiven n) (IsGiven n) (yields_none (disjunction d c) (IsGiven n) (given_or n d c k t)) (λ b u. any-given m n gs b h.1 u))

paid-given : (t : Linear) (w : Traced (List (List Literal))) (n : ℕ) → IsGiven n w.value → Yields (reads_none (paid t w)) (IsGiven n)
unfolding next just step
paid-given t w n h = yields_none (paid t w) (IsGiven n) h

literal-given : (t : Linear) (l : Literal) (n : ℕ) → IsRaw n l → Yields (reads_none (paid t (just (clauses_of ((l ∷ []) ∷ []))))) (IsGiven n)
unfolding just
literal-given t l n h = paid-given t (just (clauses_of ((l ∷ []) ∷ []))) n (given_clauses n ((l ∷ []) ∷ []) ((h, tt), tt))

sides-given : (t : Linear) (n : ℕ) → IsReduced t → IsOver n t → IsGiven n (two_sides t).value
unfolding next just step
sides-given t n p o =
    kept_given n (tidied (clauses_of ((Geq (less t) ∷ []) ∷ (Geq (more t) ∷ []) ∷ [])))
    (tidied-kept (AllByRecursion (IsKept n)) (clauses_of ((Geq (less t) ∷ []) ∷ (Geq (more t) ∷ []) ∷ []))
    (clauses-kept (IsRaw n) (IsKept n) (raw-keeps n) ((Geq (less t) ∷ []) ∷ (Geq (more t) ∷ []) ∷ [])
    ((record { literal = less_is t p; over = less_over n t o }, tt), ((record { literal = more_is t p; over = more_over n t o }, tt), tt))))

log-given : (m n : ℕ) (f : Form) → depth f < m → IsPresburger f → IsFormOver n f → Yields (by_log m n f) (IsGiven n)
log-given zero n f lt p o = absurd (omega (arith, lt))
log-given (suc m) n (tree.equal t) lt p o = literal-given t (Eq t) n (record { literal = record { term = p; divisor = tt }; over = o })
log-given (suc m) n (tree.at_least t) lt p o = literal-given t (Geq t) n (record { literal = record { term = p; divisor = tt }; over = o })
log-given (suc m) n (tree.unequal t) lt p o = paid-given t (two_sides t) n (sides-given t n p o)
log-given (suc m) n (tree.holds q ts) lt p o = absurd p
log-given (suc m) n (tree.fails q ts) lt p o = absurd p
log-given (suc m) n (tree.differs q ts u) lt p o = absurd p
log-given (suc m) n (tree.conjunction fs) lt p o = all-given (by_log m n) n fs top (each_given m n (by_log m n) (log-given m n) fs (omega (arith, lt)) p o) (given_top n)
log-given (suc m) n (tree.disjunction fs) lt p o = any-given (by_log m n) n fs [] (each_given m n (by_log m n) (log-given m n) fs (omega (arith, lt)) p o) (given_none n)
log-given (suc m) n (tree.existential f) lt p o =
    yields_next (by_log m (suc n) f) (name_by_log n) (IsGiven (suc n)) (IsGiven n) (log-given m (suc n) f (omega (arith, lt)) p o) (given_name n)
log-given (suc m) n (tree.universal f) lt p o =
    let same = dual-depth f in
    let out : List (List Literal) → Reader (List (List Literal)) = (λ d. read_next (name_by_log n d) (λ c. reads_none (negation c))) in
    let body : Form → Reader (List (List Literal)) = (λ g. read_next (by_log m (suc n) g) out) in
    let all : Yields (body (dual f).value) (IsGiven n) =
    yields_next (by_log m (suc n) (dual f).value) out (IsGiven (suc n)) (IsGiven n) (log-given m (suc n) (dual f).value (omega (arith, lt, same)) (dual-proper f p) (dual_over (suc n) f o))
    (λ d k. yields_next (name_by_log n d) _ (IsGiven n) (IsGiven n) (given_name n d k) (λ r g. yields_none (negation r) (IsGiven n) (given_not n r g))) in
    yields_next (reads_none (pay (size f))) (λ _. read_next (reads_none (dual f)) body) (λ z. Unit {0}) (IsGiven n) (yields_none (pay (size f)) (λ z. Unit {0}) tt)
    (λ z _. yields_next (reads_none (dual f)) body (λ g. g ≡ (dual f).value) (IsGiven n) (yields_none (dual f) (λ g. g ≡ (dual f).value) refl) (λ g is. subst (λ h. Yields (body h) (IsGiven n)) (sym is) all))

-- ---- rules
-- the constraints of sequents
abbrev AllGiven : List Sequent → List (List (List Literal)) → Type 0
AllGiven [] [] = Unit {0}
AllGiven [] (d ∷ ds) = ⊥
AllGiven (s ∷ ss) [] = ⊥
AllGiven (s ∷ ss) (d ∷ ds) = IsGiven s.count d × AllGiven ss ds

abbrev HasCount : ℕ → Sequent → Type 0
HasCount k s = s.count ≡ k

one-count : (k : ℕ) (s : Sequent) (ds : List (List (List Literal))) → HasCount k s → AllGiven (s ∷ []) ds → IsGiven k (first_given ds)
one-count k s [] is h = absurd h
one-count k s (d ∷ ds) is h = subst (λ n. IsGiven n d) is h.0

each-count : (s : Sequent) (i over : ℕ) (fs : Forms) → AllByRecursion (HasCount s.count) (map (λ new. sequent (remove s.members i ++ new) s.count) (one_each (new_members over s.count fs)))
each-count s i over tree.no_form = tt
each-count s i over (tree.and_form f fs) = (refl, each-count s i over fs)

counted : (k : ℕ) (ss : List Sequent) (ds : List (List (List Literal))) → AllByRecursion (HasCount k) ss → AllGiven ss ds → AllByRecursion (IsGiven k) ds
counted k [] [] c h = tt
counted k [] (d ∷ ds) c h = absurd h
counted k (s ∷ ss) [] c h = tt
counted k (s ∷ ss) (d ∷ ds) c h = (subst (λ n. IsGiven n d) c.0 h.0, counted k ss ds c.1 h.1)

conjoined-given : (k : ℕ) (ds : List (List (List Literal))) (d : List (List Literal)) → AllByRecursion (IsGiven k) ds → IsGiven k d → IsGiven k (conjoined ds d).value
unfolding next just
conjoined-given k [] d h g = g
conjoined-given k (c ∷ cs) d h g = conjoined-given k cs (conjunction d c).value h.1 (given_and k d c g h.0)

alpha-given : (s : Sequent) (i : ℕ) (o : Option Member) (ds : List (List (List Literal))) → is_shape Alpha (shape_of o) ≡ true → AllGiven (premises_at s i o) ds → IsGiven s.count (first_given ds)
alpha-given s i None ds k h = absurd (cc)
alpha-given s i (Some m) ds k h = by m.over m.used m.formula k h
  where
    by : (over used : ℕ) (f : Form) → is_shape Alpha (shape_of (Some (member f over used))) ≡ true → AllGiven (premises_at s i (Some (member f over used))) ds → IsGiven s.count (first_given ds)
    by over used (tree.disjunction fs) k h = one-count s.count (sequent (remove s.members i ++ new_members over s.count fs) s.count) ds refl h
    by over used (tree.conjunction tree.no_form) k h = absurd (cc)
    by over used (tree.conjunction (tree.and_form f fs)) k h = absurd (cc)
    by over used f k h = absurd (cc)

delta-given : (s : Sequent) (i : ℕ) (o : Option Member) (ds : List (List (List Literal))) → is_shape Delta (shape_of o) ≡ true → AllGiven (premises_at s i o) ds → IsGiven (suc s.count) (first_given ds)
delta-given s i None ds k h = absurd (cc)
delta-given s i (Some m) ds k h = by m.over m.used m.formula k h
  where
    by : (over used : ℕ) (f : Form) → is_shape Delta (shape_of (Some (member f over used))) ≡ true → AllGiven (premises_at s i (Some (member f over used))) ds → IsGiven (suc s.count) (first_given ds)
    by over used (tree.universal f) k h = one-count (suc s.count) (sequent (remove s.members i ++ member (brought over s.count f) (suc s.count) 0 ∷ []) (suc s.count)) ds refl h
    by over used (tree.conjunction tree.no_form) k h = absurd (cc)
    by over used (tree.conjunction (tree.and_form f fs)) k h = absurd (cc)
    by over used f k h = absurd (cc)

gamma-given : (s : Sequent) (i : ℕ) (o : Option Member) (ds : List (List (List Literal))) → is_shape Gamma (shape_of o) ≡ true → AllGiven (premises_at s i o) ds → IsGiven (suc s.count) (first_given ds)
gamma-given s i None ds k h = absurd (cc)
gamma-given s i (Some m) ds k h = by m.over m.used m.formula k h
  where
    by : (over used : ℕ) (f : Form) → is_shape Gamma (shape_of (Some (member f over used))) ≡ true → AllGiven (premises_at s i (Some (member f over used))) ds → IsGiven (suc s.count) (first_given ds)
    by over used (tree.existential f) k h = one-count (suc s.count) (sequent (remove s.members i ++ member (brought over s.count f) (suc s.count) 0 ∷ member (tree.existential f) over (suc used) ∷ []) (suc s.count)) ds refl h
    by over used (tree.conjunction tree.no_form) k h = absurd (cc)
    by over used (tree.conjunction (tree.and_form f fs)) k h = absurd (cc)
    by over used f k h = absurd (cc)

beta-given : (s : Sequent) (i : ℕ) (o : Option Member) (ds : List (List (List Literal))) → is_shape Beta (shape_of o) ≡ true → AllGiven (premises_at s i o) ds → AllByRecursion (IsGiven s.count) ds
beta-given s i None ds k h = absurd (cc)
beta-given s i (Some m) ds k h = by m.over m.used m.formula k h
  where
    by : (over used : ℕ) (f : Form) → is_shape Beta (shape_of (Some (member f over used))) ≡ true → AllGiven (premises_at s i (Some (member f over used))) ds → AllByRecursion (IsGiven s.count) ds
    by over used (tree.conjunction tree.no_form) k h = absurd (cc)
    by over used (tree.conjunction (tree.and_form f fs)) k h = counted s.count (map (λ new. sequent (remove s.members i ++ new) s.count) (one_each (new_members over s.count (tree.and_form f fs)))) ds (each-count s i over (tree.and_form f fs)) h
    by over used f k h = absurd (cc)

close-given : (s : Sequent) (ds : List (List (List Literal))) → IsFormedSequent s → IsReducedSequent s → Yields (constraint_by s pick.Close ds) (IsGiven s.count)
close-given s ds w r =
    let f = (closing_of s).value in
    let log : Form → Reader (List (List Literal)) = (λ g. by_log (suc (depth g)) s.count g) in
    yields_next (reads_none (closing_of s)) log (λ g. g ≡ f) (IsGiven s.count) (yields_none (closing_of s) (λ g. g ≡ f) refl)
    (λ g is. subst (λ z. Yields (log z) (IsGiven s.count)) (sym is) (log-given (suc (depth f)) s.count f (omega arith) (closing_presburger s r) (closing_over s w)))

rule-given : (s : Sequent) (p : Pick) (ds : List (List (List Literal))) → IsFormedSequent s → IsReducedSequent s → applies s p ≡ true → AllGiven (premises_of s p) ds → Yields (constraint_by s p ds) (IsGiven s.count)
unfolding just
rule-given s (pick.Trivial i) ds w r a h = yields_none (just top) (IsGiven s.count) (given_top s.count)
rule-given s (pick.Alpha i) ds w r a h = yields_none (just (first_given ds)) (IsGiven s.count) (alpha-given s i (slice_get s.members i) ds a h)
rule-given s (pick.Delta i) ds w r a h = given_every s.count (first_given ds) (delta-given s i (slice_get s.members i) ds a h)
rule-given s (pick.Beta i) ds w r a h = yields_none (conjoined ds top) (IsGiven s.count) (conjoined-given s.count ds top (beta-given s i (slice_get s.members i) ds a h) (given_top s.count))
rule-given s (pick.Gamma i) ds w r a h = given_name s.count (first_given ds) (gamma-given s i (slice_get s.members i) ds a h)
rule-given s pick.Close ds w r a h = close-given s ds w r

-- ---- trees
mutual
  -- the constraint of a node that gives it, whatever the tree and its logs
  pub node_given : (s : Sequent) (x : Proof) → IsFormedSequent s → IsReducedSequent s → Gives s x → IsGiven s.count (given x)
  node_given s (node p ns log d) w r g =
      whole_yields (constraint_by s p (all_given ns)) (IsGiven s.count)
      (rule-given s p (all_given ns) w r g.0 (nodes_given (premises_of s p) ns (formed_by s (place p) w) (reduced_by s (place p) r) g.1)) log d g.2

  nodes_given : (ss : List Sequent) (ns : Proofs) → AllByRecursion IsFormedSequent ss → AllByRecursion IsReducedSequent ss → AreGiven ss ns → AllGiven ss (all_given ns)
  nodes_given [] no_proof w r g = tt
  nodes_given [] (and_proof x xs) w r g = absurd g
  nodes_given (s ∷ ss) no_proof w r g = absurd g
  nodes_given (s ∷ ss) (and_proof x xs) w r g = (node_given s x w.0 r.0 g.0, nodes_given ss xs w.1 r.1 g.1)
