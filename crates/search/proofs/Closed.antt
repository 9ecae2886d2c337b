-- Closed comparisons are decided by a budget of seven steps a node.
use Rattle.std.proofs.Common.{◌≡◌, ◌+◌, ◌*◌, ◌≤◌, ◌<◌, ◌&&◌, ℕ, true, cond, nat_lt, List, [], ◌∷◌, ◌++◌, refl, sym, ◌∙◌, ap, subst, arith}
use Rattle.base_budget.specs.Runs.{total}
use Rattle.base_budget.specs.Trace.{Funds, Event, charge, At, at, capped, cut, done, refused, out_of_range, End, Traced, just, step, next, note, round}
use Rattle.base_budget.proofs.Meaning.{refused_where_passes}
use Rattle.clause_set.specs.declared.literal.Literal.{Literal}
use Rattle.formula.specs.Form as tree
use Rattle.formula.specs.Form.{Form, Forms, IsFormOver, is_pure, are_pure}
use Rattle.formula.specs.Shifts.{shifted, all_shifted}
use Rattle.formula.specs.Sizes.{size}
use Rattle.elim_laws.specs.Whole.{eliminating}
use Rattle.formula.proofs.Overs.{form_over}
use Rattle.formula.proofs.Sameness.{size_shifted}
use Rattle.sequent.specs.declared.member.Pick.{Pick}
use Rattle.sequent.specs.declared.member.Pick.TheVariants as pick
use Rattle.sequent.specs.Rules.{allowed, brought, picked, shape}
use Rattle.sequent.specs.Sequent.{Sequent}
use Rattle.solve_laws.specs.Solutions.{answered, solving}
use Rattle.pred_unify.specs.Pairs.{closing_of, pairs_of, pures}
use Rattle.proof_tree.specs.Proves.{start}
use Rattle.proof_tree.specs.Walk.{fee, in_new_log}
use Rattle.search.specs.Building.{canonical_constraint}
use Rattle.search.specs.Closed.{IsClosed, AreClosed}
use Rattle.search.specs.Pure.{answer_of, at_root, solved}
use Rattle.base_budget.specs.Ending.{ended, ending, out_of_steps}
use Rattle.search.specs.Run.{RunAnswer, canonical_run}
use Rattle.search.proofs.Bare.{capped_below, eliminating_steps}
use Rattle.search.proofs.Pures.{pick_of, pure_pick, pure_run_is}
use Rattle.search.proofs.Endings.{total-append}
use Rattle.search.proofs.Totals.{total-in_new_log, total-next}

-- ---- closed comparisons are pure, and stay closed
mutual
  closed_pure : (f : Form) → IsClosed f → is_pure f ≡ true
  closed_pure (tree.equal t) c = refl
  closed_pure (tree.unequal t) c = refl
  closed_pure (tree.at_least t) c = refl
  closed_pure (tree.holds p ts) c = absurd c
  closed_pure (tree.fails p ts) c = absurd c
  closed_pure (tree.differs p ts u) c = absurd c
  closed_pure (tree.conjunction fs) c = all_closed_pure fs c
  closed_pure (tree.disjunction fs) c = all_closed_pure fs c
  closed_pure (tree.universal f) c = absurd c
  closed_pure (tree.existential f) c = absurd c

  all_closed_pure : (fs : Forms) → AreClosed fs → are_pure fs ≡ true
  all_closed_pure tree.no_form c = refl
  all_closed_pure (tree.and_form f fs) c = ap (λ b. b && are_pure fs) (closed_pure f c.0) ∙ all_closed_pure fs c.1

mutual
  closed_shifted : (n k : ℕ) (f : Form) → IsClosed f → IsClosed (shifted n k f)
  closed_shifted n k (tree.equal t) c = tt
  closed_shifted n k (tree.unequal t) c = tt
  closed_shifted n k (tree.at_least t) c = tt
  closed_shifted n k (tree.holds p ts) c = absurd c
  closed_shifted n k (tree.fails p ts) c = absurd c
  closed_shifted n k (tree.differs p ts u) c = absurd c
  closed_shifted n k (tree.conjunction fs) c = all_closed_shifted n k fs c
  closed_shifted n k (tree.disjunction fs) c = all_closed_shifted n k fs c
  closed_shifted n k (tree.universal f) c = absurd c
  closed_shifted n k (tree.existential f) c = absurd c

  all_closed_shifted : (n k : ℕ) (fs : Forms) → AreClosed fs → AreClosed (all_shifted n k fs)
  all_closed_shifted n k tree.no_form c = tt
  all_closed_shifted n k (tree.and_form f fs) c = (closed_shifted n k f c.0, all_closed_shifted n k fs c.1)

-- ---- the closing formula of one closed member
record IsNoPair (w : Traced (List Form)) : Type 0 where
  none : w.value ≡ []
  free : total w.events ≡ 0

no_pair : (f : Form) → IsClosed f → IsNoPair (pairs_of (start f 0).members)
unfolding next just
no_pair (tree.equal t) c = record { none = refl; free = refl }
no_pair (tree.unequal t) c = record { none = refl; free = refl }
no_pair (tree.at_least t) c = record { none = refl; free = refl }
no_pair (tree.holds p ts) c = absurd c
no_pair (tree.fails p ts) c = absurd c
no_pair (tree.differs p ts u) c = absurd c
no_pair (tree.conjunction fs) c = record { none = refl; free = refl }
no_pair (tree.disjunction fs) c = record { none = refl; free = refl }
no_pair (tree.universal f) c = absurd c
no_pair (tree.existential f) c = absurd c

closing_is : (f : Form) → IsClosed f → (closing_of (start f 0)).value ≡ tree.disjunction (tree.and_form (shifted 0 0 f) tree.no_form)
unfolding next just
closing_is f c =
    ap (λ fs. tree.disjunction (tree.forms (pures 0 (start f 0).members ++ fs))) (no_pair f c).none
    ∙ ap (λ b. tree.disjunction (tree.forms (cond b (brought 0 0 f ∷ []) [] ++ []))) (closed_pure f c)

closing_free : (f : Form) → IsClosed f → total (closing_of (start f 0)).events ≡ 0
unfolding next just
closing_free f c = let e = total-append (pairs_of (start f 0).members).events [] in let z = (no_pair f c).free in omega (arith, e, z)

-- ---- the run
-- what a leaf's rule pays and makes
record IsLeafCheap (f : Form) (p : Pick) : Type 0 where
  steps : capped (fee (start f 0) p) + total (canonical_constraint (start f 0) p []).events ≤ 7 * size f + 3

close_cheap : (f : Form) → IsClosed f → IsFormOver 0 f → IsLeafCheap f pick.Close
unfolding next
close_cheap f c o =
    let s = start f 0 in
    let e = total-append (closing_of s).events (eliminating 0 (closing_of s).value).events in
    let z = closing_free f c in
    let h = shifted 0 0 f in
    let u : total (eliminating 0 (closing_of s).value).events ≤ 6 * size h =
    subst (λ g. total (eliminating 0 g).events ≤ 6 * size h) (sym (closing_is f c)) (eliminating_steps h (closed_shifted 0 0 f c) (form_over 0 0 0 f o)) in
    let w : size (closing_of s).value ≡ 1 + (size h + 0) = ap size (closing_is f c) in
    let same : size h ≡ size f = size_shifted 0 0 f in
    let k = capped_below (1 + size (closing_of s).value) in
    record { steps = omega (arith, e, z, u, w, same, k) }

leaf_cheap : (f : Form) → IsClosed f → IsFormOver 0 f → IsLeafCheap f (pick_of (allowed true (nat_lt 0 0) (shape f)))
unfolding just
leaf_cheap (tree.conjunction tree.no_form) c o = record { steps = let k = capped_below (1 + size (tree.conjunction tree.no_form)) in omega (arith, k) }
leaf_cheap (tree.conjunction (tree.and_form f fs)) c o = close_cheap (tree.conjunction (tree.and_form f fs)) c o
leaf_cheap (tree.disjunction fs) c o = close_cheap (tree.disjunction fs) c o
leaf_cheap (tree.equal t) c o = close_cheap (tree.equal t) c o
leaf_cheap (tree.unequal t) c o = close_cheap (tree.unequal t) c o
leaf_cheap (tree.at_least t) c o = close_cheap (tree.at_least t) c o
leaf_cheap (tree.holds p ts) c o = absurd c
leaf_cheap (tree.fails p ts) c o = absurd c
leaf_cheap (tree.differs p ts u) c o = absurd c
leaf_cheap (tree.universal f) c o = absurd c
leaf_cheap (tree.existential f) c o = absurd c

-- without names there is nothing to solve
solving_free : (d : List (List Literal)) → total (solving 0 d).events ≡ 0
unfolding solving next just
solving_free d = by d
  where
    by : (left : List (List Literal)) → total (answered 0 d left).events ≡ 0
    by [] = refl
    by (c ∷ cs) = refl

solved_free : (s : Sequent) (p : Pick) (d : List (List Literal)) → total (solved 0 s p d).events ≡ 0
unfolding just
solved_free s p d =
    let e = total-next (in_new_log (solving 0 d)) (λ a. just (answer_of 0 s p d a)) in
    let n = total-in_new_log (solving 0 d) in
    let z = solving_free d in
    omega (arith, e, n, z)

root_steps : (f : Form) (p : Pick) → IsLeafCheap f p → total (next (note (round 0)) (λ _. at_root 0 (start f 0) p)).events ≤ 7 * size f + 3
unfolding next step
root_steps f p h =
    let s = start f 0 in
    let w = in_new_log (canonical_constraint s p []) in
    let e : total (next (note (round 0)) (λ _. at_root 0 s p)).events ≡ capped (fee s p) + total (w.events ++ (solved 0 s p w.value).events) = refl in
    let a = total-append w.events (solved 0 s p w.value).events in
    let n = total-in_new_log (canonical_constraint s p []) in
    let z = solved_free s p w.value in
    let k = h.steps in
    omega (arith, e, a, n, z, k)

run_steps : (f : Form) (budget : ℕ) → IsClosed f → IsFormOver 0 f → total (canonical_run f 0 budget).events ≤ 7 * size f + 3
run_steps f budget c o =
    let pure = closed_pure f c in
    subst (λ (w : Traced RunAnswer). total w.events ≤ 7 * size f + 3) (sym (pure_run_is f 0 budget pure))
    (root_steps f (picked 0 (start f 0).members) (subst (IsLeafCheap f) (sym (pure_pick f 0 0 pure)) (leaf_cheap f c o)))

-- a run that the budget can pay for is not refused
not_refused : (es : List Event) (a b : At) → a.funds.spent + total es ≤ a.funds.budget → cut es a ≡ refused b → ⊥
not_refused es a b h e =
    let stop = (refused_where_passes es a b (omega (arith, h))).0 e in
    let before = stop.0 in
    let n = stop.1 in
    let at = stop.2 in
    let sum = total-append before (charge n ∷ at.after) in
    let whole : total es ≡ total (before ++ charge n ∷ at.after) = ap total at.whole in
    let stands : b.funds.spent ≡ a.funds.spent + total before = ap (λ (z : At). z.funds.spent) (at.runs).stands in
    let same : b.funds.budget ≡ a.funds.budget = ap (λ (z : At). z.funds.budget) (at.runs).stands in
    let past : b.funds.budget < b.funds.spent + capped n = at.stops in
    omega (arith, h, sum, whole, stands, same, past)

ended_refused : {A : Type 0} (v : A) (e : End) (b : At) → ended v e ≡ out_of_steps b → e ≡ refused b
ended_refused v (done c) b h = absurd (cc)
ended_refused v (refused c) b h = ap refused (let same : c ≡ b = cc in same)
ended_refused v (out_of_range ps c) b h = absurd (cc)

pub closed_enough : (f : Form) (g : Funds) (b : At) → IsClosed f → IsFormOver 0 f → g.spent + (7 * size f + 3) ≤ g.budget → ending (canonical_run f 0 g.budget) (at g []) ≡ out_of_steps b → ⊥
closed_enough f g b c o enough h =
    let w = canonical_run f 0 g.budget in
    let s = run_steps f g.budget c o in
    not_refused w.events (at g []) b (omega (arith, s, enough)) (ended_refused w.value (cut w.events (at g [])) b h)
