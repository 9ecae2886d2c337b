-- What building a tree charges, and the walk over its proof.
use Rattle.std.proofs.Common.{◌≡◌, ℕ, suc, ◌+◌, ℤ, Bool, true, false, cond, ◌&&◌, nat_eq, nat_lt, List, [], ◌∷◌, ◌++◌, length, map, refl, sym, ◌∙◌, ap, arith, Option, Some, None}
use Rattle.std.specs.List.{list_all}
use Rattle.linear_term.specs.Range.{is_in_range}
use Rattle.base_budget.specs.declared.log.ElimLog.{ElimLog}
use Rattle.base_budget.specs.Runs.{total}
use Rattle.base_budget.specs.Trace.{Mark, Traced, just, step, next, note, enter, each}
use Rattle.base_budget.proofs.Tracing.{value-next}
use Rattle.clause_set.specs.declared.literal.Literal.{Literal}
use Rattle.clause_set.specs.declared.literal.Literal.TheVariants.{Eq, Geq, Div, NDiv}
use Rattle.clause_set.specs.Dnfs.{tidied}
use Rattle.elim_laws.specs.Logs.{by_whole_log, entries_of, names_by_log}
use Rattle.elim_laws.specs.Whole.{names_out}
use Rattle.elim_laws.proofs.Depth.{names_does}
use Rattle.elim_laws.proofs.Wholes.{whole_does}
use Rattle.formula.specs.Form.{Form, equal, unequal, at_least, holds, fails, differs, conjunction, disjunction, universal, existential, no_form, and_form, is_pure}
use Rattle.sequent.specs.declared.member.Pick.{Pick}
use Rattle.sequent.specs.Rules.{allowed, picked, premises_of, shape}
use Rattle.sequent.specs.Sequent.{Sequent}
use Rattle.solve_laws.specs.Solutions.{answered, solving, valued, valued_clause}
use Rattle.proof_tree.specs.declared.node.Conclusion.{Conclusion}
use Rattle.proof_tree.specs.declared.node.Conclusion.TheVariants.{Solution, Nothing}
use Rattle.proof_tree.specs.Proof.{Proof, node, given, proofs}
use Rattle.proof_tree.specs.Proves.{concluded, is_root_rule, proof_walk, rule_of, start, values_put, verdict_if}
use Rattle.proof_tree.specs.declared.run.Verdict.{Verdict}
use Rattle.proof_tree.specs.declared.run.Verdict.TheVariants.{Invalid}
use Rattle.proof_tree.specs.Walk.{in_new_log, is_same, nodes_in, on_some, walked}
use Rattle.proof_tree.proofs.Walking.{gives_walked, some_then}
use Rattle.base_limits.specs.Limits.{branch_limit}
use Rattle.search.specs.Building.{all_built, built, canonical_constraint}
use Rattle.search.specs.Rounds.{solved_of, solving_of}
use Rattle.search.proofs.Pures.{pick_of, pure_pick}
use Rattle.search.proofs.Retracing.{retraced, value-built}
use Rattle.search.proofs.Totals.{total-in_new_log, total-next}

-- ---- sums of charges
abbrev charges : {A : Type 0} → Traced A → ℕ
charges w = total w.events

charges-note : {A : Type 0} (m : Mark) (w : Traced A) → charges (next (note m) (λ _. w)) ≡ charges w
unfolding next step
charges-note m w = refl

charges-then : {A B : Type 0} (w : Traced A) (g : A → B) → charges (next w (λ a. just (g a))) ≡ charges w
unfolding just
charges-then w g = let e = total-next w (λ a. just (g a)) in omega (arith, e)

-- ---- values put into a constraint charge nothing
record IsFree {A : Type 0} (w : Traced A) : Type 0 where
  free : charges w ≡ 0

free_just : {A : Type 0} (a : A) → IsFree (just a)
unfolding just
free_just a = record { free = refl }

free_next : {A B : Type 0} (m : Traced A) (f : A → Traced B) → IsFree m → ((a : A) → IsFree (f a)) → IsFree (next m f)
free_next m f h k = record { free = (let e = total-next m f in let a = h.free in let b = (k m.value).free in omega (arith, e, a, b)) }

free_each : {C D : Type 0} (f : C → Traced (List D)) (cs : List C) (out : List D) → ((c : C) → IsFree (f c)) → IsFree (each f cs out)
free_each f [] out h = free_just out
free_each f (c ∷ cs) out h = free_next (f c) _ (h c) (λ ds. free_each f cs (out ++ ds) h)

free_valued : (j : ℕ) (v : ℤ) (l : Literal) → IsFree (valued j v l)
unfolding step
free_valued j v (Eq t) = free_next _ _ (record { free = refl }) (λ s. free_just _)
free_valued j v (Geq t) = free_next _ _ (record { free = refl }) (λ s. free_just _)
free_valued j v (Div d t) = free_next _ _ (record { free = refl }) (λ s. free_just _)
free_valued j v (NDiv d t) = free_next _ _ (record { free = refl }) (λ s. free_just _)

free_clause : (j : ℕ) (v : ℤ) (c : List Literal) → IsFree (valued_clause j v c)
free_clause j v c = free_next (each (valued j v) c []) _ (free_each (valued j v) c [] (free_valued j v)) (λ ls. free_just _)

free_values : (j : ℕ) (vs : List ℤ) (d : List (List Literal)) → IsFree (values_put j vs d)
free_values j [] d = free_just d
free_values j (v ∷ vs) d = free_next (each (valued_clause j v) d []) _ (free_each (valued_clause j v) d [] (free_clause j v)) (λ cs. free_values (suc j) vs (tidied cs))

free_cond : {A : Type 0} (b : Bool) (w u : Traced A) → IsFree w → IsFree u → IsFree (cond b w u)
free_cond true w u h k = h
free_cond false w u h k = k

solution_free : (f : Form) (n : ℕ) (p : Pick) (vs : List ℤ) (d : List (List Literal)) → IsFree (concluded f n p (Solution vs) d)
solution_free f n p vs d = free_cond (nat_eq (length vs) n && list_all is_in_range vs) _ _ (free_next (values_put 0 vs d) _ (free_values 0 vs d) (λ r. free_just _)) (free_just None)

-- ---- nothing that satisfies it
pub by_both : {A : Type 0} (a b : Bool) (w u : Traced A) → a ≡ true → b ≡ true → cond (a && b) w u ≡ w
by_both true true w u h k = refl
by_both true false w u h k = absurd (cc)
by_both false b w u h k = absurd (cc)

verdict_free : (m : Traced (List (List Literal))) → charges (on_some (λ r. just (verdict_if (is_same r []) Invalid)) (next m (λ r. just (Some r))).value) ≡ 0
unfolding next just
verdict_free m = refl

-- taking all names out by their own log charges what taking them out does
nothing_charges : (f : Form) (n : ℕ) (p : Pick) (d : List (List Literal)) → is_pure f ≡ true → is_root_rule p ≡ true
    → charges (concluded f n p (Nothing (record { entries = entries_of (names_out n d).events })) d) ≡ charges (names_out n d)
unfolding just
nothing_charges f n p d pure root =
    let w = by_whole_log (names_by_log n d) (entries_of (names_out n d).events) in
    let g : Option (List (List Literal)) → Traced (Option Verdict) = on_some (λ r. just (verdict_if (is_same r []) Invalid)) in
    let is : w ≡ next (names_out n d) (λ r. just (Some r)) = whole_does (names_by_log n d) (names_out n d) (names_does n d) in
    ap charges (by_both (is_pure f) (is_root_rule p) (next w g) (just None) pure root)
    ∙ ap (λ (z : Traced (Option (List (List Literal)))). charges (next z g)) is
    ∙ (let one = total-next (next (names_out n d) (λ r. just (Some r))) g in let two = charges-then (names_out n d) (λ r. Some r) in
    let three : charges (g (next (names_out n d) (λ r. just (Some r))).value) ≡ 0 = verdict_free (names_out n d) in omega (arith, one, two, three))

unsolved : (n : ℕ) (d left : List (List Literal)) → (answered n d left).value ≡ None → charges (answered n d left) ≡ 0
unfolding next just
unsolved n d [] h = refl
unsolved n d (c ∷ cs) h = absurd (cc)

-- solving that finds nothing charges what taking all names out does
none_charges : (n : ℕ) (d : List (List Literal)) → (solving n d).value ≡ None → charges (solving n d) ≡ charges (names_out n d)
unfolding solving
none_charges n d none =
    let value : (answered n d (names_out n d).value).value ≡ None = sym (value-next (names_out n d) (answered n d)) ∙ none in
    let m = total-next (names_out n d) (answered n d) in
    let z = unsolved n d (names_out n d).value value in
    omega (arith, m, z)

-- ---- the proof
-- the rule of a tree that was built
pub built_rule : (limit n : ℕ) (s : Sequent) (x : Proof) → (built limit branch_limit n s).value ≡ Some x → rule_of x ≡ picked limit s.members
unfolding built just
built_rule limit n s x e =
    let p = picked limit s.members in
    let f = built limit 1999 in
    let g = some_then (all_built f (n + 1) (premises_of s p) []).value _ x (sym (value-built f n s p) ∙ e) in
    let d = (canonical_constraint s p (map given g.0)).value in
    let is : node p (proofs g.0) (entries_of (canonical_constraint s p (map given g.0)).events) d ≡ x =
    (let z : Some (node p (proofs g.0) (entries_of (canonical_constraint s p (map given g.0)).events) d) ≡ Some x = g.2 in cc) in
    sym (ap rule_of is)

-- the rule that a pure formula takes is without premises
pub root_rule : (f : Form) (b : Bool) → is_root_rule (pick_of (allowed true b (shape f))) ≡ true
root_rule (equal t) b = refl
root_rule (unequal t) b = refl
root_rule (at_least t) b = refl
root_rule (holds q ts) b = refl
root_rule (fails q ts) b = refl
root_rule (differs q ts u) b = refl
root_rule (conjunction no_form) b = refl
root_rule (conjunction (and_form f fs)) b = refl
root_rule (disjunction fs) b = refl
root_rule (universal f) b = refl
root_rule (existential f) b = refl

-- the walk over a tree that was built charges what building it did, and then what its conclusion does
walk_charges : (f : Form) (n k : ℕ) (x : Proof) (c : Conclusion) → (built k branch_limit 0 (start f n)).value ≡ Some x
    → total (proof_walk f n x c).events ≡ charges (built k branch_limit 0 (start f n)) + charges (concluded f n (rule_of x) c (given x))
walk_charges f n k x c e =
    let r = retraced k branch_limit 0 (start f n) x e in
    let then : List (List Literal) → Traced (Option Verdict) = (λ d. next (note (enter (nodes_in x))) (λ _. concluded f n (rule_of x) c d)) in
    let value : (walked 0 (start f n) x).value ≡ Some (given x) = gives_walked x 0 (start f n) r.gives in
    let all = total-next (walked 0 (start f n) x) (on_some then) in
    let tree : charges (walked 0 (start f n) x) ≡ charges (built k branch_limit 0 (start f n)) = ap total r.events in
    let end : charges (on_some then (walked 0 (start f n) x).value) ≡ charges (concluded f n (rule_of x) c (given x)) =
    ap (λ o. charges (on_some then o)) value ∙ charges-note (enter (nodes_in x)) (concluded f n (rule_of x) c (given x)) in
    omega (arith, all, tree, end)

pub valid_charges : (f : Form) (n k : ℕ) (x : Proof) (vs : List ℤ) → (built k branch_limit 0 (start f n)).value ≡ Some x → total (built k branch_limit 0 (start f n)).events ≡ total (proof_walk f n x (Solution vs)).events
valid_charges f n k x vs e =
    let w = walk_charges f n k x (Solution vs) e in
    let z = (solution_free f n (rule_of x) vs (given x)).free in
    omega (arith, w, z)

pub invalid_charges : (f : Form) (n k : ℕ) (x : Proof) → is_pure f ≡ true → (built k branch_limit 0 (start f n)).value ≡ Some x → (solving n (given x)).value ≡ None
    → total (built k branch_limit 0 (start f n)).events + total (solving n (given x)).events ≡ total (proof_walk f n x (Nothing (record { entries = entries_of (names_out n (given x)).events }))).events
invalid_charges f n k x h e none =
    let root : is_root_rule (rule_of x) ≡ true = ap is_root_rule (built_rule k 0 (start f n) x e ∙ pure_pick f n k h) ∙ root_rule f (nat_lt 0 k) in
    let w = walk_charges f n k x (Nothing (record { entries = entries_of (names_out n (given x)).events })) e in
    let c = nothing_charges f n (rule_of x) (given x) h root in
    let s = none_charges n (given x) none in
    omega (arith, w, c, s)

not_pure : {A : Type 0} (a b : Bool) (w u : Traced A) → a ≡ false → cond (a && b) w u ≡ u
not_pure false b w u h = refl
not_pure true b w u h = absurd (cc)

-- the walk over a tree of a formula that is not pure stops after the tree, whatever log is its conclusion
pub saturated_charges : (f : Form) (n k : ℕ) (x : Proof) (log : ElimLog) → is_pure f ≡ false → (built k branch_limit 0 (start f n)).value ≡ Some x
    → total (built k branch_limit 0 (start f n)).events ≡ total (proof_walk f n x (Nothing log)).events
unfolding just
saturated_charges f n k x log h e =
    let w = walk_charges f n k x (Nothing log) e in
    let z : charges (concluded f n (rule_of x) (Nothing log) (given x)) ≡ 0 = ap charges (not_pure (is_pure f) (is_root_rule (rule_of x)) _ (just None) h) in
    omega (arith, w, z)

-- what solving charges in a run
pub solving_charges : (n : ℕ) (d : List (List Literal)) → total (solving_of n d).events ≡ total (solving n d).events
solving_charges n d =
    let one = charges-then (in_new_log (solving n d)) (solved_of n d) in
    let two = total-in_new_log (solving n d) in
    omega (arith, one, two)
