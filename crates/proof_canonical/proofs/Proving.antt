-- What a run ends with proves itself.
use Rattle.std.proofs.Common.{◌≡◌, ℕ, ℤ, true, ◌&&◌, nat_eq, nat_lt, ◌<◌, ◌^◌, unsigned_abs, List, [], ◌∷◌, ◌++◌, length, Option, Some, None, Ok, refl, sym, ◌∙◌, ap, subst, arith}
use Rattle.std.specs.List.{AllByRecursion, list_all}
use Rattle.std.proofs.lemmas.Bool.Decides.{nat_tests}
use Rattle.linear_term.specs.Range.{InRange, is_in_range}
use Rattle.base_budget.specs.declared.log.ElimLog.{ElimLog}
use Rattle.base_budget.specs.Runs.{raw_stay, total}
use Rattle.base_budget.specs.Trace.{Funds, At, at, Traced, just, next}
use Rattle.clause_set.specs.declared.literal.Literal.{Literal}
use Rattle.clause_set.specs.Dnfs.{top}
use Rattle.formula.specs.Form.{Form, IsFormOver, is_pure}
use Rattle.formula.specs.Reduced.{HasReducedTerms}
use Rattle.elim_laws.specs.Logs.{by_whole_log, entries_of, names_by_log}
use Rattle.elim_laws.specs.Whole.{names_out}
use Rattle.elim_laws.proofs.Depth.{names_does}
use Rattle.elim_laws.proofs.Wholes.{whole_does}
use Rattle.sequent.specs.declared.member.Pick.{Pick}
use Rattle.sequent.proofs.Forming.{start_formed}
use Rattle.solve_laws.specs.Solutions.{IsGiven, answered, solving}
use Rattle.solve_laws.proofs.Solving.{solving-best}
use Rattle.base_limits.specs.Limits.{branch_limit}
use Rattle.proof_tree.specs.declared.node.Conclusion.{Conclusion}
use Rattle.proof_tree.specs.declared.node.Conclusion.TheVariants.{Nothing, Solution}
use Rattle.proof_tree.specs.declared.node.Tree.{Tree}
use Rattle.proof_tree.specs.declared.run.Verdict.{Verdict}
use Rattle.proof_tree.specs.declared.run.Verdict.TheVariants.{Valid, Invalid}
use Rattle.proof_tree.specs.Proof.{Proof, given}
use Rattle.proof_tree.specs.Proves.{Proves, concluded, is_root_rule, proof_walk, rule_of, start, values_put, verdict_if}
use Rattle.proof_tree.specs.Views.{proof_of}
use Rattle.proof_tree.specs.Walk.{is_same, on_some}
use Rattle.proof_tree.proofs.Walking.{same_self}
use Rattle.search.specs.declared.judge.Outcome.TheVariants as outcome
use Rattle.search.specs.Building.{built}
use Rattle.search.specs.Outcomes.{EndsAs, IsTree}
use Rattle.base_budget.specs.Ending.{ending, ends_with}
use Rattle.search.specs.Run.{canonical_run, invalid, valid}
use Rattle.search.proofs.Charges.{built_rule, by_both, root_rule}
use Rattle.search.proofs.Given.{built-given}
use Rattle.search.proofs.Pures.{pure_pick}
use Rattle.search.proofs.Retracing.{retraced}
use Rattle.solve_laws.proofs.Parts.{stay_parts}
use Rattle.proof_canonical.proofs.Ended.{invalid_round, valid_round}
use Rattle.solve_laws.proofs.Values.{solution_in}
use Rattle.proof_canonical.proofs.Placing.{IsSolution, solution_put}
use Rattle.proof_canonical.proofs.Sorting.{built_sorted}
use Rattle.proof_canonical.proofs.Staying.{stay_both, walk_stays}

-- the conclusion is accepted as v, with raw numbers that stay in the range
record IsConcluded (f : Form) (n : ℕ) (p : Pick) (c : Conclusion) (d : List (List Literal)) (v : Verdict) : Type 0 where
  value : (concluded f n p c d).value ≡ Some v
  stay : raw_stay (concluded f n p c d).events ≡ true

-- by the work that is done
by_work : (f : Form) (n : ℕ) (p : Pick) (c : Conclusion) (d : List (List Literal)) (v : Verdict) (w : Traced (Option Verdict)) → concluded f n p c d ≡ w → w.value ≡ Some v → raw_stay w.events ≡ true
    → IsConcluded f n p c d v
by_work f n p c d v w is value stay = record { value = ap (λ z. z.value) is ∙ value; stay = ap (λ z. raw_stay z.events) is ∙ stay }

-- a tree that was built proves what its conclusion is accepted as
built_proves : (f : Form) (n k : ℕ) (x : Proof) (c : Conclusion) (v : Verdict) → (built k branch_limit 0 (start f n)).value ≡ Some x → raw_stay (built k branch_limit 0 (start f n)).events ≡ true
    → IsConcluded f n (rule_of x) c (given x) v → Proves f n x c (total (proof_walk f n x c).events) v
built_proves f n k x c v is stay h = record {
  tree = (retraced k branch_limit 0 (start f n) x is).gives;
  conclusion = h.value;
  within = omega arith;
  stay = walk_stays f n k x c is stay h.stay;
}

-- the test for one of two disjunctions passes
same_passes : (r d : List (List Literal)) (v : Verdict) → r ≡ d → verdict_if (is_same r d) v ≡ Some v
same_passes r d v is = ap (λ z. verdict_if (is_same z d) v) is ∙ ap (λ b. verdict_if b v) (same_self d)

-- ---- values
all_in : (vs : List ℤ) → AllByRecursion InRange vs → list_all is_in_range vs ≡ true
all_in [] h = refl
all_in (v ∷ vs) h = ap (λ z. z && list_all is_in_range vs) (one_in (2 ^ 127) v h.0) ∙ all_in vs h.1
  where
    one_in : (most : ℕ) (v : ℤ) → unsigned_abs v < most → nat_lt (unsigned_abs v) most ≡ true
    one_in most v h = grind (arith, nat_tests, h)

as_many : (m n : ℕ) → m ≡ n → nat_eq m n ≡ true
as_many m n h = grind (arith, h)

values_concluded : (f : Form) (n : ℕ) (p : Pick) (vs : List ℤ) (d : List (List Literal)) → length vs ≡ n → AllByRecursion InRange vs → IsSolution vs d → IsConcluded f n p (Solution vs) d (Valid vs)
unfolding next just
values_concluded f n p vs d long within s =
    let w = values_put 0 vs d in
    by_work f n p (Solution vs) d (Valid vs) (next w (λ r. just (verdict_if (is_same r top) (Valid vs))))
    (by_both (nat_eq (length vs) n) (list_all is_in_range vs) _ _ (as_many (length vs) n long) (all_in vs within))
    (same_passes w.value top (Valid vs) s.left) (stay_both w.events [] s.stay refl)

pub proved_valid : (f : Form) (n : ℕ) (g : Funds) (vs : List ℤ) (x : Proof) (b : At) → IsFormOver n f → HasReducedTerms f → ending (canonical_run f n g.budget) (at g []) ≡ ends_with (valid vs x) b
    → Proves f n x (Solution vs) (total (proof_walk f n x (Solution vs)).events) (Valid vs)
proved_valid f n g vs x b over red e =
    let r = valid_round f n g vs x b e in
    let tree : (built r.limit branch_limit 0 (start f n)).value ≡ Some x = (r.tree).tree in
    let solved : (solving n (given x)).value ≡ Some vs = (r.tree).solution in
    let i : IsGiven n (given x) = built-given r.limit branch_limit 0 (start f n) x (start_formed f n over) (red, tt) tree in
    let s = solution_put n (given x) vs i (built_sorted r.limit branch_limit 0 (start f n) x tree) solved r.stay in
    built_proves f n r.limit x (Solution vs) (Valid vs) tree r.tree_stay
    (values_concluded f n (rule_of x) vs (given x) (solving-best n (given x) vs i solved).names (solution_in n (given x) vs i solved r.stay) s)

-- ---- nothing
-- where solving finds nothing, taking all names out leaves nothing
none_left : (n : ℕ) (d left : List (List Literal)) → (answered n d left).value ≡ None → left ≡ []
unfolding next just
none_left n d [] e = refl
none_left n d (c ∷ cs) e = absurd (cc)

nothing_left : (n : ℕ) (d : List (List Literal)) → (solving n d).value ≡ None → (names_out n d).value ≡ []
unfolding solving next
nothing_left n d e = none_left n d (names_out n d).value e

names_stay : (n : ℕ) (d : List (List Literal)) → raw_stay (solving n d).events ≡ true → raw_stay (names_out n d).events ≡ true
unfolding solving next
names_stay n d h = (stay_parts (names_out n d).events _ h).0

nothing_concluded : (f : Form) (n : ℕ) (p : Pick) (d : List (List Literal)) → is_pure f ≡ true → is_root_rule p ≡ true → (names_out n d).value ≡ [] → raw_stay (names_out n d).events ≡ true
    → IsConcluded f n p (Nothing (record { entries = entries_of (names_out n d).events })) d Invalid
unfolding next just
nothing_concluded f n p d pure root left stay =
    let log : ElimLog = record { entries = entries_of (names_out n d).events } in
    let judge : Option (List (List Literal)) → Traced (Option Verdict) = on_some (λ r. just (verdict_if (is_same r []) Invalid)) in
    let is : by_whole_log (names_by_log n d) log.entries ≡ next (names_out n d) (λ r. just (Some r)) = whole_does (names_by_log n d) (names_out n d) (names_does n d) in
    by_work f n p (Nothing log) d Invalid (next (next (names_out n d) (λ r. just (Some r))) judge)
    (by_both (is_pure f) (is_root_rule p) _ _ pure root ∙ ap (λ (z : Traced (Option (List (List Literal)))). next z judge) is)
    (same_passes (names_out n d).value [] Invalid left)
    (stay_both ((names_out n d).events ++ []) [] (stay_both (names_out n d).events [] stay refl) refl)

pub proved_invalid : (f : Form) (n : ℕ) (g : Funds) (log : ElimLog) (x : Proof) (b : At) → IsFormOver n f → HasReducedTerms f
    → ending (canonical_run f n g.budget) (at g []) ≡ ends_with (invalid log.entries x) b → Proves f n x (Nothing log) (total (proof_walk f n x (Nothing log)).events) Invalid
proved_invalid f n g log x b over red e =
    let r = invalid_round f n g log.entries x b e in
    let tree : (built r.limit branch_limit 0 (start f n)).value ≡ Some x = (r.tree).tree in
    let root : is_root_rule (rule_of x) ≡ true = ap is_root_rule (built_rule r.limit 0 (start f n) x tree ∙ pure_pick f n r.limit r.pure) ∙ root_rule f (nat_lt 0 r.limit) in
    let own = nothing_concluded f n (rule_of x) (given x) r.pure root (nothing_left n (given x) (r.tree).solution) (names_stay n (given x) r.stay) in
    built_proves f n r.limit x (Nothing log) Invalid tree r.tree_stay
    (subst (λ es. IsConcluded f n (rule_of x) (Nothing (record { entries = es })) (given x) Invalid) (sym r.log_is) own)

-- ---- outcomes
tree_as : (f : Form) (n : ℕ) (t : Tree) (x : Proof) (c : Conclusion) (v : Verdict) → IsTree f n x c t → Proves f n x c (total (proof_walk f n x c).events) v → Proves f n (proof_of t.root) t.conclusion t.charges v
tree_as f n t x c v i h =
    subst (λ (z : ℕ). Proves f n (proof_of t.root) t.conclusion z v) (sym i.charges)
    (subst (λ (z : Proof). Proves f n z t.conclusion (total (proof_walk f n x c).events) v) (sym i.root)
    (subst (λ (z : Conclusion). Proves f n x z (total (proof_walk f n x c).events) v) (sym i.conclusion) h))

pub told_valid : (f : Form) (n : ℕ) (old new : Funds) (d : List (List Literal)) (vs : List ℤ) (t : Tree) → IsFormOver n f → HasReducedTerms f → EndsAs f n old (Ok (outcome.Valid d vs t)) new
    → Proves f n (proof_of t.root) t.conclusion t.charges (Valid vs)
told_valid f n old new d vs t over red e = tree_as f n t e.1 (Solution vs) (Valid vs) e.4 (proved_valid f n old vs e.1 (at new e.0) over red e.2)

pub told_invalid : (f : Form) (n : ℕ) (old new : Funds) (d : List (List Literal)) (t : Tree) → IsFormOver n f → HasReducedTerms f → EndsAs f n old (Ok (outcome.Invalid d t)) new
    → Proves f n (proof_of t.root) t.conclusion t.charges Invalid
told_invalid f n old new d t over red e = tree_as f n t e.2 (Nothing e.1) Invalid e.5 (proved_invalid f n old e.1 e.2 (at new e.0) over red e.3)
