-- What the calls that make a counterexample did, as their result tells it.
use Rattle.std.proofs.Common.{◌≡◌, ◌≤◌, ◌+◌, ℕ, ℤ, List, length, Option, Some, None, Result, Ok, Err, IfOk, IsErrAnd, sym, ◌∙◌, subst}
use Rattle.form_typed.specs.declared.world.Table.{Table}
use Rattle.base_budget.specs.declared.fault.StepFault.{StepFault}
use Rattle.base_budget.specs.declared.fault.StepFault.TheVariants.{Memory}
use Rattle.base_budget.specs.Trace.{Funds, just, next}
use Rattle.base_budget.specs.Work.{Worked}
use Rattle.base_budget.proofs.Charging.{work_err, work_just, work_memory, work_ok, worked_value}
use Rattle.base_budget.proofs.Following.{follow_err, follow_free, follow_ok, followed_value}
use Rattle.formula.specs.Tree.{form}
use Rattle.sequent.specs.declared.member.Member as coded
use Rattle.sequent.specs.Sequent.{Sequent}
use Rattle.sequent.specs.Views.{members_of}
use Rattle.proof_tree.specs.Proof.{Proof}
use Rattle.proof_tree.specs.Proves.{start}
use Rattle.pri_typing.specs.declared.problem.Problem.{Problem}
use Rattle.pri_typing.specs.WellFormed.{IsWellFormed}
use Rattle.form_encoding.specs.Problems.{problem_root}
use Rattle.function_encoding.specs.declared.answer.Encoded.{Encoded}
use Rattle.pri_problem.specs.Encoded.{IsEncoded}
use Rattle.model_trees.specs.Levels.{IsWithinLevels}
use Rattle.model_trees.specs.Open.{IsSaturatedTree}
use Rattle.model_trees.specs.Rows.{table_at}
use Rattle.model_trees.specs.Walk.{Stop, walk}
use Rattle.countermodel.specs.declared.walking.Stop as code
use Rattle.countermodel.specs.Doing.{DoesWork}
use Rattle.countermodel.specs.Ready.{IsWalkReady}
use Rattle.countermodel.specs.Stopped.{stop_of, stopped}
use Rattle.model_runs.specs.Refuting.{IsCounterexample, found_at, universals_of}
use Rattle.countermodel.specs.declared.explaining.Counterexample.{Counterexample}
use Rattle.countermodel.specs.Explaining.{at_leaf, explained_as, explaining}
use Rattle.countermodel.specs.Probes.{probe_values}
use Rattle.countermodel.proofs.Explained.{IsAsked, ends_somewhere, found_there, many_there, ready_root}

pub explained_err : (e : StepFault) (r : Result Counterexample StepFault) → IsErrAnd r (λ x. x ≡ e) → IsErrAnd (explained_as r) (λ x. x ≡ e)
explained_err e (Ok c) h = absurd h
explained_err e (Err x) h = h

-- ---- at the leaf
table_of_leaf : (stop : code.Stop) (v : List ℤ) (ms : List coded.Member) → v ≡ stop.values → ms ≡ stop.members → table_at (record { values = v; members = members_of ms }) ≡ table_at (stop_of stop)
table_of_leaf stop v ms p q = λ i. table_at (record { values = p i; members = members_of (q i) })

pub table_cut : (p : Problem) (stop : code.Stop) (v : List ℤ) (ms : List coded.Member) {e : StepFault} (r : Result Counterexample StepFault) → v ≡ stop.values → ms ≡ stop.members → Worked (table_at (record { values = v; members = members_of ms })) (Err e)
    → IsErrAnd r (λ x. x ≡ e) → Worked (at_leaf p (stop_of stop)) (explained_as r)
table_cut p stop v ms {e} r values members did h = work_err _ _ (explained_as r) (explained_err e r h) (subst (λ w. Worked w (Err e)) (table_of_leaf stop v ms values members) did)

pub wants_memory : (p : Problem) (stop : Stop) (r : Result Counterexample StepFault) → IsErrAnd r (λ x. x ≡ Memory) → Worked (at_leaf p stop) (explained_as r)
wants_memory p stop r h = work_memory (explained_as r) (explained_err Memory r h)

pub found_whole : (p : Problem) (stop : code.Stop) (v w us : List ℤ) (ms : List coded.Member) (t : Table) (m k : ℕ) → v ≡ stop.values → ms ≡ stop.members → Worked (table_at (record { values = v; members = members_of ms })) (Ok t)
    → w ≡ stop.values → m ≡ length p.existentials → k ≡ length p.universals → us ≡ universals_of m k w → Worked (at_leaf p (stop_of stop)) (Ok (Some (t, us)))
found_whole p stop v w us ms t m k values members did there many more is =
    work_ok _ _ (subst (λ q. Worked q (Ok t)) (table_of_leaf stop v ms values members) did) (work_just _ _ (λ i. Some (worked_value (subst (λ q. Worked q (Ok t)) (table_of_leaf stop v ms values members) did) i, (is ∙ (λ j. universals_of (many j) (more j) (there j))) i)))

-- ---- the walk
pub asked : (p : Problem) (e : Encoded) (x : Proof) (at : List ℤ) → IsWellFormed p → IsEncoded p e → IsSaturatedTree (problem_root p).value (length p.existentials) x → probe_values p.existential_types ≡ Some at → IsAsked p x at
asked p e x at formed encoded saturated probes = record { formed = formed; small = (encoded.fits).0; saturated = saturated; probes = probes }

-- the sequent of the code is that of the encoded problem
pub started : (p : Problem) (e : Encoded) (s : Sequent) → IsEncoded p e → s ≡ start (form e.root) e.constants → s ≡ start (problem_root p).value (length p.existentials)
started p e s encoded is = is ∙ (λ i. start (encoded.root i) (encoded.constants i))

pub ready_code : (p : Problem) (x : Proof) (s : Sequent) (at v : List ℤ) → IsAsked p x at → IsWithinLevels 2000 x → s ≡ start (problem_root p).value (length p.existentials) → v ≡ at → IsWalkReady 2000 s x v
ready_code p x s at v a levels is same = subst (λ q. IsWalkReady 2000 q x v) (sym is) (subst (λ u. IsWalkReady 2000 (start (problem_root p).value (length p.existentials)) x u) (sym same) (ready_root p x at a levels))

module _ (p : Problem) (x : Proof) (s : Sequent) (at v : List ℤ) (is : s ≡ start (problem_root p).value (length p.existentials)) (same : v ≡ at) where
  there : {a b : Funds} (r : Result (Option Stop) StepFault) → DoesWork (walk s x v) a r b → DoesWork (walk (start (problem_root p).value (length p.existentials)) x at) a r b
  there {a} {b} r did = subst (λ w. DoesWork w a r b) (λ i. walk (is i) x (same i)) did

  pub walk_cut : {a b : Funds} {e : StepFault} (r : Result Counterexample StepFault) → DoesWork (walk s x v) a (Err e) b → IsErrAnd r (λ y. y ≡ e) → DoesWork (explaining p x at) a (explained_as r) b
  walk_cut {e = e} r did h = follow_err _ _ (explained_as r) (explained_err e r h) (there (Err e) did)

  stopped_there : {a b : Funds} (o : Option code.Stop) (stop : code.Stop) → o ≡ Some stop → DoesWork (walk s x v) a (stopped (Ok o)) b → DoesWork (walk (start (problem_root p).value (length p.existentials)) x at) a (Ok (Some (stop_of stop))) b
  stopped_there {a} {b} o stop some did = there (Ok (Some (stop_of stop))) (subst (λ (z : Option code.Stop). DoesWork (walk s x v) a (stopped (Ok z)) b) some did)

  pub stops_at : {a b : Funds} (o : Option code.Stop) (stop : code.Stop) → o ≡ Some stop → DoesWork (walk s x v) a (stopped (Ok o)) b → (walk (start (problem_root p).value (length p.existentials)) x at).value ≡ Some (stop_of stop)
  stops_at o stop some did = sym (followed_value (stopped_there o stop some did))

  pub walk_whole : {a b : Funds} (o : Option code.Stop) (stop : code.Stop) (r : Result Counterexample StepFault) → o ≡ Some stop → DoesWork (walk s x v) a (stopped (Ok o)) b → Worked (at_leaf p (stop_of stop)) (explained_as r)
      → DoesWork (explaining p x at) a (explained_as r) b
  walk_whole o stop r some did found = follow_ok _ _ (stopped_there o stop some did) (follow_free (explained_as r) found)

  pub many_values : {a b : Funds} (o : Option code.Stop) (stop : code.Stop) → IsAsked p x at → o ≡ Some stop → DoesWork (walk s x v) a (stopped (Ok o)) b → length p.existentials + length p.universals ≤ length stop.values
  many_values o stop a some did = many_there p x at (stop_of stop) a (stops_at o stop some did)

  -- there is a way to a leaf
  pub walk_ends : {a b : Funds} {A : Type 0} (o : Option code.Stop) → IsAsked p x at → o ≡ None → DoesWork (walk s x v) a (stopped (Ok o)) b → A
  walk_ends {a} {b} o k none did =
      let q : None ≡ (walk (start (problem_root p).value (length p.existentials)) x at).value = followed_value (there (Ok None) (subst (λ (z : Option code.Stop). DoesWork (walk s x v) a (stopped (Ok z)) b) none did)) in
      let e = ends_somewhere p x at k in
      absurd (let z : None ≡ Some (e.0) = q ∙ e.1 in cc)

  pub is_counterexample : {a b : Funds} (o : Option code.Stop) (stop : code.Stop) (r : Result Counterexample StepFault) → IsAsked p x at → o ≡ Some stop → DoesWork (walk s x v) a (stopped (Ok o)) b → Worked (at_leaf p (stop_of stop)) (explained_as r)
      → IfOk r (λ c. IsCounterexample p at (c.table, c.universals))
  unfolding next just
  is_counterexample o stop (Err e) a some did found = tt
  is_counterexample o stop (Ok c) a some did found =
      let there : Some (c.table, c.universals) ≡ Some (found_at p (stop_of stop)) = worked_value found in
      let same : (c.table, c.universals) ≡ found_at p (stop_of stop) = cc in
      subst (λ (q : Table × List ℤ). IsCounterexample p at q) (sym same) (found_there p x at (stop_of stop) a (stops_at o stop some did))
