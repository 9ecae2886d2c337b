-- A run that ends saturated refutes its problem, and the walk through its tree finds a counterexample.
use Rattle.std.proofs.Common.{◌≡◌, ℕ, ℤ, List, length, Option, Some, sym, ◌∙◌, ap, subst}
use Rattle.base_budget.specs.declared.log.Entry.{Entry}
use Rattle.base_budget.specs.Trace.{At, Traced, just, next}
use Rattle.form_typed.specs.declared.world.Table.{Table}
use Rattle.formula.specs.Form.{Form, IsFormOver}
use Rattle.proof_tree.specs.Proof.{Proof}
use Rattle.proof_tree.specs.Proves.{start}
use Rattle.proof_tree.specs.Walk.{on_some}
use Rattle.proof_tree.proofs.Walking.{some_then, value-on_some}
use Rattle.search.specs.Run as run
use Rattle.base_budget.specs.Ending.{ends_with}
use Rattle.form_encoding.specs.Problems.{problem_root}
use Rattle.form_encoding.proofs.Conditions.{values_length}
use Rattle.pri_typing.specs.declared.problem.Problem.{Problem}
use Rattle.pri_typing.specs.Problems.{IsRefuted}
use Rattle.pri_typing.specs.WellFormed.{IsWellFormed}
use Rattle.pri_problem.specs.Reads.{AreSame}
use Rattle.pri_problem.proofs.Encoded.{root_same}
use Rattle.pri_problem.proofs.Reduced.{problem_reduced}
use Rattle.model_trees.specs.Levels.{IsWithinLevels}
use Rattle.model_trees.specs.Open.{IsSaturatedTree}
use Rattle.model_trees.specs.Rows.{table_at}
use Rattle.model_trees.specs.Walk.{Stop, walk}
use Rattle.countermodel.proofs.Saturated.{explained, refuted, saturated_says}
use Rattle.countermodel.specs.Explaining.{IsCounterexample, at_leaf, explaining, found_at, universals_of}
use Rattle.countermodel.specs.Probes.{probe_values}
use Rattle.countermodel.proofs.Nearest.{typed_probes}
use Rattle.job_solve.specs.Solved.{run_end}

-- the tree of such a run is open, and how many levels it has
ended_so : (budget : ℕ) (p : Problem) → IsFormOver (length p.existentials) (problem_root p).value → (log : List Entry) (x : Proof) (stands : At) → run_end budget p ≡ ends_with (run.saturated log x) stands
    → IsSaturatedTree (problem_root p).value (length p.existentials) x × IsWithinLevels 2000 x
ended_so budget p over log x stands is = saturated_says (problem_root p).value (length p.existentials) (record { budget = budget; spent = 0 }) log x stands over (problem_reduced p) is

pub saturated_is : (budget : ℕ) (p : Problem) → IsFormOver (length p.existentials) (problem_root p).value → (log : List Entry) (x : Proof) (stands : At) → run_end budget p ≡ ends_with (run.saturated log x) stands
    → IsSaturatedTree (problem_root p).value (length p.existentials) x
saturated_is budget p over log x stands is = (ended_so budget p over log x stands is).0

pub levels_are : (budget : ℕ) (p : Problem) → IsFormOver (length p.existentials) (problem_root p).value → (log : List Entry) (x : Proof) (stands : At) → run_end budget p ≡ ends_with (run.saturated log x) stands → IsWithinLevels 2000 x
levels_are budget p over log x stands is = (ended_so budget p over log x stands is).1

pub refuted_is : (p : Problem) (x : Proof) → IsWellFormed p → IsSaturatedTree (problem_root p).value (length p.existentials) x → IsRefuted p
refuted_is p x formed h = refuted p x formed (problem_reduced p) h

-- what is found is what there is at the leaf where the walk ends
found_is : (p : Problem) (x : Proof) (e : List ℤ) (c : Table × List ℤ) → (explaining p x e).value ≡ Some c
    → (stop : Stop) × ((walk (start (problem_root p).value (length p.existentials)) x e).value ≡ Some stop) × (found_at p stop ≡ c)
unfolding next just
found_is p x e c is =
    let w = walk (start (problem_root p).value (length p.existentials)) x e in
    let g = some_then w.value _ c (sym (value-on_some (at_leaf p) w.value) ∙ is) in
    (g.0, g.1, (let z : Some (found_at p g.0) ≡ Some c = g.2 in cc))

pub explained_is : (p : Problem) (x : Proof) (e : List ℤ) (c : Table × List ℤ) → IsWellFormed p → IsSaturatedTree (problem_root p).value (length p.existentials) x → probe_values p.existential_types ≡ Some e → (explaining p x e).value ≡ Some c
    → IsCounterexample p e c
explained_is p x e c formed h probe is =
    let typed = typed_probes p.existential_types e probe in
    let many : length e ≡ length p.existentials = values_length p.existential_types e typed ∙ formed.existential_types.many in
    let i = explained p x e formed (problem_reduced p) h.application h.tree many typed (h.nowhere e many) in
    let g = found_is p x e c is in
    let same : i.stop ≡ g.0 = (let z : Some i.stop ≡ Some g.0 = sym i.is ∙ g.1 in cc) in
    subst (IsCounterexample p e) (ap (found_at p) same ∙ g.2) i.shows

pub probe_length : (p : Problem) (e : List ℤ) → IsWellFormed p → probe_values p.existential_types ≡ Some e → length e ≡ length p.existentials
probe_length p e formed probe = values_length p.existential_types e (typed_probes p.existential_types e probe) ∙ formed.existential_types.many

pub explaining_same : (p q : Problem) (x : Proof) (e : List ℤ) → AreSame p q → explaining p x e ≡ explaining q x e
explaining_same p q x e same =
    let at_stop : ℕ → ℕ → Stop → Table × List ℤ = λ m k stop. ((table_at stop).value, universals_of m k stop.values) in
    let work : Form → ℕ → ℕ → Traced (Option (Table × List ℤ)) = λ f m k. next (walk (start f m) x e) (on_some (λ stop. next (table_at stop) (λ t. just (Some (at_stop m k stop))))) in
    ap (λ w. work w.value (length p.existentials) (length p.universals)) (root_same p q same)
    ∙ ap (λ names. work (problem_root q).value (length names) (length p.universals)) same.existentials
    ∙ ap (λ names. work (problem_root q).value (length q.existentials) (length names)) same.universals
