-- From the open tree of an encoded problem the walk is ready to start, and what it finds is a counterexample.
use Rattle.std.proofs.Common.{◌≡◌, ◌≤◌, ◌+◌, ℕ, zero, suc, ℤ, false, List, [], ◌∷◌, ◌++◌, take, drop, length, Option, Some, refl, sym, ◌∙◌, ap, subst, length-append, arith}
use Rattle.std.proofs.lemmas.List.Elements.{recursion_from_All}
use Rattle.form_typed.specs.Sorts.{AreValuesOf, IsSortRanged}
use Rattle.sequent.proofs.Forming.{start_formed}
use Rattle.tree_branch.proofs.Keeping.{start_within}
use Rattle.proof_tree.specs.Proof.{Proof}
use Rattle.proof_tree.specs.Proves.{start}
use Rattle.pri_typing.specs.declared.problem.Problem.{Problem}
use Rattle.pri_typing.specs.WellFormed.{IsWellFormed}
use Rattle.form_encoding.specs.Problems.{is_large, problem_root}
use Rattle.form_encoding.proofs.Conditions.{values_length}
use Rattle.form_encoding.proofs.Problems.{root_over}
use Rattle.pri_problem.proofs.Reduced.{problem_reduced}
use Rattle.pri_problem.proofs.Sizes.{within_limits}
use Rattle.model_trees.specs.Levels.{IsWithinLevels}
use Rattle.model_trees.specs.Open.{IsSaturatedTree}
use Rattle.model_trees.specs.Walk.{Stop, walk}
use Rattle.model_trees.proofs.Refuting.{walk_refutes}
use Rattle.countermodel.specs.Ready.{IsWalkReady}
use Rattle.model_runs.specs.Refuting.{IsCounterexample, IsExplained, found_at}
use Rattle.model_runs.proofs.Problems.{explained}
use Rattle.countermodel.specs.Probes.{probe_values}
use Rattle.countermodel.proofs.Nearest.{probes_are, probes_ranged, typed_probes}

-- the probe values, as a tree's walk takes them
pub record IsAsked (p : Problem) (x : Proof) (e : List ℤ) : Type 0 where
  pub formed : IsWellFormed p
  pub small : is_large (problem_root p).value ≡ false
  pub saturated : IsSaturatedTree (problem_root p).value (length p.existentials) x
  pub probes : probe_values p.existential_types ≡ Some e

typed_asked : (p : Problem) (x : Proof) (e : List ℤ) → IsAsked p x e → AreValuesOf p.existential_types e
typed_asked p x e a = typed_probes p.existential_types e a.probes

many_asked : (p : Problem) (x : Proof) (e : List ℤ) → IsAsked p x e → length e ≡ length p.existentials
many_asked p x e a = values_length p.existential_types e (typed_asked p x e a) ∙ a.formed.existential_types.many

-- the walk is ready at the root
pub ready_root : (p : Problem) (x : Proof) (e : List ℤ) → IsAsked p x e → IsWithinLevels 2000 x → IsWalkReady 2000 (start (problem_root p).value (length p.existentials)) x e
ready_root p x e a levels =
    let f = (problem_root p).value in
    let n = length p.existentials in
    let few : n ≤ 1000 = (let all = a.formed.few in omega (arith, all)) in
    record {
      within = start_within f n (root_over p a.formed) ((within_limits f a.small).0) ((within_limits f a.small).1) few;
      reduced = (problem_reduced p, tt);
      levels = levels;
      gives = ((a.saturated).tree).gives;
      values = probes_ranged p.existential_types e (recursion_from_All IsSortRanged p.existential_types (a.formed.existential_types).ranged) (probes_are p.existential_types e a.probes);
      many = many_asked p x e a;
    }

explained_asked : (p : Problem) (x : Proof) (e : List ℤ) → IsAsked p x e → IsExplained p x e
explained_asked p x e a =
    let len = many_asked p x e a in
    explained p x e a.formed (problem_reduced p) (a.saturated).application (a.saturated).tree len (typed_asked p x e a) ((a.saturated).nowhere e len)

same_stop : (o : Option Stop) (a b : Stop) → o ≡ Some a → o ≡ Some b → a ≡ b
same_stop o a b h k = let z : Some a ≡ Some b = sym h ∙ k in cc

-- where the walk ends, there is a counterexample
pub found_there : (p : Problem) (x : Proof) (e : List ℤ) (stop : Stop) → IsAsked p x e → (walk (start (problem_root p).value (length p.existentials)) x e).value ≡ Some stop → IsCounterexample p e (found_at p stop)
found_there p x e stop a is =
    let i = explained_asked p x e a in
    subst (λ (s : Stop). IsCounterexample p e (found_at p s)) (same_stop _ i.stop stop i.is is) i.shows

-- it ends somewhere
pub ends_somewhere : (p : Problem) (x : Proof) (e : List ℤ) → IsAsked p x e → (stop : Stop) × ((walk (start (problem_root p).value (length p.existentials)) x e).value ≡ Some stop)
ends_somewhere p x e a = let i = explained_asked p x e a in (i.stop, i.is)

enough : (m k : ℕ) (e more values : List ℤ) → length e ≡ m → values ≡ e ++ more → length (take k (drop m values)) ≡ k → m + k ≤ length values
enough m k e more values len is fit =
    let whole : length values ≡ m + length more = ap length is ∙ length-append e more ∙ ap (λ n. n + length more) len in
    let left : k ≤ length (drop m values) = taken k (drop m values) fit in
    let rest : length (drop m values) ≡ length more = ap (λ vs. length (drop m vs)) is ∙ dropped m e len in
    omega (arith, whole, left, rest)
  where
    taken : (k : ℕ) (xs : List ℤ) → length (take k xs) ≡ k → k ≤ length xs
    taken zero xs h = omega arith
    taken (suc k) [] h = absurd (omega (arith, h))
    taken (suc k) (x ∷ xs) h = let t = taken k xs (omega (arith, h)) in omega (arith, t)

    dropped : (m : ℕ) (e : List ℤ) → length e ≡ m → length (drop m (e ++ more)) ≡ length more
    dropped zero [] h = refl
    dropped zero (x ∷ e) h = absurd (omega (arith, h))
    dropped (suc m) [] h = absurd (omega (arith, h))
    dropped (suc m) (x ∷ e) h = dropped m e (omega (arith, h))

-- with values of all constants
pub many_there : (p : Problem) (x : Proof) (e : List ℤ) (stop : Stop) → IsAsked p x e → (walk (start (problem_root p).value (length p.existentials)) x e).value ≡ Some stop → length p.existentials + length p.universals ≤ length stop.values
many_there p x e stop a is =
    let s = start (problem_root p).value (length p.existentials) in
    let len = many_asked p x e a in
    let r = walk_refutes s x e (start_formed (problem_root p).value (length p.existentials) (root_over p a.formed)) (problem_reduced p, tt) ((a.saturated).tree).gives ((a.saturated).tree).is len ((a.saturated).nowhere e len) in
    let same : r.stop ≡ stop = same_stop _ r.stop stop r.is is in
    enough (length p.existentials) (length p.universals) e r.more stop.values len (sym (ap (λ (z : Stop). z.values) same) ∙ r.values) (found_there p x e stop a is).fit
