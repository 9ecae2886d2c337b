-- What the walk through the tree of a run that ends saturated finds: a counterexample.
use Rattle.std.specs.Prelude.{◌≡◌, ℕ, ℤ, List, ◌++◌, drop, length, take, Some}
use Rattle.std.specs.List.{AllByRecursion}
use Rattle.std.specs.List.Sorted.{IsStrictlySortedBy}
use Rattle.form_typed.specs.declared.world.Table.{Table}
use Rattle.form_typed.specs.Formula.{formula}
use Rattle.form_typed.specs.Sorts.{AreValuesOf}
use Rattle.form_typed.specs.Truth.{Truth}
use Rattle.proof_tree.specs.Proof.{Proof}
use Rattle.proof_tree.specs.Proves.{start}
use Rattle.pri_typing.specs.declared.problem.Problem.{Problem}
use Rattle.form_typed.specs.Table.{meaning_of}
use Rattle.pri_typing.specs.WellFormed.{HasArity}
use Rattle.form_encoding.specs.Problems.{problem_root}
use Rattle.model_trees.specs.Rows.{table_at, truth_cmp, value_cmp}
use Rattle.model_trees.specs.Walk.{Stop, walk}

-- A finite table and values of the universal constants, each of its constant's type. With the values e of the existential constants the
-- problem's formula is false there. Each row of the table is of a declared symbol, with as many arguments. The rows are sorted by symbol
-- and arguments, and no two have both in common.
pub record IsCounterexample (p : Problem) (e : List ℤ) (c : Table × List ℤ) : Type 0 where
  pub fit : length c.1 ≡ length p.universals
  pub typed : AreValuesOf p.universal_types c.1
  pub fails : ¬ (Truth (meaning_of c.0) (formula p.formula) (e ++ c.1))
  pub predicates : AllByRecursion (λ r. HasArity p.predicates r.id (length r.at)) c.0.truths
  pub functions : AllByRecursion (λ r. HasArity p.functions r.id (length r.at)) c.0.values
  pub truths_sorted : IsStrictlySortedBy truth_cmp c.0.truths
  pub values_sorted : IsStrictlySortedBy value_cmp c.0.values

-- the values of the k universal constants, after those of the m existential ones
abbrev pub universals_of : ℕ → ℕ → List ℤ → List ℤ
universals_of m k values = take k (drop m values)

-- the table of a leaf, and the walk's values of the universal constants of a problem
abbrev pub found_at : Problem → Stop → (Table × List ℤ)
found_at p stop = ((table_at stop).value, universals_of (length p.existentials) (length p.universals) stop.values)

-- the walk through the tree from the values e of the existential constants ends, and what it has found is a counterexample
pub record IsExplained (p : Problem) (x : Proof) (e : List ℤ) : Type 0 where
  pub stop : Stop
  pub is : (walk (start (problem_root p).value (length p.existentials)) x e).value ≡ Some stop
  pub shows : IsCounterexample p e (found_at p stop)
