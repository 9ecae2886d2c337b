-- What the walk through an open tree of an encoded problem says of the problem.
use Rattle.std.proofs.Common.{◌≡◌, ℕ, zero, suc, ℤ, false, List, [], ◌∷◌, ◌++◌, drop, take, length, refl, sym, ◌∙◌, ap, subst, length-append, arith}
use Rattle.form_typed.specs.Formula.{formula}
use Rattle.form_typed.specs.Sorts.{AreValuesOf}
use Rattle.form_typed.specs.Truth.{Meaning, Truth}
use Rattle.clause_set.specs.Literals.{dnf_truth}
use Rattle.formula.specs.Form.{is_pure}
use Rattle.formula.specs.Reduced.{HasReducedTerms}
use Rattle.proof_tree.specs.Proof.{Proof, given}
use Rattle.proof_tree.specs.Proves.{start}
use Rattle.pri_typing.specs.declared.problem.Problem.{Problem}
use Rattle.form_typed.specs.Table.{meaning_of}
use Rattle.pri_typing.specs.Problems.{IsRefuted, by_table}
use Rattle.pri_typing.specs.WellFormed.{IsWellFormed}
use Rattle.form_encoding.specs.Problems.{constants, problem_root}
use Rattle.form_encoding.proofs.Conditions.{values_length}
use Rattle.form_encoding.proofs.Problems.{over_constants_is}
use Rattle.model_trees.specs.Open.{IsOpenTree, IsSaturatedTree}
use Rattle.model_trees.specs.Rows.{table_at}
use Rattle.model_trees.proofs.Speaking.{stop_speaks, table_speaks}
use Rattle.model_trees.proofs.Tables.{table_sorted}
use Rattle.model_runs.specs.Refuting.{IsCounterexample, IsExplained, universals_of}
use Rattle.model_runs.specs.Vocabulary.{vocabulary}
use Rattle.model_runs.proofs.Declared.{root_speaks}
use Rattle.model_runs.proofs.Rooted.{problem_falsified}

front_dropped : (m : ℕ) (e r : List ℤ) → length e ≡ m → drop m (e ++ r) ≡ r
front_dropped zero [] r h = refl
front_dropped zero (x ∷ e) r h = absurd (omega (arith, h))
front_dropped (suc m) [] r h = absurd (omega (arith, h))
front_dropped (suc m) (x ∷ e) r h = front_dropped m e r (omega (arith, h))

front_taken : (k : ℕ) (u r : List ℤ) → length u ≡ k → take k (u ++ r) ≡ u
front_taken zero [] r h = refl
front_taken zero (x ∷ u) r h = absurd (omega (arith, h))
front_taken (suc k) [] r h = absurd (omega (arith, h))
front_taken (suc k) (x ∷ u) r h = ap (λ v. x ∷ v) (front_taken k u r (omega (arith, h)))

-- the values of the universal constants stand after those of the existential ones
found_is : (m k : ℕ) (e u r values : List ℤ) → length e ≡ m → length u ≡ k → values ≡ e ++ (u ++ r) → universals_of m k values ≡ u
found_is m k e u r values le lu is = ap (universals_of m k) is ∙ ap (take k) (front_dropped m e (u ++ r) le) ∙ front_taken k u r lu

-- the walk through an open tree of a problem's encoding, from values of the existential constants at which its constraint is false,
-- finds a table and values of the universal constants at which the problem's formula is false
pub explained : (p : Problem) (x : Proof) (e : List ℤ) → IsWellFormed p → HasReducedTerms (problem_root p).value → is_pure (problem_root p).value ≡ false → IsOpenTree (problem_root p).value (length p.existentials) x
    → length e ≡ length p.existentials → AreValuesOf p.existential_types e → dnf_truth (given x) e ≡ false → IsExplained p x e
explained p x e formed red app tree len typed bad =
    let f = problem_falsified p x e formed red app tree len typed bad in
    let k = length p.universals in
    let m = length p.existentials in
    let w : Meaning = meaning_of (table_at f.stop).value in
    let many : length f.found ≡ k = values_length p.universal_types f.found f.typed ∙ formed.universal_types.many in
    let is : universals_of m k (f.stop).values ≡ f.found = found_is m k e f.found f.more (f.stop).values len many f.values in
    let long : length (e ++ f.found) ≡ constants p = omega (arith, length-append e f.found, len, many) in
    let fails : ¬ (Truth w (formula p.formula) (e ++ f.found)) = λ t. f.fails ((over_constants_is w p (formula p.formula) (e ++ f.found) formed.products long).1 t) in
    let speaks = table_speaks (vocabulary p.predicates p.functions) f.stop
    (stop_speaks (vocabulary p.predicates p.functions) (start (problem_root p).value m) x e f.stop (root_speaks p formed, tt) f.is) in
    let shows : IsCounterexample p e ((table_at f.stop).value, f.found) = record {
      fit = many;
      typed = f.typed;
      fails = fails;
      predicates = speaks.truths;
      functions = speaks.values;
      truths_sorted = (table_sorted f.stop).0;
      values_sorted = (table_sorted f.stop).1;
    } in
    record { stop = f.stop; is = f.is; shows = subst (λ u. IsCounterexample p e ((table_at f.stop).value, u)) (sym is) shows }

-- a problem whose run ends saturated is refuted
pub refuted : (p : Problem) (x : Proof) → IsWellFormed p → HasReducedTerms (problem_root p).value → IsSaturatedTree (problem_root p).value (length p.existentials) x → IsRefuted p
refuted p x formed red s = λ e len typed.
    let i = explained p x e formed red s.application s.tree len typed (s.nowhere e len) in
    let c = i.shows in
    record { interpretation = by_table (table_at i.stop).value; universals = universals_of (length p.existentials) (length p.universals) (i.stop).values; fit = c.fit; typed = c.typed; fails = c.fails }
