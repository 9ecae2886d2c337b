-- What the answers of `solve` mean.
use Rattle.std.specs.Prelude.{◌≡◌, ◌≢◌, ◌<◌, ℕ, ℤ, List, [], ◌++◌, length, take, codes, Some}
use Rattle.std.specs.List.{concat}
use Rattle.base_integers.specs.Entry.{entry}
use Rattle.form_typed.specs.Truth.{Meaning}
use Rattle.solve_laws.specs.Best.{IsNearer}
use Rattle.pri_typing.specs.declared.problem.Problem.{Problem}
use Rattle.pri_typing.specs.Problems.{Holds, IsPure, IsRefuted, IsTrueAt}
use Rattle.base_answers.specs.Answer.{Answer, line}
use Rattle.pri_problem.specs.Reads.{Reads}
use Rattle.pri_lines.specs.Meaning.{Supports}
use Rattle.itp_lines.specs.Meaning.{AreInterpolantLines}
use Rattle.form_typed.specs.declared.world.Table.{Table}
use Rattle.job_solve.specs.Explained.{refuted_answer}
use Rattle.job_solve.specs.Solved.{valid_answer}
use Rattle.countermodel.specs.Probes.{probe_values}
use Rattle.countermodel.specs.Explaining.{IsCounterexample}

-- the printed constraint x and values vs of a problem: at each value of the existential constants satisfying the constraint the
-- problem holds; the printed values satisfy it, and are the best that do: constant by constant, none that satisfy it and agree with
-- them before have a value nearer to 0; without predicates and functions the constraint is exact
pub record Constrains (w : Meaning) (p : Problem) (x : List ℕ) (vs : List ℤ) : Type 0 where
  pub supports : Supports w p x vs
  pub best : (e : List ℤ) → IsTrueAt w p supports.constraint e → (j : ℕ) → j < length p.existentials → take j e ≡ take j vs → ¬ (IsNearer (entry e j) (entry vs j))
  pub exact : IsPure p → (e : List ℤ) → Holds w p e → IsTrueAt w p supports.constraint e

-- the text says that the problem is valid: without existential constants it holds, and there are the lines of its `\interpolant`
-- blocks; else a constraint and values are printed, and there is no block
pub data IsValidText (w : Meaning) (p : Problem) (text : List ℕ) : Type 0 where
  closed : (lines : List (List ℕ)) → p.existentials ≡ [] → text ≡ line (codes "VALID") ++ concat lines → Holds w p [] → AreInterpolantLines w p lines → IsValidText w p text
  constrained : (x : List ℕ) (vs : List ℤ) → p.existentials ≢ [] → p.cuts ≡ [] → text ≡ (valid_answer p x vs).text → Constrains w p x vs → IsValidText w p text

-- the bytes read as a problem of which the text says that it is valid
pub record Validates (w : Meaning) (bytes : List ℕ) (text : List ℕ) : Type 0 where
  pub problem : Problem
  pub reads : Reads bytes problem
  pub valid : IsValidText w problem text

-- the text shows values of the existential constants, the nearest to 0 of their types, a finite table and values of the universal
-- constants at which the problem's formula is false
pub record Shows (p : Problem) (values : List ℤ) (text : List ℕ) : Type 0 where
  pub found : Table × List ℤ
  pub is : IsCounterexample p values found
  pub told : text ≡ (refuted_answer p values found).text

-- the bytes read as a problem that is refuted; where it has a predicate or a function, and each of its existential constants can
-- have a value, the text shows why
pub record Refutes (bytes : List ℕ) (text : List ℕ) : Type 0 where
  pub problem : Problem
  pub reads : Reads bytes problem
  pub refuted : IsRefuted problem
  pub shows : ¬ (IsPure problem) → (values : List ℤ) → probe_values problem.existential_types ≡ Some values → Shows problem values text

-- what an answer to a file of these bytes means
pub record Headline (w : Meaning) (bytes : List ℕ) (answer : Answer) : Type 0 where
  pub valid : answer.status ≡ 0 → Validates w bytes answer.text
  pub invalid : answer.status ≡ 1 → Refutes bytes answer.text
