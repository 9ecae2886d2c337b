-- What the clause search finds of the existential constants of a problem, judged.
use Rattle.std.specs.Prelude.{◌≡◌, ℕ, ℤ, List, [], length}
use Rattle.clause_file.specs.Verdicts.{HoldsClauseProof}
use Rattle.form_encoding.specs.Problems.{problem_root}
use Rattle.form_encoding.specs.Root.{all_last}
use Rattle.formula.specs.Duals.{dual}
use Rattle.formula.specs.Form.{Form}
use Rattle.job_seeking.specs.declared.searching.Sought.{Sought}
use Rattle.job_seeking.specs.declared.searching.Sought.TheVariants.{Values, Nowhere, Nothing}
use Rattle.pri_typing.specs.Problems.{IsPure, IsRefuted}
use Rattle.pri_typing.specs.declared.problem.Problem.{Problem}
use Rattle.proof_file.specs.Body.{body}

-- the file holds a clause proof of the problem at these values of its existential constants, and nothing else
pub record IsClauseFileAt (p : Problem) (vs : List ℤ) (file : List ℕ) : Type 0 where
  pub holds : HoldsClauseProof (problem_root p).value (length p.existentials) file vs
  pub own : body file ≡ file

-- the formula that says that the encoding of a problem is false at all integers
abbrev pub denial : Problem → Form
denial p = all_last (length p.existentials) (dual (problem_root p).value).value

-- the problem, which has neither predicates nor functions, is refuted, and a file holds a clause proof of its denial
pub record IsProvedNowhere (p : Problem) : Type 0 where
  pub pure : IsPure p
  pub refuted : IsRefuted p
  pub file : List ℕ
  pub proof : HoldsClauseProof (denial p) 0 file []

-- values come with a clause proof that the problem holds there
abbrev pub IsSought : Problem → Sought → Type 0
IsSought p (Values vs proof) = IsClauseFileAt p vs proof.items
IsSought p Nowhere = IsProvedNowhere p
IsSought p Nothing = Unit {0}
