-- Problems with cuts.
use Rattle.std.specs.Prelude.{◌≡◌, ◌↔◌, ◌≤◌, [], length, None}
use Rattle.pri_typing.specs.declared.problem.Problem.{Problem}
use Rattle.pri_typing.specs.Problems.{IsPure}

-- the problem has a first application exactly where it is not pure, and where it has cuts it has no existential constants
pub record IsCuttable (p : Problem) : Type 0 where
  pub pure : (p.first_application ≡ None) ↔ IsPure p
  pub alone : 1 ≤ length p.cuts → p.existentials ≡ []
