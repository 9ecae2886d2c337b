-- Values of the universal constants at which the formula of a problem is false.
use Rattle.std.specs.Prelude.{◌≡◌, ℕ, ℤ, List, [], None}
use Rattle.base_budget.specs.Ending.{ends_with}
use Rattle.base_budget.specs.Trace.{At}
use Rattle.form_typed.specs.Formula.{formula, negation}
use Rattle.model_runs.specs.Ends.{run_end}
use Rattle.model_table.specs.declared.model.Model.{Model}
use Rattle.pri_problem.specs.Encoded.{Fits}
use Rattle.pri_typing.specs.declared.problem.Problem.{Problem}
use Rattle.proof_tree.specs.Proof.{Proof}
use Rattle.search.specs.Run as run

-- the negation of a problem: its existential constants are the universal ones of the other, and its formula is the negation of the other's
pub record IsDenied (p q : Problem) : Type 0 where
  pub existentials : q.existentials ≡ p.universals
  pub existential_types : q.existential_types ≡ p.universal_types
  pub universals : q.universals ≡ []
  pub universal_types : q.universal_types ≡ []
  pub functions : q.functions ≡ p.functions
  pub predicates : q.predicates ≡ p.predicates
  pub parts : q.parts ≡ p.parts
  pub denies : formula q.formula ≡ negation (formula p.formula)
  pub cuts : q.cuts ≡ []
  pub first_application : q.first_application ≡ None

-- the canonical run on an encoded problem ends valid with these values of its existential constants
pub record EndsValid (budget : ℕ) (p : Problem) (vs : List ℤ) : Type 0 where
  pub tree : Proof
  pub stands : At
  pub ends : run_end budget p ≡ ends_with (run.valid vs tree) stands

-- the values of the universal constants with which the canonical run of the negated problem ends valid
pub record AreFalseValues (budget : ℕ) (p : Problem) (vs : List ℤ) : Type 0 where
  pub other : Problem
  pub is : IsDenied p other
  pub fits : Fits other
  pub found : EndsValid budget other vs

-- the model that says nothing of any symbol
abbrev pub no_model : Model
no_model = record { functions = []; predicates = [] }
