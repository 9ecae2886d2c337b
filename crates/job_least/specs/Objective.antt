-- The term whose least value is asked for.
use Rattle.std.specs.Prelude.{ℕ, List}
use Rattle.pri_reader.specs.declared.tree.Expr.{Expr}
use Rattle.form_typed.specs.Formula.{Expression}
use Rattle.pri_typing.specs.declared.problem.Problem.{Problem}
use Rattle.pri_typing.specs.Phrase.{phrase}
use Rattle.pri_typing.specs.Terms.{IsTermOf}
use Rattle.form_encoding.specs.Plain.{IsPlain}
use Rattle.job_least.specs.Reads.{ReadsTerm}

-- the text is one sum, with numerals below 2^127 and at most 200 levels; typing finds no fault in it as a term of the existential
-- constants alone; and that term, which is x, has no condition, absolute value, minimum or maximum
pub record IsObjective (p : Problem) (text : List ℕ) (x : Expression) : Type 0 where
  pub read : Expr
  pub reads : ReadsTerm text read
  pub typed : IsTermOf p.existentials (phrase read) x
  pub plain : IsPlain x

-- the text is no such term
abbrev pub IsNoObjective : Problem → List ℕ → Type 0
IsNoObjective p text = (x : Expression) → IsObjective p text x → ⊥
