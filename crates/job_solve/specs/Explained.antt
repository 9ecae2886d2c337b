-- How a run that ends saturated is told: with a finite table and values at which the problem's formula is false, which a walk
-- through the tree of the run finds.
use Rattle.std.specs.Prelude.{◌≡◌, ◌⊎◌, ℤ, List, [], ◌++◌, codes, Option, Some, None}
use Rattle.linear_term.specs.declared.range.Place.{Place}
use Rattle.base_budget.specs.Trace.{Funds, At, at}
use Rattle.form_typed.specs.declared.world.Table.{Table}
use Rattle.proof_tree.specs.Proof.{Proof}
use Rattle.base_budget.specs.Ending.{Ending, ending, ends_with, out_of_steps, overflows}
use Rattle.pri_typing.specs.declared.problem.Problem.{Problem}
use Rattle.pri_printer.specs.Counterexample.{counterexample_text}
use Rattle.base_answers.specs.Answer.{Answer, line, says_line, unknown_answer}
use Rattle.countermodel.specs.Explaining.{explaining}
use Rattle.countermodel.specs.Probes.{probe_values}

-- how the walk through the tree x from these values of the existential constants ends, on a purse that stands so
abbrev pub explain_end : Problem → Proof → List ℤ → Funds → Ending (Option (Table × List ℤ))
explain_end p x e left = ending (explaining p x e) (at left [])

-- the answer that a problem is refuted, with these values of its existential constants, a table and values of its universal ones
abbrev pub refuted_answer : Problem → List ℤ → (Table × List ℤ) → Answer
refuted_answer p e c = record { status = 1; text = line (codes "INVALID") ++ counterexample_text p e c.1 c.0 }

-- some type of an existential constant has no value, or the walk comes to its end
abbrev pub IsWalked : Problem → Proof → Funds → Type 0
IsWalked p x left = (probe_values p.existential_types ≡ None)
    ⊎ ((e : List ℤ) × (c : Table × List ℤ) × (stands : At) × (probe_values p.existential_types ≡ Some e) × (explain_end p x e left ≡ ends_with (Some c) stands))

-- the budget ends in the walk
abbrev pub IsCutBySteps : Problem → Proof → Funds → Type 0
IsCutBySteps p x left = (e : List ℤ) × (stands : At) × (probe_values p.existential_types ≡ Some e) × (explain_end p x e left ≡ out_of_steps stands)

-- a number leaves the range in the walk
abbrev pub IsCutByRange : Problem → Proof → Funds → Type 0
IsCutByRange p x left = (e : List ℤ) × (numbers : List Place) × (stands : At) × (probe_values p.existential_types ≡ Some e) × (explain_end p x e left ≡ overflows numbers stands)

-- the answer to a problem whose run ended saturated with the tree x, and left the purse so
pub data AnswersSaturated (p : Problem) (x : Proof) (left : Funds) (answer : Answer) : Type 0 where
  nowhere : probe_values p.existential_types ≡ None → answer ≡ says_line 1 (codes "INVALID") → AnswersSaturated p x left answer
  explained : (e : List ℤ) (c : Table × List ℤ) (stands : At) → probe_values p.existential_types ≡ Some e → explain_end p x e left ≡ ends_with (Some c) stands
      → answer ≡ refuted_answer p e c → AnswersSaturated p x left answer
  short : IsCutBySteps p x left → answer ≡ unknown_answer (codes "steps") → AnswersSaturated p x left answer
  past : IsCutByRange p x left → answer ≡ unknown_answer (codes "overflow") → AnswersSaturated p x left answer
