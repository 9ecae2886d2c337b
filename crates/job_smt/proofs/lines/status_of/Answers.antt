use Rattle.std.proofs.Common.{◌≡◌, List, [], ◌∷◌, length, refl, arith}
use Rattle.job_smt.specs.declared.models.Checked.{Checked}
use Rattle.job_smt.proofs.Telling.{raised_end}
use Rattle.job_smt.proofs.lines.status_of.Goals as goal

empty : (xs : List Checked) → length xs ≡ 0 → xs ≡ []
empty [] h = refl
empty (x ∷ xs) h = absurd (omega (arith, h))

pub returns : goal.returns
returns c = raised_end c.loop-answer.status c.loop-answer.rest.now c.args.answers.now (empty c.loop-answer.rest.now c.in_default.ensures.cases) c.loop-answer.invariant
