use Rattle.std.proofs.Common.{ℕ, List, length, ap, subst}
use Rattle.formula.specs.Form.{IsFormOver}
use Rattle.pri_typing.specs.declared.problem.Problem.{Problem}
use Rattle.form_encoding.specs.Problems.{problem_root}
use Rattle.function_encoding.specs.declared.answer.Encoded.{Encoded}
use Rattle.pri_problem.specs.Encoded.{IsEncoded}
use Rattle.base_answers.specs.Answer.{Answer}
use Rattle.job_elim.specs.Eliminated.{made}
use Rattle.job_elim.proofs.Meaning.{made_over}
use Rattle.job_elim.proofs.Telling.{made_value, ends_made, ends_out_of_steps, ends_out_of_range, steps_so, overflow_so}
use Rattle.job_elim.proofs.eliminating.elimination_answer.Goals as goal

own_over : (p : Problem) (e : Encoded) → IsEncoded p e → IsFormOver (length p.existentials) (problem_root p).value
own_over p e h = subst (IsFormOver (length p.existentials)) h.root h.over

-- the answer with this text
abbrev made_with : List ℕ → Answer
made_with text = record { status = 0; text = text }

pub constraint_line-requires-clause-over : goal.constraint_line-requires-clause-over
constraint_line-requires-clause-over g c =
    made_over c.args.problem.now (own_over c.args.problem.now c.args.encoded.now c.requires.encoded) _ c.requires.pure (made_value c.args.budget c.args.problem.now c.args.encoded.now c.requires.encoded c.in-Ok.constraint c.in-Ok._log _ _ c.new-purse.ensures c.in-Ok.ensures.charged)

pub returns-in_ok-text-in-Ok : goal.returns-in_ok-text-in-Ok
returns-in_ok-text-in-Ok g c =
    made c.in-Ok.constraint _ c.in_ok-text-in-Ok.ensures.x (ends_made c.args.budget c.args.problem.now c.args.encoded.now c.requires.encoded c.in-Ok.constraint c.in-Ok._log _ _ c.new-purse.ensures c.in-Ok.ensures.charged)
    c.in_ok-text-in-Ok.ensures.printed (ap made_with c.in_ok-text-in-Ok.ensures.line)

pub returns-in-Err-Steps : goal.returns-in-Err-Steps
returns-in-Err-Steps g c =
    steps_so c.args.problem.now _ _ (ends_out_of_steps c.args.budget c.args.problem.now c.args.encoded.now c.requires.encoded c.in-Err-Steps._log _ _ c.new-purse.ensures
    (rw c.in-Err-Steps.field-0-is at c.in-Err-Steps.ensures.charged)) _ c.unknown.ensures

pub returns-in-Err-Overflow : goal.returns-in-Err-Overflow
returns-in-Err-Overflow g c =
    overflow_so c.args.problem.now _ _ (ends_out_of_range c.args.budget c.args.problem.now c.args.encoded.now c.requires.encoded c.in-Err-Overflow._log c.in-Err-Overflow._place _ _ c.new-purse.ensures
    (rw c.in-Err-Overflow.field-0-is at c.in-Err-Overflow.ensures.charged)) _ c.unknown-in-Err-Overflow.ensures
