use Rattle.std.proofs.Common.{refl, subst}
use Rattle.job_clauses.specs.Judged.{IsJudged}
use Rattle.job_smt.specs.Answers.{proved, refuted}
use Rattle.job_smt.proofs.checking.found_answer.Goals as goal

pub returns-in-Proof : goal.returns-in-Proof
returns-in-Proof c = λ budget p fits early judged. proved fits early c.in-Proof.field-0.items (subst (IsJudged p) c.in-Proof.is judged) refl

pub returns-in-Refuted : goal.returns-in-Refuted
returns-in-Refuted c = λ budget p fits early judged. refuted fits early c.in-Refuted.model c.in-Refuted.universals.items (subst (IsJudged p) c.in-Refuted.is judged) refl
