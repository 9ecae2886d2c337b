use Rattle.std.proofs.Common.{sym, subst}
use Rattle.formula.proofs.Shifts.{shifted_is}
use Rattle.formula.proofs.Overs.{form_over}
use Rattle.formula.proofs.Sameness.{pure_shifted}
use Rattle.formula.proofs.laws.shift_law.Goals as goal

pub returns-clause-truth : goal.returns-clause-truth
returns-clause-truth c = λ w a mid b f. (subst (λ (P : Type 0). P) (shifted_is w a mid b f), subst (λ (P : Type 0). P) (sym (shifted_is w a mid b f)))

pub returns-clause-over : goal.returns-clause-over
returns-clause-over c = form_over

pub returns-clause-pure : goal.returns-clause-pure
returns-clause-pure c = pure_shifted
