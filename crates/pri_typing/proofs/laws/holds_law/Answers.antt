use Rattle.pri_typing.proofs.Meanings.{holds_alone, holds_true, pure_holds, refuted_fails}
use Rattle.pri_typing.proofs.laws.holds_law.Goals as goal

pub returns-clause-alone : goal.returns-clause-alone
returns-clause-alone c = holds_alone

pub returns-clause-pure : goal.returns-clause-pure
returns-clause-pure c = pure_holds

pub returns-clause-refuted : goal.returns-clause-refuted
returns-clause-refuted c = refuted_fails

pub returns-clause-formula : goal.returns-clause-formula
returns-clause-formula c = holds_true
