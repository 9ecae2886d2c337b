use Rattle.pri_typing.proofs.CutConstants.{cut_alone}
use Rattle.pri_typing.proofs.Least.{least-none}
use Rattle.pri_typing.proofs.Sides.{sides_are, sides_contradict}
use Rattle.pri_typing.proofs.laws.cuts_law.Goals as goal

pub returns-clause-alone : goal.returns-clause-alone
returns-clause-alone c = λ f p none typed. cut_alone f p (least-none _ none) typed

pub returns-clause-sides : goal.returns-clause-sides
returns-clause-sides c = sides_are

pub returns-clause-contradict : goal.returns-clause-contradict
returns-clause-contradict c = sides_contradict
