use Rattle.pri_typing.proofs.Answered.{file_proper}
use Rattle.pri_typing.proofs.Least.{least-none}
use Rattle.pri_typing.proofs.Formed.{names_differ}
use Rattle.pri_typing.proofs.Identified.{names_identified}
use Rattle.pri_typing.proofs.laws.well_formed_law.Goals as goal

pub returns-clause-well_formed : goal.returns-clause-well_formed
returns-clause-well_formed c = λ f p h none typed. (file_proper f p h none typed).formed

pub returns-clause-distinct : goal.returns-clause-distinct
returns-clause-distinct c = λ f p none typed. names_differ f p (least-none _ none) typed

pub returns-clause-identifiers : goal.returns-clause-identifiers
returns-clause-identifiers c = λ f p h typed. names_identified f p typed h.identifiers
