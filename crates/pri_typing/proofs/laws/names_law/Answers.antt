use Rattle.pri_typing.proofs.Least.{least-none}
use Rattle.pri_typing.proofs.Formed.{declarations_free}
use Rattle.pri_typing.proofs.Standing.{stands_same}
use Rattle.pri_typing.proofs.laws.names_law.Goals as goal

pub returns : goal.returns
returns c = record { same = λ f p text none typed. stands_same f p text (declarations_free f (least-none _ none)) typed }
