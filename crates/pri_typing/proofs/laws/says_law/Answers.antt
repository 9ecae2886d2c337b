use Rattle.std.proofs.lemmas.List.Elements.{recursion_from_All}
use Rattle.pri_tokens.specs.Bytes.{text_of}
use Rattle.std.proofs.Common.{◌≡◌}
use Rattle.pri_typing.proofs.Carried.{text_derived}
use Rattle.pri_typing.proofs.Least.{least-none}
use Rattle.pri_typing.proofs.Saying.{file_says}
use Rattle.pri_typing.proofs.laws.says_law.Goals as goal

pub returns-clause-derived : goal.returns-clause-derived
returns-clause-derived c = λ f p text e none typed. file_says f p text e (least-none _ none) typed

pub returns-clause-between : goal.returns-clause-between
returns-clause-between c = λ s f p e between rest text none typed is d tokens same.
    file_says f p text e (least-none _ none) typed is
    (text_derived s text e between rest d tokens (recursion_from_All (λ x. text_of text x ≡ text_of s.bytes x) between same))
