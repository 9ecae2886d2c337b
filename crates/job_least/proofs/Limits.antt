-- A term that is read is within the limits.
use Rattle.std.proofs.Common.{◌≡◌, ◌<◌, ◌^◌, ℕ, true, List, nat_lt, arith}
use Rattle.std.proofs.lemmas.Bool.Decides.{nat_tests}
use Rattle.pri_reader.specs.declared.tree.Expr.{Expr}
use Rattle.pri_reader.specs.Reading.{file_setting}
use Rattle.pri_typing.specs.Limits.{IsShallow}
use Rattle.pri_typing.specs.Phrase.{phrase}
use Rattle.pri_typing.specs.Ranges.{IsRanged}
use Rattle.pri_typing.proofs.Ranged.{IsSmall, derived_ranged}
use Rattle.pri_typing.proofs.Shallow.{IsLimited, derived_shallow}
use Rattle.job_least.specs.Reads.{ReadsTerm}

below : (n m : ℕ) → nat_lt n m ≡ true → n < m
below n m h = grind (arith, nat_tests)

limited : (text : List ℕ) → IsLimited (file_setting text)
limited text = λ rest d h. below d 200 h

small : (text : List ℕ) → IsSmall (file_setting text)
small text = λ rest n h. below n (2 ^ 127) h

pub shallow : (text : List ℕ) (e : Expr) → ReadsTerm text e → IsShallow 0 (phrase e)
shallow text e u = derived_shallow (limited text) 0 (omega arith) u

pub ranged : (text : List ℕ) (e : Expr) → ReadsTerm text e → IsRanged (phrase e)
ranged text e u = derived_ranged (small text) u
