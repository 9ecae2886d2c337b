-- What is said of two arguments.
use Rattle.form_typed.specs.Formula.{Formula}
use Rattle.smt_terms.specs.Translation.{Said, compared_said, equal_said, unequal_said}
use Rattle.smt_writing.specs.declared.pairing.Pairing.{Pairing}
use Rattle.smt_writing.specs.declared.pairing.Pairing.TheVariants as p

abbrev pub pair_said : Pairing → Said → Said → Formula
pair_said (p.Compared r) = compared_said r
pair_said p.Equal = equal_said
pair_said p.Unequal = unequal_said
