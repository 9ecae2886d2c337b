-- The text of a formula says its plain form.
use Rattle.std.proofs.Common.{arith}
use Rattle.std.proofs.lemmas.List.Elements.{recursion_from_All}
use Rattle.pri_tokens.specs.Written.{IsIdentifier}
use Rattle.form_typed.specs.Formula.{formula}
use Rattle.form_typed.specs.declared.typed.Typed.{Typed}
use Rattle.pri_typing.specs.declared.problem.Problem.{Problem}
use Rattle.pri_typing.specs.Problems.{Says}
use Rattle.pri_typing.specs.WellFormed.{IsWellFormed, HasDistinctNames, HasIdentifiers, names_of_symbols}
use Rattle.pri_printer.proofs.Named.{once_of}
use Rattle.pri_printer.proofs.Whole.{says_by}
use Rattle.itp_printer.specs.TypedText.{formula_text}
use Rattle.itp_printer.specs.Plain.{plain}
use Rattle.itp_printer.specs.Replaced.{with_formula}
use Rattle.itp_printer.proofs.Referring.{CanSay}
use Rattle.itp_printer.proofs.Sayable.{IsNested, few_names, sayable_by}
use Rattle.itp_printer.proofs.Saying.{formula_said}

pub typed_says : (p : Problem) (f : Typed) → IsWellFormed (with_formula p f) → HasDistinctNames p → HasIdentifiers p → IsNested (formula f)
    → Says (formula_text p 0 (formula f)) p (plain (formula f))
typed_says p f good once are nested =
    let can : CanSay p = record { few = few_names p good.few; once = once_of (names_of_symbols p) once; identifiers = recursion_from_All IsIdentifier (names_of_symbols p) are } in
    let h = formula_said p can 0 (omega arith) (formula f) (sayable_by p f good nested) in
    says_by h.levels p (plain (formula f)) (formula_text p 0 (formula f)) h.spells
