use Rattle.std.proofs.Common.{◌++◌, length, ap, sym, subst, ◌∙◌, arith}
use Rattle.form_typed.specs.Formula.{formula}
use Rattle.pri_typing.specs.Everywhere.{Everywhere}
use Rattle.pri_typing.specs.Problems.{Says}
use Rattle.itp_printer.specs.Numbers.{AreNumbers}
use Rattle.itp_printer.specs.Pieces.{printable}
use Rattle.itp_printer.specs.Plain.{plain}
use Rattle.itp_printer.specs.TypedText.{formula_text}
use Rattle.itp_printer.proofs.Fitting.{few_constants, nested_by, printable_by}
use Rattle.itp_printer.proofs.Whole.{typed_says}
use Rattle.itp_printer.proofs.printing.print_typed.Goals as goal

pub put_formula-requires-clause-few : goal.put_formula-requires-clause-few
put_formula-requires-clause-few c = few_constants c.args.p.now c.args.f.now c.requires.well_formed

pub put_formula-requires-clause-numbers : goal.put_formula-requires-clause-numbers
put_formula-requires-clause-numbers c = subst (AreNumbers c.args.p.now) (sym c.as_slice.ensures.value) c.in_ok-numbers.ensures.numbers

pub put_formula-requires-clause-fit : goal.put_formula-requires-clause-fit
put_formula-requires-clause-fit c =
    subst (λ n. Everywhere (printable c.args.p.now n) 0 (formula c.args.f.now)) (sym (ap length c.as_slice.ensures.value ∙ c.in_ok-numbers.ensures.many))
    (printable_by c.args.p.now c.args.f.now c.in_ok-k.k c.requires.well_formed c.in_ok-k.ensures)

pub returns-clause-text : goal.returns-clause-text
returns-clause-text c = c.in_ok-put_formula.ensures ∙ ap (λ z. z ++ formula_text c.args.p.now 0 (formula c.args.f.now)) c.new-out.ensures.items

pub returns-clause-says : goal.returns-clause-says
returns-clause-says c =
    subst (λ v. Says v c.args.p.now (plain (formula c.args.f.now))) (sym (c.in_ok-put_formula.ensures ∙ ap (λ z. z ++ formula_text c.args.p.now 0 (formula c.args.f.now)) c.new-out.ensures.items))
    (typed_says c.args.p.now c.args.f.now c.requires.well_formed c.requires.distinct c.requires.identifiers (nested_by c.in_ok-k.k c.args.f.now (omega arith) c.in_ok-k.ensures))
