use Rattle.std.proofs.Common.{◌≡◌, ◌++◌, codes, drop, false, length, map}
use Rattle.std.specs.List.{concat}
use Rattle.pri_typing.specs.Everywhere.{AllEverywhere, TermsEverywhere}
use Rattle.itp_printer.specs.Pieces.{joint_text, printable, separated}
use Rattle.itp_printer.specs.Text.{grouped}
use Rattle.itp_printer.specs.TypedText.{formula_texts, term_texts}
use Rattle.form_typed.specs.Formula.{expressions_of, formulas_of}
use Rattle.itp_printer.proofs.+printing.Given as goal

abbrev pub invariant-formulas::put_only-loop-f : goal.invariant-formulas::put_only-loop-f
invariant-formulas::put_only-loop-f l = record {
  text : l.out.items ++ concat (formula_texts l.p l.depth (formulas_of (drop l.f-index l.formulas))) ≡ l.fn.out.items ++ concat (formula_texts l.p l.depth (formulas_of l.formulas));
  fit : AllEverywhere (printable l.p (length l.numbers)) l.depth (formulas_of (drop l.f-index l.formulas));
}

abbrev pub invariant-formulas::put_members-loop-f : goal.invariant-formulas::put_members-loop-f
invariant-formulas::put_members-loop-f l = record {
  text : l.out.items ++ separated (joint_text l.all) l.started (map grouped (formula_texts l.p l.depth (formulas_of (drop l.f-index l.formulas)))) ≡ l.fn.out.items ++ separated (joint_text l.all) false (map grouped (formula_texts l.p l.depth (formulas_of l.formulas)));
  fit : AllEverywhere (printable l.p (length l.numbers)) l.depth (formulas_of (drop l.f-index l.formulas));
}

abbrev pub invariant-terms::put_only_term-loop-t : goal.invariant-terms::put_only_term-loop-t
invariant-terms::put_only_term-loop-t l = record {
  text : l.out.items ++ concat (term_texts l.p l.depth (expressions_of (drop l.t-index l.terms))) ≡ l.fn.out.items ++ concat (term_texts l.p l.depth (expressions_of l.terms));
  fit : TermsEverywhere (printable l.p (length l.numbers)) l.depth (expressions_of (drop l.t-index l.terms));
}

abbrev pub invariant-terms::put_listed-loop-t : goal.invariant-terms::put_listed-loop-t
invariant-terms::put_listed-loop-t l = record {
  text : l.out.items ++ separated (codes ", ") l.started (term_texts l.p l.depth (expressions_of (drop l.t-index l.terms))) ≡ l.fn.out.items ++ separated (codes ", ") false (term_texts l.p l.depth (expressions_of l.terms));
  fit : TermsEverywhere (printable l.p (length l.numbers)) l.depth (expressions_of (drop l.t-index l.terms));
}

abbrev pub invariant-terms::put_addends-loop-t : goal.invariant-terms::put_addends-loop-t
invariant-terms::put_addends-loop-t l = record {
  text : l.out.items ++ separated (codes " + ") l.started (map grouped (term_texts l.p l.depth (expressions_of (drop l.t-index l.terms)))) ≡ l.fn.out.items ++ separated (codes " + ") false (map grouped (term_texts l.p l.depth (expressions_of l.terms)));
  fit : TermsEverywhere (printable l.p (length l.numbers)) l.depth (expressions_of (drop l.t-index l.terms));
}
