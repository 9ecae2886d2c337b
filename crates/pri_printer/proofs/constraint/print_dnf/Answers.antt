use Rattle.std.proofs.Common.{◌≡◌, ℕ, List, ap, sym, subst, ◌∙◌, ◌++◌, [], length}
use Rattle.clause_set.specs.declared.literal.Literal.{Literal}
use Rattle.pri_typing.specs.Problems.{Says}
use Rattle.pri_printer.specs.Printed.{constants_of, dnf_formula, IsWithinLimits}
use Rattle.pri_printer.specs.Text.{normal_form_text}
use Rattle.pri_printer.proofs.Bridge.{dnf_printable}
use Rattle.pri_printer.proofs.Outer.{constants_true}
use Rattle.pri_printer.proofs.Plain.{printed_names}
use Rattle.pri_printer.proofs.Printing.{printed_says, printed_within}
use Rattle.pri_printer.proofs.constraint.print_dnf.Goals as goal

whole_text : (names : List (List ℕ)) (k l : List ℕ) (d e : List (List Literal)) (o x : List ℕ) → x ≡ o ++ normal_form_text names l e → o ≡ [] → l ≡ k → e ≡ d
    → normal_form_text names k d ≡ x
whole_text names k l d e o x h z p q =
    sym (h ∙ ap (λ v. v ++ normal_form_text names l e) z ∙ ap (λ v. normal_form_text names v e) p ∙ ap (normal_form_text names k) q)

pub returns-clause-text : goal.returns-clause-text
returns-clause-text c =
    sym (whole_text (constants_of c.args.p.now) _ _ c.args.d.now _ _ _ c.in_ok-put_normal_form.ensures c.new-out.ensures.items (c.deref.ensures.value ∙ c.in_ok-k.ensures) c.clauses-2.ensures)

pub returns-clause-says : goal.returns-clause-says
returns-clause-says c =
    subst (λ v. Says v c.args.p.now (dnf_formula c.args.p.now c.args.d.now))
    (whole_text (constants_of c.args.p.now) _ _ c.args.d.now _ _ _ c.in_ok-put_normal_form.ensures c.new-out.ensures.items (c.deref.ensures.value ∙ c.in_ok-k.ensures) c.clauses-2.ensures)
    (printed_says c.args.p.now c.args.d.now c.requires.well_formed c.requires.distinct c.requires.identifiers
    (dnf_printable (length (constants_of c.args.p.now)) c.args.d.now c.clauses.result.now c.clauses.ensures c.know_clauses.ensures c.requires.over))

pub returns-clause-limits : goal.returns-clause-limits
returns-clause-limits c =
    subst IsWithinLimits
    (whole_text (constants_of c.args.p.now) _ _ c.args.d.now _ _ _ c.in_ok-put_normal_form.ensures c.new-out.ensures.items (c.deref.ensures.value ∙ c.in_ok-k.ensures) c.clauses-2.ensures)
    (printed_within c.args.p.now c.args.d.now c.requires.well_formed c.requires.distinct c.requires.identifiers
    (dnf_printable (length (constants_of c.args.p.now)) c.args.d.now c.clauses.result.now c.clauses.ensures c.know_clauses.ensures c.requires.over))

pub returns-clause-truth : goal.returns-clause-truth
returns-clause-truth c = λ w e h. constants_true w c.args.p.now c.args.d.now e c.requires.over h

pub returns-clause-names : goal.returns-clause-names
returns-clause-names c = printed_names c.args.p.now c.args.d.now
