use Rattle.std.proofs.Common.{sym, subst, IfErr, IfOk}
use Rattle.proof_tokens.specs.Reading.{Cuts}
use Rattle.proof_grammar.specs.declared.lines.Owed.TheVariants as o
use Rattle.proof_grammar.specs.Faults.{fault_of, RefusesLine}
use Rattle.proof_grammar.specs.Lines.{line_text}
use Rattle.proof_grammar.specs.Owed.{Pays, Shallow}
use Rattle.proof_grammar.proofs.Failing.{fails}
use Rattle.proof_grammar.proofs.LineKinds.{line_refused}
use Rattle.proof_grammar.proofs.text.line_for.Goals as goal

pub returns-in_err-charges_line-in-Charges-clause-first : goal.returns-in_err-charges_line-in-Charges-clause-first
returns-in_err-charges_line-in-Charges-clause-first c =
    let m = c.in-Charges.field-0 in let refusal = c.in_err-charges_line-in-Charges.field-0.0 in
    fails (fault_of refusal) c.from_residual-in_err-charges_line-in-Charges.result (RefusesLine c.args.owed c.args.text.now) c.from_residual-in_err-charges_line-in-Charges.ensures.1
    (subst (λ z. RefusesLine z c.args.text.now (fault_of refusal)) (sym c.in-Charges.is) (line_refused (o.Charges m) c.args.text.now refusal tt (c.in_err-charges_line-in-Charges.ensures.first m)))

pub returns-in_ok-charges_line-in-Charges-clause-found : goal.returns-in_ok-charges_line-in-Charges-clause-found
returns-in_ok-charges_line-in-Charges-clause-found c =
    let x = c.in_ok-charges_line-in-Charges.field-0 in
    subst (λ z. Pays Shallow z x.0 × Cuts (line_text x.0) c.args.text.now x.1.now) (sym c.in-Charges.is) (c.in_ok-charges_line-in-Charges.ensures.found c.in-Charges.field-0)

pub returns-in-Node-clause-found : goal.returns-in-Node-clause-found
returns-in-Node-clause-found c =
    subst (λ z. IfOk c.node_line.result (λ x. Pays Shallow z x.0 × Cuts (line_text x.0) c.args.text.now x.1.now)) (sym c.in-Node.is) (c.node_line.ensures.found c.in-Node.field-1)

pub returns-in-Node-clause-first : goal.returns-in-Node-clause-first
returns-in-Node-clause-first c = subst (λ z. IfErr c.node_line.result (RefusesLine z c.args.text.now)) (sym c.in-Node.is) (c.node_line.ensures.first c.in-Node.field-1)
