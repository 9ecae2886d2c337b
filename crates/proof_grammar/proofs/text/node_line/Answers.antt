use Rattle.std.proofs.Common.{refl, arith}
use Rattle.proof_grammar.specs.declared.lines.Owed.TheVariants as o
use Rattle.proof_grammar.specs.Faults.{fault_of, RefusesLine}
use Rattle.proof_grammar.proofs.Failing.{fails}
use Rattle.proof_grammar.proofs.LineKinds.{line_refused, no_node, row_owed}
use Rattle.proof_grammar.proofs.RowLines.{begins_node}
use Rattle.proof_grammar.proofs.text.node_line.Goals as goal

pub returns-in_err-_word-clause-first : goal.returns-in_err-_word-clause-first
returns-in_err-_word-clause-first c = λ parts.
    fails (fault_of c.in_err-_word.field-0.0) c.from_residual.result (RefusesLine (o.Node c.args.level parts) c.args.text.now) c.from_residual.ensures.1 (no_node c.args.level parts c.args.text.now c.in_err-_word.field-0.0 c.in_err-_word.ensures.lacks)

pub returns-then-level-gt-BRANCH_LIMIT-clause-first : goal.returns-then-level-gt-BRANCH_LIMIT-clause-first
returns-then-level-gt-BRANCH_LIMIT-clause-first c = λ parts. ((c.if-level-gt-BRANCH_LIMIT.true, begins_node c.in_ok-_word._word c.args.text.now c.in_ok-_word._rest.now c.in_ok-_word.ensures.found), refl)

pub returns-in_err-rule-clause-first : goal.returns-in_err-rule-clause-first
returns-in_err-rule-clause-first c = λ parts.
    fails (fault_of c.in_err-rule.field-0.0) c.from_residual-in_err-rule.result (RefusesLine (o.Node c.args.level parts) c.args.text.now) c.from_residual-in_err-rule.ensures.1
    (line_refused (o.Node c.args.level parts) c.args.text.now c.in_err-rule.field-0.0 (λ b. let h = c.if-level-gt-BRANCH_LIMIT.false in omega arith) (row_owed c.args.level parts c.args.text.now c.in_err-rule.field-0.0 c.in_err-rule.ensures.first))
