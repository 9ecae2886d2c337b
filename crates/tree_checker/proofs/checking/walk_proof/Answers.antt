use Rattle.std.proofs.Common.{◌∷◌, [], arith}
use Rattle.formula.specs.Tree.{form}
use Rattle.proof_grammar.specs.declared.lines.TextLine.TheVariants as w
use Rattle.tree_checker.proofs.Ended.{proof_cut, proof_ended, proof_memory, proof_none}
use Rattle.tree_checker.proofs.Entered.{after_row}
use Rattle.tree_checker.proofs.checking.walk_proof.Goals as goal

pub returns-in_err-branch : goal.returns-in_err-branch
returns-in_err-branch g c = λ x k levels coming. proof_memory (form c.args.root.now) c.args.constants x k c.from_residual.result c.from_residual.ensures.1

pub returns-in_err-rule : goal.returns-in_err-rule
returns-in_err-rule g c = λ x k levels coming. proof_memory (form c.args.root.now) c.args.constants x k c.from_residual-in_err-rule.result c.from_residual-in_err-rule.ensures.1

pub returns-in_err-d-in-Some : goal.returns-in_err-d-in-Some
returns-in_err-d-in-Some g c = λ x k levels coming.
    let coming_in = g.L.ProofLines.coming in
    let walk =
    after_row (coming_in c.args.lines.now) (coming_in c.read_row.new.lines) (coming_in c.enter.new.lines) _ _ c.in-Some.rule c.in-Some.count 1999 c.in_ok-rule.field-0 c.in_ok-branch.ensures c.in-Some.is c.in_ok-rule.ensures c.in_err-d-in-Some.ensures.walk 2000 x
    (w.End k ∷ []) (omega arith) levels coming in
    proof_cut (form c.args.root.now) c.args.constants x k c.args.course.now c.from_residual-in_err-d-in-Some.result c.requires.first c.from_residual-in_err-d-in-Some.ensures.1 walk.0

pub returns-in-Some : goal.returns-in-Some
returns-in-Some g c = λ x k levels coming.
    let coming_in = g.L.ProofLines.coming in
    let walk =
    after_row (coming_in c.args.lines.now) (coming_in c.read_row.new.lines) (coming_in c.enter.new.lines) _ _ c.in-Some.rule c.in-Some.count 1999 c.in_ok-rule.field-0 c.in_ok-branch.ensures c.in-Some.is c.in_ok-rule.ensures c.in_ok-d-in-Some.ensures.walk 2000 x
    (w.End k ∷ []) (omega arith) levels coming in
    proof_none (form c.args.root.now) c.args.constants x k c.args.course.now c.requires.first (rw c.in-None-2.is at walk.0)

pub returns-in-Some-2 : goal.returns-in-Some-2
returns-in-Some-2 g c = λ x k levels coming.
    let coming_in = g.L.ProofLines.coming in
    let walk =
    after_row (coming_in c.args.lines.now) (coming_in c.read_row.new.lines) (coming_in c.enter.new.lines) _ _ c.in-Some.rule c.in-Some.count 1999 c.in_ok-rule.field-0 c.in_ok-branch.ensures c.in-Some.is c.in_ok-rule.ensures c.in_ok-d-in-Some.ensures.walk 2000 x
    (w.End k ∷ []) (omega arith) levels coming in
    let whole = rw c.in-Some-2.is at walk.0 in
    proof_ended (form c.args.root.now) c.args.constants x k c.args.course.now c.enter.new.course c.in-Some.rule c.in-Some-2.d c.end.result c.requires.first walk.1 whole (c.end.ensures k whole.behind.2)
