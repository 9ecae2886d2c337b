use Rattle.proof_file.specs.Body.{body}
use Rattle.proof_file.specs.Coming.{Coming}
use Rattle.proof_file.proofs.Whole.{holds_tree}
use Rattle.proof_file.proofs.reading.read_tree.Goals as goal

pub returns-clause-found : goal.returns-clause-found
returns-clause-found c =
    let l = c.in_ok-lines.lines in
    let after = c.node.new.lines in
    holds_tree (body c.args.bytes.now) l.charges c.charges-charges.result l.parts l.walk l.rest.now (Coming after.parts after.walk after.rest.now) c.in_ok-root.root c.in_ok-conclusion.conclusion c.charges-charges.ensures c.in_ok-lines.ensures.found c.in_ok-root.ensures
    c.in_ok-conclusion.ensures
