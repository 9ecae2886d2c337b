use Rattle.formula.specs.Tree.{form}
use Rattle.proof_file.specs.Body.{body}
use Rattle.tree_checker.proofs.Held.{file_refused, held_charges}
use Rattle.tree_checker.proofs.text.check_text.Goals as goal

pub check_held-requires-clause-charges : goal.check_held-requires-clause-charges
check_held-requires-clause-charges c = held_charges (body c.args.bytes.now) _ _ _ _ c.in-Ok.ensures.found

pub returns-in-Ok : goal.returns-in-Ok
returns-in-Ok c = c.check_held.ensures c.args.bytes.now c.in-Ok.ensures.found

pub returns-in-Err : goal.returns-in-Err
returns-in-Err c = file_refused (form c.args.root.now) c.args.constants c.args.bytes.now c.in-Err.refusal _ c.refused.ensures c.in-Err.ensures.refused
