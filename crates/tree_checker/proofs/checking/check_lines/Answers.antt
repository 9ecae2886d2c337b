use Rattle.std.proofs.Common.{◌∷◌, ◌++◌, [], ap, sym, subst, arith}
use Rattle.formula.specs.Tree.{form}
use Rattle.proof_grammar.specs.declared.lines.TextLine.TheVariants as w
use Rattle.tree_checker.specs.declared.course.Course.{Course}
use Rattle.tree_checker.proofs.Ended.{checks_as}
use Rattle.tree_checker.proofs.Fitted.{shaped_levels, told_same}
use Rattle.tree_checker.proofs.checking.check_lines.Goals as goal

pub returns-clause-told : goal.returns-clause-told
returns-clause-told g c = λ x k levels coming.
    checks_as (form c.args.root.now) c.args.constants x k c.args.charges c.walk_proof-ended.result (c.walk_proof-ended.ensures x k levels coming) c.new-purse.ensures (ap (λ (z : Course). z.hand) c.new-course.ensures) c.answer.ensures

pub returns-clause-read : goal.returns-clause-read
returns-clause-read g c = λ x k shaped coming.
    returns-clause-told g c x k (shaped_levels 1 2000 x (omega arith) shaped) (subst (λ ls. g.L.ProofLines.coming c.args.lines.now (ls ++ w.End k ∷ [])) (sym (told_same 1 x shaped)) coming)
