use Rattle.std.proofs.Common.{◌∷◌, ◌++◌, []}
use Rattle.proof_tree.specs.Views.{proof_of}
use Rattle.proof_grammar.specs.declared.lines.TextLine.TheVariants as w
use Rattle.tree_checker.specs.Frames.{all_due}
use Rattle.tree_checker.proofs.Dues.{begun_told}
use Rattle.tree_checker.proofs.frames.TreeLines.begin.Goals as goal

pub returns-clause-told : goal.returns-clause-told
returns-clause-told c = λ log k.
    let t = c.args.self.now.tree.now in
    begun_told (proof_of t.root) c.behind_row.result c.row.result log k (all_due c.args.self.now.outer ++ w.End t.conclusion ∷ []) (c.row.ensures log k) c.behind_row.ensures
