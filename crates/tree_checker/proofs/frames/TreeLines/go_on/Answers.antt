use Rattle.std.proofs.Common.{◌∷◌, ◌++◌, [], ap, refl}
use Rattle.std.specs.Option.{option_copied}
use Rattle.std.specs.Prelude.{map}
use Rattle.proof_tree.specs.Proof.{proofs}
use Rattle.proof_tree.specs.Views.{proof_of}
use Rattle.proof_grammar.specs.declared.lines.TextLine.TheVariants as w
use Rattle.tree_checker.specs.Frames.{ends}
use Rattle.tree_checker.specs.Told.{told_all}
use Rattle.tree_checker.proofs.Dues.{none_left, premise_told}
use Rattle.tree_checker.proofs.frames.TreeLines.go_on.Goals as goal

pub returns-in_ok-push-in-Some-clause-told : goal.returns-in_ok-push-in-Some-clause-told
returns-in_ok-push-in-Some-clause-told c = λ k.
    let f = c.args.frame in
    premise_told c.in-Some.first.now c.in-Some.rest.now (option_copied f.log) f.gives.now f (record { rest = c.in-Some.rest; log = f.log; gives = f.gives }) c.behind_row.result c.args.self.now.outer c.push.new.self (w.End c.args.self.now.tree.now.conclusion ∷ []) c.row.result c.args.self.now.log.now k
    (ap (λ xs. told_all (proofs (map proof_of xs)) ++ ends (option_copied f.log) f.gives.now) c.in-Some.ensures.cases.0) refl c.in_ok-push-in-Some.ensures.ok (c.row.ensures c.args.self.now.log.now k) c.behind_row.ensures

pub returns-in-None-clause-told : goal.returns-in-None-clause-told
returns-in-None-clause-told c = rw (none_left c.args.frame.rest.now c.in-None.ensures.cases) c.end.ensures.told
