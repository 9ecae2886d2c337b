use Rattle.base_budget.proofs.Following.{follow_memory}
use Rattle.base_budget.specs.declared.fault.StepFault.TheVariants.{Memory}
use Rattle.sequent.specs.Views.{sequent_of}
use Rattle.proof_tree.specs.Views.{proof_of}
use Rattle.countermodel.specs.Explaining.{explained_as}
use Rattle.countermodel.proofs.Told.{asked, explained_err, is_counterexample, many_values, ready_code, started, walk_cut, walk_ends, walk_whole}
use Rattle.countermodel.proofs.explaining.explain.Goals as goal

pub returns-in_err-s-clause-work : goal.returns-in_err-s-clause-work
returns-in_err-s-clause-work c = follow_memory (explained_as c.from_residual.result) (explained_err Memory c.from_residual.result c.from_residual.ensures.1)

pub returns-in_err-values-clause-work : goal.returns-in_err-values-clause-work
returns-in_err-values-clause-work c = follow_memory (explained_as c.from_residual-in_err-values.result) (explained_err Memory c.from_residual-in_err-values.result c.from_residual-in_err-values.ensures.1)

pub walk-requires-clause-ready : goal.walk-requires-clause-ready
walk-requires-clause-ready c =
    let x = proof_of c.args.t.now.root in
    let a = asked c.args.p.now c.args.e.now x c.args.at.now c.requires.formed c.requires.encoded c.requires.saturated c.requires.values in
    ready_code c.args.p.now x (sequent_of c.in_ok-s.s) c.args.at.now c.in_ok-values.values a c.requires.levels (started c.args.p.now c.args.e.now (sequent_of c.in_ok-s.s) c.requires.encoded c.in_ok-s.ensures) c.in_ok-values.ensures

pub returns-in_err-stop-clause-work : goal.returns-in_err-stop-clause-work
returns-in_err-stop-clause-work c =
    walk_cut c.args.p.now (proof_of c.args.t.now.root) (sequent_of c.in_ok-s.s) c.args.at.now c.in_ok-values.values (started c.args.p.now c.args.e.now (sequent_of c.in_ok-s.s) c.requires.encoded c.in_ok-s.ensures) c.in_ok-values.ensures
    c.from_residual-in_err-stop.result c.in_err-stop.ensures.work c.from_residual-in_err-stop.ensures.1

pub at_leaf-requires-clause-many : goal.at_leaf-requires-clause-many
at_leaf-requires-clause-many c =
    let x = proof_of c.args.t.now.root in
    let a = asked c.args.p.now c.args.e.now x c.args.at.now c.requires.formed c.requires.encoded c.requires.saturated c.requires.values in
    many_values c.args.p.now x (sequent_of c.in_ok-s.s) c.args.at.now c.in_ok-values.values (started c.args.p.now c.args.e.now (sequent_of c.in_ok-s.s) c.requires.encoded c.in_ok-s.ensures) c.in_ok-values.ensures
    c.in_ok-stop.field-0 c.in-Some.stop a c.in-Some.is c.in_ok-stop.ensures.work

pub returns-clause-work : goal.returns-clause-work
returns-clause-work c =
    walk_whole c.args.p.now (proof_of c.args.t.now.root) (sequent_of c.in_ok-s.s) c.args.at.now c.in_ok-values.values (started c.args.p.now c.args.e.now (sequent_of c.in_ok-s.s) c.requires.encoded c.in_ok-s.ensures) c.in_ok-values.ensures
    c.in_ok-stop.field-0 c.in-Some.stop c.at_leaf.result c.in-Some.is c.in_ok-stop.ensures.work c.at_leaf.ensures

pub returns-clause-is : goal.returns-clause-is
returns-clause-is c =
    let x = proof_of c.args.t.now.root in
    let a = asked c.args.p.now c.args.e.now x c.args.at.now c.requires.formed c.requires.encoded c.requires.saturated c.requires.values in
    is_counterexample c.args.p.now x (sequent_of c.in_ok-s.s) c.args.at.now c.in_ok-values.values (started c.args.p.now c.args.e.now (sequent_of c.in_ok-s.s) c.requires.encoded c.in_ok-s.ensures) c.in_ok-values.ensures
    c.in_ok-stop.field-0 c.in-Some.stop c.at_leaf.result a c.in-Some.is c.in_ok-stop.ensures.work c.at_leaf.ensures

pub unreachable-requires : goal.unreachable-requires
unreachable-requires c =
    let x = proof_of c.args.t.now.root in
    let a = asked c.args.p.now c.args.e.now x c.args.at.now c.requires.formed c.requires.encoded c.requires.saturated c.requires.values in
    walk_ends c.args.p.now x (sequent_of c.in_ok-s.s) c.args.at.now c.in_ok-values.values (started c.args.p.now c.args.e.now (sequent_of c.in_ok-s.s) c.requires.encoded c.in_ok-s.ensures) c.in_ok-values.ensures
    c.in_ok-stop.field-0 a c.in-None.is c.in_ok-stop.ensures.work
