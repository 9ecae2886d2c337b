use Rattle.std.proofs.Common.{◌-◌, ◌^◌, ◌∙◌, ap, Err, None, Ok, Some, arith, refl, subst, sym}
use Rattle.formula.specs.Tree.{form}
use Rattle.base_budget.proofs.Advancing.{followed_later}
use Rattle.quant_elim.proofs.Budgets.{below_budget}
use Rattle.sequent.specs.Sequent.{Sequent}
use Rattle.sequent.specs.Views.{sequent_of}
use Rattle.proof_tree.specs.Reduced.{IsReducedSequent}
use Rattle.tree_branch.specs.Passed.{IsPassed}
use Rattle.tree_branch.specs.Standing.{standing}
use Rattle.tree_branch.proofs.Idle.{passed_nothing}
use Rattle.search.specs.declared.judge.Found.TheVariants.{Branch}
use Rattle.search.specs.Run.{too_long}
use Rattle.search.specs.Walking.{IsGrown}
use Rattle.search.proofs.Growing.{made_some, makes_later}
use Rattle.search.proofs.Judging.{of_round, round_cut, round_judged, round_long, round_memory, round_unsolved, tree_over}
use Rattle.search.proofs.run.one_round.Goals as goal

pub returns-in_err-s : goal.returns-in_err-s
returns-in_err-s g c = round_memory (form c.args.root.now) c.args.constants c.args.limit c.args.course.now c.from_residual.result c.begin_round.ensures c.from_residual.ensures.1

pub returns-in_err-branch : goal.returns-in_err-branch
returns-in_err-branch g c =
    round_memory (form c.args.root.now) c.args.constants c.args.limit c.args.course.now c.from_residual-in_err-branch.result c.begin_round.ensures c.from_residual-in_err-branch.ensures.1

pub returns-in_err-tree : goal.returns-in_err-tree
returns-in_err-tree g c =
    let f = form c.args.root.now in
    round_cut f c.args.constants c.args.limit c.args.course.now c.from_residual-in_err-tree.result c.begin_round.ensures c.from_residual-in_err-tree.ensures.1
    (of_round f c.args.constants c.args.limit (standing c.in_ok-branch.branch) c.args.course.now (Err _) (ap sequent_of c.in_ok-branch.ensures ∙ c.in_ok-s.ensures) c.begin_round.ensures (c.in_err-tree.ensures.work.err _ refl))

pub overflow_sub-charged : goal.overflow_sub-charged
overflow_sub-charged g c =
    let e = c.spent-before.ensures.exact in
    let w = c.spent-before.ensures.within in
    let g = c.spent.ensures.exact in
    let later = (makes_later _ (omega (arith, e, w)) c.in_ok-tree.ensures.work).spent in
    omega (arith, e, g, later)

pub solution-requires-clause-over : goal.solution-requires-clause-over
solution-requires-clause-over g c =
    let f = form c.args.root.now in
    let begun = ap sequent_of c.in_ok-branch.ensures ∙ c.in_ok-s.ensures in
    let made = c.in_ok-tree.ensures.work.some c.in-Some.tree (ap Ok c.in-Some.is) in
    tree_over c.args.keeps f c.args.constants c.args.limit (standing c.in_ok-branch.branch) made.0 c.in-Some.tree begun c.requires.searchable.over (subst IsReducedSequent (sym (ap sequent_of c.in_ok-branch.ensures)) c.know_reduced.ensures)
    (subst (λ (q : Sequent). IsGrown c.args.keeps q made.0 c.in-Some.tree) begun made.2.tree)
    (of_round f c.args.constants c.args.limit (standing c.in_ok-branch.branch) c.args.course.now (Ok (Some made.0)) begun c.begin_round.ensures made.1)

pub solution-requires-clause-budget : goal.solution-requires-clause-budget
solution-requires-clause-budget g c = below_budget (2 ^ 32) (c.in_ok-tree.ensures.work.some c.in-Some.tree (ap Ok c.in-Some.is)).1.charged c.requires.budget

pub returns-in_err-solved-in-Some : goal.returns-in_err-solved-in-Some
returns-in_err-solved-in-Some g c =
    let f = form c.args.root.now in
    let begun = ap sequent_of c.in_ok-branch.ensures ∙ c.in_ok-s.ensures in
    let made = c.in_ok-tree.ensures.work.some c.in-Some.tree (ap Ok c.in-Some.is) in
    round_unsolved f c.args.constants c.args.limit made.0 c.in-Some.tree.constraint c.args.course.now c.from_residual-in_err-solved-in-Some.result c.begin_round.ensures made.2.tree.constraint c.from_residual-in_err-solved-in-Some.ensures.1
    (of_round f c.args.constants c.args.limit (standing c.in_ok-branch.branch) c.args.course.now (Ok (Some made.0)) begun c.begin_round.ensures made.1) c.in_err-solved-in-Some.ensures

pub overflow_sub-spent : goal.overflow_sub-spent
overflow_sub-spent g c =
    let e = c.spent-before.ensures.exact in
    let w = c.spent-before.ensures.within in
    let g = c.spent-in-Some.ensures.exact in
    let first = makes_later _ (omega (arith, e, w)) c.in_ok-tree.ensures.work in
    let second = (followed_later _ first.within c.in_ok-solved-in-Some.ensures).spent in
    let later = first.spent in
    omega (arith, e, g, later, second)

pub returns-in-Some : goal.returns-in-Some
returns-in-Some g c =
    let f = form c.args.root.now in
    let e = c.spent-before.ensures.exact in
    let w = c.spent-before.ensures.within in
    let g = c.spent.ensures.exact in
    let h = c.spent-in-Some.ensures.exact in
    let begun = ap sequent_of c.in_ok-branch.ensures ∙ c.in_ok-s.ensures in
    let made = c.in_ok-tree.ensures.work.some c.in-Some.tree (ap Ok c.in-Some.is) in
    let within = (followed_later _ (omega (arith, e, w)) made.1).within in
    round_judged c.args.keeps f c.args.constants c.args.limit made.0 c.in-Some.tree c.in_ok-solved-in-Some.solved (c.spent.result - c.spent-before.result) (c.spent-in-Some.result - c.spent-before.result) c.spent-before.result c.args.course.now
    c.conclude.result c.begin_round.ensures (omega (arith, e, w)) (subst (λ (q : Sequent). IsGrown c.args.keeps q made.0 c.in-Some.tree) begun made.2.tree)
    (of_round f c.args.constants c.args.limit (standing c.in_ok-branch.branch) c.args.course.now (Ok (Some made.0)) begun c.begin_round.ensures made.1) within c.in_ok-solved-in-Some.ensures e (omega (arith, g)) (omega (arith, h)) c.conclude.ensures

pub returns : goal.returns
returns g c =
    let f = form c.args.root.now in
    made_some too_long Branch
    (round_long f c.args.constants c.args.limit c.args.course.now c.begin_round.ensures
    (of_round f c.args.constants c.args.limit (standing c.in_ok-branch.branch) c.args.course.now (Ok None) (ap sequent_of c.in_ok-branch.ensures ∙ c.in_ok-s.ensures) c.begin_round.ensures (c.in_ok-tree.ensures.work.none (ap Ok c.in-None.is)))) refl

pub build-requires-clause-passed : goal.build-requires-clause-passed
build-requires-clause-passed g c = subst (IsPassed c.args.limit c.in_ok-branch.branch) (sym c.new.ensures) (passed_nothing c.args.limit c.in_ok-branch.branch)
