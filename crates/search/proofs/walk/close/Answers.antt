use Rattle.std.proofs.Common.{◌≡◌, ℕ, ◌+◌, ◌≤◌, ◌^◌, ◌∙◌, List, ap, subst, sym}
use Rattle.std.specs.Borrow.{Bor}
use Rattle.formula.specs.Sizes.{depth}
use Rattle.pred_unify.specs.Pairs.{closing_of}
use Rattle.pred_unify.specs.Reading.{behind, sequent_at}
use Rattle.pred_unify.specs.declared.leaf.Leaf.{Leaf}
use Rattle.proof_tree.specs.Walk.{fee}
use Rattle.base_budget.specs.Trace.{capped}
use Rattle.quant_elim.proofs.Budgets.{below_budget}
use Rattle.sequent.specs.Views.{HasRoom, sequent_of}
use Rattle.sequent.specs.declared.member.Member.{Member}
use Rattle.sequent.specs.declared.member.Pick.TheVariants.{Close}
use Rattle.sequent.specs.declared.member.Sequent as code
use Rattle.std.specs.List.{list_any}
use Rattle.sequent.specs.Leaf.{is_open}
use Rattle.tree_branch.specs.Standing.{held, standing}
use Rattle.tree_branch.specs.declared.branch.Branch.{Branch}
use Rattle.search.proofs.Growing.{leaf_made, node_memory, node_unpaid}
use Rattle.tree_branch.proofs.Keeping.{within_depth, within_room}
use Rattle.search.proofs.walk.close.Goals as goal

-- the leaf is where the branch stands
stands : (b : Branch) (ms : List (Bor Member)) (n : ℕ) (l : Leaf) → sequent_at l ≡ record { members = behind ms; count = n } → behind ms ≡ (held b).members → n ≡ (standing b).count → sequent_at l ≡ held b
stands b ms n l is members count = is ∙ (λ i. record { members = members i; count = count i })

pub returns-in_err-members : goal.returns-in_err-members
returns-in_err-members c = λ f. node_memory f (standing c.args.branch.now) Close c.args.course.now c.from_residual.result c.from_residual.ensures.1

pub returns-in_err-leaf : goal.returns-in_err-leaf
returns-in_err-leaf c = λ f. node_memory f (standing c.args.branch.now) Close c.args.course.now c.from_residual-in_err-leaf.result c.from_residual-in_err-leaf.ensures.1

pub returns-in_err-step : goal.returns-in_err-step
returns-in_err-step c = λ f.
    let s = standing c.args.branch.now in
    let is = stands c.args.branch.now c.in_ok-members.members.items _ c.in_ok-leaf.leaf c.in_ok-leaf.ensures.sequent c.in_ok-members.ensures c.count.ensures in
    node_unpaid f s Close c.args.course.now c.from_residual-in_err-step.result (c.enter.ensures c.args.course.now.nodes) c.from_residual-in_err-step.ensures.1
    (c.in_err-step.ensures (fee s Close) (c.leaf_fee.ensures ∙ ap (λ (q : code.Sequent). capped (fee (sequent_of q) Close)) is))

pub finish_closed-requires-clause-room : goal.finish_closed-requires-clause-room
finish_closed-requires-clause-room c =
    let is = stands c.args.branch.now c.in_ok-members.members.items _ c.in_ok-leaf.leaf c.in_ok-leaf.ensures.sequent c.in_ok-members.ensures c.count.ensures in
    subst HasRoom (sym is) (within_room c.requires.within.0 (held c.args.branch.now) c.requires.within.1)

pub finish_closed-requires-clause-depth : goal.finish_closed-requires-clause-depth
finish_closed-requires-clause-depth c =
    let is = stands c.args.branch.now c.in_ok-members.members.items _ c.in_ok-leaf.leaf c.in_ok-leaf.ensures.sequent c.in_ok-members.ensures c.count.ensures in
    subst (λ (q : code.Sequent). q.count + depth (closing_of (sequent_of q)).value ≤ 2 ^ 32) (sym is) (within_depth c.requires.within.0 (standing c.args.branch.now) c.requires.within.1)

pub finish_closed-requires-clause-budget : goal.finish_closed-requires-clause-budget
finish_closed-requires-clause-budget c =
    let s = standing c.args.branch.now in
    let is = stands c.args.branch.now c.in_ok-members.members.items _ c.in_ok-leaf.leaf c.in_ok-leaf.ensures.sequent c.in_ok-members.ensures c.count.ensures in
    below_budget (2 ^ 32) (c.in_ok-step.ensures (fee s Close) (c.leaf_fee.ensures ∙ ap (λ (q : code.Sequent). capped (fee (sequent_of q) Close)) is)) c.requires.budget

pub finish_closed-requires-clause-open : goal.finish_closed-requires-clause-open
finish_closed-requires-clause-open c =
    let is = stands c.args.branch.now c.in_ok-members.members.items _ c.in_ok-leaf.leaf c.in_ok-leaf.ensures.sequent c.in_ok-members.ensures c.count.ensures in
    c.has_open_member.ensures ∙ ap (λ (q : code.Sequent). list_any (λ m. is_open m.formula) (sequent_of q).members) (sym is)

pub returns : goal.returns
returns c = λ f.
    let s = standing c.args.branch.now in
    let is = stands c.args.branch.now c.in_ok-members.members.items _ c.in_ok-leaf.leaf c.in_ok-leaf.ensures.sequent c.in_ok-members.ensures c.count.ensures in
    leaf_made c.args.keeps f s (sequent_of (sequent_at c.in_ok-leaf.leaf)) c.args.course.now c.finish_closed.result (ap sequent_of is) (c.enter.ensures c.args.course.now.nodes) c.requires.funds c.requires.paid
    (c.in_ok-step.ensures (fee s Close) (c.leaf_fee.ensures ∙ ap (λ (q : code.Sequent). capped (fee (sequent_of q) Close)) is)) (c.finish_closed.ensures c.args.course.now.nodes)
