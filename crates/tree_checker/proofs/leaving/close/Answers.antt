use Rattle.std.proofs.Common.{◌≡◌, ℕ, ◌∙◌, List, [], ◌++◌, ap, nat_eq, is_none, subst, sym}
use Rattle.std.specs.Borrow.{Bor}
use Rattle.tree_branch.specs.Within.{IsWithin}
use Rattle.tree_branch.specs.Standing.{held, standing}
use Rattle.tree_branch.specs.declared.branch.Branch.{Branch}
use Rattle.pred_unify.specs.Reading.{behind, sequent_at}
use Rattle.pred_unify.specs.declared.leaf.Leaf.{Leaf}
use Rattle.proof_tree.specs.Proof.{node}
use Rattle.proof_tree.specs.Walk.{fee, width}
use Rattle.base_budget.specs.Trace.{capped}
use Rattle.sequent.specs.Rules.{place}
use Rattle.sequent.specs.Views.{sequent_of}
use Rattle.sequent.specs.declared.member.Member.{Member}
use Rattle.sequent.specs.declared.member.Sequent as code
use Rattle.sequent.specs.declared.member.Pick.TheVariants.{Close}
use Rattle.proof_grammar.specs.Lines.{last_lines}
use Rattle.tree_checker.proofs.Entered.{first_true, node_left, node_unpaid, node_wrong, none_walked, second_true, walked_memory}
use Rattle.tree_checker.proofs.Left.{left_same}
use Rattle.tree_checker.proofs.Fitted.{close_is, leaf_fits, leaf_none, lone_unfit}
use Rattle.tree_checker.proofs.Paid.{node_paid}
use Rattle.tree_checker.proofs.leaving.close.Goals as goal

-- the leaf is where the branch stands
stands : (b : Branch) (ms : List (Bor Member)) (n : ℕ) (l : Leaf) → sequent_at l ≡ record { members = behind ms; count = n } → behind ms ≡ (held b).members → n ≡ (standing b).count → sequent_at l ≡ held b
stands b ms n l is members count = is ∙ (λ i. record { members = members i; count = count i })

pub returns-then-not-is_leaf-clause-walk : goal.returns-then-not-is_leaf-clause-walk
returns-then-not-is_leaf-clause-walk g c = λ ns es d ls count coming.
    let s = standing c.args.branch.now in
    node_wrong s c.args.rule ns es d c.args.course.now (lone_unfit s c.args.rule ns es c.args.count c.requires.lone count (sym c.is_leaf.ensures ∙ c.if-not-is_leaf.true)) c.enter-number.ensures.hand

pub returns-in_err-members-clause-walk : goal.returns-in_err-members-clause-walk
returns-in_err-members-clause-walk g c = λ ns es d ls count coming. walked_memory (standing c.args.branch.now) (node c.args.rule ns es d) c.from_residual.result c.from_residual.ensures.1

pub returns-in_err-leaf-clause-walk : goal.returns-in_err-leaf-clause-walk
returns-in_err-leaf-clause-walk g c = λ ns es d ls count coming. walked_memory (standing c.args.branch.now) (node c.args.rule ns es d) c.from_residual-in_err-leaf.result c.from_residual-in_err-leaf.ensures.1

pub returns-in_err-step-clause-walk : goal.returns-in_err-step-clause-walk
returns-in_err-step-clause-walk g c = λ ns es d ls count coming.
    let s = standing c.args.branch.now in
    let leaf = sym c.is_leaf.ensures ∙ c.if-not-is_leaf.false in
    let is = close_is c.args.rule (first_true (is_none (place c.args.rule)) (nat_eq c.args.count 0) leaf) in
    let zero = second_true (is_none (place c.args.rule)) (nat_eq c.args.count 0) leaf in
    let here = stands c.args.branch.now c.in_ok-members.members.items _ c.in_ok-leaf.leaf c.in_ok-leaf.ensures.sequent c.in_ok-members.ensures c.count.ensures in
    rw is (node_unpaid s Close ns es d c.args.course.now c.from_residual-in_err-step.result (leaf_fits s ns es c.args.count zero (rw is at count)) c.enter-number.ensures.hand c.from_residual-in_err-step.ensures.1
    (c.in_err-step.ensures (fee s Close) (c.leaf_fee.ensures ∙ ap (λ (q : code.Sequent). capped (fee (sequent_of q) Close)) here)))

pub leave_leaf-requires-clause-within : goal.leave_leaf-requires-clause-within
leave_leaf-requires-clause-within g c =
    let here = stands c.args.branch.now c.in_ok-members.members.items _ c.in_ok-leaf.leaf c.in_ok-leaf.ensures.sequent c.in_ok-members.ensures c.count.ensures in
    (c.requires.within.0, subst (λ (q : code.Sequent). IsWithin c.requires.within.0 (sequent_of q)) (sym here) c.requires.within.1)

pub leave_leaf-requires-clause-paid : goal.leave_leaf-requires-clause-paid
leave_leaf-requires-clause-paid g c =
    let s = standing c.args.branch.now in
    let here = stands c.args.branch.now c.in_ok-members.members.items _ c.in_ok-leaf.leaf c.in_ok-leaf.ensures.sequent c.in_ok-members.ensures c.count.ensures in
    node_paid s Close c.args.course.now c.enter-number.ensures.nodes c.requires.paid (c.in_ok-step.ensures (fee s Close) (c.leaf_fee.ensures ∙ ap (λ (q : code.Sequent). capped (fee (sequent_of q) Close)) here))

pub returns-clause-walk : goal.returns-clause-walk
returns-clause-walk g c = λ ns es d ls count coming.
    let s = standing c.args.branch.now in
    let leaf = sym c.is_leaf.ensures ∙ c.if-not-is_leaf.false in
    let is = close_is c.args.rule (first_true (is_none (place c.args.rule)) (nat_eq c.args.count 0) leaf) in
    let zero = second_true (is_none (place c.args.rule)) (nat_eq c.args.count 0) leaf in
    let here = stands c.args.branch.now c.in_ok-members.members.items _ c.in_ok-leaf.leaf c.in_ok-leaf.ensures.sequent c.in_ok-members.ensures c.count.ensures in
    let all = none_walked (g.L.ProofLines.coming c.args.lines.now) (last_lines Close es d ++ ls) ns (leaf_none c.args.count (width ns) es zero (rw is at count)) (rw is at coming) in
    let left = c.leave_leaf.ensures.walk es d ls all.behind.2 in
    rw is (node_left s Close ns es d c.args.course.now _ c.leave_leaf.result (leaf_fits s ns es c.args.count zero (rw is at count)) c.enter-number.ensures.hand c.enter-number.ensures.nodes
    (c.in_ok-step.ensures (fee s Close) (c.leaf_fee.ensures ∙ ap (λ (q : code.Sequent). capped (fee (sequent_of q) Close)) here)) all (left_same c.args.course.now.nodes Close es d [] (ap sequent_of here) (rw c.enter-number.ensures.number at left)) c.leave_leaf.ensures.nodes)
