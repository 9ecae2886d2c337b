use Rattle.std.proofs.Common.{◌≡◌, ◌∙◌, ◌+◌, ◌-◌, ◌++◌, Some, refl, sym, subst, arith}
use Rattle.std.specs.List.{slice_get}
use Rattle.base_budget.proofs.Charging.{drop_all}
use Rattle.tree_branch.specs.Standing.{LeadsBack, held, premises_from, rule_at, standing}
use Rattle.tree_branch.specs.declared.branch.Branch.{Branch}
use Rattle.sequent.proofs.Members.{all_at}
use Rattle.sequent.specs.Views.{HasRoom}
use Rattle.proof_tree.specs.Walk.{fee}
use Rattle.tree_branch.specs.Within.{IsWithin}
use Rattle.tree_branch.proofs.Keeping.{premises_few, premises_most, premises_within, within_room}
use Rattle.proof_grammar.specs.Lines.{last_lines}
use Rattle.tree_checker.specs.Told.{told_all}
use Rattle.tree_checker.proofs.Entered.{after_row, no_level, node_cut, node_left, node_none, node_unpaid, node_wrong, walked_memory, wide_of}
use Rattle.tree_checker.proofs.Fitted.{fits_log, told_fits, told_unfit}
use Rattle.tree_checker.proofs.Paid.{node_paid}
use Rattle.tree_checker.proofs.Stepped.{ahead, all_done, premise_cut, premise_gives, premise_memory, premise_none, stepping_memory}
use Rattle.tree_checker.proofs.walk.+walk.Goals as goal

-- ---- the row of a node
pub node-returns-then-left-eq0-clause-walk : goal.node-returns-then-left-eq0-clause-walk
node-returns-then-left-eq0-clause-walk g t c = λ x ls levels coming. absurd (no_level c.args.left x c.if-left-eq0.true levels)

pub node-returns-in_err-rule-clause-walk : goal.node-returns-in_err-rule-clause-walk
node-returns-in_err-rule-clause-walk g t c = λ x ls levels coming. walked_memory (standing c.args.branch.now) x c.from_residual.result c.from_residual.ensures.1

pub node-returns-in-Some-clause-walk : goal.node-returns-in-Some-clause-walk
node-returns-in-Some-clause-walk g t c = λ x ls levels coming.
    let s = standing c.args.branch.now in
    let some = c.if-left-eq0.false in
    let coming_in = g.L.ProofLines.coming in
    (after_row (coming_in c.args.lines.now) (coming_in c.read_row.new.lines) (coming_in c.enter.new.lines) s s c.in-Some.rule c.in-Some.count (c.args.left - 1) c.in_ok-rule.field-0 refl c.in-Some.is c.in_ok-rule.ensures c.enter.ensures.walk c.args.left x ls
    (omega (arith, some)) levels coming).0

-- ---- a node whose row has come
pub enter-returns-in-Some-clause-walk : goal.enter-returns-in-Some-clause-walk
enter-returns-in-Some-clause-walk g t c = λ ns es d ls levels count coming.
    rw c.in-Some.ensures.rule at (c.grow.ensures.walk ns es d ls levels (rw (sym c.in-Some.ensures.rule) at count) (rw (sym c.in-Some.ensures.rule) at coming))

-- ---- a node with a principal
pub grow-width-requires-clause-few : goal.grow-width-requires-clause-few
grow-width-requires-clause-few g t c = premises_few (c.args.left + 1) (standing c.args.branch.now) (rule_at c.args.principal.now.shape c.args.principal.now.index) c.requires.within

pub grow-returns-then-count-width-clause-walk : goal.grow-returns-then-count-width-clause-walk
grow-returns-then-count-width-clause-walk g t c = λ ns es d ls levels count coming.
    let s = standing c.args.branch.now in
    let rule = rule_at c.args.principal.now.shape c.args.principal.now.index in
    let most = premises_most (c.args.left + 1) s rule c.requires.within in
    node_wrong s rule ns es d c.args.course.now (told_unfit s rule ns es c.args.count (omega (arith, most)) count (λ e. c.if-count-width.true (e ∙ sym c.width.ensures))) c.enter-number.ensures.hand

pub grow-returns-in_err-step-clause-walk : goal.grow-returns-in_err-step-clause-walk
grow-returns-in_err-step-clause-walk g t c = λ ns es d ls levels count coming.
    let s = standing c.args.branch.now in
    let rule = rule_at c.args.principal.now.shape c.args.principal.now.index in
    let most = premises_most (c.args.left + 1) s rule c.requires.within in
    let fit = told_fits s rule ns es c.args.count c.requires.applies (omega (arith, most)) count (c.if-count-width.false ∙ c.width.ensures) in
    node_unpaid s rule ns es d c.args.course.now c.from_residual.result fit c.enter-number.ensures.hand c.from_residual.ensures.1 (c.in_err-step.ensures (fee s rule) c.principal_fee.ensures)

pub grow-premises-requires : goal.grow-premises-requires
grow-premises-requires g t c κs lives =
    let s = standing c.args.branch.now in
    let rule = rule_at c.args.principal.now.shape c.args.principal.now.index in (
      omega (arith, c.decreases),
      (lives, (c.requires.principal, (c.requires.within, node_paid s rule c.args.course.now c.enter-number.ensures.nodes c.requires.paid (c.in_ok-step.ensures (fee s rule) c.principal_fee.ensures)))),
    )

pub grow-returns-in_err-ds-clause-walk : goal.grow-returns-in_err-ds-clause-walk
grow-returns-in_err-ds-clause-walk g t c = λ ns es d ls levels count coming.
    let s = standing c.args.branch.now in
    let rule = rule_at c.args.principal.now.shape c.args.principal.now.index in
    let most = premises_most (c.args.left + 1) s rule c.requires.within in
    let fit = told_fits s rule ns es c.args.count c.requires.applies (omega (arith, most)) count (c.if-count-width.false ∙ c.width.ensures) in
    node_cut s rule ns es d c.args.course.now c.from_residual-in_err-ds.result fit c.enter-number.ensures.hand c.enter-number.ensures.nodes (c.in_ok-step.ensures (fee s rule) c.principal_fee.ensures) c.from_residual-in_err-ds.ensures.1
    (c.in_err-ds.ensures.walk ns (last_lines rule es d ++ ls) levels (wide_of s rule ns es fit) coming)

pub grow-returns-in-None-clause-walk : goal.grow-returns-in-None-clause-walk
grow-returns-in-None-clause-walk g t c = λ ns es d ls levels count coming.
    let s = standing c.args.branch.now in
    let rule = rule_at c.args.principal.now.shape c.args.principal.now.index in
    let most = premises_most (c.args.left + 1) s rule c.requires.within in
    let fit = told_fits s rule ns es c.args.count c.requires.applies (omega (arith, most)) count (c.if-count-width.false ∙ c.width.ensures) in
    node_none s rule ns es d c.args.course.now fit c.enter-number.ensures.hand c.enter-number.ensures.nodes (c.in_ok-step.ensures (fee s rule) c.principal_fee.ensures)
    (rw c.in-None.is at (c.in_ok-ds.ensures.walk ns (last_lines rule es d ++ ls) levels (wide_of s rule ns es fit) coming))

pub grow-leave-requires : goal.grow-leave-requires
grow-leave-requires g t c = record {
  within = (c.args.left + 1, subst (λ (b : Branch). IsWithin (c.args.left + 1) (standing b)) (sym (rw c.in-Some.is at c.in_ok-ds.ensures.back)) c.requires.within);
  paid = rw c.in-Some.is at c.in_ok-ds.ensures.paid;
}

pub grow-returns-in-Some-clause-walk : goal.grow-returns-in-Some-clause-walk
grow-returns-in-Some-clause-walk g t c = λ ns es d ls levels count coming.
    let s = standing c.args.branch.now in
    let rule = rule_at c.args.principal.now.shape c.args.principal.now.index in
    let most = premises_most (c.args.left + 1) s rule c.requires.within in
    let fit = told_fits s rule ns es c.args.count c.requires.applies (omega (arith, most)) count (c.if-count-width.false ∙ c.width.ensures) in
    let same = rw c.in-Some.is at c.in_ok-ds.ensures.back in
    let all = rw c.in-Some.is at (c.in_ok-ds.ensures.walk ns (last_lines rule es d ++ ls) levels (wide_of s rule ns es fit) coming) in
    let left = c.leave.ensures.walk es d ls (fits_log s rule ns es fit) all.behind.2 in
    node_left s rule ns es d c.args.course.now c.in-Some.ds c.leave.result fit c.enter-number.ensures.hand c.enter-number.ensures.nodes (c.in_ok-step.ensures (fee s rule) c.principal_fee.ensures) all
    (rw same at (rw c.enter-number.ensures.number at left)) c.leave.ensures.nodes

-- ---- its premises
pub premises-width-i-end-requires-clause-few : goal.premises-width-i-end-requires-clause-few
premises-width-i-end-requires-clause-few g t c = premises_few (c.args.left + 1) (standing c.args.branch.now) (rule_at c.args.principal.now.shape c.args.principal.now.index) c.requires.within

pub premises-enter-requires-clause-room : goal.premises-enter-requires-clause-room
premises-enter-requires-clause-room g t c = subst (λ (b : Branch). HasRoom (held b)) (sym c.loop-i.invariant.0) (within_room (c.args.left + 1) (held c.args.branch.now) c.requires.within)

pub premises-returns-in_err-entered-clause-walk : goal.premises-returns-in_err-entered-clause-walk
premises-returns-in_err-entered-clause-walk g t c = λ ns ls levels wide coming.
    stepping_memory (g.L.ProofLines.coming c.loop-i.lines) c.args.left ls (premises_from c.args.branch.now c.args.principal.now) ns c.args.purse.now c.args.course.now c.loop-i.i c.from_residual.result (c.loop-i.invariant.2 ns ls levels wide coming)
    c.from_residual.ensures.1

pub premises-node-requires : goal.premises-node-requires
premises-node-requires g t c κs lives =
    let b = c.args.branch.now in
    let p = c.args.principal.now in
    let here = standing c.enter.new.self in
    let premise = subst (λ (x : Branch). slice_get (premises_from x p) c.loop-i.i ≡ Some here) c.loop-i.invariant.0 c.in_ok-entered.ensures.premise in (
      omega (arith, c.decreases),
      (lives, (all_at (IsWithin c.args.left) (premises_from b p) c.loop-i.i here premise (premises_within c.args.left (standing b) (rule_at p.shape p.index) c.requires.within), c.loop-i.invariant.1)),
    )

pub premises-returns-in_err-d-clause-walk : goal.premises-returns-in_err-d-clause-walk
premises-returns-in_err-d-clause-walk g t c = λ ns ls levels wide coming.
    let p = c.args.principal.now in
    let ss = premises_from c.args.branch.now p in
    let here = standing c.enter.new.self in
    let premise = subst (λ (x : Branch). slice_get (premises_from x p) c.loop-i.i ≡ Some here) c.loop-i.invariant.0 c.in_ok-entered.ensures.premise in
    let Coming = g.L.ProofLines.coming c.loop-i.lines in
    let at = ahead Coming c.args.left ls ss ns c.args.purse.now c.args.course.now c.loop-i.i here premise (c.loop-i.invariant.2 ns ls levels wide coming) in
    premise_cut Coming c.args.left ls ss ns c.args.purse.now c.args.course.now c.loop-i.i here c.from_residual-in_err-d.result at c.from_residual-in_err-d.ensures.1 (c.in_err-d.ensures.walk at.first (told_all at.rest ++ ls) at.levels at.coming)

pub premises-returns-in_err-push-in-Some-clause-walk : goal.premises-returns-in_err-push-in-Some-clause-walk
premises-returns-in_err-push-in-Some-clause-walk g t c = λ ns ls levels wide coming.
    let p = c.args.principal.now in
    let ss = premises_from c.args.branch.now p in
    let here = standing c.enter.new.self in
    let premise = subst (λ (x : Branch). slice_get (premises_from x p) c.loop-i.i ≡ Some here) c.loop-i.invariant.0 c.in_ok-entered.ensures.premise in
    let Coming = g.L.ProofLines.coming c.loop-i.lines in
    let at = ahead Coming c.args.left ls ss ns c.args.purse.now c.args.course.now c.loop-i.i here premise (c.loop-i.invariant.2 ns ls levels wide coming) in
    premise_memory Coming c.args.left ls ss ns c.args.purse.now c.args.course.now c.loop-i.i here c.in-Some.d c.from_residual-in_err-push-in-Some.result at c.from_residual-in_err-push-in-Some.ensures.1
    (rw c.in-Some.is at (c.in_ok-d.ensures.walk at.first (told_all at.rest ++ ls) at.levels at.coming))

pub premises-returns-in-None-clause-walk : goal.premises-returns-in-None-clause-walk
premises-returns-in-None-clause-walk g t c = λ ns ls levels wide coming.
    let p = c.args.principal.now in
    let ss = premises_from c.args.branch.now p in
    let here = standing c.enter.new.self in
    let premise = subst (λ (x : Branch). slice_get (premises_from x p) c.loop-i.i ≡ Some here) c.loop-i.invariant.0 c.in_ok-entered.ensures.premise in
    let Coming = g.L.ProofLines.coming c.loop-i.lines in
    let at = ahead Coming c.args.left ls ss ns c.args.purse.now c.args.course.now c.loop-i.i here premise (c.loop-i.invariant.2 ns ls levels wide coming) in
    premise_none Coming c.args.left ls ss ns c.args.purse.now c.args.course.now c.loop-i.i here at (rw c.in-None.is at (c.in_ok-d.ensures.walk at.first (told_all at.rest ++ ls) at.levels at.coming))

pub premises-loop-i-preserved : goal.premises-loop-i-preserved
premises-loop-i-preserved g t c =
    let p = c.args.principal.now in
    let here = standing c.enter.new.self in
    let premise = subst (λ (x : Branch). slice_get (premises_from x p) c.loop-i.i ≡ Some here) c.loop-i.invariant.0 c.in_ok-entered.ensures.premise in
    let same = rw c.in-Some.is at c.in_ok-d.ensures.back in (
      c.leave.ensures c.loop-i.branch (subst (λ (x : Branch). LeadsBack c.in_ok-entered.entered x c.loop-i.branch) (sym same) c.in_ok-entered.ensures.back) ∙ c.loop-i.invariant.0,
      rw c.in-Some.is at c.in_ok-d.ensures.paid,
      λ ns ls levels wide coming.
          let ss = premises_from c.args.branch.now p in
          let Coming = g.L.ProofLines.coming c.loop-i.lines in
          let at = ahead Coming c.args.left ls ss ns c.args.purse.now c.args.course.now c.loop-i.i here premise (c.loop-i.invariant.2 ns ls levels wide coming) in
          premise_gives Coming (g.L.ProofLines.coming c.node.new.lines) c.args.left ls ss ns c.args.purse.now c.args.course.now c.loop-i.i here c.in-Some.d at
          (rw c.in-Some.is at (c.in_ok-d.ensures.walk at.first (told_all at.rest ++ ls) at.levels at.coming)) c.in_ok-push-in-Some.ensures.ok,
    )

pub premises-returns-clause-walk : goal.premises-returns-clause-walk
premises-returns-clause-walk g t c = λ ns ls levels wide coming.
    let ss = premises_from c.args.branch.now c.args.principal.now in
    let past = c.loop-i-test.false in
    let end = c.width-i-end.ensures in
    all_done (g.L.ProofLines.coming c.loop-i.lines) c.args.left ls ss ns c.args.purse.now c.args.course.now c.loop-i.i (drop_all ss c.loop-i.i (omega (arith, past, end))) (c.loop-i.invariant.2 ns ls levels wide coming)
