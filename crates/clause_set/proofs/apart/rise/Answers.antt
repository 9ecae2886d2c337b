use Rattle.std.proofs.Common.{◌≡◌, rules}
use Rattle.std.specs.declared.cmp.Ordering.TheVariants.{Less}
use Rattle.clause_set.specs.Apart.{form_cmp}
use Rattle.clause_set.proofs.Plain.{form_cmp-total}
use Rattle.clause_set.proofs.Sorted.{rising_none, rising_one, rising_more}
use Rattle.clause_set.proofs.apart.rise.Goals as goal

pub returns-in_default-split_first : goal.returns-in_default-split_first
returns-in_default-split_first c = λ _. c.loop-l.invariant (rising_one form_cmp c.loop-l.left.now c.in-Some.more.now c.in-Some.l.now c.in-Some.ensures.cases.0 c.in_default-split_first.ensures.cases)

pub loop-l-preserved : goal.loop-l-preserved
loop-l-preserved c = λ h.
    let less : form_cmp c.in-Some.l.now c.in-Some-split_first.m.now ≡ Less = search rules in
    c.loop-l.invariant
    (rising_more form_cmp form_cmp-total c.loop-l.left.now c.in-Some.more.now _ c.in-Some.l.now c.in-Some-split_first.m.now c.in-Some.ensures.cases.0 c.in-Some-split_first.ensures.cases.0 less h)

pub returns : goal.returns
returns c = λ _. c.loop-l.invariant (rising_none form_cmp c.loop-l.left.now c.in_default.ensures.cases)
