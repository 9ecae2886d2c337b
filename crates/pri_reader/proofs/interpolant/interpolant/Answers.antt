use Rattle.std.proofs.Common.{arith, refl, ◌≡◌, true}
use Rattle.pri_reader.proofs.BlockExits.{block_memory}
use Rattle.pri_reader.proofs.Exits.{fails, takes_shorter}
use Rattle.pri_reader.proofs.Sets.{sets_begin, sets_end, sets_next, sets_no_brace, sets_no_end, sets_none, sets_single}
use Rattle.pri_reader.proofs.interpolant.interpolant.Goals as goal

pub returns-in_err-inner-clause-refused : goal.returns-in_err-inner-clause-refused
returns-in_err-inner-clause-refused c = fails _ _ c.from_residual.ensures.1 (sets_no_brace c.in_err-inner.ensures.failed)

pub sets-init : goal.sets-init
sets-init c = record {
  leads = rw c.new-sets.ensures (sets_begin c.in_ok-inner.ensures.found);
  shorter = takes_shorter c.in_ok-inner.ensures.found;
}

pub returns-in_err-names-clause-refused : goal.returns-in_err-names-clause-refused
returns-in_err-names-clause-refused c = fails _ _ c.from_residual-in_err-names.ensures.1 (sets_none c.sets.invariant.leads c.in_err-names.ensures.refused)

pub returns-in_err-close-clause-refused : goal.returns-in_err-close-clause-refused
returns-in_err-close-clause-refused c = fails _ _ c.from_residual-in_err-close.ensures.1 (sets_no_end c.sets.invariant.leads c.in_ok-names.ensures.read c.in_ok-names.ensures.ended c.in_default.ensures c.in_err-close.ensures.failed)

pub returns-then-only-clause-refused : goal.returns-then-only-clause-refused
returns-then-only-clause-refused c = sets_single c.sets.invariant.leads c.in_ok-names.ensures.read (c.is_empty-only.ensures.0 c.if-only.true) c.in_ok-close.ensures.found

pub returns-in_default-clause-read : goal.returns-in_default-clause-read
returns-in_default-clause-read c = rw (c.in_ok-push.ensures.ok, c.place-at_set.ensures) (sets_end c.sets.invariant.leads c.in_ok-names.ensures.read (λ e. let p : c.is_empty-only.result ≡ true = c.is_empty-only.ensures.1 e in absurd cc) c.in_ok-close.ensures.found)

pub sets-preserved : goal.sets-preserved
sets-preserved c = record {
  leads = rw (c.in_ok-push.ensures.ok, c.place-at_set.ensures) (sets_next c.sets.invariant.leads c.in_ok-names.ensures.read c.in-Some.ensures);
  shorter = omega (arith, c.sets.invariant.shorter, c.in_ok-names.ensures.shorter, takes_shorter c.in-Some.ensures);
}

pub returns-in_err-push-clause-refused : goal.returns-in_err-push-clause-refused
returns-in_err-push-clause-refused c = fails _ _ c.from_residual-in_err-push.ensures.1 (block_memory refl)

pub returns-in_default-clause-shorter : goal.returns-in_default-clause-shorter
returns-in_default-clause-shorter c = omega (arith, c.sets.invariant.shorter, c.in_ok-names.ensures.shorter, takes_shorter c.in_ok-close.ensures.found)
