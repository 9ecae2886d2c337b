use Rattle.std.proofs.Common.{ap}
use Rattle.formula.specs.Tree.{form}
use Rattle.clause_root.proofs.Ending.{ends_made, ends_refused, ends_outside, fresh_is}
use Rattle.clause_root.proofs.Members.{if_ok}
use Rattle.clause_root.proofs.attempt.attempt.Goals as goal

pub dnf_form-requires : goal.dnf_form-requires
dnf_form-requires c = c.in-Ok.ensures.over c.requires.pure c.requires.over

pub returns-in-Ok : goal.returns-in-Ok
returns-in-Ok c =
    if_ok c.dnf_form.result _ _ (λ g is. ends_made c.args.names (form c.args.f.now) (form g) c.args.left.now _ c.in-Ok.d _ _ _ (fresh_is c.args.left.now c.share.result _ c.share.ensures c.new-purse.ensures) c.in-Ok.ensures.charged is c.spend.ensures) c.dnf_form.ensures

pub returns-in-Err-Steps : goal.returns-in-Err-Steps
returns-in-Err-Steps c =
    if_ok c.copy.result _ _ (λ g is. ends_refused c.args.names (form c.args.f.now) (form g) c.args.left.now _ _ _ _ (fresh_is c.args.left.now c.share.result _ c.share.ensures c.new-purse.ensures)
    (rw c.in-Err-Steps.field-0-is at c.in-Err-Steps.ensures.charged) (ap form is) c.spend-in-Err-Steps.ensures) c.copy.ensures

pub returns-in-Err-Overflow : goal.returns-in-Err-Overflow
returns-in-Err-Overflow c =
    if_ok c.copy-in-Err-Overflow.result _ _ (λ g is. ends_outside c.args.names (form c.args.f.now) (form g) c.args.left.now _ c.in-Err-Overflow._place _ _ _ (fresh_is c.args.left.now c.share.result _ c.share.ensures c.new-purse.ensures)
    (rw c.in-Err-Overflow.field-0-is at c.in-Err-Overflow.ensures.charged) (ap form is) c.spend-in-Err-Overflow.ensures) c.copy-in-Err-Overflow.ensures
