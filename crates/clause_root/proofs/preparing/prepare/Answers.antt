use Rattle.std.proofs.Common.{◌↔◌, false, ap, sym, subst}
use Rattle.formula.specs.Form.{FormTruth, IsFormOver}
use Rattle.formula.specs.Tree.{form}
use Rattle.clause_root_laws.proofs.Prepared.{prepared_is, prepared_over}
use Rattle.clause_root.proofs.Members.{if_ok}
use Rattle.clause_root.proofs.preparing.prepare.Goals as goal

pub returns-clause-truth : goal.returns-clause-truth
returns-clause-truth c =
    if_ok c.prepared.result _ _ (λ g is w e len. subst (λ z. FormTruth w z e ↔ FormTruth w (form c.args.root.now) e) (sym (ap (λ p. p.0) is))
    (prepared_is w false c.args.count (form c.args.root.now) c.args.steps e len c.know_reduced.ensures c.requires.over)) c.prepared.ensures

pub returns-clause-over : goal.returns-clause-over
returns-clause-over c =
    if_ok c.prepared.result _ _ (λ g is. subst (IsFormOver c.args.count) (sym (ap (λ p. p.0) is))
    (prepared_over false c.args.count (form c.args.root.now) c.args.steps c.know_reduced.ensures c.requires.over)) c.prepared.ensures
