use Rattle.std.proofs.Common.{◌≡◌, ◌↔◌, ◌+◌, ◌*◌, ◌≤◌, ◌^◌, ℕ, Result, false, sym, ap, subst, ◌∙◌, arith}
use Rattle.std.specs.Prelude.{IfOk}
use Rattle.formula.specs.declared.calculus.Core.{Core}
use Rattle.formula.specs.Form.{Form, FormTruth, IsFormOver}
use Rattle.formula.specs.Sizes.{depth}
use Rattle.formula.specs.Tree.{form}
use Rattle.form_miniscope.proofs.Depths.{scoped_below_depth}
use Rattle.form_miniscope.proofs.Miniscope.{scoped_below_is}
use Rattle.form_miniscope.proofs.Over.{scoped_below_over}
use Rattle.form_miniscope.specs.Miniscope.{scoped_below}
use Rattle.clause_root_laws.specs.Prepared.{prepared}
use Rattle.clause_root.proofs.Members.{if_ok}
use Rattle.clause_root.proofs.scoped.prepare_scoped.Goals as goal

pub prepare-requires-clause-room : goal.prepare-requires-clause-room
prepare-requires-clause-room c = omega (arith, ap depth c.in_ok-scoped.ensures, scoped_below_depth c.args.count (form c.args.root.now), c.requires.room)

pub prepare-requires-clause-over : goal.prepare-requires-clause-over
prepare-requires-clause-over c = subst (IsFormOver c.args.count) (sym c.in_ok-scoped.ensures) (scoped_below_over c.args.count (form c.args.root.now) c.requires.over)

prepared_same : {E : Type 0} (r : Result Core E) (n steps : ℕ) (f g : Form) → f ≡ g → IfOk r (λ h. form h ≡ (prepared false n f steps).0) → IfOk r (λ h. form h ≡ (prepared false n g steps).0)
prepared_same r n steps f g is made = subst (λ z. IfOk r (λ h. form h ≡ (prepared false n z steps).0)) is made

pub returns-clause-exact : goal.returns-clause-exact
returns-clause-exact c = prepared_same c.prepare.result c.args.count c.args.steps (form c.in_ok-scoped.scoped) (scoped_below c.args.count (form c.args.root.now)) c.in_ok-scoped.ensures c.prepare.ensures.exact

pub returns-clause-truth : goal.returns-clause-truth
returns-clause-truth c =
    if_ok c.prepare.result _ _ (λ f is w e len. let i = is w e len in
    let j = subst (λ z. FormTruth w z e ↔ FormTruth w (form c.args.root.now) e) (sym c.in_ok-scoped.ensures) (scoped_below_is w c.args.count (form c.args.root.now) e len) in
    (λ h. j.0 (i.0 h), λ h. i.1 (j.1 h))) c.prepare.ensures.truth
