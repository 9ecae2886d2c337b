use Rattle.elim_laws.specs.Whole.{AreOver, IsExact, eliminating}
use Rattle.elim_laws.proofs.Whole.{eliminating-exact}
use Rattle.formula.specs.Tree.{form}
use Rattle.quant_elim.proofs.Outcomes.{logged_by, value_with}
use Rattle.quant_elim.proofs.Unfolded.{eliminating-over}
use Rattle.quant_elim.proofs.wholes.eliminate.Goals as goal

pub returns-clause-charged : goal.returns-clause-charged
returns-clause-charged c = logged_by (eliminating c.args.names (form c.args.f.now)) _ _ _ _ c.new.ensures c.eliminate_form-outcome.ensures c.with_log.ensures

pub returns-clause-exact : goal.returns-clause-exact
returns-clause-exact c = λ pure.
    value_with (λ d. IsExact d (form c.args.f.now) c.args.names) (eliminating c.args.names (form c.args.f.now)) _ _ _ _ c.new.ensures c.eliminate_form-outcome.ensures c.with_log.ensures
    (eliminating-exact c.args.names (form c.args.f.now) (c.know_terms.ensures.known pure))

pub returns-clause-over : goal.returns-clause-over
returns-clause-over c = λ pure over.
    value_with (AreOver c.args.names) (eliminating c.args.names (form c.args.f.now)) _ _ _ _ c.new.ensures c.eliminate_form-outcome.ensures c.with_log.ensures
    (eliminating-over c.args.names (form c.args.f.now) (c.know_terms.ensures.known pure) over)
