use Rattle.std.proofs.Common.{[], ◌+◌, ◌*◌, drop}
use Rattle.clause_set.specs.Dnfs.{top}
use Rattle.elim_laws.specs.Logs.{all_by_log, any_by_log}
use Rattle.formula.specs.Sizes.{depth, depths}
use Rattle.formula.specs.Tree.{form, forms_of}
use Rattle.elim_check.specs.Reading.{reading}
use Rattle.elim_check.proofs.Chained.{Reads}
use Rattle.elim_check.proofs.forms.+forms.Given as goal

abbrev pub decreases-form_by_log : goal.decreases-form_by_log
decreases-form_by_log l = 2 * depth (form l.f.now)

abbrev pub decreases-conjunction_by_log : goal.decreases-conjunction_by_log
decreases-conjunction_by_log l = 2 * depths (forms_of l.members.now) + 1

abbrev pub decreases-disjunction_by_log : goal.decreases-disjunction_by_log
decreases-disjunction_by_log l = 2 * depths (forms_of l.members.now) + 1

abbrev pub decreases-existential_by_log : goal.decreases-existential_by_log
decreases-existential_by_log l = 2 * depth (form l.body.now) + 1

abbrev pub decreases-universal_by_log : goal.decreases-universal_by_log
decreases-universal_by_log l = 2 * depth (form l.body.now) + 1

abbrev pub invariant-conjunction_by_log-loop-f : goal.invariant-conjunction_by_log-loop-f
invariant-conjunction_by_log-loop-f l = Reads (all_by_log (reading l.names) (forms_of (drop l.f-index l.members)) l.all) l.log l.place l.purse (all_by_log (reading l.names) (forms_of l.members) top) l.fn.place l.fn.purse

abbrev pub invariant-disjunction_by_log-loop-f : goal.invariant-disjunction_by_log-loop-f
invariant-disjunction_by_log-loop-f l = Reads (any_by_log (reading l.names) (forms_of (drop l.f-index l.members)) l.any) l.log l.place l.purse (any_by_log (reading l.names) (forms_of l.members) []) l.fn.place l.fn.purse
