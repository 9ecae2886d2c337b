use Rattle.pri_reader.proofs.Exits.{handed_err, handed_ok}
use Rattle.pri_reader.proofs.BoundNames.{binder_plain, binder_plain_none, binder_grouped, binder_grouped_none}
use Rattle.pri_reader.proofs.binders.binder.Goals as goal

pub returns-in_default-clause-read : goal.returns-in_default-clause-read
returns-in_default-clause-read c = handed_ok _ _ _ c.bound_names.ensures.read (λ x r. binder_plain c.in_default.ensures r)

pub returns-in_default-clause-refused : goal.returns-in_default-clause-refused
returns-in_default-clause-refused c = handed_err _ _ _ c.bound_names.ensures.refused (λ e r. binder_plain_none c.in_default.ensures r)

pub returns-clause-read : goal.returns-clause-read
returns-clause-read c = handed_ok _ _ _ c.bound_names-2.ensures.read (λ x r. binder_grouped c.in-Some.ensures r)

pub returns-clause-refused : goal.returns-clause-refused
returns-clause-refused c = handed_err _ _ _ c.bound_names-2.ensures.refused (λ e r. binder_grouped_none c.in-Some.ensures r)
