use Rattle.std.proofs.lemmas.List.Elements.{recursion_from_All}
use Rattle.form_typed.specs.Sorts.{IsSortRanged}
use Rattle.countermodel.proofs.Nearest.{probe_is, probe_none, probes_are, probes_none, probes_ranged, typed_probes}
use Rattle.countermodel.proofs.laws.probe_law.Goals as goal

pub returns-clause-value : goal.returns-clause-value
returns-clause-value c = probe_is

pub returns-clause-none : goal.returns-clause-none
returns-clause-none c = probe_none

pub returns-clause-values : goal.returns-clause-values
returns-clause-values c = probes_are

pub returns-clause-typed : goal.returns-clause-typed
returns-clause-typed c = typed_probes

pub returns-clause-nowhere : goal.returns-clause-nowhere
returns-clause-nowhere c = probes_none

pub returns-clause-range : goal.returns-clause-range
returns-clause-range c = λ ss vs r h. probes_ranged ss vs (recursion_from_All IsSortRanged ss r) (probes_are ss vs h)
