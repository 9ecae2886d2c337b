use Rattle.std.proofs.Common.{◌≤◌, ◌<◌, [], length}
use Rattle.pri_reader.specs.MachineStates.{a_bound, a_type, for_binder}
use Rattle.pri_reader.specs.Reading.{LeadsBound}
use Rattle.pri_reader.proofs.binders.bound_names.Given as goal

abbrev pub invariant-names : goal.invariant-names
invariant-names l = record {
  leads : LeadsBound l.bytes l.tokens (λ at all. a_type (for_binder at all l.several l.depth [])) l.inner (λ at all. a_bound at all l.several l.sort l.levels l.names);
  above : l.depth ≤ l.levels;
  below : l.levels ≤ 200;
  shorter : length l.inner < length l.tokens;
}

abbrev pub decreases-names : goal.decreases-names
decreases-names l = length l.inner
