use Rattle.form_miniscope.proofs.Miniscope.{miniscoped_is, scoped_below_is}
use Rattle.form_miniscope.proofs.Depths.{miniscoped_depth, scoped_below_depth}
use Rattle.form_miniscope.proofs.Over.{miniscoped_over, scoped_below_over}
use Rattle.form_miniscope.proofs.laws.miniscope_law.Goals as goal

pub returns-clause-truth : goal.returns-clause-truth
returns-clause-truth c = miniscoped_is

pub returns-clause-over : goal.returns-clause-over
returns-clause-over c = miniscoped_over

pub returns-clause-depth : goal.returns-clause-depth
returns-clause-depth c = miniscoped_depth

pub returns-clause-truth_below : goal.returns-clause-truth_below
returns-clause-truth_below c = scoped_below_is

pub returns-clause-over_below : goal.returns-clause-over_below
returns-clause-over_below c = scoped_below_over

pub returns-clause-depth_below : goal.returns-clause-depth_below
returns-clause-depth_below c = scoped_below_depth
