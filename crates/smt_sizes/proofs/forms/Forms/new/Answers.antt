use Rattle.std.proofs.Common.{length, ap}
use Rattle.smt_sizes.proofs.Describing.{no-forms}
use Rattle.smt_sizes.proofs.forms.Forms.new.Goals as goal

pub returns : goal.returns
returns c = (ap length c.new.ensures.items, no-forms c.new.result.items)
