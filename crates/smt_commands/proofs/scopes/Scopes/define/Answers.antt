use Rattle.smt_commands.proofs.Marks.{more_within, view_more}
use Rattle.smt_commands.proofs.scopes.Scopes.define.Goals as goal

pub invariant_of-result : goal.invariant_of-result
invariant_of-result c = (more_within c.self.inside.table.entries c.in_ok-table.table.entries _ c.self.inside.marks c.in_ok-table.ensures c.self.inside.within, tt)

pub returns : goal.returns
returns c = view_more c.self.inside.table.entries c.in_ok-table.table.entries _ c.self.inside.marks c.args.self c.in_ok-table.ensures c.self.inside.within c.self.view_is
