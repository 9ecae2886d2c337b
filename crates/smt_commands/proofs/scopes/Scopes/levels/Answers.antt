use Rattle.std.proofs.Common.{length, ap, ◌∙◌}
use Rattle.smt_commands.proofs.Marks.{open_is}
use Rattle.smt_commands.proofs.scopes.Scopes.levels.Goals as goal

pub returns : goal.returns
returns c = c.len.ensures ∙ open_is c.self.inside.table.entries c.self.inside.marks ∙ ap (λ z. length z.below) c.self.view_is
