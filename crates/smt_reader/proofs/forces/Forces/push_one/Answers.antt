use Rattle.std.proofs.Common.{ap, map, sym, ◌∙◌}
use Rattle.std.proofs.lemmas.List.{length-map}
use Rattle.smt_commands.proofs.Marks.{pushed_marks, pushed_taken}
use Rattle.smt_reader.specs.Effects.{command_is}
use Rattle.smt_reader.proofs.forces.Forces.push_one.Goals as goal

pub invariant_of-result : goal.invariant_of-result
invariant_of-result c = record { within = pushed_marks (map command_is c.args.self.effects) c.args.self.marks c.push.new.self c.len.result (c.len.ensures ∙ sym (length-map c.args.self.effects command_is)) c.in_ok-push.ensures.ok c.args.self.within }

pub returns : goal.returns
returns c =
    ap (λ z. record { now = map command_is c.args.self.effects; below = z })
    (pushed_taken (map command_is c.args.self.effects) c.args.self.marks c.push.new.self c.len.result (c.len.ensures ∙ sym (length-map c.args.self.effects command_is)) c.in_ok-push.ensures.ok)
