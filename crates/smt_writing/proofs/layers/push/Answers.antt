use Rattle.std.proofs.Common.{◌≡◌, length, ap, ◌∙◌, rules}
use Rattle.smt_writing.specs.Layers.{first_number, names_at}
use Rattle.smt_writing.proofs.Layering.{heights-pushed, layered-pushed, names-pushed}
use Rattle.smt_writing.proofs.layers.push.Goals as goal

pub returns-clause-layered : goal.returns-clause-layered
returns-clause-layered c =
    layered-pushed c.args.layers.now.items c.push.new.self.items _ c.in_ok-push.ensures.items c.requires.layered c.requires.within
    (c.in_ok-start.ensures ∙ ap (λ z. first_number c.args.names (length (names_at z c.args.outer))) c.as_slice.ensures.value)

pub returns-clause-said : goal.returns-clause-said
returns-clause-said c =
    let many : c.len.result ≡ length c.push.new.self.items = search rules in
    names-pushed c.args.layers.now.items c.push.new.self.items _ c.len.result c.in_ok-push.ensures.items many

pub returns-clause-height : goal.returns-clause-height
returns-clause-height c =
    let many : c.len.result ≡ length c.push.new.self.items = search rules in
    heights-pushed c.args.layers.now.items c.push.new.self.items _ c.len.result c.in_ok-push.ensures.items many
