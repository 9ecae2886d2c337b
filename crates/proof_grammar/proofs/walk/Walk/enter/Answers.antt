use Rattle.std.proofs.Common.{◌≡◌, ◌∷◌, ◌+◌, ◌-◌, ◌++◌, refl, ap, ◌∙◌, sym, arith}
use Rattle.proof_grammar.specs.declared.lines.Owed.TheVariants as o
use Rattle.proof_grammar.specs.Owed.{last_owed, nodes_owed}
use Rattle.proof_grammar.specs.declared.walk.Open.{Open}
use Rattle.proof_grammar.specs.declared.walk.Place.TheVariants as at
use Rattle.proof_grammar.specs.Walks.{owed_at}
use Rattle.proof_grammar.proofs.Walking.{enter_inside, node_parts}
use Rattle.proof_grammar.proofs.walk.Walk.enter.Goals as goal

pub returns-clause-ok : goal.returns-clause-ok
returns-clause-ok c = λ m os e.
    let f = c.in-Inside.node in let parts = c.args.self.now.parts in
    let rest : Open = record { rule = f.rule; left = c.saturating_sub.result; below = f.below; logged = f.logged } in
    let less : c.saturating_sub.result ≡ f.left - 1 = (let s = c.saturating_sub.ensures in omega (arith, s)) in
    let same : m ≡ parts = node_parts parts m c.args.level c.args.self.now.place c.args.self.now.outer os e in
    let made = nodes_owed parts c.args.count (c.args.level + 1) ++ last_owed parts c.args.rule in
    let inside : owed_at parts (at.Inside f) c.args.self.now.outer ≡ o.Node c.args.level parts ∷ os = sym (ap (λ p. owed_at parts p c.args.self.now.outer) c.in-Inside.is) ∙ e ∙ ap (λ k. o.Node c.args.level k ∷ os) same in
    ap (λ z. owed_at parts (at.Inside c.opened-2.result) z) c.in_ok-push.ensures.ok
    ∙ enter_inside parts f rest c.opened-2.result c.args.self.now.outer c.args.level made os refl less refl refl (c.opened-2.ensures parts) inside
    ∙ ap (λ k. (nodes_owed k c.args.count (c.args.level + 1) ++ last_owed k c.args.rule) ++ os) (sym same)
