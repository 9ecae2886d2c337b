use Rattle.std.proofs.Common.{◌≡◌, ◌∷◌, ◌==◌, ◌∙◌, ap, sym, length, true, false, arith}
use Rattle.std.proofs.lemmas.Grind.{common_steps}
use Rattle.smt_commands.proofs.Forms.{long_constant}
use Rattle.smt_commands.proofs.command.define_const.Goals as goal

pub returns-then-not-is_empty : goal.returns-then-not-is_empty
returns-then-not-is_empty c =
    let e : c.args.rest.now ≡ c.in_ok-name.name.now ∷ c.in_ok-sort.sort.now ∷ c.in_ok-term.term.now ∷ c.in_ok-term.end.now = grind (arith, common_steps) in
    record { exact = long_constant c.args.rest.now c.in_ok-name.name.now c.in_ok-sort.sort.now c.in_ok-term.term.now c.in_ok-term.end.now e (λ h. let f : false ≡ true = sym c.if-not-is_empty.true ∙ c.is_empty.ensures ∙ ap (λ z. length z == 0) h in absurd (cc)) }
