use Rattle.std.proofs.Common.{◌∷◌, [], length, subst, sym}
use Rattle.proof_grammar.specs.declared.lines.Owed.TheVariants as o
use Rattle.proof_grammar.specs.declared.lines.TextLine.TheVariants as w
use Rattle.proof_grammar.specs.Stands.{StandsBefore}
use Rattle.proof_grammar.proofs.Standing.{headed_one, headed_two, stands_headed}
use Rattle.proof_grammar.proofs.openings.parts_of.Goals as goal

pub returns-then-format-eq1-clause-found : goal.returns-then-format-eq1-clause-found
returns-then-format-eq1-clause-found c =
    subst (λ z. StandsBefore z (w.Head 1 ∷ []) (o.Charges (length z) ∷ []) c.args.text.now c.args.inner.now) (sym c.new.ensures)
    (headed_one c.args.format c.args.text.now c.args.inner.now c.if-format-eq1.true (stands_headed c.args.format c.args.text.now c.args.inner.now c.requires.format c.requires.headed))

pub listed_parts-requires : goal.listed_parts-requires
listed_parts-requires c = headed_two c.args.format c.args.text.now c.args.inner.now c.requires.format c.if-format-eq1.false (stands_headed c.args.format c.args.text.now c.args.inner.now c.requires.format c.requires.headed)
