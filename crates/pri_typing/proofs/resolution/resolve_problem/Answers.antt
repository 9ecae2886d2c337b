use Rattle.std.proofs.Common.{◌≡◌, sym, ◌∙◌, inr, refl, None}
use Rattle.pri_typing.specs.Faults.{least}
use Rattle.pri_typing.specs.Files.{file_faults}
use Rattle.pri_typing.specs.Phrase.{phrase}
use Rattle.pri_typing.proofs.Resolving.{file_least, ready_is, typed_is}
use Rattle.pri_typing.proofs.resolution.resolve_problem.Goals as goal

pub returns-in-Some-clause-refused : goal.returns-in-Some-clause-refused
returns-in-Some-clause-refused c = inr (sym (file_least c.args.blocks.now c.in_ok-symbols.symbols c.in_ok-parts.parts (phrase c.args.expr.now)
    c.in_ok-symbols.ensures c.in_ok-parts.ensures c.requires.formula c.in_ok-refusal.ensures) ∙ c.in-Some.is)

pub returns-clause-sound : goal.returns-clause-sound
returns-clause-sound c = sym (file_least c.args.blocks.now c.in_ok-symbols.symbols c.in_ok-parts.parts (phrase c.args.expr.now)
    c.in_ok-symbols.ensures c.in_ok-parts.ensures c.requires.formula c.in_ok-refusal.ensures) ∙ c.in-None.is

pub pose-requires : goal.pose-requires
pose-requires c =
    let none : least (file_faults (record { blocks = c.args.blocks.now })) ≡ None =
    sym (file_least c.args.blocks.now c.in_ok-symbols.symbols c.in_ok-parts.parts (phrase c.args.expr.now)
    c.in_ok-symbols.ensures c.in_ok-parts.ensures c.requires.formula c.in_ok-refusal.ensures) ∙ c.in-None.is in
    ready_is c.args.blocks.now _ (phrase c.args.expr.now) c.in_ok-symbols.ensures c.in_ok-parts.ensures refl c.requires.formula c.requires.limits none

pub returns-clause-typed : goal.returns-clause-typed
returns-clause-typed c = typed_is c.args.blocks.now _ (phrase c.args.expr.now) c.in_ok-pose-in-None.field-0 c.in_ok-symbols.ensures c.in_ok-parts.ensures refl c.requires.formula c.in_ok-pose-in-None.ensures
