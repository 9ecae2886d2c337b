use Rattle.std.proofs.Common.{ap, ◌∙◌, []}
use Rattle.pri_typing.specs.declared.scope.Category.TheVariants.{Formula}
use Rattle.pri_typing.specs.Sites.{scope_at}
use Rattle.pri_typing.specs.Faults.{earlier, faults, least}
use Rattle.pri_typing.specs.Files.{declaration_faults, parts_faults}
use Rattle.pri_typing.specs.Phrase.{first_token, phrase}
use Rattle.pri_typing.proofs.resolution.file_fault.Goals as goal

pub returns : goal.returns
returns c =
    let here = c.args.here.now in
    let p = phrase c.args.expr.now in
    c.earlier_of.ensures
    ∙ ap (λ z. earlier z c.in_ok-parts.parts) (c.earlier_of-typed.ensures ∙ ap (λ z. earlier z c.fault-2.result) c.fault.ensures ∙ ap (earlier (least (declaration_faults [] here.symbols.now))) c.fault-2.ensures)
    ∙ ap (earlier (earlier (least (declaration_faults [] here.symbols.now)) (least (faults (scope_at here) Formula (first_token p) p))))
    (c.in_ok-parts.ensures ∙ ap (λ b. least (parts_faults here.parts.now b c.args.blocks.now p)) c.has_existentials-existential.ensures)
