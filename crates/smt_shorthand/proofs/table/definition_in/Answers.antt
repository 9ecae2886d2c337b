use Rattle.std.proofs.Common.{◌≡◌, ◌∙◌, sym, ap, subst, IfOk, None, if◌then◌else◌}
use Rattle.smt_lists.specs.Expressions.{expr}
use Rattle.smt_commands.specs.Commands.{members_of, symbol_of}
use Rattle.smt_shorthand.specs.Table.{definition_by, is_word}
use Rattle.smt_shorthand.proofs.Forms.{definition_known, four}
use Rattle.smt_shorthand.proofs.table.definition_in.Goals as goal

pub returns-then-not-is_word : goal.returns-then-not-is_word
returns-then-not-is_word c =
    let is = four c.args.members.now c.word-item.result c.name-item.result c.parameters-item.result c.sort-item.result c.in-len4.len_at_least c.in-len4.len_below c.word-item.is c.name-item.is c.parameters-item.is c.sort-item.is in
    sym (definition_known c.args.table.now c.args.members.now c.word-item.result c.name-item.result c.parameters-item.result c.sort-item.result c.is_word.result is
    (c.is_word.ensures ∙ ap (λ z. is_word z (symbol_of (expr c.word-item.result))) c.as_slice.ensures)
    ∙ ap (λ z. if z then definition_by c.args.table.now (symbol_of (expr c.name-item.result)) (members_of (expr c.parameters-item.result)) (expr c.sort-item.result) else None) c.if-not-is_word.true)

pub returns : goal.returns
returns c =
    let is = four c.args.members.now c.word-item.result c.name-item.result c.parameters-item.result c.sort-item.result c.in-len4.len_at_least c.in-len4.len_below c.word-item.is c.name-item.is c.parameters-item.is c.sort-item.is in
    let known = definition_known c.args.table.now c.args.members.now c.word-item.result c.name-item.result c.parameters-item.result c.sort-item.result c.is_word.result is
    (c.is_word.ensures ∙ ap (λ z. is_word z (symbol_of (expr c.word-item.result))) c.as_slice.ensures)
    ∙ ap (λ z. if z then definition_by c.args.table.now (symbol_of (expr c.name-item.result)) (members_of (expr c.parameters-item.result)) (expr c.sort-item.result) else None) c.if-not-is_word.false in
    subst (λ z. IfOk c.definition_by.result (λ d. d ≡ z)) (sym known) c.definition_by.ensures
