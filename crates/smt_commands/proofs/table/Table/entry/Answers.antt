use Rattle.std.proofs.Common.{◌≡◌, ◌∙◌, sym, None, option_copied, rules}
use Rattle.base_texts.proofs.Kept.{position_is, texts_of}
use Rattle.smt_commands.proofs.Tables.{entry_found, entry_missed}
use Rattle.smt_commands.proofs.table.Table.entry.Goals as goal

pub returns-in_err-get_index_of : goal.returns-in_err-get_index_of
returns-in_err-get_index_of c =
    let table = c.args.self.now in
    let missed = entry_missed c.args.text.now table.entries (texts_of table.texts.keys) table.same_texts
    (sym (c.get_index_of.ensures.index ∙ position_is c.args.text.now table.texts.keys) ∙ c.in_err-get_index_of.was) in
    let none : option_copied c.from_residual.result ≡ None = search rules in
    none ∙ sym missed

pub returns : goal.returns
returns c =
    let table = c.args.self.now in
    c.get.ensures.value
    ∙ sym (entry_found c.args.text.now table.entries (texts_of table.texts.keys) c.in_ok-get_index_of.field-0 table.same_texts
    (sym (c.get_index_of.ensures.index ∙ position_is c.args.text.now table.texts.keys) ∙ c.in_ok-get_index_of.was))
