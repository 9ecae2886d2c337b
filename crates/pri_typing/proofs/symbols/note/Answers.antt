use Rattle.std.proofs.Common.{◌≡◌, ℕ, Bool, nat_eq, Some, None, ap, ◌∙◌, rules, if◌then◌else◌}
use Rattle.indexmap.specs.IndexMap.{get}
use Rattle.indexmap.proofs.CallerLemmas.{insert_entry-new}
use Rattle.std.specs.Cmp.Lexicographic.{pointwise}
use Rattle.std.specs.Global.{Vec}
use Rattle.base_texts.specs.Texts.{is_text}
use Rattle.pri_typing.specs.Symbols.{entry_at, first_entry}
use Rattle.pri_typing.proofs.Tables.{entry_at-append}
use Rattle.pri_typing.proofs.symbols.note.Goals as goal

abbrev eq : Vec ℕ → Vec ℕ → Bool
eq x y = pointwise nat_eq x.items y.items

pub returns-clause-noted : goal.returns-clause-noted
returns-clause-noted c = λ t.
    let absent : entry_at c.args.text.now c.args.index.now.entries ≡ None = search rules in
    let none : get eq c.args.index.now c.in_ok-key.key ≡ None = ap (λ z. entry_at z c.args.index.now.entries) c.in_ok-key.ensures.items ∙ absent in
    ap (entry_at t) (c.in_ok-insert.ensures.entries ∙ insert_entry-new eq c.args.index.now c.in_ok-key.key c.args.entry none)
    ∙ entry_at-append t c.args.index.now.entries c.in_ok-key.key c.args.entry
    ∙ ap (λ z. first_entry (entry_at t c.args.index.now.entries) (if is_text t z then Some c.args.entry else None)) c.in_ok-key.ensures.items
