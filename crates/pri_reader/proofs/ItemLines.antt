-- How blocks of functions and predicates are read.
use Rattle.std.proofs.Common.{ℕ, ◌≡◌, Bool, true, false, List, [], ◌++◌, refl, ◌∙◌}
use Rattle.pri_tokens.specs.declared.terminals.Terminal.TheVariants as t
use Rattle.pri_tokens.specs.declared.terminals.Lexeme.{Lexeme}
use Rattle.pri_reader.specs.declared.tree.Item.{Item}
use Rattle.pri_reader.specs.declared.tree.ReadRefusal.{ReadRefusal}
use Rattle.pri_reader.specs.declared.classes.Heading.TheVariants as h
use Rattle.pri_reader.specs.Grammar.{Takes, items_block, is_problem}
use Rattle.pri_reader.specs.MachineStates.{a_brace, an_item_line, an_item}
use Rattle.pri_reader.specs.Machine.{items_for}
use Rattle.pri_reader.specs.Reading.{NotNext, Unwanted}
use Rattle.pri_reader.specs.BlockReading.{BeginsLine, IsBlock, IsNoBlock, NoLine, PassesStates, StopsReader, with_items}
use Rattle.pri_reader.proofs.Exits.{through}
use Rattle.pri_reader.proofs.BlockSteps.{brace_bad, brace_items, item_line_bad, item_line_close, item_line_int, item_line_pass}

pub line_typed : {b : List ℕ} {typed : Bool} {x : Lexeme} {t0 t1 : List Lexeme} → typed ≡ true → Takes t.Int x t0 t1 → BeginsLine b typed t0 t1
line_typed h s = record { run = λ i e. item_line_int _ _ _ _ _ (e ∙ h) s }

pub line_untyped : {b : List ℕ} {typed : Bool} {t0 : List Lexeme} → NotNext t.CloseBrace t0 → typed ≡ false → BeginsLine b typed t0 t0
line_untyped n h = record { run = λ i e. item_line_pass _ _ _ (e ∙ h) n }

pub line_none : {b : List ℕ} {typed : Bool} {t0 : List Lexeme} {e : ReadRefusal} → NotNext t.CloseBrace t0 → typed ≡ true → Unwanted t.Int b t0 e → NoLine b typed t0 e
line_none n h u = record { run = λ i e. rw u.is (item_line_bad _ _ _ (e ∙ h) n u.no) }

pub items_lines_begin : {b : List ℕ} {at : ℕ} {typed : Bool} {x : Lexeme} {t0 t1 : List Lexeme}
    → Takes t.OpenBrace x t0 t1 → PassesStates b t0 (λ blocks. a_brace (h.Items typed) at blocks) t1 (λ blocks. an_item_line (items_for typed at [] blocks))
items_lines_begin s = record { run = λ blocks. brace_items _ _ _ _ _ _ _ s }

pub items_lines_next : {b : List ℕ} {at : ℕ} {typed : Bool} {items others : List Item} {t0 t1 t2 t3 : List Lexeme}
    → PassesStates b t0 (λ blocks. a_brace (h.Items typed) at blocks) t1 (λ blocks. an_item_line (items_for typed at items blocks)) → BeginsLine b typed t1 t2 → PassesStates b t2 (λ i. an_item i) t3 (λ i. an_item_line (with_items i others)) → PassesStates b t0 (λ blocks. a_brace (h.Items typed) at blocks) t3 (λ blocks. an_item_line (items_for typed at (items ++ others) blocks))
items_lines_next {at} {typed} {items} i l r = record { run = λ blocks. i.run blocks ∙ l.run (items_for typed at items blocks) refl ∙ r.run (items_for typed at items blocks) }

items_kind : (typed : Bool) (at : ℕ) (items : List Item) → is_problem (items_block typed at items) ≡ false
items_kind true at items = refl
items_kind false at items = refl

pub items_lines_end : {b : List ℕ} {at : ℕ} {typed : Bool} {x : Lexeme} {items : List Item} {t0 t1 t2 : List Lexeme}
    → PassesStates b t0 (λ blocks. a_brace (h.Items typed) at blocks) t1 (λ blocks. an_item_line (items_for typed at items blocks)) → Takes t.CloseBrace x t1 t2 → IsBlock b (h.Items typed) at (items_block typed at items) t0 t2
items_lines_end {at} {typed} {items} i s = record { run = λ blocks. i.run blocks ∙ item_line_close _ _ _ _ _ s; kind = items_kind typed at items }

pub items_lines_no_brace : {b : List ℕ} {at : ℕ} {typed : Bool} {e : ReadRefusal} {t0 : List Lexeme}
    → Unwanted t.OpenBrace b t0 e → IsNoBlock b (h.Items typed) at t0 e
items_lines_no_brace u = record { run = λ blocks. rw u.is (brace_bad _ _ _ _ _ u.no) }

pub items_lines_no_line : {b : List ℕ} {at : ℕ} {typed : Bool} {e : ReadRefusal} {items : List Item} {t0 t1 : List Lexeme}
    → PassesStates b t0 (λ blocks. a_brace (h.Items typed) at blocks) t1 (λ blocks. an_item_line (items_for typed at items blocks)) → NoLine b typed t1 e → IsNoBlock b (h.Items typed) at t0 e
items_lines_no_line {at} {typed} {e} {items} i l = record { run = λ blocks. through e (i.run blocks) (l.run (items_for typed at items blocks) refl) }

pub items_lines_no_items : {b : List ℕ} {at : ℕ} {typed : Bool} {e : ReadRefusal} {items : List Item} {t0 t1 t2 : List Lexeme}
    → PassesStates b t0 (λ blocks. a_brace (h.Items typed) at blocks) t1 (λ blocks. an_item_line (items_for typed at items blocks)) → BeginsLine b typed t1 t2 → StopsReader b (λ i. an_item i) t2 e → IsNoBlock b (h.Items typed) at t0 e
items_lines_no_items {at} {typed} {e} {items} i l r = record { run = λ blocks. through e (i.run blocks ∙ l.run (items_for typed at items blocks) refl) (r.run (items_for typed at items blocks)) }
