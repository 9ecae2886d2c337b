-- How declared functions and predicates are read.
use Rattle.std.proofs.Common.{ℕ, suc, ◌≡◌, List, [], ◌∷◌, ◌++◌, refl, sym, ap, ◌∙◌, append_assoc, append-nil, inl, inr}
use Rattle.pri_tokens.specs.declared.terminals.Terminal.TheVariants as t
use Rattle.pri_tokens.specs.declared.terminals.Lexeme.{Lexeme}
use Rattle.pri_reader.specs.declared.tree.Name.{Name}
use Rattle.pri_reader.specs.declared.tree.Item.{Item}
use Rattle.pri_reader.specs.declared.tree.ReadRefusal.{ReadRefusal}
use Rattle.pri_reader.specs.Grammar.{name_of, Takes}
use Rattle.pri_reader.specs.MachineStates.{ItemsFor, an_item_line, an_item, behind_item, a_parameter, behind_int, parameters_more, items_more}
use Rattle.pri_reader.specs.Machine.{items_for, with_item}
use Rattle.pri_reader.specs.Reading.{file_setting, reads, NotNext, Unwanted}
use Rattle.pri_reader.specs.BlockReading.{MayTake, PassesStates, StopsReader, with_items}
use Rattle.pri_reader.proofs.Exits.{through}
use Rattle.pri_reader.proofs.BlockSteps.{item_bad, item_bare_pass, item_empty, item_open, item_parameters_pass, item_step, items_bad, items_comma, items_end, parameter_bad, parameter_named, parameter_step, parameter_unnamed_pass, parameters_bad, parameters_close, parameters_comma}

pub parameters_begin : {b : List ℕ} {t0 : List Lexeme} → PassesStates b t0 (λ (p : ItemsFor × Name). a_parameter p.0 p.1 0) t0 (λ (p : ItemsFor × Name). a_parameter p.0 p.1 0)
parameters_begin = record { run = λ p. refl }

-- the name of an argument may be left out
parameter_name : (b : List ℕ) (i : ItemsFor) (name : Name) (n : ℕ) {t0 t1 : List Lexeme} → MayTake t.Identifier t0 t1 → reads b t0 (behind_int i name n) [] ≡ reads b t1 (parameters_more i name n) []
parameter_name b i name n {t0} {t1} (inl s) = parameter_named _ _ _ _ _ _ _ s.1
parameter_name b i name n {t0} {t1} (inr h) = parameter_unnamed_pass _ _ _ _ _ h.0 ∙ ap (λ z. reads b z (parameters_more i name n) []) (sym h.1)

pub parameters_next : {b : List ℕ} {n : ℕ} {x y : Lexeme} {t0 t1 t2 t3 t4 : List Lexeme}
    → PassesStates b t0 (λ (p : ItemsFor × Name). a_parameter p.0 p.1 0) t1 (λ (p : ItemsFor × Name). a_parameter p.0 p.1 n) → Takes t.Int x t1 t2 → MayTake t.Identifier t2 t3 → Takes t.Comma y t3 t4 → PassesStates b t0 (λ (p : ItemsFor × Name). a_parameter p.0 p.1 0) t4 (λ (p : ItemsFor × Name). a_parameter p.0 p.1 (suc n))
parameters_next {b} {n} i s m c = record { run = λ p. i.run p ∙ parameter_step _ _ _ _ _ _ _ s ∙ parameter_name b p.0 p.1 (suc n) m ∙ parameters_comma _ _ _ _ _ _ _ c }

pub parameters_end : {b : List ℕ} {n : ℕ} {x y : Lexeme} {t0 t1 t2 t3 t4 : List Lexeme}
    → PassesStates b t0 (λ (p : ItemsFor × Name). a_parameter p.0 p.1 0) t1 (λ (p : ItemsFor × Name). a_parameter p.0 p.1 n) → Takes t.Int x t1 t2 → MayTake t.Identifier t2 t3 → Takes t.CloseParenthesis y t3 t4 → PassesStates b t0 (λ (p : ItemsFor × Name). a_parameter p.0 p.1 0) t4 (λ (p : ItemsFor × Name). items_more (with_item p.0 p.1 (suc n)))
parameters_end {b} {n} i s m c = record { run = λ p. i.run p ∙ parameter_step _ _ _ _ _ _ _ s ∙ parameter_name b p.0 p.1 (suc n) m ∙ parameters_close _ _ _ _ _ _ _ c }

pub parameters_none : {b : List ℕ} {n : ℕ} {e : ReadRefusal} {t0 t1 : List Lexeme}
    → PassesStates b t0 (λ (p : ItemsFor × Name). a_parameter p.0 p.1 0) t1 (λ (p : ItemsFor × Name). a_parameter p.0 p.1 n) → Unwanted t.Int b t1 e → StopsReader b (λ (p : ItemsFor × Name). a_parameter p.0 p.1 0) t0 e
parameters_none i u = record { run = λ p. rw u.is (i.run p ∙ parameter_bad _ _ _ _ _ u.no) }

pub parameters_no_end : {b : List ℕ} {n : ℕ} {x : Lexeme} {e : ReadRefusal} {t0 t1 t2 t3 : List Lexeme}
    → PassesStates b t0 (λ (p : ItemsFor × Name). a_parameter p.0 p.1 0) t1 (λ (p : ItemsFor × Name). a_parameter p.0 p.1 n) → Takes t.Int x t1 t2 → MayTake t.Identifier t2 t3 → NotNext t.Comma t3 → Unwanted t.CloseParenthesis b t3 e → StopsReader b (λ (p : ItemsFor × Name). a_parameter p.0 p.1 0) t0 e
parameters_no_end {b} {n} i s m n1 u = record { run = λ p. rw u.is (i.run p ∙ parameter_step _ _ _ _ _ _ _ s ∙ parameter_name b p.0 p.1 (suc n) m ∙ parameters_bad _ _ _ _ _ n1 u.no) }

pub arity_bare : {b : List ℕ} {t0 : List Lexeme}
    → NotNext t.OpenParenthesis t0 → PassesStates b t0 (λ (p : ItemsFor × Name). behind_item p.0 p.1) t0 (λ (p : ItemsFor × Name). items_more (with_item p.0 p.1 0))
arity_bare n1 = record { run = λ p. item_bare_pass _ _ _ _ n1 }

pub arity_empty : {b : List ℕ} {x y : Lexeme} {t0 t1 t2 : List Lexeme}
    → Takes t.OpenParenthesis x t0 t1 → Takes t.CloseParenthesis y t1 t2 → PassesStates b t0 (λ (p : ItemsFor × Name). behind_item p.0 p.1) t2 (λ (p : ItemsFor × Name). items_more (with_item p.0 p.1 0))
arity_empty s c = record { run = λ p. item_open _ _ _ _ _ _ s ∙ item_empty _ _ _ _ _ _ c }

pub arity_some : {b : List ℕ} {count : ℕ} {x : Lexeme} {t0 t1 t2 : List Lexeme}
    → Takes t.OpenParenthesis x t0 t1 → NotNext t.CloseParenthesis t1 → PassesStates b t1 (λ (p : ItemsFor × Name). a_parameter p.0 p.1 0) t2 (λ (p : ItemsFor × Name). items_more (with_item p.0 p.1 count)) → PassesStates b t0 (λ (p : ItemsFor × Name). behind_item p.0 p.1) t2 (λ (p : ItemsFor × Name). items_more (with_item p.0 p.1 count))
arity_some s n1 r = record { run = λ p. item_open _ _ _ _ _ _ s ∙ item_parameters_pass _ _ _ _ n1 ∙ r.run p }

pub arity_none : {b : List ℕ} {x : Lexeme} {e : ReadRefusal} {t0 t1 : List Lexeme}
    → Takes t.OpenParenthesis x t0 t1 → NotNext t.CloseParenthesis t1 → StopsReader b (λ (p : ItemsFor × Name). a_parameter p.0 p.1 0) t1 e → StopsReader b (λ (p : ItemsFor × Name). behind_item p.0 p.1) t0 e
arity_none {e} s n1 r = record { run = λ p. through e (item_open _ _ _ _ _ _ s ∙ item_parameters_pass _ _ _ _ n1) (r.run p) }

pub item_read : {b : List ℕ} {n : ℕ} {x : Lexeme} {t0 t1 t2 : List Lexeme}
    → Takes t.Identifier x t0 t1 → PassesStates b t1 (λ (p : ItemsFor × Name). behind_item p.0 p.1) t2 (λ (p : ItemsFor × Name). items_more (with_item p.0 p.1 n)) → PassesStates b t0 (λ i. an_item i) t2 (λ i. items_more (with_item i (name_of (file_setting b) x) n))
item_read {b} {x} s r = record { run = λ i. item_step _ _ _ _ _ s ∙ r.run (i, name_of (file_setting b) x) }

pub item_none : {b : List ℕ} {e : ReadRefusal} {t0 : List Lexeme}
    → Unwanted t.Identifier b t0 e → StopsReader b (λ i. an_item i) t0 e
item_none u = record { run = λ i. rw u.is (item_bad _ _ _ u.no) }

pub item_no_arity : {b : List ℕ} {x : Lexeme} {e : ReadRefusal} {t0 t1 : List Lexeme}
    → Takes t.Identifier x t0 t1 → StopsReader b (λ (p : ItemsFor × Name). behind_item p.0 p.1) t1 e → StopsReader b (λ i. an_item i) t0 e
item_no_arity {b} {x} {e} s r = record { run = λ i. through e (item_step _ _ _ _ _ s) (r.run (i, name_of (file_setting b) x)) }

one_more : (i : ItemsFor) (items : List Item) (item : Item) → with_item (with_items i items) item.name item.arity ≡ with_items i (items ++ item ∷ [])
one_more i items item = ap (λ z. items_for i.typed i.at z i.blocks) (append_assoc i.items items (item ∷ []))

none_more : (i : ItemsFor) → i ≡ with_items i []
none_more i = ap (λ z. items_for i.typed i.at z i.blocks) (sym (append-nil i.items))

pub items_begin : {b : List ℕ} {t0 : List Lexeme} → PassesStates b t0 (λ i. an_item i) t0 (λ i. an_item (with_items i []))
items_begin {b} {t0} = record { run = λ i. ap (λ z. reads b t0 (an_item z) []) (none_more i) }

pub items_next : {b : List ℕ} {x : Lexeme} {items : List Item} {item : Item} {t0 t1 t2 t3 : List Lexeme}
    → PassesStates b t0 (λ i. an_item i) t1 (λ i. an_item (with_items i items)) → PassesStates b t1 (λ i. an_item i) t2 (λ i. items_more (with_item i item.name item.arity)) → Takes t.Comma x t2 t3 → PassesStates b t0 (λ i. an_item i) t3 (λ i. an_item (with_items i (items ++ item ∷ [])))
items_next {b} {items} {item} {t2} i r c = record { run = λ a. i.run a ∙ r.run (with_items a items) ∙ ap (λ z. reads b t2 (items_more z) []) (one_more a items item) ∙ items_comma _ _ _ _ _ c }

pub items_close : {b : List ℕ} {x : Lexeme} {items : List Item} {item : Item} {t0 t1 t2 t3 : List Lexeme}
    → PassesStates b t0 (λ i. an_item i) t1 (λ i. an_item (with_items i items)) → PassesStates b t1 (λ i. an_item i) t2 (λ i. items_more (with_item i item.name item.arity)) → Takes t.Semicolon x t2 t3 → PassesStates b t0 (λ i. an_item i) t3 (λ i. an_item_line (with_items i (items ++ item ∷ [])))
items_close {b} {items} {item} {t2} i r c = record { run = λ a. i.run a ∙ r.run (with_items a items) ∙ ap (λ z. reads b t2 (items_more z) []) (one_more a items item) ∙ items_end _ _ _ _ _ c }

pub items_none : {b : List ℕ} {e : ReadRefusal} {items : List Item} {t0 t1 : List Lexeme}
    → PassesStates b t0 (λ i. an_item i) t1 (λ i. an_item (with_items i items)) → StopsReader b (λ i. an_item i) t1 e → StopsReader b (λ i. an_item i) t0 e
items_none {e} {items} i r = record { run = λ a. through e (i.run a) (r.run (with_items a items)) }

pub items_no_end : {b : List ℕ} {e : ReadRefusal} {items : List Item} {item : Item} {t0 t1 t2 : List Lexeme}
    → PassesStates b t0 (λ i. an_item i) t1 (λ i. an_item (with_items i items)) → PassesStates b t1 (λ i. an_item i) t2 (λ i. items_more (with_item i item.name item.arity)) → NotNext t.Comma t2 → Unwanted t.Semicolon b t2 e → StopsReader b (λ i. an_item i) t0 e
items_no_end {b} {items} {item} {t2} i r n1 u = record { run = λ a. rw u.is (i.run a ∙ r.run (with_items a items) ∙ ap (λ z. reads b t2 (items_more z) []) (one_more a items item) ∙ items_bad _ _ _ n1 u.no) }
