-- How blocks of constants are read.
use Rattle.std.proofs.Common.{ℕ, ◌≡◌, Bool, true, false, List, [], ◌∷◌, ◌++◌, refl, sym, ap, ◌∙◌}
use Rattle.std.proofs.lemmas.List.{map-append}
use Rattle.pri_tokens.specs.declared.terminals.Terminal.TheVariants as t
use Rattle.pri_tokens.specs.declared.terminals.Lexeme.{Lexeme}
use Rattle.pri_reader.specs.declared.tree.Name.{Name}
use Rattle.pri_reader.specs.declared.tree.TypeName.{TypeName}
use Rattle.pri_reader.specs.declared.tree.Declared.{Declared}
use Rattle.pri_reader.specs.declared.tree.ReadRefusal.{ReadRefusal}
use Rattle.pri_reader.specs.declared.classes.Heading.TheVariants as h
use Rattle.pri_reader.specs.Grammar.{name_of, of_type, all_of_type, Takes, constants_block, is_problem}
use Rattle.pri_reader.specs.MachineStates.{a_brace, a_line, a_name, for_line, for_constants}
use Rattle.pri_reader.specs.Reading.{file_setting, NotNext, ReadsNoType, ReadsType, Unwanted}
use Rattle.pri_reader.specs.BlockReading.{IsBlock, IsNoBlock, PassesStates, PassesNames, StopsReader}
use Rattle.pri_reader.proofs.Exits.{through}
use Rattle.pri_reader.proofs.NameLists.{names_begin, names_next, names_end, names_none}
use Rattle.pri_reader.proofs.BlockSteps.{brace_bad, brace_constants, constants_bad, constants_end, line_close, line_pass}

-- The names of a line, of this type.

-- the tokens so far lead to the next name
pub record LeadsNames (b : List ℕ) (sort : TypeName) (found : List Declared) (tokens rest : List Lexeme) : Type 0 where
  pub names : List Name
  pub typed : found ≡ all_of_type sort names
  pub leads : PassesStates b tokens (λ for. a_name for []) rest (λ for. a_name for names)

one_more : (sort : TypeName) (found : List Declared) (names : List Name) (name : Name) → found ≡ all_of_type sort names
    → found ++ of_type sort name ∷ [] ≡ all_of_type sort (names ++ name ∷ [])
one_more sort found names name e = ap (λ z. z ++ of_type sort name ∷ []) e ∙ sym (map-append (of_type sort) names (name ∷ []))

pub typed_begin : {b : List ℕ} {sort : TypeName} {t0 : List Lexeme} → LeadsNames b sort [] t0 t0
typed_begin = record { names = []; typed = refl; leads = names_begin }

pub typed_next : {b : List ℕ} {sort : TypeName} {found : List Declared} {x y : Lexeme} {t0 t1 t2 t3 : List Lexeme}
    → LeadsNames b sort found t0 t1 → Takes t.Identifier x t1 t2 → Takes t.Comma y t2 t3 → LeadsNames b sort (found ++ of_type sort (name_of (file_setting b) x) ∷ []) t0 t3
typed_next {b = b} {sort = sort} {found = found} {x = x} i s c = record {
  names = i.names ++ name_of (file_setting b) x ∷ [];
  typed = one_more sort found i.names (name_of (file_setting b) x) i.typed;
  leads = names_next i.leads s c;
}

pub typed_end : {b : List ℕ} {sort : TypeName} {found : List Declared} {x : Lexeme} {t0 t1 t2 : List Lexeme}
    → LeadsNames b sort found t0 t1 → Takes t.Identifier x t1 t2 → PassesNames b sort (found ++ of_type sort (name_of (file_setting b) x) ∷ []) t0 t2
typed_end {b = b} {sort = sort} {found = found} {x = x} i s = record {
  names = i.names ++ name_of (file_setting b) x ∷ [];
  typed = one_more sort found i.names (name_of (file_setting b) x) i.typed;
  passes = names_end i.leads s;
}

pub typed_none : {b : List ℕ} {sort : TypeName} {found : List Declared} {e : ReadRefusal} {t0 t1 : List Lexeme}
    → LeadsNames b sort found t0 t1 → Unwanted t.Identifier b t1 e → StopsReader b (λ for. a_name for []) t0 e
typed_none i u = names_none i.leads u

-- The lines.

pub lines_begin : {b : List ℕ} {at : ℕ} {universal : Bool} {x : Lexeme} {t0 t1 : List Lexeme}
    → Takes t.OpenBrace x t0 t1 → PassesStates b t0 (λ blocks. a_brace (h.Constants universal) at blocks) t1 (λ blocks. a_line universal at [] blocks)
lines_begin s = record { run = λ blocks. brace_constants _ _ _ _ _ _ _ s }

pub lines_next : {b : List ℕ} {at : ℕ} {universal : Bool} {sort : TypeName} {names more : List Declared} {y : Lexeme} {t0 t1 t2 t3 t4 : List Lexeme}
    → PassesStates b t0 (λ blocks. a_brace (h.Constants universal) at blocks) t1 (λ blocks. a_line universal at names blocks) → NotNext t.CloseBrace t1 → ReadsType b sort t1 t2
    → PassesNames b sort more t2 t3 → Takes t.Semicolon y t3 t4 → PassesStates b t0 (λ blocks. a_brace (h.Constants universal) at blocks) t4 (λ blocks. a_line universal at (names ++ more) blocks)
lines_next {at} {universal} {sort} {names} i n s r c = rw r.typed (record {
  run = λ blocks. i.run blocks ∙ line_pass _ _ _ _ _ _ n ∙ s.run (for_line universal at names blocks) [] ∙ r.passes.run (for_constants sort universal at names blocks)
      ∙ constants_end _ _ _ _ _ _ _ _ _ _ c;
})

constants_kind : (universal : Bool) (at : ℕ) (names : List Declared) → is_problem (constants_block universal at names) ≡ false
constants_kind true at names = refl
constants_kind false at names = refl

pub lines_end : {b : List ℕ} {at : ℕ} {universal : Bool} {names : List Declared} {x : Lexeme} {t0 t1 t2 : List Lexeme}
    → PassesStates b t0 (λ blocks. a_brace (h.Constants universal) at blocks) t1 (λ blocks. a_line universal at names blocks) → Takes t.CloseBrace x t1 t2 → IsBlock b (h.Constants universal) at (constants_block universal at names) t0 t2
lines_end {at} {universal} {names} i s = record { run = λ blocks. i.run blocks ∙ line_close _ _ _ _ _ _ _ _ s; kind = constants_kind universal at names }

pub lines_no_brace : {b : List ℕ} {at : ℕ} {universal : Bool} {e : ReadRefusal} {t0 : List Lexeme}
    → Unwanted t.OpenBrace b t0 e → IsNoBlock b (h.Constants universal) at t0 e
lines_no_brace u = record { run = λ blocks. rw u.is (brace_bad _ _ _ _ _ u.no) }

pub lines_no_type : {b : List ℕ} {at : ℕ} {universal : Bool} {names : List Declared} {e : ReadRefusal} {t0 t1 : List Lexeme}
    → PassesStates b t0 (λ blocks. a_brace (h.Constants universal) at blocks) t1 (λ blocks. a_line universal at names blocks) → NotNext t.CloseBrace t1 → ReadsNoType b t1 e → IsNoBlock b (h.Constants universal) at t0 e
lines_no_type {at} {universal} {names} {e} i n r = record { run = λ blocks. through e (i.run blocks ∙ line_pass _ _ _ _ _ _ n) (r.run (for_line universal at names blocks) []) }

pub lines_no_name : {b : List ℕ} {at : ℕ} {universal : Bool} {sort : TypeName} {names : List Declared} {e : ReadRefusal} {t0 t1 t2 : List Lexeme}
    → PassesStates b t0 (λ blocks. a_brace (h.Constants universal) at blocks) t1 (λ blocks. a_line universal at names blocks) → NotNext t.CloseBrace t1 → ReadsType b sort t1 t2
    → StopsReader b (λ for. a_name for []) t2 e → IsNoBlock b (h.Constants universal) at t0 e
lines_no_name {at} {universal} {sort} {names} {e} i n s r =
    record { run = λ blocks. through e (i.run blocks ∙ line_pass _ _ _ _ _ _ n ∙ s.run (for_line universal at names blocks) []) (r.run (for_constants sort universal at names blocks)) }

pub lines_no_end : {b : List ℕ} {at : ℕ} {universal : Bool} {sort : TypeName} {names more : List Declared} {e : ReadRefusal} {t0 t1 t2 t3 : List Lexeme}
    → PassesStates b t0 (λ blocks. a_brace (h.Constants universal) at blocks) t1 (λ blocks. a_line universal at names blocks) → NotNext t.CloseBrace t1 → ReadsType b sort t1 t2
    → PassesNames b sort more t2 t3 → NotNext t.Comma t3 → Unwanted t.Semicolon b t3 e → IsNoBlock b (h.Constants universal) at t0 e
lines_no_end {at} {universal} {sort} {names} i n s r c u = record {
  run = λ blocks. rw u.is (i.run blocks ∙ line_pass _ _ _ _ _ _ n ∙ s.run (for_line universal at names blocks) [] ∙ r.passes.run (for_constants sort universal at names blocks)
      ∙ constants_bad _ _ _ _ _ _ _ _ c u.no);
}
