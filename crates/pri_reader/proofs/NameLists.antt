-- How lists of names are read.
use Rattle.std.proofs.Common.{ℕ, List, [], ◌∷◌, ◌++◌, refl, ◌∙◌}
use Rattle.pri_tokens.specs.declared.terminals.Terminal.TheVariants as t
use Rattle.pri_tokens.specs.declared.terminals.Lexeme.{Lexeme}
use Rattle.pri_reader.specs.declared.tree.Name.{Name}
use Rattle.pri_reader.specs.declared.tree.ReadRefusal.{ReadRefusal}
use Rattle.pri_reader.specs.Grammar.{name_of, Takes}
use Rattle.pri_reader.specs.MachineStates.{a_name, names_more}
use Rattle.pri_reader.specs.Reading.{file_setting, Unwanted}
use Rattle.pri_reader.specs.BlockReading.{PassesStates, StopsReader}
use Rattle.pri_reader.proofs.BlockSteps.{name_here_bad, name_here_step, names_comma}

pub names_begin : {b : List ℕ} {t0 : List Lexeme} → PassesStates b t0 (λ for. a_name for []) t0 (λ for. a_name for [])
names_begin = record { run = λ for. refl }

pub names_next : {b : List ℕ} {names : List Name} {x y : Lexeme} {t0 t1 t2 t3 : List Lexeme}
    → PassesStates b t0 (λ for. a_name for []) t1 (λ for. a_name for names) → Takes t.Identifier x t1 t2 → Takes t.Comma y t2 t3 → PassesStates b t0 (λ for. a_name for []) t3 (λ for. a_name for (names ++ name_of (file_setting b) x ∷ []))
names_next i s c = record { run = λ for. i.run for ∙ name_here_step _ _ _ _ _ _ s ∙ names_comma _ _ _ _ _ _ c }

pub names_end : {b : List ℕ} {names : List Name} {x : Lexeme} {t0 t1 t2 : List Lexeme}
    → PassesStates b t0 (λ for. a_name for []) t1 (λ for. a_name for names) → Takes t.Identifier x t1 t2 → PassesStates b t0 (λ for. a_name for []) t2 (λ for. names_more for (names ++ name_of (file_setting b) x ∷ []))
names_end i s = record { run = λ for. i.run for ∙ name_here_step _ _ _ _ _ _ s }

pub names_none : {b : List ℕ} {names : List Name} {e : ReadRefusal} {t0 t1 : List Lexeme}
    → PassesStates b t0 (λ for. a_name for []) t1 (λ for. a_name for names) → Unwanted t.Identifier b t1 e → StopsReader b (λ for. a_name for []) t0 e
names_none i u = record { run = λ for. rw u.is (i.run for ∙ name_here_bad _ _ _ _ u.no) }
