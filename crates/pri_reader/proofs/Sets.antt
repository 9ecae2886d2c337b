-- How the sets of an interpolant are read.
use Rattle.std.proofs.Common.{ℕ, ◌≡◌, List, [], ◌∷◌, ◌++◌, Option, Some, None, Err, refl, ap, ◌∙◌}
use Rattle.pri_tokens.specs.declared.terminals.Terminal.TheVariants as t
use Rattle.pri_tokens.specs.declared.terminals.Lexeme.{Lexeme}
use Rattle.pri_reader.specs.declared.tree.Block.{Block}
use Rattle.pri_reader.specs.declared.tree.Block.TheVariants as block
use Rattle.pri_reader.specs.declared.tree.Name.{Name}
use Rattle.pri_reader.specs.declared.tree.NameSet.{NameSet}
use Rattle.pri_reader.specs.declared.tree.ReadRefusal.{ReadRefusal}
use Rattle.pri_reader.specs.declared.tree.ReadRefusal.TheVariants as refusal
use Rattle.pri_reader.specs.declared.classes.Heading.TheVariants as h
use Rattle.pri_reader.specs.Grammar.{Takes, with_set}
use Rattle.pri_reader.specs.MachineStates.{a_block, a_brace, a_name, names_more, for_set}
use Rattle.pri_reader.specs.Reading.{reads, NotNext, Unwanted}
use Rattle.pri_reader.specs.BlockReading.{IsBlock, IsNoBlock, PassesStates, StopsReader}
use Rattle.pri_reader.proofs.Exits.{through}
use Rattle.pri_reader.proofs.BlockSteps.{brace_bad, brace_interpolant, set_bad, set_close, set_next, set_single}

pub sets_begin : {b : List ℕ} {at : ℕ} {x : Lexeme} {t0 t1 : List Lexeme}
    → Takes t.OpenBrace x t0 t1 → PassesStates b t0 (λ blocks. a_brace h.Interpolant at blocks) t1 (λ blocks. a_name (for_set at [] None blocks) [])
sets_begin s = record { run = λ blocks. brace_interpolant _ _ _ _ _ _ s }

pub sets_next : {b : List ℕ} {at : ℕ} {names : List Name} {x : Lexeme} {sets : List NameSet} {start : Option ℕ} {t0 t1 t2 t3 : List Lexeme}
    → PassesStates b t0 (λ blocks. a_brace h.Interpolant at blocks) t1 (λ blocks. a_name (for_set at sets start blocks) []) → PassesStates b t1 (λ for. a_name for []) t2 (λ for. names_more for names) → Takes t.Semicolon x t2 t3 → PassesStates b t0 (λ blocks. a_brace h.Interpolant at blocks) t3 (λ blocks. a_name (for_set at (with_set sets start names) (Some x.at) blocks) [])
sets_next {at} {sets} {start} i r c = record { run = λ blocks. i.run blocks ∙ r.run (for_set at sets start blocks) ∙ set_next _ _ _ _ _ _ _ _ _ c }

pub sets_no_brace : {b : List ℕ} {at : ℕ} {e : ReadRefusal} {t0 : List Lexeme}
    → Unwanted t.OpenBrace b t0 e → IsNoBlock b h.Interpolant at t0 e
sets_no_brace u = record { run = λ blocks. rw u.is (brace_bad _ _ _ _ _ u.no) }

pub sets_none : {b : List ℕ} {at : ℕ} {e : ReadRefusal} {sets : List NameSet} {start : Option ℕ} {t0 t1 : List Lexeme}
    → PassesStates b t0 (λ blocks. a_brace h.Interpolant at blocks) t1 (λ blocks. a_name (for_set at sets start blocks) []) → StopsReader b (λ for. a_name for []) t1 e → IsNoBlock b h.Interpolant at t0 e
sets_none {at} {e} {sets} {start} i r = record { run = λ blocks. through e (i.run blocks) (r.run (for_set at sets start blocks)) }

pub sets_no_end : {b : List ℕ} {at : ℕ} {names : List Name} {e : ReadRefusal} {sets : List NameSet} {start : Option ℕ} {t0 t1 t2 : List Lexeme}
    → PassesStates b t0 (λ blocks. a_brace h.Interpolant at blocks) t1 (λ blocks. a_name (for_set at sets start blocks) []) → PassesStates b t1 (λ for. a_name for []) t2 (λ for. names_more for names) → NotNext t.Comma t2 → NotNext t.Semicolon t2 → Unwanted t.CloseBrace b t2 e → IsNoBlock b h.Interpolant at t0 e
sets_no_end {at} {sets} {start} i r n1 n2 u = record { run = λ blocks. rw u.is (i.run blocks ∙ r.run (for_set at sets start blocks) ∙ set_bad _ _ _ _ _ _ _ n1 n2 u.no) }

set_alone : (b : List ℕ) (x : Lexeme) (at : ℕ) (sets : List NameSet) (start : Option ℕ) (blocks : List Block) (names : List Name) {t0 t1 : List Lexeme} → sets ≡ [] → Takes t.CloseBrace x t0 t1
    → reads b t0 (names_more (for_set at sets start blocks) names) [] ≡ Err (refusal.Syntax x.at)
set_alone b x at sets start blocks names {t0} h c = ap (λ z. reads b t0 (names_more (for_set at z start blocks) names) []) h ∙ set_single _ _ _ _ _ _ _ _ c

sets_enough : (b : List ℕ) (x : Lexeme) (at : ℕ) (sets : List NameSet) (start : Option ℕ) (blocks : List Block) (names : List Name) {t0 t1 : List Lexeme} → (sets ≡ [] → ⊥) → Takes t.CloseBrace x t0 t1
    → reads b t0 (names_more (for_set at sets start blocks) names) [] ≡ reads b t1 (a_block (blocks ++ block.Interpolant at (with_set sets start names) ∷ [])) []
sets_enough b x at [] start blocks names h c = absurd (h refl)
sets_enough b x at (one ∷ sets) start blocks names h c = set_close _ _ _ _ _ _ _ _ _ _ c

pub sets_single : {b : List ℕ} {at : ℕ} {names : List Name} {x : Lexeme} {sets : List NameSet} {start : Option ℕ} {t0 t1 t2 t3 : List Lexeme}
    → PassesStates b t0 (λ blocks. a_brace h.Interpolant at blocks) t1 (λ blocks. a_name (for_set at sets start blocks) []) → PassesStates b t1 (λ for. a_name for []) t2 (λ for. names_more for names) → sets ≡ [] → Takes t.CloseBrace x t2 t3 → IsNoBlock b h.Interpolant at t0 (refusal.Syntax x.at)
sets_single {b} {at} {names} {x} {sets} {start} i r h c = record { run = λ blocks. i.run blocks ∙ r.run (for_set at sets start blocks) ∙ set_alone b x at sets start blocks names h c }

pub sets_end : {b : List ℕ} {at : ℕ} {names : List Name} {x : Lexeme} {sets : List NameSet} {start : Option ℕ} {t0 t1 t2 t3 : List Lexeme}
    → PassesStates b t0 (λ blocks. a_brace h.Interpolant at blocks) t1 (λ blocks. a_name (for_set at sets start blocks) []) → PassesStates b t1 (λ for. a_name for []) t2 (λ for. names_more for names) → (sets ≡ [] → ⊥) → Takes t.CloseBrace x t2 t3 → IsBlock b h.Interpolant at (block.Interpolant at (with_set sets start names)) t0 t3
sets_end {b} {at} {names} {x} {sets} {start} i r h c = record { run = λ blocks. i.run blocks ∙ r.run (for_set at sets start blocks) ∙ sets_enough b x at sets start blocks names h c; kind = refl }
