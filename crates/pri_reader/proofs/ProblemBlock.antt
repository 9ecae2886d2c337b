-- How the problem of a file is read.
use Rattle.std.proofs.Common.{ℕ, List, [], ◌∷◌, refl, ◌∙◌}
use Rattle.pri_tokens.specs.declared.terminals.Terminal.TheVariants as t
use Rattle.pri_tokens.specs.declared.terminals.Lexeme.{Lexeme}
use Rattle.pri_reader.specs.declared.tree.Expr.{Expr}
use Rattle.pri_reader.specs.declared.tree.Block.TheVariants as block
use Rattle.pri_reader.specs.declared.tree.ReadRefusal.{ReadRefusal}
use Rattle.pri_reader.specs.declared.classes.Heading.TheVariants as h
use Rattle.pri_reader.specs.Grammar.{Takes, equivalence}
use Rattle.pri_reader.specs.MachineStates.{problem_of, a_unary, under_right}
use Rattle.pri_reader.specs.Reading.{IsRead, IsReadRefused, Unwanted}
use Rattle.pri_reader.specs.BlockReading.{IsBlock, IsNoBlock}
use Rattle.pri_reader.proofs.Exits.{through}
use Rattle.pri_reader.proofs.BlockSteps.{brace_bad, brace_problem, problem_bad, problem_close}

pub problem_no_brace : {b : List ℕ} {at : ℕ} {e : ReadRefusal} {t0 : List Lexeme}
    → Unwanted t.OpenBrace b t0 e → IsNoBlock b h.Problem at t0 e
problem_no_brace u = record { run = λ blocks. rw u.is (brace_bad _ _ _ _ _ u.no) }

pub problem_none : {b : List ℕ} {at : ℕ} {x : Lexeme} {e : ReadRefusal} {t0 t1 : List Lexeme}
    → Takes t.OpenBrace x t0 t1 → IsReadRefused b (a_unary 0) (under_right equivalence 0 []) t1 e → IsNoBlock b h.Problem at t0 e
problem_none {at} {e} s r = record { run = λ blocks. through e (brace_problem _ _ _ _ _ _ s) (r.run (problem_of at blocks ∷ [])) }

pub problem_no_end : {b : List ℕ} {at : ℕ} {f : Expr} {x : Lexeme} {e : ReadRefusal} {t0 t1 t2 : List Lexeme}
    → Takes t.OpenBrace x t0 t1 → IsRead b (a_unary 0) (under_right equivalence 0 []) f t1 t2 → Unwanted t.CloseBrace b t2 e → IsNoBlock b h.Problem at t0 e
problem_no_end {at} s r u = record { run = λ blocks. rw u.is (brace_problem _ _ _ _ _ _ s ∙ r.run (problem_of at blocks ∷ []) ∙ problem_bad _ _ _ _ _ u.no) }

pub problem_read : {b : List ℕ} {at : ℕ} {f : Expr} {x y : Lexeme} {t0 t1 t2 t3 : List Lexeme}
    → Takes t.OpenBrace x t0 t1 → IsRead b (a_unary 0) (under_right equivalence 0 []) f t1 t2 → Takes t.CloseBrace y t2 t3 → IsBlock b h.Problem at (block.Problem at f) t0 t3
problem_read {at} s r c = record { run = λ blocks. brace_problem _ _ _ _ _ _ s ∙ r.run (problem_of at blocks ∷ []) ∙ problem_close _ _ _ _ _ _ _ c; kind = refl }
