-- How a chain of formulas is read, member by member.
use Rattle.std.proofs.Common.{ℕ, ◌≡◌, List, [], ◌∷◌, ◌++◌, refl, sym, ap, ◌∙◌}
use Rattle.pri_tokens.specs.declared.terminals.Terminal.TheVariants as t
use Rattle.pri_tokens.specs.declared.terminals.Lexeme.{Lexeme}
use Rattle.pri_reader.specs.declared.tree.Expr.{Expr}
use Rattle.pri_reader.specs.declared.tree.Form.TheVariants as form
use Rattle.pri_reader.specs.declared.tree.ReadRefusal.{ReadRefusal}
use Rattle.pri_reader.specs.Grammar.{disjunction, conjunction, expr, chained, Takes}
use Rattle.pri_reader.specs.MachineStates.{chain_of, a_unary, gives, under_chain}
use Rattle.pri_reader.specs.Reading.{NotNext, LeadsReader, IsRead, IsReadRefused, reads}
use Rattle.pri_reader.proofs.Exits.{through}
use Rattle.pri_reader.proofs.LineSteps.{and_pass, and_step, or_pass, or_step}

-- the members begin with an expression at this offset
pub record BeginsAt (at : ℕ) (fs : List Expr) : Type 0 where
  pub first : Expr
  pub others : List Expr
  pub parts : fs ≡ first ∷ others
  pub place : first.at ≡ at

pub all_conjuncts : (at : ℕ) (fs : List Expr) (f : Expr) → BeginsAt at fs → chained conjunction fs f ≡ expr at (form.And (fs ++ f ∷ []))
all_conjuncts at fs f h = rw (h.parts, sym h.place) refl

pub all_disjuncts : (at : ℕ) (fs : List Expr) (f : Expr) → BeginsAt at fs → chained disjunction fs f ≡ expr at (form.Or (fs ++ f ∷ []))
all_disjuncts at fs f h = rw (h.parts, sym h.place) refl

pub begins_one : (f : Expr) → BeginsAt f.at ([] ++ f ∷ [])
begins_one f = record { first = f; others = []; parts = refl; place = refl }

pub begins_more : {at : ℕ} {fs : List Expr} (f : Expr) → BeginsAt at fs → BeginsAt at (fs ++ f ∷ [])
begins_more f h = record { first = h.first; others = h.others ++ f ∷ []; parts = ap (λ z. z ++ f ∷ []) h.parts; place = h.place }

pub and_part1 : {b : List ℕ} {d : ℕ} {e : ReadRefusal} {t0 : List Lexeme}
    → IsReadRefused b (a_unary d) ([]) t0 e → IsReadRefused b (a_unary d) (under_chain conjunction d []) t0 e
and_part1 {d} h = record { run = λ frames. h.run (chain_of conjunction d [] ∷ frames) }

pub and_one : {b : List ℕ} {d : ℕ} {f : Expr} {t0 t1 : List Lexeme}
    → IsRead b (a_unary d) ([]) (f) t0 t1 → NotNext t.And t1 → IsRead b (a_unary d) (under_chain conjunction d []) (f) t0 t1
and_one {d} r1 n1 = record { run = λ frames. r1.run (chain_of conjunction d [] ∷ frames) ∙ and_pass _ _ _ _ _ _ n1 }

pub and_begun : {b : List ℕ} {d : ℕ} {f : Expr} {x : Lexeme} {t0 t1 t2 : List Lexeme}
    → IsRead b (a_unary d) ([]) (f) t0 t1 → Takes t.And x t1 t2 → LeadsReader b t0 (a_unary d) (under_chain conjunction d []) t2 (a_unary d) (chain_of conjunction d ([] ++ f ∷ []) ∷ [])
and_begun {d} r1 s1 = record { run = λ frames. r1.run (chain_of conjunction d [] ∷ frames) ∙ and_step _ _ _ _ _ _ _ _ s1 }

pub and_more_part1 : {b : List ℕ} {d : ℕ} {fs : List Expr} {e : ReadRefusal} {t0 t1 : List Lexeme}
    → LeadsReader b t0 (a_unary d) (under_chain conjunction d []) t1 (a_unary d) (chain_of conjunction d fs ∷ []) → IsReadRefused b (a_unary d) ([]) t1 e → IsReadRefused b (a_unary d) (under_chain conjunction d []) t0 e
and_more_part1 {d} {fs} {e} i h = record { run = λ frames. through e (i.run frames) (h.run (chain_of conjunction d fs ∷ frames)) }

pub and_more : {b : List ℕ} {d : ℕ} {f : Expr} {fs : List Expr} {x : Lexeme} {t0 t1 t2 t3 : List Lexeme}
    → LeadsReader b t0 (a_unary d) (under_chain conjunction d []) t1 (a_unary d) (chain_of conjunction d fs ∷ []) → IsRead b (a_unary d) ([]) (f) t1 t2 → Takes t.And x t2 t3 → LeadsReader b t0 (a_unary d) (under_chain conjunction d []) t3 (a_unary d) (chain_of conjunction d (fs ++ f ∷ []) ∷ [])
and_more {d} {fs} i r1 s2 = record { run = λ frames. i.run frames ∙ r1.run (chain_of conjunction d fs ∷ frames) ∙ and_step _ _ _ _ _ _ _ _ s2 }

pub and_ends : {b : List ℕ} {d at : ℕ} {f : Expr} {fs : List Expr} {t0 t1 t2 : List Lexeme}
    → LeadsReader b t0 (a_unary d) (under_chain conjunction d []) t1 (a_unary d) (chain_of conjunction d fs ∷ []) → IsRead b (a_unary d) ([]) (f) t1 t2 → NotNext t.And t2 → BeginsAt at fs → IsRead b (a_unary d) (under_chain conjunction d []) (expr at (form.And (fs ++ f ∷ []))) t0 t2
and_ends {b} {d} {at} {f} {fs} {t2} i r1 n2 h = record { run = λ frames. i.run frames ∙ r1.run (chain_of conjunction d fs ∷ frames) ∙ and_pass _ _ _ _ _ _ n2 ∙ ap (λ z. reads b t2 (gives z) frames) (all_conjuncts at fs f h) }

pub ruleset conjunction_lines = (and_part1, and_one, and_begun, and_more_part1, and_more, and_ends)

pub or_part1 : {b : List ℕ} {d : ℕ} {e : ReadRefusal} {t0 : List Lexeme}
    → IsReadRefused b (a_unary d) (under_chain conjunction d []) t0 e → IsReadRefused b (a_unary d) (under_chain disjunction d []) t0 e
or_part1 {d} h = record { run = λ frames. h.run (chain_of disjunction d [] ∷ frames) }

pub or_one : {b : List ℕ} {d : ℕ} {f : Expr} {t0 t1 : List Lexeme}
    → IsRead b (a_unary d) (under_chain conjunction d []) (f) t0 t1 → NotNext t.Or t1 → IsRead b (a_unary d) (under_chain disjunction d []) (f) t0 t1
or_one {d} r1 n1 = record { run = λ frames. r1.run (chain_of disjunction d [] ∷ frames) ∙ or_pass _ _ _ _ _ _ n1 }

pub or_begun : {b : List ℕ} {d : ℕ} {f : Expr} {x : Lexeme} {t0 t1 t2 : List Lexeme}
    → IsRead b (a_unary d) (under_chain conjunction d []) (f) t0 t1 → Takes t.Or x t1 t2 → LeadsReader b t0 (a_unary d) (under_chain disjunction d []) t2 (a_unary d) (chain_of conjunction d [] ∷ chain_of disjunction d ([] ++ f ∷ []) ∷ [])
or_begun {d} r1 s1 = record { run = λ frames. r1.run (chain_of disjunction d [] ∷ frames) ∙ or_step _ _ _ _ _ _ _ _ s1 }

pub or_more_part1 : {b : List ℕ} {d : ℕ} {fs : List Expr} {e : ReadRefusal} {t0 t1 : List Lexeme}
    → LeadsReader b t0 (a_unary d) (under_chain disjunction d []) t1 (a_unary d) (chain_of conjunction d [] ∷ chain_of disjunction d fs ∷ []) → IsReadRefused b (a_unary d) (under_chain conjunction d []) t1 e → IsReadRefused b (a_unary d) (under_chain disjunction d []) t0 e
or_more_part1 {d} {fs} {e} i h = record { run = λ frames. through e (i.run frames) (h.run (chain_of disjunction d fs ∷ frames)) }

pub or_more : {b : List ℕ} {d : ℕ} {f : Expr} {fs : List Expr} {x : Lexeme} {t0 t1 t2 t3 : List Lexeme}
    → LeadsReader b t0 (a_unary d) (under_chain disjunction d []) t1 (a_unary d) (chain_of conjunction d [] ∷ chain_of disjunction d fs ∷ []) → IsRead b (a_unary d) (under_chain conjunction d []) (f) t1 t2 → Takes t.Or x t2 t3 → LeadsReader b t0 (a_unary d) (under_chain disjunction d []) t3 (a_unary d) (chain_of conjunction d [] ∷ chain_of disjunction d (fs ++ f ∷ []) ∷ [])
or_more {d} {fs} i r1 s2 = record { run = λ frames. i.run frames ∙ r1.run (chain_of disjunction d fs ∷ frames) ∙ or_step _ _ _ _ _ _ _ _ s2 }

pub or_ends : {b : List ℕ} {d at : ℕ} {f : Expr} {fs : List Expr} {t0 t1 t2 : List Lexeme}
    → LeadsReader b t0 (a_unary d) (under_chain disjunction d []) t1 (a_unary d) (chain_of conjunction d [] ∷ chain_of disjunction d fs ∷ []) → IsRead b (a_unary d) (under_chain conjunction d []) (f) t1 t2 → NotNext t.Or t2 → BeginsAt at fs → IsRead b (a_unary d) (under_chain disjunction d []) (expr at (form.Or (fs ++ f ∷ []))) t0 t2
or_ends {b} {d} {at} {f} {fs} {t2} i r1 n2 h = record { run = λ frames. i.run frames ∙ r1.run (chain_of disjunction d fs ∷ frames) ∙ or_pass _ _ _ _ _ _ n2 ∙ ap (λ z. reads b t2 (gives z) frames) (all_disjuncts at fs f h) }

pub ruleset disjunction_lines = (or_part1, or_one, or_begun, or_more_part1, or_more, or_ends)
