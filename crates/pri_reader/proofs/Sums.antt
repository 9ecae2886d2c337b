-- How a sum is read, term by term.
use Rattle.std.proofs.Common.{ℕ, Bool, false, List, [], ◌∷◌, ◌++◌, ◌∙◌}
use Rattle.pri_tokens.specs.declared.terminals.Lexeme.{Lexeme}
use Rattle.pri_reader.specs.declared.tree.Expr.{Expr}
use Rattle.pri_reader.specs.declared.tree.Form.TheVariants as form
use Rattle.pri_reader.specs.declared.tree.Added.{Added}
use Rattle.pri_reader.specs.declared.tree.ReadRefusal.{ReadRefusal}
use Rattle.pri_reader.specs.Grammar.{expr, added}
use Rattle.pri_reader.specs.MachineStates.{sum_of, a_minus, under_product, under_sum}
use Rattle.pri_reader.specs.Reading.{AddsTerm, AddsNone, LeadsReader, IsRead, IsReadRefused}
use Rattle.pri_reader.proofs.Exits.{through}
use Rattle.pri_reader.proofs.LineSteps.{sum_pass, sum_step}

pub sum_part1 : {b : List ℕ} {d : ℕ} {e : ReadRefusal} {t0 : List Lexeme}
    → IsReadRefused b (a_minus d) (under_product d []) t0 e → IsReadRefused b (a_minus d) (under_sum d []) t0 e
sum_part1 {d} h = record { run = λ frames. h.run (sum_of d [] false ∷ frames) }

pub sum_one : {b : List ℕ} {d : ℕ} {f : Expr} {t0 t1 : List Lexeme}
    → IsRead b (a_minus d) (under_product d []) (f) t0 t1 → AddsNone t1 → IsRead b (a_minus d) (under_sum d []) (f) t0 t1
sum_one {d} r1 n1 = record { run = λ frames. r1.run (sum_of d [] false ∷ frames) ∙ sum_pass _ _ _ _ _ _ _ n1 }

pub sum_begun : {b : List ℕ} {d : ℕ} {new : Bool} {f : Expr} {t0 t1 t2 : List Lexeme}
    → IsRead b (a_minus d) (under_product d []) (f) t0 t1 → AddsTerm new t1 t2 → LeadsReader b t0 (a_minus d) (under_sum d []) t2 (a_minus d) (under_product d (sum_of d (added false f ∷ []) new ∷ []))
sum_begun {d} r1 s1 = record { run = λ frames. r1.run (sum_of d [] false ∷ frames) ∙ sum_step _ _ _ _ _ _ _ _ _ s1 }

pub sum_more_part1 : {b : List ℕ} {d : ℕ} {old : Bool} {f : Expr} {e : ReadRefusal} {before : List Added} {t0 t1 : List Lexeme}
    → LeadsReader b t0 (a_minus d) (under_sum d []) t1 (a_minus d) (under_product d (sum_of d (added false f ∷ before) old ∷ [])) → IsReadRefused b (a_minus d) (under_product d []) t1 e → IsReadRefused b (a_minus d) (under_sum d []) t0 e
sum_more_part1 {d} {old} {f} {e} {before} i h = record { run = λ frames. through e (i.run frames) (h.run (sum_of d (added false f ∷ before) old ∷ frames)) }

pub sum_more : {b : List ℕ} {d : ℕ} {old new : Bool} {f g : Expr} {before : List Added} {t0 t1 t2 t3 : List Lexeme}
    → LeadsReader b t0 (a_minus d) (under_sum d []) t1 (a_minus d) (under_product d (sum_of d (added false f ∷ before) old ∷ [])) → IsRead b (a_minus d) (under_product d []) (g) t1 t2 → AddsTerm new t2 t3 → LeadsReader b t0 (a_minus d) (under_sum d []) t3 (a_minus d) (under_product d (sum_of d (added false f ∷ (before ++ added old g ∷ [])) new ∷ []))
sum_more {d} {old} {f} {before} i r1 s2 = record { run = λ frames. i.run frames ∙ r1.run (sum_of d (added false f ∷ before) old ∷ frames) ∙ sum_step _ _ _ _ _ _ _ _ _ s2 }

pub sum_ends : {b : List ℕ} {d : ℕ} {old : Bool} {f g : Expr} {before : List Added} {t0 t1 t2 : List Lexeme}
    → LeadsReader b t0 (a_minus d) (under_sum d []) t1 (a_minus d) (under_product d (sum_of d (added false f ∷ before) old ∷ [])) → IsRead b (a_minus d) (under_product d []) (g) t1 t2 → AddsNone t2 → IsRead b (a_minus d) (under_sum d []) (expr f.at (form.Sum f (before ++ added old g ∷ []))) t0 t2
sum_ends {d} {old} {f} {before} i r1 n2 = record { run = λ frames. i.run frames ∙ r1.run (sum_of d (added false f ∷ before) old ∷ frames) ∙ sum_pass _ _ _ _ _ _ _ n2 }

pub ruleset sum_lines = (sum_part1, sum_one, sum_begun, sum_more_part1, sum_more, sum_ends)
