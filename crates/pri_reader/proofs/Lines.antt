-- How an expression is read by the lines of the grammar that have one operand or two.
use Rattle.std.proofs.Common.{ℕ, List, [], ◌∷◌, ◌∙◌}
use Rattle.pri_tokens.specs.declared.terminals.Terminal.TheVariants as t
use Rattle.pri_tokens.specs.declared.terminals.Lexeme.{Lexeme}
use Rattle.pri_reader.specs.declared.tree.Expr.{Expr}
use Rattle.pri_reader.specs.declared.tree.Form.TheVariants as form
use Rattle.pri_reader.specs.declared.tree.Comparison.{Comparison}
use Rattle.pri_reader.specs.declared.tree.ReadRefusal.{ReadRefusal}
use Rattle.pri_reader.specs.Grammar.{equivalence, implication, multiplication, disjunction, expr, join, Takes}
use Rattle.pri_reader.specs.MachineStates.{right_of, rel_of, wrap, second, compared, a_unary, a_minus, under_product, under_sum, under_rel, under_chain, under_right}
use Rattle.pri_reader.specs.Reading.{NotNext, Compares, ComparesNone, Opened, NoRoom, IsRead, IsReadRefused}
use Rattle.pri_reader.proofs.Exits.{through}
use Rattle.pri_reader.proofs.TokenSteps.{gives_wrap}
use Rattle.pri_reader.proofs.LineSteps.{iff_deep, iff_pass, iff_step, implies_deep, implies_pass, implies_step, relation_pass, relation_step, times_deep, times_pass, times_step}

pub iff_one : {b : List ℕ} {d : ℕ} {f : Expr} {t0 t1 : List Lexeme}
    → IsRead b (a_unary d) (under_right implication d []) (f) t0 t1 → NotNext t.Iff t1 → IsRead b (a_unary d) (under_right equivalence d []) (f) t0 t1
iff_one {d} r1 n1 = record { run = λ frames. r1.run (right_of equivalence d ∷ frames) ∙ iff_pass _ _ _ _ _ n1 }

pub iff_part1 : {b : List ℕ} {d : ℕ} {e : ReadRefusal} {t0 : List Lexeme}
    → IsReadRefused b (a_unary d) (under_right implication d []) t0 e → IsReadRefused b (a_unary d) (under_right equivalence d []) t0 e
iff_part1 {d} h = record { run = λ frames. h.run (right_of equivalence d ∷ frames) }

pub iff_no_room_iff : {b : List ℕ} {d : ℕ} {f : Expr} {x : Lexeme} {e : ReadRefusal} {t0 t1 t2 : List Lexeme}
    → IsRead b (a_unary d) (under_right implication d []) (f) t0 t1 → Takes t.Iff x t1 t2 → NoRoom d x.at e → IsReadRefused b (a_unary d) (under_right equivalence d []) t0 e
iff_no_room_iff {d} r1 s1 h = record { run = λ frames. rw h.is (r1.run (right_of equivalence d ∷ frames) ∙ iff_deep _ _ _ _ _ _ _ s1 h.deep) }

pub iff_part2 : {b : List ℕ} {d m : ℕ} {f : Expr} {x : Lexeme} {e : ReadRefusal} {t0 t1 t2 : List Lexeme}
    → IsRead b (a_unary d) (under_right implication d []) (f) t0 t1 → Takes t.Iff x t1 t2 → Opened d m → IsReadRefused b (a_unary m) (under_right equivalence m []) t2 e → IsReadRefused b (a_unary d) (under_right equivalence d []) t0 e
iff_part2 {d} {f} {x} {e} r1 s1 l1 h = record { run = λ frames. through e (r1.run (right_of equivalence d ∷ frames) ∙ iff_step _ _ _ _ _ _ _ s1 l1) (h.run (wrap (second equivalence f x.at) ∷ frames)) }

pub iff_two : {b : List ℕ} {d m : ℕ} {f g : Expr} {x : Lexeme} {t0 t1 t2 t3 : List Lexeme}
    → IsRead b (a_unary d) (under_right implication d []) (f) t0 t1 → Takes t.Iff x t1 t2 → Opened d m → IsRead b (a_unary m) (under_right equivalence m []) (g) t2 t3 → IsRead b (a_unary d) (under_right equivalence d []) (join equivalence f x.at g) t0 t3
iff_two {d} {f} {x} r1 s1 l1 r2 = record { run = λ frames. r1.run (right_of equivalence d ∷ frames) ∙ iff_step _ _ _ _ _ _ _ s1 l1 ∙ r2.run (wrap (second equivalence f x.at) ∷ frames) ∙ gives_wrap _ _ _ _ _ }

pub ruleset equivalence_lines = (iff_one, iff_part1, iff_no_room_iff, iff_part2, iff_two)

pub implies_one : {b : List ℕ} {d : ℕ} {f : Expr} {t0 t1 : List Lexeme}
    → IsRead b (a_unary d) (under_chain disjunction d []) (f) t0 t1 → NotNext t.Implies t1 → IsRead b (a_unary d) (under_right implication d []) (f) t0 t1
implies_one {d} r1 n1 = record { run = λ frames. r1.run (right_of implication d ∷ frames) ∙ implies_pass _ _ _ _ _ n1 }

pub implies_part1 : {b : List ℕ} {d : ℕ} {e : ReadRefusal} {t0 : List Lexeme}
    → IsReadRefused b (a_unary d) (under_chain disjunction d []) t0 e → IsReadRefused b (a_unary d) (under_right implication d []) t0 e
implies_part1 {d} h = record { run = λ frames. h.run (right_of implication d ∷ frames) }

pub implies_no_room_implies : {b : List ℕ} {d : ℕ} {f : Expr} {x : Lexeme} {e : ReadRefusal} {t0 t1 t2 : List Lexeme}
    → IsRead b (a_unary d) (under_chain disjunction d []) (f) t0 t1 → Takes t.Implies x t1 t2 → NoRoom d x.at e → IsReadRefused b (a_unary d) (under_right implication d []) t0 e
implies_no_room_implies {d} r1 s1 h = record { run = λ frames. rw h.is (r1.run (right_of implication d ∷ frames) ∙ implies_deep _ _ _ _ _ _ _ s1 h.deep) }

pub implies_part2 : {b : List ℕ} {d m : ℕ} {f : Expr} {x : Lexeme} {e : ReadRefusal} {t0 t1 t2 : List Lexeme}
    → IsRead b (a_unary d) (under_chain disjunction d []) (f) t0 t1 → Takes t.Implies x t1 t2 → Opened d m → IsReadRefused b (a_unary m) (under_right implication m []) t2 e → IsReadRefused b (a_unary d) (under_right implication d []) t0 e
implies_part2 {d} {f} {x} {e} r1 s1 l1 h = record { run = λ frames. through e (r1.run (right_of implication d ∷ frames) ∙ implies_step _ _ _ _ _ _ _ s1 l1) (h.run (wrap (second implication f x.at) ∷ frames)) }

pub implies_two : {b : List ℕ} {d m : ℕ} {f g : Expr} {x : Lexeme} {t0 t1 t2 t3 : List Lexeme}
    → IsRead b (a_unary d) (under_chain disjunction d []) (f) t0 t1 → Takes t.Implies x t1 t2 → Opened d m → IsRead b (a_unary m) (under_right implication m []) (g) t2 t3 → IsRead b (a_unary d) (under_right implication d []) (join implication f x.at g) t0 t3
implies_two {d} {f} {x} r1 s1 l1 r2 = record { run = λ frames. r1.run (right_of implication d ∷ frames) ∙ implies_step _ _ _ _ _ _ _ s1 l1 ∙ r2.run (wrap (second implication f x.at) ∷ frames) ∙ gives_wrap _ _ _ _ _ }

pub ruleset implication_lines = (implies_one, implies_part1, implies_no_room_implies, implies_part2, implies_two)

pub times_one : {b : List ℕ} {d : ℕ} {f : Expr} {t0 t1 : List Lexeme}
    → IsRead b (a_minus d) ([]) (f) t0 t1 → NotNext t.Star t1 → IsRead b (a_minus d) (under_product d []) (f) t0 t1
times_one {d} r1 n1 = record { run = λ frames. r1.run (right_of multiplication d ∷ frames) ∙ times_pass _ _ _ _ _ n1 }

pub times_part1 : {b : List ℕ} {d : ℕ} {e : ReadRefusal} {t0 : List Lexeme}
    → IsReadRefused b (a_minus d) ([]) t0 e → IsReadRefused b (a_minus d) (under_product d []) t0 e
times_part1 {d} h = record { run = λ frames. h.run (right_of multiplication d ∷ frames) }

pub times_no_room_times : {b : List ℕ} {d : ℕ} {f : Expr} {x : Lexeme} {e : ReadRefusal} {t0 t1 t2 : List Lexeme}
    → IsRead b (a_minus d) ([]) (f) t0 t1 → Takes t.Star x t1 t2 → NoRoom d x.at e → IsReadRefused b (a_minus d) (under_product d []) t0 e
times_no_room_times {d} r1 s1 h = record { run = λ frames. rw h.is (r1.run (right_of multiplication d ∷ frames) ∙ times_deep _ _ _ _ _ _ _ s1 h.deep) }

pub times_part2 : {b : List ℕ} {d m : ℕ} {f : Expr} {x : Lexeme} {e : ReadRefusal} {t0 t1 t2 : List Lexeme}
    → IsRead b (a_minus d) ([]) (f) t0 t1 → Takes t.Star x t1 t2 → Opened d m → IsReadRefused b (a_minus m) (under_product m []) t2 e → IsReadRefused b (a_minus d) (under_product d []) t0 e
times_part2 {d} {f} {x} {e} r1 s1 l1 h = record { run = λ frames. through e (r1.run (right_of multiplication d ∷ frames) ∙ times_step _ _ _ _ _ _ _ s1 l1) (h.run (wrap (second multiplication f x.at) ∷ frames)) }

pub times_two : {b : List ℕ} {d m : ℕ} {f g : Expr} {x : Lexeme} {t0 t1 t2 t3 : List Lexeme}
    → IsRead b (a_minus d) ([]) (f) t0 t1 → Takes t.Star x t1 t2 → Opened d m → IsRead b (a_minus m) (under_product m []) (g) t2 t3 → IsRead b (a_minus d) (under_product d []) (join multiplication f x.at g) t0 t3
times_two {d} {f} {x} r1 s1 l1 r2 = record { run = λ frames. r1.run (right_of multiplication d ∷ frames) ∙ times_step _ _ _ _ _ _ _ s1 l1 ∙ r2.run (wrap (second multiplication f x.at) ∷ frames) ∙ gives_wrap _ _ _ _ _ }

pub ruleset product_lines = (times_one, times_part1, times_no_room_times, times_part2, times_two)

pub relation_one : {b : List ℕ} {d : ℕ} {f : Expr} {t0 t1 : List Lexeme}
    → IsRead b (a_minus d) (under_sum d []) (f) t0 t1 → ComparesNone t1 → IsRead b (a_minus d) (under_rel d []) (f) t0 t1
relation_one {d} r1 n1 = record { run = λ frames. r1.run (rel_of d ∷ frames) ∙ relation_pass _ _ _ _ _ n1 }

pub relation_part1 : {b : List ℕ} {d : ℕ} {e : ReadRefusal} {t0 : List Lexeme}
    → IsReadRefused b (a_minus d) (under_sum d []) t0 e → IsReadRefused b (a_minus d) (under_rel d []) t0 e
relation_part1 {d} h = record { run = λ frames. h.run (rel_of d ∷ frames) }

pub relation_part2 : {b : List ℕ} {d : ℕ} {f : Expr} {sign : Comparison} {e : ReadRefusal} {t0 t1 t2 : List Lexeme}
    → IsRead b (a_minus d) (under_sum d []) (f) t0 t1 → Compares sign t1 t2 → IsReadRefused b (a_minus d) (under_sum d []) t2 e → IsReadRefused b (a_minus d) (under_rel d []) t0 e
relation_part2 {d} {f} {sign} {e} r1 s1 h = record { run = λ frames. through e (r1.run (rel_of d ∷ frames) ∙ relation_step _ _ _ _ _ _ _ s1) (h.run (wrap (compared sign f) ∷ frames)) }

pub relation_two : {b : List ℕ} {d : ℕ} {f g : Expr} {sign : Comparison} {t0 t1 t2 t3 : List Lexeme}
    → IsRead b (a_minus d) (under_sum d []) (f) t0 t1 → Compares sign t1 t2 → IsRead b (a_minus d) (under_sum d []) (g) t2 t3 → IsRead b (a_minus d) (under_rel d []) (expr f.at (form.Compare sign f g)) t0 t3
relation_two {d} {f} {sign} r1 s1 r2 = record { run = λ frames. r1.run (rel_of d ∷ frames) ∙ relation_step _ _ _ _ _ _ _ s1 ∙ r2.run (wrap (compared sign f) ∷ frames) ∙ gives_wrap _ _ _ _ _ }

pub ruleset relation_lines = (relation_one, relation_part1, relation_part2, relation_two)
