-- How expressions in parentheses are read.
use Rattle.std.proofs.Common.{ℕ, Bool, List, [], ◌∷◌, ◌++◌, ◌∙◌}
use Rattle.pri_tokens.specs.declared.terminals.Terminal.TheVariants as t
use Rattle.pri_tokens.specs.declared.terminals.Lexeme.{Lexeme}
use Rattle.pri_reader.specs.declared.tree.Expr.{Expr}
use Rattle.pri_reader.specs.declared.tree.Form.TheVariants as form
use Rattle.pri_reader.specs.declared.tree.Name.{Name}
use Rattle.pri_reader.specs.declared.tree.ReadRefusal.{ReadRefusal}
use Rattle.pri_reader.specs.Grammar.{equivalence, expr, paired, Takes}
use Rattle.pri_reader.specs.MachineStates.{wrap, branches, parenthesis_of, test_of, branch_of, arguments_of, pair_left, pair_right, a_unary, a_parenthesis, behind_name, a_pair, applied, under_right}
use Rattle.pri_reader.specs.Reading.{NotNext, Opened, NoRoom, Unwanted, LeadsReader, IsRead, IsReadRefused}
use Rattle.pri_reader.proofs.Exits.{through}
use Rattle.pri_reader.proofs.PrimarySteps.{argument_pass, arguments_bad, arguments_step, comma_step, else_bad, else_step, empty_step, left_bad, left_step, name_deep, name_pass, name_step, pair_close_bad, pair_close_step, pair_open_bad, pair_open_deep, pair_open_step, then_bad, then_step}
use Rattle.pri_reader.proofs.TokenSteps.{close_bad, close_step, gives_wrap, open_bad, open_deep, open_step}

pub name_bare : {b : List ℕ} {d : ℕ} {name : Name} {t0 : List Lexeme}
    → NotNext t.OpenParenthesis t0 → IsRead b (behind_name name d) ([]) (applied name []) t0 t0
name_bare n0 = record { run = λ frames. name_pass _ _ _ _ _ n0 }

pub name_no_room_name : {b : List ℕ} {d : ℕ} {name : Name} {x : Lexeme} {e : ReadRefusal} {t0 t1 : List Lexeme}
    → Takes t.OpenParenthesis x t0 t1 → NoRoom d x.at e → IsReadRefused b (behind_name name d) ([]) t0 e
name_no_room_name s0 h = record { run = λ frames. rw h.is (name_deep _ _ _ _ _ _ _ s0 h.deep) }

pub name_empty : {b : List ℕ} {d m : ℕ} {name : Name} {x y : Lexeme} {t0 t1 t2 : List Lexeme}
    → Takes t.OpenParenthesis x t0 t1 → Opened d m → Takes t.CloseParenthesis y t1 t2 → IsRead b (behind_name name d) ([]) (applied name []) t0 t2
name_empty s0 l0 s1 = record { run = λ frames. name_step _ _ _ _ _ _ _ s0 l0 ∙ empty_step _ _ _ _ _ _ _ s1 }

pub name_all_part1 : {b : List ℕ} {d m : ℕ} {name : Name} {x : Lexeme} {e : ReadRefusal} {t0 t1 : List Lexeme}
    → Takes t.OpenParenthesis x t0 t1 → Opened d m → NotNext t.CloseParenthesis t1 → IsReadRefused b (a_unary m) (under_right equivalence m (arguments_of name m [] ∷ [])) t1 e → IsReadRefused b (behind_name name d) ([]) t0 e
name_all_part1 {e} s0 l0 n1 h = record { run = λ frames. through e (name_step _ _ _ _ _ _ _ s0 l0 ∙ argument_pass _ _ _ _ _ n1) (h.run (frames)) }

pub name_all_applied : {b : List ℕ} {d m : ℕ} {f : Expr} {name : Name} {x : Lexeme} {t0 t1 t2 : List Lexeme}
    → Takes t.OpenParenthesis x t0 t1 → Opened d m → NotNext t.CloseParenthesis t1 → IsRead b (a_unary m) (under_right equivalence m (arguments_of name m [] ∷ [])) (f) t1 t2 → IsRead b (behind_name name d) ([]) (f) t0 t2
name_all_applied s0 l0 n1 r1 = record { run = λ frames. name_step _ _ _ _ _ _ _ s0 l0 ∙ argument_pass _ _ _ _ _ n1 ∙ r1.run (frames) }

pub ruleset application_lines = (name_bare, name_no_room_name, name_empty, name_all_part1, name_all_applied)

pub argument_part1 : {b : List ℕ} {d : ℕ} {fs : List Expr} {name : Name} {e : ReadRefusal} {t0 t1 : List Lexeme}
    → LeadsReader b t0 (a_unary d) (under_right equivalence d (arguments_of name d [] ∷ [])) t1 (a_unary d) (under_right equivalence d (arguments_of name d fs ∷ [])) → IsReadRefused b (a_unary d) (under_right equivalence d []) t1 e → IsReadRefused b (a_unary d) (under_right equivalence d (arguments_of name d [] ∷ [])) t0 e
argument_part1 {d} {fs} {name} {e} i h = record { run = λ frames. through e (i.run frames) (h.run (arguments_of name d fs ∷ frames)) }

pub argument_more : {b : List ℕ} {d : ℕ} {f : Expr} {fs : List Expr} {name : Name} {x : Lexeme} {t0 t1 t2 t3 : List Lexeme}
    → LeadsReader b t0 (a_unary d) (under_right equivalence d (arguments_of name d [] ∷ [])) t1 (a_unary d) (under_right equivalence d (arguments_of name d fs ∷ [])) → IsRead b (a_unary d) (under_right equivalence d []) (f) t1 t2 → Takes t.Comma x t2 t3 → LeadsReader b t0 (a_unary d) (under_right equivalence d (arguments_of name d [] ∷ [])) t3 (a_unary d) (under_right equivalence d (arguments_of name d (fs ++ f ∷ []) ∷ []))
argument_more {d} {fs} {name} i r1 s2 = record { run = λ frames. i.run frames ∙ r1.run (arguments_of name d fs ∷ frames) ∙ comma_step _ _ _ _ _ _ _ _ _ s2 }

pub argument_ends : {b : List ℕ} {d : ℕ} {f : Expr} {fs : List Expr} {name : Name} {x : Lexeme} {t0 t1 t2 t3 : List Lexeme}
    → LeadsReader b t0 (a_unary d) (under_right equivalence d (arguments_of name d [] ∷ [])) t1 (a_unary d) (under_right equivalence d (arguments_of name d fs ∷ [])) → IsRead b (a_unary d) (under_right equivalence d []) (f) t1 t2 → Takes t.CloseParenthesis x t2 t3 → IsRead b (a_unary d) (under_right equivalence d (arguments_of name d [] ∷ [])) (applied name (fs ++ f ∷ [])) t0 t3
argument_ends {d} {fs} {name} i r1 s2 = record { run = λ frames. i.run frames ∙ r1.run (arguments_of name d fs ∷ frames) ∙ arguments_step _ _ _ _ _ _ _ _ _ s2 }

pub argument_refused : {b : List ℕ} {d : ℕ} {f : Expr} {fs : List Expr} {name : Name} {e : ReadRefusal} {t0 t1 t2 : List Lexeme}
    → LeadsReader b t0 (a_unary d) (under_right equivalence d (arguments_of name d [] ∷ [])) t1 (a_unary d) (under_right equivalence d (arguments_of name d fs ∷ [])) → IsRead b (a_unary d) (under_right equivalence d []) (f) t1 t2 → NotNext t.Comma t2 → Unwanted t.CloseParenthesis b t2 e → IsReadRefused b (a_unary d) (under_right equivalence d (arguments_of name d [] ∷ [])) t0 e
argument_refused {d} {fs} {name} i r1 n h = record { run = λ frames. rw h.is (i.run frames ∙ r1.run (arguments_of name d fs ∷ frames) ∙ arguments_bad _ _ _ _ _ _ _ n h.no) }

pub ruleset argument_lines = (argument_part1, argument_more, argument_ends, argument_refused)

pub conditional_part1 : {b : List ℕ} {d at : ℕ} {e : ReadRefusal} {t0 : List Lexeme}
    → IsReadRefused b (a_parenthesis d) ([]) t0 e → IsReadRefused b (a_parenthesis d) (test_of at d ∷ []) t0 e
conditional_part1 {d} {at} h = record { run = λ frames. h.run (test_of at d ∷ frames) }

pub conditional_no_then : {b : List ℕ} {d at : ℕ} {c : Expr} {e : ReadRefusal} {t0 t1 : List Lexeme}
    → IsRead b (a_parenthesis d) ([]) (c) t0 t1 → Unwanted t.Then b t1 e → IsReadRefused b (a_parenthesis d) (test_of at d ∷ []) t0 e
conditional_no_then {d} {at} r1 h = record { run = λ frames. rw h.is (r1.run (test_of at d ∷ frames) ∙ then_bad _ _ _ _ _ _ h.no) }

pub conditional_part2 : {b : List ℕ} {d at : ℕ} {c : Expr} {x : Lexeme} {e : ReadRefusal} {t0 t1 t2 : List Lexeme}
    → IsRead b (a_parenthesis d) ([]) (c) t0 t1 → Takes t.Then x t1 t2 → IsReadRefused b (a_parenthesis d) ([]) t2 e → IsReadRefused b (a_parenthesis d) (test_of at d ∷ []) t0 e
conditional_part2 {d} {at} {c} {e} r1 s1 h = record { run = λ frames. through e (r1.run (test_of at d ∷ frames) ∙ then_step _ _ _ _ _ _ _ _ s1) (h.run (branch_of at d c ∷ frames)) }

pub conditional_no_else : {b : List ℕ} {d at : ℕ} {f c : Expr} {x : Lexeme} {e : ReadRefusal} {t0 t1 t2 t3 : List Lexeme}
    → IsRead b (a_parenthesis d) ([]) (c) t0 t1 → Takes t.Then x t1 t2 → IsRead b (a_parenthesis d) ([]) (f) t2 t3 → Unwanted t.Else b t3 e → IsReadRefused b (a_parenthesis d) (test_of at d ∷ []) t0 e
conditional_no_else {d} {at} {c} r1 s1 r2 h = record { run = λ frames. rw h.is (r1.run (test_of at d ∷ frames) ∙ then_step _ _ _ _ _ _ _ _ s1 ∙ r2.run (branch_of at d c ∷ frames) ∙ else_bad _ _ _ _ _ _ _ h.no) }

pub conditional_part3 : {b : List ℕ} {d at : ℕ} {f c : Expr} {x y : Lexeme} {e : ReadRefusal} {t0 t1 t2 t3 t4 : List Lexeme}
    → IsRead b (a_parenthesis d) ([]) (c) t0 t1 → Takes t.Then x t1 t2 → IsRead b (a_parenthesis d) ([]) (f) t2 t3 → Takes t.Else y t3 t4 → IsReadRefused b (a_parenthesis d) ([]) t4 e → IsReadRefused b (a_parenthesis d) (test_of at d ∷ []) t0 e
conditional_part3 {d} {at} {f} {c} {e} r1 s1 r2 s3 h = record { run = λ frames. through e (r1.run (test_of at d ∷ frames) ∙ then_step _ _ _ _ _ _ _ _ s1 ∙ r2.run (branch_of at d c ∷ frames) ∙ else_step _ _ _ _ _ _ _ _ _ s3) (h.run (wrap (branches at c f) ∷ frames)) }

pub conditional_read : {b : List ℕ} {d at : ℕ} {f g c : Expr} {x y : Lexeme} {t0 t1 t2 t3 t4 t5 : List Lexeme}
    → IsRead b (a_parenthesis d) ([]) (c) t0 t1 → Takes t.Then x t1 t2 → IsRead b (a_parenthesis d) ([]) (f) t2 t3 → Takes t.Else y t3 t4 → IsRead b (a_parenthesis d) ([]) (g) t4 t5 → IsRead b (a_parenthesis d) (test_of at d ∷ []) (expr at (form.If c f g)) t0 t5
conditional_read {d} {at} {f} {c} r1 s1 r2 s3 r3 = record { run = λ frames. r1.run (test_of at d ∷ frames) ∙ then_step _ _ _ _ _ _ _ _ s1 ∙ r2.run (branch_of at d c ∷ frames) ∙ else_step _ _ _ _ _ _ _ _ _ s3 ∙ r3.run (wrap (branches at c f) ∷ frames) ∙ gives_wrap _ _ _ _ _ }

pub ruleset conditional_lines = (conditional_part1, conditional_no_then, conditional_part2, conditional_no_else, conditional_part3, conditional_read)

pub both_no_pair_open : {b : List ℕ} {d at : ℕ} {max : Bool} {e : ReadRefusal} {t0 : List Lexeme}
    → Unwanted t.OpenParenthesis b t0 e → IsReadRefused b (a_pair max at d) ([]) t0 e
both_no_pair_open h = record { run = λ frames. rw h.is (pair_open_bad _ _ _ _ _ _ h.no) }

pub both_no_room_pair_open : {b : List ℕ} {d at : ℕ} {max : Bool} {x : Lexeme} {e : ReadRefusal} {t0 t1 : List Lexeme}
    → Takes t.OpenParenthesis x t0 t1 → NoRoom d x.at e → IsReadRefused b (a_pair max at d) ([]) t0 e
both_no_room_pair_open s0 h = record { run = λ frames. rw h.is (pair_open_deep _ _ _ _ _ _ _ _ s0 h.deep) }

pub both_part1 : {b : List ℕ} {d m at : ℕ} {max : Bool} {x : Lexeme} {e : ReadRefusal} {t0 t1 : List Lexeme}
    → Takes t.OpenParenthesis x t0 t1 → Opened d m → IsReadRefused b (a_unary m) (under_right equivalence m []) t1 e → IsReadRefused b (a_pair max at d) ([]) t0 e
both_part1 {m} {at} {max} {e} s0 l0 h = record { run = λ frames. through e (pair_open_step _ _ _ _ _ _ _ _ s0 l0) (h.run (pair_left max at m ∷ frames)) }

pub both_no_left : {b : List ℕ} {d m at : ℕ} {max : Bool} {f : Expr} {x : Lexeme} {e : ReadRefusal} {t0 t1 t2 : List Lexeme}
    → Takes t.OpenParenthesis x t0 t1 → Opened d m → IsRead b (a_unary m) (under_right equivalence m []) (f) t1 t2 → Unwanted t.Comma b t2 e → IsReadRefused b (a_pair max at d) ([]) t0 e
both_no_left {m} {at} {max} s0 l0 r1 h = record { run = λ frames. rw h.is (pair_open_step _ _ _ _ _ _ _ _ s0 l0 ∙ r1.run (pair_left max at m ∷ frames) ∙ left_bad _ _ _ _ _ _ _ h.no) }

pub both_part2 : {b : List ℕ} {d m at : ℕ} {max : Bool} {f : Expr} {x y : Lexeme} {e : ReadRefusal} {t0 t1 t2 t3 : List Lexeme}
    → Takes t.OpenParenthesis x t0 t1 → Opened d m → IsRead b (a_unary m) (under_right equivalence m []) (f) t1 t2 → Takes t.Comma y t2 t3 → IsReadRefused b (a_unary m) (under_right equivalence m []) t3 e → IsReadRefused b (a_pair max at d) ([]) t0 e
both_part2 {m} {at} {max} {f} {e} s0 l0 r1 s2 h = record { run = λ frames. through e (pair_open_step _ _ _ _ _ _ _ _ s0 l0 ∙ r1.run (pair_left max at m ∷ frames) ∙ left_step _ _ _ _ _ _ _ _ _ s2) (h.run (pair_right max at f ∷ frames)) }

pub both_no_pair_close : {b : List ℕ} {d m at : ℕ} {max : Bool} {f g : Expr} {x y : Lexeme} {e : ReadRefusal} {t0 t1 t2 t3 t4 : List Lexeme}
    → Takes t.OpenParenthesis x t0 t1 → Opened d m → IsRead b (a_unary m) (under_right equivalence m []) (f) t1 t2 → Takes t.Comma y t2 t3 → IsRead b (a_unary m) (under_right equivalence m []) (g) t3 t4 → Unwanted t.CloseParenthesis b t4 e → IsReadRefused b (a_pair max at d) ([]) t0 e
both_no_pair_close {m} {at} {max} {f} s0 l0 r1 s2 r2 h = record { run = λ frames. rw h.is (pair_open_step _ _ _ _ _ _ _ _ s0 l0 ∙ r1.run (pair_left max at m ∷ frames) ∙ left_step _ _ _ _ _ _ _ _ _ s2 ∙ r2.run (pair_right max at f ∷ frames) ∙ pair_close_bad _ _ _ _ _ _ _ h.no) }

pub both_read : {b : List ℕ} {d m at : ℕ} {max : Bool} {f g : Expr} {x y z : Lexeme} {t0 t1 t2 t3 t4 t5 : List Lexeme}
    → Takes t.OpenParenthesis x t0 t1 → Opened d m → IsRead b (a_unary m) (under_right equivalence m []) (f) t1 t2 → Takes t.Comma y t2 t3 → IsRead b (a_unary m) (under_right equivalence m []) (g) t3 t4 → Takes t.CloseParenthesis z t4 t5 → IsRead b (a_pair max at d) ([]) (paired max at f g) t0 t5
both_read {m} {at} {max} {f} s0 l0 r1 s2 r2 s4 = record { run = λ frames. pair_open_step _ _ _ _ _ _ _ _ s0 l0 ∙ r1.run (pair_left max at m ∷ frames) ∙ left_step _ _ _ _ _ _ _ _ _ s2 ∙ r2.run (pair_right max at f ∷ frames) ∙ pair_close_step _ _ _ _ _ _ _ _ _ s4 }

pub ruleset pair_lines = (both_no_pair_open, both_no_room_pair_open, both_part1, both_no_left, both_part2, both_no_pair_close, both_read)

pub parenthesis_no_open : {b : List ℕ} {d : ℕ} {e : ReadRefusal} {t0 : List Lexeme}
    → Unwanted t.OpenParenthesis b t0 e → IsReadRefused b (a_parenthesis d) ([]) t0 e
parenthesis_no_open h = record { run = λ frames. rw h.is (open_bad _ _ _ _ h.no) }

pub parenthesis_no_room_open : {b : List ℕ} {d : ℕ} {x : Lexeme} {e : ReadRefusal} {t0 t1 : List Lexeme}
    → Takes t.OpenParenthesis x t0 t1 → NoRoom d x.at e → IsReadRefused b (a_parenthesis d) ([]) t0 e
parenthesis_no_room_open s0 h = record { run = λ frames. rw h.is (open_deep _ _ _ _ _ _ s0 h.deep) }

pub parenthesis_part1 : {b : List ℕ} {d m : ℕ} {x : Lexeme} {e : ReadRefusal} {t0 t1 : List Lexeme}
    → Takes t.OpenParenthesis x t0 t1 → Opened d m → IsReadRefused b (a_unary m) (under_right equivalence m []) t1 e → IsReadRefused b (a_parenthesis d) ([]) t0 e
parenthesis_part1 {e} s0 l0 h = record { run = λ frames. through e (open_step _ _ _ _ _ _ s0 l0) (h.run (parenthesis_of ∷ frames)) }

pub parenthesis_no_close : {b : List ℕ} {d m : ℕ} {f : Expr} {x : Lexeme} {e : ReadRefusal} {t0 t1 t2 : List Lexeme}
    → Takes t.OpenParenthesis x t0 t1 → Opened d m → IsRead b (a_unary m) (under_right equivalence m []) (f) t1 t2 → Unwanted t.CloseParenthesis b t2 e → IsReadRefused b (a_parenthesis d) ([]) t0 e
parenthesis_no_close s0 l0 r1 h = record { run = λ frames. rw h.is (open_step _ _ _ _ _ _ s0 l0 ∙ r1.run (parenthesis_of ∷ frames) ∙ close_bad _ _ _ _ h.no) }

pub parenthesis_read : {b : List ℕ} {d m : ℕ} {f : Expr} {x y : Lexeme} {t0 t1 t2 t3 : List Lexeme}
    → Takes t.OpenParenthesis x t0 t1 → Opened d m → IsRead b (a_unary m) (under_right equivalence m []) (f) t1 t2 → Takes t.CloseParenthesis y t2 t3 → IsRead b (a_parenthesis d) ([]) (f) t0 t3
parenthesis_read s0 l0 r1 s2 = record { run = λ frames. open_step _ _ _ _ _ _ s0 l0 ∙ r1.run (parenthesis_of ∷ frames) ∙ close_step _ _ _ _ _ _ s2 }

pub ruleset parenthesis_lines = (parenthesis_no_open, parenthesis_no_room_open, parenthesis_part1, parenthesis_no_close, parenthesis_read)
