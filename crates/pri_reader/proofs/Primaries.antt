-- How a unary formula and a term that is no sum or product are read.
use Rattle.std.proofs.Common.{ℕ, ℤ, ◌≡◌, ◌≤◌, ◌<◌, ◌^◌, Bool, List, [], ◌∷◌, length, ◌∙◌, pos}
use Rattle.pri_tokens.specs.declared.terminals.Terminal.TheVariants as t
use Rattle.pri_tokens.specs.declared.terminals.Lexeme.{Lexeme}
use Rattle.pri_tokens.specs.Bytes.{text_of}
use Rattle.base_numerals.specs.Numerals.{decimal_value}
use Rattle.pri_reader.specs.declared.tree.Expr.{Expr}
use Rattle.pri_reader.specs.declared.tree.Form.TheVariants as form
use Rattle.pri_reader.specs.declared.tree.ReadRefusal.{ReadRefusal}
use Rattle.pri_reader.specs.declared.tree.ReadRefusal.TheVariants as refusal
use Rattle.pri_reader.specs.declared.classes.Prefix.TheVariants as p
use Rattle.pri_reader.specs.declared.classes.Opening.TheVariants as o
use Rattle.pri_reader.specs.Grammar.{expr, name_of, Takes}
use Rattle.pri_reader.specs.MachineStates.{wrap, not_at, minus_at, part_at, grouped_at, absolute_at, test_of, a_unary, a_minus, a_parenthesis, behind_name, a_pair, a_binder, a_part_bracket, under_rel}
use Rattle.pri_reader.specs.Reading.{file_setting, BeginsTerm, BeginsNone, Opened, Prefixes, PrefixesNone, NoRoom, Unwanted, IsRead, IsReadRefused, place}
use Rattle.pri_reader.proofs.Exits.{through}
use Rattle.pri_reader.proofs.PrimarySteps.{abs_step, factor_bad, group_step, identifier_step, if_step, minus_deep, minus_step, not_deep, not_step, number_great, number_step, pair_begin, part_deep, part_step, quantifier_step, relation_of_unary, truth_step}
use Rattle.pri_reader.proofs.BinderSteps.{bracket_bad, bracket_close_bad, bracket_close_step, bracket_step, part_name_bad, part_name_step}
use Rattle.pri_reader.proofs.TokenSteps.{gives_wrap}

pub not_no_room : {b : List ℕ} {d : ℕ} {x : Lexeme} {e : ReadRefusal} {t0 t1 : List Lexeme}
    → Prefixes p.Not x t0 t1 → NoRoom d x.at e → IsReadRefused b (a_unary d) ([]) t0 e
not_no_room s0 h = record { run = λ frames. rw h.is (not_deep _ _ _ _ _ _ s0 h.deep) }

pub not_part1 : {b : List ℕ} {d m : ℕ} {x : Lexeme} {e : ReadRefusal} {t0 t1 : List Lexeme}
    → Prefixes p.Not x t0 t1 → Opened d m → IsReadRefused b (a_unary m) ([]) t1 e → IsReadRefused b (a_unary d) ([]) t0 e
not_part1 {x} {e} s0 l0 h = record { run = λ frames. through e (not_step _ _ _ _ _ _ s0 l0) (h.run (wrap (not_at x.at) ∷ frames)) }

pub not_read : {b : List ℕ} {d m : ℕ} {f : Expr} {x : Lexeme} {t0 t1 t2 : List Lexeme}
    → Prefixes p.Not x t0 t1 → Opened d m → IsRead b (a_unary m) ([]) (f) t1 t2 → IsRead b (a_unary d) ([]) (expr x.at (form.Not f)) t0 t2
not_read {x} s0 l0 r1 = record { run = λ frames. not_step _ _ _ _ _ _ s0 l0 ∙ r1.run (wrap (not_at x.at) ∷ frames) ∙ gives_wrap _ _ _ _ _ }

pub quantifier_part1 : {b : List ℕ} {d : ℕ} {all : Bool} {x : Lexeme} {e : ReadRefusal} {t0 t1 : List Lexeme}
    → Prefixes (p.Quantifier all) x t0 t1 → IsReadRefused b (a_binder x.at all d) ([]) t1 e → IsReadRefused b (a_unary d) ([]) t0 e
quantifier_part1 {e} s0 h = record { run = λ frames. through e (quantifier_step _ _ _ _ _ _ _ s0) (h.run (frames)) }

pub quantifier_read : {b : List ℕ} {d : ℕ} {all : Bool} {f : Expr} {x : Lexeme} {t0 t1 t2 : List Lexeme}
    → Prefixes (p.Quantifier all) x t0 t1 → IsRead b (a_binder x.at all d) ([]) (f) t1 t2 → IsRead b (a_unary d) ([]) (f) t0 t2
quantifier_read s0 r1 = record { run = λ frames. quantifier_step _ _ _ _ _ _ _ s0 ∙ r1.run (frames) }

pub part_no_room : {b : List ℕ} {d : ℕ} {x : Lexeme} {e : ReadRefusal} {t0 t1 : List Lexeme}
    → Prefixes p.Part x t0 t1 → NoRoom d x.at e → IsReadRefused b (a_unary d) ([]) t0 e
part_no_room s0 h = record { run = λ frames. rw h.is (part_deep _ _ _ _ _ _ s0 h.deep) }

pub part_part1 : {b : List ℕ} {d m : ℕ} {x : Lexeme} {e : ReadRefusal} {t0 t1 : List Lexeme}
    → Prefixes p.Part x t0 t1 → Opened d m → IsReadRefused b (a_part_bracket x.at m) ([]) t1 e → IsReadRefused b (a_unary d) ([]) t0 e
part_part1 {e} s0 l0 h = record { run = λ frames. through e (part_step _ _ _ _ _ _ s0 l0) (h.run (frames)) }

pub part_read : {b : List ℕ} {d m : ℕ} {f : Expr} {x : Lexeme} {t0 t1 t2 : List Lexeme}
    → Prefixes p.Part x t0 t1 → Opened d m → IsRead b (a_part_bracket x.at m) ([]) (f) t1 t2 → IsRead b (a_unary d) ([]) (f) t0 t2
part_read s0 l0 r1 = record { run = λ frames. part_step _ _ _ _ _ _ s0 l0 ∙ r1.run (frames) }

pub unary_part1 : {b : List ℕ} {d : ℕ} {e : ReadRefusal} {t0 : List Lexeme}
    → PrefixesNone t0 → IsReadRefused b (a_minus d) (under_rel d []) t0 e → IsReadRefused b (a_unary d) ([]) t0 e
unary_part1 {e} n0 h = record { run = λ frames. through e (relation_of_unary _ _ _ _ n0) (h.run (frames)) }

pub unary_rel : {b : List ℕ} {d : ℕ} {f : Expr} {t0 t1 : List Lexeme}
    → PrefixesNone t0 → IsRead b (a_minus d) (under_rel d []) (f) t0 t1 → IsRead b (a_unary d) ([]) (f) t0 t1
unary_rel n0 r1 = record { run = λ frames. relation_of_unary _ _ _ _ n0 ∙ r1.run (frames) }

pub ruleset unary_lines = (not_no_room, not_part1, not_read, quantifier_part1, quantifier_read, part_no_room, part_part1, part_read, unary_part1, unary_rel)

pub part_name_no_bracket : {b : List ℕ} {d at : ℕ} {e : ReadRefusal} {t0 : List Lexeme}
    → Unwanted t.OpenBracket b t0 e → IsReadRefused b (a_part_bracket at d) ([]) t0 e
part_name_no_bracket h = record { run = λ frames. rw h.is (bracket_bad _ _ _ _ _ h.no) }

pub part_name_no_part_name : {b : List ℕ} {d at : ℕ} {x : Lexeme} {e : ReadRefusal} {t0 t1 : List Lexeme}
    → Takes t.OpenBracket x t0 t1 → Unwanted t.Identifier b t1 e → IsReadRefused b (a_part_bracket at d) ([]) t0 e
part_name_no_part_name s0 h = record { run = λ frames. rw h.is (bracket_step _ _ _ _ _ _ _ s0 ∙ part_name_bad _ _ _ _ _ h.no) }

pub part_name_no_bracket_close : {b : List ℕ} {d at : ℕ} {x y : Lexeme} {e : ReadRefusal} {t0 t1 t2 : List Lexeme}
    → Takes t.OpenBracket x t0 t1 → Takes t.Identifier y t1 t2 → Unwanted t.CloseBracket b t2 e → IsReadRefused b (a_part_bracket at d) ([]) t0 e
part_name_no_bracket_close s0 s1 h = record { run = λ frames. rw h.is (bracket_step _ _ _ _ _ _ _ s0 ∙ part_name_step _ _ _ _ _ _ _ s1 ∙ bracket_close_bad _ _ _ _ _ _ h.no) }

pub part_name_part1 : {b : List ℕ} {d at : ℕ} {x y z : Lexeme} {e : ReadRefusal} {t0 t1 t2 t3 : List Lexeme}
    → Takes t.OpenBracket x t0 t1 → Takes t.Identifier y t1 t2 → Takes t.CloseBracket z t2 t3 → IsReadRefused b (a_unary d) ([]) t3 e → IsReadRefused b (a_part_bracket at d) ([]) t0 e
part_name_part1 {b} {at} {y} {e} s0 s1 s2 h = record { run = λ frames. through e (bracket_step _ _ _ _ _ _ _ s0 ∙ part_name_step _ _ _ _ _ _ _ s1 ∙ bracket_close_step _ _ _ _ _ _ _ _ s2) (h.run (wrap (part_at at (name_of (file_setting b) y)) ∷ frames)) }

pub part_name_read : {b : List ℕ} {d at : ℕ} {f : Expr} {x y z : Lexeme} {t0 t1 t2 t3 t4 : List Lexeme}
    → Takes t.OpenBracket x t0 t1 → Takes t.Identifier y t1 t2 → Takes t.CloseBracket z t2 t3 → IsRead b (a_unary d) ([]) (f) t3 t4 → IsRead b (a_part_bracket at d) ([]) (expr at (form.Part (name_of (file_setting b) y) f)) t0 t4
part_name_read {b} {at} {y} s0 s1 s2 r1 = record { run = λ frames. bracket_step _ _ _ _ _ _ _ s0 ∙ part_name_step _ _ _ _ _ _ _ s1 ∙ bracket_close_step _ _ _ _ _ _ _ _ s2 ∙ r1.run (wrap (part_at at (name_of (file_setting b) y)) ∷ frames) ∙ gives_wrap _ _ _ _ _ }

pub ruleset part_lines = (part_name_no_bracket, part_name_no_part_name, part_name_no_bracket_close, part_name_part1, part_name_read)

pub minus_no_room : {b : List ℕ} {d : ℕ} {x : Lexeme} {e : ReadRefusal} {t0 t1 : List Lexeme}
    → BeginsTerm o.Minus x t0 t1 → NoRoom d x.at e → IsReadRefused b (a_minus d) ([]) t0 e
minus_no_room s0 h = record { run = λ frames. rw h.is (minus_deep _ _ _ _ _ _ s0 h.deep) }

pub minus_part1 : {b : List ℕ} {d m : ℕ} {x : Lexeme} {e : ReadRefusal} {t0 t1 : List Lexeme}
    → BeginsTerm o.Minus x t0 t1 → Opened d m → IsReadRefused b (a_minus m) ([]) t1 e → IsReadRefused b (a_minus d) ([]) t0 e
minus_part1 {x} {e} s0 l0 h = record { run = λ frames. through e (minus_step _ _ _ _ _ _ s0 l0) (h.run (wrap (minus_at x.at) ∷ frames)) }

pub minus_read : {b : List ℕ} {d m : ℕ} {f : Expr} {x : Lexeme} {t0 t1 t2 : List Lexeme}
    → BeginsTerm o.Minus x t0 t1 → Opened d m → IsRead b (a_minus m) ([]) (f) t1 t2 → IsRead b (a_minus d) ([]) (expr x.at (form.Minus f)) t0 t2
minus_read {x} s0 l0 r1 = record { run = λ frames. minus_step _ _ _ _ _ _ s0 l0 ∙ r1.run (wrap (minus_at x.at) ∷ frames) ∙ gives_wrap _ _ _ _ _ }

pub number_read : {b : List ℕ} {d : ℕ} {x : Lexeme} {t0 t1 : List Lexeme}
    → BeginsTerm o.Number x t0 t1 → decimal_value (text_of b x) < 2 ^ 127 → IsRead b (a_minus d) ([]) (expr x.at (form.Number (pos (decimal_value (text_of b x))))) t0 t1
number_read s h = record { run = λ frames. number_step _ _ _ _ _ _ s h }

pub number_value : {b : List ℕ} {d : ℕ} {x : Lexeme} {value : ℤ} {t0 t1 : List Lexeme}
    → BeginsTerm o.Number x t0 t1 → (value ≡ pos (decimal_value (text_of b x))) × (decimal_value (text_of b x) < 2 ^ 127) → IsRead b (a_minus d) ([]) (expr x.at (form.Number value)) t0 t1
number_value s h = rw h.0 (number_read s h.1)

pub number_refused : {b : List ℕ} {d : ℕ} {x : Lexeme} {t0 t1 : List Lexeme}
    → BeginsTerm o.Number x t0 t1 → 2 ^ 127 ≤ decimal_value (text_of b x) → IsReadRefused b (a_minus d) ([]) t0 (refusal.Literal x.at)
number_refused s h = record { run = λ frames. number_great _ _ _ _ _ _ s h }

pub truth_read : {b : List ℕ} {d : ℕ} {truth : Bool} {x : Lexeme} {t0 t1 : List Lexeme}
    → BeginsTerm (o.Truth truth) x t0 t1 → IsRead b (a_minus d) ([]) (expr x.at (form.Truth truth)) t0 t1
truth_read s0 = record { run = λ frames. truth_step _ _ _ _ _ _ _ s0 }

pub identifier_part1 : {b : List ℕ} {d : ℕ} {x : Lexeme} {e : ReadRefusal} {t0 t1 : List Lexeme}
    → BeginsTerm o.Identifier x t0 t1 → IsReadRefused b (behind_name (name_of (file_setting b) x) d) ([]) t1 e → IsReadRefused b (a_minus d) ([]) t0 e
identifier_part1 {e} s0 h = record { run = λ frames. through e (identifier_step _ _ _ _ _ _ s0) (h.run (frames)) }

pub identifier_read : {b : List ℕ} {d : ℕ} {f : Expr} {x : Lexeme} {t0 t1 t2 : List Lexeme}
    → BeginsTerm o.Identifier x t0 t1 → IsRead b (behind_name (name_of (file_setting b) x) d) ([]) (f) t1 t2 → IsRead b (a_minus d) ([]) (f) t0 t2
identifier_read s0 r1 = record { run = λ frames. identifier_step _ _ _ _ _ _ s0 ∙ r1.run (frames) }

pub group_refused : {b : List ℕ} {d : ℕ} {x : Lexeme} {e : ReadRefusal} {t0 t1 : List Lexeme}
    → BeginsTerm o.Parenthesis x t0 t1 → IsReadRefused b (a_parenthesis d) ([]) t0 e → IsReadRefused b (a_minus d) ([]) t0 e
group_refused {x} {e} s h = record { run = λ frames. through e (group_step _ _ _ _ _ _ s) (h.run (wrap (grouped_at x.at) ∷ frames)) }

pub group_read : {b : List ℕ} {d : ℕ} {f : Expr} {x : Lexeme} {t0 t1 t2 : List Lexeme}
    → BeginsTerm o.Parenthesis x t0 t1 → IsRead b (a_parenthesis d) ([]) f t0 t2 → IsRead b (a_minus d) ([]) (expr x.at (form.Group f)) t0 t2
group_read {x} s r = record { run = λ frames. group_step _ _ _ _ _ _ s ∙ r.run (wrap (grouped_at x.at) ∷ frames) ∙ gives_wrap _ _ _ _ _ }

pub if_part1 : {b : List ℕ} {d : ℕ} {x : Lexeme} {e : ReadRefusal} {t0 t1 : List Lexeme}
    → BeginsTerm o.If x t0 t1 → IsReadRefused b (a_parenthesis d) (test_of x.at d ∷ []) t1 e → IsReadRefused b (a_minus d) ([]) t0 e
if_part1 {e} s0 h = record { run = λ frames. through e (if_step _ _ _ _ _ _ s0) (h.run (frames)) }

pub if_read : {b : List ℕ} {d : ℕ} {f : Expr} {x : Lexeme} {t0 t1 t2 : List Lexeme}
    → BeginsTerm o.If x t0 t1 → IsRead b (a_parenthesis d) (test_of x.at d ∷ []) (f) t1 t2 → IsRead b (a_minus d) ([]) (f) t0 t2
if_read s0 r1 = record { run = λ frames. if_step _ _ _ _ _ _ s0 ∙ r1.run (frames) }

pub abs_part1 : {b : List ℕ} {d : ℕ} {x : Lexeme} {e : ReadRefusal} {t0 t1 : List Lexeme}
    → BeginsTerm o.Abs x t0 t1 → IsReadRefused b (a_parenthesis d) ([]) t1 e → IsReadRefused b (a_minus d) ([]) t0 e
abs_part1 {x} {e} s0 h = record { run = λ frames. through e (abs_step _ _ _ _ _ _ s0) (h.run (wrap (absolute_at x.at) ∷ frames)) }

pub abs_read : {b : List ℕ} {d : ℕ} {f : Expr} {x : Lexeme} {t0 t1 t2 : List Lexeme}
    → BeginsTerm o.Abs x t0 t1 → IsRead b (a_parenthesis d) ([]) (f) t1 t2 → IsRead b (a_minus d) ([]) (expr x.at (form.Abs f)) t0 t2
abs_read {x} s0 r1 = record { run = λ frames. abs_step _ _ _ _ _ _ s0 ∙ r1.run (wrap (absolute_at x.at) ∷ frames) ∙ gives_wrap _ _ _ _ _ }

pub pair_part1 : {b : List ℕ} {d : ℕ} {max : Bool} {x : Lexeme} {e : ReadRefusal} {t0 t1 : List Lexeme}
    → BeginsTerm (o.Pair max) x t0 t1 → IsReadRefused b (a_pair max x.at d) ([]) t1 e → IsReadRefused b (a_minus d) ([]) t0 e
pair_part1 {e} s0 h = record { run = λ frames. through e (pair_begin _ _ _ _ _ _ _ s0) (h.run (frames)) }

pub pair_read : {b : List ℕ} {d : ℕ} {max : Bool} {f : Expr} {x : Lexeme} {t0 t1 t2 : List Lexeme}
    → BeginsTerm (o.Pair max) x t0 t1 → IsRead b (a_pair max x.at d) ([]) (f) t1 t2 → IsRead b (a_minus d) ([]) (f) t0 t2
pair_read s0 r1 = record { run = λ frames. pair_begin _ _ _ _ _ _ _ s0 ∙ r1.run (frames) }

pub factor_refused : {b : List ℕ} {d : ℕ} {t0 : List Lexeme}
    → BeginsNone t0 → IsReadRefused b (a_minus d) ([]) t0 (refusal.Syntax (place (length b) t0))
factor_refused n = record { run = λ frames. factor_bad _ _ _ _ n }

pub ruleset factor_lines = (minus_no_room, minus_part1, minus_read, number_read, number_value, number_refused, truth_read, identifier_part1, identifier_read, group_refused, group_read, if_part1, if_read, abs_part1, abs_read, pair_part1, pair_read, factor_refused)
