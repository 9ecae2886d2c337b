-- How the names that a quantifier binds are read.
use Rattle.std.proofs.Common.{ℕ, ◌≡◌, Bool, true, false, List, [], ◌∷◌, ◌++◌, ◌∙◌}
use Rattle.pri_tokens.specs.declared.terminals.Terminal.TheVariants as t
use Rattle.pri_tokens.specs.declared.terminals.Lexeme.{Lexeme}
use Rattle.pri_reader.specs.declared.tree.TypeName.{TypeName}
use Rattle.pri_reader.specs.declared.tree.Declared.{Declared}
use Rattle.pri_reader.specs.declared.tree.Expr.{Expr}
use Rattle.pri_reader.specs.declared.tree.Form.TheVariants as form
use Rattle.pri_reader.specs.declared.tree.ReadRefusal.{ReadRefusal}
use Rattle.pri_reader.specs.declared.tree.ReadRefusal.TheVariants as refusal
use Rattle.pri_reader.specs.Grammar.{expr, name_of, of_type, Takes}
use Rattle.pri_reader.specs.MachineStates.{Want, a_binder, for_binder, a_type, a_bound, a_unary, bound_at, wrap}
use Rattle.pri_reader.specs.Reading.{file_setting, Binds, BindsEnd, BindsMore, BindsNoMore, BindsNone, IsRead, IsReadRefused, LeadsBound, NoRoom, NotNext, Opened, ReadsNoType, ReadsType, Unwanted}
use Rattle.pri_reader.proofs.Exits.{through}
use Rattle.pri_reader.proofs.BinderSteps.{plain_pass, grouped_step, bound_bad, bound_step, bound_deep, bound_comma_step, bound_line_step, bound_plain_end_step, bound_grouped_end_step, plain_more_bad, grouped_more_bad}
use Rattle.pri_reader.proofs.TokenSteps.{gives_wrap}

-- After a bound name.

pub more_comma : {b : List ℕ} {several : Bool} {sort : TypeName} {x : Lexeme} {t0 t1 : List Lexeme} → Takes t.Comma x t0 t1 → BindsMore b several sort sort t0 t1
more_comma s = record { run = λ n names. record { run = λ at all frames. bound_comma_step _ _ _ _ _ _ _ _ _ _ _ s } }

pub more_line : {b : List ℕ} {several : Bool} {old new : TypeName} {x : Lexeme} {t0 t1 t2 : List Lexeme} → several ≡ true → Takes t.Semicolon x t0 t1 → ReadsType b new t1 t2
    → BindsMore b several old new t0 t2
more_line h s i = rw h (record { run = λ n names. record { run = λ at all frames. bound_line_step _ _ _ _ _ _ _ _ _ _ s ∙ i.run (for_binder at all true n names) frames } })

pub plain_end : {b : List ℕ} {several : Bool} {sort : TypeName} {x : Lexeme} {t0 t1 : List Lexeme} → several ≡ false → Takes t.Semicolon x t0 t1 → BindsEnd b several sort t0 t1
plain_end h s = rw h (record { run = λ n names. record { run = λ at all frames. bound_plain_end_step _ _ _ _ _ _ _ _ _ _ s } })

pub grouped_end : {b : List ℕ} {several : Bool} {sort : TypeName} {x : Lexeme} {t0 t1 : List Lexeme} → several ≡ true → Takes t.CloseParenthesis x t0 t1 → BindsEnd b several sort t0 t1
grouped_end h s = rw h (record { run = λ n names. record { run = λ at all frames. bound_grouped_end_step _ _ _ _ _ _ _ _ _ _ s } })

pub no_plain : {b : List ℕ} {several : Bool} {sort : TypeName} {t0 : List Lexeme} {e : ReadRefusal} → NotNext t.Comma t0 → several ≡ false → Unwanted t.Semicolon b t0 e → BindsNoMore b several sort t0 e
no_plain c h u = rw h (record { run = λ n names. record { run = λ at all frames. rw u.is (plain_more_bad _ _ _ _ _ _ _ _ c u.no) } })

pub no_grouped : {b : List ℕ} {several : Bool} {sort : TypeName} {t0 : List Lexeme} {e : ReadRefusal} → NotNext t.Comma t0 → several ≡ true → NotNext t.Semicolon t0 → Unwanted t.CloseParenthesis b t0 e → BindsNoMore b several sort t0 e
no_grouped c h n u = rw h (record { run = λ n0 names. record { run = λ at all frames. rw u.is (grouped_more_bad _ _ _ _ _ _ _ _ c n u.no) } })

pub no_line : {b : List ℕ} {several : Bool} {sort : TypeName} {x : Lexeme} {t0 t1 : List Lexeme} {e : ReadRefusal} → several ≡ true → Takes t.Semicolon x t0 t1 → ReadsNoType b t1 e → BindsNoMore b several sort t0 e
no_line {e = e} h s r = rw h (record { run = λ n names. record { run = λ at all frames. through e (bound_line_step _ _ _ _ _ _ _ _ _ _ s) (r.run (for_binder at all true n names) frames) } })

-- The names, from the first type on: the tokens so far lead to the next name, of this type.

pub binding_begins : {b : List ℕ} {several : Bool} {sort : TypeName} {d : ℕ} {t0 t1 : List Lexeme} → ReadsType b sort t0 t1
    → LeadsBound b t0 (λ at all. a_type (for_binder at all several d [])) t1 (λ at all. a_bound at all several sort d [])
binding_begins {several} {d} r = record { run = λ at all frames. r.run (for_binder at all several d []) frames }

pub binding_no_type : {b : List ℕ} {several : Bool} {d : ℕ} {t0 : List Lexeme} {e : ReadRefusal} → ReadsNoType b t0 e
    → BindsNone b (λ at all. a_type (for_binder at all several d [])) t0 e
binding_no_type {several} {d} r = record { run = λ at all frames. r.run (for_binder at all several d []) frames }

pub binding_more : {b : List ℕ} {several : Bool} {old new : TypeName} {d e m : ℕ} {names : List Declared} {x : Lexeme} {t0 t1 t2 t3 : List Lexeme}
    → LeadsBound b t0 (λ at all. a_type (for_binder at all several d [])) t1 (λ at all. a_bound at all several old e names) → Takes t.Identifier x t1 t2 → Opened e m → BindsMore b several old new t2 t3
    → LeadsBound b t0 (λ at all. a_type (for_binder at all several d [])) t3 (λ at all. a_bound at all several new m (names ++ of_type old (name_of (file_setting b) x) ∷ []))
binding_more {b} {several} {old} {new} {d} {e} {m} {names} {x} i s l g =
    record { run = λ at all frames. i.run at all frames ∙ bound_step _ _ _ _ _ _ _ _ _ _ _ s l ∙ (g.run m (names ++ of_type old (name_of (file_setting b) x) ∷ [])).run at all frames }

pub binding_ends : {b : List ℕ} {several : Bool} {sort : TypeName} {d e m : ℕ} {names : List Declared} {x : Lexeme} {t0 t1 t2 t3 : List Lexeme}
    → LeadsBound b t0 (λ at all. a_type (for_binder at all several d [])) t1 (λ at all. a_bound at all several sort e names) → Takes t.Identifier x t1 t2 → Opened e m → BindsEnd b several sort t2 t3
    → Binds b (λ at all. a_type (for_binder at all several d [])) (names ++ of_type sort (name_of (file_setting b) x) ∷ []) m t0 t3
binding_ends {b} {several} {sort} {d} {e} {m} {names} {x} i s l g =
    record { run = λ at all frames. i.run at all frames ∙ bound_step _ _ _ _ _ _ _ _ _ _ _ s l ∙ (g.run m (names ++ of_type sort (name_of (file_setting b) x) ∷ [])).run at all frames }

pub binding_no_name : {b : List ℕ} {several : Bool} {sort : TypeName} {d n : ℕ} {names : List Declared} {e : ReadRefusal} {t0 t1 : List Lexeme}
    → LeadsBound b t0 (λ at all. a_type (for_binder at all several d [])) t1 (λ at all. a_bound at all several sort n names) → Unwanted t.Identifier b t1 e
    → BindsNone b (λ at all. a_type (for_binder at all several d [])) t0 e
binding_no_name i u = record { run = λ at all frames. rw u.is (i.run at all frames ∙ bound_bad _ _ _ _ _ _ _ _ _ u.no) }

pub binding_deep : {b : List ℕ} {several : Bool} {sort : TypeName} {d n : ℕ} {names : List Declared} {e : ReadRefusal} {x : Lexeme} {t0 t1 t2 : List Lexeme}
    → LeadsBound b t0 (λ at all. a_type (for_binder at all several d [])) t1 (λ at all. a_bound at all several sort n names) → Takes t.Identifier x t1 t2 → NoRoom n x.at e
    → BindsNone b (λ at all. a_type (for_binder at all several d [])) t0 e
binding_deep i s h = record { run = λ at all frames. rw h.is (i.run at all frames ∙ bound_deep _ _ _ _ _ _ _ _ _ _ _ s h.deep) }

pub binding_no_more : {b : List ℕ} {several : Bool} {sort : TypeName} {d n m : ℕ} {names : List Declared} {e : ReadRefusal} {x : Lexeme} {t0 t1 t2 : List Lexeme}
    → LeadsBound b t0 (λ at all. a_type (for_binder at all several d [])) t1 (λ at all. a_bound at all several sort n names) → Takes t.Identifier x t1 t2 → Opened n m → BindsNoMore b several sort t2 e
    → BindsNone b (λ at all. a_type (for_binder at all several d [])) t0 e
binding_no_more {b} {several} {sort} {d} {n} {m} {names} {e} {x} i s l g =
    record { run = λ at all frames. through e (i.run at all frames ∙ bound_step _ _ _ _ _ _ _ _ _ _ _ s l) ((g.run m (names ++ of_type sort (name_of (file_setting b) x) ∷ [])).run at all frames) }

pub binding_memory : {b : List ℕ} {want : ℕ → Bool → Want} {tokens : List Lexeme} {e : ReadRefusal} → e ≡ refusal.Memory → BindsNone b want tokens e
binding_memory h = rw h (record { run = λ at all frames. tt })

-- Both forms of a binder.

pub binder_plain : {b : List ℕ} {d e : ℕ} {names : List Declared} {t0 t1 : List Lexeme}
    → NotNext t.OpenParenthesis t0 → Binds b (λ at all. a_type (for_binder at all false d [])) names e t0 t1 → Binds b (λ at all. a_binder at all d) names e t0 t1
binder_plain n r = record { run = λ at all frames. plain_pass _ _ _ _ _ _ n ∙ r.run at all frames }

pub binder_plain_none : {b : List ℕ} {d : ℕ} {t0 : List Lexeme} {e : ReadRefusal}
    → NotNext t.OpenParenthesis t0 → BindsNone b (λ at all. a_type (for_binder at all false d [])) t0 e → BindsNone b (λ at all. a_binder at all d) t0 e
binder_plain_none {e = e} n r = record { run = λ at all frames. through e (plain_pass _ _ _ _ _ _ n) (r.run at all frames) }

pub binder_grouped : {b : List ℕ} {d e : ℕ} {names : List Declared} {x : Lexeme} {t0 t1 t2 : List Lexeme}
    → Takes t.OpenParenthesis x t0 t1 → Binds b (λ at all. a_type (for_binder at all true d [])) names e t1 t2 → Binds b (λ at all. a_binder at all d) names e t0 t2
binder_grouped s r = record { run = λ at all frames. grouped_step _ _ _ _ _ _ _ _ s ∙ r.run at all frames }

pub binder_grouped_none : {b : List ℕ} {d : ℕ} {x : Lexeme} {t0 t1 : List Lexeme} {e : ReadRefusal}
    → Takes t.OpenParenthesis x t0 t1 → BindsNone b (λ at all. a_type (for_binder at all true d [])) t1 e → BindsNone b (λ at all. a_binder at all d) t0 e
binder_grouped_none {e = e} s r = record { run = λ at all frames. through e (grouped_step _ _ _ _ _ _ _ _ s) (r.run at all frames) }

-- A quantifier with its body.

pub quantified_read : {b : List ℕ} {d m at : ℕ} {all : Bool} {names : List Declared} {f : Expr} {t0 t1 t2 : List Lexeme}
    → Binds b (λ at all. a_binder at all d) names m t0 t1 → IsRead b (a_unary m) [] f t1 t2 → IsRead b (a_binder at all d) [] (expr at (form.Quantified all names f)) t0 t2
quantified_read {at = at} {all = all} {names = names} g r = record { run = λ frames. g.run at all frames ∙ r.run (wrap (bound_at at all names) ∷ frames) ∙ gives_wrap _ _ _ _ _ }

pub quantified_no_binder : {b : List ℕ} {d at : ℕ} {all : Bool} {t0 : List Lexeme} {e : ReadRefusal}
    → BindsNone b (λ at all. a_binder at all d) t0 e → IsReadRefused b (a_binder at all d) [] t0 e
quantified_no_binder {at = at} {all = all} g = record { run = λ frames. g.run at all frames }

pub quantified_no_body : {b : List ℕ} {d m at : ℕ} {all : Bool} {names : List Declared} {t0 t1 : List Lexeme} {e : ReadRefusal}
    → Binds b (λ at all. a_binder at all d) names m t0 t1 → IsReadRefused b (a_unary m) [] t1 e → IsReadRefused b (a_binder at all d) [] t0 e
quantified_no_body {at = at} {all = all} {names = names} {e = e} g r = record { run = λ frames. through e (g.run at all frames) (r.run (wrap (bound_at at all names) ∷ frames)) }

pub ruleset quantified_lines = (quantified_read, quantified_no_binder, quantified_no_body)
