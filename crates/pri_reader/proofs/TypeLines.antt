-- How types are read.
use Rattle.std.proofs.Common.{ℕ, ℤ, ◌≡◌, List, neg_ℤ, sym, ap, ◌∙◌}
use Rattle.pri_tokens.specs.declared.terminals.Terminal.TheVariants as t
use Rattle.pri_tokens.specs.declared.terminals.Lexeme.{Lexeme}
use Rattle.pri_reader.specs.declared.tree.TypeName.TheVariants as type
use Rattle.pri_reader.specs.declared.tree.ReadRefusal.{ReadRefusal}
use Rattle.pri_reader.specs.Grammar.{Takes}
use Rattle.pri_reader.specs.MachineStates.{lower, upper, behind_endpoint}
use Rattle.pri_reader.specs.Reading.{reads, NotNext, ReadsEndpoint, ReadsNoEndpoint, ReadsNoType, ReadsType, RefusesNumber, no_number, too_large, TakesValue, Unwanted}
use Rattle.pri_reader.proofs.Exits.{through}
use Rattle.pri_reader.proofs.TypeSteps.{type_bad, nat_step, int_step, int_pass, bracket_step, endpoint_bad, endpoint_step, endpoint_great, minus_step, number_bad, number_step, number_great, comma_bad, comma_step, close_bad, close_step}

-- The endpoints of a range.

pub plain_endpoint : {b : List ℕ} {value : ℤ} {t0 t1 : List Lexeme} → TakesValue b value t0 t1 → ReadsEndpoint b value t0 t1
plain_endpoint {b = b} {t1 = t1} v = record { run = λ p frames. endpoint_step _ _ _ _ _ _ _ v.takes ∙ ap (λ z. reads b t1 (behind_endpoint p.0 p.1 z) frames) (sym v.is) }

pub no_plain_endpoint : {b : List ℕ} {t0 : List Lexeme} {e : ReadRefusal} → NotNext t.Minus t0 → RefusesNumber b t0 e → ReadsNoEndpoint b t0 e
no_plain_endpoint n (no_number u) = record { run = λ p frames. rw u.is (endpoint_bad _ _ _ _ _ n u.no) }
no_plain_endpoint n (too_large s h i) = record { run = λ p frames. rw i (endpoint_great _ _ _ _ _ _ _ s h) }

pub minus_endpoint : {b : List ℕ} {value found : ℤ} {x : Lexeme} {t0 t1 t2 : List Lexeme} → Takes t.Minus x t0 t1 → TakesValue b value t1 t2 → found ≡ neg_ℤ value
    → ReadsEndpoint b found t0 t2
minus_endpoint {b = b} {t2 = t2} s v e =
    record { run = λ p frames. minus_step _ _ _ _ _ _ _ s ∙ number_step _ _ _ _ _ _ _ v.takes ∙ ap (λ z. reads b t2 (behind_endpoint p.0 p.1 z) frames) (sym (e ∙ ap neg_ℤ v.is)) }

pub no_minus_endpoint : {b : List ℕ} {x : Lexeme} {t0 t1 : List Lexeme} {e : ReadRefusal} → Takes t.Minus x t0 t1 → RefusesNumber b t1 e → ReadsNoEndpoint b t0 e
no_minus_endpoint s (no_number u) = record { run = λ p frames. rw u.is (minus_step _ _ _ _ _ _ _ s ∙ number_bad _ _ _ _ _ u.no) }
no_minus_endpoint s (too_large m h i) = record { run = λ p frames. rw i (minus_step _ _ _ _ _ _ _ s ∙ number_great _ _ _ _ _ _ _ m h) }

pub ruleset endpoint_lines = (minus_endpoint, no_minus_endpoint)

-- Types.

pub nat_read : {b : List ℕ} {x : Lexeme} {t0 t1 : List Lexeme} → Takes t.Nat x t0 t1 → ReadsType b type.Nat t0 t1
nat_read s = record { run = λ for frames. nat_step _ _ _ _ _ _ s }

pub int_read : {b : List ℕ} {x : Lexeme} {t0 t1 : List Lexeme} → Takes t.Int x t0 t1 → NotNext t.OpenBracket t1 → ReadsType b type.Int t0 t1
int_read s n = record { run = λ for frames. int_step _ _ _ _ _ _ s ∙ int_pass _ _ _ _ n }

pub no_type : {b : List ℕ} {t0 : List Lexeme} {e : ReadRefusal} → NotNext t.Nat t0 → Unwanted t.Int b t0 e → ReadsNoType b t0 e
no_type n u = record { run = λ for frames. rw u.is (type_bad _ _ _ _ n u.no) }

pub no_lower : {b : List ℕ} {x y : Lexeme} {t0 t1 t2 : List Lexeme} {e : ReadRefusal} → Takes t.Int x t0 t1 → Takes t.OpenBracket y t1 t2 → ReadsNoEndpoint b t2 e → ReadsNoType b t0 e
no_lower {e = e} s o r = record { run = λ for frames. through e (int_step _ _ _ _ _ _ s ∙ bracket_step _ _ _ _ _ _ o) (r.run (for, lower) frames) }

pub no_comma : {b : List ℕ} {a : ℤ} {x y : Lexeme} {t0 t1 t2 t3 : List Lexeme} {e : ReadRefusal} → Takes t.Int x t0 t1 → Takes t.OpenBracket y t1 t2 → ReadsEndpoint b a t2 t3
    → Unwanted t.Comma b t3 e → ReadsNoType b t0 e
no_comma s o r u = record { run = λ for frames. rw u.is (int_step _ _ _ _ _ _ s ∙ bracket_step _ _ _ _ _ _ o ∙ r.run (for, lower) frames ∙ comma_bad _ _ _ _ _ u.no) }

pub no_upper : {b : List ℕ} {a : ℤ} {x y z : Lexeme} {t0 t1 t2 t3 t4 : List Lexeme} {e : ReadRefusal} → Takes t.Int x t0 t1 → Takes t.OpenBracket y t1 t2 → ReadsEndpoint b a t2 t3
    → Takes t.Comma z t3 t4 → ReadsNoEndpoint b t4 e → ReadsNoType b t0 e
no_upper {a = a} {e = e} s o r c q =
    record { run = λ for frames. through e (int_step _ _ _ _ _ _ s ∙ bracket_step _ _ _ _ _ _ o ∙ r.run (for, lower) frames ∙ comma_step _ _ _ _ _ _ _ c) (q.run (for, upper a) frames) }

pub no_close : {b : List ℕ} {a d : ℤ} {x y z : Lexeme} {t0 t1 t2 t3 t4 t5 : List Lexeme} {e : ReadRefusal} → Takes t.Int x t0 t1 → Takes t.OpenBracket y t1 t2 → ReadsEndpoint b a t2 t3
    → Takes t.Comma z t3 t4 → ReadsEndpoint b d t4 t5 → Unwanted t.CloseBracket b t5 e → ReadsNoType b t0 e
no_close {a = a} s o r c q u =
    record {
      run = λ for frames. rw u.is (int_step _ _ _ _ _ _ s ∙ bracket_step _ _ _ _ _ _ o ∙ r.run (for, lower) frames ∙ comma_step _ _ _ _ _ _ _ c ∙ q.run (for, upper a) frames
          ∙ close_bad _ _ _ _ _ _ u.no);
    }

pub range_read : {b : List ℕ} {a d : ℤ} {x y z w : Lexeme} {t0 t1 t2 t3 t4 t5 t6 : List Lexeme} → Takes t.Int x t0 t1 → Takes t.OpenBracket y t1 t2 → ReadsEndpoint b a t2 t3
    → Takes t.Comma z t3 t4 → ReadsEndpoint b d t4 t5 → Takes t.CloseBracket w t5 t6 → ReadsType b (type.Range a d) t0 t6
range_read {a = a} s o r c q l =
    record {
      run = λ for frames. int_step _ _ _ _ _ _ s ∙ bracket_step _ _ _ _ _ _ o ∙ r.run (for, lower) frames ∙ comma_step _ _ _ _ _ _ _ c ∙ q.run (for, upper a) frames
          ∙ close_step _ _ _ _ _ _ _ _ l;
    }
