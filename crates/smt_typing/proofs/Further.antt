-- One command further: the refusal of the whole script by that of the commands after.
use Rattle.std.proofs.Common.{◌≡◌, true, false, List, ◌∷◌, refl, sym, ap, ◌∙◌, Option, Some, None}
use Rattle.smt_lists.specs.Expressions.{Expr, place_of}
use Rattle.smt_commands.specs.declared.refusal.ScriptRefusal.{ScriptRefusal}
use Rattle.smt_commands.specs.declared.refusal.ScriptRefusal.TheVariants as r
use Rattle.smt_commands.specs.declared.table.Entry.{Entry}
use Rattle.smt_commands.specs.Commands.{CommandForm, skip, say, declare, define, assert, check_sat, push, pop, reset, exit}
use Rattle.smt_commands.specs.Levels.{Levels}
use Rattle.smt_commands.specs.Faults.{TermFaults, behind, command_faults, form, or_later, refusal_from, unless_exit}
use Rattle.smt_commands.specs.Least.{IsScriptRefused, least}
use Rattle.smt_typing.specs.Steps.{PassesCommand, StopsCommand, is_exit, symbols_from, unless_last}

goes_on : (f : Option CommandForm) (later : Option ScriptRefusal) → is_exit f ≡ false → unless_exit f later ≡ later
goes_on None later e = refl
goes_on (Some skip) later e = refl
goes_on (Some (say x)) later e = refl
goes_on (Some (declare x sorts s)) later e = refl
goes_on (Some (define f arguments s t)) later e = refl
goes_on (Some (assert t)) later e = refl
goes_on (Some (check_sat ts)) later e = refl
goes_on (Some (push n)) later e = refl
goes_on (Some (pop n)) later e = refl
goes_on (Some reset) later e = refl
goes_on (Some exit) later e = absurd (cc)

stops : (f : Option CommandForm) (later : Option ScriptRefusal) → is_exit f ≡ true → unless_exit f later ≡ None
stops None later e = absurd (cc)
stops (Some skip) later e = absurd (cc)
stops (Some (say x)) later e = absurd (cc)
stops (Some (declare x sorts s)) later e = absurd (cc)
stops (Some (define f arguments s t)) later e = absurd (cc)
stops (Some (assert t)) later e = absurd (cc)
stops (Some (check_sat ts)) later e = absurd (cc)
stops (Some (push n)) later e = absurd (cc)
stops (Some (pop n)) later e = absurd (cc)
stops (Some reset) later e = absurd (cc)
stops (Some exit) later e = refl

going : (f : Option CommandForm) (here later : List Entry) → is_exit f ≡ false → unless_last f here later ≡ later
going None here later e = refl
going (Some skip) here later e = refl
going (Some (say x)) here later e = refl
going (Some (declare x sorts s)) here later e = refl
going (Some (define f arguments s t)) here later e = refl
going (Some (assert t)) here later e = refl
going (Some (check_sat ts)) here later e = refl
going (Some (push n)) here later e = refl
going (Some (pop n)) here later e = refl
going (Some reset) here later e = refl
going (Some exit) here later e = absurd (cc)

ending : (f : Option CommandForm) (here later : List Entry) → is_exit f ≡ true → unless_last f here later ≡ here
ending None here later e = absurd (cc)
ending (Some skip) here later e = absurd (cc)
ending (Some (say x)) here later e = absurd (cc)
ending (Some (declare x sorts s)) here later e = absurd (cc)
ending (Some (define f arguments s t)) here later e = absurd (cc)
ending (Some (assert t)) here later e = absurd (cc)
ending (Some (check_sat ts)) here later e = absurd (cc)
ending (Some (push n)) here later e = absurd (cc)
ending (Some (pop n)) here later e = absurd (cc)
ending (Some reset) here later e = absurd (cc)
ending (Some exit) here later e = refl

pub symbols_on : (terms : TermFaults) (table new : Levels (List Entry)) (e : Expr) (es : List Expr) (whole : List Entry) → PassesCommand terms table (place_of e) (form e) new → is_exit (form e) ≡ false
    → symbols_from table (e ∷ es) ≡ whole → symbols_from new es ≡ whole
symbols_on terms table new e es whole p x w =
    ap (λ z. symbols_from z es) p.symbols ∙ sym (going (form e) (behind table (form e)).now (symbols_from (behind table (form e)) es) x) ∙ w

pub symbols_end : (terms : TermFaults) (table new : Levels (List Entry)) (e : Expr) (es : List Expr) (whole : List Entry) → PassesCommand terms table (place_of e) (form e) new → is_exit (form e) ≡ true
    → symbols_from table (e ∷ es) ≡ whole → new.now ≡ whole
symbols_end terms table new e es whole p x w = ap (λ z. z.now) p.symbols ∙ sym (ending (form e) (behind table (form e)).now (symbols_from (behind table (form e)) es) x) ∙ w

-- a command without fault
passed : (terms : TermFaults) (table new : Levels (List Entry)) (e : Expr) (es : List Expr) → PassesCommand terms table (place_of e) (form e) new
    → refusal_from terms table (e ∷ es) ≡ unless_exit (form e) (refusal_from terms new es)
passed terms table new e es p =
    ap (λ z. or_later z (unless_exit (form e) (refusal_from terms (behind table (form e)) es))) p.fits
    ∙ ap (λ z. unless_exit (form e) (refusal_from terms z es)) (sym p.symbols)

pub walk_on : (terms : TermFaults) (table new : Levels (List Entry)) (e : Expr) (es : List Expr) (whole : Option ScriptRefusal) → PassesCommand terms table (place_of e) (form e) new → is_exit (form e) ≡ false
    → refusal_from terms table (e ∷ es) ≡ whole → refusal_from terms new es ≡ whole
walk_on terms table new e es whole p x w = sym (goes_on (form e) (refusal_from terms new es) x) ∙ sym (passed terms table new e es p) ∙ w

pub walk_end : (terms : TermFaults) (table new : Levels (List Entry)) (e : Expr) (es : List Expr) (whole : Option ScriptRefusal) → PassesCommand terms table (place_of e) (form e) new → is_exit (form e) ≡ true
    → refusal_from terms table (e ∷ es) ≡ whole → whole ≡ None
walk_end terms table new e es whole p x w = sym w ∙ passed terms table new e es p ∙ stops (form e) (refusal_from terms new es) x

-- a refusal that is told is passed on
pub refused_by : (e : ScriptRefusal) (a b : Option ScriptRefusal) → (a ≡ Some e → b ≡ Some e) → IsScriptRefused e a → IsScriptRefused e b
refused_by (r.Syntax at) a b f x = f x
refused_by (r.Literal at) a b f x = f x
refused_by (r.Deep at) a b f x = f x
refused_by (r.Undeclared at) a b f x = f x
refused_by (r.Redeclared at) a b f x = f x
refused_by (r.Arity at) a b f x = f x
refused_by (r.Kind at) a b f x = f x
refused_by (r.NonLinear at) a b f x = f x
refused_by (r.Many at) a b f x = f x
refused_by r.Large a b f x = f x
refused_by (r.Profile at) a b f x = f x
refused_by r.Memory a b f x = tt

pub walk_stops : (terms : TermFaults) (table : Levels (List Entry)) (e : Expr) (es : List Expr) (whole : Option ScriptRefusal) (fault : ScriptRefusal) → StopsCommand terms table (place_of e) (form e) fault
    → refusal_from terms table (e ∷ es) ≡ whole → IsScriptRefused fault whole
walk_stops terms table e es whole fault s w =
    refused_by fault (least (command_faults terms table (place_of e) (form e))) whole
    (λ q. sym w ∙ ap (λ z. or_later z (unless_exit (form e) (refusal_from terms (behind table (form e)) es))) q) s.is
