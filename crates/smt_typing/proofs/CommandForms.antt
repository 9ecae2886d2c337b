-- What the command of an S-expression is, and what a declaration answers.
use Rattle.std.proofs.Common.{ℕ, ◌≡◌, ◌≤◌, ◌<◌, ◌+◌, ◌-◌, Bool, true, false, List, [], ◌∷◌, ◌++◌, length, map, refl, sym, ap, ◌∙◌, nat_le, arith, Option, Some, None, if◌then◌else◌}
use Rattle.std.proofs.lemmas.Bool.Decides.{nat_tests}
use Rattle.std.proofs.lemmas.List.{length-map}
use Rattle.smt_lists.specs.declared.tree.Atom.{Atom}
use Rattle.smt_lists.specs.declared.tree.Sexp.{Sexp}
use Rattle.smt_lists.specs.declared.tree.Sexp.TheVariants as s
use Rattle.smt_lists.specs.Expressions.{Expr, expr}
use Rattle.smt_commands.specs.declared.refusal.ScriptRefusal.{ScriptRefusal}
use Rattle.smt_commands.specs.declared.refusal.ScriptRefusal.TheVariants as r
use Rattle.smt_terms.specs.declared.operator.Sort.{Sort}
use Rattle.smt_terms.specs.declared.operator.Sort.TheVariants as sort
use Rattle.smt_commands.specs.declared.table.Entry.{Entry}
use Rattle.smt_commands.specs.Commands.{Symbol, declare, define, check_sat, push, pop, command_of}
use Rattle.smt_commands.specs.Levels.{Levels, popped, pushed, with_now}
use Rattle.smt_commands.specs.Symbols.{after, is_known, sort_of, or_int}
use Rattle.smt_commands.specs.Faults.{TermFaults, body_faults, claim_faults, command_faults, declaration_faults, definition_faults, form, form_in, pop_faults, push_faults}
use Rattle.smt_commands.specs.Least.{IsScriptRefused, least, least_from}
use Rattle.smt_commands.proofs.Least.{least_from-append, two}
use Rattle.smt_commands.proofs.Fitting.{definable}
use Rattle.smt_commands.proofs.Forms.{members-Atom, members-List}
use Rattle.smt_typing.specs.Steps.{PassesCommand, StopsCommand}

pub form-Atom : (a : Atom) → form (expr (s.Atom a)) ≡ None
form-Atom a = ap form_in (members-Atom a)

pub form-List : (at : ℕ) (es : List Sexp) → form (expr (s.List at es)) ≡ command_of (map expr es)
form-List at es = ap form_in (members-List at es)

pub ruleset forms = (form-Atom, form-List)

pub declared_passes : (terms : TermFaults) (l : Levels (List Entry)) (at : ℕ) (x : Symbol) (sorts : List Expr) (s : Expr) (new : Levels (List Entry))
    → least (declaration_faults l.now x sorts s) ≡ None → new ≡ with_now l (after l.now (declare x sorts s)) → PassesCommand terms l at (Some (declare x sorts s)) new
declared_passes terms l at x sorts s new fits is = record { fits = fits; symbols = is }

pub declared_stops : (terms : TermFaults) (l : Levels (List Entry)) (at : ℕ) (x : Symbol) (sorts : List Expr) (s : Expr) (e : ScriptRefusal)
    → IsScriptRefused e (least (declaration_faults l.now x sorts s)) → StopsCommand terms l at (Some (declare x sorts s)) e
declared_stops terms l at x sorts s e is = record { is = is }

-- a refusal that is told
told : (e : ScriptRefusal) (a : Option ScriptRefusal) → a ≡ Some e → IsScriptRefused e a
told (r.Syntax at) a q = q
told (r.Literal at) a q = q
told (r.Deep at) a q = q
told (r.Undeclared at) a q = q
told (r.Redeclared at) a q = q
told (r.Arity at) a q = q
told (r.Kind at) a q = q
told (r.NonLinear at) a q = q
told (r.Many at) a q = q
told r.Large a q = q
told (r.Profile at) a q = q
told r.Memory a q = tt

-- what was found of a definition
pub record Found (terms : TermFaults) (l : Levels (List Entry)) (at : ℕ) (x : Symbol) (arguments : List Expr) (s t : Expr) (found : Option ScriptRefusal) : Type 0 where
  pub is : found ≡ least (command_faults terms l at (Some (define x arguments s t)))

pub found_of : (terms : TermFaults) (l : Levels (List Entry)) (at : ℕ) (x : Symbol) (arguments : List Expr) (s t : Expr) (want : Option Sort) (table : List Entry) (p f : Option ScriptRefusal)
    → table ≡ l.now → p ≡ least_from None (definition_faults table x arguments s) → want ≡ sort_of s → f ≡ least_from p (body_faults terms table at x.text arguments want t)
    → Found terms l at x arguments s t f
found_of terms l at x arguments s t want table p f same h w k = record {
  is = two None (definition_faults l.now x arguments s) (body_faults terms l.now at x.text arguments (sort_of s) t) p f (h ∙ ap (λ z. least_from None (definition_faults z x arguments s)) same)
      (k ∙ ap (λ z. least_from p (body_faults terms z at x.text arguments want t)) same ∙ ap (λ z. least_from p (body_faults terms l.now at x.text arguments z t)) w);
}

pub found_stops : (terms : TermFaults) (l : Levels (List Entry)) (at : ℕ) (x : Symbol) (arguments : List Expr) (s t : Expr) (found : Option ScriptRefusal) (e : ScriptRefusal)
    → Found terms l at x arguments s t found → found ≡ Some e → StopsCommand terms l at (Some (define x arguments s t)) e
found_stops terms l at x arguments s t found e f q = record { is = told e (least (command_faults terms l at (Some (define x arguments s t)))) (sym f.is ∙ q) }

pub found_new : (terms : TermFaults) (l : Levels (List Entry)) (at : ℕ) (x : Symbol) (arguments : List Expr) (s t : Expr) (found : Option ScriptRefusal)
    → Found terms l at x arguments s t found → found ≡ None → is_known x.text l.now ≡ false
found_new terms l at x arguments s t found f q = definable (body_faults terms l.now at x.text arguments (sort_of s) t) l.now x arguments s (sym q ∙ f.is)

pub found_passes : (terms : TermFaults) (l : Levels (List Entry)) (at : ℕ) (x : Symbol) (arguments : List Sexp) (s t : Expr) (found : Option ScriptRefusal) (n : ℕ) (k : Sort) (new : Levels (List Entry))
    → Found terms l at x (map expr arguments) s t found → found ≡ None → n ≡ length arguments → k ≡ or_int (sort_of s)
    → new ≡ with_now l (l.now ++ (record { text = x.text; arity = n; sort = k; defined = true }) ∷ []) → PassesCommand terms l at (Some (define x (map expr arguments) s t)) new
found_passes terms l at x arguments s t found n k new f q h o is = record {
  fits = sym f.is ∙ q;
  symbols = is ∙ ap (λ z. with_now l (l.now ++ (record { text = x.text; arity = z; sort = k; defined = true }) ∷ [])) (h ∙ sym (length-map arguments expr))
      ∙ ap (λ z. with_now l (l.now ++ (record { text = x.text; arity = length (map expr arguments); sort = z; defined = true }) ∷ [])) o;
}

-- Terms that are assumed.

pub claims_on : (terms : TermFaults) (table : List Entry) (e : Expr) (es : List Expr) (found new whole : Option ScriptRefusal)
    → new ≡ least_from found (terms.faults table [] (Some sort.Bool) e) → least_from found (claim_faults terms table (e ∷ es)) ≡ whole → least_from new (claim_faults terms table es) ≡ whole
claims_on terms table e es found new whole is w =
    ap (λ z. least_from z (claim_faults terms table es)) is ∙ sym (least_from-append found (terms.faults table [] (Some sort.Bool) e) (claim_faults terms table es)) ∙ w

pub assumed_passes : (terms : TermFaults) (l : Levels (List Entry)) (at : ℕ) (ts : List Expr) (found : Option ScriptRefusal)
    → found ≡ least (claim_faults terms l.now ts) → found ≡ None → PassesCommand terms l at (Some (check_sat ts)) l
assumed_passes terms l at ts found is none = record { fits = sym is ∙ none; symbols = refl }

pub assumed_stops : (terms : TermFaults) (l : Levels (List Entry)) (at : ℕ) (ts : List Expr) (found : Option ScriptRefusal) (e : ScriptRefusal)
    → found ≡ least (claim_faults terms l.now ts) → found ≡ Some e → StopsCommand terms l at (Some (check_sat ts)) e
assumed_stops terms l at ts found e is some = record { is = told e (least (claim_faults terms l.now ts)) (sym is ∙ some) }

-- Levels.

one_by : (b : Bool) (e : ScriptRefusal) → b ≡ true → (if b then [] else e ∷ []) ≡ []
one_by true e h = refl
one_by false e h = absurd (cc)

least_by : (b : Bool) (e : ScriptRefusal) → b ≡ false → least (if b then [] else e ∷ []) ≡ Some e
least_by true e h = absurd (cc)
least_by false e h = refl

pub push_fits : (levels n at : ℕ) → n ≤ 10000 → levels ≤ 10000 - n → push_faults levels n at ≡ []
push_fits levels n at few room = one_by (nat_le (levels + n) 10000) (r.Deep at) (grind (arith, nat_tests, few, room))

pub push_many : (levels n at : ℕ) → 10000 < n → IsScriptRefused (r.Deep at) (least (push_faults levels n at))
push_many levels n at many = least_by (nat_le (levels + n) 10000) (r.Deep at) (grind (arith, nat_tests, many))

pub push_more : (levels n at : ℕ) → n ≤ 10000 → 10000 - n < levels → IsScriptRefused (r.Deep at) (least (push_faults levels n at))
push_more levels n at few many = least_by (nat_le (levels + n) 10000) (r.Deep at) (grind (arith, nat_tests, few, many))

pub pop_fits : (levels n at : ℕ) → n ≤ levels → pop_faults levels n at ≡ []
pop_fits levels n at few = one_by (nat_le n levels) (r.Profile at) (grind (arith, nat_tests, few))

pub pop_stops : (levels n at : ℕ) → levels < n → IsScriptRefused (r.Profile at) (least (pop_faults levels n at))
pop_stops levels n at many = least_by (nat_le n levels) (r.Profile at) (grind (arith, nat_tests, many))

pub pushed_passes : (terms : TermFaults) (l new : Levels (List Entry)) (at n : ℕ) → push_faults (length l.below) n at ≡ [] → new ≡ pushed n l → PassesCommand terms l at (Some (push n)) new
pushed_passes terms l new at n fits is = record { fits = ap least fits; symbols = is }

pub pushed_stops : (terms : TermFaults) (l : Levels (List Entry)) (at n : ℕ) (e : ScriptRefusal) → IsScriptRefused e (least (push_faults (length l.below) n at)) → StopsCommand terms l at (Some (push n)) e
pushed_stops terms l at n e h = record { is = h }

pub popped_passes : (terms : TermFaults) (l new : Levels (List Entry)) (at n : ℕ) → pop_faults (length l.below) n at ≡ [] → new ≡ popped n l → PassesCommand terms l at (Some (pop n)) new
popped_passes terms l new at n fits is = record { fits = ap least fits; symbols = is }

pub popped_stops : (terms : TermFaults) (l : Levels (List Entry)) (at n : ℕ) (e : ScriptRefusal) → IsScriptRefused e (least (pop_faults (length l.below) n at)) → StopsCommand terms l at (Some (pop n)) e
popped_stops terms l at n e h = record { is = h }
