-- The lists of a script have no more members than the text has bytes.
use Rattle.std.proofs.Common.{◌+◌, ℕ, zero, suc, ◌≡◌, ◌≤◌, ◌-◌, Bool, true, false, List, [], ◌∷◌, ◌++◌, length, map, refl, sym, ap, subst, ◌∙◌, arith, Option, Some, None}
use Rattle.std.specs.List.{All, AllByRecursion, list_all}
use Rattle.std.proofs.lemmas.List.Elements.{All-cons}
use Rattle.std.proofs.lemmas.List.{length-append, length-map}
use Rattle.smt_tokens.specs.declared.terminals.Terminal.{Terminal}
use Rattle.smt_tokens.specs.declared.terminals.Lexeme.{Lexeme}
use Rattle.smt_tokens.specs.Lexemes.{lexemes_from, lexemes_of, piece_of, put}
use Rattle.smt_lists.specs.declared.tree.Sexp.{Sexp}
use Rattle.smt_lists.specs.Expressions.{Expr, Exprs, atom, list, no_expr, and_expr, exprs, expr}
use Rattle.smt_lists.proofs.Folds.{expr-Atom, expr-List}
use Rattle.smt_lists.specs.Atoms.{atom_of}
use Rattle.smt_lists.specs.Grammar as grammar
use Rattle.smt_lists.specs.Grammar.{IsScriptText, SayAll, SaysSexp, more, nothing}
use Rattle.smt_commands.specs.declared.words.Word.{Word}
use Rattle.smt_commands.specs.declared.words.Word.TheVariants as w
use Rattle.smt_commands.specs.Commands as form
use Rattle.smt_commands.specs.Commands.{CommandForm, Symbol, command_behind, command_by, command_of, declares, defined, defines, is_argument, is_keyword, is_some, items, keyword_of, members_of, skips, string_of, symbol_of, asks_values, assumes, declines, echoes, informs, levels_of, pops, pushes}
use Rattle.smt_commands.specs.Words.{word_of}
use Rattle.smt_commands.specs.Faults as faults
use Rattle.smt_terms.specs.declared.term.Variable.{Variable}
use Rattle.smt_typing.specs.Faults.{names_by, names_in}
use Rattle.smt_typing.specs.Reading.{before, variable_of, variables_of}
use Rattle.smt_reader.specs.Commands.{Act, DoesFew, acts_of, with_form}
use Rattle.smt_shorthand.specs.Ranged.{AreNarrow, IsNarrow, members}
use Rattle.smt_shorthand.proofs.Narrow.{written_narrow}
use Rattle.smt_shorthand.specs.Writing.{written_out}

-- Tokens.

put_length : (at n : ℕ) (terminal : Option Terminal) (ls : List Lexeme) → length (put at n terminal ls) ≤ suc (length ls)
put_length at n None ls = omega arith
put_length at n (Some terminal) ls = omega arith

tokens_from : (at skip : ℕ) (text : List ℕ) → length (lexemes_from at skip text) ≤ length text
unfolding lexemes_from
tokens_from at skip [] = omega arith
tokens_from at (suc skip) (b ∷ text) = omega (arith, tokens_from (suc at) skip text)
tokens_from at zero (b ∷ text) =
    omega (arith, put_length at (piece_of b text).len (piece_of b text).terminal (lexemes_from (suc at) ((piece_of b text).len - 1) text), tokens_from (suc at) ((piece_of b text).len - 1) text)

-- Lists.

members-exprs : (es : List Expr) → members (exprs es) ≡ length es
members-exprs [] = refl
members-exprs (e ∷ es) = ap suc (members-exprs es)

narrow_exprs : (n : ℕ) (es : List Expr) → AllByRecursion (IsNarrow n) es → AreNarrow n (exprs es)
narrow_exprs n [] h = tt
narrow_exprs n (e ∷ es) h = (h.0, narrow_exprs n es h.1)

narrow_more : (n : ℕ) (es : List Sexp) (e : Sexp) → AllByRecursion (IsNarrow n) (map expr es) → IsNarrow n (expr e) → AllByRecursion (IsNarrow n) (map expr (es ++ e ∷ []))
narrow_more n [] e h k = (k, tt)
narrow_more n (x ∷ es) e h k = (h.0, narrow_more n es e h.1 k)

some_tokens : (b : List ℕ) (n : ℕ) (e : Sexp) (tokens : List Lexeme) → SaysSexp b n e tokens → 1 ≤ length tokens
some_tokens b n e tokens (grammar.atom x a is parts) = omega (arith, ap length parts)
some_tokens b n e tokens (grammar.list m x y es inner o all c levels is parts) = omega (arith, ap length parts, length-append inner (y ∷ []))

as_many : (b : List ℕ) (n : ℕ) (es : List Sexp) (tokens : List Lexeme) → SayAll b n es tokens → length es ≤ length tokens
as_many b n es tokens (nothing is parts) = omega (arith, ap length is)
as_many b n es tokens (more before e front back all one is parts) =
    omega (arith, ap length is, ap length parts, length-append before (e ∷ []), length-append front back, as_many b n before front all, some_tokens b n e back one)

mutual
  one_narrow : (b : List ℕ) (most n : ℕ) (e : Sexp) (tokens : List Lexeme) → SaysSexp b n e tokens → length tokens ≤ most → IsNarrow most (expr e)
  one_narrow b most n e tokens (grammar.atom x a is parts) h = subst (IsNarrow most) (sym (ap expr is ∙ expr-Atom (atom_of b x))) tt
  one_narrow b most n e tokens (grammar.list m x y es inner o all c levels is parts) h =
      let within : length inner ≤ most = omega (arith, h, ap length parts, length-append inner (y ∷ [])) in
      let few : members (exprs (map expr es)) ≤ most = omega (arith, members-exprs (map expr es) ∙ length-map es expr, as_many b m es inner all, within) in
      subst (IsNarrow most) (sym (ap expr is ∙ expr-List x.at es)) (few, narrow_exprs most (map expr es) (all_narrow b most m es inner all within))

  all_narrow : (b : List ℕ) (most n : ℕ) (es : List Sexp) (tokens : List Lexeme) → SayAll b n es tokens → length tokens ≤ most → AllByRecursion (IsNarrow most) (map expr es)
  all_narrow b most n es tokens (nothing is parts) h = subst (λ z. AllByRecursion (IsNarrow most) (map expr z)) (sym is) tt
  all_narrow b most n es tokens (more before e front back all one is parts) h =
      let left : length front ≤ most = omega (arith, h, ap length parts, length-append front back) in
      let right : length back ≤ most = omega (arith, h, ap length parts, length-append front back) in
      subst (λ z. AllByRecursion (IsNarrow most) (map expr z)) (sym is) (narrow_more most before e (all_narrow b most n before front all left) (one_narrow b most n e back one right))

pub text_narrow : (bytes : List ℕ) (lists : List Sexp) → IsScriptText bytes lists → AllByRecursion (IsNarrow (length bytes)) (map expr lists)
text_narrow bytes lists h = all_narrow bytes (length bytes) 200 lists (lexemes_of bytes) h.said (tokens_from 0 0 bytes)

-- Commands.

-- the arguments of a command are few
abbrev FewArguments : ℕ → Option CommandForm → Type 0
FewArguments n (Some (form.declare x sorts s)) = length sorts ≤ n
FewArguments n (Some (form.define f arguments s t)) = length arguments ≤ n
FewArguments n _ = Unit {0}

abbrev FewIn : ℕ → Option (List Expr) → Type 0
FewIn n None = Unit {0}
FewIn n (Some es) = length es ≤ n

length-items : (es : Exprs) → length (items es) ≡ members es
length-items no_expr = refl
length-items (and_expr e es) = ap suc (length-items es)

members_few : (n : ℕ) (e : Expr) → IsNarrow n e → FewIn n (members_of e)
members_few n (atom a) h = tt
members_few n (list at es) h = omega (arith, length-items es, h.0)

skips_few : (n : ℕ) (b : Bool) → FewArguments n (skips b)
skips_few n true = tt
skips_few n false = tt

declares_few : (n : ℕ) (x : Option Symbol) (sorts : Option (List Expr)) (s : Expr) → FewIn n sorts → FewArguments n (declares x sorts s)
declares_few n None sorts s h = tt
declares_few n (Some x) None s h = tt
declares_few n (Some x) (Some sorts) s h = h

defined_few : (n : ℕ) (f : Symbol) (arguments : List Expr) (s t : Expr) (b : Bool) → length arguments ≤ n → FewArguments n (defined f arguments s t b)
defined_few n f arguments s t true h = h
defined_few n f arguments s t false h = tt

defines_few : (n : ℕ) (f : Option Symbol) (arguments : Option (List Expr)) (s t : Expr) → FewIn n arguments → FewArguments n (defines f arguments s t)
defines_few n None arguments s t h = tt
defines_few n (Some f) None s t h = tt
defines_few n (Some f) (Some arguments) s t h = defined_few n f arguments s t (list_all is_argument arguments) h

assumes_few : (n : ℕ) (ts : Option (List Expr)) → FewArguments n (assumes ts)
assumes_few n None = tt
assumes_few n (Some ts) = tt

pushes_few : (n : ℕ) (k : Option ℕ) → FewArguments n (pushes k)
pushes_few n None = tt
pushes_few n (Some k) = tt

pops_few : (n : ℕ) (k : Option ℕ) → FewArguments n (pops k)
pops_few n None = tt
pops_few n (Some k) = tt

echoes_few : (n : ℕ) (text : Option (List ℕ)) → FewArguments n (echoes text)
echoes_few n None = tt
echoes_few n (Some text) = tt

informs_few : (n : ℕ) (text : Option (List ℕ)) → FewArguments n (informs text)
informs_few n None = tt
informs_few n (Some text) = tt

values_few : (n : ℕ) (ts : Option (List Expr)) → FewArguments n (asks_values ts)
values_few n None = tt
values_few n (Some []) = tt
values_few n (Some (t ∷ ts)) = tt

declines_few : (n : ℕ) (b : Bool) → FewArguments n (declines b)
declines_few n true = tt
declines_few n false = tt

by_few : (n : ℕ) (v : Word) (es : List Expr) → AllByRecursion (IsNarrow n) es → FewArguments n (command_by v es)
by_few n w.SetLogic [] h = tt
by_few n w.SetLogic (a ∷ []) h = skips_few n (is_some (symbol_of a))
by_few n w.SetLogic (a ∷ (b ∷ es)) h = tt
by_few n w.SetInfo [] h = tt
by_few n w.SetInfo (a ∷ []) h = skips_few n (is_keyword a)
by_few n w.SetInfo (a ∷ (b ∷ [])) h = skips_few n (is_keyword a)
by_few n w.SetInfo (a ∷ (b ∷ (d ∷ es))) h = tt
by_few n w.SetOption [] h = tt
by_few n w.SetOption (a ∷ []) h = tt
by_few n w.SetOption (a ∷ (b ∷ [])) h = skips_few n (is_keyword a)
by_few n w.SetOption (a ∷ (b ∷ (d ∷ es))) h = tt
by_few n w.DeclareConst [] h = tt
by_few n w.DeclareConst (a ∷ []) h = tt
by_few n w.DeclareConst (a ∷ (b ∷ [])) h = declares_few n (symbol_of a) (Some []) b (omega arith)
by_few n w.DeclareConst (a ∷ (b ∷ (d ∷ es))) h = tt
by_few n w.DeclareFun [] h = tt
by_few n w.DeclareFun (a ∷ []) h = tt
by_few n w.DeclareFun (a ∷ (b ∷ [])) h = tt
by_few n w.DeclareFun (a ∷ (b ∷ (d ∷ []))) h = declares_few n (symbol_of a) (members_of b) d (members_few n b h.1.0)
by_few n w.DeclareFun (a ∷ (b ∷ (d ∷ (e ∷ es)))) h = tt
by_few n w.DefineFun [] h = tt
by_few n w.DefineFun (a ∷ []) h = tt
by_few n w.DefineFun (a ∷ (b ∷ [])) h = tt
by_few n w.DefineFun (a ∷ (b ∷ (d ∷ []))) h = tt
by_few n w.DefineFun (a ∷ (b ∷ (d ∷ (e ∷ [])))) h = defines_few n (symbol_of a) (members_of b) d e (members_few n b h.1.0)
by_few n w.DefineFun (a ∷ (b ∷ (d ∷ (e ∷ (f ∷ es))))) h = tt
by_few n w.DefineConst [] h = tt
by_few n w.DefineConst (a ∷ []) h = tt
by_few n w.DefineConst (a ∷ (b ∷ [])) h = tt
by_few n w.DefineConst (a ∷ (b ∷ (d ∷ []))) h = defines_few n (symbol_of a) (Some []) b d (omega arith)
by_few n w.DefineConst (a ∷ (b ∷ (d ∷ (e ∷ es)))) h = tt
by_few n w.Assert [] h = tt
by_few n w.Assert (a ∷ []) h = tt
by_few n w.Assert (a ∷ (b ∷ es)) h = tt
by_few n w.CheckSat [] h = tt
by_few n w.CheckSat (a ∷ es) h = tt
by_few n w.CheckSatAssuming [] h = tt
by_few n w.CheckSatAssuming (a ∷ []) h = assumes_few n (members_of a)
by_few n w.CheckSatAssuming (a ∷ (b ∷ es)) h = tt
by_few n w.Push [] h = tt
by_few n w.Push (a ∷ []) h = pushes_few n (levels_of a)
by_few n w.Push (a ∷ (b ∷ es)) h = tt
by_few n w.Pop [] h = tt
by_few n w.Pop (a ∷ []) h = pops_few n (levels_of a)
by_few n w.Pop (a ∷ (b ∷ es)) h = tt
by_few n w.Reset [] h = tt
by_few n w.Reset (a ∷ es) h = tt
by_few n w.ResetAssertions [] h = tt
by_few n w.ResetAssertions (a ∷ es) h = tt
by_few n w.Echo [] h = tt
by_few n w.Echo (a ∷ []) h = echoes_few n (string_of a)
by_few n w.Echo (a ∷ (b ∷ es)) h = tt
by_few n w.GetInfo [] h = tt
by_few n w.GetInfo (a ∷ []) h = informs_few n (keyword_of a)
by_few n w.GetInfo (a ∷ (b ∷ es)) h = tt
by_few n w.GetOption [] h = tt
by_few n w.GetOption (a ∷ []) h = declines_few n (is_keyword a)
by_few n w.GetOption (a ∷ (b ∷ es)) h = tt
by_few n w.GetValue [] h = tt
by_few n w.GetValue (a ∷ []) h = values_few n (members_of a)
by_few n w.GetValue (a ∷ (b ∷ es)) h = tt
by_few n w.GetModel [] h = tt
by_few n w.GetModel (a ∷ es) h = tt
by_few n w.GetAssignment [] h = tt
by_few n w.GetAssignment (a ∷ es) h = tt
by_few n w.GetAssertions [] h = tt
by_few n w.GetAssertions (a ∷ es) h = tt
by_few n w.GetUnsatCore [] h = tt
by_few n w.GetUnsatCore (a ∷ es) h = tt
by_few n w.GetUnsatAssumptions [] h = tt
by_few n w.GetUnsatAssumptions (a ∷ es) h = tt
by_few n w.GetProof [] h = tt
by_few n w.GetProof (a ∷ es) h = tt
by_few n w.Exit [] h = tt
by_few n w.Exit (a ∷ es) h = tt

word_few : (n : ℕ) (v : Option Word) (es : List Expr) → AllByRecursion (IsNarrow n) es → FewArguments n (elim v [ None ↦ None | Some u ↦ command_by u es ])
word_few n None es h = tt
word_few n (Some u) es h = by_few n u es h

behind_few : (n : ℕ) (x : Option Symbol) (es : List Expr) → AllByRecursion (IsNarrow n) es → FewArguments n (command_behind x es)
behind_few n None es h = tt
behind_few n (Some x) es h = word_few n (word_of x.text) es h

command_few : (n : ℕ) (es : List Expr) → AllByRecursion (IsNarrow n) es → FewArguments n (command_of es)
command_few n [] h = tt
command_few n (e ∷ es) h = behind_few n (symbol_of e) es h.1

items_narrow : (n : ℕ) (es : Exprs) → AreNarrow n es → AllByRecursion (IsNarrow n) (items es)
items_narrow n no_expr h = tt
items_narrow n (and_expr e es) h = (h.0, items_narrow n es h.1)

form_few : (n : ℕ) (e : Expr) → IsNarrow n e → FewArguments n (faults.form e)
form_few n (atom a) h = tt
form_few n (list at es) h = command_few n (items es) (items_narrow n es h.1)

-- no more names than arguments
before_few : (o : Option Variable) (xs : Option (List Variable)) (n : ℕ) → length (names_by xs) ≤ n → length (names_by (before o xs)) ≤ suc n
before_few None xs n h = omega arith
before_few (Some x) None n h = omega arith
before_few (Some x) (Some xs) n h = omega (arith, h)

names_few : (es : List Expr) → length (names_in es) ≤ length es
names_few [] = omega arith
names_few (e ∷ es) = before_few (variable_of e) (variables_of es) (length es) (names_few es)

no_acts : (n : ℕ) → All (DoesFew n) []
no_acts n i d h = absurd (omega (arith, h))

form_on : (n : ℕ) (f : Option CommandForm) (rest : List Act) → FewArguments n f → All (DoesFew n) rest → All (DoesFew n) (with_form f rest)
form_on n None rest h k = k
form_on n (Some form.skip) rest h k = k
form_on n (Some (form.say x)) rest h k = k
form_on n (Some (form.declare x sorts s)) rest h k = All-cons (DoesFew n) _ rest h k
form_on n (Some (form.define f arguments s t)) rest h k = All-cons (DoesFew n) _ rest (omega (arith, h, names_few arguments)) k
form_on n (Some (form.assert t)) rest h k = All-cons (DoesFew n) _ rest tt k
form_on n (Some (form.check_sat ts)) rest h k = All-cons (DoesFew n) _ rest tt k
form_on n (Some (form.push j)) rest h k = All-cons (DoesFew n) _ rest tt k
form_on n (Some (form.pop j)) rest h k = All-cons (DoesFew n) _ rest tt k
form_on n (Some form.reset) rest h k = All-cons (DoesFew n) _ rest tt k
form_on n (Some form.exit) rest h k = no_acts n

acts_few : (n : ℕ) (es : List Expr) → AllByRecursion (IsNarrow n) es → All (DoesFew n) (acts_of es)
acts_few n [] h = no_acts n
acts_few n (e ∷ es) h = form_on n (faults.form e) (acts_of es) (form_few n e h.0) (acts_few n es h.1)

pub text_few : (bytes : List ℕ) (lists : List Sexp) → IsScriptText bytes lists → All (DoesFew (length bytes + 4)) (acts_of (written_out (map expr lists)))
text_few bytes lists h = acts_few (length bytes + 4) (written_out (map expr lists)) (written_narrow (length bytes) (map expr lists) (text_narrow bytes lists h))
