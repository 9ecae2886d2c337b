-- The numerals of the terms of S-expressions whose numerals are in the range.
use Rattle.std.proofs.Common.{ℕ, suc, ◌≡◌, Bool, true, false, List, [], ◌∷◌, length, refl, sym, ap, ◌∙◌, Option, Some, None, if◌then◌else◌}
use Rattle.std.specs.List.{AllByRecursion, list_all}
use Rattle.std.proofs.lemmas.List.{length-map}
use Rattle.smt_lists.specs.declared.tree.AtomKind.{AtomKind}
use Rattle.smt_lists.specs.declared.tree.AtomKind.TheVariants as k
use Rattle.smt_lists.specs.Expressions.{Expr, Exprs, atom, list, no_expr, and_expr, place_of}
use Rattle.smt_commands.specs.declared.words.Word.{Word}
use Rattle.smt_commands.specs.declared.words.Word.TheVariants as w
use Rattle.smt_commands.specs.Commands as form
use Rattle.smt_commands.specs.Commands.{CommandForm, Symbol, command_behind, command_by, command_of, declares, defined, defines, is_argument, is_keyword, is_some, items, keyword_of, members_of, skips, string_of, symbol_of, asks_values, assumes, declines, echoes, informs, levels_of, pops, pushes}
use Rattle.smt_commands.specs.Words.{word_of}
use Rattle.smt_commands.specs.Faults as faults
use Rattle.smt_commands.specs.Faults.{form_in}
use Rattle.smt_terms.specs.declared.term.Variable.{Variable}
use Rattle.smt_terms.specs.Term.{PlacedTerm, PlacedTerms, BoundTerm, bindings, let_in, ill}
use Rattle.smt_typing.specs.declared.forms.Head.{Head}
use Rattle.smt_typing.specs.declared.forms.Head.TheVariants as head
use Rattle.smt_typing.specs.Reading.{are_attributes, are_proper, atom_phrase, before, bindings_in, bound_by, bound_read, head_of, let_of, let_phrase, note_of, phrase_of, phrases_in, quantified_of, quantified_phrase, use_of, ill_by, variable_by, variable_of, variables_of}
use Rattle.smt_commands.specs.Symbols.{sort_of}
use Rattle.smt_typing.specs.Faults.{names_by, names_in}
use Rattle.smt_shorthand.specs.Ranged.{AreRangedExprs, IsRangedExpr, IsRangedAtom}
use Rattle.smt_reader.proofs.Faultless.{left_true, right_true}
use Rattle.smt_reader.proofs.Terms.{AreRangedBindings, AreRangedPhrases, IsRangedPhrase}

-- bindings that were read
abbrev AreRead : Option (List BoundTerm) → Type 0
AreRead None = Unit {0}
AreRead (Some bs) = AreRangedBindings (bindings bs)

abbrev IsRead : Option BoundTerm → Type 0
IsRead None = Unit {0}
IsRead (Some b) = IsRangedPhrase b.term

let_ranged : (at : ℕ) (bs : Option (List BoundTerm)) (t : PlacedTerm) → AreRead bs → IsRangedPhrase t → IsRangedPhrase (let_phrase at bs t)
let_ranged at None t h l = tt
let_ranged at (Some bs) t h l = by (are_proper bs)
  where
    by : (b : Bool) → IsRangedPhrase (if b then let_in at (bindings bs) t else ill at)
    by true = (h, l)
    by false = tt

before_ranged : (b : Option BoundTerm) (bs : Option (List BoundTerm)) → IsRead b → AreRead bs → AreRead (before b bs)
before_ranged None bs h l = tt
before_ranged (Some b) None h l = tt
before_ranged (Some b) (Some bs) h l = (h, l)

bound_ranged : (x : Option Symbol) (t : PlacedTerm) → IsRangedPhrase t → IsRead (bound_by x t)
bound_ranged None t h = tt
bound_ranged (Some x) t h = h

quantified_ranged : (at : ℕ) (all : Bool) (xs : Option (List Variable)) (t : PlacedTerm) → IsRangedPhrase t → IsRangedPhrase (quantified_phrase at all xs t)
quantified_ranged at all None t h = tt
quantified_ranged at all (Some []) t h = tt
quantified_ranged at all (Some (x ∷ xs)) t h = h

note_ranged : (at : ℕ) (b : Bool) (t : PlacedTerm) → IsRangedPhrase t → IsRangedPhrase (if b then Rattle.smt_terms.specs.Term.annotated at t else ill at)
note_ranged at true t h = h
note_ranged at false t h = tt

use_ranged : (at : ℕ) (x : Option Symbol) (ts : PlacedTerms) → AreRangedPhrases ts → IsRangedPhrase (use_of at x ts)
use_ranged at None ts h = tt
use_ranged at (Some x) ts h = h

atom_ranged : (at : ℕ) (a : AtomKind) → IsRangedAtom a → IsRangedPhrase (atom_phrase at a)
atom_ranged at (k.Numeral n) h = h
atom_ranged at k.LargeNumeral h = tt
atom_ranged at k.Decimal h = tt
atom_ranged at k.Hash h = tt
atom_ranged at (k.StringLiteral text) h = tt
atom_ranged at (k.Keyword text) h = tt
atom_ranged at (k.Symbol x) h = tt

head_ranged : (at : ℕ) (h : Expr) (es : Exprs) (v : Head) → IsRangedPhrase (let_of at es) → ((all : Bool) → IsRangedPhrase (quantified_of at all es)) → IsRangedPhrase (note_of at es) → AreRangedPhrases (phrases_in es)
    → IsRangedPhrase (elim v [
      | head.Let ↦ let_of at es
      | head.Forall ↦ quantified_of at true es
      | head.Exists ↦ quantified_of at false es
      | head.Note ↦ note_of at es
      | head.Other ↦ ill at
      | head.Use ↦ use_of at (symbol_of h) (phrases_in es)
    ])
head_ranged at h es head.Let l q n u = l
head_ranged at h es head.Forall l q n u = q true
head_ranged at h es head.Exists l q n u = q false
head_ranged at h es head.Note l q n u = n
head_ranged at h es head.Other l q n u = tt
head_ranged at h es head.Use l q n u = use_ranged at (symbol_of h) (phrases_in es) u

mutual
  pub phrase_ranged : (e : Expr) → IsRangedExpr e → IsRangedPhrase (phrase_of e)
  phrase_ranged (atom a) h = atom_ranged a.at a.kind h
  phrase_ranged (list at no_expr) h = tt
  phrase_ranged (list at (and_expr e es)) h =
      head_ranged at e es (head_of e) (let_of_ranged at es h.1) (λ all. quantified_of_ranged at all es h.1) (note_of_ranged at es h.1) (phrases_ranged es h.1)

  phrases_ranged : (es : Exprs) → AreRangedExprs es → AreRangedPhrases (phrases_in es)
  phrases_ranged no_expr h = tt
  phrases_ranged (and_expr e es) h = (phrase_ranged e h.0, phrases_ranged es h.1)

  let_of_ranged : (at : ℕ) (es : Exprs) → AreRangedExprs es → IsRangedPhrase (let_of at es)
  let_of_ranged at no_expr h = tt
  let_of_ranged at (and_expr (atom a) es) h = tt
  let_of_ranged at (and_expr (list l bs) no_expr) h = tt
  let_of_ranged at (and_expr (list l bs) (and_expr t no_expr)) h = let_ranged at (bindings_in bs) (phrase_of t) (bindings_ranged bs h.0) (phrase_ranged t h.1.0)
  let_of_ranged at (and_expr (list l bs) (and_expr t (and_expr e es))) h = tt

  bindings_ranged : (es : Exprs) → AreRangedExprs es → AreRead (bindings_in es)
  bindings_ranged no_expr h = tt
  bindings_ranged (and_expr e es) h = before_ranged (bound_read e) (bindings_in es) (read_ranged e h.0) (bindings_ranged es h.1)

  read_ranged : (e : Expr) → IsRangedExpr e → IsRead (bound_read e)
  read_ranged (atom a) h = tt
  read_ranged (list l no_expr) h = tt
  read_ranged (list l (and_expr x no_expr)) h = tt
  read_ranged (list l (and_expr x (and_expr t no_expr))) h = bound_ranged (symbol_of x) (phrase_of t) (phrase_ranged t h.1.0)
  read_ranged (list l (and_expr x (and_expr t (and_expr e es)))) h = tt

  quantified_of_ranged : (at : ℕ) (all : Bool) (es : Exprs) → AreRangedExprs es → IsRangedPhrase (quantified_of at all es)
  quantified_of_ranged at all no_expr h = tt
  quantified_of_ranged at all (and_expr (atom a) es) h = tt
  quantified_of_ranged at all (and_expr (list l xs) no_expr) h = tt
  quantified_of_ranged at all (and_expr (list l xs) (and_expr t no_expr)) h = quantified_ranged at all (variables_of (items xs)) (phrase_of t) (phrase_ranged t h.1.0)
  quantified_of_ranged at all (and_expr (list l xs) (and_expr t (and_expr e es))) h = tt

  note_of_ranged : (at : ℕ) (es : Exprs) → AreRangedExprs es → IsRangedPhrase (note_of at es)
  note_of_ranged at no_expr h = tt
  note_of_ranged at (and_expr t es) h = note_ranged at (are_attributes (items es)) (phrase_of t) (phrase_ranged t h.0)

-- The terms of commands.

-- the term of a command is so, and a definition has as many names as arguments
abbrev pub IsRangedForm : Option CommandForm → Type 0
IsRangedForm (Some (form.assert t)) = IsRangedExpr t
IsRangedForm (Some (form.define f arguments s t)) = IsRangedExpr t × (length arguments ≡ length (names_in arguments))
IsRangedForm (Some (form.check_sat ts)) = AllByRecursion IsRangedExpr ts
IsRangedForm _ = Unit {0}

variable_made : (e : Expr) → is_argument e ≡ true → (x : Variable) × (variable_of e ≡ Some x)
variable_made (atom a) h = absurd (cc)
variable_made (list at no_expr) h = absurd (cc)
variable_made (list at (and_expr x no_expr)) h = absurd (cc)
variable_made (list at (and_expr x (and_expr s no_expr))) h = by (symbol_of x) h
  where
    by : (o : Option Symbol) → is_some o ≡ true → (y : Variable) × (variable_by o s ≡ Some y)
    by None k = absurd (cc)
    by (Some y) k = (record { text = y.text; ill = ill_by (sort_of s) (place_of s) }, refl)
variable_made (list at (and_expr x (and_expr s (and_expr e es)))) h = absurd (cc)

-- as many variables as arguments
abbrev AreMade : List Expr → Option (List Variable) → Type 0
AreMade es None = ⊥
AreMade es (Some xs) = length es ≡ length xs

made_before : (e : Expr) (es : List Expr) (x : Variable) (o : Option Variable) (xs : Option (List Variable)) → o ≡ Some x → AreMade es xs → AreMade (e ∷ es) (before o xs)
made_before e es x None xs p h = absurd (cc)
made_before e es x (Some y) None p h = elim h [ ]
made_before e es x (Some y) (Some ys) p h = ap suc h

variables_made : (es : List Expr) → list_all is_argument es ≡ true → AreMade es (variables_of es)
variables_made [] h = refl
variables_made (e ∷ es) h =
    let here = variable_made e (left_true (is_argument e) (list_all is_argument es) h) in
    made_before e es here.0 (variable_of e) (variables_of es) here.1 (variables_made es (right_true (is_argument e) (list_all is_argument es) h))

names_made : (es : List Expr) (xs : Option (List Variable)) → AreMade es xs → length es ≡ length (names_by xs)
names_made es None h = elim h [ ]
names_made es (Some xs) h = h ∙ sym (length-map xs (λ x. x.text))

skips_ranged : (b : Bool) → IsRangedForm (skips b)
skips_ranged true = tt
skips_ranged false = tt

declares_ranged : (x : Option Symbol) (sorts : Option (List Expr)) (s : Expr) → IsRangedForm (declares x sorts s)
declares_ranged None sorts s = tt
declares_ranged (Some x) None s = tt
declares_ranged (Some x) (Some sorts) s = tt

defined_ranged : (f : Symbol) (arguments : List Expr) (s t : Expr) (b : Bool) → list_all is_argument arguments ≡ b → IsRangedExpr t → IsRangedForm (defined f arguments s t b)
defined_ranged f arguments s t true e h = (h, names_made arguments (variables_of arguments) (variables_made arguments e))
defined_ranged f arguments s t false e h = tt

defines_ranged : (f : Option Symbol) (arguments : Option (List Expr)) (s t : Expr) → IsRangedExpr t → IsRangedForm (defines f arguments s t)
defines_ranged None arguments s t h = tt
defines_ranged (Some f) None s t h = tt
defines_ranged (Some f) (Some arguments) s t h = defined_ranged f arguments s t (list_all is_argument arguments) refl h

items_ranged : (es : Exprs) → AreRangedExprs es → AllByRecursion IsRangedExpr (items es)
items_ranged no_expr h = tt
items_ranged (and_expr e es) h = (h.0, items_ranged es h.1)

-- so are the members of a list
abbrev AreRangedMembers : Option (List Expr) → Type 0
AreRangedMembers None = Unit {0}
AreRangedMembers (Some es) = AllByRecursion IsRangedExpr es

members_ranged : (e : Expr) → IsRangedExpr e → AreRangedMembers (members_of e)
members_ranged (atom a) h = tt
members_ranged (list at es) h = items_ranged es h

assumes_ranged : (ts : Option (List Expr)) → AreRangedMembers ts → IsRangedForm (assumes ts)
assumes_ranged None h = tt
assumes_ranged (Some ts) h = h

pushes_ranged : (n : Option ℕ) → IsRangedForm (pushes n)
pushes_ranged None = tt
pushes_ranged (Some n) = tt

pops_ranged : (n : Option ℕ) → IsRangedForm (pops n)
pops_ranged None = tt
pops_ranged (Some n) = tt

echoes_ranged : (text : Option (List ℕ)) → IsRangedForm (echoes text)
echoes_ranged None = tt
echoes_ranged (Some text) = tt

informs_ranged : (text : Option (List ℕ)) → IsRangedForm (informs text)
informs_ranged None = tt
informs_ranged (Some text) = tt

values_ranged : (ts : Option (List Expr)) → IsRangedForm (asks_values ts)
values_ranged None = tt
values_ranged (Some []) = tt
values_ranged (Some (t ∷ ts)) = tt

declines_ranged : (b : Bool) → IsRangedForm (declines b)
declines_ranged true = tt
declines_ranged false = tt

by_ranged : (v : Word) (es : List Expr) → AllByRecursion IsRangedExpr es → IsRangedForm (command_by v es)
by_ranged w.SetLogic [] h = tt
by_ranged w.SetLogic (a ∷ []) h = skips_ranged (is_some (symbol_of a))
by_ranged w.SetLogic (a ∷ (b ∷ es)) h = tt
by_ranged w.SetInfo [] h = tt
by_ranged w.SetInfo (a ∷ []) h = skips_ranged (is_keyword a)
by_ranged w.SetInfo (a ∷ (b ∷ [])) h = skips_ranged (is_keyword a)
by_ranged w.SetInfo (a ∷ (b ∷ (d ∷ es))) h = tt
by_ranged w.SetOption [] h = tt
by_ranged w.SetOption (a ∷ []) h = tt
by_ranged w.SetOption (a ∷ (b ∷ [])) h = skips_ranged (is_keyword a)
by_ranged w.SetOption (a ∷ (b ∷ (d ∷ es))) h = tt
by_ranged w.DeclareConst [] h = tt
by_ranged w.DeclareConst (a ∷ []) h = tt
by_ranged w.DeclareConst (a ∷ (b ∷ [])) h = declares_ranged (symbol_of a) (Some []) b
by_ranged w.DeclareConst (a ∷ (b ∷ (d ∷ es))) h = tt
by_ranged w.DeclareFun [] h = tt
by_ranged w.DeclareFun (a ∷ []) h = tt
by_ranged w.DeclareFun (a ∷ (b ∷ [])) h = tt
by_ranged w.DeclareFun (a ∷ (b ∷ (d ∷ []))) h = declares_ranged (symbol_of a) (members_of b) d
by_ranged w.DeclareFun (a ∷ (b ∷ (d ∷ (e ∷ es)))) h = tt
by_ranged w.DefineFun [] h = tt
by_ranged w.DefineFun (a ∷ []) h = tt
by_ranged w.DefineFun (a ∷ (b ∷ [])) h = tt
by_ranged w.DefineFun (a ∷ (b ∷ (d ∷ []))) h = tt
by_ranged w.DefineFun (a ∷ (b ∷ (d ∷ (e ∷ [])))) h = defines_ranged (symbol_of a) (members_of b) d e h.1.1.1.0
by_ranged w.DefineFun (a ∷ (b ∷ (d ∷ (e ∷ (f ∷ es))))) h = tt
by_ranged w.DefineConst [] h = tt
by_ranged w.DefineConst (a ∷ []) h = tt
by_ranged w.DefineConst (a ∷ (b ∷ [])) h = tt
by_ranged w.DefineConst (a ∷ (b ∷ (d ∷ []))) h = defines_ranged (symbol_of a) (Some []) b d h.1.1.0
by_ranged w.DefineConst (a ∷ (b ∷ (d ∷ (e ∷ es)))) h = tt
by_ranged w.Assert [] h = tt
by_ranged w.Assert (a ∷ []) h = h.0
by_ranged w.Assert (a ∷ (b ∷ es)) h = tt
by_ranged w.CheckSat [] h = tt
by_ranged w.CheckSat (a ∷ es) h = tt
by_ranged w.CheckSatAssuming [] h = tt
by_ranged w.CheckSatAssuming (a ∷ []) h = assumes_ranged (members_of a) (members_ranged a h.0)
by_ranged w.CheckSatAssuming (a ∷ (b ∷ es)) h = tt
by_ranged w.Push [] h = tt
by_ranged w.Push (a ∷ []) h = pushes_ranged (levels_of a)
by_ranged w.Push (a ∷ (b ∷ es)) h = tt
by_ranged w.Pop [] h = tt
by_ranged w.Pop (a ∷ []) h = pops_ranged (levels_of a)
by_ranged w.Pop (a ∷ (b ∷ es)) h = tt
by_ranged w.Reset [] h = tt
by_ranged w.Reset (a ∷ es) h = tt
by_ranged w.ResetAssertions [] h = tt
by_ranged w.ResetAssertions (a ∷ es) h = tt
by_ranged w.Echo [] h = tt
by_ranged w.Echo (a ∷ []) h = echoes_ranged (string_of a)
by_ranged w.Echo (a ∷ (b ∷ es)) h = tt
by_ranged w.GetInfo [] h = tt
by_ranged w.GetInfo (a ∷ []) h = informs_ranged (keyword_of a)
by_ranged w.GetInfo (a ∷ (b ∷ es)) h = tt
by_ranged w.GetOption [] h = tt
by_ranged w.GetOption (a ∷ []) h = declines_ranged (is_keyword a)
by_ranged w.GetOption (a ∷ (b ∷ es)) h = tt
by_ranged w.GetValue [] h = tt
by_ranged w.GetValue (a ∷ []) h = values_ranged (members_of a)
by_ranged w.GetValue (a ∷ (b ∷ es)) h = tt
by_ranged w.GetModel [] h = tt
by_ranged w.GetModel (a ∷ es) h = tt
by_ranged w.GetAssignment [] h = tt
by_ranged w.GetAssignment (a ∷ es) h = tt
by_ranged w.GetAssertions [] h = tt
by_ranged w.GetAssertions (a ∷ es) h = tt
by_ranged w.GetUnsatCore [] h = tt
by_ranged w.GetUnsatCore (a ∷ es) h = tt
by_ranged w.GetUnsatAssumptions [] h = tt
by_ranged w.GetUnsatAssumptions (a ∷ es) h = tt
by_ranged w.GetProof [] h = tt
by_ranged w.GetProof (a ∷ es) h = tt
by_ranged w.Exit [] h = tt
by_ranged w.Exit (a ∷ es) h = tt

word_ranged : (v : Option Word) (es : List Expr) → AllByRecursion IsRangedExpr es → IsRangedForm (elim v [ None ↦ None | Some u ↦ command_by u es ])
word_ranged None es h = tt
word_ranged (Some u) es h = by_ranged u es h

behind_ranged : (x : Option Symbol) (es : List Expr) → AllByRecursion IsRangedExpr es → IsRangedForm (command_behind x es)
behind_ranged None es h = tt
behind_ranged (Some x) es h = word_ranged (word_of x.text) es h

command_ranged : (es : List Expr) → AllByRecursion IsRangedExpr es → IsRangedForm (command_of es)
command_ranged [] h = tt
command_ranged (e ∷ es) h = behind_ranged (symbol_of e) es h.1

pub form_ranged : (e : Expr) → IsRangedExpr e → IsRangedForm (faults.form e)
form_ranged (atom a) h = tt
form_ranged (list at es) h = command_ranged (items es) (items_ranged es h)
