-- The offsets of the faults of a command are those of its S-expression.
use Rattle.std.proofs.Common.{ℕ, ◌+◌, ◌++◌, length, Bool, true, false, List, [], ◌∷◌, Option, Some, None, if◌then◌else◌, nat_le}
use Rattle.std.specs.List.{AllByRecursion, flat_map, list_all}
use Rattle.smt_lists.specs.Expressions.{Expr, atom, list, place_of}
use Rattle.smt_commands.specs.declared.refusal.ScriptRefusal.{ScriptRefusal}
use Rattle.smt_commands.specs.declared.refusal.ScriptRefusal.TheVariants as r
use Rattle.smt_commands.specs.declared.table.Entry.{Entry}
use Rattle.smt_commands.specs.declared.words.Word.{Word}
use Rattle.smt_commands.specs.declared.words.Word.TheVariants as w
use Rattle.smt_commands.specs.Commands as form
use Rattle.smt_commands.specs.Commands.{CommandForm, Symbol, command_behind, command_by, command_of, declares, defined, defines, is_argument, is_keyword, is_some, items, keyword_of, members_of, skips, string_of, symbol_of, asks_values, assumes, declines, echoes, informs, levels_of, pops, pushes}
use Rattle.smt_commands.specs.Levels.{Levels}
use Rattle.smt_commands.specs.Words.{word_of}
use Rattle.smt_commands.specs.Faults as faults
use Rattle.smt_commands.specs.Faults.{argument_faults, body_faults, claim_faults, command_faults, declaration_faults, definition_faults, many_faults, most_levels, name_faults, sort_fault, sort_faults, use_faults}
use Rattle.smt_commands.specs.Symbols.{declared_number, is_taken, sort_of}
use Rattle.smt_commands.specs.Least.{place_in}
use Rattle.smt_terms.specs.declared.operator.Sort.{Sort}
use Rattle.smt_terms.specs.declared.operator.Sort.TheVariants as sort
use Rattle.smt_typing.specs.Sorts.{variables}
use Rattle.smt_typing.specs.Faults.{names_in, script_uses}
use Rattle.smt_reader.specs.Commands.{script_terms}
use Rattle.smt_reader.proofs.Offsets.{ExprAt, FaultsAt, both_at, expr_place, items_at, symbol_at, term_at, SymbolAt}

module _ (P : ℕ → Type 0) where
  abbrev ListAt : List Expr → Type 0
  ListAt = AllByRecursion (ExprAt P)

  abbrev MembersAt : Option (List Expr) → Type 0
  MembersAt None = Unit {0}
  MembersAt (Some es) = ListAt es

  -- every offset of a command is so
  abbrev FormAt : Option CommandForm → Type 0
  FormAt (Some (form.declare x sorts s)) = P x.at × ListAt sorts × ExprAt P s
  FormAt (Some (form.define f arguments s t)) = P f.at × ListAt arguments × ExprAt P s × ExprAt P t
  FormAt (Some (form.assert t)) = ExprAt P t
  FormAt (Some (form.check_sat ts)) = ListAt ts
  FormAt _ = Unit {0}

  members_at : (e : Expr) → ExprAt P e → MembersAt (members_of e)
  members_at (atom a) h = tt
  members_at (list at es) h = items_at P es h.1

  skips_at : (b : Bool) → FormAt (skips b)
  skips_at true = tt
  skips_at false = tt

  declares_at : (x : Option Symbol) (sorts : Option (List Expr)) (s : Expr) → SymbolAt P x → MembersAt sorts → ExprAt P s → FormAt (declares x sorts s)
  declares_at None sorts s h k l = tt
  declares_at (Some x) None s h k l = tt
  declares_at (Some x) (Some sorts) s h k l = (h, k, l)

  defined_at : (f : Symbol) (arguments : List Expr) (s t : Expr) (b : Bool) → P f.at × ListAt arguments × ExprAt P s × ExprAt P t → FormAt (defined f arguments s t b)
  defined_at f arguments s t true h = h
  defined_at f arguments s t false h = tt

  defines_at : (f : Option Symbol) (arguments : Option (List Expr)) (s t : Expr) → SymbolAt P f → MembersAt arguments → ExprAt P s → ExprAt P t → FormAt (defines f arguments s t)
  defines_at None arguments s t h k l m = tt
  defines_at (Some f) None s t h k l m = tt
  defines_at (Some f) (Some arguments) s t h k l m = defined_at f arguments s t (list_all is_argument arguments) (h, k, l, m)

  assumes_at : (ts : Option (List Expr)) → MembersAt ts → FormAt (assumes ts)
  assumes_at None h = tt
  assumes_at (Some ts) h = h

  pushes_at : (n : Option ℕ) → FormAt (pushes n)
  pushes_at None = tt
  pushes_at (Some n) = tt

  pops_at : (n : Option ℕ) → FormAt (pops n)
  pops_at None = tt
  pops_at (Some n) = tt

  echoes_at : (text : Option (List ℕ)) → FormAt (echoes text)
  echoes_at None = tt
  echoes_at (Some text) = tt

  informs_at : (text : Option (List ℕ)) → FormAt (informs text)
  informs_at None = tt
  informs_at (Some text) = tt

  values_at : (ts : Option (List Expr)) → FormAt (asks_values ts)
  values_at None = tt
  values_at (Some []) = tt
  values_at (Some (t ∷ ts)) = tt

  declines_at : (b : Bool) → FormAt (declines b)
  declines_at true = tt
  declines_at false = tt

  by_at : (v : Word) (es : List Expr) → ListAt es → FormAt (command_by v es)
  by_at w.SetLogic [] h = tt
  by_at w.SetLogic (a ∷ []) h = skips_at (is_some (symbol_of a))
  by_at w.SetLogic (a ∷ (b ∷ es)) h = tt
  by_at w.SetInfo [] h = tt
  by_at w.SetInfo (a ∷ []) h = skips_at (is_keyword a)
  by_at w.SetInfo (a ∷ (b ∷ [])) h = skips_at (is_keyword a)
  by_at w.SetInfo (a ∷ (b ∷ (d ∷ es))) h = tt
  by_at w.SetOption [] h = tt
  by_at w.SetOption (a ∷ []) h = tt
  by_at w.SetOption (a ∷ (b ∷ [])) h = skips_at (is_keyword a)
  by_at w.SetOption (a ∷ (b ∷ (d ∷ es))) h = tt
  by_at w.DeclareConst [] h = tt
  by_at w.DeclareConst (a ∷ []) h = tt
  by_at w.DeclareConst (a ∷ (b ∷ [])) h = declares_at (symbol_of a) (Some []) b (symbol_at P a h.0) tt h.1.0
  by_at w.DeclareConst (a ∷ (b ∷ (d ∷ es))) h = tt
  by_at w.DeclareFun [] h = tt
  by_at w.DeclareFun (a ∷ []) h = tt
  by_at w.DeclareFun (a ∷ (b ∷ [])) h = tt
  by_at w.DeclareFun (a ∷ (b ∷ (d ∷ []))) h = declares_at (symbol_of a) (members_of b) d (symbol_at P a h.0) (members_at b h.1.0) h.1.1.0
  by_at w.DeclareFun (a ∷ (b ∷ (d ∷ (e ∷ es)))) h = tt
  by_at w.DefineFun [] h = tt
  by_at w.DefineFun (a ∷ []) h = tt
  by_at w.DefineFun (a ∷ (b ∷ [])) h = tt
  by_at w.DefineFun (a ∷ (b ∷ (d ∷ []))) h = tt
  by_at w.DefineFun (a ∷ (b ∷ (d ∷ (e ∷ [])))) h = defines_at (symbol_of a) (members_of b) d e (symbol_at P a h.0) (members_at b h.1.0) h.1.1.0 h.1.1.1.0
  by_at w.DefineFun (a ∷ (b ∷ (d ∷ (e ∷ (f ∷ es))))) h = tt
  by_at w.DefineConst [] h = tt
  by_at w.DefineConst (a ∷ []) h = tt
  by_at w.DefineConst (a ∷ (b ∷ [])) h = tt
  by_at w.DefineConst (a ∷ (b ∷ (d ∷ []))) h = defines_at (symbol_of a) (Some []) b d (symbol_at P a h.0) tt h.1.0 h.1.1.0
  by_at w.DefineConst (a ∷ (b ∷ (d ∷ (e ∷ es)))) h = tt
  by_at w.Assert [] h = tt
  by_at w.Assert (a ∷ []) h = h.0
  by_at w.Assert (a ∷ (b ∷ es)) h = tt
  by_at w.CheckSat [] h = tt
  by_at w.CheckSat (a ∷ es) h = tt
  by_at w.CheckSatAssuming [] h = tt
  by_at w.CheckSatAssuming (a ∷ []) h = assumes_at (members_of a) (members_at a h.0)
  by_at w.CheckSatAssuming (a ∷ (b ∷ es)) h = tt
  by_at w.Push [] h = tt
  by_at w.Push (a ∷ []) h = pushes_at (levels_of a)
  by_at w.Push (a ∷ (b ∷ es)) h = tt
  by_at w.Pop [] h = tt
  by_at w.Pop (a ∷ []) h = pops_at (levels_of a)
  by_at w.Pop (a ∷ (b ∷ es)) h = tt
  by_at w.Reset [] h = tt
  by_at w.Reset (a ∷ es) h = tt
  by_at w.ResetAssertions [] h = tt
  by_at w.ResetAssertions (a ∷ es) h = tt
  by_at w.Echo [] h = tt
  by_at w.Echo (a ∷ []) h = echoes_at (string_of a)
  by_at w.Echo (a ∷ (b ∷ es)) h = tt
  by_at w.GetInfo [] h = tt
  by_at w.GetInfo (a ∷ []) h = informs_at (keyword_of a)
  by_at w.GetInfo (a ∷ (b ∷ es)) h = tt
  by_at w.GetOption [] h = tt
  by_at w.GetOption (a ∷ []) h = declines_at (is_keyword a)
  by_at w.GetOption (a ∷ (b ∷ es)) h = tt
  by_at w.GetValue [] h = tt
  by_at w.GetValue (a ∷ []) h = values_at (members_of a)
  by_at w.GetValue (a ∷ (b ∷ es)) h = tt
  by_at w.GetModel [] h = tt
  by_at w.GetModel (a ∷ es) h = tt
  by_at w.GetAssignment [] h = tt
  by_at w.GetAssignment (a ∷ es) h = tt
  by_at w.GetAssertions [] h = tt
  by_at w.GetAssertions (a ∷ es) h = tt
  by_at w.GetUnsatCore [] h = tt
  by_at w.GetUnsatCore (a ∷ es) h = tt
  by_at w.GetUnsatAssumptions [] h = tt
  by_at w.GetUnsatAssumptions (a ∷ es) h = tt
  by_at w.GetProof [] h = tt
  by_at w.GetProof (a ∷ es) h = tt
  by_at w.Exit [] h = tt
  by_at w.Exit (a ∷ es) h = tt

  word_at : (v : Option Word) (es : List Expr) → ListAt es → FormAt (elim v [ None ↦ None | Some u ↦ command_by u es ])
  word_at None es h = tt
  word_at (Some u) es h = by_at u es h

  behind_at : (x : Option Symbol) (es : List Expr) → ListAt es → FormAt (command_behind x es)
  behind_at None es h = tt
  behind_at (Some x) es h = word_at (word_of x.text) es h

  command_at : (es : List Expr) → ListAt es → FormAt (command_of es)
  command_at [] h = tt
  command_at (e ∷ es) h = behind_at (symbol_of e) es h.1

  form_at : (e : Expr) → ExprAt P e → FormAt (faults.form e)
  form_at (atom a) h = tt
  form_at (list at es) h = command_at (items es) (items_at P es h.1)

  -- Faults.

  perhaps : (b : Bool) (f : ScriptRefusal) → P (place_in f) → FaultsAt P (if b then f ∷ [] else [])
  perhaps true f h = (h, tt)
  perhaps false f h = tt

  unless : (b : Bool) (f : ScriptRefusal) → P (place_in f) → FaultsAt P (if b then [] else f ∷ [])
  unless true f h = tt
  unless false f h = (h, tt)

  sort_by : (at : ℕ) (b : Bool) (s : Option Sort) → P at → FaultsAt P (sort_fault at b s)
  sort_by at b (Some sort.Int) h = tt
  sort_by at true (Some sort.Bool) h = tt
  sort_by at false (Some sort.Bool) h = (h, tt)
  sort_by at b None h = (h, tt)

  sort_at : (b : Bool) (e : Expr) → ExprAt P e → FaultsAt P (sort_faults b e)
  sort_at b e h = sort_by (place_of e) b (sort_of e) (expr_place P e h)

  sorts_at : (es : List Expr) → ListAt es → FaultsAt P (flat_map (sort_faults false) es)
  sorts_at [] h = tt
  sorts_at (e ∷ es) h = both_at P (sort_faults false e) (flat_map (sort_faults false) es) (sort_at false e h.0) (sorts_at es h.1)

  pair_at : (es : List Expr) → ListAt es → FaultsAt P (faults.pair_faults es)
  pair_at [] h = tt
  pair_at (x ∷ []) h = tt
  pair_at (x ∷ (s ∷ [])) h = sort_at false s h.1.0
  pair_at (x ∷ (s ∷ (e ∷ es))) h = tt

  argument_at : (e : Expr) → ExprAt P e → FaultsAt P (argument_faults e)
  argument_at (atom a) h = tt
  argument_at (list at es) h = pair_at (items es) (items_at P es h.1)

  arguments_at : (es : List Expr) → ListAt es → FaultsAt P (flat_map argument_faults es)
  arguments_at [] h = tt
  arguments_at (e ∷ es) h = both_at P (argument_faults e) (flat_map argument_faults es) (argument_at e h.0) (arguments_at es h.1)

  declaration_at : (table : List Entry) (x : Symbol) (sorts : List Expr) (s : Expr) → P x.at → ListAt sorts → ExprAt P s → FaultsAt P (declaration_faults table x sorts s)
  declaration_at table x sorts s h k l =
      both_at P (name_faults table x ++ many_faults table x ++ flat_map (sort_faults false) sorts) (sort_faults true s)
      (both_at P (name_faults table x ++ many_faults table x) (flat_map (sort_faults false) sorts)
      (both_at P (name_faults table x) (many_faults table x) (perhaps (is_taken x.text table) (r.Redeclared x.at) h) (perhaps (nat_le 1000 (declared_number table)) (r.Many x.at) h)) (sorts_at sorts k)) (sort_at true s l)

  definition_at : (table : List Entry) (f : Symbol) (arguments : List Expr) (s : Expr) → P f.at → ListAt arguments → ExprAt P s → FaultsAt P (definition_faults table f arguments s)
  definition_at table f arguments s h k l =
      both_at P (name_faults table f ++ flat_map argument_faults arguments) (sort_faults true s)
      (both_at P (name_faults table f) (flat_map argument_faults arguments) (perhaps (is_taken f.text table) (r.Redeclared f.at) h) (arguments_at arguments k)) (sort_at true s l)

  body_at : (table : List Entry) (at : ℕ) (text : List ℕ) (arguments : List Expr) (want : Option Sort) (t : Expr) → P at → ExprAt P t → FaultsAt P (body_faults script_terms table at text arguments want t)
  body_at table at text arguments want t h k =
      both_at P (use_faults script_terms at text arguments t) (script_terms.faults table arguments want t) (perhaps (script_uses text arguments t) (r.Profile at) h)
      (term_at P table (variables (names_in arguments) []) want t k)

  claims_at : (table : List Entry) (ts : List Expr) → ListAt ts → FaultsAt P (claim_faults script_terms table ts)
  claims_at table [] h = tt
  claims_at table (t ∷ ts) h =
      both_at P (script_terms.faults table [] (Some sort.Bool) t) (claim_faults script_terms table ts) (term_at P table (variables (names_in []) []) (Some sort.Bool) t h.0) (claims_at table ts h.1)

  form_faults_at : (l : Levels (List Entry)) (at : ℕ) (f : Option CommandForm) → P at → FormAt f → FaultsAt P (command_faults script_terms l at f)
  form_faults_at l at None h k = (h, tt)
  form_faults_at l at (Some (form.declare x sorts s)) h k = declaration_at l.now x sorts s k.0 k.1 k.2
  form_faults_at l at (Some (form.define f arguments s t)) h k =
      both_at P (definition_faults l.now f arguments s) (body_faults script_terms l.now at f.text arguments (sort_of s) t) (definition_at l.now f arguments s k.0 k.1 k.2)
      (body_at l.now at f.text arguments (sort_of s) t h k.3)
  form_faults_at l at (Some (form.assert t)) h k = term_at P l.now (variables (names_in []) []) (Some sort.Bool) t k
  form_faults_at l at (Some (form.check_sat ts)) h k = claims_at l.now ts k
  form_faults_at l at (Some (form.push n)) h k = unless (nat_le (length l.below + n) most_levels) (r.Deep at) h
  form_faults_at l at (Some (form.pop n)) h k = unless (nat_le n (length l.below)) (r.Profile at) h
  form_faults_at l at (Some form.reset) h k = tt
  form_faults_at l at (Some form.skip) h k = tt
  form_faults_at l at (Some (form.say x)) h k = tt
  form_faults_at l at (Some form.exit) h k = tt

  -- the faults of what may be a command
  pub command_faults_at : (l : Levels (List Entry)) (e : Expr) → ExprAt P e → FaultsAt P (command_faults script_terms l (place_of e) (faults.form e))
  command_faults_at l e h = form_faults_at l (place_of e) (faults.form e) (expr_place P e h) (form_at e h)
