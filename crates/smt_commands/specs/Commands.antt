-- Which lists are commands. Where a command has a sort or a term, any S-expression may stand for its form.
use Rattle.std.specs.Prelude.{ℕ, Bool, true, false, List, [], ◌∷◌, map, Option, Some, None, unsigned_abs, codes, if◌then◌else◌}
use Rattle.std.specs.List.{list_all}
use Rattle.std.specs.Str.{bytes_eq}
use Rattle.smt_lists.specs.declared.tree.AtomKind.{AtomKind}
use Rattle.smt_lists.specs.declared.tree.AtomKind.TheVariants as k
use Rattle.smt_lists.specs.Expressions.{Expr, Exprs, atom, list, no_expr, and_expr}
use Rattle.smt_commands.specs.declared.words.Word.{Word}
use Rattle.smt_commands.specs.declared.words.Word.TheVariants as w
use Rattle.smt_commands.specs.Words.{word_of}

-- a symbol with the offset of its first byte
pub record Symbol : Type 0 where
  pub at : ℕ
  pub text : List ℕ

-- What a command says, whatever comes before it: a string, by what stands between its quotes; the name of the program, its version, its
-- authors, and what it does after an error; or that it is not supported. Others speak of the last check: why its answer is unknown, its
-- model, and the values of symbols there.
pub data Saying : Type 0 where
  echoed : List ℕ → Saying
  program : Saying
  version : Saying
  authors : Saying
  after_error : Saying
  unsupported : Saying
  the_reason : Saying
  the_model : Saying
  the_values : List (List ℕ) → Saying

-- a command: without effect; one that only says something; a symbol that is declared, with the sorts of its arguments and its sort; a
-- symbol that is defined, with its arguments, its sort and its term; an assertion; a check, with the terms that are assumed for it; this
-- many assertion levels more, and fewer; a new beginning; the end
pub data CommandForm : Type 0 where
  skip : CommandForm
  say : Saying → CommandForm
  declare : Symbol → List Expr → Expr → CommandForm
  define : Symbol → List Expr → Expr → Expr → CommandForm
  assert : Expr → CommandForm
  check_sat : List Expr → CommandForm
  push : ℕ → CommandForm
  pop : ℕ → CommandForm
  reset : CommandForm
  exit : CommandForm

abbrev pub symbol_in : ℕ → AtomKind → Option Symbol
symbol_in at (k.Symbol text) = Some (record { at = at; text = text })
symbol_in at _ = None

-- the symbol that an S-expression is
abbrev pub symbol_of : Expr → Option Symbol
symbol_of (atom a) = symbol_in a.at a.kind
symbol_of (list at es) = None

abbrev pub is_some : {A : Type 0} → Option A → Bool
is_some None = false
is_some (Some x) = true

abbrev pub keyword_in : AtomKind → Option (List ℕ)
keyword_in (k.Keyword text) = Some text
keyword_in _ = None

-- the keyword that an S-expression is
abbrev pub keyword_of : Expr → Option (List ℕ)
keyword_of (atom a) = keyword_in a.kind
keyword_of (list at es) = None

-- the S-expression is a keyword
abbrev pub is_keyword : Expr → Bool
is_keyword e = is_some (keyword_of e)

abbrev pub string_in : AtomKind → Option (List ℕ)
string_in (k.StringLiteral text) = Some text
string_in _ = None

-- what stands between the quotes of a string
abbrev pub string_of : Expr → Option (List ℕ)
string_of (atom a) = string_in a.kind
string_of (list at es) = None

-- the members of a list; none where the S-expression is an atom
abbrev pub items : Exprs → List Expr
items no_expr = []
items (and_expr e es) = e ∷ items es

abbrev pub members_of : Expr → Option (List Expr)
members_of (atom a) = None
members_of (list at es) = Some (items es)

abbrev pub pair_in : List Expr → Bool
pair_in (x ∷ s ∷ []) = is_some (symbol_of x)
pair_in _ = false

abbrev pub pair_of : Option (List Expr) → Bool
pair_of None = false
pair_of (Some es) = pair_in es

-- a list of a symbol and of what stands for its sort
abbrev pub is_argument : Expr → Bool
is_argument e = pair_of (members_of e)

abbrev pub levels_in : AtomKind → Option ℕ
levels_in (k.Numeral n) = Some (unsigned_abs n)
levels_in _ = None

-- how many levels an S-expression says
abbrev pub levels_of : Expr → Option ℕ
levels_of (atom a) = levels_in a.kind
levels_of (list at es) = None

abbrev pub echoes : Option (List ℕ) → Option CommandForm
echoes None = None
echoes (Some text) = Some (say (echoed text))

-- what is said of a flag of `get-info`
abbrev pub information : List ℕ → Saying
information flag =
    if bytes_eq flag (codes ":name") then program else
    (if bytes_eq flag (codes ":authors") then authors else
    (if bytes_eq flag (codes ":error-behavior") then after_error else
    (if bytes_eq flag (codes ":version") then version else
    (if bytes_eq flag (codes ":reason-unknown") then the_reason else unsupported))))

abbrev pub informs : Option (List ℕ) → Option CommandForm
informs None = None
informs (Some flag) = Some (say (information flag))

-- a command that is known, and not supported
abbrev pub declines : Bool → Option CommandForm
declines true = Some (say unsupported)
declines false = None

-- the S-expression is a symbol
abbrev pub is_symbol : Expr → Bool
is_symbol e = is_some (symbol_of e)

-- the text of a symbol
abbrev pub text_of : Expr → List ℕ
text_of e = elim (symbol_of e) [ None ↦ [] | Some x ↦ x.text ]

-- the values of symbols are told; those of other terms are not supported
abbrev pub asked_values : List Expr → Saying
asked_values ts = if list_all is_symbol ts then the_values (map text_of ts) else unsupported

-- what `get-value` asks of these terms, one at least
abbrev pub asks_values : Option (List Expr) → Option CommandForm
asks_values None = None
asks_values (Some []) = None
asks_values (Some (t ∷ ts)) = Some (say (asked_values (t ∷ ts)))

abbrev pub skips : Bool → Option CommandForm
skips true = Some skip
skips false = None

abbrev pub declares : Option Symbol → Option (List Expr) → Expr → Option CommandForm
declares (Some x) (Some sorts) s = Some (declare x sorts s)
declares _ _ s = None

abbrev pub defined : Symbol → List Expr → Expr → Expr → Bool → Option CommandForm
defined f arguments s t true = Some (define f arguments s t)
defined f arguments s t false = None

abbrev pub defines : Option Symbol → Option (List Expr) → Expr → Expr → Option CommandForm
defines (Some f) (Some arguments) s t = defined f arguments s t (list_all is_argument arguments)
defines _ _ s t = None

abbrev pub assumes : Option (List Expr) → Option CommandForm
assumes None = None
assumes (Some ts) = Some (check_sat ts)

abbrev pub pushes : Option ℕ → Option CommandForm
pushes None = None
pushes (Some n) = Some (push n)

abbrev pub pops : Option ℕ → Option CommandForm
pops None = None
pops (Some n) = Some (pop n)

-- A command by its word and by what stands after it. `reset-assertions` takes all declarations and definitions back too, as the
-- standard has it where :global-declarations is false. What `reset` sets back besides, the logic and the options, has no effect here.
abbrev pub command_by : Word → List Expr → Option CommandForm
command_by w.SetLogic (l ∷ []) = skips (is_some (symbol_of l))
command_by w.SetInfo (k ∷ []) = skips (is_keyword k)
command_by w.SetInfo (k ∷ v ∷ []) = skips (is_keyword k)
command_by w.SetOption (k ∷ v ∷ []) = skips (is_keyword k)
command_by w.DeclareConst (x ∷ s ∷ []) = declares (symbol_of x) (Some []) s
command_by w.DeclareFun (f ∷ sorts ∷ s ∷ []) = declares (symbol_of f) (members_of sorts) s
command_by w.DefineFun (f ∷ arguments ∷ s ∷ t ∷ []) = defines (symbol_of f) (members_of arguments) s t
command_by w.DefineConst (x ∷ s ∷ t ∷ []) = defines (symbol_of x) (Some []) s t
command_by w.Assert (t ∷ []) = Some (assert t)
command_by w.CheckSat [] = Some (check_sat [])
command_by w.CheckSatAssuming (ts ∷ []) = assumes (members_of ts)
command_by w.Push [] = Some (push 1)
command_by w.Push (n ∷ []) = pushes (levels_of n)
command_by w.Pop [] = Some (pop 1)
command_by w.Pop (n ∷ []) = pops (levels_of n)
command_by w.Reset [] = Some reset
command_by w.ResetAssertions [] = Some reset
command_by w.Echo (s ∷ []) = echoes (string_of s)
command_by w.GetInfo (k ∷ []) = informs (keyword_of k)
command_by w.GetOption (k ∷ []) = declines (is_keyword k)
command_by w.GetModel [] = Some (say the_model)
command_by w.GetValue (ts ∷ []) = asks_values (members_of ts)
command_by w.GetAssignment [] = Some (say unsupported)
command_by w.GetAssertions [] = Some (say unsupported)
command_by w.GetUnsatCore [] = Some (say unsupported)
command_by w.GetUnsatAssumptions [] = Some (say unsupported)
command_by w.GetProof [] = Some (say unsupported)
command_by w.Exit [] = Some exit
command_by _ _ = None

abbrev pub command_behind : Option Symbol → List Expr → Option CommandForm
command_behind None es = None
command_behind (Some x) es = elim (word_of x.text) [ None ↦ None | Some w ↦ command_by w es ]

-- the command that a list of these members is
abbrev pub command_of : List Expr → Option CommandForm
command_of [] = None
command_of (e ∷ es) = command_behind (symbol_of e) es
