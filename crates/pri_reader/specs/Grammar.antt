-- The grammar of problem files: which tokens are derived from which of its parts, and what they say. Below d open levels,
-- the tokens before the rest are derived from a part. Each production is one constructor, and reads like its line.
use Rattle.std.specs.Prelude.{ℕ, ℤ, suc, ◌≡◌, ◌≤◌, Bool, true, false, List, [], ◌∷◌, ◌++◌, length, map, pos, neg_ℤ, Option, Some, None}
use Rattle.std.specs.List.{list_any}
use Rattle.pri_tokens.specs.declared.terminals.Terminal.{Terminal}
use Rattle.pri_tokens.specs.declared.terminals.Terminal.TheVariants as t
use Rattle.pri_tokens.specs.declared.terminals.Lexeme.{Lexeme}
use Rattle.pri_tokens.specs.Bytes.{text_of}
use Rattle.base_numerals.specs.Numerals.{decimal_value}
use Rattle.pri_reader.specs.declared.tree.Expr.{Expr}
use Rattle.pri_reader.specs.declared.tree.Form.{Form}
use Rattle.pri_reader.specs.declared.tree.Form.TheVariants as form
use Rattle.pri_reader.specs.declared.tree.Added.{Added}
use Rattle.pri_reader.specs.declared.tree.Name.{Name}
use Rattle.pri_reader.specs.declared.tree.TypeName.{TypeName}
use Rattle.pri_reader.specs.declared.tree.TypeName.TheVariants as type
use Rattle.pri_reader.specs.declared.tree.Declared.{Declared}
use Rattle.pri_reader.specs.declared.tree.NameSet.{NameSet}
use Rattle.pri_reader.specs.declared.tree.Item.{Item}
use Rattle.pri_reader.specs.declared.tree.File.{File}
use Rattle.pri_reader.specs.declared.tree.Block.{Block}
use Rattle.pri_reader.specs.declared.tree.Block.TheVariants as block
use Rattle.pri_reader.specs.declared.tree.Comparison.{Comparison}
use Rattle.pri_reader.specs.declared.tree.Comparison.TheVariants as compare

-- The lines of formulas and terms.

-- the lines whose operands are grouped to the right: iff = imp [ <-> iff ], imp = or [ -> imp ], product = minus [ * product ]
pub data Right : Type 0 where
  equivalence : Right
  implication : Right
  multiplication : Right

-- the lines with any number of operands: or = and { | and }, and = unary { & unary }
pub data Chain : Type 0 where
  disjunction : Chain
  conjunction : Chain

pub data Part : Type 0 where
  right : Right → Part
  chain : Chain → Part
  unary : Part
  rel : Part
  sum : Part
  factor : Part
  primary : Part
  parenthesized : Part

-- a whole formula or term: iff
abbrev pub whole : Part
whole = right equivalence

-- the operand of a line
abbrev pub operand : Right → Part
operand equivalence = right implication
operand implication = chain disjunction
operand multiplication = factor

abbrev pub member : Chain → Part
member disjunction = chain conjunction
member conjunction = unary

-- the sign of a line
abbrev pub right_sign : Right → Terminal
right_sign equivalence = t.Iff
right_sign implication = t.Implies
right_sign multiplication = t.Star

abbrev pub chain_sign : Chain → Terminal
chain_sign disjunction = t.Or
chain_sign conjunction = t.And

abbrev pub comparison_sign : Comparison → Terminal
comparison_sign compare.Equal = t.Equal
comparison_sign compare.Unequal = t.Unequal
comparison_sign compare.Less = t.Less
comparison_sign compare.AtMost = t.AtMost
comparison_sign compare.Greater = t.Greater
comparison_sign compare.AtLeast = t.AtLeast

abbrev pub adding_sign : Bool → Terminal
adding_sign true = t.Minus
adding_sign false = t.Plus

abbrev pub quantifier : Bool → Terminal
quantifier true = t.Forall
quantifier false = t.Exists

abbrev pub truth_word : Bool → Terminal
truth_word true = t.True
truth_word false = t.False

abbrev pub pair_word : Bool → Terminal
pair_word true = t.Max
pair_word false = t.Min

-- What they say.

abbrev pub expr : ℕ → Form → Expr
expr at form = record { at = at; form = form }

-- two operands with the sign at this offset between them
abbrev pub join : Right → Expr → ℕ → Expr → Expr
join equivalence f at g = expr f.at (form.Iff f g)
join implication f at g = expr f.at (form.Implies f g)
join multiplication f at g = expr f.at (form.Product f at g)

-- one operand is itself, several are one list
abbrev pub listed : Chain → Expr → List Expr → Expr
listed disjunction f fs = expr f.at (form.Or fs)
listed conjunction f fs = expr f.at (form.And fs)

abbrev pub chained : Chain → List Expr → Expr → Expr
chained c [] f = f
chained c (g ∷ gs) f = listed c g ((g ∷ gs) ++ f ∷ [])

abbrev pub added : Bool → Expr → Added
added minus f = record { minus = minus; term = f }

-- one term is itself, several are a sum: the first, and the later ones with their signs
abbrev pub summed : List Added → Bool → Expr → Expr
summed [] minus f = f
summed (a ∷ terms) minus f = expr a.term.at (form.Sum a.term (terms ++ added minus f ∷ []))

abbrev pub paired : Bool → ℕ → Expr → Expr → Expr
paired true at f g = expr at (form.Max f g)
paired false at f g = expr at (form.Min f g)

-- What is asked of numerals and levels: a test of each numeral's value, and of the number of levels that are open before
-- a token opens one more, each at the tokens after it.
abbrev pub Limit : Type 0
Limit = List Lexeme → ℕ → Bool

-- the bytes of the file, and the limits
pub record Setting : Type 0 where
  pub bytes : List ℕ
  pub small : Limit
  pub shallow : Limit

abbrev pub value_of : Setting → Lexeme → ℕ
value_of s x = decimal_value (text_of s.bytes x)

abbrev pub name_of : Setting → Lexeme → Name
name_of s x = record { at = x.at; text = text_of s.bytes x }

-- the next token is x, of this terminal
pub record Takes (terminal : Terminal) (x : Lexeme) (tokens rest : List Lexeme) : Type 0 where
  pub parts : tokens ≡ x ∷ rest
  pub is : x.terminal ≡ terminal

-- one more level may be opened
abbrev pub Opens : Setting → List Lexeme → ℕ → Type 0
Opens s rest d = s.shallow rest d ≡ true

-- the number x comes next, and is not too large
pub record TakesNumber (s : Setting) (x : Lexeme) (tokens rest : List Lexeme) : Type 0 where
  pub takes : Takes t.Number x tokens rest
  pub small : s.small rest (value_of s x) ≡ true

-- an endpoint of a range: bound = [ - ] number; its - opens no level
pub data Endpoint (s : Setting) : ℤ → List Lexeme → List Lexeme → Type 0 where
  endpoint_plain : {x : Lexeme} {tokens rest : List Lexeme} → TakesNumber s x tokens rest → Endpoint s (pos (value_of s x)) tokens rest
  endpoint_minus : {m x : Lexeme} {tokens inner rest : List Lexeme}
      → Takes t.Minus m tokens inner → TakesNumber s x inner rest → Endpoint s (neg_ℤ (pos (value_of s x))) tokens rest

-- type = nat; or int [ [ bound , bound ] ]
pub data IsType (s : Setting) : TypeName → List Lexeme → List Lexeme → Type 0 where
  type_nat : {x : Lexeme} {tokens rest : List Lexeme} → Takes t.Nat x tokens rest → IsType s type.Nat tokens rest
  type_int : {x : Lexeme} {tokens rest : List Lexeme} → Takes t.Int x tokens rest → IsType s type.Int tokens rest
  type_range : {a b : ℤ} {x o c e : Lexeme} {tokens after lower comma upper close rest : List Lexeme}
      → Takes t.Int x tokens after → Takes t.OpenBracket o after lower → Endpoint s a lower comma → Takes t.Comma c comma upper
      → Endpoint s b upper close → Takes t.CloseBracket e close rest → IsType s (type.Range a b) tokens rest

-- a name of this type
abbrev pub of_type : TypeName → Name → Declared
of_type sort name = record { sort = sort; name = name }

abbrev pub all_of_type : TypeName → List Name → List Declared
all_of_type sort names = map (of_type sort) names

-- The names that a quantifier binds, each of which opens a level: below d levels before them, e after them, the last of them
-- of this type. They are type identifier { , identifier }, and in parentheses also { ; type identifier { , identifier } }.
pub data Binding (s : Setting) : Bool → TypeName → ℕ → ℕ → List Declared → List Lexeme → List Lexeme → Type 0 where
  bound_first : {several : Bool} {sort : TypeName} {d : ℕ} {x : Lexeme} {tokens inner rest : List Lexeme}
      → IsType s sort tokens inner → Takes t.Identifier x inner rest → Opens s rest d
      → Binding s several sort d (suc d) (of_type sort (name_of s x) ∷ []) tokens rest
  bound_next : {several : Bool} {sort : TypeName} {d e : ℕ} {names : List Declared} {c x : Lexeme} {tokens comma inner rest : List Lexeme}
      → Binding s several sort d e names tokens comma → Takes t.Comma c comma inner → Takes t.Identifier x inner rest → Opens s rest e
      → Binding s several sort d (suc e) (names ++ of_type sort (name_of s x) ∷ []) tokens rest
  bound_line : {old new : TypeName} {d e : ℕ} {names : List Declared} {c x : Lexeme} {tokens semicolon line inner rest : List Lexeme}
      → Binding s true old d e names tokens semicolon → Takes t.Semicolon c semicolon line → IsType s new line inner
      → Takes t.Identifier x inner rest → Opens s rest e
      → Binding s true new d (suc e) (names ++ of_type new (name_of s x) ∷ []) tokens rest

mutual
  pub data Derives (s : Setting) : ℕ → Part → Expr → List Lexeme → List Lexeme → Type 0 where
    -- iff = imp { <-> imp }, imp = or [ -> imp ], product = minus { * minus }
    right_one : {d : ℕ} {r : Right} {f : Expr} {tokens rest : List Lexeme}
        → Derives s d (operand r) f tokens rest → Derives s d (right r) f tokens rest
    right_two : {d : ℕ} {r : Right} {f g : Expr} {x : Lexeme} {tokens sign inner rest : List Lexeme}
        → Derives s d (operand r) f tokens sign → Takes (right_sign r) x sign inner → Opens s inner d
        → Derives s (suc d) (right r) g inner rest → Derives s d (right r) (join r f x.at g) tokens rest
    -- or = and { | and }, and = unary { & unary }
    chain_all : {d : ℕ} {c : Chain} {fs : List Expr} {f : Expr} {tokens rest : List Lexeme}
        → Members s d c fs f tokens rest → Derives s d (chain c) (chained c fs f) tokens rest
    -- unary = ! unary
    unary_not : {d : ℕ} {f : Expr} {x : Lexeme} {tokens inner rest : List Lexeme}
        → Takes t.Not x tokens inner → Opens s inner d → Derives s (suc d) unary f inner rest
        → Derives s d unary (expr x.at (form.Not f)) tokens rest
    -- unary = quantifier unary, quantifier = (\forall or \exists) binder, binder = type identifier { , identifier } ;
    unary_bound : {d e : ℕ} {all : Bool} {sort : TypeName} {names : List Declared} {f : Expr} {x c : Lexeme} {tokens inner semicolon body rest : List Lexeme}
        → Takes (quantifier all) x tokens inner → Binding s false sort d e names inner semicolon → Takes t.Semicolon c semicolon body
        → Derives s e unary f body rest → Derives s d unary (expr x.at (form.Quantified all names f)) tokens rest
    -- binder = ( type identifier { , identifier } { ; type identifier { , identifier } } )
    unary_grouped : {d e : ℕ} {all : Bool} {sort : TypeName} {names : List Declared} {f : Expr} {x o c : Lexeme} {tokens after inner close body rest : List Lexeme}
        → Takes (quantifier all) x tokens after → Takes t.OpenParenthesis o after inner → Binding s true sort d e names inner close
        → Takes t.CloseParenthesis c close body → Derives s e unary f body rest
        → Derives s d unary (expr x.at (form.Quantified all names f)) tokens rest
    -- unary = \part [ identifier ] unary
    unary_part : {d : ℕ} {f : Expr} {x o n c : Lexeme} {tokens after inner close body rest : List Lexeme}
        → Takes t.Part x tokens after → Opens s after d → Takes t.OpenBracket o after inner → Takes t.Identifier n inner close
        → Takes t.CloseBracket c close body → Derives s (suc d) unary f body rest
        → Derives s d unary (expr x.at (form.Part (name_of s n) f)) tokens rest
    -- unary = rel
    unary_rel : {d : ℕ} {f : Expr} {tokens rest : List Lexeme} → Derives s d rel f tokens rest → Derives s d unary f tokens rest
    -- rel = sum [ (= or != or < or <= or > or >=) sum ]
    rel_one : {d : ℕ} {f : Expr} {tokens rest : List Lexeme} → Derives s d sum f tokens rest → Derives s d rel f tokens rest
    rel_two : {d : ℕ} {c : Comparison} {f g : Expr} {x : Lexeme} {tokens sign inner rest : List Lexeme}
        → Derives s d sum f tokens sign → Takes (comparison_sign c) x sign inner → Derives s d sum g inner rest
        → Derives s d rel (expr f.at (form.Compare c f g)) tokens rest
    -- sum = product { (+ or -) product }
    sum_all : {d : ℕ} {before : List Added} {sign : Bool} {f : Expr} {tokens rest : List Lexeme}
        → Terms s d before sign f tokens rest → Derives s d sum (summed before sign f) tokens rest
    -- minus = - minus, or primary
    factor_minus : {d : ℕ} {f : Expr} {x : Lexeme} {tokens inner rest : List Lexeme}
        → Takes t.Minus x tokens inner → Opens s inner d → Derives s (suc d) factor f inner rest
        → Derives s d factor (expr x.at (form.Minus f)) tokens rest
    factor_primary : {d : ℕ} {f : Expr} {tokens rest : List Lexeme}
        → Derives s d primary f tokens rest → Derives s d factor f tokens rest
    -- primary = number, true or false
    number : {d : ℕ} {x : Lexeme} {tokens rest : List Lexeme}
        → Takes t.Number x tokens rest → s.small rest (value_of s x) ≡ true
        → Derives s d primary (expr x.at (form.Number (pos (value_of s x)))) tokens rest
    truth : {d : ℕ} {b : Bool} {x : Lexeme} {tokens rest : List Lexeme}
        → Takes (truth_word b) x tokens rest → Derives s d primary (expr x.at (form.Truth b)) tokens rest
    -- primary = identifier [ ( [ iff { , iff } ] ) ]
    use_bare : {d : ℕ} {x : Lexeme} {tokens rest : List Lexeme}
        → Takes t.Identifier x tokens rest → Derives s d primary (expr x.at (form.Use (name_of s x) [])) tokens rest
    use_empty : {d : ℕ} {x o c : Lexeme} {tokens after close rest : List Lexeme}
        → Takes t.Identifier x tokens after → Takes t.OpenParenthesis o after close → Opens s close d
        → Takes t.CloseParenthesis c close rest → Derives s d primary (expr x.at (form.Use (name_of s x) [])) tokens rest
    use_applied : {d : ℕ} {fs : List Expr} {f : Expr} {x o c : Lexeme} {tokens after inner close rest : List Lexeme}
        → Takes t.Identifier x tokens after → Takes t.OpenParenthesis o after inner → Opens s inner d
        → Arguments s (suc d) fs f inner close → Takes t.CloseParenthesis c close rest
        → Derives s d primary (expr x.at (form.Use (name_of s x) (fs ++ f ∷ []))) tokens rest
    -- primary = ( iff )
    group : {d : ℕ} {f : Expr} {tokens rest : List Lexeme} {x : Lexeme} {inner : List Lexeme}
        → Takes t.OpenParenthesis x tokens inner → Derives s d parenthesized f tokens rest
        → Derives s d primary (expr x.at (form.Group f)) tokens rest
    -- primary = \if ( iff ) \then ( iff ) \else ( iff )
    conditional : {d : ℕ} {c f g : Expr} {x y z : Lexeme} {tokens test then yes else no rest : List Lexeme}
        → Takes t.If x tokens test → Derives s d parenthesized c test then → Takes t.Then y then yes
        → Derives s d parenthesized f yes else → Takes t.Else z else no → Derives s d parenthesized g no rest
        → Derives s d primary (expr x.at (form.If c f g)) tokens rest
    -- primary = \abs ( iff )
    absolute : {d : ℕ} {f : Expr} {x : Lexeme} {tokens inner rest : List Lexeme}
        → Takes t.Abs x tokens inner → Derives s d parenthesized f inner rest
        → Derives s d primary (expr x.at (form.Abs f)) tokens rest
    -- primary = \min ( iff , iff ), or \max ( iff , iff )
    pair : {d : ℕ} (max : Bool) {f g : Expr} {x o c e : Lexeme} {tokens after first comma second close rest : List Lexeme}
        → Takes (pair_word max) x tokens after → Takes t.OpenParenthesis o after first → Opens s first d
        → Derives s (suc d) whole f first comma → Takes t.Comma c comma second
        → Derives s (suc d) whole g second close → Takes t.CloseParenthesis e close rest
        → Derives s d primary (paired max x.at f g) tokens rest
    -- ( iff )
    parentheses : {d : ℕ} {f : Expr} {o c : Lexeme} {tokens inner close rest : List Lexeme}
        → Takes t.OpenParenthesis o tokens inner → Opens s inner d → Derives s (suc d) whole f inner close
        → Takes t.CloseParenthesis c close rest → Derives s d parenthesized f tokens rest

  -- the members of a chain with its sign between each two: all but the last, and the last
  pub data Members (s : Setting) : ℕ → Chain → List Expr → Expr → List Lexeme → List Lexeme → Type 0 where
    member_first : {d : ℕ} {c : Chain} {f : Expr} {tokens rest : List Lexeme}
        → Derives s d (member c) f tokens rest → Members s d c [] f tokens rest
    member_next : {d : ℕ} {c : Chain} {fs : List Expr} {f g : Expr} {x : Lexeme} {tokens sign inner rest : List Lexeme}
        → Members s d c fs f tokens sign → Takes (chain_sign c) x sign inner → Derives s d (member c) g inner rest
        → Members s d c (fs ++ f ∷ []) g tokens rest

  -- the terms of a sum, each with the sign before it, the first with a plus: all but the last, and the last
  pub data Terms (s : Setting) : ℕ → List Added → Bool → Expr → List Lexeme → List Lexeme → Type 0 where
    term_first : {d : ℕ} {f : Expr} {tokens rest : List Lexeme}
        → Derives s d (right multiplication) f tokens rest → Terms s d [] false f tokens rest
    term_next : {d : ℕ} {before : List Added} {old new : Bool} {f g : Expr} {x : Lexeme} {tokens sign inner rest : List Lexeme}
        → Terms s d before old f tokens sign → Takes (adding_sign new) x sign inner
        → Derives s d (right multiplication) g inner rest
        → Terms s d (before ++ added old f ∷ []) new g tokens rest

  -- iff { , iff }: all but the last, and the last
  pub data Arguments (s : Setting) : ℕ → List Expr → Expr → List Lexeme → List Lexeme → Type 0 where
    argument_first : {d : ℕ} {f : Expr} {tokens rest : List Lexeme} → Derives s d whole f tokens rest → Arguments s d [] f tokens rest
    argument_next : {d : ℕ} {fs : List Expr} {f g : Expr} {x : Lexeme} {tokens comma inner rest : List Lexeme}
        → Arguments s d fs f tokens comma → Takes t.Comma x comma inner → Derives s d whole g inner rest
        → Arguments s d (fs ++ f ∷ []) g tokens rest

-- The blocks of a file.

abbrev pub constants_word : Bool → Terminal
constants_word true = t.UniversalConstants
constants_word false = t.ExistentialConstants

abbrev pub constants_block : Bool → ℕ → List Declared → Block
constants_block true at names = block.Universals at names
constants_block false at names = block.Existentials at names

abbrev pub items_word : Bool → Terminal
items_word true = t.Functions
items_word false = t.Predicates

abbrev pub items_block : Bool → ℕ → List Item → Block
items_block true at items = block.Functions at items
items_block false at items = block.Predicates at items

abbrev pub item : Name → ℕ → Item
item name arity = record { name = name; arity = arity }

abbrev pub name_set : ℕ → List Name → NameSet
name_set at names = record { at = at; names = names }

-- the offset of the first name
abbrev pub first_at : List Name → ℕ
first_at [] = 0
first_at (n ∷ names) = n.at

abbrev pub is_problem : Block → Bool
is_problem (block.Problem at f) = true
is_problem _ = false

abbrev pub has_problem : List Block → Bool
has_problem = list_any is_problem

-- identifier { , identifier }
pub data Names (s : Setting) : List Name → List Lexeme → List Lexeme → Type 0 where
  names_first : {x : Lexeme} {tokens rest : List Lexeme} → Takes t.Identifier x tokens rest → Names s (name_of s x ∷ []) tokens rest
  names_next : {names : List Name} {c x : Lexeme} {tokens comma inner rest : List Lexeme}
      → Names s names tokens comma → Takes t.Comma c comma inner → Takes t.Identifier x inner rest
      → Names s (names ++ name_of s x ∷ []) tokens rest

-- { type identifier { , identifier } ; }
pub data Constants (s : Setting) : List Declared → List Lexeme → List Lexeme → Type 0 where
  constants_none : {tokens : List Lexeme} → Constants s [] tokens tokens
  constants_line : {sort : TypeName} {names : List Declared} {more : List Name} {c : Lexeme} {tokens line inner semicolon rest : List Lexeme}
      → Constants s names tokens line → IsType s sort line inner → Names s more inner semicolon → Takes t.Semicolon c semicolon rest
      → Constants s (names ++ all_of_type sort more) tokens rest

-- arg = int [ identifier ]
pub data Parameter : List Lexeme → List Lexeme → Type 0 where
  parameter_bare : {i : Lexeme} {tokens rest : List Lexeme} → Takes t.Int i tokens rest → Parameter tokens rest
  parameter_named : {i x : Lexeme} {tokens inner rest : List Lexeme} → Takes t.Int i tokens inner → Takes t.Identifier x inner rest
      → Parameter tokens rest

-- arg { , arg }, with their number
pub data Parameters : ℕ → List Lexeme → List Lexeme → Type 0 where
  parameters_first : {tokens rest : List Lexeme} → Parameter tokens rest → Parameters 1 tokens rest
  parameters_next : {n : ℕ} {c : Lexeme} {tokens comma inner rest : List Lexeme} → Parameters n tokens comma → Takes t.Comma c comma inner
      → Parameter inner rest → Parameters (suc n) tokens rest

-- item = identifier [ ( [ arg { , arg } ] ) ]
pub data Declares (s : Setting) : Item → List Lexeme → List Lexeme → Type 0 where
  item_bare : {x : Lexeme} {tokens rest : List Lexeme} → Takes t.Identifier x tokens rest → Declares s (item (name_of s x) 0) tokens rest
  item_empty : {x o c : Lexeme} {tokens after close rest : List Lexeme} → Takes t.Identifier x tokens after
      → Takes t.OpenParenthesis o after close → Takes t.CloseParenthesis c close rest → Declares s (item (name_of s x) 0) tokens rest
  item_applied : {n : ℕ} {x o c : Lexeme} {tokens after inner close rest : List Lexeme} → Takes t.Identifier x tokens after
      → Takes t.OpenParenthesis o after inner → Parameters n inner close → Takes t.CloseParenthesis c close rest
      → Declares s (item (name_of s x) n) tokens rest

-- item { , item }
pub data Items (s : Setting) : List Item → List Lexeme → List Lexeme → Type 0 where
  items_first : {i : Item} {tokens rest : List Lexeme} → Declares s i tokens rest → Items s (i ∷ []) tokens rest
  items_next : {items : List Item} {i : Item} {c : Lexeme} {tokens comma inner rest : List Lexeme} → Items s items tokens comma
      → Takes t.Comma c comma inner → Declares s i inner rest → Items s (items ++ i ∷ []) tokens rest

-- { int item { , item } ; } for functions, { item { , item } ; } for predicates
pub data ItemLines (s : Setting) : Bool → List Item → List Lexeme → List Lexeme → Type 0 where
  lines_none : {typed : Bool} {tokens : List Lexeme} → ItemLines s typed [] tokens tokens
  line_function : {items more : List Item} {i c : Lexeme} {tokens int inner semicolon rest : List Lexeme}
      → ItemLines s true items tokens int → Takes t.Int i int inner → Items s more inner semicolon → Takes t.Semicolon c semicolon rest
      → ItemLines s true (items ++ more) tokens rest
  line_predicate : {items more : List Item} {c : Lexeme} {tokens inner semicolon rest : List Lexeme}
      → ItemLines s false items tokens inner → Items s more inner semicolon → Takes t.Semicolon c semicolon rest
      → ItemLines s false (items ++ more) tokens rest

-- the offset of a set: that of the `;` before it, or of its first name
abbrev pub set_at : Option ℕ → List Name → ℕ
set_at (Some at) names = at
set_at None names = first_at names

abbrev pub with_set : List NameSet → Option ℕ → List Name → List NameSet
with_set sets start names = sets ++ name_set (set_at start names) names ∷ []

-- set { ; set }, set = identifier { , identifier }: all sets but the last, the `;` before the last, and its names
pub data Sets (s : Setting) : List NameSet → Option ℕ → List Name → List Lexeme → List Lexeme → Type 0 where
  sets_first : {names : List Name} {tokens rest : List Lexeme} → Names s names tokens rest → Sets s [] None names tokens rest
  sets_next : {before : List NameSet} {start : Option ℕ} {old new : List Name} {c : Lexeme} {tokens semicolon inner rest : List Lexeme}
      → Sets s before start old tokens semicolon → Takes t.Semicolon c semicolon inner → Names s new inner rest
      → Sets s (with_set before start old) (Some c.at) new tokens rest

pub data Declaration (s : Setting) : Block → List Lexeme → List Lexeme → Type 0 where
  block_constants : (universal : Bool) {names : List Declared} {x o c : Lexeme} {tokens after inner close rest : List Lexeme}
      → Takes (constants_word universal) x tokens after → Takes t.OpenBrace o after inner → Constants s names inner close
      → Takes t.CloseBrace c close rest → Declaration s (constants_block universal x.at names) tokens rest
  block_items : (typed : Bool) {items : List Item} {x o c : Lexeme} {tokens after inner close rest : List Lexeme}
      → Takes (items_word typed) x tokens after → Takes t.OpenBrace o after inner → ItemLines s typed items inner close
      → Takes t.CloseBrace c close rest → Declaration s (items_block typed x.at items) tokens rest
  block_problem : {f : Expr} {x o c : Lexeme} {tokens after inner close rest : List Lexeme}
      → Takes t.Problem x tokens after → Takes t.OpenBrace o after inner → Derives s 0 whole f inner close
      → Takes t.CloseBrace c close rest → Declaration s (block.Problem x.at f) tokens rest
  -- set ; set { ; set }
  block_interpolant : {before : List NameSet} {start : Option ℕ} {names : List Name} {x o c : Lexeme} {tokens after inner close rest : List Lexeme}
      → Takes t.Interpolant x tokens after → Takes t.OpenBrace o after inner → Sets s before start names inner close → 1 ≤ length before
      → Takes t.CloseBrace c close rest → Declaration s (block.Interpolant x.at (with_set before start names)) tokens rest

-- blocks in any order, with at most one \problem
pub data Blocks (s : Setting) : List Block → List Lexeme → List Lexeme → Type 0 where
  blocks_none : {tokens : List Lexeme} → Blocks s [] tokens tokens
  blocks_next : {blocks : List Block} {b : Block} {tokens inner rest : List Lexeme} → Blocks s blocks tokens inner
      → Declaration s b inner rest → (is_problem b ≡ true → has_problem blocks ≡ false) → Blocks s (blocks ++ b ∷ []) tokens rest

-- file = { block }, with exactly one \problem
pub record IsFile (s : Setting) (file : File) (tokens : List Lexeme) : Type 0 where
  pub blocks_are : Blocks s file.blocks tokens []
  pub problem : has_problem file.blocks ≡ true
