-- What the frames and the states of the machine say of the tokens before.
use Rattle.std.proofs.Common.{ℕ, ℤ, neg_ℤ, pos, suc, ◌≡◌, ◌≤◌, Bool, true, false, List, [], ◌∷◌, ◌++◌, length, Option}
use Rattle.pri_tokens.specs.declared.terminals.Terminal.{Terminal}
use Rattle.pri_tokens.specs.declared.terminals.Terminal.TheVariants as t
use Rattle.pri_tokens.specs.declared.terminals.Lexeme.{Lexeme}
use Rattle.pri_reader.specs.declared.tree.Expr.{Expr}
use Rattle.pri_reader.specs.declared.tree.Form.TheVariants as form
use Rattle.pri_reader.specs.declared.tree.Added.{Added}
use Rattle.pri_reader.specs.declared.tree.Name.{Name}
use Rattle.pri_reader.specs.declared.tree.TypeName.{TypeName}
use Rattle.pri_reader.specs.declared.tree.TypeName.TheVariants as type
use Rattle.pri_reader.specs.declared.tree.Declared.{Declared}
use Rattle.pri_reader.specs.declared.tree.NameSet.{NameSet}
use Rattle.pri_reader.specs.declared.tree.Item.{Item}
use Rattle.pri_reader.specs.declared.tree.Block.{Block}
use Rattle.pri_reader.specs.declared.tree.Block.TheVariants as block
use Rattle.pri_reader.specs.declared.classes.Heading.{Heading}
use Rattle.pri_reader.specs.declared.classes.Heading.TheVariants as h
use Rattle.pri_reader.specs.Grammar.{Right, multiplication, Chain, Part, right, chain, unary, sum, factor, parenthesized, whole, operand, member, quantifier, expr, paired, Setting, value_of, name_of, of_type, Takes, TakesNumber, Opens, Endpoint, IsType, Binding, Derives, Members, Terms, Arguments, item, with_set, constants_block, items_block, Names, Constants, Parameter, Parameters, Declares, Items, ItemLines, Sets, Blocks}
use Rattle.pri_reader.specs.MachineStates.{Frame, right_of, chain_of, rel_of, sum_of, wrap, Wrap, wrapped, parenthesis_of, test_of, branch_of, arguments_of, pair_left, pair_right, problem_of, Want, a_unary, a_minus, a_parenthesis, behind_name, an_argument, a_pair, a_binder, TypeFor, for_line, for_binder, Side, lower, upper, a_type, behind_int_word, an_endpoint, an_endpoint_number, behind_endpoint, a_bound, bound_more, a_part_bracket, a_part_name, a_part_close, gives, a_block, a_brace, a_line, a_name, names_more, an_item_line, an_item, behind_item, a_first_parameter, a_parameter, behind_int, parameters_more, items_more, NamesFor, for_constants, for_set, ItemsFor, Move, bad, on, numeral, level, applied}

-- what a frame says: K says of a part, a depth and tokens that an expression of that part, which begins there, fits below the
-- frames after it
abbrev pub Fits : Type 1
Fits = Part → ℕ → List Lexeme → Type 0

pub record InRight (r : Right) (n : ℕ) (part : Part) (d : ℕ) (tokens : List Lexeme) (K : Fits) : Type 0 where
  pub part_is : part ≡ operand r
  pub depth_is : d ≡ n
  pub outside : K (right r) n tokens

pub record InChain (s : Setting) (c : Chain) (n : ℕ) (fs : List Expr) (part : Part) (d : ℕ) (tokens : List Lexeme) (K : Fits) : Type 0 where
  pub part_is : part ≡ member c
  pub depth_is : d ≡ n
  pub outer : List Lexeme
  pub joins : (f : Expr) (rest : List Lexeme) → Derives s n (member c) f tokens rest → Members s n c fs f outer rest
  pub outside : K (chain c) n outer

pub record InRel (n : ℕ) (part : Part) (d : ℕ) (tokens : List Lexeme) (K : Fits) : Type 0 where
  pub part_is : part ≡ sum
  pub depth_is : d ≡ n
  pub outside : K unary n tokens

pub record InSum (s : Setting) (n : ℕ) (before : List Added) (sign : Bool) (part : Part) (d : ℕ) (tokens : List Lexeme) (K : Fits) : Type 0 where
  pub part_is : part ≡ right multiplication
  pub depth_is : d ≡ n
  pub outer : List Lexeme
  pub joins : (f : Expr) (rest : List Lexeme) → Derives s n (right multiplication) f tokens rest → Terms s n before sign f outer rest
  pub outside : K sum n outer

pub record InWrap (s : Setting) (w : Wrap) (part : Part) (d : ℕ) (tokens : List Lexeme) (K : Fits) : Type 0 where
  pub new : Part
  pub depth : ℕ
  pub outer : List Lexeme
  pub wraps : (f : Expr) (rest : List Lexeme) → Derives s d part f tokens rest → Derives s depth new (wrapped w f) outer rest
  pub outside : K new depth outer

pub record InParenthesis (s : Setting) (part : Part) (d : ℕ) (tokens : List Lexeme) (K : Fits) : Type 0 where
  pub depth : ℕ
  pub outer : List Lexeme
  pub closes : (f : Expr) (c : Lexeme) (close rest : List Lexeme) → Derives s d part f tokens close → Takes t.CloseParenthesis c close rest
      → Derives s depth parenthesized f outer rest
  pub outside : K parenthesized depth outer

pub record InTest (s : Setting) (at n : ℕ) (part : Part) (d : ℕ) (tokens : List Lexeme) (K : Fits) : Type 0 where
  pub depth : ℕ
  pub outer : List Lexeme
  pub closes : (c f g : Expr) (y z : Lexeme) (mid yes last no rest : List Lexeme) → Derives s d part c tokens mid → Takes t.Then y mid yes
      → Derives s n parenthesized f yes last → Takes t.Else z last no → Derives s n parenthesized g no rest
      → Derives s depth factor (expr at (form.If c f g)) outer rest
  pub outside : K factor depth outer

pub record InBranch (s : Setting) (at n : ℕ) (c : Expr) (part : Part) (d : ℕ) (tokens : List Lexeme) (K : Fits) : Type 0 where
  pub depth : ℕ
  pub outer : List Lexeme
  pub closes : (f g : Expr) (z : Lexeme) (last no rest : List Lexeme) → Derives s d part f tokens last → Takes t.Else z last no
      → Derives s n parenthesized g no rest → Derives s depth factor (expr at (form.If c f g)) outer rest
  pub outside : K factor depth outer

pub record InArguments (s : Setting) (name : Name) (n : ℕ) (fs : List Expr) (part : Part) (d : ℕ) (tokens : List Lexeme) (K : Fits) : Type 0 where
  pub depth : ℕ
  pub outer : List Lexeme
  pub list : List Lexeme
  pub joins : (f : Expr) (rest : List Lexeme) → Derives s d part f tokens rest → Arguments s n fs f list rest
  pub closes : (gs : List Expr) (f : Expr) (c : Lexeme) (close rest : List Lexeme) → Arguments s n gs f list close → Takes t.CloseParenthesis c close rest
      → Derives s depth factor (applied name (gs ++ f ∷ [])) outer rest
  pub outside : K factor depth outer

pub record InLeft (s : Setting) (max : Bool) (at n : ℕ) (part : Part) (d : ℕ) (tokens : List Lexeme) (K : Fits) : Type 0 where
  pub depth : ℕ
  pub outer : List Lexeme
  pub closes : (f g : Expr) (i c : Lexeme) (comma second close rest : List Lexeme) → Derives s d part f tokens comma → Takes t.Comma i comma second
      → Derives s n whole g second close → Takes t.CloseParenthesis c close rest → Derives s depth factor (paired max at f g) outer rest
  pub outside : K factor depth outer

pub record InPair (s : Setting) (max : Bool) (at : ℕ) (f : Expr) (part : Part) (d : ℕ) (tokens : List Lexeme) (K : Fits) : Type 0 where
  pub depth : ℕ
  pub outer : List Lexeme
  pub closes : (g : Expr) (c : Lexeme) (close rest : List Lexeme) → Derives s d part g tokens close → Takes t.CloseParenthesis c close rest
      → Derives s depth factor (paired max at f g) outer rest
  pub outside : K factor depth outer

pub record InProblem (s : Setting) (start : List Lexeme) (at : ℕ) (blocks : List Block) (part : Part) (d : ℕ) (tokens : List Lexeme) : Type 0 where
  pub closes : (f : Expr) (c : Lexeme) (close rest : List Lexeme) → Derives s d part f tokens close → Takes t.CloseBrace c close rest
      → Blocks s (blocks ++ block.Problem at f ∷ []) start rest

-- an expression of this part, which begins at these tokens, fits below the frames
abbrev pub Below : Setting → List Lexeme → List Frame → Part → ℕ → List Lexeme → Type 0
Below s start [] part d tokens = ⊥
Below s start (right_of r n ∷ frames) part d tokens = InRight r n part d tokens (Below s start frames)
Below s start (chain_of c n fs ∷ frames) part d tokens = InChain s c n fs part d tokens (Below s start frames)
Below s start (rel_of n ∷ frames) part d tokens = InRel n part d tokens (Below s start frames)
Below s start (sum_of n before sign ∷ frames) part d tokens = InSum s n before sign part d tokens (Below s start frames)
Below s start (wrap w ∷ frames) part d tokens = InWrap s w part d tokens (Below s start frames)
Below s start (parenthesis_of ∷ frames) part d tokens = InParenthesis s part d tokens (Below s start frames)
Below s start (test_of at n ∷ frames) part d tokens = InTest s at n part d tokens (Below s start frames)
Below s start (branch_of at n f ∷ frames) part d tokens = InBranch s at n f part d tokens (Below s start frames)
Below s start (arguments_of name n fs ∷ frames) part d tokens = InArguments s name n fs part d tokens (Below s start frames)
Below s start (pair_left max at n ∷ frames) part d tokens = InLeft s max at n part d tokens (Below s start frames)
Below s start (pair_right max at f ∷ frames) part d tokens = InPair s max at f part d tokens (Below s start frames)
Below s start (problem_of at blocks ∷ frames) part d tokens = InProblem s start at blocks part d tokens

-- What a state says.

pub record Given (s : Setting) (f : Expr) (tokens : List Lexeme) (K : Fits) : Type 0 where
  pub part : Part
  pub depth : ℕ
  pub outer : List Lexeme
  pub derived : Derives s depth part f outer tokens
  pub fits : K part depth outer

pub record BehindName (s : Setting) (name : Name) (n : ℕ) (tokens : List Lexeme) (K : Fits) : Type 0 where
  pub outer : List Lexeme
  pub x : Lexeme
  pub takes : Takes t.Identifier x outer tokens
  pub name_is : name ≡ name_of s x
  pub fits : K factor n outer

pub record AnArgument (s : Setting) (name : Name) (n : ℕ) (tokens : List Lexeme) (K : Fits) : Type 0 where
  pub depth : ℕ
  pub outer : List Lexeme
  pub empty : (c : Lexeme) (rest : List Lexeme) → Takes t.CloseParenthesis c tokens rest → Derives s depth factor (applied name []) outer rest
  pub full : (fs : List Expr) (f : Expr) (c : Lexeme) (close rest : List Lexeme) → Arguments s n fs f tokens close → Takes t.CloseParenthesis c close rest
      → Derives s depth factor (applied name (fs ++ f ∷ [])) outer rest
  pub fits : K factor depth outer

pub record APair (s : Setting) (max : Bool) (at n : ℕ) (tokens : List Lexeme) (K : Fits) : Type 0 where
  pub outer : List Lexeme
  pub closes : (f g : Expr) (q i c : Lexeme) (first comma second close rest : List Lexeme) → Takes t.OpenParenthesis q tokens first → Opens s first n
      → Derives s (suc n) whole f first comma → Takes t.Comma i comma second → Derives s (suc n) whole g second close
      → Takes t.CloseParenthesis c close rest → Derives s n factor (paired max at f g) outer rest
  pub fits : K factor n outer

abbrev pub closer : Bool → Terminal
closer false = t.Semicolon
closer true = t.CloseParenthesis

-- bound names that begin at the list, and what is left of their quantifier
pub record Binder (s : Setting) (at : ℕ) (all several : Bool) (list : List Lexeme) (K : Fits) : Type 0 where
  pub depth : ℕ
  pub outer : List Lexeme
  pub closes : (sort : TypeName) (e : ℕ) (names : List Declared) (f : Expr) (c : Lexeme) (end body rest : List Lexeme) → Binding s several sort depth e names list end
      → Takes (closer several) c end body → Derives s e unary f body rest → Derives s depth unary (expr at (form.Quantified all names f)) outer rest
  pub fits : K unary depth outer

pub record ABinder (s : Setting) (at : ℕ) (all : Bool) (n : ℕ) (tokens : List Lexeme) (K : Fits) : Type 0 where
  pub outer : List Lexeme
  pub x : Lexeme
  pub takes : Takes (quantifier all) x outer tokens
  pub at_is : at ≡ x.at
  pub fits : K unary n outer

pub record ABound (s : Setting) (at : ℕ) (all several : Bool) (sort : TypeName) (n : ℕ) (names : List Declared) (tokens : List Lexeme) (K : Fits) : Type 0 where
  pub list : List Lexeme
  pub binder : Binder s at all several list K
  pub more : (x : Lexeme) (rest : List Lexeme) → Takes t.Identifier x tokens rest → Opens s rest n
      → Binding s several sort binder.depth (suc n) (names ++ of_type sort (name_of s x) ∷ []) list rest

pub record BoundMore (s : Setting) (at : ℕ) (all several : Bool) (sort : TypeName) (n : ℕ) (names : List Declared) (tokens : List Lexeme) (K : Fits) : Type 0 where
  pub list : List Lexeme
  pub binder : Binder s at all several list K
  pub bound : Binding s several sort binder.depth n names list tokens

pub record PartBracket (s : Setting) (at n : ℕ) (tokens : List Lexeme) (K : Fits) : Type 0 where
  pub depth : ℕ
  pub outer : List Lexeme
  pub closes : (f : Expr) (q i c : Lexeme) (inner close body rest : List Lexeme) → Takes t.OpenBracket q tokens inner → Takes t.Identifier i inner close
      → Takes t.CloseBracket c close body → Derives s n unary f body rest → Derives s depth unary (expr at (form.Part (name_of s i) f)) outer rest
  pub fits : K unary depth outer

pub record PartName (s : Setting) (at n : ℕ) (tokens : List Lexeme) (K : Fits) : Type 0 where
  pub depth : ℕ
  pub outer : List Lexeme
  pub closes : (f : Expr) (i c : Lexeme) (close body rest : List Lexeme) → Takes t.Identifier i tokens close
      → Takes t.CloseBracket c close body → Derives s n unary f body rest → Derives s depth unary (expr at (form.Part (name_of s i) f)) outer rest
  pub fits : K unary depth outer

pub record PartClose (s : Setting) (at : ℕ) (name : Name) (n : ℕ) (tokens : List Lexeme) (K : Fits) : Type 0 where
  pub depth : ℕ
  pub outer : List Lexeme
  pub closes : (f : Expr) (c : Lexeme) (body rest : List Lexeme) → Takes t.CloseBracket c tokens body → Derives s n unary f body rest
      → Derives s depth unary (expr at (form.Part name f)) outer rest
  pub fits : K unary depth outer

-- Blocks.

pub record ForConstants (s : Setting) (start : List Lexeme) (sort : TypeName) (universal : Bool) (at : ℕ) (old : List Declared) (blocks : List Block) (line : List Lexeme) : Type 0 where
  pub list : List Lexeme
  pub types : List Lexeme
  pub lines : Constants s old list types
  pub is_type : IsType s sort types line
  pub closes : (names : List Declared) (c : Lexeme) (close rest : List Lexeme) → Constants s names list close → Takes t.CloseBrace c close rest
      → Blocks s (blocks ++ constants_block universal at names ∷ []) start rest

pub record ForSet (s : Setting) (start : List Lexeme) (at : ℕ) (sets : List NameSet) (from : Option ℕ) (blocks : List Block) (line : List Lexeme) : Type 0 where
  pub list : List Lexeme
  pub joins : (names : List Name) (rest : List Lexeme) → Names s names line rest → Sets s sets from names list rest
  pub closes : (before : List NameSet) (old : Option ℕ) (names : List Name) (c : Lexeme) (close rest : List Lexeme) → Sets s before old names list close
      → 1 ≤ length before → Takes t.CloseBrace c close rest → Blocks s (blocks ++ block.Interpolant at (with_set before old names) ∷ []) start rest

abbrev pub ForNames : Setting → List Lexeme → NamesFor → List Lexeme → Type 0
ForNames s start (for_constants sort universal at old blocks) line = ForConstants s start sort universal at old blocks line
ForNames s start (for_set at sets from blocks) line = ForSet s start at sets from blocks line

pub record AName (s : Setting) (start : List Lexeme) (names_for : NamesFor) (names : List Name) (tokens : List Lexeme) : Type 0 where
  pub line : List Lexeme
  pub more : (x : Lexeme) (rest : List Lexeme) → Takes t.Identifier x tokens rest → Names s (names ++ name_of s x ∷ []) line rest
  pub fits : ForNames s start names_for line

pub record NamesMore (s : Setting) (start : List Lexeme) (names_for : NamesFor) (names : List Name) (tokens : List Lexeme) : Type 0 where
  pub line : List Lexeme
  pub found : Names s names line tokens
  pub fits : ForNames s start names_for line

pub record ALine (s : Setting) (start : List Lexeme) (universal : Bool) (at : ℕ) (names : List Declared) (blocks : List Block) (tokens : List Lexeme) : Type 0 where
  pub list : List Lexeme
  pub lines : Constants s names list tokens
  pub closes : (more : List Declared) (c : Lexeme) (close rest : List Lexeme) → Constants s more list close → Takes t.CloseBrace c close rest
      → Blocks s (blocks ++ constants_block universal at more ∷ []) start rest

-- Types.

-- what a state says in which the names of a type begin
abbrev pub BehindType : Setting → List Lexeme → TypeFor → TypeName → List Frame → List Lexeme → Type 0
BehindType s start (for_line universal at names blocks) sort frames tokens = AName s start (for_constants sort universal at names blocks) [] tokens
BehindType s start (for_binder at all several n names) sort frames tokens = ABound s at all several sort n names tokens (Below s start frames)

pub record AType (s : Setting) (start : List Lexeme) (for : TypeFor) (frames : List Frame) (tokens : List Lexeme) : Type 0 where
  pub done : (sort : TypeName) (rest : List Lexeme) → IsType s sort tokens rest → BehindType s start for sort frames rest

pub record BehindIntWord (s : Setting) (start : List Lexeme) (for : TypeFor) (frames : List Frame) (tokens : List Lexeme) : Type 0 where
  pub outer : List Lexeme
  pub x : Lexeme
  pub takes : Takes t.Int x outer tokens
  pub done : (sort : TypeName) (rest : List Lexeme) → IsType s sort outer rest → BehindType s start for sort frames rest

-- what a state says after an endpoint of this value: after the rest of its range, the names of that type begin
abbrev pub BehindEndpoint : Setting → List Lexeme → TypeFor → Side → ℤ → List Frame → List Lexeme → Type 0
BehindEndpoint s start for lower value frames tokens = (most : ℤ) (c e : Lexeme) (inner close rest : List Lexeme) → Takes t.Comma c tokens inner → Endpoint s most inner close
    → Takes t.CloseBracket e close rest → BehindType s start for (type.Range value most) frames rest
BehindEndpoint s start for (upper least) value frames tokens = (e : Lexeme) (rest : List Lexeme) → Takes t.CloseBracket e tokens rest
    → BehindType s start for (type.Range least value) frames rest

pub record AnEndpoint (s : Setting) (start : List Lexeme) (for : TypeFor) (side : Side) (frames : List Frame) (tokens : List Lexeme) : Type 0 where
  pub done : (value : ℤ) (behind : List Lexeme) → Endpoint s value tokens behind → BehindEndpoint s start for side value frames behind

pub record AnEndpointNumber (s : Setting) (start : List Lexeme) (for : TypeFor) (side : Side) (frames : List Frame) (tokens : List Lexeme) : Type 0 where
  pub done : (x : Lexeme) (behind : List Lexeme) → TakesNumber s x tokens behind → BehindEndpoint s start for side (neg_ℤ (pos (value_of s x))) frames behind

pub record ItemsOpen (s : Setting) (start : List Lexeme) (typed : Bool) (at : ℕ) (blocks : List Block) : Type 0 where
  pub list : List Lexeme
  pub closes : (its : List Item) (c : Lexeme) (close rest : List Lexeme) → ItemLines s typed its list close → Takes t.CloseBrace c close rest
      → Blocks s (blocks ++ items_block typed at its ∷ []) start rest

pub record AnItemLine (s : Setting) (start : List Lexeme) (i : ItemsFor) (tokens : List Lexeme) : Type 0 where
  pub block_of : ItemsOpen s start i.typed i.at i.blocks
  pub lines : ItemLines s i.typed i.items block_of.list tokens

pub record Line (s : Setting) (start : List Lexeme) (typed : Bool) (at : ℕ) (blocks : List Block) (line : List Lexeme) : Type 0 where
  pub block_of : ItemsOpen s start typed at blocks
  pub before : List Item
  pub joins : (more : List Item) (c : Lexeme) (semicolon rest : List Lexeme) → Items s more line semicolon → Takes t.Semicolon c semicolon rest
      → ItemLines s typed (before ++ more) block_of.list rest

pub record SoFar (s : Setting) (its before : List Item) (line tokens : List Lexeme) : Type 0 where
  pub more : List Item
  pub items : Items s more line tokens
  pub is : its ≡ before ++ more

pub record InLine (s : Setting) (start : List Lexeme) (i : ItemsFor) : Type 0 where
  pub line : List Lexeme
  pub fits : Line s start i.typed i.at i.blocks line

pub record AnItem (s : Setting) (start : List Lexeme) (i : ItemsFor) (tokens : List Lexeme) : Type 0 where
  pub within : InLine s start i
  pub adds : (one : Item) (rest : List Lexeme) → Declares s one tokens rest → SoFar s (i.items ++ one ∷ []) within.fits.before within.line rest

pub record ItemsMore (s : Setting) (start : List Lexeme) (i : ItemsFor) (tokens : List Lexeme) : Type 0 where
  pub within : InLine s start i
  pub so_far : SoFar s i.items within.fits.before within.line tokens

-- an item that begins at the outer tokens
pub record Adding (s : Setting) (start : List Lexeme) (i : ItemsFor) (outer : List Lexeme) : Type 0 where
  pub within : InLine s start i
  pub adds : (one : Item) (rest : List Lexeme) → Declares s one outer rest → SoFar s (i.items ++ one ∷ []) within.fits.before within.line rest

pub record BehindItem (s : Setting) (start : List Lexeme) (i : ItemsFor) (name : Name) (tokens : List Lexeme) : Type 0 where
  pub outer : List Lexeme
  pub x : Lexeme
  pub takes : Takes t.Identifier x outer tokens
  pub name_is : name ≡ name_of s x
  pub adding : Adding s start i outer

pub record FirstParameter (s : Setting) (start : List Lexeme) (i : ItemsFor) (name : Name) (tokens : List Lexeme) : Type 0 where
  pub outer : List Lexeme
  pub adding : Adding s start i outer
  pub empty : (c : Lexeme) (rest : List Lexeme) → Takes t.CloseParenthesis c tokens rest → Declares s (item name 0) outer rest
  pub full : (n : ℕ) (c : Lexeme) (close rest : List Lexeme) → Parameters n tokens close → Takes t.CloseParenthesis c close rest → Declares s (item name n) outer rest

pub record Counting (s : Setting) (start : List Lexeme) (i : ItemsFor) (name : Name) : Type 0 where
  pub outer : List Lexeme
  pub list : List Lexeme
  pub adding : Adding s start i outer
  pub full : (n : ℕ) (c : Lexeme) (close rest : List Lexeme) → Parameters n list close → Takes t.CloseParenthesis c close rest → Declares s (item name n) outer rest

pub record AParameter (s : Setting) (start : List Lexeme) (i : ItemsFor) (name : Name) (n : ℕ) (tokens : List Lexeme) : Type 0 where
  pub counting : Counting s start i name
  pub joins : (rest : List Lexeme) → Parameter tokens rest → Parameters (suc n) counting.list rest

pub record BehindInt (s : Setting) (start : List Lexeme) (i : ItemsFor) (name : Name) (n : ℕ) (tokens : List Lexeme) : Type 0 where
  pub counting : Counting s start i name
  pub bare : Parameters n counting.list tokens
  pub named : (x : Lexeme) (rest : List Lexeme) → Takes t.Identifier x tokens rest → Parameters n counting.list rest

pub record ParametersMore (s : Setting) (start : List Lexeme) (i : ItemsFor) (name : Name) (n : ℕ) (tokens : List Lexeme) : Type 0 where
  pub counting : Counting s start i name
  pub found : Parameters n counting.list tokens

abbrev pub ABrace : Setting → List Lexeme → Heading → ℕ → List Block → List Lexeme → Type 0
ABrace s start (h.Constants universal) at blocks tokens = (names : List Declared) (q c : Lexeme) (inner close rest : List Lexeme) → Takes t.OpenBrace q tokens inner
    → Constants s names inner close → Takes t.CloseBrace c close rest → Blocks s (blocks ++ constants_block universal at names ∷ []) start rest
ABrace s start (h.Items typed) at blocks tokens = (its : List Item) (q c : Lexeme) (inner close rest : List Lexeme) → Takes t.OpenBrace q tokens inner
    → ItemLines s typed its inner close → Takes t.CloseBrace c close rest → Blocks s (blocks ++ items_block typed at its ∷ []) start rest
ABrace s start h.Problem at blocks tokens = (f : Expr) (q c : Lexeme) (inner close rest : List Lexeme) → Takes t.OpenBrace q tokens inner
    → Derives s 0 whole f inner close → Takes t.CloseBrace c close rest → Blocks s (blocks ++ block.Problem at f ∷ []) start rest
ABrace s start h.Interpolant at blocks tokens = (before : List NameSet) (from : Option ℕ) (names : List Name) (q c : Lexeme) (inner close rest : List Lexeme)
    → Takes t.OpenBrace q tokens inner → Sets s before from names inner close → 1 ≤ length before → Takes t.CloseBrace c close rest
    → Blocks s (blocks ++ block.Interpolant at (with_set before from names) ∷ []) start rest

-- what the machine has read in a state, from the start of the file on
abbrev pub IsOpen : Setting → List Lexeme → Want → List Frame → List Lexeme → Type 0
IsOpen s start (a_unary n) frames tokens = Below s start frames unary n tokens
IsOpen s start (a_minus n) frames tokens = Below s start frames factor n tokens
IsOpen s start (a_parenthesis n) frames tokens = Below s start frames parenthesized n tokens
IsOpen s start (behind_name name n) frames tokens = BehindName s name n tokens (Below s start frames)
IsOpen s start (an_argument name n) frames tokens = AnArgument s name n tokens (Below s start frames)
IsOpen s start (a_pair max at n) frames tokens = APair s max at n tokens (Below s start frames)
IsOpen s start (a_binder at all n) frames tokens = ABinder s at all n tokens (Below s start frames)
IsOpen s start (a_type for) frames tokens = AType s start for frames tokens
IsOpen s start (behind_int_word for) frames tokens = BehindIntWord s start for frames tokens
IsOpen s start (an_endpoint for side) frames tokens = AnEndpoint s start for side frames tokens
IsOpen s start (an_endpoint_number for side) frames tokens = AnEndpointNumber s start for side frames tokens
IsOpen s start (behind_endpoint for side value) frames tokens = BehindEndpoint s start for side value frames tokens
IsOpen s start (a_bound at all several sort n names) frames tokens = ABound s at all several sort n names tokens (Below s start frames)
IsOpen s start (bound_more at all several sort n names) frames tokens = BoundMore s at all several sort n names tokens (Below s start frames)
IsOpen s start (a_part_bracket at n) frames tokens = PartBracket s at n tokens (Below s start frames)
IsOpen s start (a_part_name at n) frames tokens = PartName s at n tokens (Below s start frames)
IsOpen s start (a_part_close at name n) frames tokens = PartClose s at name n tokens (Below s start frames)
IsOpen s start (gives f) frames tokens = Given s f tokens (Below s start frames)
IsOpen s start (a_block blocks) frames tokens = Blocks s blocks start tokens
IsOpen s start (a_brace heading at blocks) frames tokens = ABrace s start heading at blocks tokens
IsOpen s start (a_line universal at names blocks) frames tokens = ALine s start universal at names blocks tokens
IsOpen s start (a_name names_for names) frames tokens = AName s start names_for names tokens
IsOpen s start (names_more names_for names) frames tokens = NamesMore s start names_for names tokens
IsOpen s start (an_item_line i) frames tokens = AnItemLine s start i tokens
IsOpen s start (an_item i) frames tokens = AnItem s start i tokens
IsOpen s start (behind_item i name) frames tokens = BehindItem s start i name tokens
IsOpen s start (a_first_parameter i name) frames tokens = FirstParameter s start i name tokens
IsOpen s start (a_parameter i name n) frames tokens = AParameter s start i name n tokens
IsOpen s start (behind_int i name n) frames tokens = BehindInt s start i name n tokens
IsOpen s start (parameters_more i name n) frames tokens = ParametersMore s start i name n tokens
IsOpen s start (items_more i) frames tokens = ItemsMore s start i tokens

-- a move leads to such a state
abbrev pub Good : Setting → List Lexeme → Move → List Lexeme → Type 0
Good s start bad inner = Unit {0}
Good s start (on want frames) inner = IsOpen s start want frames inner
Good s start (numeral n want frames) inner = s.small inner n ≡ true → IsOpen s start want frames inner
Good s start (level n want frames) inner = s.shallow inner n ≡ true → IsOpen s start want frames inner
