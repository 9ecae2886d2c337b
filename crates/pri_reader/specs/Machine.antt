-- The reader as a machine: it takes one token after another. So it says by itself which token is the first that no file has
-- there.
use Rattle.std.specs.Prelude.{ℕ, ℤ, suc, Bool, true, false, List, [], ◌∷◌, ◌++◌, Option, Some, None, Result, Ok, Err, pos, neg_ℤ, if◌then◌else◌}
use Rattle.pri_tokens.specs.declared.terminals.Terminal.{Terminal}
use Rattle.pri_tokens.specs.declared.terminals.Terminal.TheVariants as t
use Rattle.pri_tokens.specs.declared.terminals.Lexeme.{Lexeme}
use Rattle.pri_reader.specs.declared.tree.Expr.{Expr}
use Rattle.pri_reader.specs.declared.tree.Form.TheVariants as form
use Rattle.pri_reader.specs.declared.tree.Added.{Added}
use Rattle.pri_reader.specs.declared.tree.Name.{Name}
use Rattle.pri_reader.specs.declared.tree.TypeName.{TypeName}
use Rattle.pri_reader.specs.declared.tree.TypeName.TheVariants as type
use Rattle.pri_reader.specs.declared.tree.Declared.{Declared}
use Rattle.pri_reader.specs.declared.tree.NameSet.{NameSet}
use Rattle.pri_reader.specs.declared.tree.Item.{Item}
use Rattle.pri_reader.specs.declared.tree.File.{File}
use Rattle.pri_reader.specs.declared.tree.Block.{Block}
use Rattle.pri_reader.specs.declared.tree.Block.TheVariants as block
use Rattle.pri_reader.specs.declared.tree.Comparison.{Comparison}
use Rattle.pri_reader.specs.declared.tree.ReadRefusal.{ReadRefusal}
use Rattle.pri_reader.specs.declared.tree.ReadRefusal.TheVariants as refusal
use Rattle.pri_reader.specs.declared.classes.Prefix.{Prefix}
use Rattle.pri_reader.specs.declared.classes.Prefix.TheVariants as p
use Rattle.pri_reader.specs.declared.classes.Opening.{Opening}
use Rattle.pri_reader.specs.declared.classes.Opening.TheVariants as o
use Rattle.pri_reader.specs.declared.classes.Heading.{Heading}
use Rattle.pri_reader.specs.declared.classes.Heading.TheVariants as h
use Rattle.pri_reader.specs.Classes.{prefix_of, opening_of, heading_of, comparison_of, adding_of}
use Rattle.pri_reader.specs.Grammar.{Right, equivalence, implication, multiplication, Chain, disjunction, conjunction, expr, chained, added, summed, paired, Setting, value_of, name_of, of_type, all_of_type, constants_block, items_block, item, with_set, has_problem}
use Rattle.pri_reader.specs.MachineStates.{second, not_at, minus_at, bound_at, part_at, compared, grouped_at, absolute_at, branches, wrapped, Frame, right_of, chain_of, rel_of, sum_of, wrap, parenthesis_of, test_of, branch_of, arguments_of, pair_left, pair_right, problem_of, TypeFor, for_line, for_binder, Side, lower, upper, NamesFor, for_constants, for_set, ItemsFor, Want, a_unary, a_minus, a_parenthesis, behind_name, an_argument, a_pair, a_binder, a_type, behind_int_word, an_endpoint, an_endpoint_number, behind_endpoint, a_bound, bound_more, behind_type, a_part_bracket, a_part_name, a_part_close, gives, a_block, a_brace, a_line, a_name, names_more, an_item_line, an_item, behind_item, a_first_parameter, a_parameter, behind_int, parameters_more, items_more, Move, bad, on, numeral, level, applied, under_product, under_sum, under_rel, under_right, wants_right, under_member}

-- Which tokens go on with a line.

abbrev pub takes_right : Right → Terminal → Bool
takes_right equivalence t.Iff = true
takes_right implication t.Implies = true
takes_right multiplication t.Star = true
takes_right _ _ = false

abbrev pub takes_chain : Chain → Terminal → Bool
takes_chain disjunction t.Or = true
takes_chain conjunction t.And = true
takes_chain _ _ = false

abbrev pub sum_goes_on : Option Bool → ℕ → List Added → List Frame → Move → Move
sum_goes_on None n before frames other = other
sum_goes_on (Some sign) n before frames other = on (a_minus n) (under_product n (sum_of n before sign ∷ frames))

abbrev pub rel_goes_on : Option Comparison → ℕ → Expr → List Frame → Move → Move
rel_goes_on None n f frames other = other
rel_goes_on (Some c) n f frames other = on (a_minus n) (under_sum n (wrap (compared c f) ∷ frames))

abbrev pub parenthesis_follows : Terminal → Expr → List Frame → Move
parenthesis_follows t.CloseParenthesis f frames = on (gives f) frames
parenthesis_follows _ f frames = bad

abbrev pub test_follows : Terminal → ℕ → ℕ → Expr → List Frame → Move
test_follows t.Then at n f frames = on (a_parenthesis n) (branch_of at n f ∷ frames)
test_follows _ at n f frames = bad

abbrev pub branch_follows : Terminal → ℕ → ℕ → Expr → Expr → List Frame → Move
branch_follows t.Else at n c f frames = on (a_parenthesis n) (wrap (branches at c f) ∷ frames)
branch_follows _ at n c f frames = bad

abbrev pub arguments_follow : Terminal → Name → ℕ → List Expr → List Frame → Move
arguments_follow t.Comma name n fs frames = on (a_unary n) (under_right equivalence n (arguments_of name n fs ∷ frames))
arguments_follow t.CloseParenthesis name n fs frames = on (gives (applied name fs)) frames
arguments_follow _ name n fs frames = bad

abbrev pub left_follows : Terminal → Bool → ℕ → ℕ → Expr → List Frame → Move
left_follows t.Comma max at n f frames = on (a_unary n) (under_right equivalence n (pair_right max at f ∷ frames))
left_follows _ max at n f frames = bad

abbrev pub pair_follows : Terminal → Bool → ℕ → Expr → Expr → List Frame → Move
pair_follows t.CloseParenthesis max at f g frames = on (gives (paired max at f g)) frames
pair_follows _ max at f g frames = bad

abbrev pub problem_follows : Terminal → ℕ → List Block → Expr → Move
problem_follows t.CloseBrace at blocks f = on (a_block (blocks ++ block.Problem at f ∷ [])) []
problem_follows _ at blocks f = bad

-- an expression is read, and a token of this terminal at this offset follows
unfoldable pub follows : ℕ → Terminal → Expr → List Frame → Move
follows at kind f [] = bad
follows at kind f (right_of r n ∷ frames) =
    if takes_right r kind then level n (wants_right r (suc n)) (under_right r (suc n) (wrap (second r f at) ∷ frames))
    else follows at kind f frames
follows at kind f (chain_of c n fs ∷ frames) =
    if takes_chain c kind then on (a_unary n) (under_member c n (chain_of c n (fs ++ f ∷ []) ∷ frames))
    else follows at kind (chained c fs f) frames
follows at kind f (rel_of n ∷ frames) = rel_goes_on (comparison_of kind) n f frames (follows at kind f frames)
follows at kind f (sum_of n before sign ∷ frames) =
    sum_goes_on (adding_of kind) n (before ++ added sign f ∷ []) frames (follows at kind (summed before sign f) frames)
follows at kind f (wrap w ∷ frames) = follows at kind (wrapped w f) frames
follows at kind f (parenthesis_of ∷ frames) = parenthesis_follows kind f frames
follows at kind f (test_of start n ∷ frames) = test_follows kind start n f frames
follows at kind g (branch_of start n f ∷ frames) = branch_follows kind start n f g frames
follows at kind f (arguments_of name n fs ∷ frames) = arguments_follow kind name n (fs ++ f ∷ []) frames
follows at kind f (pair_left max start n ∷ frames) = left_follows kind max start n f frames
follows at kind g (pair_right max start f ∷ frames) = pair_follows kind max start f g frames
follows at kind f (problem_of start blocks ∷ frames) = problem_follows kind start blocks f

abbrev pub parenthesis_moves : Terminal → ℕ → List Frame → Move
parenthesis_moves t.OpenParenthesis n frames = level n (a_unary (suc n)) (under_right equivalence (suc n) (parenthesis_of ∷ frames))
parenthesis_moves _ n frames = bad

-- a minus or a primary begins
abbrev pub minus_moves : Setting → Lexeme → Option Opening → ℕ → List Frame → Move
minus_moves s x (Some o.Minus) n frames = level n (a_minus (suc n)) (wrap (minus_at x.at) ∷ frames)
minus_moves s x (Some o.Number) n frames = numeral (value_of s x) (gives (expr x.at (form.Number (pos (value_of s x))))) frames
minus_moves s x (Some (o.Truth b)) n frames = on (gives (expr x.at (form.Truth b))) frames
minus_moves s x (Some o.Identifier) n frames = on (behind_name (name_of s x) n) frames
minus_moves s x (Some o.Parenthesis) n frames =
    level n (a_unary (suc n)) (under_right equivalence (suc n) (parenthesis_of ∷ wrap (grouped_at x.at) ∷ frames))
minus_moves s x (Some o.If) n frames = on (a_parenthesis n) (test_of x.at n ∷ frames)
minus_moves s x (Some o.Abs) n frames = on (a_parenthesis n) (wrap (absolute_at x.at) ∷ frames)
minus_moves s x (Some (o.Pair max)) n frames = on (a_pair max x.at n) frames
minus_moves s x _ n frames = bad

-- a unary begins
abbrev pub unary_moves : Setting → Lexeme → Option Prefix → Option Opening → ℕ → List Frame → Move
unary_moves s x (Some p.Not) opening n frames = level n (a_unary (suc n)) (wrap (not_at x.at) ∷ frames)
unary_moves s x (Some (p.Quantifier all)) opening n frames = on (a_binder x.at all n) frames
unary_moves s x (Some p.Part) opening n frames = level n (a_part_bracket x.at (suc n)) frames
unary_moves s x None opening n frames = minus_moves s x opening n (under_rel n frames)

abbrev pub behind_name_moves : Terminal → ℕ → Name → ℕ → List Frame → Move
behind_name_moves t.OpenParenthesis at name n frames = level n (an_argument name (suc n)) frames
behind_name_moves kind at name n frames = follows at kind (applied name []) frames

abbrev pub argument_moves : Setting → Lexeme → Terminal → Name → ℕ → List Frame → Move
argument_moves s x t.CloseParenthesis name n frames = on (gives (applied name [])) frames
argument_moves s x kind name n frames =
    unary_moves s x (prefix_of kind) (opening_of kind) n (under_right equivalence n (arguments_of name n [] ∷ frames))

abbrev pub pair_moves : Terminal → Bool → ℕ → ℕ → List Frame → Move
pair_moves t.OpenParenthesis max at n frames = level n (a_unary (suc n)) (under_right equivalence (suc n) (pair_left max at (suc n) ∷ frames))
pair_moves _ max at n frames = bad

-- a type begins
abbrev pub type_moves : Terminal → TypeFor → List Frame → Move
type_moves t.Nat for frames = on (behind_type for type.Nat) frames
type_moves t.Int for frames = on (behind_int_word for) frames
type_moves _ for frames = bad

abbrev pub binder_moves : Terminal → ℕ → Bool → ℕ → List Frame → Move
binder_moves t.OpenParenthesis at all n frames = on (a_type (for_binder at all true n [])) frames
binder_moves kind at all n frames = type_moves kind (for_binder at all false n []) frames

abbrev pub bound_moves : Setting → Lexeme → Terminal → ℕ → Bool → Bool → TypeName → ℕ → List Declared → List Frame → Move
bound_moves s x t.Identifier at all several sort n names frames = level n (bound_more at all several sort (suc n) (names ++ of_type sort (name_of s x) ∷ [])) frames
bound_moves s x _ at all several sort n names frames = bad

abbrev pub bound_more_moves : Terminal → ℕ → Bool → Bool → TypeName → ℕ → List Declared → List Frame → Move
bound_more_moves t.Comma at all several sort n names frames = on (a_bound at all several sort n names) frames
bound_more_moves t.Semicolon at all false sort n names frames = on (a_unary n) (wrap (bound_at at all names) ∷ frames)
bound_more_moves t.Semicolon at all true sort n names frames = on (a_type (for_binder at all true n names)) frames
bound_more_moves t.CloseParenthesis at all true sort n names frames = on (a_unary n) (wrap (bound_at at all names) ∷ frames)
bound_more_moves _ at all several sort n names frames = bad

abbrev pub part_bracket_moves : Terminal → ℕ → ℕ → List Frame → Move
part_bracket_moves t.OpenBracket at n frames = on (a_part_name at n) frames
part_bracket_moves _ at n frames = bad

abbrev pub part_name_moves : Setting → Lexeme → Terminal → ℕ → ℕ → List Frame → Move
part_name_moves s x t.Identifier at n frames = on (a_part_close at (name_of s x) n) frames
part_name_moves s x _ at n frames = bad

abbrev pub part_close_moves : Terminal → ℕ → Name → ℕ → List Frame → Move
part_close_moves t.CloseBracket at name n frames = on (a_unary n) (wrap (part_at at name) ∷ frames)
part_close_moves _ at name n frames = bad

-- The blocks.

abbrev pub block_moves : Option Heading → ℕ → List Block → Move
block_moves None at blocks = bad
block_moves (Some h.Problem) at blocks = if has_problem blocks then bad else on (a_brace h.Problem at blocks) []
block_moves (Some heading) at blocks = on (a_brace heading at blocks) []

abbrev pub items_for : Bool → ℕ → List Item → List Block → ItemsFor
items_for typed at items blocks = record { typed = typed; at = at; items = items; blocks = blocks }

abbrev pub with_item : ItemsFor → Name → ℕ → ItemsFor
with_item i name arity = items_for i.typed i.at (i.items ++ item name arity ∷ []) i.blocks

abbrev pub in_braces : Heading → ℕ → List Block → Move
in_braces (h.Constants universal) at blocks = on (a_line universal at [] blocks) []
in_braces (h.Items typed) at blocks = on (an_item_line (items_for typed at [] blocks)) []
in_braces h.Problem at blocks = on (a_unary 0) (under_right equivalence 0 (problem_of at blocks ∷ []))
in_braces h.Interpolant at blocks = on (a_name (for_set at [] None blocks) []) []

abbrev pub brace_moves : Terminal → Heading → ℕ → List Block → Move
brace_moves t.OpenBrace heading at blocks = in_braces heading at blocks
brace_moves _ heading at blocks = bad

abbrev pub line_moves : Terminal → Bool → ℕ → List Declared → List Block → Move
line_moves t.CloseBrace universal at names blocks = on (a_block (blocks ++ constants_block universal at names ∷ [])) []
line_moves kind universal at names blocks = type_moves kind (for_line universal at names blocks) []

abbrev pub name_moves : Setting → Lexeme → Terminal → NamesFor → List Name → Move
name_moves s x t.Identifier names_for names = on (names_more names_for (names ++ name_of s x ∷ [])) []
name_moves s x _ names_for names = bad

-- an `\interpolant` block has at least two sets
abbrev pub sets_end : ℕ → List NameSet → List NameSet → List Block → Move
sets_end at [] all blocks = bad
sets_end at (one ∷ more) all blocks = on (a_block (blocks ++ block.Interpolant at all ∷ [])) []

abbrev pub names_end : Terminal → ℕ → NamesFor → List Name → Move
names_end t.Semicolon here (for_constants sort universal at names blocks) more = on (a_line universal at (names ++ all_of_type sort more) blocks) []
names_end t.Semicolon here (for_set at sets start blocks) names = on (a_name (for_set at (with_set sets start names) (Some here) blocks) []) []
names_end t.CloseBrace here (for_set at sets start blocks) names = sets_end at sets (with_set sets start names) blocks
names_end _ here names_for names = bad

abbrev pub names_more_moves : Terminal → ℕ → NamesFor → List Name → Move
names_more_moves t.Comma here names_for names = on (a_name names_for names) []
names_more_moves kind here names_for names = names_end kind here names_for names

abbrev pub item_moves : Setting → Lexeme → Terminal → ItemsFor → Move
item_moves s x t.Identifier i = on (behind_item i (name_of s x)) []
item_moves s x _ i = bad

abbrev pub item_line_moves : Setting → Lexeme → Terminal → Bool → ItemsFor → Move
item_line_moves s x t.CloseBrace typed i = on (a_block (i.blocks ++ items_block i.typed i.at i.items ∷ [])) []
item_line_moves s x t.Int true i = on (an_item i) []
item_line_moves s x kind true i = bad
item_line_moves s x kind false i = item_moves s x kind i

abbrev pub items_more_moves : Terminal → ItemsFor → Move
items_more_moves t.Comma i = on (an_item i) []
items_more_moves t.Semicolon i = on (an_item_line i) []
items_more_moves _ i = bad

abbrev pub behind_item_moves : Terminal → ItemsFor → Name → Move
behind_item_moves t.OpenParenthesis i name = on (a_first_parameter i name) []
behind_item_moves kind i name = items_more_moves kind (with_item i name 0)

abbrev pub parameter_moves : Terminal → ItemsFor → Name → ℕ → Move
parameter_moves t.Int i name n = on (behind_int i name (suc n)) []
parameter_moves _ i name n = bad

abbrev pub first_parameter_moves : Terminal → ItemsFor → Name → Move
first_parameter_moves t.CloseParenthesis i name = on (items_more (with_item i name 0)) []
first_parameter_moves kind i name = parameter_moves kind i name 0

abbrev pub parameters_more_moves : Terminal → ItemsFor → Name → ℕ → Move
parameters_more_moves t.Comma i name n = on (a_parameter i name n) []
parameters_more_moves t.CloseParenthesis i name n = on (items_more (with_item i name n)) []
parameters_more_moves _ i name n = bad

abbrev pub behind_int_moves : Terminal → ItemsFor → Name → ℕ → Move
behind_int_moves t.Identifier i name n = on (parameters_more i name n) []
behind_int_moves kind i name n = parameters_more_moves kind i name n

-- Types.

-- what the first token of the names of a type does
abbrev pub behind_type_moves : Setting → Lexeme → Terminal → TypeFor → TypeName → List Frame → Move
behind_type_moves s x kind (for_line universal at names blocks) sort frames = name_moves s x kind (for_constants sort universal at names blocks) []
behind_type_moves s x kind (for_binder at all several n names) sort frames = bound_moves s x kind at all several sort n names frames

abbrev pub int_word_moves : Setting → Lexeme → Terminal → TypeFor → List Frame → Move
int_word_moves s x t.OpenBracket for frames = on (an_endpoint for lower) frames
int_word_moves s x kind for frames = behind_type_moves s x kind for type.Int frames

abbrev pub endpoint_number_moves : Setting → Lexeme → Terminal → TypeFor → Side → List Frame → Move
endpoint_number_moves s x t.Number for side frames = numeral (value_of s x) (behind_endpoint for side (neg_ℤ (pos (value_of s x)))) frames
endpoint_number_moves s x _ for side frames = bad

abbrev pub endpoint_moves : Setting → Lexeme → Terminal → TypeFor → Side → List Frame → Move
endpoint_moves s x t.Minus for side frames = on (an_endpoint_number for side) frames
endpoint_moves s x t.Number for side frames = numeral (value_of s x) (behind_endpoint for side (pos (value_of s x))) frames
endpoint_moves s x _ for side frames = bad

abbrev pub behind_endpoint_moves : Terminal → TypeFor → Side → ℤ → List Frame → Move
behind_endpoint_moves t.Comma for lower value frames = on (an_endpoint for (upper value)) frames
behind_endpoint_moves t.CloseBracket for (upper least) value frames = on (behind_type for (type.Range least value)) frames
behind_endpoint_moves _ for side value frames = bad

-- what the token x, of this terminal, does in a state
unfoldable pub moves : Setting → Lexeme → Terminal → Want → List Frame → Move
moves s x kind (a_unary n) frames = unary_moves s x (prefix_of kind) (opening_of kind) n frames
moves s x kind (a_minus n) frames = minus_moves s x (opening_of kind) n frames
moves s x kind (a_parenthesis n) frames = parenthesis_moves kind n frames
moves s x kind (behind_name name n) frames = behind_name_moves kind x.at name n frames
moves s x kind (an_argument name n) frames = argument_moves s x kind name n frames
moves s x kind (a_pair max at n) frames = pair_moves kind max at n frames
moves s x kind (a_binder at all n) frames = binder_moves kind at all n frames
moves s x kind (a_type for) frames = type_moves kind for frames
moves s x kind (behind_int_word for) frames = int_word_moves s x kind for frames
moves s x kind (an_endpoint for side) frames = endpoint_moves s x kind for side frames
moves s x kind (an_endpoint_number for side) frames = endpoint_number_moves s x kind for side frames
moves s x kind (behind_endpoint for side value) frames = behind_endpoint_moves kind for side value frames
moves s x kind (a_bound at all several sort n names) frames = bound_moves s x kind at all several sort n names frames
moves s x kind (bound_more at all several sort n names) frames = bound_more_moves kind at all several sort n names frames
moves s x kind (a_part_bracket at n) frames = part_bracket_moves kind at n frames
moves s x kind (a_part_name at n) frames = part_name_moves s x kind at n frames
moves s x kind (a_part_close at name n) frames = part_close_moves kind at name n frames
moves s x kind (gives f) frames = follows x.at kind f frames
moves s x kind (a_block blocks) frames = block_moves (heading_of kind) x.at blocks
moves s x kind (a_brace heading at blocks) frames = brace_moves kind heading at blocks
moves s x kind (a_line universal at names blocks) frames = line_moves kind universal at names blocks
moves s x kind (a_name names_for names) frames = name_moves s x kind names_for names
moves s x kind (names_more names_for names) frames = names_more_moves kind x.at names_for names
moves s x kind (an_item_line i) frames = item_line_moves s x kind i.typed i
moves s x kind (an_item i) frames = item_moves s x kind i
moves s x kind (behind_item i name) frames = behind_item_moves kind i name
moves s x kind (a_first_parameter i name) frames = first_parameter_moves kind i name
moves s x kind (a_parameter i name n) frames = parameter_moves kind i name n
moves s x kind (behind_int i name n) frames = behind_int_moves kind i name n
moves s x kind (parameters_more i name n) frames = parameters_more_moves kind i name n
moves s x kind (items_more i) frames = items_more_moves kind i

-- the limits, asked of a move at this offset
abbrev pub limited : (ℕ → Bool) → (ℕ → Bool) → ℕ → Move → Result (Want × List Frame) ReadRefusal
limited small shallow at bad = Err (refusal.Syntax at)
limited small shallow at (on want frames) = Ok (want, frames)
limited small shallow at (numeral value want frames) = if small value then Ok (want, frames) else Err (refusal.Literal at)
limited small shallow at (level n want frames) = if shallow n then Ok (want, frames) else Err (refusal.Deep at)

abbrev pub goes_on : (Want → List Frame → Result File ReadRefusal) → Result (Want × List Frame) ReadRefusal → Result File ReadRefusal
goes_on more (Ok state) = more state.0 state.1
goes_on more (Err e) = Err e

-- the tokens end, at this offset
abbrev pub ends : ℕ → Want → Result File ReadRefusal
ends end (a_block blocks) = if has_problem blocks then Ok (record { blocks = blocks }) else Err (refusal.Syntax end)
ends end _ = Err (refusal.Syntax end)

-- what the tokens are read as, in a state; they end at this offset
unfoldable pub run : Setting → ℕ → List Lexeme → Want → List Frame → Result File ReadRefusal
run s end [] want frames = ends end want
run s end (x ∷ tokens) want frames = goes_on (run s end tokens) (limited (s.small tokens) (s.shallow tokens) x.at (moves s x x.terminal want frames))
