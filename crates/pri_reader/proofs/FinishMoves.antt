-- Every move of the machine leads from a state that can be completed to another one, and only a number is asked for its value,
-- and only a token that opens a level for its depth.
use Rattle.std.proofs.Common.{ℕ, ℤ, suc, ◌≡◌, Bool, true, false, List, [], ◌∷◌, ◌++◌, Option, Some, None, refl, if◌then◌else◌}
use Rattle.pri_tokens.specs.declared.terminals.Terminal.{Terminal}
use Rattle.pri_tokens.specs.declared.terminals.Terminal.TheVariants as t
use Rattle.pri_tokens.specs.declared.terminals.Lexeme.{Lexeme}
use Rattle.pri_reader.specs.declared.tree.Expr.{Expr}
use Rattle.pri_reader.specs.declared.tree.Added.{Added}
use Rattle.pri_reader.specs.declared.tree.Name.{Name}
use Rattle.pri_reader.specs.declared.tree.TypeName.{TypeName}
use Rattle.pri_reader.specs.declared.tree.TypeName.TheVariants as type
use Rattle.pri_reader.specs.declared.tree.Declared.{Declared}
use Rattle.pri_reader.specs.declared.tree.NameSet.{NameSet}
use Rattle.pri_reader.specs.declared.tree.Block.{Block}
use Rattle.pri_reader.specs.declared.tree.Comparison.{Comparison}
use Rattle.pri_reader.specs.declared.classes.Prefix.{Prefix}
use Rattle.pri_reader.specs.declared.classes.Prefix.TheVariants as p
use Rattle.pri_reader.specs.declared.classes.Heading.{Heading}
use Rattle.pri_reader.specs.declared.classes.Heading.TheVariants as h
use Rattle.pri_reader.specs.Classes.{prefix_of, opening_of, heading_of, comparison_of, adding_of}
use Rattle.pri_reader.specs.Grammar.{Right, equivalence, implication, multiplication, Chain, disjunction, conjunction, added, chained, summed, Setting, value_of, has_problem, with_set}
use Rattle.pri_reader.specs.MachineStates.{Frame, right_of, chain_of, rel_of, sum_of, wrap, wrapped, second, parenthesis_of, test_of, branch_of, arguments_of, pair_left, pair_right, problem_of, Want, a_unary, a_minus, a_parenthesis, behind_name, an_argument, a_pair, a_binder, TypeFor, for_line, for_binder, Side, lower, upper, a_type, behind_int_word, an_endpoint, an_endpoint_number, behind_endpoint, behind_type, a_bound, bound_more, a_part_bracket, a_part_name, a_part_close, gives, a_block, a_brace, a_line, a_name, names_more, an_item_line, an_item, behind_item, a_first_parameter, a_parameter, behind_int, parameters_more, items_more, NamesFor, for_constants, for_set, ItemsFor, Move, bad, on, numeral, level, applied, under_rel, under_right, under_member, wants_right}
use Rattle.pri_reader.specs.Machine.{with_item, takes_right, takes_chain, sum_goes_on, rel_goes_on, parenthesis_follows, test_follows, branch_follows, arguments_follow, left_follows, pair_follows, problem_follows, parenthesis_moves, minus_moves, unary_moves, behind_name_moves, argument_moves, pair_moves, binder_moves, type_moves, behind_type_moves, int_word_moves, endpoint_moves, endpoint_number_moves, behind_endpoint_moves, bound_moves, bound_more_moves, part_bracket_moves, part_name_moves, part_close_moves, follows, moves, block_moves, brace_moves, line_moves, name_moves, sets_end, names_more_moves, item_moves, item_line_moves, items_more_moves, behind_item_moves, parameter_moves, first_parameter_moves, parameters_more_moves, behind_int_moves}
use Rattle.pri_reader.specs.First.{opens_level, LeadsTo, leads_on, leads_numeral, leads_level, ReachesFrames, reaches_first, reaches_next, Completes}
use Rattle.pri_reader.proofs.Finish.{IsInProblem, IsTypeWhole, IsWhole, completes}

abbrev pub is_number : Terminal → Bool
is_number t.Number = true
is_number _ = false

-- what a token of this terminal and value may do
abbrev pub Keeps : Terminal → ℕ → Move → Type 0
Keeps k value bad = Unit {0}
Keeps k value (on want frames) = (is_number k ≡ false) × IsWhole want frames
Keeps k value (numeral n want frames) = (k ≡ t.Number) × (n ≡ value) × IsWhole want frames
Keeps k value (level n want frames) = (opens_level k ≡ true) × IsWhole want frames

keeps_if : (k : Terminal) (value : ℕ) (b : Bool) (m other : Move) → (b ≡ true → Keeps k value m) → Keeps k value other → Keeps k value (if b then m else other)
keeps_if k value true m other u v = u refl
keeps_if k value false m other u v = v

-- Which terminals are no number, and which open a level.

sign_right : (r : Right) (k : Terminal) → takes_right r k ≡ true → opens_level k ≡ true
sign_right equivalence t.Iff e = refl
sign_right equivalence _ e = absurd cc
sign_right implication t.Implies e = refl
sign_right implication _ e = absurd cc
sign_right multiplication t.Star e = refl
sign_right multiplication _ e = absurd cc

sign_chain : (c : Chain) (k : Terminal) → takes_chain c k ≡ true → is_number k ≡ false
sign_chain disjunction t.Number e = absurd cc
sign_chain disjunction _ e = refl
sign_chain conjunction t.Number e = absurd cc
sign_chain conjunction _ e = refl

sign_comparison : (k : Terminal) (c : Comparison) → comparison_of k ≡ Some c → is_number k ≡ false
sign_comparison t.Number c e = absurd cc
sign_comparison _ c e = refl

sign_adding : (k : Terminal) (b : Bool) → adding_of k ≡ Some b → is_number k ≡ false
sign_adding t.Number b e = absurd cc
sign_adding _ b e = refl

word_prefix : (k : Terminal) (q : Prefix) → prefix_of k ≡ Some q → is_number k ≡ false
word_prefix t.Number q e = absurd cc
word_prefix _ q e = refl

not_opens : (k : Terminal) → prefix_of k ≡ Some p.Not → opens_level k ≡ true
not_opens t.Not e = refl
not_opens _ e = absurd cc

part_opens : (k : Terminal) → prefix_of k ≡ Some p.Part → opens_level k ≡ true
part_opens t.Part e = refl
part_opens _ e = absurd cc

word_heading : (k : Terminal) (g : Heading) → heading_of k ≡ Some g → is_number k ≡ false
word_heading t.Number g e = absurd cc
word_heading _ g e = refl

-- After an expression.

right_whole : (r : Right) (n : ℕ) (frames : List Frame) → IsInProblem frames → IsWhole (wants_right r n) (under_right r n frames)
right_whole equivalence n frames i = i
right_whole implication n frames i = i
right_whole multiplication n frames i = i

member_whole : (c : Chain) (n : ℕ) (frames : List Frame) → IsInProblem frames → IsInProblem (under_member c n frames)
member_whole disjunction n frames i = i
member_whole conjunction n frames i = i

rel_keeps : (k : Terminal) (value n : ℕ) (f : Expr) (frames : List Frame) (other : Move) (o : Option Comparison) → comparison_of k ≡ o → IsInProblem frames → Keeps k value other
    → Keeps k value (rel_goes_on o n f frames other)
rel_keeps k value n f frames other None e i u = u
rel_keeps k value n f frames other (Some c) e i u = (sign_comparison k c e, i)

sum_keeps : (k : Terminal) (value n : ℕ) (before : List Added) (frames : List Frame) (other : Move) (o : Option Bool) → adding_of k ≡ o → IsInProblem frames → Keeps k value other
    → Keeps k value (sum_goes_on o n before frames other)
sum_keeps k value n before frames other None e i u = u
sum_keeps k value n before frames other (Some b) e i u = (sign_adding k b e, i)

parenthesis_keeps : (k : Terminal) (value : ℕ) (f : Expr) (frames : List Frame) → IsInProblem frames → Keeps k value (parenthesis_follows k f frames)
parenthesis_keeps t.CloseParenthesis value f frames i = (refl, i)
parenthesis_keeps _ value f frames i = tt

test_keeps : (k : Terminal) (value at n : ℕ) (f : Expr) (frames : List Frame) → IsInProblem frames → Keeps k value (test_follows k at n f frames)
test_keeps t.Then value at n f frames i = (refl, i)
test_keeps _ value at n f frames i = tt

branch_keeps : (k : Terminal) (value at n : ℕ) (c f : Expr) (frames : List Frame) → IsInProblem frames → Keeps k value (branch_follows k at n c f frames)
branch_keeps t.Else value at n c f frames i = (refl, i)
branch_keeps _ value at n c f frames i = tt

arguments_keep : (k : Terminal) (value : ℕ) (name : Name) (n : ℕ) (fs : List Expr) (frames : List Frame) → IsInProblem frames
    → Keeps k value (arguments_follow k name n fs frames)
arguments_keep t.Comma value name n fs frames i = (refl, i)
arguments_keep t.CloseParenthesis value name n fs frames i = (refl, i)
arguments_keep _ value name n fs frames i = tt

left_keeps : (k : Terminal) (value : ℕ) (max : Bool) (at n : ℕ) (f : Expr) (frames : List Frame) → IsInProblem frames → Keeps k value (left_follows k max at n f frames)
left_keeps t.Comma value max at n f frames i = (refl, i)
left_keeps _ value max at n f frames i = tt

pair_keeps : (k : Terminal) (value : ℕ) (max : Bool) (at : ℕ) (f g : Expr) (frames : List Frame) → IsInProblem frames → Keeps k value (pair_follows k max at f g frames)
pair_keeps t.CloseParenthesis value max at f g frames i = (refl, i)
pair_keeps _ value max at f g frames i = tt

problem_keeps : (k : Terminal) (value at : ℕ) (blocks : List Block) (f : Expr) → Keeps k value (problem_follows k at blocks f)
problem_keeps t.CloseBrace value at blocks f = (refl, tt)
problem_keeps _ value at blocks f = tt

follows_keep : (at : ℕ) (k : Terminal) (value : ℕ) (f : Expr) (frames : List Frame) → IsInProblem frames → Keeps k value (follows at k f frames)
unfolding follows
follows_keep at k value f [] i = absurd i
follows_keep at k value f (right_of r n ∷ frames) i =
    keeps_if k value (takes_right r k) (level n (wants_right r (suc n)) (under_right r (suc n) (wrap (second r f at) ∷ frames))) (follows at k f frames)
    (λ e. (sign_right r k e, right_whole r (suc n) (wrap (second r f at) ∷ frames) i)) (follows_keep at k value f frames i)
follows_keep at k value f (chain_of c n fs ∷ frames) i =
    keeps_if k value (takes_chain c k) (on (a_unary n) (under_member c n (chain_of c n (fs ++ f ∷ []) ∷ frames))) (follows at k (chained c fs f) frames)
    (λ e. (sign_chain c k e, member_whole c n (chain_of c n (fs ++ f ∷ []) ∷ frames) i)) (follows_keep at k value (chained c fs f) frames i)
follows_keep at k value f (rel_of n ∷ frames) i =
    rel_keeps k value n f frames (follows at k f frames) (comparison_of k) refl i (follows_keep at k value f frames i)
follows_keep at k value f (sum_of n before sign ∷ frames) i =
    sum_keeps k value n (before ++ added sign f ∷ []) frames (follows at k (summed before sign f) frames) (adding_of k) refl i
    (follows_keep at k value (summed before sign f) frames i)
follows_keep at k value f (wrap w ∷ frames) i = follows_keep at k value (wrapped w f) frames i
follows_keep at k value f (parenthesis_of ∷ frames) i = parenthesis_keeps k value f frames i
follows_keep at k value f (test_of start n ∷ frames) i = test_keeps k value start n f frames i
follows_keep at k value f (branch_of start n c ∷ frames) i = branch_keeps k value start n c f frames i
follows_keep at k value f (arguments_of name n fs ∷ frames) i = arguments_keep k value name n (fs ++ f ∷ []) frames i
follows_keep at k value f (pair_left max start n ∷ frames) i = left_keeps k value max start n f frames i
follows_keep at k value f (pair_right max start g ∷ frames) i = pair_keeps k value max start g f frames i
follows_keep at k value f (problem_of start blocks ∷ frames) i = problem_keeps k value start blocks f

-- Where an expression is still to come.

minus_keeps : (s : Setting) (x : Lexeme) (k : Terminal) (n : ℕ) (frames : List Frame) → IsInProblem frames
    → Keeps k (value_of s x) (minus_moves s x (opening_of k) n frames)
minus_keeps s x t.Minus n frames i = (refl, i)
minus_keeps s x t.Number n frames i = (refl, refl, i)
minus_keeps s x t.True n frames i = (refl, i)
minus_keeps s x t.False n frames i = (refl, i)
minus_keeps s x t.Identifier n frames i = (refl, i)
minus_keeps s x t.OpenParenthesis n frames i = (refl, i)
minus_keeps s x t.If n frames i = (refl, i)
minus_keeps s x t.Abs n frames i = (refl, i)
minus_keeps s x t.Min n frames i = (refl, i)
minus_keeps s x t.Max n frames i = (refl, i)
minus_keeps s x _ n frames i = tt

unary_by : (s : Setting) (x : Lexeme) (k : Terminal) (o : Option Prefix) (n : ℕ) (frames : List Frame) → prefix_of k ≡ o → IsInProblem frames
    → Keeps k (value_of s x) (unary_moves s x o (opening_of k) n frames)
unary_by s x k (Some p.Not) n frames e i = (not_opens k e, i)
unary_by s x k (Some (p.Quantifier all)) n frames e i = (word_prefix k (p.Quantifier all) e, i)
unary_by s x k (Some p.Part) n frames e i = (part_opens k e, i)
unary_by s x k None n frames e i = minus_keeps s x k n (under_rel n frames) i

unary_keeps : (s : Setting) (x : Lexeme) (k : Terminal) (n : ℕ) (frames : List Frame) → IsInProblem frames
    → Keeps k (value_of s x) (unary_moves s x (prefix_of k) (opening_of k) n frames)
unary_keeps s x k n frames i = unary_by s x k (prefix_of k) n frames refl i

open_keeps : (k : Terminal) (value n : ℕ) (frames : List Frame) → IsInProblem frames → Keeps k value (parenthesis_moves k n frames)
open_keeps t.OpenParenthesis value n frames i = (refl, i)
open_keeps _ value n frames i = tt

name_keeps : (k : Terminal) (value at : ℕ) (name : Name) (n : ℕ) (frames : List Frame) → IsInProblem frames → Keeps k value (behind_name_moves k at name n frames)
name_keeps t.OpenParenthesis value at name n frames i = (refl, i)
name_keeps k value at name n frames i = follows_keep at k value (applied name []) frames i

argument_keeps : (s : Setting) (x : Lexeme) (k : Terminal) (name : Name) (n : ℕ) (frames : List Frame) → IsInProblem frames
    → Keeps k (value_of s x) (argument_moves s x k name n frames)
argument_keeps s x t.CloseParenthesis name n frames i = (refl, i)
argument_keeps s x k name n frames i = unary_keeps s x k n (under_right equivalence n (arguments_of name n [] ∷ frames)) i

pair_begin_keeps : (k : Terminal) (value : ℕ) (max : Bool) (at n : ℕ) (frames : List Frame) → IsInProblem frames → Keeps k value (pair_moves k max at n frames)
pair_begin_keeps t.OpenParenthesis value max at n frames i = (refl, i)
pair_begin_keeps _ value max at n frames i = tt

names_whole : (for : TypeFor) (sort : TypeName) (frames : List Frame) → IsTypeWhole for frames → IsWhole (behind_type for sort) frames
names_whole (for_line universal at names blocks) sort frames i = tt
names_whole (for_binder at all several n names) sort frames i = i

type_keeps : (k : Terminal) (value : ℕ) (for : TypeFor) (frames : List Frame) → IsTypeWhole for frames → Keeps k value (type_moves k for frames)
type_keeps t.Nat value for frames i = (refl, names_whole for type.Nat frames i)
type_keeps t.Int value for frames i = (refl, i)
type_keeps _ value for frames i = tt

binder_keeps : (k : Terminal) (value at : ℕ) (all : Bool) (n : ℕ) (frames : List Frame) → IsInProblem frames → Keeps k value (binder_moves k at all n frames)
binder_keeps t.OpenParenthesis value at all n frames i = (refl, i)
binder_keeps k value at all n frames i = type_keeps k value (for_binder at all false n []) frames i

bound_keeps : (s : Setting) (x : Lexeme) (k : Terminal) (value at : ℕ) (all several : Bool) (sort : TypeName) (n : ℕ) (names : List Declared) (frames : List Frame) → IsInProblem frames
    → Keeps k value (bound_moves s x k at all several sort n names frames)
bound_keeps s x t.Identifier value at all several sort n names frames i = (refl, i)
bound_keeps s x _ value at all several sort n names frames i = tt

bound_more_keeps : (k : Terminal) (value at : ℕ) (all several : Bool) (sort : TypeName) (n : ℕ) (names : List Declared) (frames : List Frame) → IsInProblem frames
    → Keeps k value (bound_more_moves k at all several sort n names frames)
bound_more_keeps t.Comma value at all several sort n names frames i = (refl, i)
bound_more_keeps t.Semicolon value at all false sort n names frames i = (refl, i)
bound_more_keeps t.Semicolon value at all true sort n names frames i = (refl, i)
bound_more_keeps t.CloseParenthesis value at all true sort n names frames i = (refl, i)
bound_more_keeps _ value at all several sort n names frames i = tt

part_bracket_keeps : (k : Terminal) (value at n : ℕ) (frames : List Frame) → IsInProblem frames → Keeps k value (part_bracket_moves k at n frames)
part_bracket_keeps t.OpenBracket value at n frames i = (refl, i)
part_bracket_keeps _ value at n frames i = tt

part_name_keeps : (s : Setting) (x : Lexeme) (k : Terminal) (value at n : ℕ) (frames : List Frame) → IsInProblem frames → Keeps k value (part_name_moves s x k at n frames)
part_name_keeps s x t.Identifier value at n frames i = (refl, i)
part_name_keeps s x _ value at n frames i = tt

part_close_keeps : (k : Terminal) (value at : ℕ) (name : Name) (n : ℕ) (frames : List Frame) → IsInProblem frames → Keeps k value (part_close_moves k at name n frames)
part_close_keeps t.CloseBracket value at name n frames i = (refl, i)
part_close_keeps _ value at name n frames i = tt

-- The blocks.

block_keeps : (k : Terminal) (value at : ℕ) (blocks : List Block) (o : Option Heading) → heading_of k ≡ o → Keeps k value (block_moves o at blocks)
block_keeps k value at blocks None e = tt
block_keeps k value at blocks (Some h.Problem) e =
    keeps_if k value (has_problem blocks) bad (on (a_brace h.Problem at blocks) []) (λ u. tt) (word_heading k h.Problem e, tt)
block_keeps k value at blocks (Some (h.Constants universal)) e = (word_heading k (h.Constants universal) e, tt)
block_keeps k value at blocks (Some (h.Items typed)) e = (word_heading k (h.Items typed) e, tt)
block_keeps k value at blocks (Some h.Interpolant) e = (word_heading k h.Interpolant e, tt)

brace_keeps : (k : Terminal) (value : ℕ) (heading : Heading) (at : ℕ) (blocks : List Block) → Keeps k value (brace_moves k heading at blocks)
brace_keeps t.OpenBrace value (h.Constants universal) at blocks = (refl, tt)
brace_keeps t.OpenBrace value (h.Items typed) at blocks = (refl, tt)
brace_keeps t.OpenBrace value h.Problem at blocks = (refl, tt)
brace_keeps t.OpenBrace value h.Interpolant at blocks = (refl, tt)
brace_keeps _ value heading at blocks = tt

line_keeps : (k : Terminal) (value : ℕ) (universal : Bool) (at : ℕ) (names : List Declared) (blocks : List Block) → Keeps k value (line_moves k universal at names blocks)
line_keeps t.CloseBrace value universal at names blocks = (refl, tt)
line_keeps k value universal at names blocks = type_keeps k value (for_line universal at names blocks) [] tt

a_name_keeps : (s : Setting) (x : Lexeme) (k : Terminal) (value : ℕ) (names_for : NamesFor) (names : List Name) → Keeps k value (name_moves s x k names_for names)
a_name_keeps s x t.Identifier value names_for names = (refl, tt)
a_name_keeps s x _ value names_for names = tt

sets_keep : (value at : ℕ) (sets all : List NameSet) (blocks : List Block) → Keeps t.CloseBrace value (sets_end at sets all blocks)
sets_keep value at [] all blocks = tt
sets_keep value at (first ∷ sets) all blocks = (refl, tt)

names_more_keeps : (k : Terminal) (value here : ℕ) (names_for : NamesFor) (names : List Name) → Keeps k value (names_more_moves k here names_for names)
names_more_keeps t.Comma value here names_for names = (refl, tt)
names_more_keeps t.Semicolon value here (for_constants sort universal at old blocks) names = (refl, tt)
names_more_keeps t.Semicolon value here (for_set at sets start blocks) names = (refl, tt)
names_more_keeps t.CloseBrace value here (for_set at sets start blocks) names = sets_keep value at sets (with_set sets start names) blocks
names_more_keeps _ value here names_for names = tt

-- Types.

behind_type_keeps : (s : Setting) (x : Lexeme) (k : Terminal) (value : ℕ) (for : TypeFor) (sort : TypeName) (frames : List Frame) → IsTypeWhole for frames
    → Keeps k value (behind_type_moves s x k for sort frames)
behind_type_keeps s x k value (for_line universal at names blocks) sort frames i = a_name_keeps s x k value (for_constants sort universal at names blocks) []
behind_type_keeps s x k value (for_binder at all several n names) sort frames i = bound_keeps s x k value at all several sort n names frames i

int_word_keeps : (s : Setting) (x : Lexeme) (k : Terminal) (value : ℕ) (for : TypeFor) (frames : List Frame) → IsTypeWhole for frames → Keeps k value (int_word_moves s x k for frames)
int_word_keeps s x t.OpenBracket value for frames i = (refl, i)
int_word_keeps s x k value for frames i = behind_type_keeps s x k value for type.Int frames i

endpoint_keeps : (s : Setting) (x : Lexeme) (k : Terminal) (for : TypeFor) (side : Side) (frames : List Frame) → IsTypeWhole for frames
    → Keeps k (value_of s x) (endpoint_moves s x k for side frames)
endpoint_keeps s x t.Minus for side frames i = (refl, i)
endpoint_keeps s x t.Number for side frames i = (refl, refl, i)
endpoint_keeps s x _ for side frames i = tt

endpoint_number_keeps : (s : Setting) (x : Lexeme) (k : Terminal) (for : TypeFor) (side : Side) (frames : List Frame) → IsTypeWhole for frames
    → Keeps k (value_of s x) (endpoint_number_moves s x k for side frames)
endpoint_number_keeps s x t.Number for side frames i = (refl, refl, i)
endpoint_number_keeps s x _ for side frames i = tt

behind_endpoint_keeps : (k : Terminal) (value : ℕ) (for : TypeFor) (side : Side) (found : ℤ) (frames : List Frame) → IsTypeWhole for frames
    → Keeps k value (behind_endpoint_moves k for side found frames)
behind_endpoint_keeps t.Comma value for lower found frames i = (refl, i)
behind_endpoint_keeps t.CloseBracket value for (upper least) found frames i = (refl, names_whole for (type.Range least found) frames i)
behind_endpoint_keeps _ value for side found frames i = tt

-- Items.

item_keeps : (s : Setting) (x : Lexeme) (k : Terminal) (value : ℕ) (i : ItemsFor) → Keeps k value (item_moves s x k i)
item_keeps s x t.Identifier value i = (refl, tt)
item_keeps s x _ value i = tt

item_line_keeps : (s : Setting) (x : Lexeme) (k : Terminal) (value : ℕ) (typed : Bool) (i : ItemsFor) → Keeps k value (item_line_moves s x k typed i)
item_line_keeps s x t.CloseBrace value typed i = (refl, tt)
item_line_keeps s x t.Int value true i = (refl, tt)
item_line_keeps s x _ value true i = tt
item_line_keeps s x t.Identifier value false i = (refl, tt)
item_line_keeps s x _ value false i = tt

items_more_keep : (k : Terminal) (value : ℕ) (i : ItemsFor) → Keeps k value (items_more_moves k i)
items_more_keep t.Comma value i = (refl, tt)
items_more_keep t.Semicolon value i = (refl, tt)
items_more_keep _ value i = tt

behind_item_keeps : (k : Terminal) (value : ℕ) (i : ItemsFor) (name : Name) → Keeps k value (behind_item_moves k i name)
behind_item_keeps t.OpenParenthesis value i name = (refl, tt)
behind_item_keeps k value i name = items_more_keep k value (with_item i name 0)

parameter_keeps : (k : Terminal) (value : ℕ) (i : ItemsFor) (name : Name) (n : ℕ) → Keeps k value (parameter_moves k i name n)
parameter_keeps t.Int value i name n = (refl, tt)
parameter_keeps _ value i name n = tt

first_parameter_keeps : (k : Terminal) (value : ℕ) (i : ItemsFor) (name : Name) → Keeps k value (first_parameter_moves k i name)
first_parameter_keeps t.CloseParenthesis value i name = (refl, tt)
first_parameter_keeps k value i name = parameter_keeps k value i name 0

parameters_more_keep : (k : Terminal) (value : ℕ) (i : ItemsFor) (name : Name) (n : ℕ) → Keeps k value (parameters_more_moves k i name n)
parameters_more_keep t.Comma value i name n = (refl, tt)
parameters_more_keep t.CloseParenthesis value i name n = (refl, tt)
parameters_more_keep _ value i name n = tt

behind_int_keeps : (k : Terminal) (value : ℕ) (i : ItemsFor) (name : Name) (n : ℕ) → Keeps k value (behind_int_moves k i name n)
behind_int_keeps t.Identifier value i name n = (refl, tt)
behind_int_keeps k value i name n = parameters_more_keep k value i name n

-- Every state.

pub moves_keep : (s : Setting) (x : Lexeme) (k : Terminal) (want : Want) (frames : List Frame) → IsWhole want frames → Keeps k (value_of s x) (moves s x k want frames)
unfolding moves
moves_keep s x k (a_unary n) frames i = unary_keeps s x k n frames i
moves_keep s x k (a_minus n) frames i = minus_keeps s x k n frames i
moves_keep s x k (a_parenthesis n) frames i = open_keeps k (value_of s x) n frames i
moves_keep s x k (behind_name name n) frames i = name_keeps k (value_of s x) x.at name n frames i
moves_keep s x k (an_argument name n) frames i = argument_keeps s x k name n frames i
moves_keep s x k (a_pair max at n) frames i = pair_begin_keeps k (value_of s x) max at n frames i
moves_keep s x k (a_binder at all n) frames i = binder_keeps k (value_of s x) at all n frames i
moves_keep s x k (a_type for) frames i = type_keeps k (value_of s x) for frames i
moves_keep s x k (behind_int_word for) frames i = int_word_keeps s x k (value_of s x) for frames i
moves_keep s x k (an_endpoint for side) frames i = endpoint_keeps s x k for side frames i
moves_keep s x k (an_endpoint_number for side) frames i = endpoint_number_keeps s x k for side frames i
moves_keep s x k (behind_endpoint for side value) frames i = behind_endpoint_keeps k (value_of s x) for side value frames i
moves_keep s x k (a_bound at all several sort n names) frames i = bound_keeps s x k (value_of s x) at all several sort n names frames i
moves_keep s x k (bound_more at all several sort n names) frames i = bound_more_keeps k (value_of s x) at all several sort n names frames i
moves_keep s x k (a_part_bracket at n) frames i = part_bracket_keeps k (value_of s x) at n frames i
moves_keep s x k (a_part_name at n) frames i = part_name_keeps s x k (value_of s x) at n frames i
moves_keep s x k (a_part_close at name n) frames i = part_close_keeps k (value_of s x) at name n frames i
moves_keep s x k (gives f) frames i = follows_keep x.at k (value_of s x) f frames i
moves_keep s x k (a_block blocks) frames i = block_keeps k (value_of s x) x.at blocks (heading_of k) refl
moves_keep s x k (a_brace heading at blocks) frames i = brace_keeps k (value_of s x) heading at blocks
moves_keep s x k (a_line universal at names blocks) frames i = line_keeps k (value_of s x) universal at names blocks
moves_keep s x k (a_name names_for names) frames i = a_name_keeps s x k (value_of s x) names_for names
moves_keep s x k (names_more names_for names) frames i = names_more_keeps k (value_of s x) x.at names_for names
moves_keep s x k (an_item_line i) frames w = item_line_keeps s x k (value_of s x) i.typed i
moves_keep s x k (an_item i) frames w = item_keeps s x k (value_of s x) i
moves_keep s x k (behind_item i name) frames w = behind_item_keeps k (value_of s x) i name
moves_keep s x k (a_first_parameter i name) frames w = first_parameter_keeps k (value_of s x) i name
moves_keep s x k (a_parameter i name n) frames w = parameter_keeps k (value_of s x) i name n
moves_keep s x k (behind_int i name n) frames w = behind_int_keeps k (value_of s x) i name n
moves_keep s x k (parameters_more i name n) frames w = parameters_more_keep k (value_of s x) i name n
moves_keep s x k (items_more i) frames w = items_more_keep k (value_of s x) i

-- where a move that keeps so much leads
led_whole : (k : Terminal) (value : ℕ) (want : Want) (frames : List Frame) (m : Move) → LeadsTo want frames m → Keeps k value m → IsWhole want frames
led_whole k value want frames _ leads_on u = u.1
led_whole k value want frames _ leads_numeral u = u.2
led_whole k value want frames _ leads_level u = u.1

-- each state that the machine comes to is whole
pub reaches_whole : {s : Setting} {want : Want} {frames : List Frame} → ReachesFrames s want frames → IsWhole want frames
reaches_whole reaches_first = tt
reaches_whole {s = s} {want = want} {frames = frames} (reaches_next {old = old} {before = before} r x l) =
    led_whole x.terminal (value_of s x) want frames (moves s x x.terminal old before) l (moves_keep s x x.terminal old before (reaches_whole r))

pub completion : (s : Setting) (want : Want) (frames : List Frame) → ReachesFrames s want frames → Completes s want frames
completion s want frames r = completes s want frames (reaches_whole r)
