-- Each state that the machine reaches can be completed: the shortest spelling of what it owes makes a file.
use Rattle.std.proofs.Common.{ℕ, ℤ, suc, ◌≡◌, ◌≤◌, ◌||◌, pos, neg_ℤ, Bool, true, false, List, [], ◌∷◌, ◌++◌, Some, None, Ok, Err, refl, ap, ◌∙◌, arith, if◌then◌else◌}
use Rattle.std.proofs.lemmas.List.Folds.{list_any-append}
use Rattle.pri_tokens.specs.declared.terminals.Terminal.{Terminal}
use Rattle.pri_tokens.specs.declared.terminals.Terminal.TheVariants as t
use Rattle.pri_tokens.specs.declared.terminals.Lexeme.{Lexeme}
use Rattle.pri_reader.specs.declared.tree.Expr.{Expr}
use Rattle.pri_reader.specs.declared.tree.Form.TheVariants as form
use Rattle.pri_reader.specs.declared.tree.Name.{Name}
use Rattle.pri_reader.specs.declared.tree.TypeName.{TypeName}
use Rattle.pri_reader.specs.declared.tree.TypeName.TheVariants as type
use Rattle.pri_reader.specs.declared.tree.Declared.{Declared}
use Rattle.pri_reader.specs.declared.tree.NameSet.{NameSet}
use Rattle.pri_reader.specs.declared.tree.File.{File}
use Rattle.pri_reader.specs.declared.tree.Block.{Block}
use Rattle.pri_reader.specs.declared.tree.Block.TheVariants as block
use Rattle.pri_reader.specs.declared.tree.ReadRefusal.TheVariants as refusal
use Rattle.pri_reader.specs.declared.classes.Heading.{Heading}
use Rattle.pri_reader.specs.declared.classes.Heading.TheVariants as h
use Rattle.pri_reader.specs.Grammar.{Right, equivalence, implication, multiplication, Chain, disjunction, conjunction, expr, chained, summed, paired, Setting, value_of, name_of, of_type, all_of_type, name_set, set_at, constants_block, items_block, is_problem, has_problem, with_set}
use Rattle.pri_reader.specs.MachineStates.{bad, branches, bound_at, part_at, under_right, Frame, right_of, chain_of, rel_of, sum_of, wrap, wrapped, parenthesis_of, test_of, branch_of, arguments_of, pair_left, pair_right, problem_of, Want, a_unary, a_minus, a_parenthesis, behind_name, an_argument, a_pair, a_binder, TypeFor, for_line, for_binder, Side, lower, upper, a_type, behind_int_word, an_endpoint, an_endpoint_number, behind_endpoint, behind_type, a_bound, bound_more, a_part_bracket, a_part_name, a_part_close, gives, a_block, a_brace, a_line, a_name, names_more, an_item_line, an_item, behind_item, a_first_parameter, a_parameter, behind_int, parameters_more, items_more, NamesFor, for_constants, for_set, ItemsFor, on, applied, under_rel}
use Rattle.pri_reader.specs.Machine.{with_item, items_for, block_moves, follows, moves, limited, goes_on, run}
use Rattle.pri_reader.specs.First.{unlimited, Completes}
use Rattle.pri_reader.proofs.Moves.{Stops, stops_less, right_rank, chain_rank, pass_right, pass_chain, pass_rel, pass_sum, pass_wrap, pass_name}

-- a token of this terminal
abbrev token : Terminal → Lexeme
token k = record { at = 0; len = 0; terminal = k }

-- a problem is open below the frames
abbrev pub IsInProblem : List Frame → Type 0
IsInProblem [] = ⊥
IsInProblem (problem_of at blocks ∷ frames) = Unit {0}
IsInProblem (frame ∷ frames) = IsInProblem frames

-- Between the blocks.

pub or_true : (a b : Bool) → b ≡ true → (a || b) ≡ true
or_true true b e = refl
or_true false b e = e

problem_last : (blocks : List Block) (b : Block) → is_problem b ≡ true → has_problem (blocks ++ b ∷ []) ≡ true
problem_last blocks b e = list_any-append is_problem blocks (b ∷ []) ∙ or_true (has_problem blocks) (is_problem b || false) (ap (λ z. z || false) e)

ending : (s : Setting) (blocks : List Block) (frames : List Frame) → has_problem blocks ≡ true → Completes s (a_block blocks) frames
unfolding run
ending s blocks frames e = record {
  more = [];
  file = record { blocks = blocks };
  ends = λ end. ap (λ z. if z then Ok (record { blocks = blocks }) else Err (refusal.Syntax end)) e;
}

-- the number 1
abbrev one : Setting → Expr
one s = expr 0 (form.Number (pos (value_of s (token t.Number))))

abbrev with_problem : Setting → List Block → List Block
with_problem s blocks = blocks ++ block.Problem 0 (one s) ∷ []

problem_first : (blocks : List Block) → has_problem blocks ≡ false → block_moves (Some h.Problem) 0 blocks ≡ on (a_brace h.Problem 0 blocks) []
problem_first blocks e = ap (λ z. if z then bad else on (a_brace h.Problem 0 blocks) []) e

problem_missing : (s : Setting) (blocks : List Block) (frames : List Frame) → has_problem blocks ≡ false → Completes s (a_block blocks) frames
unfolding run moves follows
problem_missing s blocks frames e =
    let c = ending s (with_problem s blocks) [] (problem_last blocks (block.Problem 0 (one s)) refl) in
    let spelling = token t.OpenBrace ∷ token t.Number ∷ token t.CloseBrace ∷ c.more in
    record {
      more = token t.Problem ∷ spelling;
      file = c.file;
      ends = λ end. ap (λ z. goes_on (run (unlimited s) end spelling) (limited (λ n. true) (λ n. true) 0 z)) (problem_first blocks e) ∙ c.ends end;
    }

block_by : (s : Setting) (blocks : List Block) (frames : List Frame) (v : Bool) → has_problem blocks ≡ v → Completes s (a_block blocks) frames
block_by s blocks frames true e = ending s blocks frames e
block_by s blocks frames false e = problem_missing s blocks frames e

a_block_completes : (s : Setting) (blocks : List Block) (frames : List Frame) → Completes s (a_block blocks) frames
a_block_completes s blocks frames = block_by s blocks frames (has_problem blocks) refl

-- After an expression.

-- these tokens, of which the first goes on with no line, complete an expression to a file
record Closes (s : Setting) (f : Expr) (frames : List Frame) : Type 0 where
  more : List Lexeme
  stops : Stops 8 more
  file : File
  ends : (end : ℕ) → run (unlimited s) end more (gives f) frames ≡ Ok file

right_most : (r : Right) → right_rank r ≤ 8
right_most multiplication = omega arith
right_most implication = omega arith
right_most equivalence = omega arith

chain_most : (c : Chain) → chain_rank c ≤ 8
chain_most conjunction = omega arith
chain_most disjunction = omega arith

closes : (s : Setting) (frames : List Frame) (f : Expr) → IsInProblem frames → Closes s f frames
unfolding run moves follows
closes s [] f i = absurd i
closes s (right_of r n ∷ frames) f i =
    let c = closes s frames f i in
    record {
      more = c.more;
      stops = c.stops;
      file = c.file;
      ends = λ end. pass_right (unlimited s) end r n f frames c.more (stops_less 8 (right_rank r) c.more (right_most r) c.stops) ∙ c.ends end;
    }
closes s (chain_of k n fs ∷ frames) f i =
    let c = closes s frames (chained k fs f) i in
    record {
      more = c.more;
      stops = c.stops;
      file = c.file;
      ends = λ end. pass_chain (unlimited s) end k n fs f frames c.more (stops_less 8 (chain_rank k) c.more (chain_most k) c.stops) ∙ c.ends end;
    }
closes s (rel_of n ∷ frames) f i =
    let c = closes s frames f i in
    record {
      more = c.more;
      stops = c.stops;
      file = c.file;
      ends = λ end. pass_rel (unlimited s) end n f frames c.more (stops_less 8 4 c.more (omega arith) c.stops) ∙ c.ends end;
    }
closes s (sum_of n before sign ∷ frames) f i =
    let c = closes s frames (summed before sign f) i in
    record {
      more = c.more;
      stops = c.stops;
      file = c.file;
      ends = λ end. pass_sum (unlimited s) end n before sign f frames c.more (stops_less 8 3 c.more (omega arith) c.stops) ∙ c.ends end;
    }
closes s (wrap w ∷ frames) f i =
    let c = closes s frames (wrapped w f) i in
    record { more = c.more; stops = c.stops; file = c.file; ends = λ end. pass_wrap (unlimited s) end w f frames c.more ∙ c.ends end }
closes s (parenthesis_of ∷ frames) f i =
    let c = closes s frames f i in
    record { more = token t.CloseParenthesis ∷ c.more; stops = omega arith; file = c.file; ends = c.ends }
closes s (test_of at n ∷ frames) f i =
    let c = closes s frames (wrapped (branches at f (one s)) (one s)) i in
    record {
      more = token t.Then ∷ token t.OpenParenthesis ∷ token t.Number ∷ token t.CloseParenthesis ∷ token t.Else ∷ token t.OpenParenthesis ∷ token t.Number
          ∷ token t.CloseParenthesis ∷ c.more;
      stops = omega arith;
      file = c.file;
      ends = λ end. pass_wrap (unlimited s) end (branches at f (one s)) (one s) frames c.more ∙ c.ends end;
    }
closes s (branch_of at n g ∷ frames) f i =
    let c = closes s frames (wrapped (branches at g f) (one s)) i in
    record {
      more = token t.Else ∷ token t.OpenParenthesis ∷ token t.Number ∷ token t.CloseParenthesis ∷ c.more;
      stops = omega arith;
      file = c.file;
      ends = λ end. pass_wrap (unlimited s) end (branches at g f) (one s) frames c.more ∙ c.ends end;
    }
closes s (arguments_of name n fs ∷ frames) f i =
    let c = closes s frames (applied name (fs ++ f ∷ [])) i in
    record { more = token t.CloseParenthesis ∷ c.more; stops = omega arith; file = c.file; ends = c.ends }
closes s (pair_left max at n ∷ frames) f i =
    let c = closes s frames (paired max at f (one s)) i in
    record {
      more = token t.Comma ∷ token t.Number ∷ token t.CloseParenthesis ∷ c.more;
      stops = omega arith;
      file = c.file;
      ends = c.ends;
    }
closes s (pair_right max at g ∷ frames) f i =
    let c = closes s frames (paired max at g f) i in
    record { more = token t.CloseParenthesis ∷ c.more; stops = omega arith; file = c.file; ends = c.ends }
closes s (problem_of at blocks ∷ frames) f i =
    let c = ending s (blocks ++ block.Problem at f ∷ []) [] (problem_last blocks (block.Problem at f) refl) in
    record { more = token t.CloseBrace ∷ c.more; stops = omega arith; file = c.file; ends = c.ends }

-- Where an expression is still to come.

gives_completes : (s : Setting) (f : Expr) (frames : List Frame) → IsInProblem frames → Completes s (gives f) frames
gives_completes s f frames i = let c = closes s frames f i in record { more = c.more; file = c.file; ends = c.ends }

a_minus_completes : (s : Setting) (n : ℕ) (frames : List Frame) → IsInProblem frames → Completes s (a_minus n) frames
unfolding run moves
a_minus_completes s n frames i =
    let c = gives_completes s (one s) frames i in record { more = token t.Number ∷ c.more; file = c.file; ends = c.ends }

a_unary_completes : (s : Setting) (n : ℕ) (frames : List Frame) → IsInProblem frames → Completes s (a_unary n) frames
unfolding run moves
a_unary_completes s n frames i =
    let c = gives_completes s (one s) (under_rel n frames) i in record { more = token t.Number ∷ c.more; file = c.file; ends = c.ends }

a_parenthesis_completes : (s : Setting) (n : ℕ) (frames : List Frame) → IsInProblem frames → Completes s (a_parenthesis n) frames
unfolding run moves follows
a_parenthesis_completes s n frames i =
    let c = gives_completes s (one s) frames i in
    record { more = token t.OpenParenthesis ∷ token t.Number ∷ token t.CloseParenthesis ∷ c.more; file = c.file; ends = c.ends }

behind_name_completes : (s : Setting) (name : Name) (n : ℕ) (frames : List Frame) → IsInProblem frames → Completes s (behind_name name n) frames
behind_name_completes s name n frames i =
    let c = closes s frames (applied name []) i in
    record {
      more = c.more;
      file = c.file;
      ends = λ end. pass_name (unlimited s) end name n frames c.more (stops_less 8 1 c.more (omega arith) c.stops) ∙ c.ends end;
    }

an_argument_completes : (s : Setting) (name : Name) (n : ℕ) (frames : List Frame) → IsInProblem frames → Completes s (an_argument name n) frames
unfolding run moves
an_argument_completes s name n frames i =
    let c = gives_completes s (applied name []) frames i in record { more = token t.CloseParenthesis ∷ c.more; file = c.file; ends = c.ends }

a_pair_completes : (s : Setting) (max : Bool) (at n : ℕ) (frames : List Frame) → IsInProblem frames → Completes s (a_pair max at n) frames
unfolding run moves follows
a_pair_completes s max at n frames i =
    let c = gives_completes s (paired max at (one s) (one s)) frames i in
    record {
      more = token t.OpenParenthesis ∷ token t.Number ∷ token t.Comma ∷ token t.Number ∷ token t.CloseParenthesis ∷ c.more;
      file = c.file;
      ends = c.ends;
    }

bound_more_completes : (s : Setting) (at : ℕ) (all several : Bool) (sort : TypeName) (n : ℕ) (names : List Declared) (frames : List Frame) → IsInProblem frames
    → Completes s (bound_more at all several sort n names) frames
unfolding run moves
bound_more_completes s at all true sort n names frames i =
    let c = a_unary_completes s n (wrap (bound_at at all names) ∷ frames) i in record { more = token t.CloseParenthesis ∷ c.more; file = c.file; ends = c.ends }
bound_more_completes s at all false sort n names frames i =
    let c = a_unary_completes s n (wrap (bound_at at all names) ∷ frames) i in record { more = token t.Semicolon ∷ c.more; file = c.file; ends = c.ends }

-- the name of a token that completes
abbrev some_name : Setting → Name
some_name s = name_of s (token t.Identifier)

a_bound_completes : (s : Setting) (at : ℕ) (all several : Bool) (sort : TypeName) (n : ℕ) (names : List Declared) (frames : List Frame) → IsInProblem frames
    → Completes s (a_bound at all several sort n names) frames
unfolding run moves
a_bound_completes s at all several sort n names frames i =
    let c = bound_more_completes s at all several sort (suc n) (names ++ of_type sort (some_name s) ∷ []) frames i in
    record { more = token t.Identifier ∷ c.more; file = c.file; ends = c.ends }

a_binder_completes : (s : Setting) (at : ℕ) (all : Bool) (n : ℕ) (frames : List Frame) → IsInProblem frames → Completes s (a_binder at all n) frames
unfolding run moves
a_binder_completes s at all n frames i =
    let c = a_bound_completes s at all false type.Nat n [] frames i in record { more = token t.Nat ∷ c.more; file = c.file; ends = c.ends }

a_part_close_completes : (s : Setting) (at : ℕ) (name : Name) (n : ℕ) (frames : List Frame) → IsInProblem frames → Completes s (a_part_close at name n) frames
unfolding run moves
a_part_close_completes s at name n frames i =
    let c = a_unary_completes s n (wrap (part_at at name) ∷ frames) i in record { more = token t.CloseBracket ∷ c.more; file = c.file; ends = c.ends }

a_part_name_completes : (s : Setting) (at n : ℕ) (frames : List Frame) → IsInProblem frames → Completes s (a_part_name at n) frames
unfolding run moves
a_part_name_completes s at n frames i =
    let c = a_part_close_completes s at (some_name s) n frames i in record { more = token t.Identifier ∷ c.more; file = c.file; ends = c.ends }

a_part_bracket_completes : (s : Setting) (at n : ℕ) (frames : List Frame) → IsInProblem frames → Completes s (a_part_bracket at n) frames
unfolding run moves
a_part_bracket_completes s at n frames i =
    let c = a_part_name_completes s at n frames i in record { more = token t.OpenBracket ∷ c.more; file = c.file; ends = c.ends }

-- In the other blocks.

a_line_completes : (s : Setting) (universal : Bool) (at : ℕ) (names : List Declared) (blocks : List Block) (frames : List Frame)
    → Completes s (a_line universal at names blocks) frames
unfolding run moves
a_line_completes s universal at names blocks frames =
    let c = a_block_completes s (blocks ++ constants_block universal at names ∷ []) [] in
    record { more = token t.CloseBrace ∷ c.more; file = c.file; ends = c.ends }

-- the second set of a block of at least two
last_set : (s : Setting) (at : ℕ) (sets : List NameSet) (one : NameSet) (here : ℕ) (blocks : List Block) (frames : List Frame)
    → Completes s (a_name (for_set at (sets ++ one ∷ []) (Some here) blocks) []) frames
unfolding run moves
last_set s at [] one here blocks frames =
    let c = a_block_completes s (blocks ++ block.Interpolant at (with_set (one ∷ []) (Some here) (some_name s ∷ [])) ∷ []) [] in
    record { more = token t.Identifier ∷ token t.CloseBrace ∷ c.more; file = c.file; ends = c.ends }
last_set s at (first ∷ sets) one here blocks frames =
    let c = a_block_completes s (blocks ++ block.Interpolant at (with_set ((first ∷ sets) ++ one ∷ []) (Some here) (some_name s ∷ [])) ∷ []) [] in
    record { more = token t.Identifier ∷ token t.CloseBrace ∷ c.more; file = c.file; ends = c.ends }

names_more_completes : (s : Setting) (names_for : NamesFor) (names : List Name) (frames : List Frame) → Completes s (names_more names_for names) frames
unfolding run moves
names_more_completes s (for_constants sort universal at names blocks) more frames =
    let c = a_line_completes s universal at (names ++ all_of_type sort more) blocks [] in record { more = token t.Semicolon ∷ c.more; file = c.file; ends = c.ends }
names_more_completes s (for_set at sets start blocks) names frames =
    let c = last_set s at sets (name_set (set_at start names) names) 0 blocks [] in
    record { more = token t.Semicolon ∷ c.more; file = c.file; ends = c.ends }

a_name_completes : (s : Setting) (names_for : NamesFor) (names : List Name) (frames : List Frame) → Completes s (a_name names_for names) frames
unfolding run moves
a_name_completes s names_for names frames =
    let c = names_more_completes s names_for (names ++ some_name s ∷ []) [] in record { more = token t.Identifier ∷ c.more; file = c.file; ends = c.ends }

-- In a type.

-- a type of a binder is in a problem
abbrev pub IsTypeWhole : TypeFor → List Frame → Type 0
IsTypeWhole (for_line universal at names blocks) frames = Unit {0}
IsTypeWhole (for_binder at all several n names) frames = IsInProblem frames

behind_type_completes : (s : Setting) (for : TypeFor) (sort : TypeName) (frames : List Frame) → IsTypeWhole for frames → Completes s (behind_type for sort) frames
behind_type_completes s (for_line universal at names blocks) sort frames i = a_name_completes s (for_constants sort universal at names blocks) [] frames
behind_type_completes s (for_binder at all several n names) sort frames i = a_bound_completes s at all several sort n names frames i

a_type_completes : (s : Setting) (for : TypeFor) (frames : List Frame) → IsTypeWhole for frames → Completes s (a_type for) frames
unfolding run moves
a_type_completes s for frames i =
    let c = behind_type_completes s for type.Nat frames i in record { more = token t.Nat ∷ c.more; file = c.file; ends = c.ends }

-- the value of the number that completes
abbrev some_value : Setting → ℤ
some_value s = pos (value_of s (token t.Number))

behind_endpoint_completes : (s : Setting) (for : TypeFor) (side : Side) (value : ℤ) (frames : List Frame) → IsTypeWhole for frames → Completes s (behind_endpoint for side value) frames
unfolding run moves
behind_endpoint_completes s for (upper least) value frames i =
    let c = behind_type_completes s for (type.Range least value) frames i in record { more = token t.CloseBracket ∷ c.more; file = c.file; ends = c.ends }
behind_endpoint_completes s for lower value frames i =
    let c = behind_type_completes s for (type.Range value (some_value s)) frames i in
    record { more = token t.Comma ∷ token t.Number ∷ token t.CloseBracket ∷ c.more; file = c.file; ends = c.ends }

an_endpoint_completes : (s : Setting) (for : TypeFor) (side : Side) (frames : List Frame) → IsTypeWhole for frames → Completes s (an_endpoint for side) frames
unfolding run moves
an_endpoint_completes s for side frames i =
    let c = behind_endpoint_completes s for side (some_value s) frames i in record { more = token t.Number ∷ c.more; file = c.file; ends = c.ends }

an_endpoint_number_completes : (s : Setting) (for : TypeFor) (side : Side) (frames : List Frame) → IsTypeWhole for frames → Completes s (an_endpoint_number for side) frames
unfolding run moves
an_endpoint_number_completes s for side frames i =
    let c = behind_endpoint_completes s for side (neg_ℤ (some_value s)) frames i in record { more = token t.Number ∷ c.more; file = c.file; ends = c.ends }

behind_int_word_completes : (s : Setting) (for : TypeFor) (frames : List Frame) → IsTypeWhole for frames → Completes s (behind_int_word for) frames
unfolding run moves
behind_int_word_completes s for frames i =
    let c = an_endpoint_completes s for lower frames i in record { more = token t.OpenBracket ∷ c.more; file = c.file; ends = c.ends }

-- In the blocks of items.

an_item_line_completes : (s : Setting) (i : ItemsFor) (frames : List Frame) → Completes s (an_item_line i) frames
unfolding run moves
an_item_line_completes s i frames =
    let c = a_block_completes s (i.blocks ++ items_block i.typed i.at i.items ∷ []) [] in
    record { more = token t.CloseBrace ∷ c.more; file = c.file; ends = c.ends }

items_more_completes : (s : Setting) (i : ItemsFor) (frames : List Frame) → Completes s (items_more i) frames
unfolding run moves
items_more_completes s i frames =
    let c = an_item_line_completes s i [] in record { more = token t.Semicolon ∷ c.more; file = c.file; ends = c.ends }

behind_item_completes : (s : Setting) (i : ItemsFor) (name : Name) (frames : List Frame) → Completes s (behind_item i name) frames
unfolding run moves
behind_item_completes s i name frames =
    let c = an_item_line_completes s (with_item i name 0) [] in record { more = token t.Semicolon ∷ c.more; file = c.file; ends = c.ends }

an_item_completes : (s : Setting) (i : ItemsFor) (frames : List Frame) → Completes s (an_item i) frames
unfolding run moves
an_item_completes s i frames =
    let c = behind_item_completes s i (some_name s) [] in record { more = token t.Identifier ∷ c.more; file = c.file; ends = c.ends }

a_first_parameter_completes : (s : Setting) (i : ItemsFor) (name : Name) (frames : List Frame) → Completes s (a_first_parameter i name) frames
unfolding run moves
a_first_parameter_completes s i name frames =
    let c = items_more_completes s (with_item i name 0) [] in record { more = token t.CloseParenthesis ∷ c.more; file = c.file; ends = c.ends }

parameters_more_completes : (s : Setting) (i : ItemsFor) (name : Name) (n : ℕ) (frames : List Frame) → Completes s (parameters_more i name n) frames
unfolding run moves
parameters_more_completes s i name n frames =
    let c = items_more_completes s (with_item i name n) [] in record { more = token t.CloseParenthesis ∷ c.more; file = c.file; ends = c.ends }

behind_int_completes : (s : Setting) (i : ItemsFor) (name : Name) (n : ℕ) (frames : List Frame) → Completes s (behind_int i name n) frames
unfolding run moves
behind_int_completes s i name n frames =
    let c = items_more_completes s (with_item i name n) [] in record { more = token t.CloseParenthesis ∷ c.more; file = c.file; ends = c.ends }

a_parameter_completes : (s : Setting) (i : ItemsFor) (name : Name) (n : ℕ) (frames : List Frame) → Completes s (a_parameter i name n) frames
unfolding run moves
a_parameter_completes s i name n frames =
    let c = behind_int_completes s i name (suc n) [] in record { more = token t.Int ∷ c.more; file = c.file; ends = c.ends }

a_brace_completes : (s : Setting) (heading : Heading) (at : ℕ) (blocks : List Block) (frames : List Frame) → Completes s (a_brace heading at blocks) frames
unfolding run moves
a_brace_completes s (h.Constants universal) at blocks frames =
    let c = a_line_completes s universal at [] blocks [] in record { more = token t.OpenBrace ∷ c.more; file = c.file; ends = c.ends }
a_brace_completes s (h.Items typed) at blocks frames =
    let c = an_item_line_completes s (items_for typed at [] blocks) [] in record { more = token t.OpenBrace ∷ c.more; file = c.file; ends = c.ends }
a_brace_completes s h.Problem at blocks frames =
    let c = a_unary_completes s 0 (under_right equivalence 0 (problem_of at blocks ∷ [])) tt in
    record { more = token t.OpenBrace ∷ c.more; file = c.file; ends = c.ends }
a_brace_completes s h.Interpolant at blocks frames =
    let c = a_name_completes s (for_set at [] None blocks) [] [] in record { more = token t.OpenBrace ∷ c.more; file = c.file; ends = c.ends }

-- Every state.

-- a state in an expression is in a problem
abbrev pub IsWhole : Want → List Frame → Type 0
IsWhole (a_block blocks) frames = Unit {0}
IsWhole (a_brace heading at blocks) frames = Unit {0}
IsWhole (a_line universal at names blocks) frames = Unit {0}
IsWhole (a_name names_for names) frames = Unit {0}
IsWhole (names_more names_for names) frames = Unit {0}
IsWhole (an_item_line i) frames = Unit {0}
IsWhole (an_item i) frames = Unit {0}
IsWhole (behind_item i name) frames = Unit {0}
IsWhole (a_first_parameter i name) frames = Unit {0}
IsWhole (a_parameter i name n) frames = Unit {0}
IsWhole (behind_int i name n) frames = Unit {0}
IsWhole (parameters_more i name n) frames = Unit {0}
IsWhole (items_more i) frames = Unit {0}
IsWhole (a_type for) frames = IsTypeWhole for frames
IsWhole (behind_int_word for) frames = IsTypeWhole for frames
IsWhole (an_endpoint for side) frames = IsTypeWhole for frames
IsWhole (an_endpoint_number for side) frames = IsTypeWhole for frames
IsWhole (behind_endpoint for side value) frames = IsTypeWhole for frames
IsWhole want frames = IsInProblem frames

pub completes : (s : Setting) (want : Want) (frames : List Frame) → IsWhole want frames → Completes s want frames
completes s (a_unary n) frames i = a_unary_completes s n frames i
completes s (a_minus n) frames i = a_minus_completes s n frames i
completes s (a_parenthesis n) frames i = a_parenthesis_completes s n frames i
completes s (behind_name name n) frames i = behind_name_completes s name n frames i
completes s (an_argument name n) frames i = an_argument_completes s name n frames i
completes s (a_pair max at n) frames i = a_pair_completes s max at n frames i
completes s (a_binder at all n) frames i = a_binder_completes s at all n frames i
completes s (a_type for) frames i = a_type_completes s for frames i
completes s (behind_int_word for) frames i = behind_int_word_completes s for frames i
completes s (an_endpoint for side) frames i = an_endpoint_completes s for side frames i
completes s (an_endpoint_number for side) frames i = an_endpoint_number_completes s for side frames i
completes s (behind_endpoint for side value) frames i = behind_endpoint_completes s for side value frames i
completes s (a_bound at all several sort n names) frames i = a_bound_completes s at all several sort n names frames i
completes s (bound_more at all several sort n names) frames i = bound_more_completes s at all several sort n names frames i
completes s (a_part_bracket at n) frames i = a_part_bracket_completes s at n frames i
completes s (a_part_name at n) frames i = a_part_name_completes s at n frames i
completes s (a_part_close at name n) frames i = a_part_close_completes s at name n frames i
completes s (gives f) frames i = gives_completes s f frames i
completes s (a_block blocks) frames i = a_block_completes s blocks frames
completes s (a_brace heading at blocks) frames i = a_brace_completes s heading at blocks frames
completes s (a_line universal at names blocks) frames i = a_line_completes s universal at names blocks frames
completes s (a_name names_for names) frames i = a_name_completes s names_for names frames
completes s (names_more names_for names) frames i = names_more_completes s names_for names frames
completes s (an_item_line i) frames w = an_item_line_completes s i frames
completes s (an_item i) frames w = an_item_completes s i frames
completes s (behind_item i name) frames w = behind_item_completes s i name frames
completes s (a_first_parameter i name) frames w = a_first_parameter_completes s i name frames
completes s (a_parameter i name n) frames w = a_parameter_completes s i name n frames
completes s (behind_int i name n) frames w = behind_int_completes s i name n frames
completes s (parameters_more i name n) frames w = parameters_more_completes s i name n frames
completes s (items_more i) frames w = items_more_completes s i frames
