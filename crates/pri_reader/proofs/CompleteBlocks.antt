-- What is derived as a file, the machine gives.
use Rattle.std.proofs.Common.{ℕ, suc, ◌≡◌, ◌≤◌, ◌<◌, Bool, true, false, List, [], ◌∷◌, ◌++◌, length, Option, Some, None, Ok, Err, refl, sym, ap, ◌∙◌, arith, append_assoc, if◌then◌else◌}
use Rattle.pri_tokens.specs.declared.terminals.Terminal.{Terminal}
use Rattle.pri_tokens.specs.declared.terminals.Terminal.TheVariants as t
use Rattle.pri_tokens.specs.declared.terminals.Lexeme.{Lexeme}
use Rattle.pri_reader.specs.declared.tree.Name.{Name}
use Rattle.pri_reader.specs.declared.tree.Declared.{Declared}
use Rattle.pri_reader.specs.declared.tree.NameSet.{NameSet}
use Rattle.pri_reader.specs.declared.tree.Item.{Item}
use Rattle.pri_reader.specs.declared.tree.File.{File}
use Rattle.pri_reader.specs.declared.tree.Block.{Block}
use Rattle.pri_reader.specs.declared.tree.Block.TheVariants as block
use Rattle.pri_reader.specs.declared.tree.ReadRefusal.TheVariants as refusal
use Rattle.pri_reader.specs.declared.classes.Heading.TheVariants as h
use Rattle.pri_reader.specs.Grammar.{Setting, name_of, Takes, constants_word, items_word, with_set, is_problem, has_problem, Names, names_first, names_next, Constants, constants_none, constants_line, Parameter, parameter_bare, parameter_named, Parameters, parameters_first, parameters_next, Declares, item_bare, item_empty, item_applied, Items, items_first, items_next, ItemLines, lines_none, line_function, line_predicate, Sets, sets_first, sets_next, Declaration, block_constants, block_items, block_problem, block_interpolant, Blocks, blocks_none, blocks_next, IsFile}
use Rattle.pri_reader.specs.MachineStates.{problem_of, for_line, NamesFor, for_constants, for_set, ItemsFor, a_block, a_brace, a_line, a_name, names_more, an_item_line, an_item, behind_item, a_first_parameter, a_parameter, behind_int, parameters_more, items_more, on}
use Rattle.pri_reader.specs.Machine.{items_for, with_item, behind_item_moves, items_more_moves, behind_int_moves, parameters_more_moves, sets_end, block_moves, moves, follows, limited, goes_on, run}
use Rattle.pri_reader.proofs.Moves.{taken, step_on, joins, Stops, stops_at}
use Rattle.pri_reader.proofs.Complete.{complete}
use Rattle.pri_reader.proofs.CompleteTypes.{next_opens_range, no_range_at, type_complete, line_begins}

names_complete : {s : Setting} {names : List Name} {tokens rest : List Lexeme} (end : ℕ) → Names s names tokens rest → (names_for : NamesFor)
    → run s end tokens (a_name names_for []) [] ≡ run s end rest (names_more names_for names) []
unfolding moves
names_complete {s = s} end (names_first e) names_for = step_on s end e _ _ refl
names_complete {s = s} end (names_next m c e) names_for = names_complete end m names_for ∙ step_on s end c _ _ refl ∙ step_on s end e _ _ refl

-- names begin with an identifier
names_no_range : {s : Setting} {names : List Name} {tokens rest : List Lexeme} → Names s names tokens rest → next_opens_range tokens ≡ false
names_no_range (names_first e) = no_range_at e refl
names_no_range (names_next m c e) = names_no_range m

constants_complete : {s : Setting} {names : List Declared} {tokens rest : List Lexeme} (end : ℕ) → Constants s names tokens rest
    → (universal : Bool) (at : ℕ) (blocks : List Block)
    → run s end tokens (a_line universal at [] blocks) [] ≡ run s end rest (a_line universal at names blocks) []
unfolding moves
constants_complete end constants_none universal at blocks = refl
constants_complete {s = s} end (constants_line {sort = sort} {names = names} m i n c) universal at blocks =
    constants_complete end m universal at blocks ∙ line_begins end i universal at names blocks
    ∙ type_complete end i (names_no_range n) (for_line universal at names blocks) []
    ∙ names_complete end n (for_constants sort universal at names blocks) ∙ step_on s end c _ _ refl

-- no identifier comes next
abbrev is_identifier : Terminal → Bool
is_identifier t.Identifier = true
is_identifier _ = false

abbrev next_identifier : List Lexeme → Bool
next_identifier [] = false
next_identifier (x ∷ tokens) = is_identifier x.terminal

no_identifier_at : {k : Terminal} {x : Lexeme} {tokens inner : List Lexeme} → Takes k x tokens inner → is_identifier k ≡ false → next_identifier tokens ≡ false
no_identifier_at e h = ap next_identifier e.parts ∙ ap is_identifier e.is ∙ h

not_named : (k : Terminal) (i : ItemsFor) (name : Name) (n : ℕ) → is_identifier k ≡ false → behind_int_moves k i name n ≡ parameters_more_moves k i name n
not_named t.Identifier i name n h = absurd cc
not_named _ i name n h = refl

pass_int : (s : Setting) (end : ℕ) (i : ItemsFor) (name : Name) (n : ℕ) (rest : List Lexeme) → next_identifier rest ≡ false
    → run s end rest (behind_int i name n) [] ≡ run s end rest (parameters_more i name n) []
unfolding run moves
pass_int s end i name n [] h = refl
pass_int s end i name n (x ∷ inner) h =
    ap (λ z. goes_on (run s end inner) (limited (s.small inner) (s.shallow inner) x.at z)) (not_named x.terminal i name n h)

parameter_complete : {tokens rest : List Lexeme} (s : Setting) (end : ℕ) → Parameter tokens rest → next_identifier rest ≡ false
    → (i : ItemsFor) (name : Name) (n : ℕ) → run s end tokens (a_parameter i name n) [] ≡ run s end rest (parameters_more i name (suc n)) []
unfolding moves
parameter_complete {rest = rest} s end (parameter_bare e) h i name n = step_on s end e _ _ refl ∙ pass_int s end i name (suc n) rest h
parameter_complete s end (parameter_named e x) h i name n = step_on s end e _ _ refl ∙ step_on s end x _ _ refl

first_parameter : {tokens rest : List Lexeme} (s : Setting) (end : ℕ) → Parameter tokens rest → (i : ItemsFor) (name : Name)
    → run s end tokens (a_first_parameter i name) [] ≡ run s end tokens (a_parameter i name 0) []
unfolding moves
first_parameter s end (parameter_bare e) i name = taken s end e _ _ ∙ sym (taken s end e _ _)
first_parameter s end (parameter_named e x) i name = taken s end e _ _ ∙ sym (taken s end e _ _)

parameters_complete : {n : ℕ} {tokens rest : List Lexeme} (s : Setting) (end : ℕ) → Parameters n tokens rest → next_identifier rest ≡ false
    → (i : ItemsFor) (name : Name) → run s end tokens (a_first_parameter i name) [] ≡ run s end rest (parameters_more i name n) []
unfolding moves
parameters_complete s end (parameters_first p) h i name = first_parameter s end p i name ∙ parameter_complete s end p h i name 0
parameters_complete s end (parameters_next {n = n} m c p) h i name =
    parameters_complete s end m (no_identifier_at c refl) i name ∙ step_on s end c _ _ refl ∙ parameter_complete s end p h i name n

not_with_parameters : (k : Terminal) (i : ItemsFor) (name : Name) → 1 < joins k → behind_item_moves k i name ≡ items_more_moves k (with_item i name 0)
not_with_parameters t.OpenParenthesis i name h = absurd (omega arith)
not_with_parameters _ i name h = refl

pass_item : (s : Setting) (end : ℕ) (i : ItemsFor) (name : Name) (rest : List Lexeme) → Stops 1 rest
    → run s end rest (behind_item i name) [] ≡ run s end rest (items_more (with_item i name 0)) []
unfolding run moves
pass_item s end i name [] h = refl
pass_item s end i name (x ∷ inner) h =
    ap (λ z. goes_on (run s end inner) (limited (s.small inner) (s.shallow inner) x.at z)) (not_with_parameters x.terminal i name h)

declares_complete : {s : Setting} {it : Item} {tokens rest : List Lexeme} (end : ℕ) → Declares s it tokens rest → Stops 1 rest
    → (i : ItemsFor) → run s end tokens (an_item i) [] ≡ run s end rest (items_more (with_item i it.name it.arity)) []
unfolding moves
declares_complete {s = s} {rest = rest} end (item_bare {x = x} e) h i = step_on s end e _ _ refl ∙ pass_item s end i (name_of s x) rest h
declares_complete {s = s} end (item_empty e p c) h i = step_on s end e _ _ refl ∙ step_on s end p _ _ refl ∙ step_on s end c _ _ refl
declares_complete {s = s} end (item_applied {x = x} e p m c) h i =
    step_on s end e _ _ refl ∙ step_on s end p _ _ refl ∙ parameters_complete s end m (no_identifier_at c refl) i (name_of s x) ∙ step_on s end c _ _ refl

abbrev with_items : ItemsFor → List Item → ItemsFor
with_items i more = items_for i.typed i.at (i.items ++ more) i.blocks

items_complete : {s : Setting} {its : List Item} {tokens rest : List Lexeme} (end : ℕ) → Items s its tokens rest → Stops 1 rest
    → (i : ItemsFor) → run s end tokens (an_item i) [] ≡ run s end rest (items_more (with_items i its)) []
unfolding moves
items_complete end (items_first d) h i = declares_complete end d h i
items_complete {s = s} {rest = rest} end (items_next {items = its} {i = it} m c d) h i =
    items_complete end m (stops_at _ c (omega arith)) i ∙ step_on s end c _ _ refl ∙ declares_complete end d h (with_items i its)
    ∙ ap (λ z. run s end rest (items_more (items_for i.typed i.at z i.blocks)) []) (append_assoc i.items its (it ∷ []))

declares_start : {s : Setting} {it : Item} {tokens rest : List Lexeme} (end : ℕ) → Declares s it tokens rest → (at : ℕ) (its : List Item) (blocks : List Block)
    → run s end tokens (an_item_line (items_for false at its blocks)) [] ≡ run s end tokens (an_item (items_for false at its blocks)) []
unfolding moves
declares_start {s = s} end (item_bare e) at its blocks = taken s end e _ _ ∙ sym (taken s end e _ _)
declares_start {s = s} end (item_empty e p c) at its blocks = taken s end e _ _ ∙ sym (taken s end e _ _)
declares_start {s = s} end (item_applied e p m c) at its blocks = taken s end e _ _ ∙ sym (taken s end e _ _)

items_start : {s : Setting} {more : List Item} {tokens rest : List Lexeme} (end : ℕ) → Items s more tokens rest → (at : ℕ) (its : List Item) (blocks : List Block)
    → run s end tokens (an_item_line (items_for false at its blocks)) [] ≡ run s end tokens (an_item (items_for false at its blocks)) []
items_start end (items_first d) at its blocks = declares_start end d at its blocks
items_start end (items_next m c d) at its blocks = items_start end m at its blocks

item_lines_complete : {s : Setting} {typed : Bool} {its : List Item} {tokens rest : List Lexeme} (end : ℕ) → ItemLines s typed its tokens rest
    → (at : ℕ) (blocks : List Block)
    → run s end tokens (an_item_line (items_for typed at [] blocks)) [] ≡ run s end rest (an_item_line (items_for typed at its blocks)) []
unfolding moves
item_lines_complete end lines_none at blocks = refl
item_lines_complete {s = s} end (line_function {items = its} m i n c) at blocks =
    item_lines_complete end m at blocks ∙ step_on s end i _ _ refl
    ∙ items_complete end n (stops_at _ c (omega arith)) (items_for true at its blocks) ∙ step_on s end c _ _ refl
item_lines_complete {s = s} end (line_predicate {items = its} m n c) at blocks =
    item_lines_complete end m at blocks ∙ items_start end n at its blocks
    ∙ items_complete end n (stops_at _ c (omega arith)) (items_for false at its blocks) ∙ step_on s end c _ _ refl

sets_complete : {s : Setting} {before : List NameSet} {start : Option ℕ} {names : List Name} {tokens rest : List Lexeme} (end : ℕ)
    → Sets s before start names tokens rest → (at : ℕ) (blocks : List Block)
    → run s end tokens (a_name (for_set at [] None blocks) []) [] ≡ run s end rest (names_more (for_set at before start blocks) names) []
unfolding moves
sets_complete end (sets_first n) at blocks = names_complete end n (for_set at [] None blocks)
sets_complete {s = s} end (sets_next {before = before} {start = start} {old = old} {c = c} m e n) at blocks =
    sets_complete end m at blocks ∙ step_on s end e _ _ refl
    ∙ names_complete end n (for_set at (with_set before start old) (Some c.at) blocks)

constants_begin : (s : Setting) (end : ℕ) {x : Lexeme} {tokens inner : List Lexeme} (universal : Bool) → Takes (constants_word universal) x tokens inner → (blocks : List Block)
    → run s end tokens (a_block blocks) [] ≡ run s end inner (a_brace (h.Constants universal) x.at blocks) []
unfolding moves
constants_begin s end true e blocks = step_on s end e _ _ refl
constants_begin s end false e blocks = step_on s end e _ _ refl

items_begin : (s : Setting) (end : ℕ) {x : Lexeme} {tokens inner : List Lexeme} (typed : Bool) → Takes (items_word typed) x tokens inner → (blocks : List Block)
    → run s end tokens (a_block blocks) [] ≡ run s end inner (a_brace (h.Items typed) x.at blocks) []
unfolding moves
items_begin s end true e blocks = step_on s end e _ _ refl
items_begin s end false e blocks = step_on s end e _ _ refl

first_problem : (at : ℕ) (blocks : List Block) → has_problem blocks ≡ false → block_moves (Some h.Problem) at blocks ≡ on (a_brace h.Problem at blocks) []
first_problem at blocks e = rw e refl

several_sets : (at : ℕ) (before all : List NameSet) (blocks : List Block) → 1 ≤ length before
    → sets_end at before all blocks ≡ on (a_block (blocks ++ block.Interpolant at all ∷ [])) []
several_sets at [] all blocks h = absurd (omega arith)
several_sets at (b ∷ before) all blocks h = refl

declaration_complete : {s : Setting} {b : Block} {tokens rest : List Lexeme} (end : ℕ) → Declaration s b tokens rest
    → (blocks : List Block) → (is_problem b ≡ true → has_problem blocks ≡ false)
    → run s end tokens (a_block blocks) [] ≡ run s end rest (a_block (blocks ++ b ∷ [])) []
unfolding moves follows
declaration_complete {s = s} end (block_constants universal {x = x} e p m c) blocks h =
    constants_begin s end universal e blocks ∙ step_on s end p _ _ refl ∙ constants_complete end m universal x.at blocks ∙ step_on s end c _ _ refl
declaration_complete {s = s} end (block_items typed {x = x} e p m c) blocks h =
    items_begin s end typed e blocks ∙ step_on s end p _ _ refl ∙ item_lines_complete end m x.at blocks ∙ step_on s end c _ _ refl
declaration_complete {s = s} end (block_problem {x = x} e p u c) blocks h =
    step_on s end e _ _ (first_problem x.at blocks (h refl)) ∙ step_on s end p _ _ refl
    ∙ complete end u (stops_at _ c (omega arith)) (problem_of x.at blocks ∷ []) ∙ step_on s end c _ _ refl
declaration_complete {s = s} end (block_interpolant {before = before} {start = start} {names = names} {x = x} e p m n c) blocks h =
    step_on s end e _ _ refl ∙ step_on s end p _ _ refl ∙ sets_complete end m x.at blocks
    ∙ step_on s end c _ _ (several_sets x.at before (with_set before start names) blocks n)

blocks_complete : {s : Setting} {blocks : List Block} {tokens rest : List Lexeme} (end : ℕ) → Blocks s blocks tokens rest
    → run s end tokens (a_block []) [] ≡ run s end rest (a_block blocks) []
blocks_complete end blocks_none = refl
blocks_complete end (blocks_next {blocks = blocks} m d h) = blocks_complete end m ∙ declaration_complete end d blocks h

-- what is a file, the machine reads so
pub file_complete : (s : Setting) (end : ℕ) (file : File) (tokens : List Lexeme) → IsFile s file tokens → run s end tokens (a_block []) [] ≡ Ok file
unfolding run
file_complete s end file tokens f =
    blocks_complete end f.blocks_are
    ∙ ap (λ z. if z then Ok (record { blocks = file.blocks }) else Err (refusal.Syntax end)) f.problem

-- tokens are at most one file
pub one_file : (s : Setting) (tokens : List Lexeme) (f g : File) → IsFile s f tokens → IsFile s g tokens → f ≡ g
one_file s tokens f g a b =
    let e = file_complete s 0 f tokens a in
    let q = file_complete s 0 g tokens b in
    cc
