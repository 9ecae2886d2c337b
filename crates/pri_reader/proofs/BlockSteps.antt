-- What the machine does at the tokens of blocks, in the form of what the functions of the reader know there.
use Rattle.std.proofs.Common.{ℕ, suc, ◌≡◌, Bool, true, false, List, [], ◌∷◌, ◌++◌, length, Option, Some, None, Ok, Err, refl, ap, ◌∙◌, if◌then◌else◌}
use Rattle.pri_tokens.specs.declared.terminals.Terminal.{Terminal}
use Rattle.pri_tokens.specs.declared.terminals.Terminal.TheVariants as t
use Rattle.pri_tokens.specs.declared.terminals.Lexeme.{Lexeme}
use Rattle.pri_reader.specs.declared.tree.Expr.{Expr}
use Rattle.pri_reader.specs.declared.tree.Block.{Block}
use Rattle.pri_reader.specs.declared.tree.Block.TheVariants as block
use Rattle.pri_reader.specs.declared.tree.Name.{Name}
use Rattle.pri_reader.specs.declared.tree.TypeName.{TypeName}
use Rattle.pri_reader.specs.declared.tree.Declared.{Declared}
use Rattle.pri_reader.specs.declared.tree.NameSet.{NameSet}
use Rattle.pri_reader.specs.declared.tree.ReadRefusal.TheVariants as refusal
use Rattle.pri_reader.specs.declared.classes.Heading.{Heading}
use Rattle.pri_reader.specs.declared.classes.Heading.TheVariants as h
use Rattle.pri_reader.specs.Classes.{heading_of}
use Rattle.pri_reader.specs.Grammar.{name_of, all_of_type, Takes, constants_block, items_block, with_set, has_problem, equivalence}
use Rattle.pri_reader.specs.MachineStates.{problem_of, gives, a_unary, a_block, a_brace, a_line, a_type, a_name, names_more, for_line, NamesFor, for_constants, for_set, ItemsFor, an_item_line, an_item, behind_item, a_first_parameter, a_parameter, behind_int, parameters_more, items_more, under_right, bad, on}
use Rattle.pri_reader.specs.Machine.{items_for, with_item, block_moves, brace_moves, line_moves, type_moves, name_moves, names_more_moves, item_line_moves, item_moves, behind_item_moves, first_parameter_moves, parameter_moves, behind_int_moves, parameters_more_moves, items_more_moves, problem_follows, follows, moves, run}
use Rattle.pri_reader.specs.Reading.{file_setting, reads, place, NotNext}
use Rattle.pri_reader.proofs.Moves.{taken}
use Rattle.pri_reader.proofs.TokenSteps.{it, stuck, refused, refused_both, passes, goes}

only_brace : (k : Terminal) (heading : Heading) (at : ℕ) (blocks : List Block) → (k ≡ t.OpenBrace → ⊥) → brace_moves k heading at blocks ≡ bad
only_brace t.OpenBrace heading at blocks h0 = absurd (h0 refl)
only_brace _ heading at blocks h0 = refl

pub brace_bad : (b : List ℕ) (tokens : List Lexeme) (heading : Heading) (at : ℕ) (blocks : List Block) → NotNext t.OpenBrace tokens → reads b tokens (a_brace heading at blocks) ([]) ≡ Err (refusal.Syntax (place (length b) tokens))
unfolding reads moves follows
brace_bad b tokens heading at blocks h0 = refused b t.OpenBrace tokens _ _ h0 refl (λ x k u0. only_brace k heading at blocks u0)

pub brace_constants : (b : List ℕ) (tokens inner : List Lexeme) (x : Lexeme) (universal : Bool) (at : ℕ) (blocks : List Block) → Takes t.OpenBrace x tokens inner → reads b tokens (a_brace (h.Constants universal) at blocks) ([]) ≡ reads b inner (a_line universal at [] blocks) ([])
unfolding reads moves follows
brace_constants b tokens inner x universal at blocks e = goes b e _ _ refl

pub brace_items : (b : List ℕ) (tokens inner : List Lexeme) (x : Lexeme) (typed : Bool) (at : ℕ) (blocks : List Block) → Takes t.OpenBrace x tokens inner → reads b tokens (a_brace (h.Items typed) at blocks) ([]) ≡ reads b inner (an_item_line (items_for typed at [] blocks)) ([])
unfolding reads moves follows
brace_items b tokens inner x typed at blocks e = goes b e _ _ refl

pub brace_problem : (b : List ℕ) (tokens inner : List Lexeme) (x : Lexeme) (at : ℕ) (blocks : List Block) → Takes t.OpenBrace x tokens inner → reads b tokens (a_brace h.Problem at blocks) ([]) ≡ reads b inner (a_unary 0) (under_right equivalence 0 (problem_of at blocks ∷ []))
unfolding reads moves follows
brace_problem b tokens inner x at blocks e = goes b e _ _ refl

pub brace_interpolant : (b : List ℕ) (tokens inner : List Lexeme) (x : Lexeme) (at : ℕ) (blocks : List Block) → Takes t.OpenBrace x tokens inner → reads b tokens (a_brace h.Interpolant at blocks) ([]) ≡ reads b inner (a_name (for_set at [] None blocks) []) ([])
unfolding reads moves follows
brace_interpolant b tokens inner x at blocks e = goes b e _ _ refl

only_problem : (k : Terminal) (at : ℕ) (blocks : List Block) (f : Expr) → (k ≡ t.CloseBrace → ⊥) → problem_follows k at blocks f ≡ bad
only_problem t.CloseBrace at blocks f h0 = absurd (h0 refl)
only_problem _ at blocks f h0 = refl

pub problem_bad : (b : List ℕ) (tokens : List Lexeme) (at : ℕ) (blocks : List Block) (f : Expr) → NotNext t.CloseBrace tokens → reads b tokens (gives f) (problem_of at blocks ∷ []) ≡ Err (refusal.Syntax (place (length b) tokens))
unfolding reads moves follows
problem_bad b tokens at blocks f h0 = refused b t.CloseBrace tokens _ _ h0 refl (λ x k u0. only_problem k at blocks f u0)

pub problem_close : (b : List ℕ) (tokens inner : List Lexeme) (x : Lexeme) (at : ℕ) (blocks : List Block) (f : Expr) → Takes t.CloseBrace x tokens inner → reads b tokens (gives f) (problem_of at blocks ∷ []) ≡ reads b inner (a_block (blocks ++ block.Problem at f ∷ [])) ([])
unfolding reads moves follows
problem_close b tokens inner x at blocks f e = goes b e _ _ refl

other_line : (k : Terminal) (universal : Bool) (at : ℕ) (names : List Declared) (blocks : List Block) → (k ≡ t.CloseBrace → ⊥) → line_moves k universal at names blocks ≡ type_moves k (for_line universal at names blocks) []
other_line t.CloseBrace universal at names blocks h = absurd (h refl)
other_line _ universal at names blocks h = refl

pub line_pass : (b : List ℕ) (tokens : List Lexeme) (universal : Bool) (at : ℕ) (names : List Declared) (blocks : List Block) → NotNext t.CloseBrace tokens → reads b tokens (a_line universal at names blocks) [] ≡ reads b tokens (a_type (for_line universal at names blocks)) []
unfolding moves
line_pass b tokens universal at names blocks h = passes b t.CloseBrace tokens _ _ [] h refl (λ x k u. other_line k universal at names blocks u)

pub line_close : (b : List ℕ) (tokens inner : List Lexeme) (x : Lexeme) (universal : Bool) (at : ℕ) (names : List Declared) (blocks : List Block) → Takes t.CloseBrace x tokens inner → reads b tokens (a_line universal at names blocks) ([]) ≡ reads b inner (a_block (blocks ++ constants_block universal at names ∷ [])) ([])
unfolding reads moves follows
line_close b tokens inner x universal at names blocks e = goes b e _ _ refl

only_name_here : (k : Terminal) (b : List ℕ) (x : Lexeme) (for : NamesFor) (names : List Name) → (k ≡ t.Identifier → ⊥) → name_moves (file_setting b) x k for names ≡ bad
only_name_here t.Identifier b x for names h0 = absurd (h0 refl)
only_name_here _ b x for names h0 = refl

pub name_here_bad : (b : List ℕ) (tokens : List Lexeme) (for : NamesFor) (names : List Name) → NotNext t.Identifier tokens → reads b tokens (a_name for names) ([]) ≡ Err (refusal.Syntax (place (length b) tokens))
unfolding reads moves follows
name_here_bad b tokens for names h0 = refused b t.Identifier tokens _ _ h0 refl (λ x k u0. only_name_here k b x for names u0)

pub name_here_step : (b : List ℕ) (tokens inner : List Lexeme) (x : Lexeme) (for : NamesFor) (names : List Name) → Takes t.Identifier x tokens inner → reads b tokens (a_name for names) ([]) ≡ reads b inner (names_more for (names ++ name_of (file_setting b) x ∷ [])) ([])
unfolding reads moves follows
name_here_step b tokens inner x for names e = goes b e _ _ refl

pub names_comma : (b : List ℕ) (tokens inner : List Lexeme) (x : Lexeme) (for : NamesFor) (names : List Name) → Takes t.Comma x tokens inner → reads b tokens (names_more for names) ([]) ≡ reads b inner (a_name for names) ([])
unfolding reads moves follows
names_comma b tokens inner x for names e = goes b e _ _ refl

only_constants : (k : Terminal) (here : ℕ) (sort : TypeName) (universal : Bool) (at : ℕ) (names : List Declared) (blocks : List Block) (more : List Name) → (k ≡ t.Comma → ⊥) → (k ≡ t.Semicolon → ⊥) → names_more_moves k here (for_constants sort universal at names blocks) more ≡ bad
only_constants t.Comma here sort universal at names blocks more h0 h1 = absurd (h0 refl)
only_constants t.Semicolon here sort universal at names blocks more h0 h1 = absurd (h1 refl)
only_constants _ here sort universal at names blocks more h0 h1 = refl

pub constants_bad : (b : List ℕ) (tokens : List Lexeme) (sort : TypeName) (universal : Bool) (at : ℕ) (names : List Declared) (blocks : List Block) (more : List Name) → NotNext t.Comma tokens → NotNext t.Semicolon tokens → reads b tokens (names_more (for_constants sort universal at names blocks) more) ([]) ≡ Err (refusal.Syntax (place (length b) tokens))
unfolding reads moves follows
constants_bad b tokens sort universal at names blocks more h0 h1 = refused_both b t.Comma t.Semicolon tokens _ _ h0 h1 refl (λ x k u0 u1. only_constants k x.at sort universal at names blocks more u0 u1)

pub constants_end : (b : List ℕ) (tokens inner : List Lexeme) (x : Lexeme) (sort : TypeName) (universal : Bool) (at : ℕ) (names : List Declared) (blocks : List Block) (more : List Name) → Takes t.Semicolon x tokens inner → reads b tokens (names_more (for_constants sort universal at names blocks) more) ([]) ≡ reads b inner (a_line universal at (names ++ all_of_type sort more) blocks) ([])
unfolding reads moves follows
constants_end b tokens inner x sort universal at names blocks more e = goes b e _ _ refl

pub set_next : (b : List ℕ) (tokens inner : List Lexeme) (x : Lexeme) (at : ℕ) (sets : List NameSet) (start : Option ℕ) (blocks : List Block) (names : List Name) → Takes t.Semicolon x tokens inner → reads b tokens (names_more (for_set at sets start blocks) names) ([]) ≡ reads b inner (a_name (for_set at (with_set sets start names) (Some x.at) blocks) []) ([])
unfolding reads moves follows
set_next b tokens inner x at sets start blocks names e = goes b e _ _ refl

pub set_close : (b : List ℕ) (tokens inner : List Lexeme) (x : Lexeme) (at : ℕ) (one : NameSet) (sets : List NameSet) (start : Option ℕ) (blocks : List Block) (names : List Name) → Takes t.CloseBrace x tokens inner → reads b tokens (names_more (for_set at (one ∷ sets) start blocks) names) ([]) ≡ reads b inner (a_block (blocks ++ block.Interpolant at (with_set (one ∷ sets) start names) ∷ [])) ([])
unfolding reads moves follows
set_close b tokens inner x at one sets start blocks names e = goes b e _ _ refl

only_set : (k : Terminal) (here : ℕ) (at : ℕ) (sets : List NameSet) (start : Option ℕ) (blocks : List Block) (names : List Name) → (k ≡ t.Comma → ⊥) → (k ≡ t.Semicolon → ⊥) → (k ≡ t.CloseBrace → ⊥) → names_more_moves k here (for_set at sets start blocks) names ≡ bad
only_set t.Comma here at sets start blocks names h0 h1 h2 = absurd (h0 refl)
only_set t.Semicolon here at sets start blocks names h0 h1 h2 = absurd (h1 refl)
only_set t.CloseBrace here at sets start blocks names h0 h1 h2 = absurd (h2 refl)
only_set _ here at sets start blocks names h0 h1 h2 = refl

pub set_bad : (b : List ℕ) (tokens : List Lexeme) (at : ℕ) (sets : List NameSet) (start : Option ℕ) (blocks : List Block) (names : List Name) → NotNext t.Comma tokens → NotNext t.Semicolon tokens → NotNext t.CloseBrace tokens → reads b tokens (names_more (for_set at sets start blocks) names) ([]) ≡ Err (refusal.Syntax (place (length b) tokens))
unfolding reads run moves follows
set_bad b [] at sets start blocks names h0 h1 h2 = refl
set_bad b (x ∷ inner) at sets start blocks names h0 h1 h2 = stuck b {x = x} {tokens = x ∷ inner} {inner = inner} refl (names_more (for_set at sets start blocks) names) ([]) (only_set x.terminal x.at at sets start blocks names (h0.no x inner refl) (h1.no x inner refl) (h2.no x inner refl))

pub set_single : (b : List ℕ) (tokens inner : List Lexeme) (x : Lexeme) (at : ℕ) (start : Option ℕ) (blocks : List Block) (names : List Name) → Takes t.CloseBrace x tokens inner
    → reads b tokens (names_more (for_set at [] start blocks) names) [] ≡ Err (refusal.Syntax x.at)
unfolding reads moves
set_single b tokens inner x at start blocks names e = taken (file_setting b) (length b) e (names_more (for_set at [] start blocks) names) []

pub item_line_close : (b : List ℕ) (tokens inner : List Lexeme) (x : Lexeme) (i : ItemsFor) → Takes t.CloseBrace x tokens inner → reads b tokens (an_item_line i) ([]) ≡ reads b inner (a_block (i.blocks ++ items_block i.typed i.at i.items ∷ [])) ([])
unfolding reads moves follows
item_line_close b tokens inner x i e = goes b e _ _ refl

pub item_line_int : (b : List ℕ) (tokens inner : List Lexeme) (x : Lexeme) (i : ItemsFor) → i.typed ≡ true → Takes t.Int x tokens inner → reads b tokens (an_item_line i) [] ≡ reads b inner (an_item i) []
unfolding reads moves
item_line_int b tokens inner x i h e = goes b e _ _ (ap (λ z. item_line_moves (file_setting b) x t.Int z i) h)

only_item_line : (k : Terminal) (b : List ℕ) (x : Lexeme) (i : ItemsFor) → (k ≡ t.CloseBrace → ⊥) → (k ≡ t.Int → ⊥) → item_line_moves (file_setting b) x k true i ≡ bad
only_item_line t.CloseBrace b x i h0 h1 = absurd (h0 refl)
only_item_line t.Int b x i h0 h1 = absurd (h1 refl)
only_item_line _ b x i h0 h1 = refl

pub item_line_bad : (b : List ℕ) (tokens : List Lexeme) (i : ItemsFor) → i.typed ≡ true → NotNext t.CloseBrace tokens → NotNext t.Int tokens → reads b tokens (an_item_line i) [] ≡ Err (refusal.Syntax (place (length b) tokens))
unfolding reads moves
item_line_bad b tokens i e h0 h1 = refused_both b t.CloseBrace t.Int tokens _ _ h0 h1 refl (λ x k u0 u1. ap (λ z. item_line_moves (file_setting b) x k z i) e ∙ only_item_line k b x i u0 u1)

other_item_line : (k : Terminal) (b : List ℕ) (x : Lexeme) (i : ItemsFor) → (k ≡ t.CloseBrace → ⊥) → item_line_moves (file_setting b) x k false i ≡ item_moves (file_setting b) x k i
other_item_line t.CloseBrace b x i h = absurd (h refl)
other_item_line _ b x i h = refl

pub item_line_pass : (b : List ℕ) (tokens : List Lexeme) (i : ItemsFor) → i.typed ≡ false → NotNext t.CloseBrace tokens → reads b tokens (an_item_line i) [] ≡ reads b tokens (an_item i) []
unfolding moves
item_line_pass b tokens i e h = passes b t.CloseBrace tokens _ _ [] h refl (λ x k u. ap (λ z. item_line_moves (file_setting b) x k z i) e ∙ other_item_line k b x i u)

only_item : (k : Terminal) (b : List ℕ) (x : Lexeme) (i : ItemsFor) → (k ≡ t.Identifier → ⊥) → item_moves (file_setting b) x k i ≡ bad
only_item t.Identifier b x i h0 = absurd (h0 refl)
only_item _ b x i h0 = refl

pub item_bad : (b : List ℕ) (tokens : List Lexeme) (i : ItemsFor) → NotNext t.Identifier tokens → reads b tokens (an_item i) ([]) ≡ Err (refusal.Syntax (place (length b) tokens))
unfolding reads moves follows
item_bad b tokens i h0 = refused b t.Identifier tokens _ _ h0 refl (λ x k u0. only_item k b x i u0)

pub item_step : (b : List ℕ) (tokens inner : List Lexeme) (x : Lexeme) (i : ItemsFor) → Takes t.Identifier x tokens inner → reads b tokens (an_item i) ([]) ≡ reads b inner (behind_item i (name_of (file_setting b) x)) ([])
unfolding reads moves follows
item_step b tokens inner x i e = goes b e _ _ refl

other_item_bare : (k : Terminal) (i : ItemsFor) (name : Name) → (k ≡ t.OpenParenthesis → ⊥) → behind_item_moves k i name ≡ items_more_moves k (with_item i name 0)
other_item_bare t.OpenParenthesis i name h = absurd (h refl)
other_item_bare _ i name h = refl

pub item_bare_pass : (b : List ℕ) (tokens : List Lexeme) (i : ItemsFor) (name : Name) → NotNext t.OpenParenthesis tokens → reads b tokens (behind_item i name) [] ≡ reads b tokens (items_more (with_item i name 0)) []
unfolding moves
item_bare_pass b tokens i name h = passes b t.OpenParenthesis tokens _ _ [] h refl (λ x k u. other_item_bare k i name u)

pub item_open : (b : List ℕ) (tokens inner : List Lexeme) (x : Lexeme) (i : ItemsFor) (name : Name) → Takes t.OpenParenthesis x tokens inner → reads b tokens (behind_item i name) ([]) ≡ reads b inner (a_first_parameter i name) ([])
unfolding reads moves follows
item_open b tokens inner x i name e = goes b e _ _ refl

pub item_empty : (b : List ℕ) (tokens inner : List Lexeme) (x : Lexeme) (i : ItemsFor) (name : Name) → Takes t.CloseParenthesis x tokens inner → reads b tokens (a_first_parameter i name) ([]) ≡ reads b inner (items_more (with_item i name 0)) ([])
unfolding reads moves follows
item_empty b tokens inner x i name e = goes b e _ _ refl

other_item_parameters : (k : Terminal) (i : ItemsFor) (name : Name) → (k ≡ t.CloseParenthesis → ⊥) → first_parameter_moves k i name ≡ parameter_moves k i name 0
other_item_parameters t.CloseParenthesis i name h = absurd (h refl)
other_item_parameters _ i name h = refl

pub item_parameters_pass : (b : List ℕ) (tokens : List Lexeme) (i : ItemsFor) (name : Name) → NotNext t.CloseParenthesis tokens → reads b tokens (a_first_parameter i name) [] ≡ reads b tokens (a_parameter i name 0) []
unfolding moves
item_parameters_pass b tokens i name h = passes b t.CloseParenthesis tokens _ _ [] h refl (λ x k u. other_item_parameters k i name u)

only_parameter : (k : Terminal) (i : ItemsFor) (name : Name) (n : ℕ) → (k ≡ t.Int → ⊥) → parameter_moves k i name n ≡ bad
only_parameter t.Int i name n h0 = absurd (h0 refl)
only_parameter _ i name n h0 = refl

pub parameter_bad : (b : List ℕ) (tokens : List Lexeme) (i : ItemsFor) (name : Name) (n : ℕ) → NotNext t.Int tokens → reads b tokens (a_parameter i name n) ([]) ≡ Err (refusal.Syntax (place (length b) tokens))
unfolding reads moves follows
parameter_bad b tokens i name n h0 = refused b t.Int tokens _ _ h0 refl (λ x k u0. only_parameter k i name n u0)

pub parameter_step : (b : List ℕ) (tokens inner : List Lexeme) (x : Lexeme) (i : ItemsFor) (name : Name) (n : ℕ) → Takes t.Int x tokens inner → reads b tokens (a_parameter i name n) ([]) ≡ reads b inner (behind_int i name (suc n)) ([])
unfolding reads moves follows
parameter_step b tokens inner x i name n e = goes b e _ _ refl

pub parameter_named : (b : List ℕ) (tokens inner : List Lexeme) (x : Lexeme) (i : ItemsFor) (name : Name) (n : ℕ) → Takes t.Identifier x tokens inner → reads b tokens (behind_int i name n) ([]) ≡ reads b inner (parameters_more i name n) ([])
unfolding reads moves follows
parameter_named b tokens inner x i name n e = goes b e _ _ refl

other_parameter_unnamed : (k : Terminal) (i : ItemsFor) (name : Name) (n : ℕ) → (k ≡ t.Identifier → ⊥) → behind_int_moves k i name n ≡ parameters_more_moves k i name n
other_parameter_unnamed t.Identifier i name n h = absurd (h refl)
other_parameter_unnamed _ i name n h = refl

pub parameter_unnamed_pass : (b : List ℕ) (tokens : List Lexeme) (i : ItemsFor) (name : Name) (n : ℕ) → NotNext t.Identifier tokens → reads b tokens (behind_int i name n) [] ≡ reads b tokens (parameters_more i name n) []
unfolding moves
parameter_unnamed_pass b tokens i name n h = passes b t.Identifier tokens _ _ [] h refl (λ x k u. other_parameter_unnamed k i name n u)

pub parameters_comma : (b : List ℕ) (tokens inner : List Lexeme) (x : Lexeme) (i : ItemsFor) (name : Name) (n : ℕ) → Takes t.Comma x tokens inner → reads b tokens (parameters_more i name n) ([]) ≡ reads b inner (a_parameter i name n) ([])
unfolding reads moves follows
parameters_comma b tokens inner x i name n e = goes b e _ _ refl

pub parameters_close : (b : List ℕ) (tokens inner : List Lexeme) (x : Lexeme) (i : ItemsFor) (name : Name) (n : ℕ) → Takes t.CloseParenthesis x tokens inner → reads b tokens (parameters_more i name n) ([]) ≡ reads b inner (items_more (with_item i name n)) ([])
unfolding reads moves follows
parameters_close b tokens inner x i name n e = goes b e _ _ refl

only_parameters : (k : Terminal) (i : ItemsFor) (name : Name) (n : ℕ) → (k ≡ t.Comma → ⊥) → (k ≡ t.CloseParenthesis → ⊥) → parameters_more_moves k i name n ≡ bad
only_parameters t.Comma i name n h0 h1 = absurd (h0 refl)
only_parameters t.CloseParenthesis i name n h0 h1 = absurd (h1 refl)
only_parameters _ i name n h0 h1 = refl

pub parameters_bad : (b : List ℕ) (tokens : List Lexeme) (i : ItemsFor) (name : Name) (n : ℕ) → NotNext t.Comma tokens → NotNext t.CloseParenthesis tokens → reads b tokens (parameters_more i name n) ([]) ≡ Err (refusal.Syntax (place (length b) tokens))
unfolding reads moves follows
parameters_bad b tokens i name n h0 h1 = refused_both b t.Comma t.CloseParenthesis tokens _ _ h0 h1 refl (λ x k u0 u1. only_parameters k i name n u0 u1)

pub items_comma : (b : List ℕ) (tokens inner : List Lexeme) (x : Lexeme) (i : ItemsFor) → Takes t.Comma x tokens inner → reads b tokens (items_more i) ([]) ≡ reads b inner (an_item i) ([])
unfolding reads moves follows
items_comma b tokens inner x i e = goes b e _ _ refl

pub items_end : (b : List ℕ) (tokens inner : List Lexeme) (x : Lexeme) (i : ItemsFor) → Takes t.Semicolon x tokens inner → reads b tokens (items_more i) ([]) ≡ reads b inner (an_item_line i) ([])
unfolding reads moves follows
items_end b tokens inner x i e = goes b e _ _ refl

only_items : (k : Terminal) (i : ItemsFor) → (k ≡ t.Comma → ⊥) → (k ≡ t.Semicolon → ⊥) → items_more_moves k i ≡ bad
only_items t.Comma i h0 h1 = absurd (h0 refl)
only_items t.Semicolon i h0 h1 = absurd (h1 refl)
only_items _ i h0 h1 = refl

pub items_bad : (b : List ℕ) (tokens : List Lexeme) (i : ItemsFor) → NotNext t.Comma tokens → NotNext t.Semicolon tokens → reads b tokens (items_more i) ([]) ≡ Err (refusal.Syntax (place (length b) tokens))
unfolding reads moves follows
items_bad b tokens i h0 h1 = refused_both b t.Comma t.Semicolon tokens _ _ h0 h1 refl (λ x k u0 u1. only_items k i u0 u1)

pub block_step : (b : List ℕ) (tokens inner : List Lexeme) (x : Lexeme) (heading : Heading) (blocks : List Block) → tokens ≡ x ∷ inner → heading_of x.terminal ≡ Some heading
    → (heading ≡ h.Problem → has_problem blocks ≡ false) → reads b tokens (a_block blocks) [] ≡ reads b inner (a_brace heading x.at blocks) []
unfolding reads moves
block_step b tokens inner x (h.Constants universal) blocks e q p = goes b (it e) _ _ (ap (λ z. block_moves z x.at blocks) q)
block_step b tokens inner x (h.Items typed) blocks e q p = goes b (it e) _ _ (ap (λ z. block_moves z x.at blocks) q)
block_step b tokens inner x h.Interpolant blocks e q p = goes b (it e) _ _ (ap (λ z. block_moves z x.at blocks) q)
block_step b tokens inner x h.Problem blocks e q p = goes b (it e) _ _ (ap (λ z. block_moves z x.at blocks) q ∙ ap (λ z. if z then bad else on (a_brace h.Problem x.at blocks) []) (p refl))

pub block_twice : (b : List ℕ) (tokens inner : List Lexeme) (x : Lexeme) (blocks : List Block) → tokens ≡ x ∷ inner → heading_of x.terminal ≡ Some h.Problem → has_problem blocks ≡ true
    → reads b tokens (a_block blocks) [] ≡ Err (refusal.Syntax x.at)
unfolding reads moves
block_twice b tokens inner x blocks e q p = stuck b e _ _ (ap (λ z. block_moves z x.at blocks) q ∙ ap (λ z. if z then bad else on (a_brace h.Problem x.at blocks) []) p)

pub block_bad : (b : List ℕ) (tokens inner : List Lexeme) (x : Lexeme) (blocks : List Block) → tokens ≡ x ∷ inner → heading_of x.terminal ≡ None → reads b tokens (a_block blocks) [] ≡ Err (refusal.Syntax x.at)
unfolding reads moves
block_bad b tokens inner x blocks e q = stuck b e _ _ (ap (λ z. block_moves z x.at blocks) q)

pub file_ends : (b : List ℕ) (blocks : List Block) → has_problem blocks ≡ true → reads b [] (a_block blocks) [] ≡ Ok (record { blocks = blocks })
unfolding reads run
file_ends b blocks h = ap (λ z. if z then Ok (record { blocks = blocks }) else Err (refusal.Syntax (length b))) h

pub file_short : (b : List ℕ) (blocks : List Block) → has_problem blocks ≡ false → reads b [] (a_block blocks) [] ≡ Err (refusal.Syntax (length b))
unfolding reads run
file_short b blocks h = ap (λ z. if z then Ok (record { blocks = blocks }) else Err (refusal.Syntax (length b))) h
