-- What a token of a block does keeps what the machine's state says.
use Rattle.std.proofs.Common.{ℕ, ◌≡◌, Bool, true, false, List, [], ◌∷◌, ◌++◌, Option, refl, sym, ap, subst, ◌∙◌, arith, append_assoc, inl, inr, ◌⊎◌, if◌then◌else◌}
use Rattle.pri_tokens.specs.declared.terminals.Terminal.{Terminal}
use Rattle.pri_tokens.specs.declared.terminals.Terminal.TheVariants as t
use Rattle.pri_tokens.specs.declared.terminals.Lexeme.{Lexeme}
use Rattle.pri_reader.specs.declared.tree.Expr.{Expr}
use Rattle.pri_reader.specs.declared.tree.Name.{Name}
use Rattle.pri_reader.specs.declared.tree.NameSet.{NameSet}
use Rattle.pri_reader.specs.declared.tree.Item.{Item}
use Rattle.pri_reader.specs.declared.tree.Block.{Block}
use Rattle.pri_reader.specs.declared.tree.Block.TheVariants as block
use Rattle.pri_reader.specs.declared.classes.Heading.{Heading}
use Rattle.pri_reader.specs.declared.classes.Heading.TheVariants as h
use Rattle.pri_reader.specs.Classes.{heading_of}
use Rattle.pri_reader.specs.Grammar.{equivalence, whole, Setting, name_of, Takes, Derives, item, with_set, constants_word, items_word, items_block, has_problem, names_first, names_next, constants_none, constants_line, parameter_bare, parameter_named, parameters_first, parameters_next, Declares, item_bare, item_empty, item_applied, Items, items_first, items_next, ItemLines, lines_none, line_function, line_predicate, sets_first, sets_next, block_constants, block_items, block_problem, block_interpolant, Blocks, blocks_next}
use Rattle.pri_reader.specs.MachineStates.{problem_of, a_brace, NamesFor, for_constants, for_set, ItemsFor, bad, on}
use Rattle.pri_reader.specs.Machine.{items_for, with_item, block_moves, brace_moves, in_braces, name_moves, sets_end, names_end, names_more_moves, item_moves, item_line_moves, items_more_moves, behind_item_moves, parameter_moves, first_parameter_moves, parameters_more_moves, behind_int_moves}
use Rattle.pri_reader.proofs.States.{Below, AName, NamesMore, AnItemLine, SoFar, AnItem, ItemsMore, Adding, BehindItem, FirstParameter, AParameter, BehindInt, ParametersMore, ABrace, Good}
use Rattle.pri_reader.proofs.Following.{begin_right, takes_as}

-- Blocks.

constants_heading : (s : Setting) (start : List Lexeme) (universal : Bool) (blocks : List Block) {x : Lexeme} {tokens inner : List Lexeme}
    → Takes (constants_word universal) x tokens inner → Blocks s blocks start tokens → ABrace s start (h.Constants universal) x.at blocks inner
constants_heading s start true blocks e m = λ names q c after close rest u l v. blocks_next m (block_constants true e u l v) (λ i. absurd cc)
constants_heading s start false blocks e m = λ names q c after close rest u l v. blocks_next m (block_constants false e u l v) (λ i. absurd cc)

items_heading : (s : Setting) (start : List Lexeme) (typed : Bool) (blocks : List Block) {x : Lexeme} {tokens inner : List Lexeme}
    → Takes (items_word typed) x tokens inner → Blocks s blocks start tokens → ABrace s start (h.Items typed) x.at blocks inner
items_heading s start true blocks e m = λ its q c after close rest u l v. blocks_next m (block_items true e u l v) (λ i. absurd cc)
items_heading s start false blocks e m = λ its q c after close rest u l v. blocks_next m (block_items false e u l v) (λ i. absurd cc)

problem_heading : (s : Setting) (start : List Lexeme) (blocks : List Block) {x : Lexeme} {tokens inner : List Lexeme}
    → Takes t.Problem x tokens inner → Blocks s blocks start tokens → (v : Bool) → has_problem blocks ≡ v
    → Good s start (if v then bad else on (a_brace h.Problem x.at blocks) []) inner
problem_heading s start blocks e m true q = tt
problem_heading s start blocks e m false q = λ f a c after close rest u w v. blocks_next m (block_problem e u w v) (λ i. q)

pub block_sound : (s : Setting) (start : List Lexeme) (blocks : List Block) (k : Terminal) {x : Lexeme} {tokens inner : List Lexeme}
    → Takes k x tokens inner → Blocks s blocks start tokens → Good s start (block_moves (heading_of k) x.at blocks) inner
block_sound s start blocks t.UniversalConstants e m = constants_heading s start true blocks e m
block_sound s start blocks t.ExistentialConstants e m = constants_heading s start false blocks e m
block_sound s start blocks t.Functions e m = items_heading s start true blocks e m
block_sound s start blocks t.Predicates e m = items_heading s start false blocks e m
block_sound s start blocks t.Problem e m = problem_heading s start blocks e m (has_problem blocks) refl
block_sound s start blocks t.Interpolant e m = λ before old names q c after close rest u w l v. blocks_next m (block_interpolant e u w l v) (λ i. absurd cc)
block_sound s start blocks _ e m = tt

in_problem : (s : Setting) (start : List Lexeme) (at : ℕ) (blocks : List Block) (inner : List Lexeme)
    → ((f : Expr) (c : Lexeme) (close rest : List Lexeme) → Derives s 0 whole f inner close → Takes t.CloseBrace c close rest → Blocks s (blocks ++ block.Problem at f ∷ []) start rest)
    → Below s start (problem_of at blocks ∷ []) whole 0 inner
in_problem s start at blocks inner closes = record { closes = closes }

inside_sound : (s : Setting) (start : List Lexeme) (heading : Heading) (at : ℕ) (blocks : List Block) {x : Lexeme} {tokens inner : List Lexeme}
    → Takes t.OpenBrace x tokens inner → ABrace s start heading at blocks tokens → Good s start (in_braces heading at blocks) inner
inside_sound s start (h.Constants universal) at blocks {x = x} {inner = inner} e a = record {
  list = inner;
  lines = constants_none;
  closes = λ names c close rest u v. a names x c inner close rest e u v;
}
inside_sound s start (h.Items typed) at blocks {x = x} {inner = inner} e a = record {
  block_of = record { list = inner; closes = λ its c close rest u v. a its x c inner close rest e u v };
  lines = lines_none;
}
inside_sound s start h.Problem at blocks {x = x} {inner = inner} e a =
    begin_right s start equivalence 0 (problem_of at blocks ∷ []) inner (in_problem s start at blocks inner (λ f c close rest u v. a f x c inner close rest e u v))
inside_sound s start h.Interpolant at blocks {x = x} {inner = inner} e a = record {
  line = inner;
  more = λ y rest u. names_first u;
  fits = record { list = inner; joins = λ names rest u. sets_first u; closes = λ before old names c close rest u l v. a before old names x c inner close rest e u l v };
}

pub brace_sound : (s : Setting) (start : List Lexeme) (heading : Heading) (at : ℕ) (blocks : List Block) (k : Terminal) {x : Lexeme} {tokens inner : List Lexeme}
    → Takes k x tokens inner → ABrace s start heading at blocks tokens → Good s start (brace_moves k heading at blocks) inner
brace_sound s start heading at blocks t.OpenBrace e a = inside_sound s start heading at blocks e a
brace_sound s start heading at blocks _ e a = tt

pub a_name_sound : (s : Setting) (start : List Lexeme) (names_for : NamesFor) (names : List Name) (k : Terminal) {x : Lexeme} {tokens inner : List Lexeme}
    → Takes k x tokens inner → AName s start names_for names tokens → Good s start (name_moves s x k names_for names) inner
a_name_sound s start names_for names t.Identifier {x = x} {inner = inner} e a = record { line = a.line; found = a.more x inner e; fits = a.fits }
a_name_sound s start names_for names _ e a = tt

sets_sound : (s : Setting) (start : List Lexeme) (at : ℕ) (sets : List NameSet) (old : Option ℕ) (names : List Name) (blocks : List Block) {x : Lexeme} {tokens inner : List Lexeme}
    → Takes t.CloseBrace x tokens inner → NamesMore s start (for_set at sets old blocks) names tokens → Good s start (sets_end at sets (with_set sets old names) blocks) inner
sets_sound s start at [] old names blocks e a = tt
sets_sound s start at (b ∷ sets) old names blocks {x = x} {tokens = tokens} {inner = inner} e a =
    a.fits.closes (b ∷ sets) old names x tokens inner (a.fits.joins names tokens a.found) (omega arith) e

names_end_sound : (s : Setting) (start : List Lexeme) (names_for : NamesFor) (names : List Name) (k : Terminal) {x : Lexeme} {tokens inner : List Lexeme}
    → Takes k x tokens inner → NamesMore s start names_for names tokens → Good s start (names_end k x.at names_for names) inner
names_end_sound s start (for_constants sort universal at old blocks) names t.Semicolon e a = record {
  list = a.fits.list;
  lines = constants_line a.fits.lines a.fits.is_type a.found e;
  closes = a.fits.closes;
}
names_end_sound s start (for_set at sets old blocks) names t.Semicolon {x = x} {tokens = tokens} {inner = inner} e a = record {
  line = inner;
  more = λ y rest u. names_first u;
  fits = record { list = a.fits.list; joins = λ more rest u. sets_next (a.fits.joins names tokens a.found) e u; closes = a.fits.closes };
}
names_end_sound s start (for_set at sets old blocks) names t.CloseBrace e a = sets_sound s start at sets old names blocks e a
names_end_sound s start names_for names _ e a = tt

names_more_as : (k : Terminal) (here : ℕ) (names_for : NamesFor) (names : List Name)
    → (k ≡ t.Comma) ⊎ (names_more_moves k here names_for names ≡ names_end k here names_for names)
names_more_as t.Comma here names_for names = inl refl
names_more_as _ here names_for names = inr refl

pub names_more_sound : (s : Setting) (start : List Lexeme) (names_for : NamesFor) (names : List Name) {x : Lexeme} {tokens inner : List Lexeme}
    → Takes x.terminal x tokens inner → NamesMore s start names_for names tokens → Good s start (names_more_moves x.terminal x.at names_for names) inner
names_more_sound s start names_for names {x = x} {tokens = tokens} {inner = inner} e a = elim (names_more_as x.terminal x.at names_for names) [
  | inl q ↦ (let r : Good s start (names_more_moves t.Comma x.at names_for names) inner = record {
    line = a.line;
    more = λ y rest u. names_next a.found (takes_as e q) u;
    fits = a.fits;
  } in
      subst (λ k. Good s start (names_more_moves k x.at names_for names) inner) (sym q) r)
  | inr q ↦ subst (λ m. Good s start m inner) (sym q) (names_end_sound s start names_for names x.terminal e a)
]

-- Items.

pub item_sound : (s : Setting) (start : List Lexeme) (i : ItemsFor) (k : Terminal) {x : Lexeme} {tokens inner : List Lexeme}
    → Takes k x tokens inner → AnItem s start i tokens → Good s start (item_moves s x k i) inner
item_sound s start i t.Identifier {x = x} {tokens = tokens} e a = record {
  outer = tokens;
  x = x;
  takes = e;
  name_is = refl;
  adding = record { within = a.within; adds = a.adds };
}
item_sound s start i _ e a = tt

so_far_first : (s : Setting) (its : List Item) (one : Item) (line rest : List Lexeme) → Declares s one line rest → SoFar s (its ++ one ∷ []) its line rest
so_far_first s its one line rest u = record { more = one ∷ []; items = items_first u; is = refl }

first_item : (s : Setting) (start : List Lexeme) (i : ItemsFor) (line tokens : List Lexeme) → AnItemLine s start i tokens
    → ((a : AnItemLine s start i tokens) (more : List Item) (c : Lexeme) (semicolon rest : List Lexeme) → Items s more line semicolon → Takes t.Semicolon c semicolon rest
    → ItemLines s i.typed (i.items ++ more) a.block_of.list rest)
    → AnItem s start i line
first_item s start i line tokens a joins = record {
  within = record { line = line; fits = record { block_of = a.block_of; before = i.items; joins = joins a } };
  adds = λ one rest u. so_far_first s i.items one line rest u;
}

close_items : (s : Setting) (start : List Lexeme) (i : ItemsFor) {x : Lexeme} {tokens inner : List Lexeme} → Takes t.CloseBrace x tokens inner → AnItemLine s start i tokens
    → Blocks s (i.blocks ++ items_block i.typed i.at i.items ∷ []) start inner
close_items s start i {x = x} {tokens = tokens} {inner = inner} e a = a.block_of.closes i.items x tokens inner a.lines e

pub item_line_sound : (s : Setting) (start : List Lexeme) (typed : Bool) (at : ℕ) (its : List Item) (blocks : List Block) (k : Terminal) {x : Lexeme} {tokens inner : List Lexeme}
    → Takes k x tokens inner → AnItemLine s start (items_for typed at its blocks) tokens → Good s start (item_line_moves s x k typed (items_for typed at its blocks)) inner
item_line_sound s start typed at its blocks t.CloseBrace e a = close_items s start (items_for typed at its blocks) e a
item_line_sound s start true at its blocks t.Int {tokens = tokens} {inner = inner} e a =
    first_item s start (items_for true at its blocks) inner tokens a (λ b more c semicolon rest m u. line_function b.lines e m u)
item_line_sound s start true at its blocks _ e a = tt
item_line_sound s start false at its blocks t.Identifier {tokens = tokens} e a =
    item_sound s start (items_for false at its blocks) t.Identifier e
    (first_item s start (items_for false at its blocks) tokens tokens a (λ b more c semicolon rest m u. line_predicate b.lines m u))
item_line_sound s start false at its blocks _ e a = tt

pub items_more_sound : (s : Setting) (start : List Lexeme) (i : ItemsFor) (k : Terminal) {x : Lexeme} {tokens inner : List Lexeme}
    → Takes k x tokens inner → ItemsMore s start i tokens → Good s start (items_more_moves k i) inner
items_more_sound s start i t.Comma e a = record {
  within = a.within;
  adds = λ one rest u. record {
    more = a.so_far.more ++ one ∷ [];
    items = items_next a.so_far.items e u;
    is = ap (λ z. z ++ one ∷ []) a.so_far.is ∙ append_assoc a.within.fits.before a.so_far.more (one ∷ []);
  };
}
items_more_sound s start i t.Semicolon {x = x} {tokens = tokens} {inner = inner} e a = record {
  block_of = a.within.fits.block_of;
  lines = subst (λ z. ItemLines s i.typed z a.within.fits.block_of.list inner) (sym a.so_far.is)
      (a.within.fits.joins a.so_far.more x tokens inner a.so_far.items e);
}
items_more_sound s start i _ e a = tt

with_one : (s : Setting) (start : List Lexeme) (i : ItemsFor) (name : Name) (n : ℕ) (outer tokens : List Lexeme) → Adding s start i outer
    → Declares s (item name n) outer tokens → ItemsMore s start (with_item i name n) tokens
with_one s start i name n outer tokens a u = record {
  within = record { line = a.within.line; fits = record { block_of = a.within.fits.block_of; before = a.within.fits.before; joins = a.within.fits.joins } };
  so_far = a.adds (item name n) tokens u;
}

named_item : (s : Setting) (name : Name) (n : ℕ) (outer tokens : List Lexeme) (x : Lexeme) → name ≡ name_of s x → Declares s (item (name_of s x) n) outer tokens
    → Declares s (item name n) outer tokens
named_item s name n outer tokens x q u = subst (λ z. Declares s (item z n) outer tokens) (sym q) u

behind_item_as : (k : Terminal) (i : ItemsFor) (name : Name) → (k ≡ t.OpenParenthesis) ⊎ (behind_item_moves k i name ≡ items_more_moves k (with_item i name 0))
behind_item_as t.OpenParenthesis i name = inl refl
behind_item_as _ i name = inr refl

pub behind_item_sound : (s : Setting) (start : List Lexeme) (i : ItemsFor) (name : Name) {x : Lexeme} {tokens inner : List Lexeme}
    → Takes x.terminal x tokens inner → BehindItem s start i name tokens → Good s start (behind_item_moves x.terminal i name) inner
behind_item_sound s start i name {x = x} {tokens = tokens} {inner = inner} e a = elim (behind_item_as x.terminal i name) [
  | inl q ↦ (let r : Good s start (behind_item_moves t.OpenParenthesis i name) inner = record {
    outer = a.outer;
    adding = a.adding;
    empty = λ c rest u. named_item s name 0 a.outer rest a.x a.name_is (item_empty a.takes (takes_as e q) u);
    full = λ n c close rest m u. named_item s name n a.outer rest a.x a.name_is (item_applied a.takes (takes_as e q) m u);
  } in
      subst (λ k. Good s start (behind_item_moves k i name) inner) (sym q) r)
  | inr q ↦ subst (λ m. Good s start m inner) (sym q)
      (items_more_sound s start (with_item i name 0) x.terminal e
      (with_one s start i name 0 a.outer tokens a.adding (named_item s name 0 a.outer tokens a.x a.name_is (item_bare a.takes))))
]

pub parameter_sound : (s : Setting) (start : List Lexeme) (i : ItemsFor) (name : Name) (n : ℕ) (k : Terminal) {x : Lexeme} {tokens inner : List Lexeme}
    → Takes k x tokens inner → AParameter s start i name n tokens → Good s start (parameter_moves k i name n) inner
parameter_sound s start i name n t.Int {inner = inner} e a = record {
  counting = a.counting;
  bare = a.joins inner (parameter_bare e);
  named = λ y rest u. a.joins rest (parameter_named e u);
}
parameter_sound s start i name n _ e a = tt

first_parameter_as : (k : Terminal) (i : ItemsFor) (name : Name) → (k ≡ t.CloseParenthesis) ⊎ (first_parameter_moves k i name ≡ parameter_moves k i name 0)
first_parameter_as t.CloseParenthesis i name = inl refl
first_parameter_as _ i name = inr refl

pub first_parameter_sound : (s : Setting) (start : List Lexeme) (i : ItemsFor) (name : Name) {x : Lexeme} {tokens inner : List Lexeme}
    → Takes x.terminal x tokens inner → FirstParameter s start i name tokens → Good s start (first_parameter_moves x.terminal i name) inner
first_parameter_sound s start i name {x = x} {tokens = tokens} {inner = inner} e a = elim (first_parameter_as x.terminal i name) [
  | inl q ↦ (let r : Good s start (first_parameter_moves t.CloseParenthesis i name) inner =
      with_one s start i name 0 a.outer inner a.adding (a.empty x inner (takes_as e q)) in
      subst (λ k. Good s start (first_parameter_moves k i name) inner) (sym q) r)
  | inr q ↦ subst (λ m. Good s start m inner) (sym q)
      (parameter_sound s start i name 0 x.terminal e (record {
        counting = record { outer = a.outer; list = tokens; adding = a.adding; full = a.full };
        joins = λ rest u. parameters_first u;
      }))
]

pub parameters_more_sound : (s : Setting) (start : List Lexeme) (i : ItemsFor) (name : Name) (n : ℕ) (k : Terminal) {x : Lexeme} {tokens inner : List Lexeme}
    → Takes k x tokens inner → ParametersMore s start i name n tokens → Good s start (parameters_more_moves k i name n) inner
parameters_more_sound s start i name n t.Comma e a = record { counting = a.counting; joins = λ rest u. parameters_next a.found e u }
parameters_more_sound s start i name n t.CloseParenthesis {x = x} {tokens = tokens} {inner = inner} e a =
    with_one s start i name n a.counting.outer inner a.counting.adding (a.counting.full n x tokens inner a.found e)
parameters_more_sound s start i name n _ e a = tt

behind_int_as : (k : Terminal) (i : ItemsFor) (name : Name) (n : ℕ) → (k ≡ t.Identifier) ⊎ (behind_int_moves k i name n ≡ parameters_more_moves k i name n)
behind_int_as t.Identifier i name n = inl refl
behind_int_as _ i name n = inr refl

pub behind_int_sound : (s : Setting) (start : List Lexeme) (i : ItemsFor) (name : Name) (n : ℕ) {x : Lexeme} {tokens inner : List Lexeme}
    → Takes x.terminal x tokens inner → BehindInt s start i name n tokens → Good s start (behind_int_moves x.terminal i name n) inner
behind_int_sound s start i name n {x = x} {tokens = tokens} {inner = inner} e a = elim (behind_int_as x.terminal i name n) [
  | inl q ↦ (let r : Good s start (behind_int_moves t.Identifier i name n) inner = record {
    counting = a.counting;
    found = a.named x inner (takes_as e q);
  } in
      subst (λ k. Good s start (behind_int_moves k i name n) inner) (sym q) r)
  | inr q ↦ subst (λ m. Good s start m inner) (sym q)
      (parameters_more_sound s start i name n x.terminal e (record { counting = a.counting; found = a.bare }))
]
