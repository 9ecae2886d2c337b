-- The names that a file declares are identifiers.
use Rattle.std.proofs.Common.{◌≡◌, ℕ, ℤ, true, false, List, [], ◌∷◌, ◌++◌, map, subst, sym, All, append-nil, ap, ◌∙◌}
use Rattle.std.specs.List.{AllByRecursion}
use Rattle.std.proofs.lemmas.Grind.{flat_map-append}
use Rattle.std.proofs.lemmas.List.Elements.{All-from_recursion, recursion_from_All}
use Rattle.pri_tokens.specs.declared.terminals.Terminal.{Terminal}
use Rattle.pri_tokens.specs.declared.terminals.Terminal.TheVariants as t
use Rattle.pri_tokens.specs.declared.terminals.Lexeme.{Lexeme}
use Rattle.pri_tokens.specs.Lexemes.{lexemes_of}
use Rattle.pri_tokens.specs.Bytes.{text_of}
use Rattle.pri_tokens.specs.Written.{IsIdentifier, IsWritten}
use Rattle.pri_tokens.proofs.Writing.{written}
use Rattle.pri_reader.specs.declared.tree.Expr.{Expr}
use Rattle.pri_reader.specs.declared.tree.Added.{Added}
use Rattle.pri_reader.specs.declared.tree.Name.{Name}
use Rattle.pri_reader.specs.declared.tree.TypeName.{TypeName}
use Rattle.pri_reader.specs.declared.tree.Declared.{Declared}
use Rattle.pri_reader.specs.declared.tree.NameSet.{NameSet}
use Rattle.pri_reader.specs.declared.tree.Item.{Item}
use Rattle.pri_reader.specs.declared.tree.Block.{Block}
use Rattle.pri_reader.specs.declared.tree.File.{File}
use Rattle.pri_reader.specs.Grammar as grammar
use Rattle.pri_reader.specs.Grammar.{Setting, Chain, Part, Takes, all_of_type, Endpoint, IsType, Binding, Derives, Members, Terms, Arguments, Names, Constants, Parameter, Parameters, Declares, Items, ItemLines, Sets, Declaration, Blocks, IsFile}
use Rattle.pri_typing.specs.declared.declaration.Kind.{Kind}
use Rattle.pri_typing.specs.declared.declaration.Kind.TheVariants as kind
use Rattle.pri_typing.specs.declared.declaration.Declaration.{Declaration as OneDeclared}
use Rattle.pri_typing.specs.Scope.{declaration, declared_by, declarations, function_kind}
use Rattle.pri_typing.specs.declared.problem.Problem.{Problem}
use Rattle.pri_typing.specs.Files.{IsTyped}
use Rattle.pri_typing.specs.WellFormed.{HasIdentifiers}
use Rattle.pri_typing.proofs.Names.{Inserted, by_kinds, names_same, one_more}
use Rattle.pri_typing.proofs.Divisions.{behind}

-- What is so of tokens is so of those that are left.

-- a property of lists of tokens that the rest of a list has, too
abbrev IsHanded : (List Lexeme → Type 0) → Type 0
IsHanded P = (x : Lexeme) (xs : List Lexeme) → P (x ∷ xs) → P xs

left : {P : List Lexeme → Type 0} {terminal : Terminal} {x : Lexeme} {tokens rest : List Lexeme} → IsHanded P → Takes terminal x tokens rest → P tokens → P rest
left {P} {x = x} {rest = rest} h t p = h x rest (subst P t.parts p)

endpoint_left : {P : List Lexeme → Type 0} {s : Setting} {value : ℤ} {tokens rest : List Lexeme} → IsHanded P → Endpoint s value tokens rest → P tokens → P rest
endpoint_left h (grammar.endpoint_plain n) p = left h n.takes p
endpoint_left h (grammar.endpoint_minus m n) p = left h n.takes (left h m p)

type_left : {P : List Lexeme → Type 0} {s : Setting} {sort : TypeName} {tokens rest : List Lexeme} → IsHanded P → IsType s sort tokens rest → P tokens → P rest
type_left h (grammar.type_nat x) p = left h x p
type_left h (grammar.type_int x) p = left h x p
type_left h (grammar.type_range x o l c u r) p = left h r (endpoint_left h u (left h c (endpoint_left h l (left h o (left h x p)))))

bound_left : {P : List Lexeme → Type 0} {s : Setting} {several : _} {sort : TypeName} {d e : ℕ} {names : List Declared} {tokens rest : List Lexeme} → IsHanded P
    → Binding s several sort d e names tokens rest → P tokens → P rest
bound_left h (grammar.bound_first i x o) p = left h x (type_left h i p)
bound_left h (grammar.bound_next m c x o) p = left h x (left h c (bound_left h m p))
bound_left h (grammar.bound_line m c i x o) p = left h x (type_left h i (left h c (bound_left h m p)))

mutual
  derived_left : {P : List Lexeme → Type 0} {s : Setting} {d : ℕ} {part : Part} {e : Expr} {tokens rest : List Lexeme} → IsHanded P → Derives s d part e tokens rest → P tokens → P rest
  derived_left h (grammar.right_one u) p = derived_left h u p
  derived_left h (grammar.right_two u t o v) p = derived_left h v (left h t (derived_left h u p))
  derived_left h (grammar.chain_all m) p = members_left h m p
  derived_left h (grammar.unary_not t o u) p = derived_left h u (left h t p)
  derived_left h (grammar.unary_bound t m c u) p = derived_left h u (left h c (bound_left h m (left h t p)))
  derived_left h (grammar.unary_grouped t o m c u) p = derived_left h u (left h c (bound_left h m (left h o (left h t p))))
  derived_left h (grammar.unary_part t o b m c u) p = derived_left h u (left h c (left h m (left h b (left h t p))))
  derived_left h (grammar.unary_rel u) p = derived_left h u p
  derived_left h (grammar.rel_one u) p = derived_left h u p
  derived_left h (grammar.rel_two u t v) p = derived_left h v (left h t (derived_left h u p))
  derived_left h (grammar.sum_all m) p = terms_left h m p
  derived_left h (grammar.factor_minus t o u) p = derived_left h u (left h t p)
  derived_left h (grammar.factor_primary u) p = derived_left h u p
  derived_left h (grammar.number t small) p = left h t p
  derived_left h (grammar.truth t) p = left h t p
  derived_left h (grammar.use_bare t) p = left h t p
  derived_left h (grammar.use_empty t o b c) p = left h c (left h o (left h t p))
  derived_left h (grammar.use_applied t o b m c) p = left h c (arguments_left h m (left h o (left h t p)))
  derived_left h (grammar.group t u) p = derived_left h u p
  derived_left h (grammar.conditional t u y v z w) p = derived_left h w (left h z (derived_left h v (left h y (derived_left h u (left h t p)))))
  derived_left h (grammar.absolute t u) p = derived_left h u (left h t p)
  derived_left h (grammar.pair max t o b u c v e) p = left h e (derived_left h v (left h c (derived_left h u (left h o (left h t p)))))
  derived_left h (grammar.parentheses o b u c) p = left h c (derived_left h u (left h o p))

  members_left : {P : List Lexeme → Type 0} {s : Setting} {d : ℕ} {c : Chain} {fs : List Expr} {f : Expr} {tokens rest : List Lexeme} → IsHanded P → Members s d c fs f tokens rest → P tokens → P rest
  members_left h (grammar.member_first u) p = derived_left h u p
  members_left h (grammar.member_next m t u) p = derived_left h u (left h t (members_left h m p))

  terms_left : {P : List Lexeme → Type 0} {s : Setting} {d : ℕ} {before : List Added} {sign : _} {f : Expr} {tokens rest : List Lexeme} → IsHanded P → Terms s d before sign f tokens rest → P tokens → P rest
  terms_left h (grammar.term_first u) p = derived_left h u p
  terms_left h (grammar.term_next m t u) p = derived_left h u (left h t (terms_left h m p))

  arguments_left : {P : List Lexeme → Type 0} {s : Setting} {d : ℕ} {fs : List Expr} {f : Expr} {tokens rest : List Lexeme} → IsHanded P → Arguments s d fs f tokens rest → P tokens → P rest
  arguments_left h (grammar.argument_first u) p = derived_left h u p
  arguments_left h (grammar.argument_next m t u) p = derived_left h u (left h t (arguments_left h m p))

parameter_left : {P : List Lexeme → Type 0} {tokens rest : List Lexeme} → IsHanded P → Parameter tokens rest → P tokens → P rest
parameter_left h (grammar.parameter_bare i) p = left h i p
parameter_left h (grammar.parameter_named i x) p = left h x (left h i p)

parameters_left : {P : List Lexeme → Type 0} {n : ℕ} {tokens rest : List Lexeme} → IsHanded P → Parameters n tokens rest → P tokens → P rest
parameters_left h (grammar.parameters_first i) p = parameter_left h i p
parameters_left h (grammar.parameters_next m c i) p = parameter_left h i (left h c (parameters_left h m p))

-- Names.

-- the identifiers among the tokens are written as identifiers
abbrev pub AreTold : Setting → List Lexeme → Type 0
AreTold s = AllByRecursion (λ x. x.terminal ≡ t.Identifier → IsIdentifier (text_of s.bytes x))

handed : (s : Setting) → IsHanded (AreTold s)
handed s x xs h = h.1

told_name : (s : Setting) {x : Lexeme} {tokens rest : List Lexeme} → Takes t.Identifier x tokens rest → AreTold s tokens → IsIdentifier (text_of s.bytes x)
told_name s h k = (subst (AreTold s) h.parts k).0 h.is

abbrev pub AreNamed : List Name → Type 0
AreNamed = AllByRecursion (λ n. IsIdentifier n.text)

abbrev AreItemsNamed : List Item → Type 0
AreItemsNamed = AllByRecursion (λ i. IsIdentifier i.name.text)

pub join : {A : Type 0} (P : A → Type 0) (xs ys : List A) → AllByRecursion P xs → AllByRecursion P ys → AllByRecursion P (xs ++ ys)
join P [] ys h k = k
join P (x ∷ xs) ys h k = (h.0, join P xs ys h.1 k)

names_told : {s : Setting} {names : List Name} {tokens rest : List Lexeme} → Names s names tokens rest → AreTold s tokens → AreNamed names × AreTold s rest
names_told {s} (grammar.names_first t) k = ((told_name s t k, tt), left (handed s) t k)
names_told {s} (grammar.names_next {names = names} m c t) k =
    let before = names_told m k in
    let comma = left (handed s) c before.1 in
    (behind (λ n. IsIdentifier n.text) names _ before.0 (told_name s t comma), left (handed s) t comma)

abbrev AreConstantsNamed : List Declared → Type 0
AreConstantsNamed = AllByRecursion (λ n. IsIdentifier n.name.text)

typed_named : (sort : TypeName) (names : List Name) → AreNamed names → AreConstantsNamed (all_of_type sort names)
typed_named sort [] h = tt
typed_named sort (n ∷ names) h = (h.0, typed_named sort names h.1)

constants_told : {s : Setting} {names : List Declared} {tokens rest : List Lexeme} → Constants s names tokens rest → AreTold s tokens → AreConstantsNamed names × AreTold s rest
constants_told grammar.constants_none k = (tt, k)
constants_told {s} (grammar.constants_line {sort = sort} {names = names} {more = more} m i n c) k =
    let before = constants_told m k in
    let new = names_told n (type_left (handed s) i before.1) in
    (join (λ n. IsIdentifier n.name.text) names (all_of_type sort more) before.0 (typed_named sort more new.0), left (handed s) c new.1)

item_told : {s : Setting} {i : Item} {tokens rest : List Lexeme} → Declares s i tokens rest → AreTold s tokens → IsIdentifier i.name.text × AreTold s rest
item_told {s} (grammar.item_bare x) k = (told_name s x k, left (handed s) x k)
item_told {s} (grammar.item_empty x o c) k = (told_name s x k, left (handed s) c (left (handed s) o (left (handed s) x k)))
item_told {s} (grammar.item_applied x o m c) k = (told_name s x k, left (handed s) c (parameters_left (handed s) m (left (handed s) o (left (handed s) x k))))

items_told : {s : Setting} {items : List Item} {tokens rest : List Lexeme} → Items s items tokens rest → AreTold s tokens → AreItemsNamed items × AreTold s rest
items_told (grammar.items_first i) k = let one = item_told i k in ((one.0, tt), one.1)
items_told {s} (grammar.items_next {items = items} m c i) k =
    let before = items_told m k in
    let one = item_told i (left (handed s) c before.1) in
    (behind (λ i. IsIdentifier i.name.text) items _ before.0 one.0, one.1)

lines_told : {s : Setting} {typed : _} {items : List Item} {tokens rest : List Lexeme} → ItemLines s typed items tokens rest → AreTold s tokens → AreItemsNamed items × AreTold s rest
lines_told grammar.lines_none k = (tt, k)
lines_told {s} (grammar.line_function {items = items} {more = more} m i n c) k =
    let before = lines_told m k in
    let new = items_told n (left (handed s) i before.1) in
    (join (λ i. IsIdentifier i.name.text) items more before.0 new.0, left (handed s) c new.1)
lines_told {s} (grammar.line_predicate {items = items} {more = more} m n c) k =
    let before = lines_told m k in
    let new = items_told n before.1 in
    (join (λ i. IsIdentifier i.name.text) items more before.0 new.0, left (handed s) c new.1)

sets_told : {s : Setting} {before : List NameSet} {start : _} {names : List Name} {tokens rest : List Lexeme} → Sets s before start names tokens rest → AreTold s tokens → AreTold s rest
sets_told (grammar.sets_first n) k = (names_told n k).1
sets_told {s} (grammar.sets_next m c n) k = (names_told n (left (handed s) c (sets_told m k))).1

-- Declarations.

abbrev AreDeclared : List OneDeclared → Type 0
AreDeclared = AllByRecursion (λ d. IsIdentifier d.text)

declared_names : (k : Kind) (names : List Declared) → AreConstantsNamed names → AreDeclared (map (λ n. declaration k n.name) names)
declared_names k [] h = tt
declared_names k (n ∷ names) h = (h.0, declared_names k names h.1)

declared_functions : (items : List Item) → AreItemsNamed items → AreDeclared (map (λ i. declaration (function_kind i.arity) i.name) items)
declared_functions [] h = tt
declared_functions (i ∷ items) h = (h.0, declared_functions items h.1)

declared_predicates : (items : List Item) → AreItemsNamed items → AreDeclared (map (λ i. declaration (kind.Predicate i.arity) i.name) items)
declared_predicates [] h = tt
declared_predicates (i ∷ items) h = (h.0, declared_predicates items h.1)

block_told : {s : Setting} {b : Block} {tokens rest : List Lexeme} → Declaration s b tokens rest → AreTold s tokens → AreDeclared (declared_by b) × AreTold s rest
block_told {s} (grammar.block_constants true x o n c) k =
    let names = constants_told n (left (handed s) o (left (handed s) x k)) in (declared_names kind.Universal _ names.0, left (handed s) c names.1)
block_told {s} (grammar.block_constants false x o n c) k =
    let names = constants_told n (left (handed s) o (left (handed s) x k)) in (declared_names kind.Existential _ names.0, left (handed s) c names.1)
block_told {s} (grammar.block_items true x o n c) k =
    let items = lines_told n (left (handed s) o (left (handed s) x k)) in (declared_functions _ items.0, left (handed s) c items.1)
block_told {s} (grammar.block_items false x o n c) k =
    let items = lines_told n (left (handed s) o (left (handed s) x k)) in (declared_predicates _ items.0, left (handed s) c items.1)
block_told {s} (grammar.block_problem x o u c) k = (tt, left (handed s) c (derived_left (handed s) u (left (handed s) o (left (handed s) x k))))
block_told {s} (grammar.block_interpolant x o m l c) k = (tt, left (handed s) c (sets_told m (left (handed s) o (left (handed s) x k))))

declarations_behind : (blocks : List Block) (b : Block) → declarations (blocks ++ b ∷ []) ≡ declarations blocks ++ declared_by b
declarations_behind blocks b = flat_map-append declared_by blocks (b ∷ []) ∙ ap (λ z. declarations blocks ++ z) (append-nil (declared_by b))

blocks_told : {s : Setting} {blocks : List Block} {tokens rest : List Lexeme} → Blocks s blocks tokens rest → AreTold s tokens → AreDeclared (declarations blocks) × AreTold s rest
blocks_told grammar.blocks_none k = (tt, k)
blocks_told (grammar.blocks_next {blocks = blocks} {b = b} m d n) k =
    let before = blocks_told m k in
    let new = block_told d before.1 in
    (subst AreDeclared (sym (declarations_behind blocks b)) (join (λ d. IsIdentifier d.text) (declarations blocks) (declared_by b) before.0 new.0), new.1)

-- The tokens of a text.

all_told : (s : Setting) (xs : List Lexeme) → AllByRecursion (λ x. IsWritten x.terminal (text_of s.bytes x)) xs → AreTold s xs
all_told s [] h = tt
all_told s (x ∷ xs) h = (λ e. subst (λ z. IsWritten z (text_of s.bytes x)) e h.0, all_told s xs h.1)

pub told : (s : Setting) → AreTold s (lexemes_of s.bytes)
told s = all_told s (lexemes_of s.bytes) (recursion_from_All (λ x. IsWritten x.terminal (text_of s.bytes x)) (lexemes_of s.bytes) (written s.bytes))

-- the names that a file of these bytes declares are identifiers
pub file_identified : (s : Setting) (f : File) → IsFile s f (lexemes_of s.bytes) → All (λ d. IsIdentifier d.text) (declarations f.blocks)
file_identified s f h = All-from_recursion (λ d. IsIdentifier d.text) (declarations f.blocks) (blocks_told h.blocks_are (told s)).0

-- Symbols by their kinds.

pub split : {A : Type 0} (P : A → Type 0) (xs ys : List A) → AllByRecursion P (xs ++ ys) → AllByRecursion P xs × AllByRecursion P ys
split P [] ys h = (tt, h)
split P (x ∷ xs) ys h = let rest = split P xs ys h.1 in ((h.0, rest.0), rest.1)

inserted : (P : List ℕ → Type 0) (t : List ℕ) (old new : List (List ℕ)) → Inserted t old new → P t → AllByRecursion P old → AllByRecursion P new
inserted P t old new i p h =
    let both = split P i.front i.back (subst (AllByRecursion P) i.old_is h) in
    subst (AllByRecursion P) (sym i.new_is) (join P i.front (t ∷ i.back) both.0 (p, both.1))

kinds_identified : (ds : List OneDeclared) → AreDeclared ds → AllByRecursion IsIdentifier (by_kinds ds)
kinds_identified [] h = tt
kinds_identified (d ∷ ds) h = inserted IsIdentifier d.text (by_kinds ds) (by_kinds (d ∷ ds)) (one_more d ds) h.0 (kinds_identified ds h.1)

-- the names of a problem's symbols are identifiers, where those that its file declares are
pub names_identified : (f : File) (p : Problem) → IsTyped f p → All (λ d. IsIdentifier d.text) (declarations f.blocks) → HasIdentifiers p
names_identified f p t h =
    let ds = declarations f.blocks in
    subst (All IsIdentifier) (sym (names_same ds p t.existentials t.universals t.functions t.predicates))
    (All-from_recursion IsIdentifier (by_kinds ds) (kinds_identified ds (recursion_from_All (λ d. IsIdentifier d.text) ds h)))
