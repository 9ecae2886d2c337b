-- Each constant of a file has a type, whose endpoints are in the range.
use Rattle.std.proofs.Common.{◌≡◌, ℕ, zero, suc, ◌+◌, ◌<◌, take, get_or, append_assoc, true, false, List, [], ◌∷◌, ◌++◌, map, length, refl, sym, ap, ◌∙◌, subst, flat_map, filter_map, length-append}
use Rattle.std.specs.List.{AllByRecursion, cons_option}
use Rattle.std.proofs.lemmas.Grind.{flat_map-append}
use Rattle.std.proofs.lemmas.List.{append-nil, map-append, take_more}
use Rattle.std.proofs.lemmas.List.Elements.{filter_map-append}
use Rattle.pri_tokens.specs.declared.terminals.Lexeme.{Lexeme}
use Rattle.pri_reader.specs.declared.tree.Name.{Name}
use Rattle.pri_reader.specs.declared.tree.TypeName.{TypeName}
use Rattle.pri_reader.specs.declared.tree.Declared.{Declared}
use Rattle.pri_reader.specs.declared.tree.Item.{Item}
use Rattle.pri_reader.specs.declared.tree.Block.{Block}
use Rattle.pri_reader.specs.declared.tree.Block.TheVariants as block
use Rattle.pri_reader.specs.declared.tree.File.{File}
use Rattle.pri_reader.specs.Grammar as grammar
use Rattle.pri_reader.specs.Grammar.{Setting, all_of_type, Constants, Declaration, Blocks, IsFile}
use Rattle.form_typed.specs.declared.typed.Sort.{Sort}
use Rattle.pri_typing.specs.declared.declaration.Kind.TheVariants.{Existential, Universal, Predicate}
use Rattle.pri_typing.specs.Scope.{declaration, declared_by, declarations, existentials, universals, existential_text, universal_text, function_kind}
use Rattle.form_typed.specs.Sorts.{IsSortRanged}
use Rattle.pri_typing.specs.Sorts.{sort_of, sorts_of, function_sort, existential_sorts, universal_sorts}
use Rattle.pri_typing.proofs.Identified.{join}
use Rattle.pri_typing.proofs.Ranged.{IsSmall, AreNamesRanged, type_ranged}

-- As many types as constants.

existential_names : (names : List Declared) → length (sorts_of names) ≡ length (existentials (map (λ n. declaration Existential n.name) names))
existential_names [] = refl
existential_names (n ∷ names) = ap suc (existential_names names)

universal_names : (names : List Declared) → length (sorts_of names) ≡ length (universals (map (λ n. declaration Universal n.name) names))
universal_names [] = refl
universal_names (n ∷ names) = ap suc (universal_names names)

no_existential : (names : List Declared) → 0 ≡ length (existentials (map (λ n. declaration Universal n.name) names))
no_existential [] = refl
no_existential (n ∷ names) = no_existential names

no_universal : (names : List Declared) → 0 ≡ length (universals (map (λ n. declaration Existential n.name) names))
no_universal [] = refl
no_universal (n ∷ names) = no_universal names

-- a function is no existential constant, and a universal one where it has no arguments
function_texts : (n : ℕ) (name : Name) (more : List (List ℕ)) → cons_option (existential_text (declaration (function_kind n) name)) more ≡ more
function_texts zero name more = refl
function_texts (suc n) name more = refl

no_existential_function : (items : List Item) → 0 ≡ length (existentials (map (λ i. declaration (function_kind i.arity) i.name) items))
no_existential_function [] = refl
no_existential_function (i ∷ items) = no_existential_function items ∙ ap length (sym (function_texts i.arity i.name (existentials (map (λ i. declaration (function_kind i.arity) i.name) items))))

sort_with : (n : ℕ) (name : Name) (sorts : List Sort) (more : List (List ℕ)) → length sorts ≡ length more
    → length (cons_option (function_sort (record { name = name; arity = n })) sorts) ≡ length (cons_option (universal_text (declaration (function_kind n) name)) more)
sort_with zero name sorts more h = ap suc h
sort_with (suc n) name sorts more h = h

universal_functions : (items : List Item) → length (filter_map function_sort items) ≡ length (universals (map (λ i. declaration (function_kind i.arity) i.name) items))
universal_functions [] = refl
universal_functions (i ∷ items) = sort_with i.arity i.name (filter_map function_sort items) (universals (map (λ i. declaration (function_kind i.arity) i.name) items)) (universal_functions items)

no_existential_predicate : (items : List Item) → 0 ≡ length (existentials (map (λ i. declaration (Predicate i.arity) i.name) items))
no_existential_predicate [] = refl
no_existential_predicate (i ∷ items) = no_existential_predicate items

no_universal_predicate : (items : List Item) → 0 ≡ length (universals (map (λ i. declaration (Predicate i.arity) i.name) items))
no_universal_predicate [] = refl
no_universal_predicate (i ∷ items) = no_universal_predicate items

existential_block : (b : Block) → length (existential_sorts b) ≡ length (existentials (declared_by b))
existential_block (block.Existentials at names) = existential_names names
existential_block (block.Universals at names) = no_existential names
existential_block (block.Functions at items) = no_existential_function items
existential_block (block.Predicates at items) = no_existential_predicate items
existential_block (block.Problem at e) = refl
existential_block (block.Interpolant at sets) = refl

universal_block : (b : Block) → length (universal_sorts b) ≡ length (universals (declared_by b))
universal_block (block.Existentials at names) = no_universal names
universal_block (block.Universals at names) = universal_names names
universal_block (block.Functions at items) = universal_functions items
universal_block (block.Predicates at items) = no_universal_predicate items
universal_block (block.Problem at e) = refl
universal_block (block.Interpolant at sets) = refl

both_lengths : {A B : Type 0} (xs xs' : List A) (ys ys' : List B) → length xs ≡ length ys → length xs' ≡ length ys' → length (xs ++ xs') ≡ length (ys ++ ys')
both_lengths xs xs' ys ys' h k = length-append xs xs' ∙ ap (λ z. z + length xs') h ∙ ap (λ z. length ys + z) k ∙ sym (length-append ys ys')

pub existential_count : (blocks : List Block) → length (flat_map existential_sorts blocks) ≡ length (existentials (declarations blocks))
existential_count [] = refl
existential_count (b ∷ blocks) =
    both_lengths (existential_sorts b) (flat_map existential_sorts blocks) (existentials (declared_by b)) (existentials (declarations blocks)) (existential_block b) (existential_count blocks)
    ∙ ap length (sym (filter_map-append existential_text (declared_by b) (declarations blocks)))

pub universal_count : (blocks : List Block) → length (flat_map universal_sorts blocks) ≡ length (universals (declarations blocks))
universal_count [] = refl
universal_count (b ∷ blocks) =
    both_lengths (universal_sorts b) (flat_map universal_sorts blocks) (universals (declared_by b)) (universals (declarations blocks)) (universal_block b) (universal_count blocks)
    ∙ ap length (sym (filter_map-append universal_text (declared_by b) (declarations blocks)))

-- The types of the front of a list, and of one more.

pub sorts-take : (names : List Declared) (i : ℕ) (n : Declared) → i < length names → sorts_of (take (i + 1) names) ≡ sorts_of (take i names) ++ sort_of (get_or names i n).sort ∷ []
sorts-take names i n h = ap sorts_of (take_more names i n h) ∙ map-append (λ d. sort_of d.sort) (take i names) (get_or names i n ∷ [])

pub functions-take : (items : List Item) (i : ℕ) (d : Item) → i < length items
    → filter_map function_sort (take (i + 1) items) ≡ filter_map function_sort (take i items) ++ filter_map function_sort (get_or items i d ∷ [])
functions-take items i d h = ap (filter_map function_sort) (take_more items i d h) ∙ filter_map-append function_sort (take i items) (get_or items i d ∷ [])

blocks-take : (of_block : Block → List Sort) (blocks : List Block) (i : ℕ) (b : Block) → i < length blocks
    → flat_map of_block (take (i + 1) blocks) ≡ flat_map of_block (take i blocks) ++ of_block (get_or blocks i b)
blocks-take of_block blocks i b h =
    ap (flat_map of_block) (take_more blocks i b h) ∙ flat_map-append of_block (take i blocks) (get_or blocks i b ∷ [])
    ∙ ap (λ z. flat_map of_block (take i blocks) ++ z) (append-nil (of_block (get_or blocks i b)))

pub existentials-take : (blocks : List Block) (i : ℕ) (b : Block) → i < length blocks
    → flat_map existential_sorts (take (i + 1) blocks) ≡ flat_map existential_sorts (take i blocks) ++ existential_sorts (get_or blocks i b)
existentials-take = blocks-take existential_sorts

pub universals-take : (blocks : List Block) (i : ℕ) (b : Block) → i < length blocks
    → flat_map universal_sorts (take (i + 1) blocks) ≡ flat_map universal_sorts (take i blocks) ++ universal_sorts (get_or blocks i b)
universals-take = blocks-take universal_sorts

pub ruleset sorting = (append_assoc, append-nil, sorts-take, functions-take, existentials-take, universals-take)

-- Their endpoints are in the range.

typed_ranged : (sort : TypeName) (names : List Name) → IsSortRanged (sort_of sort) → AreNamesRanged (all_of_type sort names)
typed_ranged sort [] h = tt {0}
typed_ranged sort (n ∷ names) h = (h, typed_ranged sort names h)

joined : (xs ys : List Declared) → AreNamesRanged xs → AreNamesRanged ys → AreNamesRanged (xs ++ ys)
joined [] ys h k = k
joined (x ∷ xs) ys h k = (h.0, joined xs ys h.1 k)

constants_ranged : {s : Setting} {names : List Declared} {tokens rest : List Lexeme} → IsSmall s → Constants s names tokens rest → AreNamesRanged names
constants_ranged b grammar.constants_none = tt {0}
constants_ranged b (grammar.constants_line {sort = sort} {names = names} {more = more} m i n c) = joined names (all_of_type sort more) (constants_ranged b m) (typed_ranged sort more (type_ranged b i))

function_more : (n : ℕ) (name : Name) (sorts : List Sort) → AllByRecursion IsSortRanged sorts → AllByRecursion IsSortRanged (cons_option (function_sort (record { name = name; arity = n })) sorts)
function_more zero name sorts h = (tt {0}, h)
function_more (suc n) name sorts h = h

function_sorts : (items : List Item) → AllByRecursion IsSortRanged (filter_map function_sort items)
function_sorts [] = tt {0}
function_sorts (i ∷ items) = function_more i.arity i.name (filter_map function_sort items) (function_sorts items)

-- of the types of a block
pub record IsBlockSorted (b : Block) : Type 0 where
  pub existential : AllByRecursion IsSortRanged (existential_sorts b)
  pub universal : AllByRecursion IsSortRanged (universal_sorts b)

block_sorted : {s : Setting} {b : Block} {tokens rest : List Lexeme} → IsSmall s → Declaration s b tokens rest → IsBlockSorted b
block_sorted b (grammar.block_constants true t o n c) = record { existential = tt {0}; universal = constants_ranged b n }
block_sorted b (grammar.block_constants false t o n c) = record { existential = constants_ranged b n; universal = tt {0} }
block_sorted b (grammar.block_items true {items = items} t o n c) = record { existential = tt {0}; universal = function_sorts items }
block_sorted b (grammar.block_items false t o n c) = record { existential = tt {0}; universal = tt {0} }
block_sorted b (grammar.block_problem t o u c) = record { existential = tt {0}; universal = tt {0} }
block_sorted b (grammar.block_interpolant t o m l c) = record { existential = tt {0}; universal = tt {0} }

behind_sorts : (of_block : Block → List Sort) (blocks : List Block) (b : Block) → AllByRecursion IsSortRanged (flat_map of_block blocks) → AllByRecursion IsSortRanged (of_block b)
    → AllByRecursion IsSortRanged (flat_map of_block (blocks ++ b ∷ []))
behind_sorts of_block blocks b h k =
    subst (AllByRecursion IsSortRanged) (sym (flat_map-append of_block blocks (b ∷ []) ∙ ap (λ z. flat_map of_block blocks ++ z) (append-nil (of_block b))))
    (join IsSortRanged (flat_map of_block blocks) (of_block b) h k)

pub record AreBlocksSorted (blocks : List Block) : Type 0 where
  pub existential : AllByRecursion IsSortRanged (flat_map existential_sorts blocks)
  pub universal : AllByRecursion IsSortRanged (flat_map universal_sorts blocks)

blocks_sorted : {s : Setting} {blocks : List Block} {tokens rest : List Lexeme} → IsSmall s → Blocks s blocks tokens rest → AreBlocksSorted blocks
blocks_sorted s grammar.blocks_none = record { existential = tt {0}; universal = tt {0} }
blocks_sorted s (grammar.blocks_next {blocks = blocks} {b = b} m d n) =
    let before = blocks_sorted s m in
    let new = block_sorted s d in
    record { existential = behind_sorts existential_sorts blocks b before.existential new.existential; universal = behind_sorts universal_sorts blocks b before.universal new.universal }

-- the types of the constants of a file that is derived within the limit
pub file_sorted : {s : Setting} {f : File} {tokens : List Lexeme} → IsSmall s → IsFile s f tokens → AreBlocksSorted f.blocks
file_sorted b h = blocks_sorted b h.blocks_are
