-- The sets of a cut without faults divide the parts among them.
use Rattle.std.proofs.Common.{◌≡◌, ℕ, zero, suc, ◌<◌, ◌≤◌, Bool, true, false, ◌||◌, not, List, [], ◌∷◌, ◌++◌, map, length, get_or, nat_eq, refl, sym, ap, subst, ◌∙◌, arith, if◌then◌else◌, Contains, All, flat_map, Option, length-append}
use Rattle.std.specs.List.{AllByRecursion, IsDistinct, concat, list_any}
use Rattle.std.proofs.lemmas.List.{map-append, length-map}
use Rattle.std.proofs.lemmas.List.Elements.{All-from_recursion, recursion_from_All, All-nil, All-cons, All-append}
use Rattle.pri_tokens.specs.declared.terminals.Lexeme.{Lexeme}
use Rattle.pri_reader.specs.declared.tree.Name.{Name}
use Rattle.pri_reader.specs.declared.tree.NameSet.{NameSet}
use Rattle.pri_reader.specs.declared.tree.Block.{Block}
use Rattle.pri_reader.specs.declared.tree.Block.TheVariants as block
use Rattle.pri_reader.specs.Grammar.{Setting, Names, names_first, names_next, Sets, sets_first, sets_next, Declaration, block_constants, block_items, block_problem, block_interpolant, Blocks, blocks_none, blocks_next}
use Rattle.pri_typing.specs.declared.problem.TypeRefusal.TheVariants.{Parts}
use Rattle.base_texts.specs.Texts.{is_among, with_text, place, misses}
use Rattle.pri_typing.specs.Typing.{distinct_from}
use Rattle.pri_typing.specs.Parts.{own_name_faults, name_faults, names_of, cut_faults, block_faults, cut_of, cuts_in, is_cut}
use Rattle.pri_typing.specs.Limits.{AreSets, HasSets}
use Rattle.pri_typing.specs.WellFormed.{IsDivision}
use Rattle.pri_typing.proofs.WellFormed.{nil_cons, nil_split, place_below}
use Rattle.pri_typing.proofs.Distinct.{with_among, with_self, AreOnce, place_element, same_place, places, added_place}

-- Names of parts, each given once.

abbrev AreFree : List (List ℕ) → List (List ℕ) → List Name → Type 0
AreFree parts given [] = Unit {0}
AreFree parts given (n ∷ names) = (is_among n.text parts ≡ true) × (is_among n.text given ≡ false) × AreFree parts (with_text n.text given) names

own_free : (known given : Bool) (at : ℕ) → own_name_faults known given at ≡ [] → (known ≡ true) × (given ≡ false)
own_free true true at e = absurd (nil_cons _ _ e)
own_free true false at e = (refl, refl)
own_free false given at e = absurd (nil_cons _ _ e)

are_free : (parts given : List (List ℕ)) (names : List Name) → name_faults parts given names ≡ [] → AreFree parts given names
are_free parts given [] e = tt {0}
are_free parts given (n ∷ names) e =
    let free = nil_split (own_name_faults (is_among n.text parts) (is_among n.text given) n.at) (name_faults parts (with_text n.text given) names) e in
    let own = own_free (is_among n.text parts) (is_among n.text given) n.at free.0 in
    (own.0, own.1, are_free parts (with_text n.text given) names free.1)

below : (parts given : List (List ℕ)) (names : List Name) → AreFree parts given names → AllByRecursion (λ k. k < length parts) (places parts names)
below parts given [] h = tt
below parts given (n ∷ names) h = (place_below n.text parts h.0, below parts (with_text n.text given) names h.2)

other_place : (t u : List ℕ) (parts given : List (List ℕ)) → is_among t parts ≡ true → is_among u parts ≡ true → is_among t given ≡ true → is_among u given ≡ false
    → nat_eq (place t parts) (place u parts) ≡ false
other_place t u parts given h k g e = by (nat_eq (place t parts) (place u parts)) refl
  where
    clash : place t parts ≡ place u parts → ⊥
    clash same = absurd (no (sym g ∙ ap (λ z. is_among z given) (same_place t u parts h k same) ∙ e))
      where
        no : true ≡ false → ⊥
        no d = absurd cc

    by : (b : Bool) → nat_eq (place t parts) (place u parts) ≡ b → b ≡ false
    by true d = absurd (clash (grind (arith, d)))
    by false d = refl

later_differ : (t : List ℕ) (parts given : List (List ℕ)) (names : List Name) → is_among t parts ≡ true → is_among t given ≡ true → AreFree parts given names
    → AllByRecursion (λ y. nat_eq (place t parts) y ≡ false) (places parts names)
later_differ t parts given [] h g f = tt
later_differ t parts given (n ∷ names) h g f =
    (other_place t n.text parts given h f.0 g f.1, later_differ t parts (with_text n.text given) names h (with_among t n.text given g) f.2)

once : (parts given : List (List ℕ)) (names : List Name) → AreFree parts given names → IsDistinct nat_eq (places parts names)
unfolding IsDistinct
once parts given [] h = tt
once parts given (n ∷ names) h =
    (later_differ n.text parts (with_text n.text given) names h.0 (with_self n.text given) h.2, once parts (with_text n.text given) names h.2)

-- No part is missing.

given_all : (parts given : List (List ℕ)) (k : ℕ) → misses parts given ≡ false → k < length parts → is_among (get_or parts k []) given ≡ true
given_all [] given k e h = absurd (omega arith)
given_all (x ∷ parts) given zero e h = by (is_among x given) e
  where
    by : (b : Bool) → (not b || misses parts given) ≡ false → b ≡ true
    by true d = refl
    by false d = absurd cc
given_all (x ∷ parts) given (suc k) e h = given_all parts given k (by (is_among x given) e) (omega arith)
  where
    by : (b : Bool) → (not b || misses parts given) ≡ false → misses parts given ≡ false
    by true d = d
    by false d = absurd cc

-- each part is the place of a name, where the names give each part
pub each_place : (parts : List (List ℕ)) (names : List Name) (k : ℕ) → AreOnce parts → k < length parts → is_among (get_or parts k []) (distinct_from [] names) ≡ true
    → Contains (places parts names) k
each_place parts names k o h g = subst (λ z. Contains (places parts names) z) (place_element parts k o h) (added_place (get_or parts k []) parts [] names refl g)

pub no_fault : (b : Bool) (at : ℕ) → (if b then Parts at ∷ [] else []) ≡ [] → b ≡ false
no_fault true at e = absurd (nil_cons _ _ e)
no_fault false at e = refl

-- Sets.

numbers_are : (parts : List (List ℕ)) (sets : List NameSet) → concat (map (λ s. places parts s.names) sets) ≡ places parts (names_of sets)
numbers_are parts [] = refl
numbers_are parts (s ∷ sets) = ap (λ z. places parts s.names ++ z) (numbers_are parts sets) ∙ sym (map-append (λ n. place n.text parts) s.names (names_of sets))

filled_sets : (parts : List (List ℕ)) (sets : List NameSet) → AllByRecursion (λ s. 1 ≤ length s.names) sets → AllByRecursion (λ set. 1 ≤ length set) (map (λ s. places parts s.names) sets)
filled_sets parts [] h = tt
filled_sets parts (s ∷ sets) h = (subst (λ z. 1 ≤ z) (sym (length-map s.names (λ n. place n.text parts))) h.0, filled_sets parts sets h.1)

pub division : (parts : List (List ℕ)) (existential : Bool) (at : ℕ) (sets : List NameSet) → AreOnce parts → AreSets sets → cut_faults parts existential at sets ≡ []
    → IsDivision (length parts) (cut_of parts sets)
division parts existential at sets o h e =
    let names = names_of sets in
    let front = nil_split (name_faults parts [] names ++ (if misses parts (distinct_from [] names) then Parts at ∷ [] else [])) (if existential then Parts at ∷ [] else []) e in
    let both = nil_split (name_faults parts [] names) (if misses parts (distinct_from [] names) then Parts at ∷ [] else []) front.0 in
    let free = are_free parts [] names both.0 in
    let all = no_fault (misses parts (distinct_from [] names)) at both.1 in
    let numbers = sym (numbers_are parts sets) in
    record {
      several = subst (λ z. 2 ≤ z) (sym (length-map sets (λ s. places parts s.names))) h.several;
      filled = All-from_recursion (λ set. 1 ≤ length set) (map (λ s. places parts s.names) sets) (filled_sets parts sets (recursion_from_All (λ s. 1 ≤ length s.names) sets h.filled));
      below = subst (All (λ k. k < length parts)) numbers (All-from_recursion (λ k. k < length parts) (places parts names) (below parts [] names free));
      whole = λ k l. subst (λ z. Contains z k) numbers (each_place parts names k o l (given_all parts (distinct_from [] names) k all l));
      once = subst (IsDistinct nat_eq) numbers (once parts [] names free);
    }

-- Blocks.

pub divisions : (parts : List (List ℕ)) (existential : Bool) (blocks : List Block) → AreOnce parts → AllByRecursion HasSets blocks
    → flat_map (block_faults parts existential) blocks ≡ [] → All (IsDivision (length parts)) (flat_map (cuts_in parts) blocks)
divisions parts existential [] o h e = All-nil (IsDivision (length parts))
divisions parts existential (b ∷ blocks) o h e =
    let free = nil_split (block_faults parts existential b) (flat_map (block_faults parts existential) blocks) e in
    All-append (IsDivision (length parts)) (cuts_in parts b) (flat_map (cuts_in parts) blocks) (by b h.0 free.0) (divisions parts existential blocks o h.1 free.1)
  where
    none : All (IsDivision (length parts)) []
    none = All-nil (IsDivision (length parts))

    by : (c : Block) → HasSets c → block_faults parts existential c ≡ [] → All (IsDivision (length parts)) (cuts_in parts c)
    by (block.Interpolant at sets) k l = All-cons (IsDivision (length parts)) (cut_of parts sets) [] (division parts existential at sets o k l) none
    by (block.Universals at names) k l = none
    by (block.Existentials at names) k l = none
    by (block.Functions at items) k l = none
    by (block.Predicates at items) k l = none
    by (block.Problem at f) k l = none

-- a file without blocks that ask for cuts has none
pub no_cuts : (parts : List (List ℕ)) (blocks : List Block) → list_any is_cut blocks ≡ false → flat_map (cuts_in parts) blocks ≡ []
no_cuts parts [] e = refl
no_cuts parts (block.Interpolant at sets ∷ blocks) e = absurd cc
no_cuts parts (block.Universals at names ∷ blocks) e = no_cuts parts blocks e
no_cuts parts (block.Existentials at names ∷ blocks) e = no_cuts parts blocks e
no_cuts parts (block.Functions at items ∷ blocks) e = no_cuts parts blocks e
no_cuts parts (block.Predicates at items ∷ blocks) e = no_cuts parts blocks e
no_cuts parts (block.Problem at f ∷ blocks) e = no_cuts parts blocks e

-- What the grammar says of the sets.

pub behind : {A : Type 0} (P : A → Type 0) (xs : List A) (x : A) → AllByRecursion P xs → P x → AllByRecursion P (xs ++ x ∷ [])
behind P [] x h k = (k, tt)
behind P (y ∷ xs) x h k = (h.0, behind P xs x h.1 k)

long_behind : (names : List Name) (n : Name) → 1 ≤ length (names ++ n ∷ [])
long_behind [] n = omega arith
long_behind (m ∷ names) n = omega arith

named : {s : Setting} {names : List Name} {tokens rest : List Lexeme} → Names s names tokens rest → 1 ≤ length names
named (names_first t) = omega arith
named (names_next {names = names} m c t) = long_behind names _

sets_named : {s : Setting} {before : List NameSet} {start : Option ℕ} {names : List Name} {tokens rest : List Lexeme} → Sets s before start names tokens rest
    → AllByRecursion (λ z. 1 ≤ length z.names) before × (1 ≤ length names)
sets_named (sets_first n) = (tt, named n)
sets_named (sets_next {before = before} m c n) = let both = sets_named m in (behind (λ z. 1 ≤ length z.names) before _ both.0 both.1, named n)

long_sets : (before : List NameSet) (x : NameSet) → 1 ≤ length before → 2 ≤ length (before ++ x ∷ [])
long_sets before x h = let long = length-append before (x ∷ []) in omega (arith, long, h)

cut_proper : {s : Setting} {b : Block} {tokens rest : List Lexeme} → Declaration s b tokens rest → HasSets b
cut_proper (block_constants true t o n c) = tt {0}
cut_proper (block_constants false t o n c) = tt {0}
cut_proper (block_items true t o n c) = tt {0}
cut_proper (block_items false t o n c) = tt {0}
cut_proper (block_problem t o u c) = tt {0}
cut_proper (block_interpolant {before = before} t o m l c) =
    let both = sets_named m in
    record { several = long_sets before _ l; filled = All-from_recursion (λ z. 1 ≤ length z.names) _ (behind (λ z. 1 ≤ length z.names) before _ both.0 both.1) }

pub cuts_proper : {s : Setting} {blocks : List Block} {tokens rest : List Lexeme} → Blocks s blocks tokens rest → AllByRecursion HasSets blocks
cuts_proper blocks_none = tt
cuts_proper (blocks_next {blocks = blocks} {b = b} m d n) = behind HasSets blocks b (cuts_proper m) (cut_proper d)
