-- A file that asks for a cut has no existential constant.
use Rattle.std.proofs.Common.{◌≡◌, ℕ, ◌≤◌, Bool, true, false, List, [], ◌∷◌, ◌++◌, length, nat_lt, refl, ap, subst, ◌∙◌, arith, flat_map, if◌then◌else◌}
use Rattle.std.specs.List.{list_any}
use Rattle.pri_reader.specs.declared.tree.NameSet.{NameSet}
use Rattle.pri_reader.specs.declared.tree.File.{File}
use Rattle.pri_reader.specs.declared.tree.Block.{Block}
use Rattle.pri_reader.specs.declared.tree.Block.TheVariants as block
use Rattle.pri_typing.specs.declared.problem.Problem.{Problem}
use Rattle.pri_typing.specs.declared.problem.TypeRefusal.TheVariants.{Parts}
use Rattle.pri_typing.specs.declared.scope.Category.TheVariants as category
use Rattle.pri_typing.specs.Phrase.{first_token}
use Rattle.pri_typing.specs.Scope.{declarations, existentials}
use Rattle.pri_typing.specs.Faults.{faults}
use Rattle.pri_typing.specs.Typing.{distinct_from, part_names}
use Rattle.base_texts.specs.Texts.{misses}
use Rattle.pri_typing.specs.Parts.{name_faults, names_of, cut_faults, block_faults, is_cut, cuts_in}
use Rattle.pri_typing.specs.Files.{declaration_faults, problem_of, scope_of, parts_faults, file_faults, has_existential, IsTyped}
use Rattle.pri_typing.proofs.WellFormed.{nil_split}
use Rattle.pri_typing.proofs.Divisions.{no_fault}
use Rattle.pri_typing.proofs.Formed.{cut_free, some_cut}

-- a block that asks for a cut, without faults, stands in a file without existential constants
sets_alone : (parts : List (List ℕ)) (existential : Bool) (at : ℕ) (sets : List NameSet) → cut_faults parts existential at sets ≡ [] → existential ≡ false
sets_alone parts existential at sets e =
    no_fault existential at
    (nil_split (name_faults parts [] (names_of sets) ++ (if misses parts (distinct_from [] (names_of sets)) then Parts at ∷ [] else [])) (if existential then Parts at ∷ [] else []) e).1

blocks_alone : (parts : List (List ℕ)) (existential : Bool) (blocks : List Block) → list_any is_cut blocks ≡ true → flat_map (block_faults parts existential) blocks ≡ [] → existential ≡ false
blocks_alone parts existential [] c e = absurd cc
blocks_alone parts existential (block.Interpolant at sets ∷ blocks) c e =
    sets_alone parts existential at sets (nil_split (cut_faults parts existential at sets) (flat_map (block_faults parts existential) blocks) e).0
blocks_alone parts existential (block.Universals at names ∷ blocks) c e = blocks_alone parts existential blocks c e
blocks_alone parts existential (block.Existentials at names ∷ blocks) c e = blocks_alone parts existential blocks c e
blocks_alone parts existential (block.Functions at items ∷ blocks) c e = blocks_alone parts existential blocks c e
blocks_alone parts existential (block.Predicates at items ∷ blocks) c e = blocks_alone parts existential blocks c e
blocks_alone parts existential (block.Problem at f ∷ blocks) c e = blocks_alone parts existential blocks c e

no_members : {A : Type 0} (xs : List A) → nat_lt 0 (length xs) ≡ false → xs ≡ []
no_members [] e = refl
no_members (x ∷ xs) e = absurd (grind (arith, e))

pub cut_alone : (f : File) (p : Problem) → file_faults f ≡ [] → IsTyped f p → 1 ≤ length p.cuts → p.existentials ≡ []
cut_alone f p e t some =
    let ds = declarations f.blocks in
    let q = problem_of f.blocks in
    let parts = part_names q in
    let own = faults (scope_of f.blocks) category.Formula (first_token q) q in
    let of_parts = (nil_split (declaration_faults [] ds ++ own) (parts_faults parts (has_existential ds) f.blocks q) e).1 in
    let cuts_are = t.cuts ∙ ap (λ z. flat_map (cuts_in z) f.blocks) t.parts in
    let asks = some_cut parts f.blocks (subst (λ z. 1 ≤ length z) cuts_are some) in
    let free = cut_free parts (has_existential ds) f.blocks q asks of_parts in
    t.existentials ∙ no_members (existentials ds) (blocks_alone parts (has_existential ds) f.blocks asks free.1)
