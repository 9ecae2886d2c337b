-- What a file that can be resolved, without faults, says of its problem.
use Rattle.std.proofs.Common.{◌≡◌, ℕ, ◌<◌, ◌^◌, List, length, None, Result, Ok, Err, subst, arith}
use Rattle.std.specs.Result.{IfOk, OnOk}
use Rattle.std.proofs.lemmas.List.Elements.{All-from_recursion, recursion_from_All}
use Rattle.pri_tokens.specs.Lexemes.{lexemes_of}
use Rattle.pri_reader.specs.declared.tree.Block.{Block}
use Rattle.pri_reader.specs.declared.tree.File.{File}
use Rattle.pri_reader.specs.Grammar.{IsFile}
use Rattle.pri_reader.specs.Reading.{file_setting}
use Rattle.pri_reader.proofs.SourceFiles.{tokens_length}
use Rattle.pri_typing.specs.declared.problem.Problem.{Problem}
use Rattle.pri_typing.specs.declared.problem.TypeRefusal.{TypeRefusal}
use Rattle.pri_typing.specs.Faults.{least}
use Rattle.pri_typing.specs.Files.{IsTyped, file_faults}
use Rattle.pri_typing.specs.Limits.{HasSets, IsResolvable}
use Rattle.form_typed.specs.Sorts.{IsSortRanged}
use Rattle.pri_typing.specs.WellFormed.{IsWellFormed, HasDistinctNames, HasIdentifiers}
use Rattle.pri_typing.proofs.Counted.{file_counted}
use Rattle.pri_typing.proofs.Least.{least-none}
use Rattle.pri_typing.proofs.Divisions.{cuts_proper}
use Rattle.pri_typing.proofs.Formed.{well_formed, names_differ}
use Rattle.pri_typing.proofs.Identified.{file_identified, names_identified}
use Rattle.pri_typing.proofs.Ranged.{IsSmall, file_ranged}
use Rattle.pri_typing.proofs.Shallow.{file_shallow}
use Rattle.pri_typing.proofs.Sorting.{file_sorted}

-- numerals of a file are below 2^127
file_small : (bytes : List ℕ) → IsSmall (file_setting bytes)
file_small bytes = λ rest n e. grind (arith, e)

-- a file that is read can be resolved
pub file_resolvable : (bytes : List ℕ) (f : File) → length bytes < 2 ^ 32 → IsFile (file_setting bytes) f (lexemes_of bytes) → IsResolvable f.blocks
file_resolvable bytes f few read = record {
  problem = read.problem;
  shallow = file_shallow bytes f (lexemes_of bytes) read;
  countable =
      let parts = file_counted (file_setting bytes) f (lexemes_of bytes) read in
      let tokens = tokens_length 0 0 bytes in
      omega (arith, parts, tokens, few);
  numerals = file_ranged (file_small bytes) read;
  existential_sorts = All-from_recursion IsSortRanged _ (file_sorted (file_small bytes) read).existential;
  universal_sorts = All-from_recursion IsSortRanged _ (file_sorted (file_small bytes) read).universal;
  identifiers = file_identified (file_setting bytes) f read;
  sets = All-from_recursion HasSets f.blocks (cuts_proper read.blocks_are);
}

-- what is so of a problem
pub record IsProper (p : Problem) : Type 0 where
  pub formed : IsWellFormed p
  pub distinct : HasDistinctNames p
  pub identifiers : HasIdentifiers p

pub file_proper : (f : File) (p : Problem) → IsResolvable f.blocks → least (file_faults f) ≡ None → IsTyped f p → IsProper p
file_proper f p h none typed = record {
  formed = well_formed f p (least-none _ none) typed h.numerals h.existential_sorts h.universal_sorts (recursion_from_All HasSets f.blocks h.sets);
  distinct = names_differ f p (least-none _ none) typed;
  identifiers = names_identified f p typed h.identifiers;
}

-- what is answered for the blocks of a file
pub answered : (blocks : List Block) (f : File) (result : Result Problem TypeRefusal) → blocks ≡ f.blocks → IsResolvable f.blocks
    → IfOk result (λ p. IsTyped (record { blocks = blocks }) p) → OnOk result (least (file_faults (record { blocks = blocks })) ≡ None) → IfOk result IsProper
answered blocks f (Ok p) same h typed none =
    file_proper f p h (subst (λ z. least (file_faults (record { blocks = z })) ≡ None) same none) (subst (λ z. IsTyped (record { blocks = z }) p) same typed)
answered blocks f (Err e) same h typed none = tt

pub if_more : {P Q : Problem → Type 0} (result : Result Problem TypeRefusal) → ((p : Problem) → P p → Q p) → IfOk result P → IfOk result Q
if_more (Ok p) w h = w p h
if_more (Err e) w h = tt
