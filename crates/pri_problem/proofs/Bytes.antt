-- Bytes pose at most one problem, or have one first refusal.
use Rattle.std.proofs.Common.{◌≡◌, ◌↔◌, ℕ, ◌^◌, List, length, Some, None, sym, ◌∙◌, ap, subst}
use Rattle.std.proofs.lemmas.Bool.{ltb-true}
use Rattle.std.proofs.lemmas.List.Elements.{All-from_recursion}
use Rattle.pri_tokens.specs.Lexemes.{lexemes_of}
use Rattle.pri_reader.specs.declared.tree.File.{File}
use Rattle.pri_reader.specs.declared.tree.ReadRefusal.{ReadRefusal}
use Rattle.pri_reader.specs.First.{IsFirstRefusal}
use Rattle.pri_reader.specs.Reading.{file_setting}
use Rattle.pri_reader.proofs.CompleteBlocks.{one_file}
use Rattle.pri_reader.proofs.FirstRefusal.{first_none, first_unique}
use Rattle.pri_reader.proofs.SourceFiles.{small_asks, shallow_asks}
use Rattle.pri_typing.specs.declared.problem.Problem.{Problem}
use Rattle.pri_typing.specs.Faults.{least}
use Rattle.pri_typing.specs.Files.{file_faults, IsTyped}
use Rattle.pri_typing.specs.Problems.{IsPure}
use Rattle.pri_typing.specs.WellFormed.{HasDistinctNames, HasIdentifiers, IsWellFormed}
use Rattle.pri_typing.proofs.Least.{least-none}
use Rattle.pri_typing.proofs.Divisions.{cuts_proper}
use Rattle.pri_typing.proofs.Formed.{well_formed, names_differ}
use Rattle.pri_typing.proofs.Identified.{file_identified, names_identified}
use Rattle.pri_typing.proofs.Purity.{first_pure}
use Rattle.pri_typing.proofs.Ranged.{file_ranged}
use Rattle.pri_typing.proofs.Sorting.{file_sorted}
use Rattle.form_typed.specs.Sorts.{IsSortRanged}
use Rattle.pri_problem.specs.Reads.{IsFileOf, Reads, Refusal, unread, untyped, FirstRefusal, AreSame}

pub some_same : {X : Type 0} (x y : X) → Some x ≡ Some y → x ≡ y
some_same x y h = cc

pub same_file : (bytes : List ℕ) (f g : File) → IsFileOf bytes f → IsFileOf bytes g → f ≡ g
same_file bytes f g h k = one_file (file_setting bytes) (lexemes_of bytes) f g h k

typed_same : (f : File) (p q : Problem) → IsTyped f p → IsTyped f q → AreSame p q
typed_same f p q h k = record {
  existentials = h.existentials ∙ sym k.existentials;
  existential_types = h.existential_types ∙ sym k.existential_types;
  universals = h.universals ∙ sym k.universals;
  universal_types = h.universal_types ∙ sym k.universal_types;
  functions = h.functions ∙ sym k.functions;
  predicates = h.predicates ∙ sym k.predicates;
  parts = h.parts ∙ sym k.parts;
  formula = h.formula ∙ sym k.formula;
  cuts = h.cuts ∙ rw (h.parts ∙ sym k.parts) (sym k.cuts);
  first_application = h.first_application ∙ sym k.first_application;
}

pub one_problem : (bytes : List ℕ) (p q : Problem) → Reads bytes p → Reads bytes q → AreSame p q
one_problem bytes p q h k = typed_same k.file p q (subst (λ f. IsTyped f p) (same_file bytes h.file k.file h.read k.read) h.typed) k.typed

-- what is refused by the reader is no file
no_file : (bytes : List ℕ) (f : File) (e : ReadRefusal) → IsFileOf bytes f → IsFirstRefusal (file_setting bytes) (length bytes) (lexemes_of bytes) e → ⊥
no_file bytes f e read h = first_none (file_setting bytes) (length bytes) (lexemes_of bytes) f e (small_asks bytes) (shallow_asks bytes) read h

pub one_refusal : (bytes : List ℕ) (r s : Refusal) → FirstRefusal bytes r → FirstRefusal bytes s → r ≡ s
one_refusal bytes (unread e) (unread g) h k = ap unread (first_unique (file_setting bytes) (length bytes) (lexemes_of bytes) e g (small_asks bytes) (shallow_asks bytes) h k)
one_refusal bytes (unread e) (untyped g) h k = absurd (no_file bytes k.0 e k.1 h)
one_refusal bytes (untyped e) (unread g) h k = absurd (no_file bytes h.0 g h.1 k)
one_refusal bytes (untyped e) (untyped g) h k =
    ap untyped (some_same e g (sym h.2 ∙ ap (λ f. least (file_faults f)) (same_file bytes h.0 k.0 h.1 k.1) ∙ k.2))

pub read_or_refused : (bytes : List ℕ) (p : Problem) (r : Refusal) → Reads bytes p → FirstRefusal bytes r → ⊥
read_or_refused bytes p (unread e) h k = no_file bytes h.file e h.read k
read_or_refused bytes p (untyped e) h k = let same = ap (λ f. least (file_faults f)) (same_file bytes h.file k.0 h.read k.1) in let none = h.sound in let some = k.2 in absurd cc

pub reads_formed : (bytes : List ℕ) (p : Problem) → Reads bytes p → IsWellFormed p
reads_formed bytes p h =
    let sorts = file_sorted (λ rest n small. ltb-true n (2 ^ 127) small) h.read in
    well_formed h.file p (least-none _ h.sound) h.typed (file_ranged (λ rest n small. ltb-true n (2 ^ 127) small) h.read) (All-from_recursion IsSortRanged _ sorts.existential) (All-from_recursion IsSortRanged _ sorts.universal)
    (cuts_proper (h.read).blocks_are)

pub reads_distinct : (bytes : List ℕ) (p : Problem) → Reads bytes p → HasDistinctNames p
reads_distinct bytes p h = names_differ h.file p (least-none _ h.sound) h.typed

pub reads_identifiers : (bytes : List ℕ) (p : Problem) → Reads bytes p → HasIdentifiers p
reads_identifiers bytes p h = names_identified h.file p h.typed (file_identified (file_setting bytes) h.file h.read)

-- a problem has a first application exactly where it has one
pub reads_pure : (bytes : List ℕ) (p : Problem) → Reads bytes p → (p.first_application ≡ None) ↔ IsPure p
reads_pure bytes p h = first_pure h.file p (least-none _ h.sound) h.typed
