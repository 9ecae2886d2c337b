-- The problem that the bytes of a file pose, or why they pose none.
use Rattle.std.specs.Prelude.{◌≡◌, ℕ, List, length, Some, None}
use Rattle.form_typed.specs.Formula as logic
use Rattle.pri_tokens.specs.Lexemes.{lexemes_of}
use Rattle.pri_reader.specs.declared.tree.File.{File}
use Rattle.pri_reader.specs.declared.tree.ReadRefusal.{ReadRefusal}
use Rattle.pri_reader.specs.Grammar.{IsFile}
use Rattle.pri_reader.specs.First.{IsFirstRefusal}
use Rattle.pri_reader.specs.Reading.{file_setting}
use Rattle.pri_typing.specs.declared.problem.Problem.{Problem}
use Rattle.pri_typing.specs.declared.problem.TypeRefusal.{TypeRefusal}
use Rattle.pri_typing.specs.Faults.{least}
use Rattle.pri_typing.specs.Files.{file_faults, IsTyped}

-- the bytes are this file of the grammar, with numerals below 2^127 and at most 200 levels
abbrev pub IsFileOf : List ℕ → File → Type 0
IsFileOf bytes f = IsFile (file_setting bytes) f (lexemes_of bytes)

-- the bytes are a file without faults, and it poses the problem
pub record Reads (bytes : List ℕ) (p : Problem) : Type 0 where
  pub file : File
  pub read : IsFileOf bytes file
  pub sound : least (file_faults file) ≡ None
  pub typed : IsTyped file p

-- why bytes pose no problem: they are no file, or a file with a fault
pub data Refusal : Type 0 where
  unread : ReadRefusal → Refusal
  untyped : TypeRefusal → Refusal

-- the first refusal of the bytes: the reader's first bad token, or of a file the least of its faults
abbrev pub FirstRefusal : List ℕ → Refusal → Type 0
FirstRefusal bytes (unread e) = IsFirstRefusal (file_setting bytes) (length bytes) (lexemes_of bytes) e
FirstRefusal bytes (untyped e) = (f : File) × IsFileOf bytes f × (least (file_faults f) ≡ Some e)

-- the problems are the same, field by field, with formulas by their trees
pub record AreSame (p q : Problem) : Type 0 where
  pub existentials : p.existentials ≡ q.existentials
  pub existential_types : p.existential_types ≡ q.existential_types
  pub universals : p.universals ≡ q.universals
  pub universal_types : p.universal_types ≡ q.universal_types
  pub functions : p.functions ≡ q.functions
  pub predicates : p.predicates ≡ q.predicates
  pub parts : p.parts ≡ q.parts
  pub formula : logic.formula p.formula ≡ logic.formula q.formula
  pub cuts : p.cuts ≡ q.cuts
  pub first_application : p.first_application ≡ q.first_application
