-- What the functions that read blocks say of the machine. In the states of blocks nothing waits for an expression.
use Rattle.std.specs.Prelude.{ℕ, ◌≡◌, Bool, true, false, List, [], ◌∷◌, ◌++◌, ◌⊎◌}
use Rattle.pri_tokens.specs.declared.terminals.Terminal.{Terminal}
use Rattle.pri_tokens.specs.declared.terminals.Lexeme.{Lexeme}
use Rattle.pri_reader.specs.declared.tree.Block.{Block}
use Rattle.pri_reader.specs.declared.tree.Item.{Item}
use Rattle.pri_reader.specs.declared.tree.Name.{Name}
use Rattle.pri_reader.specs.declared.tree.TypeName.{TypeName}
use Rattle.pri_reader.specs.declared.tree.Declared.{Declared}
use Rattle.pri_reader.specs.declared.tree.ReadRefusal.{ReadRefusal}
use Rattle.pri_reader.specs.declared.tree.ReadRefusal.TheVariants as refusal
use Rattle.pri_reader.specs.declared.classes.Heading.{Heading}
use Rattle.pri_reader.specs.declared.classes.Heading.TheVariants as h
use Rattle.pri_reader.specs.Grammar.{Takes, all_of_type, is_problem}
use Rattle.pri_reader.specs.MachineStates.{Want, a_block, a_brace, a_name, names_more, an_item, an_item_line, ItemsFor}
use Rattle.pri_reader.specs.Machine.{items_for}
use Rattle.pri_reader.specs.Reading.{FailsWith, NotNext, reads}

-- the tokens lead from each of these states to one of those
pub record PassesStates {A : Type 0} (b : List ℕ) (tokens : List Lexeme) (want : A → Want) (rest : List Lexeme) (new : A → Want) : Type 0 where
  pub run : (a : A) → reads b tokens (want a) [] ≡ reads b rest (new a) []

-- the file is refused so, where these tokens are read in any of these states
pub record StopsReader (b : List ℕ) {A : Type 0} (want : A → Want) (tokens : List Lexeme) (e : ReadRefusal) : Type 0 where
  pub run : (a : A) → FailsWith e (reads b tokens (want a) [])

-- the tokens before the rest are read as names, which are of this type
pub record PassesNames (b : List ℕ) (sort : TypeName) (found : List Declared) (tokens rest : List Lexeme) : Type 0 where
  pub names : List Name
  pub typed : found ≡ all_of_type sort names
  pub passes : PassesStates b tokens (λ for. a_name for []) rest (λ for. names_more for names)

-- a token of this terminal may come next, and is taken then
abbrev pub MayTake : Terminal → List Lexeme → List Lexeme → Type 0
MayTake terminal tokens rest = ((x : Lexeme) × Takes terminal x tokens rest) ⊎ (NotNext terminal tokens × (rest ≡ tokens))

-- the block with more items
abbrev pub with_items : ItemsFor → List Item → ItemsFor
with_items i more = items_for i.typed i.at (i.items ++ more) i.blocks

-- what comes before the items of a line
pub record BeginsLine (b : List ℕ) (typed : Bool) (tokens rest : List Lexeme) : Type 0 where
  pub run : (i : ItemsFor) → i.typed ≡ typed → reads b tokens (an_item_line i) [] ≡ reads b rest (an_item i) []

pub record NoLine (b : List ℕ) (typed : Bool) (tokens : List Lexeme) (e : ReadRefusal) : Type 0 where
  pub run : (i : ItemsFor) → i.typed ≡ typed → FailsWith e (reads b tokens (an_item_line i) [])

-- the heading of a `\problem` block
abbrev pub heads_problem : Heading → Bool
heads_problem h.Problem = true
heads_problem _ = false

-- after this heading, the tokens before the rest are this block
pub record IsBlock (b : List ℕ) (heading : Heading) (at : ℕ) (block : Block) (tokens rest : List Lexeme) : Type 0 where
  pub run : (blocks : List Block) → reads b tokens (a_brace heading at blocks) [] ≡ reads b rest (a_block (blocks ++ block ∷ [])) []
  pub kind : is_problem block ≡ heads_problem heading

pub record IsNoBlock (b : List ℕ) (heading : Heading) (at : ℕ) (tokens : List Lexeme) (e : ReadRefusal) : Type 0 where
  pub run : (blocks : List Block) → FailsWith e (reads b tokens (a_brace heading at blocks) [])

-- the token at this offset begins a second problem
pub record IsSecond (problem : Bool) (heading : Heading) (at : ℕ) (e : ReadRefusal) : Type 0 where
  pub is : e ≡ refusal.Syntax at
  pub heads : heads_problem heading ≡ true
  pub had : problem ≡ true
