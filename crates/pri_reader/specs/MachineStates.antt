-- The states of the reader as a machine: what it takes next, and what is done with what it has read.
use Rattle.std.specs.Prelude.{ℕ, ℤ, Bool, false, List, [], ◌∷◌, Option}
use Rattle.pri_reader.specs.declared.tree.Expr.{Expr}
use Rattle.pri_reader.specs.declared.tree.Form.TheVariants as form
use Rattle.pri_reader.specs.declared.tree.Added.{Added}
use Rattle.pri_reader.specs.declared.tree.Name.{Name}
use Rattle.pri_reader.specs.declared.tree.TypeName.{TypeName}
use Rattle.pri_reader.specs.declared.tree.Declared.{Declared}
use Rattle.pri_reader.specs.declared.tree.NameSet.{NameSet}
use Rattle.pri_reader.specs.declared.tree.Item.{Item}
use Rattle.pri_reader.specs.declared.tree.Block.{Block}
use Rattle.pri_reader.specs.declared.tree.Comparison.{Comparison}
use Rattle.pri_reader.specs.declared.classes.Heading.{Heading}
use Rattle.pri_reader.specs.Grammar.{Right, equivalence, implication, multiplication, Chain, disjunction, conjunction, expr, join}

-- what is made of an expression once it is whole
pub data Wrap : Type 0 where
  second : Right → Expr → ℕ → Wrap
  not_at : ℕ → Wrap
  minus_at : ℕ → Wrap
  bound_at : ℕ → Bool → List Declared → Wrap
  part_at : ℕ → Name → Wrap
  compared : Comparison → Expr → Wrap
  grouped_at : ℕ → Wrap
  absolute_at : ℕ → Wrap
  branches : ℕ → Expr → Expr → Wrap

abbrev pub wrapped : Wrap → Expr → Expr
wrapped (second r f at) g = join r f at g
wrapped (not_at at) f = expr at (form.Not f)
wrapped (minus_at at) f = expr at (form.Minus f)
wrapped (bound_at at all names) f = expr at (form.Quantified all names f)
wrapped (part_at at name) f = expr at (form.Part name f)
wrapped (compared c f) g = expr f.at (form.Compare c f g)
wrapped (grouped_at at) f = expr at (form.Group f)
wrapped (absolute_at at) f = expr at (form.Abs f)
wrapped (branches at c f) g = expr at (form.If c f g)

-- what an expression that is read is for, with the number of open levels there: a line that may go on, or a construct
pub data Frame : Type 0 where
  right_of : Right → ℕ → Frame
  chain_of : Chain → ℕ → List Expr → Frame
  rel_of : ℕ → Frame
  sum_of : ℕ → List Added → Bool → Frame
  wrap : Wrap → Frame
  parenthesis_of : Frame
  test_of : ℕ → ℕ → Frame
  branch_of : ℕ → ℕ → Expr → Frame
  arguments_of : Name → ℕ → List Expr → Frame
  pair_left : Bool → ℕ → ℕ → Frame
  pair_right : Bool → ℕ → Expr → Frame
  problem_of : ℕ → List Block → Frame

-- what a type is for: a line of a block of constants, or a line of a binder; with the names so far
pub data TypeFor : Type 0 where
  for_line : Bool → ℕ → List Declared → List Block → TypeFor
  for_binder : ℕ → Bool → Bool → ℕ → List Declared → TypeFor

-- which endpoint of a range is read: the lower one, or the upper one after this lower one
pub data Side : Type 0 where
  lower : Side
  upper : ℤ → Side

-- what a list of names is for: a line of this type of a block of constants, or a set of an interpolant
pub data NamesFor : Type 0 where
  for_constants : TypeName → Bool → ℕ → List Declared → List Block → NamesFor
  for_set : ℕ → List NameSet → Option ℕ → List Block → NamesFor

-- a block of functions or predicates, with its items so far
pub record ItemsFor : Type 0 where
  pub typed : Bool
  pub at : ℕ
  pub items : List Item
  pub blocks : List Block

-- what is taken next
pub data Want : Type 0 where
  a_unary : ℕ → Want
  a_minus : ℕ → Want
  a_parenthesis : ℕ → Want
  behind_name : Name → ℕ → Want
  an_argument : Name → ℕ → Want
  a_pair : Bool → ℕ → ℕ → Want
  a_binder : ℕ → Bool → ℕ → Want
  a_type : TypeFor → Want
  behind_int_word : TypeFor → Want
  an_endpoint : TypeFor → Side → Want
  an_endpoint_number : TypeFor → Side → Want
  behind_endpoint : TypeFor → Side → ℤ → Want
  a_bound : ℕ → Bool → Bool → TypeName → ℕ → List Declared → Want
  bound_more : ℕ → Bool → Bool → TypeName → ℕ → List Declared → Want
  a_part_bracket : ℕ → ℕ → Want
  a_part_name : ℕ → ℕ → Want
  a_part_close : ℕ → Name → ℕ → Want
  gives : Expr → Want
  a_block : List Block → Want
  a_brace : Heading → ℕ → List Block → Want
  a_line : Bool → ℕ → List Declared → List Block → Want
  a_name : NamesFor → List Name → Want
  names_more : NamesFor → List Name → Want
  an_item_line : ItemsFor → Want
  an_item : ItemsFor → Want
  behind_item : ItemsFor → Name → Want
  a_first_parameter : ItemsFor → Name → Want
  a_parameter : ItemsFor → Name → ℕ → Want
  behind_int : ItemsFor → Name → ℕ → Want
  parameters_more : ItemsFor → Name → ℕ → Want
  items_more : ItemsFor → Want

-- what a token does: nothing takes it, or it leads on, at once, by a numeral, or by one more level
pub data Move : Type 0 where
  bad : Move
  on : Want → List Frame → Move
  numeral : ℕ → Want → List Frame → Move
  level : ℕ → Want → List Frame → Move

-- after a type: its names
abbrev pub behind_type : TypeFor → TypeName → Want
behind_type (for_line universal at names blocks) sort = a_name (for_constants sort universal at names blocks) []
behind_type (for_binder at all several n names) sort = a_bound at all several sort n names

-- a name with its arguments
abbrev pub applied : Name → List Expr → Expr
applied name fs = expr name.at (form.Use name fs)

-- What begins a part below n open levels.

abbrev pub under_product : ℕ → List Frame → List Frame
under_product n frames = right_of multiplication n ∷ frames

abbrev pub under_sum : ℕ → List Frame → List Frame
under_sum n frames = under_product n (sum_of n [] false ∷ frames)

abbrev pub under_rel : ℕ → List Frame → List Frame
under_rel n frames = under_sum n (rel_of n ∷ frames)

abbrev pub under_chain : Chain → ℕ → List Frame → List Frame
under_chain conjunction n frames = chain_of conjunction n [] ∷ frames
under_chain disjunction n frames = chain_of conjunction n [] ∷ chain_of disjunction n [] ∷ frames

abbrev pub under_right : Right → ℕ → List Frame → List Frame
under_right multiplication n frames = under_product n frames
under_right implication n frames = under_chain disjunction n (right_of implication n ∷ frames)
under_right equivalence n frames = under_chain disjunction n (right_of implication n ∷ right_of equivalence n ∷ frames)

abbrev pub wants_right : Right → ℕ → Want
wants_right multiplication n = a_minus n
wants_right implication n = a_unary n
wants_right equivalence n = a_unary n

abbrev pub under_member : Chain → ℕ → List Frame → List Frame
under_member conjunction n frames = frames
under_member disjunction n frames = chain_of conjunction n [] ∷ frames
