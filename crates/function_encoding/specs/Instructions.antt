-- The instructions of the code as actions.
use Rattle.std.specs.Prelude.{List, ◌++◌, ◌≡◌, map}
use Rattle.form_typed.specs.Formula.{formula}
use Rattle.function_encoding.specs.Actions.{Action, put_number, put_name, negate, multiply, add, apply, choose, take_absolute, take_extreme, relate, predicate}
use Rattle.function_encoding.specs.declared.instruction.Instruction.{Instruction}
use Rattle.function_encoding.specs.declared.instruction.Instruction.TheVariants as code

abbrev pub action_of : Instruction → Action
action_of (code.Number v) = put_number v
action_of (code.Name x) = put_name x
action_of code.Negate = negate
action_of (code.Multiply left) = multiply left
action_of (code.Add subtracted) = add subtracted
action_of (code.Call f k) = apply f k
action_of (code.Choose g) = choose (formula g.now)
action_of code.Absolute = take_absolute
action_of (code.Extreme r) = take_extreme r
action_of (code.Relate r) = relate r
action_of (code.Predicate plus p k) = predicate plus p k

abbrev pub actions_of : List Instruction → List Action
actions_of = map action_of

-- after the old actions come those that f puts before others
pub record FollowsActions (old new : List Action) (f : List Action → List Action) : Type 0 where
  pub is : (more : List Action) → new ++ more ≡ old ++ f more
