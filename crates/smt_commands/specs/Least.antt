-- Which of several faults of a script counts: the one at the least offset, and there the one with the least number.
use Rattle.std.specs.Prelude.{ℕ, ◌≡◌, ◌&&◌, ◌||◌, Bool, false, List, [], ◌∷◌, All, Contains, Option, Some, None, nat_eq, nat_lt, if◌then◌else◌}
use Rattle.smt_commands.specs.declared.refusal.ScriptRefusal.{ScriptRefusal}
use Rattle.smt_commands.specs.declared.refusal.ScriptRefusal.TheVariants as r

-- the offset of a refusal; 0 where it has none
abbrev pub place_in : ScriptRefusal → ℕ
place_in (r.Syntax at) = at
place_in (r.Literal at) = at
place_in (r.Deep at) = at
place_in (r.Undeclared at) = at
place_in (r.Redeclared at) = at
place_in (r.Arity at) = at
place_in (r.Kind at) = at
place_in (r.NonLinear at) = at
place_in (r.Many at) = at
place_in r.Large = 0
place_in (r.Profile at) = at
place_in r.Memory = 0

-- the number of a refusal, by which those at one offset are ordered
abbrev pub number_of : ScriptRefusal → ℕ
number_of (r.Syntax at) = 1
number_of (r.Literal at) = 2
number_of (r.Deep at) = 3
number_of (r.Undeclared at) = 4
number_of (r.Redeclared at) = 5
number_of (r.Arity at) = 6
number_of (r.Kind at) = 7
number_of (r.NonLinear at) = 8
number_of (r.Many at) = 10
number_of r.Large = 11
number_of (r.Profile at) = 15
number_of r.Memory = 0

-- a lesser offset, or the same and a lesser number
abbrev pub is_before : ScriptRefusal → ScriptRefusal → Bool
is_before a b = nat_lt (place_in a) (place_in b) || nat_eq (place_in a) (place_in b) && nat_lt (number_of a) (number_of b)

-- of two faults, where there are two, the second where it comes before the first, else the first
abbrev pub sooner : Option ScriptRefusal → ScriptRefusal → ScriptRefusal
sooner None b = b
sooner (Some a) b = if is_before b a then b else a

-- The first in that order of a fault and of all faults of a list: a fold from the left, so that code goes over the faults with
-- the first one found so far.
abbrev pub least_from : Option ScriptRefusal → List ScriptRefusal → Option ScriptRefusal
least_from found [] = found
least_from found (e ∷ faults) = least_from (Some (sooner found e)) faults

-- the first in that order of all faults of a list
abbrev pub least : List ScriptRefusal → Option ScriptRefusal
least = least_from None

-- the script is refused so; running out of memory says nothing
abbrev pub IsScriptRefused : ScriptRefusal → Option ScriptRefusal → Type 0
IsScriptRefused r.Memory found = Unit {0}
IsScriptRefused e found = found ≡ Some e

-- the fault is one of these, and no other one of them comes before it
pub record IsLeastFault (e : ScriptRefusal) (faults : List ScriptRefusal) : Type 0 where
  pub among : Contains faults e
  pub first : All (λ other. is_before other e ≡ false) faults
