-- What the outside does in one call: bytes that are told or untold, faults that are counted, names that are begun or broken.
-- Where a meaning is untold, nothing is said of it but that it stays untold.
use Rattle.std.specs.Prelude.{◌≡◌, ℕ, ◌+◌, ◌-◌, ◌^◌, ◌≤◌, ◌<◌, ◌↔◌, ◌⊎◌, Bool, true, false, List, [], ◌++◌, length, take, drop, min, Option, Some, None, ⊤}

-- a counter has gone up by one at least, or stands at the last value of 64 bits
abbrev pub Rose : ℕ → ℕ → Type 0
Rose before now = min (before + 1) (2 ^ 64 - 1) ≤ now

-- a name is begun: it is the one begun last, nothing failed since, and all of its bytes are left
pub record Begun (name : List ℕ) (bytes left begun : Option (List ℕ)) (broken : Bool) : Type 0 where
  pub named : begun ≡ Some name
  pub unbroken : broken ≡ false
  pub all : left ≡ bytes

-- the name begun last is this one, and it failed
pub record Broke (name begun : Option (List ℕ)) (broken : Bool) : Type 0 where
  pub named : begun ≡ name
  pub failed : broken ≡ true

-- the first n bytes of those that were left stand at the front of the buffer and are left no more; n is 0 exactly at the end
pub record Moves (before : List ℕ) (after : Option (List ℕ)) (n : ℕ) (buffer : List ℕ) : Type 0 where
  pub rest : after ≡ Some (drop n before)
  pub moved : take n buffer ≡ take n before
  pub within : n ≤ length before
  pub ends : (n ≡ 0) ↔ (before ≡ [])

-- a read of n bytes moves them, where the bytes left are told
abbrev pub ReadGives : Option (List ℕ) → Option (List ℕ) → ℕ → List ℕ → Type 0
ReadGives (Some before) after n buffer = Moves before after n buffer
ReadGives None after n buffer = after ≡ None

-- the first n bytes of the piece are taken after those taken before, where these are told
abbrev pub Adds : Option (List ℕ) → Option (List ℕ) → ℕ → List ℕ → Type 0
Adds (Some before) after n piece = after ≡ Some (before ++ take n piece)
Adds None after n piece = after ≡ None

-- these are all bytes of a name, where it tells them
abbrev pub IsWhole : Option (List ℕ) → List ℕ → Type 0
IsWhole (Some all) bytes = bytes ≡ all
IsWhole None bytes = ⊤

-- a name has more bytes than this, where it tells them
abbrev pub IsLonger : Option (List ℕ) → ℕ → Type 0
IsLonger (Some all) most = most < length all
IsLonger None most = ⊤

-- of the bytes of a name one more than this is read, and the others are left, where they are told
abbrev pub LeavesPast : Option (List ℕ) → Option (List ℕ) → ℕ → Type 0
LeavesPast (Some all) left most = left ≡ Some (drop (most + 1) all)
LeavesPast None left most = left ≡ None

-- of the bytes that were left at most n are taken from the front, where they are told
abbrev pub TakesAtMost : Option (List ℕ) → Option (List ℕ) → ℕ → Type 0
TakesAtMost (Some before) after n = (k : ℕ) × (k ≤ n) × (after ≡ Some (drop k before))
TakesAtMost None after n = after ≡ None

-- at most n bytes of a name are read: what was left before is left still, or all bytes of the name but this many
abbrev pub ReadsAtMost : Option (List ℕ) → Option (List ℕ) → Option (List ℕ) → ℕ → Type 0
ReadsAtMost bytes before after n = (after ≡ before) ⊎ TakesAtMost bytes after n

-- from one count to the other at most n are added, and none is taken back
abbrev pub GrowsAtMost : ℕ → ℕ → ℕ → Type 0
GrowsAtMost before after n = (before ≤ after) × (after ≤ before + n)

-- of these names some from the front are begun after those before, in their order
abbrev pub BeginsFront : List (List ℕ) → List (List ℕ) → List (List ℕ) → Type 0
BeginsFront names before after = (k : ℕ) × (after ≡ before ++ take k names)
