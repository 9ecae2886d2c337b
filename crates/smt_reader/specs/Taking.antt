-- What comes of the commands of a script in turn.
use Rattle.std.specs.Prelude.{◌≡◌, ◌≢◌, List, [], ◌++◌, map, Option, Some, None}
use Rattle.pri_typing.specs.declared.problem.Problem.{Problem}
use Rattle.smt_terms.specs.Scripts.{Command, State}
use Rattle.smt_sizes.specs.declared.size.Size.{Size}
use Rattle.smt_sizes.specs.declared.size.Size.TheVariants.{Large}
use Rattle.smt_sizes.specs.Sizes.{all_sizes}
use Rattle.smt_reader.specs.declared.following.Reading.{Reading}
use Rattle.smt_reader.specs.declared.scripts.Taken.{Taken}
use Rattle.smt_reader.specs.declared.scripts.Gathered.{Gathered}
use Rattle.smt_reader.specs.Commands.{Act, all_after, asks, does, leaves, opens, questions, questions_from, restarts, state_of}
use Rattle.smt_reader.specs.Forces.{force}
use Rattle.smt_reader.specs.Following.{AreNew, FollowsState}
use Rattle.smt_commands.specs.Levels.{Levels}
use Rattle.smt_reader.specs.Poses.{AreLarge, ArePosed, refutations}

-- how large the formulas of checks are together
abbrev pub size_together : List State → Size
size_together ss = all_sizes (refutations ss)

-- the problems are those of the checks, or there are none since they are too large together
abbrev pub IsGathered : List State → Option Gathered → Type 0
IsGathered ss None = size_together ss ≡ Large
IsGathered ss (Some c) = ArePosed ss c.problems × (c.size ≡ size_together ss) × (c.size ≢ Large)

-- the same at the end
abbrev pub ArePosedOrLarge : List State → Option (List Problem) → Type 0
ArePosedOrLarge ss None = AreLarge ss
ArePosedOrLarge ss (Some ps) = ArePosed ss ps × (¬ (AreLarge ss))

-- some of all commands are left, after these in force; the problems are those of the questions before them
pub record AreTaken (l : Levels (List Command)) (c : Gathered) (left all : List Act) : Type 0 where
  pub done : List (List Command)
  pub posed : ArePosed (map state_of done) c.problems
  pub size : c.size ≡ size_together (map state_of done)
  pub small : c.size ≢ Large
  pub whole : questions all ≡ done ++ questions_from l left

-- the same after one command more, or the questions are too large together
abbrev pub AreTakenOrLarge : List Act → List Act → Option Taken → Type 0
AreTakenOrLarge left all None = AreLarge (map state_of (questions all))
AreTakenOrLarge left all (Some t) = AreTaken (force t.forces) t.checks left all

-- where a command asks, no symbol of those in force is declared or defined twice
abbrev pub MayAsk : Levels (List Command) → Act → Type 0
MayAsk l (asks ts) = AreNew [] l.now
MayAsk l (does c) = Unit {0}
MayAsk l (opens n) = Unit {0}
MayAsk l (leaves n) = Unit {0}
MayAsk l restarts = Unit {0}

-- some commands are left of all; what is held is what those before them came to
pub record IsReplayed (r : Reading) (left all : List Command) : Type 0 where
  pub state : State
  pub follows : FollowsState r state
  pub new : AreNew r.known.symbols.texts left
  pub whole : all_after state left ≡ state_of all

-- the same of assertions alone
pub record IsAssumed (r : Reading) (left all : List Command) : Type 0 where
  pub state : State
  pub follows : FollowsState r state
  pub whole : all_after state left ≡ state_of all
