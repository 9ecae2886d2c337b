-- What a sink over memory shows: the calls so far, those at which it fails, and the room that it has.
use Rattle.std.specs.Prelude.{◌≡◌, ℕ, ◌+◌, ◌-◌, ◌^◌, ◌||◌, Bool, List, [], length, min, nat_eq}
use Rattle.std.specs.List.{list_any}
use Rattle.prover_io.specs.declared.memory_sink.MemorySink.{MemorySink}

-- the bytes taken so far
abbrev pub bytes_of : MemorySink → List ℕ
bytes_of s = s.bytes.items

-- how many faults there were, at most 2^64 − 1
abbrev pub faults_of : MemorySink → ℕ
faults_of s = s.faults

-- the number of the next call, counted from 0 and at most 2^64 − 1
abbrev pub calls_of : MemorySink → ℕ
calls_of s = s.calls

-- the numbers of the calls at which the sink fails
abbrev pub failing_of : MemorySink → List ℕ
failing_of s = s.failing.items

-- how many bytes it takes in one call at most
abbrev pub most_of : MemorySink → ℕ
most_of s = s.most

-- how many more bytes it has room for
abbrev pub space_of : MemorySink → ℕ
space_of s = s.room - length (bytes_of s)

-- whether the next call fails: its number is among the failing ones, or no room is left
abbrev pub fails_next : MemorySink → Bool
fails_next s = list_any (λ n. nat_eq n (calls_of s)) (failing_of s) || nat_eq (space_of s) 0

-- the sink was told this, took nothing yet and had no fault
pub record IsFreshSink (s : MemorySink) (room most : ℕ) (failing : List ℕ) : Type 0 where
  pub empty : bytes_of s ≡ []
  pub space : space_of s ≡ room
  pub piece : most_of s ≡ most
  pub fails : failing_of s ≡ failing
  pub calls : calls_of s ≡ 0
  pub faults : faults_of s ≡ 0

-- a call is counted, and what the sink was told stays
pub record SinkCounts (old new : MemorySink) : Type 0 where
  pub calls : calls_of new ≡ min (calls_of old + 1) (2 ^ 64 - 1)
  pub fails : failing_of new ≡ failing_of old
  pub piece : most_of new ≡ most_of old
