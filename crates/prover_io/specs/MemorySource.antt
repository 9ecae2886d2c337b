-- What a source over memory shows: its files, the calls so far and those at which it fails.
use Rattle.std.specs.Prelude.{◌≡◌, ℕ, ◌+◌, ◌-◌, ◌^◌, ◌||◌, Bool, List, [], drop, map, min, nat_eq, find, option_map, Option, None, false, Vec, String, string_bytes, is_none, bytes_eq}
use Rattle.std.specs.List.{last_or, list_any}
use Rattle.std.specs.declared.alloc.Global.{Global}
use Rattle.prover_io.specs.declared.memory_source.MemorySource.{MemorySource}

-- the bytes of the first file of this name, if there is one
abbrev pub content_of : List (String Global × Vec ℕ Global) → List ℕ → Option (List ℕ)
content_of files name = option_map (λ file. file.1.items) (find (λ file. bytes_eq (string_bytes file.0) name) files)

-- the bytes of each name, where there is such a file
abbrev pub bytes_of : MemorySource → List ℕ → Option (List ℕ)
bytes_of s name = content_of s.files.items name

-- the bytes of the name begun last that are not read yet
abbrev pub rest_of : MemorySource → List ℕ
rest_of s = drop s.position s.content.items

-- the names begun, in their order
abbrev pub names_of : MemorySource → List (List ℕ)
names_of s = map string_bytes s.names

-- how many bytes were moved, at most 2^64 − 1
abbrev pub moved_of : MemorySource → ℕ
moved_of s = s.moved

-- the name begun last
abbrev pub name_of : MemorySource → Option (List ℕ)
name_of s = last_or None (names_of s)

-- whether something failed since that name was begun, or that begin
abbrev pub is_broken : MemorySource → Bool
is_broken s = s.broken

-- how many faults there were, at most 2^64 − 1
abbrev pub faults_of : MemorySource → ℕ
faults_of s = s.faults

-- the number of the next call of begin or read, counted from 0 and at most 2^64 − 1
abbrev pub calls_of : MemorySource → ℕ
calls_of s = s.calls

-- the numbers of the calls at which the source fails
abbrev pub failing_of : MemorySource → List ℕ
failing_of s = s.failing.items

-- how many bytes a read gives at most
abbrev pub most_of : MemorySource → ℕ
most_of s = s.most

-- whether the next call is one of those that fail
abbrev pub fails_next : MemorySource → Bool
fails_next s = list_any (λ n. nat_eq n (calls_of s)) (failing_of s)

-- whether a begin of this name fails as the next call: by its number, or since there is no such file
abbrev pub begin_fails : MemorySource → List ℕ → Bool
begin_fails s name = fails_next s || is_none (bytes_of s name)

-- a call is counted, and what the source was told stays
pub record SourceCounts (old new : MemorySource) : Type 0 where
  pub calls : calls_of new ≡ min (calls_of old + 1) (2 ^ 64 - 1)
  pub fails : failing_of new ≡ failing_of old
  pub piece : most_of new ≡ most_of old

-- the source has these files, fails at these calls, gives as much as is asked for, and was not called yet
pub record IsFreshSource (s : MemorySource) (files : List (String Global × Vec ℕ Global)) (failing : List ℕ) : Type 0 where
  pub bytes : (name : List ℕ) → bytes_of s name ≡ content_of files name
  pub fails : failing_of s ≡ failing
  pub piece : most_of s ≡ 2 ^ 64 - 1
  pub calls : calls_of s ≡ 0
  pub faults : faults_of s ≡ 0
  pub idle : names_of s ≡ []
  pub unmoved : moved_of s ≡ 0
  pub whole : is_broken s ≡ false

-- the second source is the first one, but gives at most this many bytes in a read
pub record Limits (old new : MemorySource) (most : ℕ) : Type 0 where
  pub piece : most_of new ≡ most
  pub bytes : (name : List ℕ) → bytes_of new name ≡ bytes_of old name
  pub rest : rest_of new ≡ rest_of old
  pub names : names_of new ≡ names_of old
  pub moved : moved_of new ≡ moved_of old
  pub broken : is_broken new ≡ is_broken old
  pub fails : failing_of new ≡ failing_of old
  pub calls : calls_of new ≡ calls_of old
  pub faults : faults_of new ≡ faults_of old
