-- Copies of formulas with other names.
use Rattle.std.specs.Prelude.{ℕ, ◌+◌, cond, nat_lt, List, length, slice_index_or}

-- a name below the length of the table is sent to its entry there, and one after it this many further
abbrev pub sent : List ℕ → ℕ → ℕ → ℕ
sent table more x = cond (nat_lt x (length table)) (slice_index_or table x 0) (x + more)
