-- The limits of the project, by the names that clauses use.
use Rattle.std.specs.Prelude.{ℕ}

-- the most nodes of a formula that is proved, its most levels, and the most constants that it begins with
abbrev pub most_nodes : ℕ
most_nodes = 1000000

abbrev pub most_levels : ℕ
most_levels = 2000

abbrev pub most_constants : ℕ
most_constants = 1000

-- the most symbols that a problem declares
abbrev pub most_symbols : ℕ
most_symbols = 1000

-- the nodes that a branch may have, and so the levels of a proof
abbrev pub branch_limit : ℕ
branch_limit = 2000

-- the greatest budget, and so the greatest number of charges of a proof
abbrev pub most_budget : ℕ
most_budget = 1000000000

-- the greatest size of a problem that the program makes
abbrev pub most_count : ℕ
most_count = 1000
