-- Bounds that the sequents of a tree keep.
use Rattle.std.specs.Prelude.{ℕ, ◌+◌, ◌-◌, ◌*◌, ◌≤◌, length}
use Rattle.std.specs.List.{AllByRecursion}
use Rattle.base_limits.specs.Limits.{branch_limit, most_constants, most_levels, most_nodes}
use Rattle.formula.specs.Sizes.{size}
use Rattle.sequent.specs.Limits.{IsLimited}
use Rattle.sequent.specs.Sequent.{Sequent, IsFormedSequent}

-- the sequent is well formed, and each node above it, of which there are this many that the branch may have `left` more, has
-- used a member once, brought one more constant and as many members as a formula has nodes at most
pub record IsWithin (left : ℕ) (s : Sequent) : Type 0 where
  pub nodes : left ≤ branch_limit
  pub formed : IsFormedSequent s
  pub limited : IsLimited (branch_limit - left) most_levels s
  pub small : AllByRecursion (λ m. size m.formula ≤ most_nodes) s.members
  pub constants : s.count + left ≤ most_constants + branch_limit
  pub members : length s.members + left * most_nodes ≤ 1 + branch_limit * most_nodes
