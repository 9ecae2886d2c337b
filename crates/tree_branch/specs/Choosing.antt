-- Which of two members is the principal.
use Rattle.std.specs.Prelude.{ℕ, cond, nat_lt, Option, None, Some}
use Rattle.backlist.specs.declared.boxes.Pos.{Pos}
use Rattle.sequent.specs.declared.member.Shape.{Shape}
use Rattle.sequent.specs.declared.member.Shape.TheVariants.{Trivial, Alpha, Delta, Beta, Gamma}
use Rattle.tree_branch.specs.declared.principal.Principal.{Principal}

-- the order in which the rules come
abbrev pub rank : Shape → ℕ
rank Trivial = 0
rank Alpha = 1
rank Delta = 2
rank Beta = 3
rank Gamma = 4

abbrev pub principal : Shape → ℕ → Pos → Principal
principal k i p = record { shape = k; index = i; at = p }

-- the best principal so far, or the later member where its rule comes first
abbrev pub better : Option Principal → Option Shape → ℕ → Pos → Option Principal
better b None i p = b
better None (Some k) i p = Some (principal k i p)
better (Some b) (Some k) i p = cond (nat_lt (rank k) (rank b.shape)) (Some (principal k i p)) (Some b)
