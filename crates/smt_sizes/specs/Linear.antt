-- Weights that depend on other weights: a constant, and a factor for each of them.
use Rattle.std.specs.Prelude.{Bool, List, [], ◌∷◌, ◌++◌, map, if◌then◌else◌}
use Rattle.std.specs.Bool.{beq}
use Rattle.smt_sizes.specs.declared.weight.Weight.{Weight}
use Rattle.smt_sizes.specs.declared.linear.Linear.{Linear}
use Rattle.smt_sizes.specs.Weight.{nothing, node, plus, times}
use Rattle.smt_sizes.specs.Weights.{Weighed}

pub record Sum : Type 0 where
  pub constant : Weight
  pub uses : List Weight

-- that of the code
abbrev pub sum : Linear → Sum
sum l = record { constant = l.constant; uses = l.uses.items }

-- factors at weights
abbrev pub combined : List Weight → List Weight → Weight
combined [] xs = nothing
combined (u ∷ us) [] = nothing
combined (u ∷ us) (x ∷ xs) = plus (times u x) (combined us xs)

-- all of it at weights
abbrev pub value : Sum → List Weight → Weight
value f xs = plus f.constant (combined f.uses xs)

-- nothing but a constant
abbrev pub start : Weight → Sum
start k = record { constant = k; uses = [] }

-- one factor more, and a constant with it
abbrev pub kept : Weight → Weight → Sum → Sum
kept k c f = record { constant = plus f.constant k; uses = f.uses ++ c ∷ [] }

-- the factor of a formula or term that is to be of a kind
abbrev pub gain : Bool → Bool → Weight → Weight
gain want b c = if beq b want then c else nothing

-- what counts in its place: one node
abbrev pub lack : Bool → Bool → Weight → Weight
lack want b c = if beq b want then nothing else times c node

-- one factor more, for what is to be of a kind
abbrev pub added : Bool → Bool → Weight → Weight → Sum → Sum
added want b k c f = kept (plus k (lack want b c)) (gain want b c) f

-- the weight of what is to be of a kind; another counts as one node
abbrev pub as_kind : Bool → Weighed → Weight
as_kind want x = if beq x.is_formula want then x.weight else node

abbrev pub kinds : List Weighed → List Bool
kinds = map (λ x. x.is_formula)

abbrev pub weights : List Weighed → List Weight
weights = map (λ x. x.weight)

-- a constant more
abbrev pub added_to : Weight → Sum → Sum
added_to k f = record { constant = plus f.constant k; uses = f.uses }
