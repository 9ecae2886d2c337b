-- How much an operator writes, by the kinds of its arguments (true for a formula): a constant, and for each argument how often it
-- stands there and how far down.
use Rattle.std.specs.Prelude.{ℕ, suc, ◌*◌, ◌-◌, ◌||◌, Bool, true, false, List, [], ◌∷◌, length, if◌then◌else◌}
use Rattle.std.specs.Bool.{beq}
use Rattle.smt_terms.specs.declared.operator.Operator.{Operator}
use Rattle.smt_terms.specs.declared.operator.Operator.TheVariants as op
use Rattle.smt_sizes.specs.declared.weight.Weight.{Weight}
use Rattle.smt_sizes.specs.Weight.{nothing, unit, node, plus, times, many, up}
use Rattle.smt_sizes.specs.Linear.{Sum, start, kept, added}

-- the first, if there is nothing, else the second
abbrev pub if_none : {A : Type 0} → List Bool → A → A → A
if_none [] x y = x
if_none (b ∷ bs) x y = y

-- the first, if there is one, else the second
abbrev pub if_alone : {A : Type 0} → List Bool → A → A → A
if_alone (b ∷ []) x y = x
if_alone _ x y = y

-- the only one, else another
abbrev pub alone : List Bool → Bool → Bool
alone (b ∷ []) x = b
alone _ x = x

-- the second of three and more, else a formula
abbrev pub second : List Bool → Bool
second (c ∷ (a ∷ (b ∷ bs))) = a
second _ = true

-- whether an operator writes a formula
abbrev pub operator_kind : Operator → List Bool → Bool
operator_kind op.And bs = alone bs true
operator_kind op.Or bs = alone bs true
operator_kind op.Xor bs = alone bs true
operator_kind op.Implies bs = alone bs true
operator_kind op.Choose bs = second bs
operator_kind op.Plus bs = alone bs false
operator_kind op.Minus bs = false
operator_kind op.Times bs = alone bs (if_none bs true false)
operator_kind op.Abs bs = if_none bs true false
operator_kind _ bs = true

-- an argument alone
abbrev pub itself : Sum
itself = kept nothing unit (start nothing)

-- each argument once, with a constant
abbrev pub each : Bool → Weight → Weight → List Bool → Sum → Sum
each want k c [] f = f
each want k c (b ∷ bs) f = each want k c bs (added want b k c f)

-- grouped to the left: each argument this many levels, and one step more, above the next one
abbrev pub falls : Bool → ℕ → Weight → List Bool → Sum → Sum
falls want s k [] f = f
falls want s k (b ∷ bs) f = falls want s k bs (added want b (times (up (s * length bs)) k) (up (s * suc (length bs))) f)

-- grouped to the right: each argument one level below the one before it, but for the last
abbrev pub rises : ℕ → List Bool → Sum → Sum
rises n [] f = f
rises n (b ∷ bs) f = rises (suc n) bs (added true b (if_none bs nothing (up (suc n))) (if_none bs (up n) (up (suc n))) f)

-- how often an argument of a chain stands in what is said of it and the next one: of terms always, else where both are of a kind
abbrev pub next : Bool → Weight → Bool → List Bool → Weight
next of_terms c b [] = nothing
next of_terms c b (d ∷ bs) = if of_terms || beq b d then c else nothing

-- one argument of a chain more
abbrev pub linked : Bool → Bool → Weight → Weight → Sum → Sum
linked of_terms b k c f = if of_terms then added false b k c f else kept k c f

-- a chain: each argument with the one before it and with the next one
abbrev pub chain : Bool → Weight → Weight → List Bool → Sum → Sum
chain of_terms c before [] f = f
chain of_terms c before (b ∷ bs) f = chain of_terms c (next of_terms c b bs) bs (linked of_terms b (if_none bs nothing c) (plus before (next of_terms c b bs)) f)

-- the conjunction of what is said of each two: one node, but where that is a single formula
abbrev pub joint : List Bool → Weight
joint (a ∷ (b ∷ [])) = nothing
joint _ = node

-- the place below it
abbrev pub inside : List Bool → Weight
inside (a ∷ (b ∷ [])) = unit
inside _ = node

-- how many are of a kind
abbrev pub number_of : Bool → List Bool → ℕ
number_of want [] = 0
number_of want (b ∷ bs) = if beq b want then suc (number_of want bs) else number_of want bs

-- the nodes of what is said of each two that are to be different
abbrev pub of_pairs : Weight → List Bool → Weight
of_pairs m [] = nothing
of_pairs m (b ∷ bs) = plus (plus (times (many (length bs)) (times m node)) (if b then times (many (number_of true bs)) (times m (up 2)) else nothing)) (of_pairs m bs)

-- how often each of them stands there: once with each other one of its kind
abbrev pub in_pairs : Weight → List Bool → Bool → Weight
in_pairs m bs b = times (many (number_of b bs - 1)) (times m (if b then up 2 else node))

-- each argument by its kind
abbrev pub by_kind : (Bool → Weight) → List Bool → Sum → Sum
by_kind c [] f = f
by_kind c (b ∷ bs) f = by_kind c bs (kept nothing (c b) f)

-- `ite`, by the kinds of its three arguments
abbrev pub choice : Bool → Bool → Bool → Sum
choice c true b = added true b nothing (up 2) (kept nothing (up 2) (added true c nothing (times (many 2) (up 2)) (start (plus node (times (many 2) (up 2))))))
choice c false b = added false b nothing node (kept nothing node (added true c nothing node (start node)))

abbrev pub choice_sum : List Bool → Sum
choice_sum (c ∷ (a ∷ (b ∷ bs))) = choice c a b
choice_sum _ = start node

-- several under one node
abbrev pub joined_sum : Bool → List Bool → Sum
joined_sum want bs = if_alone bs itself (each want nothing node bs (start node))

-- the first under a node
abbrev pub first_sum : Bool → List Bool → Sum
first_sum want [] = start node
first_sum want (b ∷ bs) = added want b nothing node (start node)

-- grouped to the left
abbrev pub left_sum : Bool → ℕ → Weight → List Bool → Sum
left_sum want s k [] = start node
left_sum want s k (b ∷ bs) = if_none bs itself (falls want s k bs (added want b nothing (up (s * length bs)) (start nothing)))

-- grouped to the right
abbrev pub right_sum : List Bool → Sum
right_sum bs = if_none bs (start node) (if_alone bs itself (rises 0 bs (start nothing)))

abbrev pub minus_sum : List Bool → Sum
minus_sum [] = start node
minus_sum (b ∷ bs) = each false (up 2) (up 2) bs (added false b nothing node (start node))

abbrev pub chain_sum : Bool → List Bool → Sum
chain_sum of_terms bs = chain of_terms (times (inside bs) node) nothing bs (start (joint bs))

abbrev pub pairs_sum : List Bool → Sum
pairs_sum bs = by_kind (in_pairs (inside bs) bs) bs (start (plus (joint bs) (of_pairs (inside bs) bs)))

abbrev pub operator_sum : Operator → List Bool → Sum
operator_sum (op.Truth t) bs = start node
operator_sum op.Not bs = first_sum true bs
operator_sum op.And bs = joined_sum true bs
operator_sum op.Or bs = joined_sum true bs
operator_sum op.Xor bs = left_sum true 2 (plus node (up 2)) bs
operator_sum op.Implies bs = right_sum bs
operator_sum op.Equal bs = chain_sum false bs
operator_sum op.Distinct bs = pairs_sum bs
operator_sum op.Choose bs = choice_sum bs
operator_sum (op.Compare r) bs = chain_sum true bs
operator_sum op.Plus bs = joined_sum false bs
operator_sum op.Minus bs = minus_sum bs
operator_sum op.Times bs = left_sum false 1 node bs
operator_sum op.Abs bs = first_sum false bs
