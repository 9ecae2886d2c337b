-- The assertion stack (SMT-LIB 2.6, section 4.1.4): `push` opens levels, and `pop` goes back to what was before them.
use Rattle.std.specs.Prelude.{ℕ, zero, suc, List, [], ◌∷◌}

-- what is so, and what was so where each open level began, the innermost first
pub record Levels (A : Type 0) : Type 0 where
  pub now : A
  pub below : List A

-- where no level is open
abbrev pub lowest : {A : Type 0} → A → Levels A
lowest a = record { now = a; below = [] }

-- one level more
abbrev pub level_more : {A : Type 0} → Levels A → Levels A
level_more l = record { now = l.now; below = l.now ∷ l.below }

-- what was so where the innermost level began
abbrev pub left_from : {A : Type 0} → A → List A → Levels A
left_from a [] = lowest a
left_from a (b ∷ bs) = record { now = b; below = bs }

-- one level fewer
abbrev pub level_fewer : {A : Type 0} → Levels A → Levels A
level_fewer l = left_from l.now l.below

-- after `(push n)`
abbrev pub pushed : {A : Type 0} → ℕ → Levels A → Levels A
pushed zero l = l
pushed (suc n) l = pushed n (level_more l)

-- after `(pop n)`
abbrev pub popped : {A : Type 0} → ℕ → Levels A → Levels A
popped zero l = l
popped (suc n) l = popped n (level_fewer l)

-- with something else so
abbrev pub with_now : {A : Type 0} → Levels A → A → Levels A
with_now l a = record { now = a; below = l.below }
