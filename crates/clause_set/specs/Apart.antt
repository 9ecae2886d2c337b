-- Sorted literals that are their own normal form: one equation or one bound of each linear form, and no two opposite
-- bounds that leave one value alone or none.
use Rattle.std.specs.Prelude.{◌≡◌, ℕ, ℤ, pos, neg_ℤ, Bool, true, false, not, ◌&&◌, ◌||◌, int_lt, List, [], ◌∷◌}
use Rattle.std.specs.List.{list_all}
use Rattle.std.specs.List.Sorted.{IsStrictlySortedBy}
use Rattle.std.specs.Ordering.{on}
use Rattle.std.specs.declared.cmp.Ordering.{Ordering}
use Rattle.clause_set.specs.declared.literal.Literal.{Literal}
use Rattle.clause_set.specs.declared.literal.Literal.TheVariants.{Eq, Geq, Div, NDiv}
use Rattle.linear_term.specs.Linear.{Linear}
use Rattle.clause_set.specs.Clauses.{same_pairs}
use Rattle.clause_set.specs.Normal.{negated}
use Rattle.clause_set.specs.Order.{literal_cmp}

-- an equation or a bound with the constant 0, another literal as it is
abbrev pub flat : Literal → Literal
flat (Eq t) = Eq (record { pairs = t.pairs; constant = pos 0 })
flat (Geq t) = Geq (record { pairs = t.pairs; constant = pos 0 })
flat (Div d t) = Div d t
flat (NDiv d t) = NDiv d t

-- the order of literals, in which the constants of equations and bounds do not count
abbrev pub form_cmp : Literal → Literal → Ordering
form_cmp = on flat literal_cmp

-- the first coefficient is positive
abbrev pub leads_positive : List (ℕ × ℤ) → Bool
leads_positive [] = false
leads_positive (p ∷ ps) = int_lt (pos 0) p.1

-- no equation, and a positive first coefficient where it is a bound
abbrev pub is_plain : Literal → Bool
is_plain (Eq t) = false
is_plain (Geq t) = leads_positive t.pairs
is_plain (Div d t) = true
is_plain (NDiv d t) = true

-- the literal leaves more than one value where it bounds the opposite of the bound t ≥ 0, and is no equation of its form
abbrev pub leaves_open : Linear → Literal → Bool
leaves_open t (Eq s) = not (same_pairs s.pairs t.pairs) && not (same_pairs s.pairs (negated t.pairs))
leaves_open t (Geq s) = not (same_pairs s.pairs (negated t.pairs)) || int_lt (neg_ℤ s.constant) t.constant
leaves_open t (Div d s) = true
leaves_open t (NDiv d s) = true

-- all leave it more than one value where it is a bound; an equation has a positive first coefficient
abbrev pub is_open : List Literal → Literal → Bool
is_open ls (Eq t) = leads_positive t.pairs
is_open ls (Geq t) = list_all (leaves_open t) ls
is_open ls (Div d t) = true
is_open ls (NDiv d t) = true

-- the literals rise by their forms, and bound none from both sides, or none to one value or to no value
pub record AreApart (ls : List Literal) : Type 0 where
  pub rising : IsStrictlySortedBy form_cmp ls
  pub apart : (list_all is_plain ls || list_all (is_open ls) ls) ≡ true
