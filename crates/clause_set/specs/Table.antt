-- Tables of bounds by their coefficients.
use Rattle.std.specs.Prelude.{ℕ, ℤ, Bool, true, false, cond, List, Option, Some, None, Vec}
use Rattle.std.specs.BTreeMap.{BTreeMap, get_by}
use Rattle.std.specs.Cmp.Lexicographic.{slice_cmp}
use Rattle.linear_term.specs.Order.{pair_cmp}
use Rattle.clause_set.specs.declared.literal.Literal.{Literal}
use Rattle.clause_set.specs.declared.table.Ends.{Ends}
use Rattle.clause_set.specs.Normal.{leads_negative, negated}
use Rattle.clause_set.specs.Clauses.{is_void, least, tightened}

-- the coefficients or their opposite: those whose first one is not negative
abbrev pub led : List (ℕ × ℤ) → List (ℕ × ℤ)
led p = cond (leads_negative p) (negated p) p

-- what stands in the table at the coefficients p
abbrev pub ends_at : {A : Type 0} → BTreeMap (Vec (ℕ × ℤ) A) Ends → List (ℕ × ℤ) → Option Ends
ends_at m p = get_by (λ k. slice_cmp pair_cmp p k.items) m

-- the number of the coefficients themselves, or of their opposite
abbrev pub end_of : Bool → Option Ends → Option ℤ
end_of opposite None = None
end_of opposite (Some e) = cond opposite e.opposite e.own

-- the number that the table has for the coefficients p
abbrev pub bound_at : {A : Type 0} → BTreeMap (Vec (ℕ × ℤ) A) Ends → List (ℕ × ℤ) → Option ℤ
bound_at m p = end_of (leads_negative p) (ends_at m (led p))

-- the ends with one more number of the coefficients, or of their opposite
abbrev pub with_end : Option Ends → Bool → ℤ → Ends
with_end held true k = record { own = end_of false held; opposite = least (end_of true held) (Some k) }
with_end held false k = record { own = least (end_of false held) (Some k); opposite = end_of true held }

-- the literal as the others tighten it, unless they leave its coefficients no value
abbrev pub tight_or_void : List Literal → Literal → Option Literal
tight_or_void ls l = cond (is_void ls l) None (Some (tightened ls l))
