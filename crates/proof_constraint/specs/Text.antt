-- The line `gives` of a proof, as tokens: a disjunction of conjunctions of literals. Each word stands after a blank, so a text
-- of parts is the texts of the parts.
use Rattle.std.specs.Prelude.{ℕ, ℤ, pos, ◌<ℤ◌, Bool, true, false, cond, nat_eq, int_lt, unsigned_abs, List, [], ◌∷◌, ◌++◌, Option, Some, None}
use Rattle.std.specs.Ordering.{int_eq}
use Rattle.std.specs.List.{AllByRecursion}
use Rattle.linear_term.specs.Range.{InRange}
use Rattle.linear_term.specs.Linear.{Linear, IsNormal}
use Rattle.clause_set.specs.declared.literal.Literal.{Literal}
use Rattle.clause_set.specs.declared.literal.Literal.TheVariants as l
use Rattle.proof_tokens.specs.declared.tokens.Token.{Token}
use Rattle.proof_tokens.specs.declared.tokens.Token.TheVariants as t
use Rattle.proof_constraint.specs.declared.draft.Divisor.{Divisor}

-- the texts of a list, each after the separator
abbrev pub behind : {A : Type 0} → (A → List Token) → Token → List A → List Token
behind text sign [] = []
behind text sign (x ∷ xs) = t.Blank ∷ sign ∷ text x ++ behind text sign xs

-- the sign before a part of a sum: the first part has none but a `-`
abbrev pub sign_text : Bool → Bool → List Token
sign_text true minus = t.Blank ∷ cond minus (t.Minus ∷ []) []
sign_text false minus = t.Blank ∷ cond minus t.Minus t.Plus ∷ t.Blank ∷ []

-- a name with its factor; 1 is not written
abbrev pub factor_text : ℕ → ℕ → List Token
factor_text n x = cond (nat_eq n 1) (t.Name x ∷ []) (t.Number n ∷ t.Times ∷ t.Name x ∷ [])

abbrev pub pair_text : Bool → (ℕ × ℤ) → List Token
pair_text first p = sign_text first (int_lt p.1 (pos 0)) ++ factor_text (unsigned_abs p.1) p.0

abbrev pub pairs_text : Bool → List (ℕ × ℤ) → List Token
pairs_text first [] = []
pairs_text first (p ∷ ps) = pair_text first p ++ pairs_text false ps

abbrev pub number_text : Bool → ℤ → List Token
number_text first k = sign_text first (int_lt k (pos 0)) ++ t.Number (unsigned_abs k) ∷ []

-- the constant is written where it is not 0 or stands alone
abbrev pub constant_text : List (ℕ × ℤ) → ℤ → List Token
constant_text [] k = number_text true k
constant_text (p ∷ ps) k = cond (int_eq k (pos 0)) [] (number_text false k)

-- a linear term
abbrev pub sum_text : Linear → List Token
sum_text s = pairs_text true s.pairs ++ constant_text s.pairs s.constant

abbrev pub divisor_text : Option Divisor → List Token
divisor_text None = []
divisor_text (Some v) = t.Blank ∷ t.Number (unsigned_abs v.size) ∷ t.Blank ∷ cond v.negated t.NotDivides t.Divides ∷ []

-- `=`, or `>=` for a bound
abbrev pub relation_text : Bool → List Token
relation_text bound = t.Blank ∷ cond bound t.AtLeast t.Equal ∷ []

abbrev pub zero_text : List Token
zero_text = t.Blank ∷ t.Number 0 ∷ []

abbrev pub literal_text : Literal → List Token
literal_text (l.Eq s) = sum_text s ++ relation_text false ++ zero_text
literal_text (l.Geq s) = sum_text s ++ relation_text true ++ zero_text
literal_text (l.Div d s) = divisor_text (Some (record { size = d; negated = false })) ++ sum_text s
literal_text (l.NDiv d s) = divisor_text (Some (record { size = d; negated = true })) ++ sum_text s

-- the literals of a conjunction, `true` where there are none
abbrev pub clause_text : List Literal → List Token
clause_text [] = t.Blank ∷ t.True ∷ []
clause_text (m ∷ ms) = literal_text m ++ behind literal_text t.And ms

-- the conjunctions of a disjunction, `false` where there are none
abbrev pub dnf_text : List (List Literal) → List Token
dnf_text [] = t.Blank ∷ t.False ∷ []
dnf_text (c ∷ cs) = clause_text c ++ behind clause_text t.Or cs

-- the whole line
abbrev pub gives_text : List (List Literal) → List Token
gives_text d = t.Gives ∷ dnf_text d ++ t.LineFeed ∷ []

-- a divisor as a text has it: 1 is none
abbrev pub IsSaidDivisor : ℤ → Type 0
IsSaidDivisor d = (pos 1 <ℤ d) × InRange d

-- a literal that a text can say
abbrev pub IsSaid : Literal → Type 0
IsSaid (l.Eq s) = IsNormal s
IsSaid (l.Geq s) = IsNormal s
IsSaid (l.Div d s) = IsSaidDivisor d × IsNormal s
IsSaid (l.NDiv d s) = IsSaidDivisor d × IsNormal s

abbrev pub AreSaidLiterals : List Literal → Type 0
AreSaidLiterals c = AllByRecursion IsSaid c

-- what a line `gives` can say
abbrev pub AreClauses : List (List Literal) → Type 0
AreClauses d = AllByRecursion AreSaidLiterals d
