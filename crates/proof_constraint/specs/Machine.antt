-- The reader of a line `gives` as a machine: what a token does in each state.
use Rattle.std.specs.Prelude.{ℕ, ◌+◌, ◌^◌, ℤ, pos, neg_ℤ, Bool, true, false, ◌&&◌, cond, nat_eq, nat_lt, nat_le, List, [], ◌∷◌, ◌++◌, Option, Some, None}
use Rattle.proof_tokens.specs.declared.tokens.Token.{Token}
use Rattle.proof_tokens.specs.declared.tokens.Token.TheVariants as t
use Rattle.proof_constraint.specs.declared.draft.Divisor.{Divisor}
use Rattle.linear_term.specs.Linear.{Linear, number, with_monomial}
use Rattle.clause_set.specs.declared.literal.Literal.{Literal}
use Rattle.clause_set.specs.declared.literal.Literal.TheVariants as l
use Rattle.proof_constraint.specs.declared.draft.Draft.{Draft}
use Rattle.proof_constraint.specs.Behind.{Behind}
use Rattle.proof_constraint.specs.Behind as b
use Rattle.proof_constraint.specs.State.{GivenState}
use Rattle.proof_constraint.specs.State as s
use Rattle.proof_constraint.specs.Move.{GivenMove}
use Rattle.proof_constraint.specs.Move as m

-- n or -n
abbrev pub signed : Bool → ℕ → ℤ
signed minus n = cond minus (neg_ℤ (pos n)) (pos n)

-- a literal of which nothing but its divisor is read
abbrev pub opened : List (List Literal) → List Literal → Option Divisor → Draft
opened d c v = record { clauses = d; literals = c; divisor = v; sum = number (pos 0); least = 0 }

abbrev pub with_pair : Draft → Bool → ℕ → ℕ → Draft
with_pair g minus n x = record { clauses = g.clauses; literals = g.literals; divisor = g.divisor; sum = with_monomial g.sum x (signed minus n); least = x + 1 }

abbrev pub sum_of : Draft → ℤ → Linear
sum_of g k = record { pairs = g.sum.pairs; constant = k }

abbrev pub divided : Divisor → Linear → Literal
divided v s = cond v.negated (l.NDiv v.size s) (l.Div v.size s)

abbrev pub compared : Bool → Linear → Literal
compared bound s = cond bound (l.Geq s) (l.Eq s)

-- a name comes, with its coefficient
abbrev pub named : Draft → Bool → ℕ → ℕ → GivenMove
named g minus n x = cond (nat_le g.least x) (m.On (s.Behind (b.Sum (with_pair g minus n x)))) m.Bad

-- a constant that is not 0 comes
abbrev pub counted : Draft → Bool → ℕ → GivenMove
counted g minus n = cond (nat_lt 0 n) (m.On (s.Behind (b.Number g minus n))) m.Bad

-- a `*` comes after a number: some name has to be left
abbrev pub starred : Draft → Bool → ℕ → GivenMove
starred g minus n = cond (nat_lt 1 n && nat_lt g.least (2 ^ 32)) (m.On (s.Times g minus n)) m.Bad

-- `&`, `|` or the end of the line comes after the literals of a clause
abbrev pub and_then : List (List Literal) → List Literal → GivenMove
and_then d [] = m.Bad
and_then d (x ∷ xs) = m.On (s.Behind (b.Start (opened d (x ∷ xs) None)))

abbrev pub or_then : List (List Literal) → List Literal → GivenMove
or_then d c = m.On (s.Behind (b.Start (opened (d ++ c ∷ []) [] None)))

abbrev pub ended : List (List Literal) → List Literal → GivenMove
ended d c = m.Done (d ++ c ∷ [])

-- a sum is whole: it ends its literal if it has a divisor, and is compared with 0 else
abbrev pub ends_literal : (List (List Literal) → List Literal → GivenMove) → Option Divisor → Draft → ℤ → GivenMove
ends_literal then None g k = m.Bad
ends_literal then (Some v) g k = then g.clauses (g.literals ++ divided v (sum_of g k) ∷ [])

abbrev pub relation : Bool → Option Divisor → Draft → ℤ → GivenMove
relation bound None g k = m.On (s.Behind (b.Relation g.clauses g.literals (sum_of g k) bound))
relation bound (Some v) g k = m.Bad

-- what follows a whole sum and a blank
abbrev pub follows : Draft → ℤ → Token → GivenMove
follows g k t.Equal = relation false g.divisor g k
follows g k t.AtLeast = relation true g.divisor g k
follows g k t.And = ends_literal and_then g.divisor g k
follows g k t.Or = ends_literal or_then g.divisor g k
follows g k _ = m.Bad

-- `divides` comes after a number that begins a literal
abbrev pub divides_then : Bool → Option Divisor → List (ℕ × ℤ) → Bool → Draft → ℕ → GivenMove
divides_then negated None [] false g n = cond (nat_lt 1 n) (m.On (s.Behind (b.Start (opened g.clauses g.literals (Some (record { size = pos n; negated = negated })))))) m.Bad
divides_then negated _ _ _ g n = m.Bad

-- `false` is all that a line says, `true` all that a clause does
abbrev pub false_then : List (List Literal) → List Literal → Option Divisor → GivenMove
false_then [] [] None = m.On (s.Behind b.False)
false_then _ _ _ = m.Bad

abbrev pub true_then : List (List Literal) → List Literal → Option Divisor → GivenMove
true_then d [] None = m.On (s.Behind (b.Clause d []))
true_then _ _ _ = m.Bad

-- what a word that comes after a whole word and a blank does
abbrev pub word : Behind → Token → GivenMove
word (b.Start g) t.False = false_then g.clauses g.literals g.divisor
word (b.Start g) t.True = true_then g.clauses g.literals g.divisor
word (b.Start g) t.Minus = m.On (s.Minus g)
word (b.Start g) (t.Number n) = m.On (s.Behind (b.Number g false n))
word (b.Start g) (t.Name x) = named g false 1 x
word (b.Sum g) t.Plus = m.On (s.Behind (b.Sign g false))
word (b.Sum g) t.Minus = m.On (s.Behind (b.Sign g true))
word (b.Sum g) x = follows g (pos 0) x
word (b.Sign g minus) (t.Number n) = counted g minus n
word (b.Sign g minus) (t.Name x) = named g minus 1 x
word (b.Number g minus n) t.Divides = divides_then false g.divisor g.sum.pairs minus g n
word (b.Number g minus n) t.NotDivides = divides_then true g.divisor g.sum.pairs minus g n
word (b.Number g minus n) x = follows g (signed minus n) x
word (b.Relation d c sum bound) (t.Number n) = cond (nat_eq n 0) (m.On (s.Behind (b.Clause d (c ++ compared bound sum ∷ [])))) m.Bad
word (b.Clause d c) t.And = and_then d c
word (b.Clause d c) t.Or = or_then d c
word _ _ = m.Bad

-- what the end of the line does after a whole word
abbrev pub line_end : Behind → GivenMove
line_end (b.Sum g) = ends_literal ended g.divisor g (pos 0)
line_end (b.Number g minus n) = ends_literal ended g.divisor g (signed minus n)
line_end (b.Clause d c) = ended d c
line_end b.False = m.Done []
line_end _ = m.Bad

abbrev pub blank : Behind → GivenMove
blank b.False = m.Bad
blank x = m.On (s.Blank x)

abbrev pub times : Behind → GivenMove
times (b.Number g minus n) = starred g minus n
times _ = m.Bad

abbrev pub behind_word : Behind → Token → GivenMove
behind_word w t.Blank = blank w
behind_word w t.LineFeed = line_end w
behind_word w t.Times = times w
behind_word w _ = m.Bad

abbrev pub in_word_minus : Draft → Token → GivenMove
in_word_minus g (t.Number n) = counted g true n
in_word_minus g (t.Name x) = named g true 1 x
in_word_minus g _ = m.Bad

abbrev pub in_word_times : Draft → Bool → ℕ → Token → GivenMove
in_word_times g minus n (t.Name x) = named g minus n x
in_word_times g minus n _ = m.Bad

unfoldable pub moves : GivenState → Token → GivenMove
moves (s.Behind w) x = behind_word w x
moves (s.Blank w) x = word w x
moves (s.Minus g) x = in_word_minus g x
moves (s.Times g minus n) x = in_word_times g minus n x
