-- The texts of terms, literals, clauses and disjunctive normal forms, and of the values of constants. The x-th of `names`
-- is the text of the name x, and `k` is the text of the quotient of a divisibility.
use Rattle.std.specs.Prelude.{ℕ, ℤ, Bool, true, false, cond, nat_eq, unsigned_abs, List, [], ◌∷◌, ◌++◌, map, slice_index_or, codes}
use Rattle.std.specs.Fmt.{decimal, signed_decimal}
use Rattle.linear_term.specs.Linear.{Linear}
use Rattle.clause_set.specs.declared.literal.Literal.{Literal}
use Rattle.clause_set.specs.declared.literal.Literal.TheVariants.{Eq, Geq, Div, NDiv}
use Rattle.pri_printer.specs.Summands.{Summand, alone, times, SignedSummand, summands}

-- a coefficient 1 is not printed
abbrev pub summand_text : List (List ℕ) → Summand → List ℕ
summand_text names (alone n) = decimal n
summand_text names (times n x) = cond (nat_eq n 1) (slice_index_or names x []) (decimal n ++ (codes "*" ++ slice_index_or names x []))

abbrev pub adding_text : Bool → List ℕ
adding_text true = codes " - "
adding_text false = codes " + "

-- texts, each with its sign before it
abbrev pub added_texts : List (Bool × List ℕ) → List ℕ
added_texts [] = []
added_texts (u ∷ us) = adding_text u.0 ++ (u.1 ++ added_texts us)

abbrev pub later_text : List (List ℕ) → SignedSummand → (Bool × List ℕ)
later_text names a = (a.0, summand_text names a.1)

-- a `-` before the first summand stands without a blank
abbrev pub sum_text : List (List ℕ) → List SignedSummand → List ℕ
sum_text names [] = []
sum_text names (a ∷ more) = cond a.0 (codes "-" ++ summand_text names a.1) (summand_text names a.1) ++ added_texts (map (later_text names) more)

-- the text of a linear term
abbrev pub term_text : List (List ℕ) → Linear → List ℕ
term_text names t = sum_text names (summands t.pairs t.constant)

-- `\exists int k; ` before a formula
abbrev pub exists_text : List ℕ → List ℕ → List ℕ
exists_text k body = codes "\\exists int " ++ (k ++ (codes "; " ++ body))

-- d divides t: t is d times some k
abbrev pub divides_text : List (List ℕ) → List ℕ → ℤ → Linear → List ℕ
divides_text names k d t = exists_text k (term_text names t ++ (codes " = " ++ (decimal (unsigned_abs d) ++ (codes "*" ++ k))))

-- the text of a literal
abbrev pub literal_text : List (List ℕ) → List ℕ → Literal → List ℕ
literal_text names k (Eq t) = term_text names t ++ (codes " = " ++ codes "0")
literal_text names k (Geq t) = term_text names t ++ (codes " >= " ++ codes "0")
literal_text names k (Div d t) = divides_text names k d t
literal_text names k (NDiv d t) = codes "!" ++ divides_text names k d t

-- the texts, each after the sign
abbrev pub behind_each : List ℕ → List (List ℕ) → List ℕ
behind_each sign [] = []
behind_each sign (u ∷ us) = sign ++ (u ++ behind_each sign us)

-- the text of a clause
abbrev pub clause_text : List (List ℕ) → List ℕ → List Literal → List ℕ
clause_text names k [] = codes "true"
clause_text names k (l ∷ ls) = literal_text names k l ++ behind_each (codes " & ") (map (literal_text names k) ls)

-- the text of a disjunctive normal form
abbrev pub normal_form_text : List (List ℕ) → List ℕ → List (List Literal) → List ℕ
normal_form_text names k [] = codes "false"
normal_form_text names k (c ∷ cs) = clause_text names k c ++ behind_each (codes " | ") (map (clause_text names k) cs)

-- `x = 1`
abbrev pub value_text : List ℕ → ℤ → List ℕ
value_text name v = name ++ (codes " = " ++ signed_decimal v)

-- a name with its value, for as many as there are of both
abbrev pub value_texts : List (List ℕ) → List ℤ → List (List ℕ)
value_texts [] values = []
value_texts (x ∷ names) [] = []
value_texts (x ∷ names) (v ∷ values) = value_text x v ∷ value_texts names values

-- the texts with `, ` between each two
abbrev pub listed_text : List (List ℕ) → List ℕ
listed_text [] = []
listed_text (u ∷ us) = u ++ behind_each (codes ", ") us
