-- The expressions that are made. Each gets the offset of the expression that it stands for, or stands in.
use Rattle.std.specs.Prelude.{ℕ, ◌++◌, List, [], ◌∷◌, ℤ, codes}
use Rattle.std.specs.Fmt.{decimal}
use Rattle.smt_lists.specs.declared.tree.AtomKind.TheVariants as k
use Rattle.smt_lists.specs.Expressions.{Expr, Exprs, atom, list, exprs, place_of}

abbrev pub symbol : ℕ → List ℕ → Expr
symbol at text = atom (record { at = at; kind = k.Symbol text })

abbrev pub number : ℕ → ℤ → Expr
number at n = atom (record { at = at; kind = k.Numeral n })

-- a symbol at its arguments
abbrev pub use_of : ℕ → List ℕ → List Expr → Expr
use_of at text es = list at (exprs (symbol at text ∷ es))

-- The name of the quotient by a divisor: `q|` and the offset of the divisor. No script can write it, since no symbol has a bar
-- in its name, and no two divisors of a script stand at one offset.
abbrev pub quotient_name : Expr → List ℕ
quotient_name n = codes "q|" ++ decimal (place_of n)

-- the quotient by a divisor, as a term
abbrev pub quotient : ℕ → Expr → Expr
quotient at n = symbol at (quotient_name n)

-- the quotient by a divisor, as a variable of a quantifier: `(q Int)`
abbrev pub variable : ℕ → Expr → Expr
variable at n = list at (exprs (quotient at n ∷ symbol at (codes "Int") ∷ []))

-- `(* n q)`
abbrev pub multiple : ℕ → Expr → Expr
multiple at n = use_of at (codes "*") (n ∷ quotient at n ∷ [])

-- what q is: `(<= (* n q) t (+ (* n q) r))`, where r is the greatest remainder by n
abbrev pub condition : ℕ → Expr → Expr → ℤ → Expr
condition at t n r = use_of at (codes "<=") (multiple at n ∷ t ∷ use_of at (codes "+") (multiple at n ∷ number at r ∷ []) ∷ [])
