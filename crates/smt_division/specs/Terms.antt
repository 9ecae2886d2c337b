-- Terms without division. For integers t and n, where n is not 0, Euclid's quotient is the one integer q with n·q ≤ t ≤ n·q + (|n| - 1)
-- (SMT-LIB 2.6, theory Ints): `(div t n)` is q, and `(mod t n)` is t - n·q. So a formula with such a term says that there is such a
-- q at which it is true when q stands there. `Division` defines the quotient, and `laws` proves that there is one, and only one.
use Rattle.std.specs.Prelude.{ℕ, ◌++◌, Bool, true, false, List, [], ◌∷◌, ℤ, map, codes, Option, Some, None, unwrap_or, if◌then◌else◌}
use Rattle.smt_lists.specs.Expressions.{Expr, Exprs, atom, list, no_expr, and_expr, exprs, place_of}
use Rattle.smt_division.specs.declared.forms.Form.{Form}
use Rattle.smt_division.specs.declared.forms.Form.TheVariants as form
use Rattle.smt_division.specs.Made.{quotient, variable, multiple, condition, use_of}
use Rattle.smt_division.specs.Divisors.{greatest_remainder}
use Rattle.smt_division.specs.Forms.{form_of, bind_operators, index_of}

-- a term without division, the variables that stand for the quotients of which it speaks, and what these are
pub record Reduct : Type 0 where
  pub term : Expr
  pub variables : List Expr
  pub conditions : List Expr

-- the same of several terms
pub record Reducts : Type 0 where
  pub terms : List Expr
  pub variables : List Expr
  pub conditions : List Expr

-- a term that speaks of no quotient
abbrev pub whole : Expr → Reduct
whole e = record { term = e; variables = []; conditions = [] }

abbrev pub nothing : Reducts
nothing = record { terms = []; variables = []; conditions = [] }

-- one term before others
abbrev pub together : Reduct → Reducts → Reducts
together p ps = record { terms = p.term ∷ ps.terms; variables = p.variables ++ ps.variables; conditions = p.conditions ++ ps.conditions }

-- terms with one more after them
abbrev pub with_reduct : Reducts → Reduct → Reducts
with_reduct ps p = record { terms = ps.terms ++ p.term ∷ []; variables = ps.variables ++ p.variables; conditions = ps.conditions ++ p.conditions }

-- there are numbers for these variables at which these conditions hold and the formula is true
abbrev pub quantified : ℕ → Expr → List Expr → List Expr → Expr
quantified at t xs cs = use_of at (codes "exists") (list at (exprs xs) ∷ use_of at (codes "and") (cs ++ t ∷ []) ∷ [])

-- the same, where there is a variable; else the formula itself
abbrev pub closing : ℕ → Expr → List Expr → List Expr → Expr
closing at t [] cs = t
closing at t (x ∷ xs) cs = quantified at t (x ∷ xs) cs

abbrev pub closed : ℕ → Reduct → Expr
closed at p = closing at p.term p.variables p.conditions

-- the quotient of a term by a divisor with this greatest remainder
abbrev pub divided : ℕ → Reduct → Expr → ℤ → Reduct
divided at p n r = record { term = quotient at n; variables = p.variables ++ variable at n ∷ []; conditions = p.conditions ++ condition at p.term n r ∷ [] }

abbrev pub divided_by : ℕ → Reduct → Expr → Option ℤ → Option Reduct
divided_by at p n None = None
divided_by at p n (Some r) = Some (divided at p n r)

abbrev pub divided_on : ℕ → Exprs → (Reduct → Option Reduct) → Option Reduct → Option Reduct
divided_on at ns go None = None
divided_on at ns go (Some p) = go p

-- the quotient by one divisor after another, where each is one
abbrev pub divided_all : ℕ → Exprs → Reduct → Option Reduct
divided_all at no_expr p = Some p
divided_all at (and_expr n ns) p = divided_on at ns (divided_all at ns) (divided_by at p n (greatest_remainder n))

-- the same, where there is a divisor
abbrev pub divided_some : ℕ → Exprs → Reduct → Option Reduct
divided_some at no_expr p = None
divided_some at (and_expr n ns) p = divided_all at (and_expr n ns) p

-- `(- t (* n q))`, where q is the quotient of t by n
abbrev pub remainder : ℕ → Reduct → Expr → ℤ → Reduct
remainder at p n r = record {
  term = use_of at (codes "-") (p.term ∷ multiple at n ∷ []);
  variables = p.variables ++ variable at n ∷ [];
  conditions = p.conditions ++ condition at p.term n r ∷ [];
}

abbrev pub remainder_by : ℕ → Reduct → Reduct → Expr → Option ℤ → Reduct
remainder_by at e p n None = e
remainder_by at e p n (Some r) = remainder at p n r

-- `(= t (* n q))` for some q
abbrev pub divisible : ℕ → Reduct → Expr → Reduct
divisible at p n = whole (closing at (use_of at (codes "=") (p.term ∷ multiple at n ∷ [])) (p.variables ++ variable at n ∷ []) p.conditions)

abbrev pub divisible_by : ℕ → Reduct → Reduct → Option Expr → Reduct
divisible_by at e p None = e
divisible_by at e p (Some n) = divisible at p n

-- a list of this head and of these terms
abbrev pub used : ℕ → Expr → Reducts → Reduct
used at h ps = record { term = list at (and_expr h (exprs ps.terms)); variables = ps.variables; conditions = ps.conditions }

abbrev pub in_let : ℕ → Expr → ℕ → List Expr → Expr → Expr
in_let at h b bs t = list at (exprs (h ∷ list b (exprs bs) ∷ t ∷ []))

-- A `let`. What its body's quotients are is said in the same `let`, since it may speak of the names that are bound there.
abbrev pub let_around : ℕ → Expr → ℕ → Reducts → Reduct → Reduct
let_around at h b bs p = record {
  term = in_let at h b bs.terms p.term;
  variables = bs.variables ++ p.variables;
  conditions = bs.conditions ++ map (in_let at h b bs.terms) p.conditions;
}

-- the binding of a symbol to a term
abbrev pub bound : ℕ → Expr → Reduct → Reduct
bound b x p = record { term = list b (exprs (x ∷ p.term ∷ [])); variables = p.variables; conditions = p.conditions }

abbrev pub noted : ℕ → Expr → Exprs → Reduct → Reduct
noted at h attributes p = record { term = list at (and_expr h (and_expr p.term attributes)); variables = p.variables; conditions = p.conditions }

unfoldable mutual
  -- the term without division that an expression is as a term; what is no such term is left
  pub reduct : Expr → Reduct
  reduct (atom a) = whole (atom a)
  reduct (list at no_expr) = whole (list at no_expr)
  reduct (list at (and_expr h es)) = elim (form_of h) [
    | form.Let ↦ let_reduct at h es
    | form.Quantifier ↦ quantified_reduct at h es
    | form.Note ↦ note_reduct at h es
    | form.Other ↦ whole (list at (and_expr h es))
    | form.Indexed ↦ indexed_reduct at h es
    | form.Quotient ↦ quotient_reduct at h es
    | form.Remainder ↦ remainder_reduct at h es
    | form.Relation ↦ whole (closed at (used at h (reducts es)))
    | form.Connective ↦ whole (list at (and_expr h (exprs (closed_all es))))
    | form.Choice ↦ choice_reduct at h es
    | form.Use ↦ used at h (reducts es)
  ]

  -- those that expressions are
  pub reducts : Exprs → Reducts
  reducts no_expr = nothing
  reducts (and_expr e es) = together (reduct e) (reducts es)

  -- the formulas without division that expressions are
  pub closed_all : Exprs → List Expr
  closed_all no_expr = []
  closed_all (and_expr e es) = closed (place_of e) (reduct e) ∷ closed_all es

  -- `let` with these after it
  pub let_reduct : ℕ → Expr → Exprs → Reduct
  let_reduct at h (and_expr (list b bs) (and_expr t no_expr)) =
      if bind_operators bs then whole (list at (and_expr h (and_expr (list b bs) (and_expr t no_expr)))) else let_around at h b (bound_reducts bs) (reduct t)
  let_reduct at h es = whole (list at (and_expr h es))

  pub bound_reducts : Exprs → Reducts
  bound_reducts no_expr = nothing
  bound_reducts (and_expr e es) = together (bound_reduct e) (bound_reducts es)

  pub bound_reduct : Expr → Reduct
  bound_reduct (list b (and_expr x (and_expr t no_expr))) = bound b x (reduct t)
  bound_reduct e = whole e

  -- a quantifier with these after it
  pub quantified_reduct : ℕ → Expr → Exprs → Reduct
  quantified_reduct at h (and_expr (list b xs) (and_expr t no_expr)) =
      if bind_operators xs then whole (list at (and_expr h (and_expr (list b xs) (and_expr t no_expr))))
      else whole (list at (and_expr h (and_expr (list b xs) (and_expr (closed (place_of t) (reduct t)) no_expr))))
  quantified_reduct at h es = whole (list at (and_expr h es))

  -- `!` with these after it
  pub note_reduct : ℕ → Expr → Exprs → Reduct
  note_reduct at h no_expr = whole (list at (and_expr h no_expr))
  note_reduct at h (and_expr t attributes) = noted at h attributes (reduct t)

  -- `div` with these after it
  pub quotient_reduct : ℕ → Expr → Exprs → Reduct
  quotient_reduct at h no_expr = whole (list at (and_expr h no_expr))
  quotient_reduct at h (and_expr t ns) = unwrap_or (divided_some at ns (reduct t)) (whole (list at (and_expr h (and_expr t ns))))

  -- `mod` with these after it
  pub remainder_reduct : ℕ → Expr → Exprs → Reduct
  remainder_reduct at h (and_expr t (and_expr n no_expr)) =
      remainder_by at (whole (list at (and_expr h (and_expr t (and_expr n no_expr))))) (reduct t) n (greatest_remainder n)
  remainder_reduct at h es = whole (list at (and_expr h es))

  -- a list, perhaps `(_ divisible n)`, with these after it
  pub indexed_reduct : ℕ → Expr → Exprs → Reduct
  indexed_reduct at h (and_expr t no_expr) = divisible_by at (whole (list at (and_expr h (and_expr t no_expr)))) (reduct t) (index_of h)
  indexed_reduct at h es = whole (list at (and_expr h es))

  -- `ite` with these after it
  pub choice_reduct : ℕ → Expr → Exprs → Reduct
  choice_reduct at h no_expr = whole (list at (and_expr h no_expr))
  choice_reduct at h (and_expr c es) = used at h (together (whole (closed (place_of c) (reduct c))) (reducts es))
