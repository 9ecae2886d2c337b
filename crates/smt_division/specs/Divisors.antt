-- The numerals by which a script may divide.
use Rattle.std.specs.Prelude.{ℕ, ◌-◌, ◌==◌, ◌&&◌, Bool, true, false, List, [], ◌∷◌, ℤ, pos, neg_ℤ, ◌+ℤ◌, ◌-ℤ◌, ◌*ℤ◌, unsigned_abs, codes, Option, Some, None, option_and_then, nat_eq, nat_lt, if◌then◌else◌}
use Rattle.base_texts.specs.Texts.{is_text}
use Rattle.linear_term.specs.Range.{is_in_range}
use Rattle.smt_lists.specs.declared.tree.AtomKind.{AtomKind}
use Rattle.smt_lists.specs.declared.tree.AtomKind.TheVariants as k
use Rattle.smt_lists.specs.Expressions.{Expr, Exprs, atom, list, no_expr, and_expr}
use Rattle.smt_division.specs.declared.divisors.Sign.{Sign}
use Rattle.smt_division.specs.declared.divisors.Sign.TheVariants as sign

abbrev pub text_in : AtomKind → Option (List ℕ)
text_in (k.Symbol text) = Some text
text_in _ = None

-- the text of the symbol that an expression is
abbrev pub text_of : Expr → Option (List ℕ)
text_of (atom a) = text_in a.kind
text_of (list at es) = None

abbrev pub sign_named : List ℕ → Option Sign
sign_named x = if is_text x (codes "+") then Some sign.Plus else (if is_text x (codes "-") then Some sign.Minus else (if is_text x (codes "*") then Some sign.Times else None))

-- the sign that an expression is
abbrev pub sign_of : Expr → Option Sign
sign_of e = option_and_then sign_named (text_of e)

-- the number, where it is in the range of coefficients
abbrev pub within : ℤ → Option ℤ
within v = if is_in_range v then Some v else None

abbrev pub applied : Sign → ℤ → ℤ → ℤ
applied sign.Plus v w = v +ℤ w
applied sign.Minus v w = v -ℤ w
applied sign.Times v w = v *ℤ w

-- the value of a sign at more numbers after one, where each step stays in the range
abbrev pub total : Sign → ℤ → List ℤ → Option ℤ
total s v [] = Some v
total s v (w ∷ ws) = option_and_then (λ z. total s z ws) (within (applied s v w))

-- the value of a sign at numbers: one at least
abbrev pub combined : Sign → List ℤ → Option ℤ
combined s [] = None
combined sign.Minus (v ∷ []) = within (pos 0 -ℤ v)
combined s (v ∷ vs) = total s v vs

abbrev pub before : Option ℤ → Option (List ℤ) → Option (List ℤ)
before None vs = None
before (Some v) None = None
before (Some v) (Some vs) = Some (v ∷ vs)

abbrev pub numeral_in : AtomKind → Option ℤ
numeral_in (k.Numeral n) = within n
numeral_in _ = None

abbrev mutual
  -- the value of an expression built of numerals by `+`, `-` and `*`, as it is written
  pub folded : Expr → Option ℤ
  folded (atom a) = numeral_in a.kind
  folded (list at no_expr) = None
  folded (list at (and_expr h es)) = option_and_then (λ s. option_and_then (combined s) (values es)) (sign_of h)

  -- the values of expressions, where all have one
  pub values : Exprs → Option (List ℤ)
  values no_expr = Some []
  values (and_expr e es) = before (folded e) (values es)

-- |v| - 1, where v is not 0 and in the range
abbrev pub below : ℤ → Option ℤ
below v = if nat_eq (unsigned_abs v) 0 then None else (if is_in_range v then Some (pos (unsigned_abs v - 1)) else None)

-- the greatest remainder by a divisor n, |n| - 1, where the divisor is built of numerals, in the range and not 0
abbrev pub greatest_remainder : Expr → Option ℤ
greatest_remainder n = option_and_then below (folded n)
