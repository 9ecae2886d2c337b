-- The forms of terms that are told by the head of a list, as far as the division inside them is concerned.
use Rattle.std.specs.Prelude.{ℕ, ◌&&◌, ◌||◌, Bool, true, false, List, [], ◌∷◌, ℤ, pos, int_lt, codes, Option, Some, None, if◌then◌else◌}
use Rattle.base_texts.specs.Texts.{is_text, is_among}
use Rattle.smt_lists.specs.declared.tree.AtomKind.{AtomKind}
use Rattle.smt_lists.specs.declared.tree.AtomKind.TheVariants as k
use Rattle.smt_lists.specs.Expressions.{Expr, Exprs, atom, list, no_expr, and_expr}
use Rattle.smt_division.specs.declared.forms.Form.{Form}
use Rattle.smt_division.specs.declared.forms.Form.TheVariants as form
use Rattle.smt_division.specs.Divisors.{text_of}

-- the relations of terms that may be integers
abbrev pub is_relation : List ℕ → Bool
is_relation x = is_among x (codes "=" ∷ codes "distinct" ∷ codes "<" ∷ codes "<=" ∷ codes ">" ∷ codes ">=" ∷ [])

-- the connectives of formulas
abbrev pub is_connective : List ℕ → Bool
is_connective x = is_among x (codes "and" ∷ codes "or" ∷ codes "not" ∷ codes "xor" ∷ codes "=>" ∷ [])

-- what a symbol at the head of a list begins
abbrev pub form_named : List ℕ → Form
form_named x =
    if is_text x (codes "let") then form.Let else
    (if is_among x (codes "forall" ∷ codes "exists" ∷ []) then form.Quantifier else
    (if is_text x (codes "!") then form.Note else
    (if is_among x (codes "_" ∷ codes "as" ∷ codes "match" ∷ []) then form.Other else
    (if is_text x (codes "div") then form.Quotient else
    (if is_text x (codes "mod") then form.Remainder else
    (if is_relation x then form.Relation else
    (if is_connective x then form.Connective else
    (if is_text x (codes "ite") then form.Choice else
    form.Use))))))))

abbrev pub form_in : AtomKind → Form
form_in (k.Symbol text) = form_named text
form_in _ = form.Other

-- what the head of a list begins
abbrev pub form_of : Expr → Form
form_of (atom a) = form_in a.kind
form_of (list at es) = form.Indexed

-- the symbols that stand in what is made, and those that are taken away
abbrev pub is_operator : List ℕ → Bool
is_operator x = is_among x (codes "div" ∷ codes "mod" ∷ codes "and" ∷ codes "<=" ∷ codes "*" ∷ codes "+" ∷ codes "-" ∷ codes "=" ∷ [])

abbrev pub is_operator_by : Option (List ℕ) → Bool
is_operator_by None = false
is_operator_by (Some x) = is_operator x

-- a list that begins with such a symbol
abbrev pub binds_operator : Expr → Bool
binds_operator (list at (and_expr x es)) = is_operator_by (text_of x)
binds_operator _ = false

-- bindings or variables one of which is such a symbol
abbrev pub bind_operators : Exprs → Bool
bind_operators no_expr = false
bind_operators (and_expr e es) = binds_operator e || bind_operators es

abbrev pub is_word_by : List ℕ → Option (List ℕ) → Bool
is_word_by x None = false
is_word_by x (Some y) = is_text y x

-- the expression is this symbol
abbrev pub is_word : List ℕ → Expr → Bool
is_word x e = is_word_by x (text_of e)

abbrev pub positive_in : AtomKind → Bool
positive_in (k.Numeral n) = int_lt (pos 0) n
positive_in _ = false

-- a numeral of at least 1
abbrev pub is_positive : Expr → Bool
is_positive (atom a) = positive_in a.kind
is_positive (list at es) = false

abbrev pub index_in : Exprs → Option Expr
index_in (and_expr u (and_expr d (and_expr n no_expr))) = if is_word (codes "_") u && is_word (codes "divisible") d && is_positive n then Some n else None
index_in _ = None

-- the n of `(_ divisible n)`
abbrev pub index_of : Expr → Option Expr
index_of (atom a) = None
index_of (list at es) = index_in es

-- the two expressions, where there are two
abbrev pub pair_of : Exprs → Option (Expr × Expr)
pair_of (and_expr x (and_expr y no_expr)) = Some (x, y)
pair_of _ = None

-- the expression, where there is one
abbrev pub single_of : Exprs → Option Expr
single_of (and_expr x no_expr) = Some x
single_of _ = None

-- the offset and the members of a list, and an expression after it, where there are these two, and no member is the binding of an
-- operator
abbrev pub binder_of : Exprs → Option (ℕ × Exprs × Expr)
binder_of (and_expr (list b bs) (and_expr t no_expr)) = if bind_operators bs then None else Some (b, bs, t)
binder_of _ = None
