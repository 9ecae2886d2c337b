-- The term that an S-expression is (SMT-LIB 2.6, section 3.6). What is no term of the supported language is ill-formed at its
-- first token; nothing inside it is looked at.
use Rattle.std.specs.Prelude.{ℕ, Bool, true, false, ◌&&◌, not, List, [], ◌∷◌, ◌++◌, map, codes, Option, Some, None, if◌then◌else◌}
use Rattle.base_texts.specs.Texts.{is_text, is_among}
use Rattle.smt_lists.specs.declared.tree.AtomKind.{AtomKind}
use Rattle.smt_lists.specs.declared.tree.AtomKind.TheVariants as k
use Rattle.smt_lists.specs.Expressions.{Expr, Exprs, atom, list, no_expr, and_expr, place_of}
use Rattle.smt_commands.specs.Commands.{Symbol, is_keyword, items, symbol_of}
use Rattle.smt_commands.specs.Symbols.{sort_of}
use Rattle.smt_terms.specs.declared.operator.Sort.{Sort}
use Rattle.smt_terms.specs.declared.operator.Sort.TheVariants as sort
use Rattle.smt_terms.specs.declared.term.Name.{Name}
use Rattle.smt_terms.specs.declared.term.Variable.{Variable}
use Rattle.smt_terms.specs.Term.{PlacedTerm, PlacedTerms, BoundTerm, bindings, number, large, used, let_in, quantified, annotated, ill, no_phrase, and_phrase}
use Rattle.smt_typing.specs.declared.forms.Head.{Head}
use Rattle.smt_typing.specs.declared.forms.Head.TheVariants as head

-- what a symbol at the head of a list begins: a `let`, a quantifier, a `!`, another form that has no term here, or a use of the symbol
abbrev pub head_named : List ℕ → Head
head_named x =
    if is_text x (codes "let") then head.Let else
    (if is_text x (codes "forall") then head.Forall else
    (if is_text x (codes "exists") then head.Exists else
    (if is_text x (codes "!") then head.Note else
    (if is_among x (codes "_" ∷ codes "as" ∷ codes "match" ∷ []) then head.Other else
    head.Use))))

-- a list that begins with no symbol has no term
abbrev pub head_by : Option Symbol → Head
head_by None = head.Other
head_by (Some x) = head_named x.text

abbrev pub head_of : Expr → Head
head_of e = head_by (symbol_of e)

abbrev pub name_is : Symbol → Name
name_is x = record { at = x.at; text = x.text }

-- a symbol at its arguments
abbrev pub use_of : ℕ → Option Symbol → PlacedTerms → PlacedTerm
use_of at None ts = ill at
use_of at (Some x) ts = used at (name_is x) ts

-- the term that an atom is
abbrev pub atom_phrase : ℕ → AtomKind → PlacedTerm
atom_phrase at (k.Numeral n) = number at n
atom_phrase at k.LargeNumeral = large at
atom_phrase at (k.Symbol x) = used at (record { at = at; text = x }) no_phrase
atom_phrase at _ = ill at

-- none of the texts is one of those before, and they are different
abbrev pub are_new : List (List ℕ) → List (List ℕ) → Bool
are_new before [] = true
are_new before (x ∷ xs) = not (is_among x before) && are_new (before ++ x ∷ []) xs

-- bindings that a `let` may have: at least one, of different symbols
abbrev pub are_proper : List BoundTerm → Bool
are_proper [] = false
are_proper (b ∷ bs) = are_new [] (map (λ c. c.text) (b ∷ bs))

-- a `let` of these bindings
abbrev pub let_phrase : ℕ → Option (List BoundTerm) → PlacedTerm → PlacedTerm
let_phrase at None t = ill at
let_phrase at (Some bs) t = if are_proper bs then let_in at (bindings bs) t else ill at

abbrev pub bound_by : Option Symbol → PlacedTerm → Option BoundTerm
bound_by None t = None
bound_by (Some x) t = Some (record { text = x.text; term = t })

-- one before others, where there are both
abbrev pub before : {A : Type 0} → Option A → Option (List A) → Option (List A)
before None xs = None
before (Some x) None = None
before (Some x) (Some xs) = Some (x ∷ xs)

-- the offset of what stands for the sort of a variable, where that is not Int
abbrev pub ill_by : Option Sort → ℕ → Option ℕ
ill_by (Some sort.Int) at = None
ill_by _ at = Some at

abbrev pub variable_by : Option Symbol → Expr → Option Variable
variable_by None s = None
variable_by (Some x) s = Some (record { text = x.text; ill = ill_by (sort_of s) (place_of s) })

-- the variable that a list of a symbol and of what stands for its sort is
abbrev pub variable_of : Expr → Option Variable
variable_of (list at (and_expr x (and_expr s no_expr))) = variable_by (symbol_of x) s
variable_of _ = None

-- the variables of a list, if all are some
abbrev pub variables_of : List Expr → Option (List Variable)
variables_of [] = Some []
variables_of (e ∷ es) = before (variable_of e) (variables_of es)

-- a quantifier with these variables: at least one
abbrev pub quantified_phrase : ℕ → Bool → Option (List Variable) → PlacedTerm → PlacedTerm
quantified_phrase at all (Some (x ∷ xs)) t = quantified at all (x ∷ xs) t
quantified_phrase at all _ t = ill at

-- keywords, each followed by at most one S-expression that is no keyword; one may stand first where `value` says so
abbrev pub are_attributes_behind : Bool → List Expr → Bool
are_attributes_behind value [] = true
are_attributes_behind value (e ∷ es) = if is_keyword e then are_attributes_behind true es else value && are_attributes_behind false es

-- attributes: at least one
abbrev pub are_attributes : List Expr → Bool
are_attributes [] = false
are_attributes (e ∷ es) = are_attributes_behind false (e ∷ es)

abbrev mutual
  -- the term that an S-expression is
  pub phrase_of : Expr → PlacedTerm
  phrase_of (atom a) = atom_phrase a.at a.kind
  phrase_of (list at no_expr) = ill at
  phrase_of (list at (and_expr h es)) = elim (head_of h) [
    | head.Let ↦ let_of at es
    | head.Forall ↦ quantified_of at true es
    | head.Exists ↦ quantified_of at false es
    | head.Note ↦ note_of at es
    | head.Other ↦ ill at
    | head.Use ↦ use_of at (symbol_of h) (phrases_in es)
  ]

  -- the terms that S-expressions are
  pub phrases_in : Exprs → PlacedTerms
  phrases_in no_expr = no_phrase
  phrases_in (and_expr e es) = and_phrase (phrase_of e) (phrases_in es)

  -- a `let` whose word these follow
  pub let_of : ℕ → Exprs → PlacedTerm
  let_of at (and_expr (list _ bs) (and_expr t no_expr)) = let_phrase at (bindings_in bs) (phrase_of t)
  let_of at _ = ill at

  -- the bindings that S-expressions are, if all are some
  pub bindings_in : Exprs → Option (List BoundTerm)
  bindings_in no_expr = Some []
  bindings_in (and_expr b bs) = before (bound_read b) (bindings_in bs)

  -- the binding that a list of a symbol and a term is
  pub bound_read : Expr → Option BoundTerm
  bound_read (list _ (and_expr x (and_expr t no_expr))) = bound_by (symbol_of x) (phrase_of t)
  bound_read _ = None

  -- a quantifier whose word these follow
  pub quantified_of : ℕ → Bool → Exprs → PlacedTerm
  quantified_of at all (and_expr (list _ xs) (and_expr t no_expr)) = quantified_phrase at all (variables_of (items xs)) (phrase_of t)
  quantified_of at all _ = ill at

  -- a `!` that these follow
  pub note_of : ℕ → Exprs → PlacedTerm
  note_of at (and_expr t attributes) = if are_attributes (items attributes) then annotated at (phrase_of t) else ill at
  note_of at no_expr = ill at
